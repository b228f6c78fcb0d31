-- transcripts judged by hand
use Rattle.std.specs.Prelude.{◌≡◌, ◌∷◌, ◌++◌, if◌then◌else◌, ◌≢◌}
use Rattle.transcript_law.proofs.Words.{ℕ, false, None, List, [], length, map, refl, ap, sym, ◌∙◌, arith, Option, Some, nat_list_cmp_total, key_cmp, Change, Pend, Doc, Event}
use Rattle.transcript_law.proofs.Words.{Picture, image_of, is_older, document_line, prepare_line, image_lines, empty_chronicle, after_lines, LawfulChange, LawfulLine, LawfulFrom, Lawful, active_vb_lines}
use Rattle.transcript_law.proofs.Words.{first_doc, one_change, change_line, value_lines, one_set, both_on_one, forked_at, Role, one_set_groups, two_vbs, two_vbs_groups, dead_and_show, sets_groups, show_alone}
use Rattle.transcript_law.proofs.Words.{set_dead_and_show, set_one, shown_active, shown_after_change, shown_dead, last_seq, Chronicle, IsIfKnown, shown_lines, LawfulShow, LawfulShown, SharesWith, ShownLine, nothing, subst}
use Rattle.transcript_law.proofs.Words.{Group, ScriptLine, after_active, after_dead, due_image, inside_dead, option_map}
use Rattle.transcript_law.specs.Lawfulness.{newest_shown}
use Rattle.transcript_law.specs.{Contrary.{after_dead_changed, branch_inside, branch_left, logged_six}, Rollbacks.{empty_uuid}, Transcripts.{shown_with_change}}
use Rattle.transcript_law.{proofs.rows.{Groups.{both, both_stored, Never}, StoredRows.{made_stored}, NextRows.{first_next}, Sets.{first_told, heard_then, seven_then}, Silent.{AreHeard, Silent, silent_heard, silent_start}}, specs.{Chronicles.{ArmKnown, ClientsKnown, Conns, DiskKnown}, LinesTold.{roles_from}, Prefixes.{known_after}}}
use Rattle.std.specs.FinMap as finite
use Rattle.transcript_law.specs.LinesTold.{LastLine}
use Rattle.transcript_law.proofs.lines.Rises.{made_here}

none_of : {X : Type 0} (xs : List X) → length xs ≡ 0 → xs ≡ []
none_of [] e = refl
none_of (x ∷ xs) e = absurd (omega arith)

-- an empty map has no entries
pub no_entries : (X : Type 0) → finite.entries (finite.empty {X = X} {R = key_cmp}) ≡ []
no_entries X = none_of (finite.entries finite.empty) (sym (finite.len-entries finite.empty) ∙ finite.len-empty key_cmp X)

-- the image of the one change
abbrev pub image : Picture
image = image_of (one_change ∷ [])

pub docs : finite.entries image.docs ≡ (7 ∷ [], first_doc 1 (8 ∷ [])) ∷ []
docs = finite.entries-insert nat_list_cmp_total finite.empty (7 ∷ []) (first_doc 1 (8 ∷ [])) ∙ ap (λ es. finite.put key_cmp (7 ∷ []) (first_doc 1 (8 ∷ [])) es) (no_entries Doc)

pub pending : finite.entries image.pending ≡ []
pending = ap (λ o. finite.entries {R = key_cmp} (if is_older 1 o then finite.remove finite.empty (7 ∷ []) else finite.empty)) (finite.get-empty key_cmp (7 ∷ [])) ∙ no_entries Pend

pub lines : image_lines image ≡ value_lines (8 ∷ [])
lines = ap (λ ds. map document_line ds ++ map prepare_line (finite.entries image.pending)) docs ∙ ap (λ ps. value_lines (8 ∷ []) ++ map prepare_line ps) pending

pub image_before : image_lines (image_of []) ≡ []
image_before = ap (λ ds. map document_line ds ++ map prepare_line (finite.entries (image_of []).pending)) (no_entries Doc) ∙ ap (map prepare_line) (no_entries Pend)

-- an image has these lines, for so many documents and prepares
abbrev pub Leaves : Picture → List Event → ℕ → ℕ → Type 0
Leaves left lines docs preps = (lines ≡ shown_lines left) × (docs ≡ length (finite.entries left.docs)) × (preps ≡ length (finite.entries left.pending))

pub as_set : Leaves image (value_lines (8 ∷ [])) 1 0
as_set = (sym lines, sym (ap length docs), sym (ap length pending))

pub as_made : Leaves nothing [] 0 0
as_made = (sym image_before, sym (ap length (no_entries Doc)), sym (ap length (no_entries Pend)))

-- a vBucket is shown in its role, where it is, in its snapshot, and with what its changes leave, which is what its branch has
pub shown : (r : Chronicle) (said : ShownLine) (behind : List Event) → IsIfKnown (r.role_at said.node said.vb) (Some said.role) → IsIfKnown (option_map newest_shown (r.log_at said.node said.vb)) said.uuid → said.at ≡ last_seq 0 (r.held said.node said.vb)
    → IsIfKnown (r.snap_at said.node said.vb) (said.ss, said.se) → (left : Picture) → left ≡ image_of (r.held said.node said.vb) → left ≡ due_image r said → Leaves left behind said.docs said.preps
    → (said.uuid ≢ 0 → SharesWith r.tree said.uuid (r.branch_at said.node said.vb) said.at) → (said.role ≡ Role.Active → r.branch_at said.node said.vb ≡ Some said.uuid) → LawfulShown r said behind
shown r said behind role newest at snapshot left held due leaves shared active =
    let of_held = subst (λ i. Leaves i behind said.docs said.preps) held leaves in
    let points_of_branch = subst (λ i. Leaves i behind said.docs said.preps) due leaves in
    let show : LawfulShow r said behind = record { lines = points_of_branch.0; docs_shown = points_of_branch.1; preps_shown = points_of_branch.2; shared = shared; active = active } in
    record { role = role; newest = newest; at = at; snapshot = snapshot; left = of_held.0; docs_left = of_held.1; preps_left = of_held.2; complete = λ _. show }

-- transcripts of one set, whatever was written down and is to befall nodes, whichever connections are open, and whatever is known of them
pub first_change : (l : Option LastLine) (d : ℕ → ℕ → DiskKnown) (a : ℕ → ArmKnown) (k : Conns) (q : ClientsKnown) → LawfulChange (record (after_lines empty_chronicle (active_vb_lines 0 5)) { last = l; disk_at = d; arm_at = a; conn_at = k; clients_at = q }) 0 0 5 one_change
first_change l d a k q = record { active = refl; writer = record { made_or_took = refl; on_branch = refl }; above_branch = omega arith; above_forks = (λ e. omega arith, tt); made = first_next; fulfils = λ prepared doc deleted e. cc; backed = λ prepared doc deleted e. cc; asked = λ level doc deleted e. cc; aborts = λ prepared e. cc }

pub right : Lawful one_set (one_set_groups 1 0 (value_lines (8 ∷ [])))
right = both_stored empty_chronicle one_set (one_set_groups 1 0 (value_lines (8 ∷ []))) refl
    (tt, (tt, ((record { new = tt; newest = refl; last = refl; leaves = refl }, (record { another = λ e. cc; anew = λ e. made_here _ _ _ 5 refl refl refl; pending = λ e. cc }, tt)), ((first_change _ _ _ _ _, ((refl, λ z. first_told _ _ _ refl refl refl), tt)), ((shown _ _ _ refl refl refl refl image refl refl as_set (λ _. refl) (λ _. refl), (tt, tt)), tt)))))
    (tt, (refl, ((refl, tt), (refl, (tt, tt))))) (refl, (refl, (refl, (refl, (refl, tt)))))
    (heard_then _ _ _ _ _ refl silent_start (λ s. heard_then _ _ _ _ _ refl s (λ s. heard_then _ _ _ _ _ refl s (λ s. seven_then _ 4 4 5 _ one_change _ _ refl refl s (λ s e. silent_heard _ _ _ s refl))))) (tt, (tt, (tt, (made_stored 5 1 one_change refl, (tt, tt))))) (Never (λ l. refl))

-- what the last line of a lawful transcript of this kind has behind it, and how many documents and prepares it tells of
shown_is : (count preps : ℕ) (behind : List Event) → Lawful one_set (one_set_groups count preps behind) → (behind ≡ value_lines (8 ∷ [])) × (count ≡ 1) × (preps ≡ 0)
shown_is count preps behind l = let s = l.1.1.1.1.0.0.0.complete refl in (s.lines ∙ lines, s.docs_shown ∙ ap length docs, s.preps_shown ∙ ap length pending)

pub value : Lawful one_set (one_set_groups 1 0 (value_lines (9 ∷ []))) → ⊥
value l =
    let e = (shown_is 1 0 (value_lines (9 ∷ [])) l).0 in
    let d : first_doc 1 (9 ∷ []) ≡ first_doc 1 (8 ∷ []) = cc in
    let v : ◌≡◌ {A = List ℕ} (9 ∷ []) (8 ∷ []) = ap (λ (doc : Doc). doc.value) d in
    cc

pub missing : Lawful one_set (one_set_groups 1 0 []) → ⊥
missing l = let e = (shown_is 1 0 [] l).0 in cc

pub more : Lawful one_set (one_set_groups 2 0 (value_lines (8 ∷ []))) → ⊥
more l = let e = (shown_is 2 0 (value_lines (8 ∷ [])) l).1 in omega arith

pub prepares : Lawful one_set (one_set_groups 1 1 (value_lines (8 ∷ []))) → ⊥
prepares l = let e = (shown_is 1 1 (value_lines (8 ∷ [])) l).2 in omega arith

-- transcripts in which two vBuckets are made
pub branch : Lawful (two_vbs 5 []) (two_vbs_groups 5 []) → ⊥
branch l = l.1.1.1.0.0.0.new.0 refl

pub seqno : Lawful (two_vbs 6 set_one) (two_vbs_groups 6 (sets_groups (change_line 0 ∷ change_line 0 ∷ []))) → ⊥
seqno l = let e = l.1.1.1.1.0.0.1.0.above_branch in omega arith

second_new : (l : Option LastLine) (d : ℕ → ℕ → DiskKnown) (a : ℕ → ArmKnown) (k : Conns) (q : ClientsKnown) → (a 0).down ≡ false → LawfulFrom (record (after_lines empty_chronicle (active_vb_lines 0 5)) { last = l; disk_at = d; arm_at = a; conn_at = k; clients_at = q }) (active_vb_lines 1 6)
second_new l d a k q up = (
  record { new = (λ e. omega arith, tt); newest = refl; last = refl; leaves = refl },
  (record { another = λ e. let z : ◌≡◌ {A = Option (Option Role)} (Some None) (Some (Some Role.Active)) = sym (ap (λ b. roles_from b (after_lines empty_chronicle (active_vb_lines 0 5)).role_at 0 1 0 1) up) ∙ e in cc; anew = λ e. made_here _ _ _ 6 refl refl refl; pending = λ e. cc }, tt),
)

change_of_two : (l : Option LastLine) (d : ℕ → ℕ → DiskKnown) (a : ℕ → ArmKnown) (k : Conns) (q : ClientsKnown) → LawfulChange (record (after_lines empty_chronicle (active_vb_lines 0 5 ++ active_vb_lines 1 6)) { last = l; disk_at = d; arm_at = a; conn_at = k; clients_at = q }) 0 0 5 one_change
change_of_two l d a k q = record { active = refl; writer = record { made_or_took = refl; on_branch = refl }; above_branch = omega arith; above_forks = (λ e. omega arith, (λ e. omega arith, tt)); made = first_next; fulfils = λ prepared doc deleted e. cc; backed = λ prepared doc deleted e. cc; asked = λ level doc deleted e. cc; aborts = λ prepared e. cc }

pub two_writers : ◌≡◌ {A = Option (ℕ × ℕ)} (Some (0, 0)) (Some (0, 1)) → ⊥
two_writers e =
    let pair : ◌≡◌ {A = ℕ × ℕ} (0, 0) (0, 1) = cc in
    let vb : ◌≡◌ {A = ℕ} 0 1 = ap (λ (p : ℕ × ℕ). p.1) pair in
    omega arith

-- behind those that make them no client is left without an answer, if none is from there on
from_two : (more : List ScriptLine) (groups : List Group) → (let read : Chronicle = known_after empty_chronicle (two_vbs 6 []) (two_vbs_groups 6 []) in (Silent read.clients_at → AreHeard read more groups) → AreHeard empty_chronicle (two_vbs 6 more) (two_vbs_groups 6 groups))
from_two more groups heard = heard_then _ _ _ _ _ refl silent_start (λ s. heard_then _ _ _ _ _ refl s (λ s. heard_then _ _ _ _ _ refl s (λ s. heard_then _ _ _ _ _ refl s heard)))

pub own : Lawful (two_vbs 6 set_one) (two_vbs_groups 6 (sets_groups (change_line 0 ∷ [])))
own = both_stored empty_chronicle (two_vbs 6 set_one) (two_vbs_groups 6 (sets_groups (change_line 0 ∷ []))) refl (tt, (tt, ((record { new = tt; newest = refl; last = refl; leaves = refl }, (record { another = λ e. cc; anew = λ e. made_here _ _ _ 5 refl refl refl; pending = λ e. cc }, tt)), (second_new _ _ _ _ _ refl, ((change_of_two _ _ _ _ _, ((refl, λ z. first_told _ _ _ refl refl refl), tt)), tt))))) (tt, (refl, ((refl, tt), ((refl, tt), (refl, tt))))) (refl, (refl, (refl, (refl, (refl, tt))))) (from_two _ _ (λ s. seven_then _ 5 5 5 _ one_change _ _ refl refl s (λ s e. silent_heard _ _ _ s refl))) (tt, (tt, (tt, (tt, (made_stored 5 1 one_change refl, tt))))) (Never (λ l. refl))

pub writer : Lawful (two_vbs 6 set_one) (two_vbs_groups 6 (sets_groups (change_line 1 ∷ []))) → ⊥
writer l = two_writers l.1.1.1.1.0.0.0.writer.made_or_took

pub maker : LawfulLine both_on_one (change_line 0) []
maker = record { active = refl; writer = record { made_or_took = refl; on_branch = refl }; above_branch = omega arith; above_forks = (λ e. omega arith, (λ e. omega arith, tt)); made = first_next; fulfils = λ prepared doc deleted e. cc; backed = λ prepared doc deleted e. cc; asked = λ level doc deleted e. cc; aborts = λ prepared e. cc }

pub follower : LawfulLine both_on_one (change_line 1) [] → ⊥
follower l = two_writers l.writer.made_or_took

pub above_fork : LawfulLine (forked_at 0) (change_line 0) []
above_fork = record { active = refl; writer = record { made_or_took = refl; on_branch = refl }; above_branch = omega arith; above_forks = (λ e. omega arith, (λ e. omega arith, tt)); made = first_next; fulfils = λ prepared doc deleted e. cc; backed = λ prepared doc deleted e. cc; asked = λ level doc deleted e. cc; aborts = λ prepared e. cc }

pub at_fork : LawfulLine (forked_at 1) (change_line 0) [] → ⊥
at_fork l = let low = l.above_forks.0 refl in omega arith

pub same : Lawful (two_vbs 6 set_dead_and_show) (two_vbs_groups 6 (shown_after_change 5))
same = both_stored empty_chronicle (two_vbs 6 set_dead_and_show) (two_vbs_groups 6 (shown_after_change 5)) refl
    (tt, (tt, ((record { new = tt; newest = refl; last = refl; leaves = refl }, (record { another = λ e. cc; anew = λ e. made_here _ _ _ 5 refl refl refl; pending = λ e. cc }, tt)), (second_new _ _ _ _ _ refl, ((change_of_two _ _ _ _ _, ((refl, λ z. first_told _ _ _ refl refl refl), tt)), ((record { another = λ e. cc; anew = λ e. cc; pending = λ e. cc }, tt), ((shown _ _ _ refl refl refl refl image refl refl as_set (λ _. refl) (λ e. cc), (tt, tt)), tt)))))))
    (tt, (refl, ((refl, tt), ((refl, tt), (refl, ((refl, tt), (tt, tt))))))) (refl, (refl, (refl, (refl, (refl, (refl, (refl, tt)))))))
    (from_two _ _ (λ s. seven_then _ 5 5 5 _ one_change _ _ refl refl s (λ s e. silent_heard _ _ _ s refl))) (tt, (tt, (tt, (tt, (made_stored 5 1 one_change refl, (tt, (tt, tt))))))) (Never (λ l. refl))

pub history : Lawful (two_vbs 6 set_dead_and_show) (two_vbs_groups 6 (shown_after_change 6)) → ⊥
history l = let e : ◌≡◌ {A = List Change} [] (one_change ∷ []) = (l.1.1.1.1.1.1.0.0.0.complete refl).shared (λ z. omega arith) in cc

pub dead : Lawful (two_vbs 6 dead_and_show) (two_vbs_groups 6 (shown_dead 5))
dead = both empty_chronicle (two_vbs 6 dead_and_show) (two_vbs_groups 6 (shown_dead 5)) refl
    (tt, (tt, ((record { new = tt; newest = refl; last = refl; leaves = refl }, (record { another = λ e. cc; anew = λ e. made_here _ _ _ 5 refl refl refl; pending = λ e. cc }, tt)), (second_new _ _ _ _ _ refl, ((record { another = λ e. cc; anew = λ e. cc; pending = λ e. cc }, tt), ((shown _ _ _ refl refl refl refl nothing refl refl as_made (λ _. refl) (λ e. cc), tt), tt))))))
    (tt, (refl, ((refl, tt), ((refl, tt), ((refl, tt), (tt, tt)))))) (refl, (refl, (refl, (refl, (refl, (refl, tt))))))
    (from_two _ _ (λ s. silent_heard _ _ _ s refl)) (Never (λ l. refl))

pub dead_other : Lawful (two_vbs 6 dead_and_show) (two_vbs_groups 6 (shown_dead 6)) → ⊥
dead_other l = let e : ◌≡◌ {A = ℕ} 5 6 = l.1.1.1.1.1.0.0.0.newest in omega arith

-- as their logs name it
pub log_shown : LawfulFrom (logged_six after_dead) (empty_uuid Role.Dead 6)
log_shown = (shown _ _ _ refl refl refl refl nothing refl refl as_made (λ _. refl) (λ e. cc), tt)

pub log_history : LawfulFrom (logged_six after_dead_changed) (shown_with_change Role.Dead 6 1 0 (value_lines (8 ∷ []))) → ⊥
log_history l = let e : ◌≡◌ {A = List Change} [] (one_change ∷ []) = (l.0.complete refl).shared (λ z. omega arith) in cc

pub log_active : LawfulFrom (logged_six after_active) (empty_uuid Role.Active 6) → ⊥
log_active l = let e : ◌≡◌ {A = Option ℕ} (Some 5) (Some 6) = (l.0.complete refl).active refl in cc

-- where a new branch leaves
some_numbers : (m n : ℕ) → Some m ≡ Some n → m ≡ n
some_numbers m n e = cc

pub leaves : LawfulFrom after_dead_changed (branch_left (Some 5) 1 1)
leaves = (record { new = (λ e. omega arith, tt); newest = refl; last = refl; leaves = refl }, tt)

pub other_parent : LawfulFrom after_dead_changed (branch_left (Some 6) 1 1) → ⊥
other_parent l = let e : ◌≡◌ {A = ℕ} 5 6 = some_numbers 5 6 l.0.newest in omega arith

pub parentless : LawfulFrom after_dead_changed (branch_left None 1 1) → ⊥
parentless l = let e : ◌≡◌ {A = Option ℕ} (Some 5) None = l.0.newest in cc

pub other_fork : LawfulFrom after_dead_changed (branch_left (Some 5) 0 1) → ⊥
other_fork l = let e : ◌≡◌ {A = ℕ} 1 0 = l.0.leaves in omega arith

pub other_high : LawfulFrom after_dead_changed (branch_left (Some 5) 1 2) → ⊥
other_high l = let e : ◌≡◌ {A = ℕ} 2 1 = l.0.last in omega arith

pub leaves_inside : LawfulFrom inside_dead (branch_inside 0)
leaves_inside = (record { new = (λ e. omega arith, tt); newest = refl; last = refl; leaves = refl }, tt)

pub not_inside : LawfulFrom inside_dead (branch_inside 1) → ⊥
not_inside l = let e : ◌≡◌ {A = ℕ} 0 1 = l.0.leaves in omega arith

pub active : Lawful (two_vbs 6 show_alone) (two_vbs_groups 6 (shown_active 6)) → ⊥
active l = let e : ◌≡◌ {A = Option ℕ} (Some 5) (Some 6) = (l.1.1.1.1.0.0.0.complete refl).active refl in cc
