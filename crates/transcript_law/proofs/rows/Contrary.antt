-- lines and states that contradict the lines before them, judged by hand
use Rattle.std.specs.Prelude.{◌≡◌, ◌∷◌, ◌++◌}
use Rattle.transcript_law.proofs.Words.{ℕ, false, List, [], length, map, refl, ap, sym, ◌∙◌, ⊎_elim, arith, Change, Option, Some, None, if◌then◌else◌, is_older, nat_list_cmp_total, key_cmp, Pend, Doc, Event, LogEntry, Role, Picture}
use Rattle.transcript_law.proofs.Words.{image_of, front, uuid_of, kept_to, with_entry, option_map, Chronicle, empty_chronicle, after_line, log_of, made_from, after_both, shown_lines, Lawful, LawfulLine, LawfulFrom}
use Rattle.transcript_law.proofs.{Words.{one_change, log_lines, made_log, empty_shown, after_dead, first_doc, change_line}, invariant.Tables.{at_here}, rows.Transcripts.{no_entries}, rows.Rollbacks.{known_role}, rows.Groups.{both_stored, Never}, rows.StoredRows.{made_stored}, rows.NextRows.{first_next, second_next}, rows.Sets.{first_told, heard_then, seven_then}, rows.Silent.{silent_heard, silent_start}, invariant.Waiting.{made_by}}
use Rattle.transcript_law.specs.Contrary.{set_and_sealed, sealed_groups, later_held, next_made, prepare_change, after_prepare, prepare_shown, prepare_lines, after_back, taken_log, refused_ask_lines, after_follow, after_promote, second_held, third_below, third_held}
use Rattle.vb_types.specs.declared.change.Level.TheVariants.{Majority, MajorityPersistActive, PersistMajority}
use Rattle.vb_types.specs.declared.change.Act.TheVariants as act
use Rattle.std.specs.FinMap as finite
use Rattle.vb_types.proofs.Laws.{get-insert_other, get-insert_same}
use Rattle.vb_types.specs.Images.{settled}
use Rattle.vb_events.specs.declared.event.Event.TheVariants as event
use Rattle.vb_types.specs.declared.role.Role.TheVariants as role
use Rattle.transcript_law.proofs.lines.Rises.{made_here}

-- a change below one that its vBucket holds
pub later : LawfulLine later_held (change_line 0) [] → ⊥
later l = let e : ◌≡◌ {A = ℕ} 1 3 = l.made.next in omega arith

-- the maker of a branch changes it where it is on it, and not from another one

pub on_new : LawfulFrom (made_from 5) (next_made 7)
on_new = (
  record {
    active = refl;
    writer = record { made_or_took = refl; on_branch = refl };
    above_branch = omega arith;
    above_forks = (λ e. omega arith, (λ e. omega arith, (λ e. omega arith, tt)));
    made = second_next;
    fulfils = λ number doc deleted e. cc;
    backed = λ number doc deleted e. cc;
    asked = λ level doc deleted e. cc;
    aborts = λ prepared e. cc;
  },
  tt,
)

pub left_behind : LawfulFrom (made_from 5) (next_made 5) → ⊥
left_behind l = let e : ◌≡◌ {A = Option ℕ} (Some 7) (Some 5) = l.0.writer.on_branch in cc

-- a vBucket with a prepare

abbrev pend : Pend
pend = record { seq = 1; level = Majority; doc = first_doc 1 (8 ∷ []); deleted = false }

abbrev image : Picture
image = image_of (prepare_change ∷ [])

no_docs : finite.entries image.docs ≡ []
no_docs = no_entries Doc

one_pending : finite.entries image.pending ≡ (7 ∷ [], pend) ∷ []
one_pending = finite.entries-insert nat_list_cmp_total finite.empty (7 ∷ []) pend ∙ ap (λ es. finite.put key_cmp (7 ∷ []) pend es) (no_entries Pend)

prepare_line : shown_lines image ≡ prepare_lines 1 Majority
prepare_line =
    ap (λ (ds : List (List ℕ × Doc)). map (λ e. event.Document e.0 e.1) ds ++ map (λ e. event.Prepared e.0 e.1.seq e.1.level) (finite.entries image.pending)) no_docs
    ∙ ap (λ (ps : List (List ℕ × Pend)). map (λ e. event.Prepared e.0 e.1.seq e.1.level) ps) one_pending

pub prepare_right : LawfulFrom after_prepare (prepare_shown (prepare_lines 1 Majority))
prepare_right = (
  record { role = refl; newest = refl; at = refl; snapshot = refl; left = sym prepare_line; docs_left = sym (ap length no_docs); preps_left = sym (ap length one_pending); complete = λ _. record { lines = sym prepare_line; docs_shown = sym (ap length no_docs); preps_shown = sym (ap length one_pending); shared = λ _. refl; active = λ _. refl } },
  (tt, tt),
)

-- what stands behind the line of a vBucket that is shown with a prepare
behind_is : (behind : List Event) → LawfulFrom after_prepare (prepare_shown behind) → behind ≡ prepare_lines 1 Majority
behind_is behind l = (l.0.complete refl).lines ∙ prepare_line

pub prepare_missing : LawfulFrom after_prepare (prepare_shown []) → ⊥
prepare_missing l = let e = behind_is [] l in cc

pub prepare_moved : LawfulFrom after_prepare (prepare_shown (prepare_lines 2 Majority)) → ⊥
prepare_moved l =
    let e : prepare_lines 2 Majority ≡ prepare_lines 1 Majority = behind_is (prepare_lines 2 Majority) l in let n : ◌≡◌ {A = ℕ} 2 1 = cc in
    omega arith

pub prepare_other : LawfulFrom after_prepare (prepare_shown (prepare_lines 1 PersistMajority)) → ⊥
prepare_other l =
    let e : prepare_lines 1 PersistMajority ≡ prepare_lines 1 Majority = behind_is (prepare_lines 1 PersistMajority) l in
    let n : PersistMajority ≡ Majority = cc in cc

-- prepares that wait at a replica

-- where none waits, a change of the committed side leaves none
settled_none : (seq : ℕ) (key : List ℕ) → settled finite.empty seq key ≡ finite.empty
settled_none seq key = ap (λ (o : Option Pend). if is_older seq o then finite.remove finite.empty key else finite.empty) (finite.get-empty key_cmp key)

-- the replica that has both changes has none
pub none_waits : (key : List ℕ) → finite.get (image_of (after_both.held 1 0)).pending key ≡ None
none_waits key = ap (λ p. finite.get (settled p 2 (9 ∷ [])) key) (settled_none 1 (7 ∷ [])) ∙ ap (λ p. finite.get p key) (settled_none 2 (9 ∷ [])) ∙ finite.get-empty key_cmp key

-- the one that holds a prepare of level 3 has that
abbrev pub third : Pend
third = record { seq = 2; level = PersistMajority; doc = first_doc 1 (8 ∷ []); deleted = false }

pub third_waits : finite.get (image_of (third_held.held 1 0)).pending (7 ∷ []) ≡ Some third
third_waits = get-insert_same finite.empty (7 ∷ []) third

-- logs that are known

newest : List LogEntry → ℕ
newest es = uuid_of (front es)

pub asked_otherwise : LawfulFrom after_both (refused_ask_lines (log_of 6)) → ⊥
unfolding newest
asked_otherwise l = let e : ◌≡◌ {A = ℕ} 5 6 = ap newest l.0.answered.own_log in omega arith

pub kept_log : LawfulFrom after_back (taken_log (log_of 5))
kept_log = (refl, tt)

pub cut_log : LawfulFrom after_back (taken_log made_log) → ⊥
unfolding newest
cut_log l = let e : ◌≡◌ {A = ℕ} 5 7 = ap newest l.0 in omega arith

pub unmade_log : LawfulFrom empty_chronicle (log_lines (log_of 5)) → ⊥
unfolding newest
unmade_log l = let e : ◌≡◌ {A = ℕ} 0 5 = ap newest l.0 in omega arith

-- roles that are known

pub dead_again : LawfulFrom after_dead (event.Role 0 0 role.Dead ∷ []) → ⊥
dead_again l = l.0.another refl

pub follower_changes : LawfulFrom after_follow (change_line 0 ∷ []) → ⊥
follower_changes l = let e : role.Replica ≡ role.Active = known_role role.Replica role.Active l.0.active in cc

pub follower_active : LawfulFrom after_follow (empty_shown role.Active) → ⊥
follower_active l = let e : role.Replica ≡ role.Active = known_role role.Replica role.Active l.0.role in cc

pub promoted_dead : LawfulFrom after_promote (empty_shown role.Dead) → ⊥
promoted_dead l = let e : role.Active ≡ role.Dead = known_role role.Active role.Dead l.0.role in cc

-- whatever was read before, what these lines tell is known behind them

pub role_known_after : (told : Chronicle) (n v : ℕ) (new : Role) → (after_line told (event.Role n v new)).role_at n v ≡ Some (Some new)
role_known_after told n v new = at_here told.role_at n v (Some (Some new))

pub log_known_after : (told : Chronicle) (n v : ℕ) (log : List LogEntry) → (after_line told (event.Adopted n v log)).log_at n v ≡ Some log
log_known_after told n v log = at_here told.log_at n v (Some log)

pub branch_known : (told : Chronicle) (n v uuid : ℕ) (parent : Option ℕ) (fork high : ℕ) (log : List LogEntry) → told.log_at n v ≡ Some log
    → (after_line told (event.Branch n v uuid parent fork high)).log_at n v ≡ Some (with_entry uuid fork log)
branch_known told n v uuid parent fork high log e = at_here told.log_at n v (option_map (with_entry uuid fork) (told.log_at n v)) ∙ ap (option_map (with_entry uuid fork)) e

pub back_known : (told : Chronicle) (n v named to : ℕ) (log : List LogEntry) → told.log_at n v ≡ Some log → (after_line told (event.Rolled n v named to)).log_at n v ≡ Some (kept_to to log)
back_known told n v named to log e = at_here told.log_at n v (option_map (kept_to to) (told.log_at n v)) ∙ ap (option_map (kept_to to)) e

-- a vBucket that is sealed twice behind a change
pub seals_twice : Lawful set_and_sealed (sealed_groups 1 0)
seals_twice = both_stored empty_chronicle set_and_sealed (sealed_groups 1 0) refl (tt, (tt, ((record { new = tt; newest = refl; last = refl; leaves = refl }, (record { another = λ e. cc; anew = λ e. made_here _ _ _ 5 refl refl refl; pending = λ e. cc }, tt)), ((search (arith, first_next), ((refl, λ z. first_told _ _ _ refl refl refl), tt)), (tt, (tt, tt)))))) (tt, (refl, ((refl, tt), (refl, (refl, (refl, tt)))))) (refl, (refl, (refl, (refl, (refl, (refl, tt))))))
    (heard_then _ _ _ _ _ refl silent_start (λ s. heard_then _ _ _ _ _ refl s (λ s. heard_then _ _ _ _ _ refl s (λ s. seven_then _ 4 4 5 _ one_change _ _ refl refl s (λ s e. silent_heard _ _ _ s refl))))) (tt, (tt, (tt, (made_stored 5 1 one_change refl, (tt, (tt, tt)))))) (Never (λ l. refl))

first_byte : List ℕ → ℕ
first_byte [] = 0
first_byte (b ∷ bs) = b

-- it waits also where another one came behind it
pub below_waits : finite.get (image_of (third_below.held 1 0)).pending (7 ∷ []) ≡ Some third
unfolding first_byte
below_waits = get-insert_other (finite.insert finite.empty (7 ∷ []) third) (9 ∷ []) (record { seq = 3; level = Majority; doc = first_doc 1 (8 ∷ []); deleted = false }) (7 ∷ []) (λ e. let z : ◌≡◌ {A = ℕ} 9 7 = ap first_byte e in omega (arith, z)) ∙ third_waits

-- no prepare of level 3 waits beside one of level 2
pub no_third : (key : List ℕ) (e : Pend) → finite.get (image_of (second_held.held 1 0)).pending key ≡ Some e → e.level ≡ PersistMajority → ⊥
no_third key e is third = let (c, i, f) = made_by (second_held.held 1 0) key e is in
    ⊎_elim (λ same. let made : act.Prepare MajorityPersistActive (first_doc 1 (8 ∷ [])) false ≡ act.Prepare e.level e.doc e.deleted = sym (ap (λ (x : Change). x.act) same) ∙ f.act_is in let level : MajorityPersistActive ≡ e.level = cc in cc) (λ j. absurd j) i
