-- arms, crashes and restarts, judged by hand
use Rattle.transcript_law.specs.{Chronicles.{alone}, Majorities.{IsHeldByMost}}
use Rattle.std.specs.Prelude.{◌≡◌, ◌<◌, ◌≤◌, ◌∷◌, ◌==◌, ◌&&◌, if◌then◌else◌}
use Rattle.transcript_law.proofs.Words.{ℕ, Bool, true, false, List, [], refl, ap, sym, ◌∙◌, subst, arith, inl, ⊎_elim, and_parts, eqb-true, ne_eqb, Option, Some, None, Event, Answer, Role, front, uuid_of, Chronicle}
use Rattle.transcript_law.proofs.Words.{empty_chronicle, Lawful, LawfulFrom, LawfulGroups, LawfulAnswer, nothing, image_of, one_change, next_change, log_of, made_log}
use Rattle.transcript_law.proofs.{links.PumpAnswers.{two_numbers}, rows.NextRows.{nine_next, resolving_next, second_next}, rows.Transcripts.{first_change, shown, as_made, as_set}, rows.Groups.{all_stored, AreParts, AreStored, in_order, in_place, Never, none_stored, Told, whole, whole_stored}, rows.Ended.{one_cut}, rows.StoredRows.{made_stored}, rows.DurableSent.{durably_sent, gone_by, prepare_sent, waits_by}, rows.Sets.{first_told, heard_then, next_told, nine_then, seven_past, seven_then}, rows.Silent.{AreHeard, Silent, all_silent, shut_heard, silent_heard, silent_start, twice_silent}}
use Rattle.transcript_law.specs.Firings.{FiresAsSaid}
use Rattle.transcript_law.proofs.rows.Sets.{blank_after}
use Rattle.mcbp_frame.specs.Spelling.{spelling}
use Rattle.transcript_law.specs.Clients.{AllClosed}
use Rattle.transcript_law.specs.ClientStreams.{ClientKnown, blank_client, with_sent_bytes}
use Rattle.transcript_law.specs.{Chronicles.{conns_lines, Idle, Taken, Written, no_arm, known_fail, known_stop}, Prefixes.{known_after}, LineAnswers.{MakesBranch, FailsIn, StopsIn}}
use Rattle.transcript_law.specs.Crashes.{Said, LawfulAfter, ok, numbered, groups_from_number, one_made, one_made_groups, took, stopped_behind, failed_behind, branch_line, restarted, dead_line, none_shown, one_shown, stat_of}
use Rattle.transcript_law.specs.Crashes.{save_under, save_under_groups, dead_under, dead_under_groups, save_and_dead, save_and_dead_groups, crash_under, crash_under_groups, crash_behind, crash_behind_groups, to_save, saved_groups, to_done, counted_groups}
use Rattle.transcript_law.specs.{Crashes.{commit_of, durable_nine, prepared, seal_restarted, seal_restarted_groups}, Transcripts.{first_doc}}
use Rattle.std.specs.FinMap.{get}
use Rattle.vb_types.proofs.Laws.{get-insert_same}
use Rattle.vb_types.specs.declared.change.Act.TheVariants.{Commit}
use Rattle.vb_types.specs.declared.change.Level.TheVariants as level
use Rattle.vb_types.specs.declared.change.Pend.{Pend}
use Rattle.vb_types.specs.declared.doc.Doc.{Doc}
use Rattle.transcript_law.specs.Crashes.{stopped_in, stopped_in_groups, after_noted_back, log_after_crash, log_after_crash_groups, dead_unwritten, dead_unwritten_groups, set_restarted, set_restarted_groups, made_under, made_under_groups}
use Rattle.script_text.specs.declared.verb.Verb.{Verb}
use Rattle.script_text.specs.declared.verb.Verb.TheVariants as verb
use Rattle.script_text.specs.declared.verb.VbVerb.TheVariants as vb_verb
use Rattle.script_text.specs.declared.verb.NodeVerb.TheVariants as node_verb
use Rattle.vb_disk.specs.declared.fuse.Fuse.TheVariants.{Stop, Fail}
use Rattle.vb_disk.specs.declared.made.Outcome.TheVariants.{Old, New, Fill}
use Rattle.vb_events.specs.declared.event.Answer.TheVariants as answer
use Rattle.vb_events.specs.declared.event.Cause.TheVariants as cause
use Rattle.vb_events.specs.declared.event.Event.TheVariants as event
use Rattle.vb_types.specs.declared.journal.Batch.{Batch}
use Rattle.transcript_law.specs.LinesTold.{LastLine}
use Rattle.transcript_law.proofs.lines.Rises.{made_here}

-- what was read when the change was made
abbrev pub read : Chronicle
read = known_after empty_chronicle (one_made []) (one_made_groups [])

-- a transcript is lawful that is so from there on
pub lawful_from_heard : (more : List Verb) (told : List Said) → in_order read (numbered 5 more) (groups_from_number 5 told) ≡ true → AreParts read (numbered 5 more) (groups_from_number 5 told)
    → (Silent read.clients_at → (read.clients_at 0 1).asking ≡ blank_after 1 → AreHeard read (numbered 5 more) (groups_from_number 5 told)) → AreStored (groups_from_number 5 told) → LawfulAfter more told
lawful_from_heard more told o l heard stored = whole_stored empty_chronicle (one_made more) (one_made_groups told) o
    ((tt, tt, refl), ((tt, refl, refl), (((record { new = tt; newest = refl; last = refl; leaves = refl }, (record { another = λ e. cc; anew = λ e. made_here _ _ _ 5 refl refl refl; pending = λ e. cc }, tt)), (refl, tt), refl), (((first_change _ _ _ _ _, ((refl, λ z. first_told _ _ _ refl refl refl), tt)), refl, refl), l))))
    (heard_then _ _ _ _ _ refl silent_start (λ s. heard_then _ _ _ _ _ refl s (λ s. heard_then _ _ _ _ _ refl s (λ s. seven_then _ 4 4 5 _ one_change _ _ refl refl s heard)))) (tt, (tt, (tt, (made_stored 5 1 one_change refl, stored)))) (Never (λ l. refl))

-- where no client sends more, none is left without an answer
pub lawful_from_made : (more : List Verb) (told : List Said) → (in_place read (numbered 5 more) (groups_from_number 5 told) && all_silent (numbered 5 more)) ≡ true → AreParts read (numbered 5 more) (groups_from_number 5 told) → LawfulAfter more told
lawful_from_made more told o l =
    let both = and_parts (in_place read (numbered 5 more) (groups_from_number 5 told)) (all_silent (numbered 5 more)) o in
    let placed = and_parts (in_order read (numbered 5 more) (groups_from_number 5 told)) (none_stored (groups_from_number 5 told)) both.0 in
    lawful_from_heard more told placed.0 l (λ s e. silent_heard read (numbered 5 more) (groups_from_number 5 told) s both.1) (all_stored (groups_from_number 5 told) placed.1)

-- one that ends with its node closes whatever it asked
pub cut_off : {P : Type 0} → false ≡ true → P
cut_off e = cc

-- the one connection of a client is told closed
pub one_closed : AllClosed (conns_lines read.conn_at (event.Closed 0 1 ∷ [])) 0
one_closed c = elim (c == 1) as (λ b. (if b then false else (if b then true else false)) ≡ false) [ true ↦ refl | false ↦ refl ]

-- the change is taken
pub taken : (l : Option LastLine) → LawfulFrom (record read { last = l }) took.0 × LawfulAnswer (record read { last = l }) (verb.AtVb 0 0 vb_verb.Take) took.0 took.1 × FiresAsSaid None took.0 took.1
taken l = ((record { idle = refl; goes_on = omega arith; held = omega arith; starts = omega arith; ends = omega arith; some = omega arith; most = omega arith }, tt), refl, refl)

-- roles
pub no_role : (r : Role) → ◌≡◌ {A = Option Role} None (Some r) → ⊥
no_role r e = cc

not_active : ◌≡◌ {A = Option Role} (Some Role.Dead) (Some Role.Active) → ⊥
not_active e = cc

-- a number is 0, or it is not
either_way : {A : Type 0} (v : ℕ) → ((v == 0) ≡ true → A) → ((v == 0) ≡ false → A) → A
either_way {A = A} v here there = by (v == 0) refl
  where
    by : (b : Bool) → (v == 0) ≡ b → A
    by true e = here e
    by false e = there e

-- a line of the first vBucket's branch is enough where no other one was active
pub first : (v : ℕ) (lines : List Event) → ((v == 0) ≡ false → ⊥) → MakesBranch 0 0 lines → MakesBranch 0 v lines
first v lines other made = either_way v (λ e. subst (λ w. MakesBranch 0 w lines) (sym (eqb-true v 0 e)) made) (λ f. absurd (other f))

-- arms
above_zero : (k : ℕ) → 0 < k → (k == 0) ≡ false
above_zero k low = ne_eqb k 0 (λ e. omega (arith, low, e))

fail_stops : (calls k : ℕ) → StopsIn calls (known_fail k).fuse → ⊥
fail_stops calls k = elim (k == 0) as (λ b. StopsIn calls (if b then no_arm else record { fuse = Fail k; out = Old; down = false }).fuse → ⊥) [ true ↦ λ x. x | false ↦ λ x. x ]

stop_fails : (calls k : ℕ) → FailsIn calls (known_stop k Old).fuse → ⊥
stop_fails calls k = elim (k == 0) as (λ b. FailsIn calls (if b then no_arm else record { fuse = Stop k; out = Old; down = false }).fuse → ⊥) [ true ↦ λ x. x | false ↦ λ x. x ]

pub passed : LawfulAfter (save_under (verb.AtNode 0 (node_verb.Fail 5))) (save_under_groups (ok []))
passed = lawful_from_made (save_under (verb.AtNode 0 (node_verb.Fail 5))) (save_under_groups (ok [])) refl (taken _, ((tt, tt, refl), ((tt, ((refl, omega arith), (_, refl)), refl), tt)))

pub passed_failed : LawfulAfter (save_under (verb.AtNode 0 (node_verb.Fail 5))) (save_under_groups (failed_behind [])) → ⊥
passed_failed l = let e : 5 ≤ 4 = l.1.1.1.1.1.1.0.1.0.1.1 in omega (arith, e)

pub passed_stopped : LawfulAfter (save_under (verb.AtNode 0 (node_verb.Stop 5 Old))) (save_under_groups (stopped_behind [])) → ⊥
passed_stopped l = let e : 5 ≤ 4 = l.1.1.1.1.1.1.0.1.0.1.1 in omega (arith, e)

pub fails : (k : ℕ) → 0 < k → k ≤ 4 → LawfulAfter (save_under (verb.AtNode 0 (node_verb.Fail k))) (save_under_groups (failed_behind []))
fails k low high = let z = above_zero k low in
    lawful_from_made (save_under (verb.AtNode 0 (node_verb.Fail k))) (save_under_groups (failed_behind [])) refl (taken _, ((tt, tt, refl), (((rw z low, tt), ((refl, rw z (low, high)), (_, refl)), refl), tt)))

pub fails_ok : (k : ℕ) (lines : List Event) → 0 < k → k ≤ 4 → LawfulAfter (save_under (verb.AtNode 0 (node_verb.Fail k))) (save_under_groups (ok lines)) → ⊥
fails_ok k lines low high l = let z = above_zero k low in let e : 4 < k = rw z at l.1.1.1.1.1.1.0.1.0.1 in omega (arith, high, e)

pub stops : (k : ℕ) → 0 < k → k ≤ 4 → LawfulAfter (save_under (verb.AtNode 0 (node_verb.Stop k Old))) (save_under_groups (stopped_behind []))
stops k low high = let z = above_zero k low in
    lawful_from_made (save_under (verb.AtNode 0 (node_verb.Stop k Old))) (save_under_groups (stopped_behind [])) refl (taken _, ((tt, tt, refl), ((((rw z low, one_closed), ((refl, cut_off), tt)), ((refl, rw z (low, high)), (_, refl)), refl), tt)))

pub stops_ok : (k : ℕ) (lines : List Event) → 0 < k → k ≤ 4 → LawfulAfter (save_under (verb.AtNode 0 (node_verb.Stop k Old))) (save_under_groups (ok lines)) → ⊥
stops_ok k lines low high l = let z = above_zero k low in let e : 4 < k = rw z at l.1.1.1.1.1.1.0.1.0.1 in omega (arith, high, e)

pub fails_stopped : (k : ℕ) (lines : List Event) → LawfulAfter (save_under (verb.AtNode 0 (node_verb.Fail k))) (save_under_groups (lines, answer.No cause.Stopped)) → ⊥
fails_stopped k lines l = fail_stops 4 k l.1.1.1.1.1.1.0.1.0.1

pub stops_failed : (k : ℕ) (lines : List Event) → LawfulAfter (save_under (verb.AtNode 0 (node_verb.Stop k Old))) (save_under_groups (lines, answer.No cause.Disk)) → ⊥
stops_failed k lines l = stop_fails 4 k l.1.1.1.1.1.1.0.1.0.1

pub unarmed_failed : (said : Answer) → LawfulAfter (save_under (verb.AtNode 0 (node_verb.Fail 0))) (save_under_groups (event.CallFailed 0 ∷ [], said)) → ⊥
unarmed_failed said l = l.1.1.1.1.1.1.0.0.0

pub unarmed_stopped : (said : Answer) → LawfulAfter (save_under (verb.AtNode 0 (node_verb.Stop 0 Old))) (save_under_groups (event.NodeStopped 0 ∷ event.Closed 0 1 ∷ [], said)) → ⊥
unarmed_stopped said l = l.1.1.1.1.1.1.0.0.0.0

pub other_failed : (said : Answer) → LawfulAfter (save_under (verb.AtNode 0 (node_verb.Stop 1 Old))) (save_under_groups (event.CallFailed 0 ∷ [], said)) → ⊥
other_failed said l = l.1.1.1.1.1.1.0.0.0

pub other_stopped : (said : Answer) → LawfulAfter (save_under (verb.AtNode 0 (node_verb.Fail 1))) (save_under_groups (event.NodeStopped 0 ∷ event.Closed 0 1 ∷ [], said)) → ⊥
other_stopped said l = l.1.1.1.1.1.1.0.0.0.0

pub elsewhere : (said : Answer) → LawfulAfter (save_under (verb.AtNode 0 (node_verb.Fail 1))) (save_under_groups (event.CallFailed 1 ∷ [], said)) → ⊥
elsewhere said l = l.1.1.1.1.1.1.0.0.0

-- calls are counted from the arm on, and it fires once
pub counted : LawfulAfter save_and_dead (save_and_dead_groups (failed_behind (dead_line ∷ [])))
counted = lawful_from_made save_and_dead (save_and_dead_groups (failed_behind (dead_line ∷ []))) refl
    (taken _, ((tt, tt, refl), ((tt, ((refl, omega arith), (_, refl)), refl), (((record { another = λ e. cc; anew = λ e. cc; pending = λ e. cc }, (omega arith, tt)), (refl, (omega arith, omega arith)), refl), tt))))

pub counted_ok : LawfulAfter save_and_dead (save_and_dead_groups (ok (dead_line ∷ []))) → ⊥
counted_ok l = let e : 4 < 1 = l.1.1.1.1.1.1.1.0.1.1 in omega (arith, e)

abbrev followed : Said
followed = (event.Role 0 0 Role.Replica ∷ [], answer.No cause.Closed)

pub once : LawfulAfter (dead_under (verb.AtNode 0 (node_verb.Fail 1)) (verb.AtVb 0 0 vb_verb.Follow)) (dead_under_groups (failed_behind (dead_line ∷ [])) followed)
once = lawful_from_made (dead_under (verb.AtNode 0 (node_verb.Fail 1)) (verb.AtVb 0 0 vb_verb.Follow)) (dead_under_groups (failed_behind (dead_line ∷ [])) followed) refl
    ((tt, tt, refl), (((record { another = λ e. cc; anew = λ e. cc; pending = λ e. cc }, (omega arith, tt)), (refl, (omega arith, omega arith)), refl), (((record { another = λ e. cc; anew = λ e. cc; pending = λ e. cc }, tt), refl, refl), tt)))

pub twice : LawfulAfter (dead_under (verb.AtNode 0 (node_verb.Fail 1)) (verb.AtVb 0 0 vb_verb.Follow)) (dead_under_groups (failed_behind (dead_line ∷ [])) (failed_behind (event.Role 0 0 Role.Replica ∷ []))) → ⊥
twice l = l.1.1.1.1.1.1.0.0.1.0

pub stopped_once : LawfulAfter (dead_under (verb.AtNode 0 (node_verb.Stop 1 Old)) (verb.AtNode 0 (node_verb.Start (7 ∷ [])))) (dead_under_groups (stopped_behind (dead_line ∷ [])) (restarted 0))
stopped_once = lawful_from_made (dead_under (verb.AtNode 0 (node_verb.Stop 1 Old)) (verb.AtNode 0 (node_verb.Start (7 ∷ [])))) (dead_under_groups (stopped_behind (dead_line ∷ [])) (restarted 0)) refl
    ((tt, tt, refl), (((record { another = λ e. cc; anew = λ e. cc; pending = λ e. cc }, ((omega arith, one_closed), ((refl, cut_off), tt))), (refl, (omega arith, omega arith)), refl), (((record { new = (λ e. omega arith, tt); newest = refl; last = refl; leaves = refl }, tt), ((λ v e. first v (branch_line 0 0 ∷ []) (λ f. no_role Role.Active (rw f at e)) (inl (refl, refl))), tt), refl), tt)))

pub stopped_twice : LawfulAfter (dead_under (verb.AtNode 0 (node_verb.Stop 1 Old)) (verb.AtNode 0 (node_verb.Start (7 ∷ [])))) (dead_under_groups (stopped_behind (dead_line ∷ [])) (stopped_behind (branch_line 0 0 ∷ []))) → ⊥
stopped_twice l = l.1.1.1.1.1.1.0.0.1.0.0

pub gone : LawfulAfter (crash_under (verb.AtNode 0 (node_verb.Fail 1))) (crash_under_groups (restarted 0))
gone = lawful_from_made (crash_under (verb.AtNode 0 (node_verb.Fail 1))) (crash_under_groups (restarted 0)) refl
    ((tt, tt, refl), ((((refl, cut_off), tt), one_closed, refl), (((record { new = (λ e. omega arith, tt); newest = refl; last = refl; leaves = refl }, tt), ((λ v e. first v (branch_line 0 0 ∷ []) (λ f. no_role Role.Active (rw f at e)) (inl (refl, refl))), tt), refl), tt)))

pub survives : LawfulAfter (crash_under (verb.AtNode 0 (node_verb.Fail 1))) (crash_under_groups (failed_behind [])) → ⊥
survives l = l.1.1.1.1.1.1.0.0.0

pub stop_survives : LawfulAfter (crash_under (verb.AtNode 0 (node_verb.Stop 1 Old))) (crash_under_groups (event.NodeStopped 0 ∷ [], answer.No cause.Stopped)) → ⊥
stop_survives l = l.1.1.1.1.1.1.0.0.0.0

-- what a stop inside a save leaves

pub old : LawfulAfter (stopped_in 3 Old (verb.AtVb 0 0 vb_verb.Show)) (stopped_in_groups 0 (none_shown Role.Active 7))
old = lawful_from_made (stopped_in 3 Old (verb.AtVb 0 0 vb_verb.Show)) (stopped_in_groups 0 (none_shown Role.Active 7)) refl
    (taken _, ((tt, tt, refl), ((((omega arith, one_closed), ((refl, cut_off), tt)), ((refl, (omega arith, omega arith)), (_, refl)), refl), (((record { new = (λ e. omega arith, tt); newest = refl; last = refl; leaves = refl }, tt), ((λ v e. first v (branch_line 0 0 ∷ []) (λ f. no_role Role.Active (rw f at e)) (inl (refl, refl))), tt), refl), (((shown _ _ _ refl refl refl refl nothing refl refl as_made (λ _. refl) (λ _. refl), tt), tt, refl), tt)))))

pub old_shown : (at : ℕ) → LawfulAfter (stopped_in 3 Old (verb.AtVb 0 0 vb_verb.Show)) (stopped_in_groups at (one_shown Role.Active 7)) → ⊥
old_shown at l = two_numbers 0 1 (omega arith) (sym l.1.1.1.1.1.1.1.1.0.0.0.at)

pub new : LawfulAfter (stopped_in 3 New (verb.AtVb 0 0 vb_verb.Show)) (stopped_in_groups 1 (one_shown Role.Active 7))
new = lawful_from_made (stopped_in 3 New (verb.AtVb 0 0 vb_verb.Show)) (stopped_in_groups 1 (one_shown Role.Active 7)) refl
    (taken _, ((tt, tt, refl), ((((omega arith, one_closed), ((refl, cut_off), tt)), ((refl, (omega arith, omega arith)), (_, refl)), refl), (((record { new = (λ e. omega arith, tt); newest = refl; last = refl; leaves = refl }, tt), ((λ v e. first v (branch_line 0 1 ∷ []) (λ f. no_role Role.Active (rw f at e)) (inl (refl, refl))), tt), refl), (((shown _ _ _ refl refl refl refl (image_of (one_change ∷ [])) refl refl as_set (λ _. refl) (λ _. refl), (tt, tt)), tt, refl), tt)))))

pub new_lost : (at : ℕ) → LawfulAfter (stopped_in 3 New (verb.AtVb 0 0 vb_verb.Show)) (stopped_in_groups at (none_shown Role.Active 7)) → ⊥
new_lost at l = two_numbers 0 1 (omega arith) l.1.1.1.1.1.1.1.1.0.0.0.at

pub old_stat : LawfulAfter (stopped_in 3 Old (verb.AtVb 0 0 vb_verb.Stat)) (stopped_in_groups 0 (stat_of 0 0))
old_stat = lawful_from_made (stopped_in 3 Old (verb.AtVb 0 0 vb_verb.Stat)) (stopped_in_groups 0 (stat_of 0 0)) refl
    (taken _, ((tt, tt, refl), ((((omega arith, one_closed), ((refl, cut_off), tt)), ((refl, (omega arith, omega arith)), (_, refl)), refl), (((record { new = (λ e. omega arith, tt); newest = refl; last = refl; leaves = refl }, tt), ((λ v e. first v (branch_line 0 0 ∷ []) (λ f. no_role Role.Active (rw f at e)) (inl (refl, refl))), tt), refl), (((record { saved_as_known = refl; high_held = refl; flusher = omega arith; filled = omega arith }, tt), tt, refl), tt)))))

pub old_counted : (at high : ℕ) → LawfulAfter (stopped_in 3 Old (verb.AtVb 0 0 vb_verb.Stat)) (stopped_in_groups at (stat_of 1 high)) → ⊥
old_counted at high l = two_numbers 0 1 (omega arith) (sym l.1.1.1.1.1.1.1.1.0.0.0.saved_as_known)

pub new_stat : LawfulAfter (stopped_in 3 New (verb.AtVb 0 0 vb_verb.Stat)) (stopped_in_groups 1 (stat_of 1 1))
new_stat = lawful_from_made (stopped_in 3 New (verb.AtVb 0 0 vb_verb.Stat)) (stopped_in_groups 1 (stat_of 1 1)) refl
    (taken _, ((tt, tt, refl), ((((omega arith, one_closed), ((refl, cut_off), tt)), ((refl, (omega arith, omega arith)), (_, refl)), refl), (((record { new = (λ e. omega arith, tt); newest = refl; last = refl; leaves = refl }, tt), ((λ v e. first v (branch_line 0 1 ∷ []) (λ f. no_role Role.Active (rw f at e)) (inl (refl, refl))), tt), refl), (((record { saved_as_known = refl; high_held = refl; flusher = omega arith; filled = omega arith }, tt), tt, refl), tt)))))

pub new_uncounted : (at high : ℕ) → LawfulAfter (stopped_in 3 New (verb.AtVb 0 0 vb_verb.Stat)) (stopped_in_groups at (stat_of 0 high)) → ⊥
new_uncounted at high l = two_numbers 0 1 (omega arith) l.1.1.1.1.1.1.1.1.0.0.0.saved_as_known

pub early : LawfulAfter (stopped_in 2 New (verb.AtVb 0 0 vb_verb.Show)) (stopped_in_groups 0 (none_shown Role.Active 7))
early = lawful_from_made (stopped_in 2 New (verb.AtVb 0 0 vb_verb.Show)) (stopped_in_groups 0 (none_shown Role.Active 7)) refl
    (taken _, ((tt, tt, refl), ((((omega arith, one_closed), ((refl, cut_off), tt)), ((refl, (omega arith, omega arith)), (_, refl)), refl), (((record { new = (λ e. omega arith, tt); newest = refl; last = refl; leaves = refl }, tt), ((λ v e. first v (branch_line 0 0 ∷ []) (λ f. no_role Role.Active (rw f at e)) (inl (refl, refl))), tt), refl), (((shown _ _ _ refl refl refl refl nothing refl refl as_made (λ _. refl) (λ _. refl), tt), tt, refl), tt)))))

pub early_shown : (at : ℕ) → LawfulAfter (stopped_in 2 New (verb.AtVb 0 0 vb_verb.Show)) (stopped_in_groups at (one_shown Role.Active 7)) → ⊥
early_shown at l = two_numbers 0 1 (omega arith) (sym l.1.1.1.1.1.1.1.1.0.0.0.at)

pub filled : LawfulAfter (stopped_in 4 (Fill 1) (verb.AtVb 0 0 vb_verb.Show)) (stopped_in_groups 1 (one_shown Role.Active 7))
filled = lawful_from_made (stopped_in 4 (Fill 1) (verb.AtVb 0 0 vb_verb.Show)) (stopped_in_groups 1 (one_shown Role.Active 7)) refl
    (taken _, ((tt, tt, refl), ((((omega arith, one_closed), ((refl, cut_off), tt)), ((refl, (omega arith, omega arith)), (_, refl)), refl), (((record { new = (λ e. omega arith, tt); newest = refl; last = refl; leaves = refl }, tt), ((λ v e. first v (branch_line 0 1 ∷ []) (λ f. no_role Role.Active (rw f at e)) (inl (refl, refl))), tt), refl), (((shown _ _ _ refl refl refl refl (image_of (one_change ∷ [])) refl refl as_set (λ _. refl) (λ _. refl), (tt, tt)), tt, refl), tt)))))

pub filled_otherwise : (at : ℕ) → LawfulAfter (stopped_in 4 (Fill 2) (verb.AtVb 0 0 vb_verb.Show)) (stopped_in_groups at (one_shown Role.Active 7)) → ⊥
filled_otherwise at l = two_numbers 0 1 (omega arith) (sym l.1.1.1.1.1.1.1.1.0.0.0.at)

-- what a crash leaves

pub unwritten : LawfulAfter (crash_behind [] New (7 ∷ []) (verb.AtVb 0 0 vb_verb.Show)) (crash_behind_groups [] (restarted 0) (none_shown Role.Active 7))
unwritten = lawful_from_made (crash_behind [] New (7 ∷ []) (verb.AtVb 0 0 vb_verb.Show)) (crash_behind_groups [] (restarted 0) (none_shown Role.Active 7)) refl
    ((((refl, cut_off), tt), one_closed, refl), (((record { new = (λ e. omega arith, tt); newest = refl; last = refl; leaves = refl }, tt), ((λ v e. first v (branch_line 0 0 ∷ []) (λ f. no_role Role.Active (rw f at e)) (inl (refl, refl))), tt), refl), (((shown _ _ _ refl refl refl refl nothing refl refl as_made (λ _. refl) (λ _. refl), tt), tt, refl), tt)))

pub unwritten_shown : (at : ℕ) → LawfulAfter (crash_behind [] New (7 ∷ []) (verb.AtVb 0 0 vb_verb.Show)) (crash_behind_groups [] (restarted at) (one_shown Role.Active 7)) → ⊥
unwritten_shown at l = two_numbers 0 1 (omega arith) (sym l.1.1.1.1.1.1.0.0.0.at)

pub taken_shown : (at : ℕ) → LawfulAfter (crash_behind (verb.AtVb 0 0 vb_verb.Take ∷ []) New (7 ∷ []) (verb.AtVb 0 0 vb_verb.Show)) (crash_behind_groups (took ∷ []) (restarted at) (one_shown Role.Active 7)) → ⊥
taken_shown at l = two_numbers 0 1 (omega arith) (sym l.1.1.1.1.1.1.1.0.0.0.at)

pub written : LawfulAfter (crash_behind to_save Old (7 ∷ []) (verb.AtVb 0 0 vb_verb.Show)) (crash_behind_groups saved_groups (restarted 1) (one_shown Role.Active 7))
written = lawful_from_made (crash_behind to_save Old (7 ∷ []) (verb.AtVb 0 0 vb_verb.Show)) (crash_behind_groups saved_groups (restarted 1) (one_shown Role.Active 7)) refl
    (taken _, ((tt, ((refl, tt), (_, refl)), refl), ((((refl, cut_off), tt), one_closed, refl), (((record { new = (λ e. omega arith, tt); newest = refl; last = refl; leaves = refl }, tt), ((λ v e. first v (branch_line 0 1 ∷ []) (λ f. no_role Role.Active (rw f at e)) (inl (refl, refl))), tt), refl), (((shown _ _ _ refl refl refl refl (image_of (one_change ∷ [])) refl refl as_set (λ _. refl) (λ _. refl), (tt, tt)), tt, refl), tt)))))

pub written_lost : (at : ℕ) → LawfulAfter (crash_behind to_save Old (7 ∷ []) (verb.AtVb 0 0 vb_verb.Show)) (crash_behind_groups saved_groups (restarted at) (none_shown Role.Active 7)) → ⊥
written_lost at l = two_numbers 0 1 (omega arith) l.1.1.1.1.1.1.1.1.0.0.0.at

pub saved : LawfulAfter (crash_behind to_done Old (7 ∷ []) (verb.AtVb 0 0 vb_verb.Stat)) (crash_behind_groups counted_groups (restarted 1) (stat_of 1 1))
saved = lawful_from_made (crash_behind to_done Old (7 ∷ []) (verb.AtVb 0 0 vb_verb.Stat)) (crash_behind_groups counted_groups (restarted 1) (stat_of 1 1)) refl
    (taken _, ((tt, ((refl, tt), (_, refl)), refl), ((tt, (1, refl, refl), refl), ((((refl, cut_off), tt), one_closed, refl), (((record { new = (λ e. omega arith, tt); newest = refl; last = refl; leaves = refl }, tt), ((λ v e. first v (branch_line 0 1 ∷ []) (λ f. no_role Role.Active (rw f at e)) (inl (refl, refl))), tt), refl), (((record { saved_as_known = refl; high_held = refl; flusher = omega arith; filled = omega arith }, tt), tt, refl), tt))))))

pub saved_forgotten : (at : ℕ) → LawfulAfter (crash_behind to_done Old (7 ∷ []) (verb.AtVb 0 0 vb_verb.Stat)) (crash_behind_groups counted_groups (restarted at) (stat_of 0 1)) → ⊥
saved_forgotten at l = two_numbers 0 1 (omega arith) l.1.1.1.1.1.1.1.1.1.0.0.0.saved_as_known

pub undone : LawfulAfter (crash_behind to_save Old (7 ∷ []) (verb.AtVb 0 0 vb_verb.Stat)) (crash_behind_groups saved_groups (restarted 1) (stat_of 1 1))
undone = lawful_from_made (crash_behind to_save Old (7 ∷ []) (verb.AtVb 0 0 vb_verb.Stat)) (crash_behind_groups saved_groups (restarted 1) (stat_of 1 1)) refl
    (taken _, ((tt, ((refl, tt), (_, refl)), refl), ((((refl, cut_off), tt), one_closed, refl), (((record { new = (λ e. omega arith, tt); newest = refl; last = refl; leaves = refl }, tt), ((λ v e. first v (branch_line 0 1 ∷ []) (λ f. no_role Role.Active (rw f at e)) (inl (refl, refl))), tt), refl), (((record { saved_as_known = refl; high_held = refl; flusher = omega arith; filled = omega arith }, tt), tt, refl), tt)))))

pub undone_forgotten : (at : ℕ) → LawfulAfter (crash_behind to_save Old (7 ∷ []) (verb.AtVb 0 0 vb_verb.Stat)) (crash_behind_groups saved_groups (restarted at) (stat_of 0 1)) → ⊥
undone_forgotten at l = two_numbers 0 1 (omega arith) l.1.1.1.1.1.1.1.1.0.0.0.saved_as_known

idle_taken : (b : Batch) → Idle ≡ Taken b → ⊥
idle_taken b e = cc

idle_not_written : (n : ℕ) → Idle ≡ Written n → ⊥
idle_not_written n e = cc

pub taken_lost : LawfulAfter (crash_behind (verb.AtVb 0 0 vb_verb.Take ∷ []) New (7 ∷ []) (verb.AtVb 0 0 vb_verb.Save)) (crash_behind_groups (took ∷ []) (restarted 0) ([], answer.No cause.NothingTaken))
taken_lost = lawful_from_made (crash_behind (verb.AtVb 0 0 vb_verb.Take ∷ []) New (7 ∷ []) (verb.AtVb 0 0 vb_verb.Save)) (crash_behind_groups (took ∷ []) (restarted 0) ([], answer.No cause.NothingTaken)) refl
    (taken _, ((((refl, cut_off), tt), one_closed, refl), (((record { new = (λ e. omega arith, tt); newest = refl; last = refl; leaves = refl }, tt), ((λ v e. first v (branch_line 0 0 ∷ []) (λ f. no_role Role.Active (rw f at e)) (inl (refl, refl))), tt), refl), ((tt, (tt, tt), refl), tt))))

pub taken_survives : (at : ℕ) → LawfulAfter (crash_behind (verb.AtVb 0 0 vb_verb.Take ∷ []) New (7 ∷ []) (verb.AtVb 0 0 vb_verb.Save)) (crash_behind_groups (took ∷ []) (restarted at) (ok [])) → ⊥
taken_survives at l = let (b, e) = l.1.1.1.1.1.1.1.0.1.1 in idle_taken b e

pub written_survives : (at saved : ℕ) → LawfulAfter (crash_behind to_save New (7 ∷ []) (verb.AtVb 0 0 vb_verb.Done)) (crash_behind_groups saved_groups (restarted at) ([], answer.Number saved)) → ⊥
written_survives at n l = let (end, e, said) = l.1.1.1.1.1.1.1.1.0.1 in idle_not_written end e

pub own_log : LawfulAfter (crash_behind to_save Old (7 ∷ []) (verb.AtVb 0 0 vb_verb.Log)) (crash_behind_groups saved_groups (restarted 1) (ok (event.Logged 0 0 made_log ∷ [])))
own_log = lawful_from_made (crash_behind to_save Old (7 ∷ []) (verb.AtVb 0 0 vb_verb.Log)) (crash_behind_groups saved_groups (restarted 1) (ok (event.Logged 0 0 made_log ∷ []))) refl
    (taken _, ((tt, ((refl, tt), (_, refl)), refl), ((((refl, cut_off), tt), one_closed, refl), (((record { new = (λ e. omega arith, tt); newest = refl; last = refl; leaves = refl }, tt), ((λ v e. first v (branch_line 0 1 ∷ []) (λ f. no_role Role.Active (rw f at e)) (inl (refl, refl))), tt), refl), (((refl, tt), tt, refl), tt)))))

pub log_lost : (at : ℕ) → LawfulAfter (crash_behind to_save Old (7 ∷ []) (verb.AtVb 0 0 vb_verb.Log)) (crash_behind_groups saved_groups (restarted at) (ok (event.Logged 0 0 (log_of 5) ∷ []))) → ⊥
log_lost at l = let e : ◌≡◌ {A = ℕ} 7 5 = ap (λ es. uuid_of (front es)) l.1.1.1.1.1.1.1.1.0.0.0 in omega arith

replica_active : ◌≡◌ {A = Option Role} (Some Role.Replica) (Some Role.Active) → ⊥
replica_active e = cc

pub cut_log : LawfulGroups after_noted_back log_after_crash (log_after_crash_groups (log_of 5))
cut_log = whole after_noted_back log_after_crash (log_after_crash_groups (log_of 5)) refl ((((_, refl), tt), (λ c. refl), refl), ((tt, ((λ v e. absurd (replica_active e)), tt), refl), (((refl, tt), tt, refl), tt))) (shut_heard after_noted_back log_after_crash (log_after_crash_groups (log_of 5)) (λ n c. refl) refl) (Told ((one_cut 1, tt), ((tt, tt), ((tt, tt), tt))))

pub cut_log_back : LawfulGroups after_noted_back log_after_crash (log_after_crash_groups made_log) → ⊥
cut_log_back l = let e : ◌≡◌ {A = ℕ} 5 7 = ap (λ es. uuid_of (front es)) l.1.1.0.0.0 in omega arith

-- vBuckets that come back

pub branched : LawfulAfter (crash_behind [] Old (7 ∷ []) (verb.AtVb 0 0 vb_verb.Show)) (crash_behind_groups [] (restarted 0) (none_shown Role.Active 7))
branched = lawful_from_made (crash_behind [] Old (7 ∷ []) (verb.AtVb 0 0 vb_verb.Show)) (crash_behind_groups [] (restarted 0) (none_shown Role.Active 7)) refl
    ((((refl, cut_off), tt), one_closed, refl), (((record { new = (λ e. omega arith, tt); newest = refl; last = refl; leaves = refl }, tt), ((λ v e. first v (branch_line 0 0 ∷ []) (λ f. no_role Role.Active (rw f at e)) (inl (refl, refl))), tt), refl), (((shown _ _ _ refl refl refl refl nothing refl refl as_made (λ _. refl) (λ _. refl), tt), tt, refl), tt)))

pub no_branch : (last : List Event) (said : Answer) → LawfulAfter (crash_behind [] Old (7 ∷ []) (verb.AtVb 0 0 vb_verb.Show)) (crash_behind_groups [] (ok []) (last, said)) → ⊥
no_branch last said l = l.1.1.1.1.1.0.1.0 0 refl

pub other_branch : (last : List Event) (said : Answer) → LawfulAfter (crash_behind [] Old (7 ∷ []) (verb.AtVb 0 0 vb_verb.Show)) (crash_behind_groups [] (ok (branch_line 1 0 ∷ [])) (last, said)) → ⊥
other_branch last said l = ⊎_elim (λ e. two_numbers 0 1 (omega arith) (sym e.1)) (λ x. x) (l.1.1.1.1.1.0.1.0 0 refl)

pub short : LawfulAfter (crash_behind [] Old [] (verb.AtVb 0 0 vb_verb.Show)) (crash_behind_groups [] ([], answer.No cause.IdsShort) ([], answer.No cause.NodeDown))
short = lawful_from_made (crash_behind [] Old [] (verb.AtVb 0 0 vb_verb.Show)) (crash_behind_groups [] ([], answer.No cause.IdsShort) ([], answer.No cause.NodeDown)) refl
    ((((refl, cut_off), tt), one_closed, refl), ((tt, (refl, omega arith, tt), refl), ((tt, (refl, inl refl), refl), tt)))

pub short_active : (uuid : ℕ) → LawfulAfter (crash_behind [] Old [] (verb.AtVb 0 0 vb_verb.Show)) (crash_behind_groups [] ([], answer.No cause.IdsShort) (none_shown Role.Active uuid)) → ⊥
short_active uuid l = not_active l.1.1.1.1.1.1.0.0.0.role

pub old_branch_shown : (at : ℕ) → LawfulAfter (crash_behind [] Old (7 ∷ []) (verb.AtVb 0 0 vb_verb.Show)) (crash_behind_groups [] (restarted at) (none_shown Role.Active 5)) → ⊥
old_branch_shown at l = let e : ◌≡◌ {A = Option ℕ} (Some 7) (Some 5) = (l.1.1.1.1.1.1.0.0.0.complete refl).active refl in cc

pub dead : LawfulAfter (crash_behind (verb.AtVb 0 0 vb_verb.Dead ∷ []) Old [] (verb.AtVb 0 0 vb_verb.Show)) (crash_behind_groups (ok (dead_line ∷ []) ∷ []) (ok []) (none_shown Role.Dead 5))
dead = lawful_from_made (crash_behind (verb.AtVb 0 0 vb_verb.Dead ∷ []) Old [] (verb.AtVb 0 0 vb_verb.Show)) (crash_behind_groups (ok (dead_line ∷ []) ∷ []) (ok []) (none_shown Role.Dead 5)) refl
    (((record { another = λ e. cc; anew = λ e. cc; pending = λ e. cc }, tt), (refl, tt), refl), ((((refl, cut_off), tt), one_closed, refl), ((tt, ((λ v e. either_way v (λ t. absurd (not_active (rw t at e))) (λ f. absurd (no_role Role.Active (rw f at e)))), tt), refl), (((shown _ _ _ refl refl refl refl nothing refl refl as_made (λ _. refl) (λ e. cc), tt), tt, refl), tt))))

pub dead_replica : LawfulAfter (crash_behind (verb.AtVb 0 0 vb_verb.Dead ∷ []) Old [] (verb.AtVb 0 0 vb_verb.Show)) (crash_behind_groups (ok (dead_line ∷ []) ∷ []) (ok []) (none_shown Role.Replica 5)) → ⊥
dead_replica l = let e : ◌≡◌ {A = Option Role} (Some Role.Dead) (Some Role.Replica) = l.1.1.1.1.1.1.1.0.0.0.role in cc

pub dead_active : LawfulAfter (crash_behind (verb.AtVb 0 0 vb_verb.Dead ∷ []) Old [] (verb.AtVb 0 0 vb_verb.Show)) (crash_behind_groups (ok (dead_line ∷ []) ∷ []) (ok []) (none_shown Role.Active 5)) → ⊥
dead_active l = not_active l.1.1.1.1.1.1.1.0.0.0.role

pub unnoted : LawfulAfter (dead_unwritten Old) (dead_unwritten_groups (restarted 0) (none_shown Role.Active 7))
unnoted = lawful_from_made (dead_unwritten Old) (dead_unwritten_groups (restarted 0) (none_shown Role.Active 7)) refl
    ((tt, tt, refl), (((record { another = λ e. cc; anew = λ e. cc; pending = λ e. cc }, (omega arith, tt)), (refl, (omega arith, omega arith)), refl), ((((refl, cut_off), tt), one_closed, refl), (((record { new = (λ e. omega arith, tt); newest = refl; last = refl; leaves = refl }, tt), ((λ v e. first v (branch_line 0 0 ∷ []) (λ f. no_role Role.Active (rw f at e)) (inl (refl, refl))), tt), refl), (((shown _ _ _ refl refl refl refl nothing refl refl as_made (λ _. refl) (λ _. refl), tt), tt, refl), tt)))))

pub unnoted_dead : (at : ℕ) → LawfulAfter (dead_unwritten Old) (dead_unwritten_groups (restarted at) (none_shown Role.Dead 7)) → ⊥
unnoted_dead at l = let e : ◌≡◌ {A = Option Role} (Some Role.Active) (Some Role.Dead) = l.1.1.1.1.1.1.1.1.0.0.0.role in cc

pub unnoted_silent : (last : List Event) (said : Answer) → LawfulAfter (dead_unwritten Old) (dead_unwritten_groups (ok []) (last, said)) → ⊥
unnoted_silent last said l = l.1.1.1.1.1.1.1.0.1.0 0 refl

pub found : LawfulAfter (dead_unwritten New) (dead_unwritten_groups (ok []) (none_shown Role.Dead 5))
found = lawful_from_made (dead_unwritten New) (dead_unwritten_groups (ok []) (none_shown Role.Dead 5)) refl
    ((tt, tt, refl), (((record { another = λ e. cc; anew = λ e. cc; pending = λ e. cc }, (omega arith, tt)), (refl, (omega arith, omega arith)), refl), ((((refl, cut_off), tt), one_closed, refl), ((tt, ((λ v e. either_way v (λ t. absurd (not_active (rw t at e))) (λ f. absurd (no_role Role.Active (rw f at e)))), tt), refl), (((shown _ _ _ refl refl refl refl nothing refl refl as_made (λ _. refl) (λ e. cc), tt), tt, refl), tt)))))

pub found_active : LawfulAfter (dead_unwritten New) (dead_unwritten_groups (ok []) (none_shown Role.Active 5)) → ⊥
found_active l = not_active l.1.1.1.1.1.1.1.1.0.0.0.role

pub on_new : LawfulAfter set_restarted (set_restarted_groups 7)
on_new = lawful_from_heard set_restarted (set_restarted_groups 7) refl
    (taken _, ((tt, ((refl, tt), (_, refl)), refl), ((((refl, cut_off), tt), one_closed, refl), (((record { new = (λ e. omega arith, tt); newest = refl; last = refl; leaves = refl }, tt), ((λ v e. first v (branch_line 0 1 ∷ []) (λ f. no_role Role.Active (rw f at e)) (inl (refl, refl))), tt), refl), ((tt, refl, refl), (((search (arith, second_next), ((refl, λ z. next_told _ _ _ refl refl refl), tt)), refl, refl), tt))))))
    (λ s e. heard_then _ _ _ _ _ refl s (λ s. heard_then _ _ _ _ _ refl s (λ s. heard_then _ _ _ _ _ refl s (λ s. heard_then _ _ _ _ _ refl s (λ s. heard_then _ _ _ _ _ refl s (λ s. nine_then _ 10 10 7 _ next_change _ _ refl refl s (λ s e. silent_heard _ _ _ s refl))))))) (tt, (tt, (tt, (tt, (tt, (made_stored 7 2 next_change refl, tt))))))

pub on_old : LawfulAfter set_restarted (set_restarted_groups 5) → ⊥
on_old l = let e : ◌≡◌ {A = Option ℕ} (Some 7) (Some 5) = l.1.1.1.1.1.1.1.1.1.0.0.0.writer.on_branch in cc

-- a prepare that was written down is committed as its node starts
no_commit : (number : ℕ) (doc : Doc) (deleted : Bool) → prepared.act ≡ Commit number doc deleted → ⊥
no_commit number doc deleted e = cc

-- the prepare that waits
abbrev waits : Pend
waits = record { seq = 2; level = level.Majority; doc = first_doc 2 (6 ∷ []); deleted = false }

waits_there : get (image_of (one_change ∷ prepared ∷ [])).pending (9 ∷ []) ≡ Some waits
waits_there = get-insert_same (image_of (one_change ∷ [])).pending (9 ∷ []) waits

-- its node is a majority, as it is the whole chain
waits_held : (saved : ℕ) (p : Pend) → get (image_of (one_change ∷ prepared ∷ [])).pending (9 ∷ []) ≡ Some p → IsHeldByMost (alone 2) saved p.seq p.level
waits_held saved p there =
    let found : Some waits ≡ Some p = sym waits_there ∙ there in let same : waits ≡ p = cc in
    subst (λ (q : Pend). IsHeldByMost (alone 2) saved q.seq q.level) same (record { members = []; differ = tt; each = tt; most = omega arith; saved_for = λ w. absurd w })

-- a commit of it
of_waiting : (number : ℕ) (doc : Doc) (deleted : Bool) → (commit_of 2).act ≡ Commit number doc deleted → (waits.seq ≡ number) × (waits.doc ≡ doc) × (waits.deleted ≡ deleted)
of_waiting number doc deleted e = (cc, cc, cc)

abbrev commits_told : List Event
commits_told = branch_line 0 2 ∷ event.Changed 0 0 7 (commit_of 2) ∷ []

-- the client that asked for it
abbrev waiting : ClientKnown
waiting = with_sent_bytes (spelling durable_nine) (read.clients_at 0 1)

pub commits : LawfulAfter seal_restarted (seal_restarted_groups commits_told)
commits = lawful_from_heard seal_restarted (seal_restarted_groups commits_told) refl (
  (
    (
      record {
        active = refl;
        writer = record { made_or_took = refl; on_branch = refl };
        above_branch = omega arith;
        above_forks = (λ e. omega arith, tt);
        made = nine_next prepared.act 2 (omega arith) (omega arith) refl refl refl refl;
        fulfils = λ number doc deleted e. absurd (no_commit number doc deleted e);
        backed = λ number doc deleted e. absurd (no_commit number doc deleted e);
        asked = prepare_sent _ (durably_sent (read.clients_at 0 1) seven_past);
        aborts = λ prepared e. cc;
      },
      tt,
    ),
    refl,
    refl,
  ),
  (
    ((record { idle = refl; goes_on = omega arith; held = omega arith; starts = omega arith; ends = omega arith; some = omega arith; most = omega arith }, tt), refl, refl),
    (
      (tt, ((refl, tt), (_, refl)), refl),
      (
        (((refl, cut_off), tt), one_closed, refl),
        (
          (
            (
              record { new = (λ e. omega arith, tt); newest = refl; last = refl; leaves = refl },
              (
                record {
                  active = refl;
                  writer = record { made_or_took = refl; on_branch = refl };
                  above_branch = omega arith;
                  above_forks = (λ e. omega arith, (λ e. omega arith, tt));
                  made = resolving_next (one_change ∷ prepared ∷ []) (commit_of 2) waits refl waits_there refl refl refl refl;
                  fulfils = λ number doc deleted e. let t = of_waiting number doc deleted e in (waits, waits_there, t.0, t.1, t.2);
                  backed = λ number doc deleted e. waits_held _;
                  asked = λ level doc deleted e. cc;
                  aborts = λ prepared e. cc;
                },
                tt,
              ),
            ),
            ((λ v e. first v commits_told (λ f. no_role Role.Active (rw f at e)) (inl (refl, refl))), tt),
            refl,
          ),
          ((tt, refl, refl), tt),
        ),
      ),
    ),
  ),
) (λ s e. let sent = durably_sent (read.clients_at 0 1) e in let gone = twice_silent read.clients_at 0 1 waiting blank_client s refl in
    waits_by _ _ _ _ _ read.clients_at waiting s sent refl (waits_by _ _ _ _ _ read.clients_at waiting s sent refl (waits_by _ _ _ _ _ read.clients_at waiting s sent refl (gone_by _ _ _ _ _ gone refl)))) (all_stored (groups_from_number 5 (seal_restarted_groups commits_told)) refl)

pub commits_on_old : LawfulAfter seal_restarted (seal_restarted_groups (branch_line 0 2 ∷ event.Changed 0 0 5 (commit_of 2) ∷ [])) → ⊥
commits_on_old l = let e : ◌≡◌ {A = Option ℕ} (Some 7) (Some 5) = l.1.1.1.1.1.1.1.1.0.0.1.0.writer.on_branch in cc

pub commits_early : (uuid : ℕ) → LawfulAfter seal_restarted (seal_restarted_groups (event.Changed 0 0 uuid (commit_of 2) ∷ branch_line 0 2 ∷ [])) → ⊥
commits_early uuid l = not_active l.1.1.1.1.1.1.1.1.0.0.0.active

pub commits_other : LawfulAfter seal_restarted (seal_restarted_groups (branch_line 0 2 ∷ event.Changed 0 0 7 (commit_of 1) ∷ [])) → ⊥
commits_other l =
    let x = l.1.1.1.1.1.1.1.1.0.0.1.0.fulfils 1 (first_doc 2 (6 ∷ [])) false refl in
    let found : Some waits ≡ Some x.0 = sym waits_there ∙ x.1 in
    let same : waits ≡ x.0 = cc in
    two_numbers 1 2 (omega arith) (sym (ap (λ (p : Pend). p.seq) same ∙ x.2))

pub unmade : Lawful (made_under 1 New) (made_under_groups (ok []) ([], answer.No cause.UnknownVb))
unmade = whole empty_chronicle (made_under 1 New) (made_under_groups (ok []) ([], answer.No cause.UnknownVb)) refl ((tt, tt, refl), ((tt, tt, refl), (((record { new = tt; newest = refl; last = refl; leaves = refl }, (record { another = λ e. cc; anew = λ e. made_here _ _ _ 5 refl refl refl; pending = λ e. cc }, (omega arith, tt))), (refl, (omega arith, omega arith)), refl), ((tt, (λ c. refl), refl), ((tt, ((λ v e. either_way v (λ t. absurd (no_role Role.Active (rw t at e))) (λ f. absurd (no_role Role.Active (rw f at e)))), tt), refl), ((tt, tt, refl), tt)))))) (silent_heard empty_chronicle (made_under 1 New) (made_under_groups (ok []) ([], answer.No cause.UnknownVb)) silent_start refl) (Never (λ l. refl))

pub unmade_shown : (said : Role) (uuid : ℕ) → Lawful (made_under 1 New) (made_under_groups (ok []) (none_shown said uuid)) → ⊥
unmade_shown said uuid l = no_role said l.1.1.1.1.1.0.0.0.role

pub late : Lawful (made_under 4 New) (made_under_groups (restarted 0) (none_shown Role.Active 7))
late = whole empty_chronicle (made_under 4 New) (made_under_groups (restarted 0) (none_shown Role.Active 7)) refl ((tt, tt, refl), ((tt, tt, refl), (((record { new = tt; newest = refl; last = refl; leaves = refl }, (record { another = λ e. cc; anew = λ e. made_here _ _ _ 5 refl refl refl; pending = λ e. cc }, (omega arith, tt))), (refl, (omega arith, omega arith)), refl), ((tt, (λ c. refl), refl), (((record { new = (λ e. omega arith, tt); newest = refl; last = refl; leaves = refl }, tt), ((λ v e. first v (branch_line 0 0 ∷ []) (λ f. no_role Role.Active (rw f at e)) (inl (refl, refl))), tt), refl), (((shown _ _ _ refl refl refl refl nothing refl refl as_made (λ _. refl) (λ _. refl), tt), tt, refl), tt)))))) (silent_heard empty_chronicle (made_under 4 New) (made_under_groups (restarted 0) (none_shown Role.Active 7)) silent_start refl) (Never (λ l. refl))

pub late_shown : (said : Role) (uuid : ℕ) → Lawful (made_under 4 Old) (made_under_groups (ok []) (none_shown said uuid)) → ⊥
late_shown said uuid l = no_role said l.1.1.1.1.1.0.0.0.role
