-- appends that close a journal, judged by hand
use Rattle.std.specs.Prelude.{◌≡◌, ◌<◌, ◌≤◌, ◌∷◌}
use Rattle.transcript_law.proofs.Words.{ℕ, Bool, true, false, List, [], refl, sym, ◌∙◌, arith, inl, ⊎_elim, list_any, Some, None, Cause, Chronicle, NodeVerb, Event, Role, Lawful, LawfulAnswer, LawfulGroups, next_change}
use Rattle.transcript_law.proofs.{rows.CrashRows.{first, lawful_from_heard, lawful_from_made, no_role, cut_off, one_closed, read, taken}, rows.{Groups.{Quiet, whole}, StoredRows.{made_stored}, NextRows.{second_next}, Sets.{heard_then, next_told, nine_sent, nine_then, seven_past}, Silent.{shut_heard, silent_heard}}}
use Rattle.transcript_law.specs.ClosedJournals.{back_line, dead_after_start, dead_after_start_groups, dialed_for, down_under, down_under_groups, fails_down, follow_after_crash, follow_after_crash_groups, follow_line, found_closed, save_again, save_again_groups, save_given_up, save_given_up_groups, save_none, save_none_groups, save_twice, save_twice_groups, sent_back_for, sent_back_under}
use Rattle.transcript_law.specs.Crashes.{LawfulAfter, branch_line, dead_line, dead_under, dead_under_groups, failed_behind, numbered, ok, groups_from_number}
use Rattle.transcript_law.specs.{BoundRows.{LawfulHere}, Chronicles.{Idle, Taken, after_group, at_line, is_rise}, Downs.{refused}, LineAnswers.{Back, IsBack, IsOwed}}
use Rattle.script_text.specs.declared.verb.Verb.TheVariants as verb
use Rattle.script_text.specs.declared.verb.VbVerb.TheVariants as vb_verb
use Rattle.script_text.specs.declared.verb.NodeVerb.TheVariants as node_verb
use Rattle.script_text.specs.declared.verb.LinkVerb.TheVariants as link_verb
use Rattle.vb_disk.specs.declared.fuse.Fuse.TheVariants.{Fail, Stop}
use Rattle.vb_disk.specs.declared.made.Outcome.TheVariants.{Old}
use Rattle.vb_events.specs.declared.event.Answer.TheVariants as answer
use Rattle.vb_events.specs.declared.event.Cause.TheVariants as cause
use Rattle.vb_types.specs.declared.journal.Batch.{Batch}
use Rattle.transcript_law.proofs.verbs.Handing.{no_rise, tells_of}

is_shut : true ≡ false → ⊥
is_shut e = cc

-- a failed append closes it

pub follows : (k : ℕ) (lines : List Event) → LawfulAfter (dead_under (verb.AtNode 0 (node_verb.Fail k)) (verb.AtVb 0 0 vb_verb.Follow)) (dead_under_groups (failed_behind (dead_line ∷ [])) (ok lines)) → ⊥
follows k lines l = is_shut l.1.1.1.1.1.1.0.1.0

pub stands : LawfulAfter (verb.AtVb 0 0 vb_verb.Dead ∷ []) (ok (dead_line ∷ []) ∷ [])
stands = lawful_from_made (verb.AtVb 0 0 vb_verb.Dead ∷ []) (ok (dead_line ∷ []) ∷ []) refl (((record { another = λ e. cc; anew = λ e. cc; pending = λ e. cc }, tt), (refl, tt), refl), tt)

pub unfailed : (lines : List Event) → LawfulAfter (verb.AtVb 0 0 vb_verb.Dead ∷ []) (found_closed lines ∷ []) → ⊥
unfailed lines l = is_shut (sym l.1.1.1.1.0.1)

pub unmade : (lines : List Event) → Lawful (numbered 1 (verb.Node 0 ∷ verb.AtVb 0 0 vb_verb.MakeReplica ∷ [])) (groups_from_number 1 (ok [] ∷ found_closed lines ∷ [])) → ⊥
unmade lines l = is_shut (sym l.1.0.1)

pub again : LawfulAfter save_again (save_again_groups (found_closed []))
again = lawful_from_heard save_again (save_again_groups (found_closed [])) refl (
  taken _,
  (
    (tt, tt, refl),
    (
      ((omega arith, tt), ((refl, (omega arith, omega arith)), (_, refl)), refl),
      (
        ((search (arith, second_next), ((refl, λ z. next_told _ _ _ (nine_sent (read.clients_at 0 1) seven_past) refl refl), tt)), refl, refl),
        (((record { idle = refl; goes_on = omega arith; held = omega arith; starts = omega arith; ends = omega arith; some = omega arith; most = omega arith }, tt), refl, refl), ((tt, (refl, (_, refl)), refl), tt)),
      ),
    ),
  ),
)
    (λ s e. heard_then _ _ _ _ _ refl s (λ s. heard_then _ _ _ _ _ refl s (λ s. heard_then _ _ _ _ _ refl s (λ s. nine_then _ 8 8 5 _ next_change _ _ refl e s (λ s e. silent_heard _ _ _ s refl))))) (tt, (tt, (tt, (made_stored 5 2 next_change refl, (tt, (tt, tt))))))

pub again_ok : LawfulAfter save_again (save_again_groups (ok [])) → ⊥
again_ok l = is_shut l.1.1.1.1.1.1.1.1.1.0.1.0.0

pub twice_ok : LawfulAfter save_twice (save_twice_groups (ok [])) → ⊥
twice_ok l = is_shut l.1.1.1.1.1.1.1.1.0.1.0.0

-- of a batch, where there is one

untaken : (b : Batch) → Idle ≡ Taken b → ⊥
untaken b e = cc

pub none_taken : LawfulAfter (save_none (verb.AtNode 0 (node_verb.Fail 1))) (save_none_groups (refused cause.NothingTaken))
none_taken = lawful_from_made (save_none (verb.AtNode 0 (node_verb.Fail 1))) (save_none_groups (refused cause.NothingTaken)) refl ((tt, tt, refl), ((tt, (tt, tt), refl), tt))

pub none_failed : (lines : List Event) → LawfulAfter (save_none (verb.AtNode 0 (node_verb.Fail 1))) (save_none_groups (lines, answer.No cause.Disk)) → ⊥
none_failed lines l = let taken = l.1.1.1.1.1.0.1.1 in untaken taken.0 taken.1

pub none_stopped : (lines : List Event) → LawfulAfter (save_none (verb.AtNode 0 (node_verb.Stop 1 Old))) (save_none_groups (lines, answer.No cause.Stopped)) → ⊥
none_stopped lines l = let taken = l.1.1.1.1.1.0.1.1 in untaken taken.0 taken.1

pub given_up : LawfulAfter save_given_up (save_given_up_groups (refused cause.NothingTaken))
given_up = lawful_from_made save_given_up (save_given_up_groups (refused cause.NothingTaken)) refl
    (taken _, ((tt, tt, refl), (((omega arith, tt), ((refl, (omega arith, omega arith)), (_, refl)), refl), ((tt, (tt, tt), refl), tt))))

pub given_up_closed : (lines : List Event) → LawfulAfter save_given_up (save_given_up_groups (found_closed lines)) → ⊥
given_up_closed lines l = let taken = l.1.1.1.1.1.1.1.0.1.1 in untaken taken.0 taken.1

-- and a crash opens it

pub opened : LawfulAfter follow_after_crash (follow_after_crash_groups (ok (follow_line ∷ [])))
opened = lawful_from_made follow_after_crash (follow_after_crash_groups (ok (follow_line ∷ []))) refl (
  (tt, tt, refl),
  (
    ((record { another = λ e. cc; anew = λ e. cc; pending = λ e. cc }, (omega arith, tt)), (refl, (omega arith, omega arith)), refl),
    (
      (((refl, cut_off), tt), one_closed, refl),
      (((record { new = (λ e. omega arith, tt); newest = refl; last = refl; leaves = refl }, tt), ((λ v e. first v (branch_line 0 0 ∷ []) (λ f. no_role Role.Active (rw f at e)) (inl (refl, refl))), tt), refl), (((record { another = λ e. cc; anew = λ e. cc; pending = λ e. cc }, tt), (refl, tt), refl), tt)),
    ),
  ),
)

pub opened_closed : (lines : List Event) → LawfulAfter follow_after_crash (follow_after_crash_groups (found_closed lines)) → ⊥
opened_closed lines l = is_shut (sym l.1.1.1.1.1.1.1.1.0.1)

-- unless its append fails as the node starts

two_of_five : 2 ≤ 5
two_of_five = omega arith

pub started : LawfulAfter dead_after_start (dead_after_start_groups (found_closed (dead_line ∷ [])))
started = lawful_from_made dead_after_start (dead_after_start_groups (found_closed (dead_line ∷ []))) refl
    ((((refl, cut_off), tt), one_closed, refl), ((tt, tt, refl), (((record { new = (λ e. omega arith, tt); newest = refl; last = refl; leaves = refl }, (omega arith, tt)), (omega arith, two_of_five), refl), (((record { another = λ e. cc; anew = λ e. cc; pending = λ e. cc }, tt), refl, refl), tt))))

pub started_ok : (lines : List Event) → LawfulAfter dead_after_start (dead_after_start_groups (ok lines)) → ⊥
started_ok lines l = is_shut l.1.1.1.1.1.1.1.0.1.0

-- a rollback

pub back : LawfulAnswer (sent_back_for false) (verb.AtLink 1 (link_verb.Down 10)) (back_line ∷ []) (answer.Number 10)
back = ((omega arith, λ e. ((_, refl, refl), (refl, tt)), λ e. cc), tt)

pub back_stands : LawfulAnswer (sent_back_for true) (verb.AtLink 1 (link_verb.Down 10)) (back_line ∷ []) (answer.Number 10) → ⊥
back_stands l = is_shut (l.0.1 refl).1.0

pub back_passes : LawfulAnswer (sent_back_under (Fail 5)) (verb.AtLink 1 (link_verb.Down 10)) (back_line ∷ []) (answer.Number 10)
back_passes = ((omega arith, λ e. ((_, refl, refl), (refl, omega arith)), λ e. cc), tt)

pub back_failed : (k : ℕ) → k ≤ 4 → LawfulAnswer (sent_back_under (Fail k)) (verb.AtLink 1 (link_verb.Down 10)) (back_line ∷ []) (answer.Number 10) → ⊥
back_failed k few l = let passed : 4 < k = (l.0.1 refl).1.1 in omega (arith, few, passed)

pub back_stopped : (k : ℕ) → k ≤ 4 → LawfulAnswer (sent_back_under (Stop k)) (verb.AtLink 1 (link_verb.Down 10)) (back_line ∷ []) (answer.Number 10) → ⊥
back_stopped k few l = let passed : 4 < k = (l.0.1 refl).1.1 in omega (arith, few, passed)

pub back_shut : LawfulAnswer (sent_back_for true) (verb.AtLink 1 (link_verb.Down 10)) [] (answer.No cause.Closed)
back_shut = ((refl, inl (_, refl), refl), tt)

pub back_closed : LawfulAnswer (sent_back_for false) (verb.AtLink 1 (link_verb.Down 10)) [] (answer.No cause.Closed) → ⊥
back_closed l = is_shut (sym l.0.0)

pub back_refused : (closed : Bool) (why : Cause) → LawfulAnswer (sent_back_for closed) (verb.AtLink 1 (link_verb.Down 10)) (back_line ∷ []) (answer.No why) → ⊥
back_refused closed why l = is_shut l.0.2

pub back_fails : LawfulGroups (sent_back_for false) (down_under (verb.AtNode 1 (node_verb.Fail 1))) (down_under_groups fails_down)
back_fails = whole (sent_back_for false) (down_under (verb.AtNode 1 (node_verb.Fail 1))) (down_under_groups fails_down) refl ((tt, tt, refl), (((omega arith, ((_, refl), tt)), (((refl, (omega arith, omega arith)), inl (_, refl), refl), tt), refl), tt))
    (shut_heard (sent_back_for false) (down_under (verb.AtNode 1 (node_verb.Fail 1))) (down_under_groups fails_down) (λ n c. refl) refl) (Quiet refl)

-- where the link was not sent back there is none

none_back : IsBack None → ⊥
none_back b = let e : ◌≡◌ {A = Back} None (Some b.0) = b.1 in cc

-- nor is a record owed, where no vBucket takes its branch over
unowed : (lines : List Event) → IsOwed None lines → list_any is_rise lines ≡ false → ⊥
unowed lines owed level = ⊎_elim none_back (λ rises. let z : false ≡ true = sym level ∙ rises in cc) owed

-- what was read when the node 1 has this arm
abbrev behind : NodeVerb → Chronicle
behind arm = at_line (after_group (at_line (dialed_for false) 1) (verb.AtNode 1 arm) [] answer.Ok) 2

pub unsent_failed : (lines : List Event) → LawfulGroups (dialed_for false) (down_under (verb.AtNode 1 (node_verb.Fail 1))) (down_under_groups (lines, answer.No cause.Disk)) → ⊥
unsent_failed lines l = unowed lines l.1.0.1.0.1 (no_rise (behind (node_verb.Fail 1)) 1 10 lines (tells_of (behind (node_verb.Fail 1)) (verb.AtLink 1 (link_verb.Down 10)) lines (answer.No cause.Disk) refl l.1.0.5))

pub unsent_stopped : (lines : List Event) → LawfulGroups (dialed_for false) (down_under (verb.AtNode 1 (node_verb.Stop 1 Old))) (down_under_groups (lines, answer.No cause.Stopped)) → ⊥
unsent_stopped lines l = unowed lines l.1.0.1.0.1 (no_rise (behind (node_verb.Stop 1 Old)) 1 10 lines (tells_of (behind (node_verb.Stop 1 Old)) (verb.AtLink 1 (link_verb.Down 10)) lines (answer.No cause.Stopped) refl l.1.0.5))

pub unsent_closed : (lines : List Event) → LawfulHere (dialed_for true) (verb.AtLink 1 (link_verb.Down 10)) (lines, answer.No cause.Closed) → ⊥
unsent_closed lines l = unowed lines l.0.1.0.1 (no_rise (at_line (dialed_for true) 1) 1 10 lines (tells_of (at_line (dialed_for true) 1) (verb.AtLink 1 (link_verb.Down 10)) lines (answer.No cause.Closed) refl l.0.5))

pub unsent_back : (closed : Bool) → LawfulAnswer (dialed_for closed) (verb.AtLink 1 (link_verb.Down 10)) (back_line ∷ []) (answer.Number 10) → ⊥
unsent_back closed l = let b = (l.0.1 refl).0 in none_back (b.0, b.1)
