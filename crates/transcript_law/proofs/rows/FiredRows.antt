-- what a group tells of arms that fired and of rollbacks, judged by hand
use Rattle.std.specs.Prelude.{◌≡◌, ◌<◌, ◌≤◌, ◌∷◌}
use Rattle.transcript_law.proofs.Words.{ℕ, false, List, [], refl, ap, arith, inl, Option, Some, None, Answer, Event, Role}
use Rattle.transcript_law.proofs.{rows.CrashRows.{fails, first, lawful_from_made, no_role, cut_off, one_closed, passed, stops}, rows.Groups.{Quiet, whole}, rows.Silent.{silent_heard}}
use Rattle.transcript_law.specs.ClosedJournals.{back_line, dialed_for}
use Rattle.transcript_law.specs.Crashes.{LawfulAfter, branch_line, failed_behind, numbered, ok, save_under, save_under_groups, stopped_behind, groups_from_number}
use Rattle.transcript_law.specs.{FiredArms.{LawfulNext, both_sent_back, other_back, seal_under, seal_under_groups, start_short, start_under, start_under_groups, stopped_starting, two_armed, two_armed_groups}, Firings.{FiresAsSaid, writes_at}, Lawfulness.{LawfulRoll}, LineAnswers.{GoesBack, back_of}}
use Rattle.script_text.specs.declared.verb.Verb.TheVariants as verb
use Rattle.script_text.specs.declared.verb.VbVerb.TheVariants as vb_verb
use Rattle.script_text.specs.declared.verb.NodeVerb.TheVariants as node_verb
use Rattle.script_text.specs.declared.verb.LinkVerb.TheVariants as link_verb
use Rattle.script_text.specs.declared.verb.ClientVerb.TheVariants as client_verb
use Rattle.vb_disk.specs.declared.made.Outcome.TheVariants.{Old}
use Rattle.vb_events.specs.declared.event.Answer.TheVariants as answer
use Rattle.vb_events.specs.declared.event.Cause.TheVariants as cause
use Rattle.vb_events.specs.declared.event.EndReason.TheVariants as reason
use Rattle.vb_events.specs.declared.event.Event.TheVariants as event
use Rattle.vb_types.specs.declared.journal.Record.{Record}

-- lists of lines that differ
one_none : (line : Event) (lines : List Event) → line ∷ lines ≡ [] → ⊥
one_none line lines e = cc

none_is_no_one : (line : Event) (lines : List Event) → [] ≡ line ∷ lines → ⊥
none_is_no_one line lines e = cc

two_one : (a b c : Event) (lines : List Event) → a ∷ b ∷ lines ≡ c ∷ [] → ⊥
two_one a b c lines e = cc

-- a call that fails in a save

pub once : LawfulAfter (save_under (verb.AtNode 0 (node_verb.Fail 1))) (save_under_groups (failed_behind []))
once = fails 1 (omega arith) (omega arith)

pub twice : LawfulAfter (save_under (verb.AtNode 0 (node_verb.Fail 1))) (save_under_groups (failed_behind (event.CallFailed 0 ∷ []))) → ⊥
twice l = two_one _ _ _ _ l.1.1.1.1.1.1.0.2

pub untold : LawfulAfter (save_under (verb.AtNode 0 (node_verb.Fail 1))) (save_under_groups ([], answer.No cause.Disk)) → ⊥
untold l = none_is_no_one _ _ l.1.1.1.1.1.1.0.2

pub unfired : LawfulAfter (save_under (verb.AtNode 0 (node_verb.Fail 5))) (save_under_groups (ok []))
unfired = passed

pub fired_ok : LawfulAfter (save_under (verb.AtNode 0 (node_verb.Fail 5))) (save_under_groups (ok (event.CallFailed 0 ∷ []))) → ⊥
fired_ok l = one_none _ _ l.1.1.1.1.1.1.0.2

-- a node that stops in one

pub stopped : LawfulAfter (save_under (verb.AtNode 0 (node_verb.Stop 1 Old))) (save_under_groups (stopped_behind []))
stopped = stops 1 (omega arith) (omega arith)

pub stopped_twice : LawfulAfter (save_under (verb.AtNode 0 (node_verb.Stop 1 Old))) (save_under_groups (stopped_behind (event.NodeStopped 0 ∷ []))) → ⊥
stopped_twice l = two_one _ _ _ _ l.1.1.1.1.1.1.0.2

pub stopped_untold : LawfulAfter (save_under (verb.AtNode 0 (node_verb.Stop 1 Old))) (save_under_groups (event.Closed 0 1 ∷ [], answer.No cause.Stopped)) → ⊥
stopped_untold l = none_is_no_one _ _ l.1.1.1.1.1.1.0.2

pub stopped_ok : LawfulAfter (save_under (verb.AtNode 0 (node_verb.Stop 5 Old))) (save_under_groups (ok (event.NodeStopped 0 ∷ event.Closed 0 1 ∷ []))) → ⊥
stopped_ok l = one_none _ _ l.1.1.1.1.1.1.0.2

-- a line that writes nothing down

pub seals : LawfulAfter seal_under (seal_under_groups ([], answer.Number 1))
seals = lawful_from_made seal_under (seal_under_groups ([], answer.Number 1)) refl ((tt, tt, refl), ((tt, refl, refl), tt))

pub seal_failed : LawfulAfter seal_under (seal_under_groups (event.CallFailed 0 ∷ [], answer.Number 1)) → ⊥
seal_failed l = one_none _ _ l.1.1.1.1.1.0.2

pub seal_disk : (lines : List Event) → LawfulAfter seal_under (seal_under_groups (lines, answer.No cause.Disk)) → ⊥
seal_disk lines l = l.1.1.1.1.1.0.2

pub seal_stopped : (lines : List Event) → LawfulAfter seal_under (seal_under_groups (lines, answer.No cause.Stopped)) → ⊥
seal_stopped lines l = l.1.1.1.1.1.0.2

-- another node whose calls are to fail as well

pub here : LawfulAfter two_armed (two_armed_groups (failed_behind []))
here = lawful_from_made two_armed (two_armed_groups (failed_behind [])) refl ((tt, tt, refl), ((tt, tt, refl), (((record { idle = refl; goes_on = omega arith; held = omega arith; starts = omega arith; ends = omega arith; some = omega arith; most = omega arith }, tt), refl, refl), ((tt, tt, refl), (((omega arith, tt), ((refl, (omega arith, omega arith)), (_, refl)), refl), tt)))))

pub there : LawfulAfter two_armed (two_armed_groups (event.CallFailed 1 ∷ [], answer.No cause.Disk)) → ⊥
there l = let e : event.CallFailed 1 ∷ [] ≡ event.CallFailed 0 ∷ [] = l.1.1.1.1.1.1.1.1.0.2 in let n : ◌≡◌ {A = ℕ} 1 0 = cc in omega arith

-- a node that starts

-- its calls are five: one disk is opened, and one vBucket was active

first_of_five : 1 ≤ 5
first_of_five = omega arith

last_of_five : 5 ≤ 5
last_of_five = omega arith

beyond_five : 5 < 6
beyond_five = omega arith

behind_one : 1 < 2
behind_one = omega arith

pub opened : LawfulAfter (start_under (verb.AtNode 0 (node_verb.Fail 1))) (start_under_groups (failed_behind []))
opened = lawful_from_made (start_under (verb.AtNode 0 (node_verb.Fail 1))) (start_under_groups (failed_behind [])) refl ((((refl, cut_off), tt), one_closed, refl), ((tt, tt, refl), (((omega arith, tt), (omega arith, first_of_five), refl), tt)))

pub opened_untold : LawfulAfter (start_under (verb.AtNode 0 (node_verb.Fail 1))) (start_under_groups ([], answer.No cause.Disk)) → ⊥
opened_untold l = none_is_no_one _ _ l.1.1.1.1.1.1.0.2

pub started : LawfulAfter (start_under (verb.AtNode 0 (node_verb.Fail 6))) (start_under_groups (ok (branch_line 0 0 ∷ [])))
started = lawful_from_made (start_under (verb.AtNode 0 (node_verb.Fail 6))) (start_under_groups (ok (branch_line 0 0 ∷ []))) refl
    ((((refl, cut_off), tt), one_closed, refl), ((tt, tt, refl), (((record { new = (λ e. omega arith, tt); newest = refl; last = refl; leaves = refl }, tt), ((λ v e. first v (branch_line 0 0 ∷ []) (λ f. no_role Role.Active (rw f at e)) (inl (refl, refl))), beyond_five), refl), tt)))

pub started_fired : LawfulAfter (start_under (verb.AtNode 0 (node_verb.Fail 6))) (start_under_groups (ok (branch_line 0 0 ∷ event.CallFailed 0 ∷ []))) → ⊥
started_fired l = one_none _ _ l.1.1.1.1.1.1.0.2

pub opened_ok : (lines : List Event) → LawfulAfter (start_under (verb.AtNode 0 (node_verb.Fail 1))) (start_under_groups (ok lines)) → ⊥
opened_ok lines l = let e : ◌<◌ 5 1 = l.1.1.1.1.1.1.0.1.1 in omega arith

pub last_failed : LawfulAfter (start_under (verb.AtNode 0 (node_verb.Fail 5))) (start_under_groups (failed_behind (branch_line 0 0 ∷ [])))
last_failed = lawful_from_made (start_under (verb.AtNode 0 (node_verb.Fail 5))) (start_under_groups (failed_behind (branch_line 0 0 ∷ []))) refl ((((refl, cut_off), tt), one_closed, refl), ((tt, tt, refl), (((record { new = (λ e. omega arith, tt); newest = refl; last = refl; leaves = refl }, (omega arith, tt)), (omega arith, last_of_five), refl), tt)))

pub last_ok : (lines : List Event) → LawfulAfter (start_under (verb.AtNode 0 (node_verb.Fail 5))) (start_under_groups (ok lines)) → ⊥
last_ok lines l = let e : ◌<◌ 5 5 = l.1.1.1.1.1.1.0.1.1 in omega arith

pub started_far : (lines : List Event) → LawfulAfter (start_under (verb.AtNode 0 (node_verb.Fail 6))) (start_under_groups (lines, answer.No cause.Disk)) → ⊥
started_far lines l = let e : ◌≤◌ 6 5 = l.1.1.1.1.1.1.0.1.1 in omega arith

pub last_stopped : LawfulAfter (start_under (verb.AtNode 0 (node_verb.Stop 5 Old))) (start_under_groups (stopped_starting (branch_line 0 0 ∷ [])))
last_stopped = lawful_from_made (start_under (verb.AtNode 0 (node_verb.Stop 5 Old))) (start_under_groups (stopped_starting (branch_line 0 0 ∷ []))) refl ((((refl, cut_off), tt), one_closed, refl), ((tt, tt, refl), (((record { new = (λ e. omega arith, tt); newest = refl; last = refl; leaves = refl }, ((omega arith, one_closed), tt)), (omega arith, last_of_five), refl), tt)))

pub last_stopped_ok : (lines : List Event) → LawfulAfter (start_under (verb.AtNode 0 (node_verb.Stop 5 Old))) (start_under_groups (ok lines)) → ⊥
last_stopped_ok lines l = let e : ◌<◌ 5 5 = l.1.1.1.1.1.1.0.1.1 in omega arith

pub stopped_far : (lines : List Event) → LawfulAfter (start_under (verb.AtNode 0 (node_verb.Stop 6 Old))) (start_under_groups (lines, answer.No cause.Stopped)) → ⊥
stopped_far lines l = let e : ◌≤◌ 6 5 = l.1.1.1.1.1.1.0.1.1 in omega arith

pub short : LawfulAfter (start_short (verb.AtNode 0 (node_verb.Fail 2))) (start_under_groups ([], answer.No cause.IdsShort))
short = lawful_from_made (start_short (verb.AtNode 0 (node_verb.Fail 2))) (start_under_groups ([], answer.No cause.IdsShort)) refl ((((refl, cut_off), tt), one_closed, refl), ((tt, tt, refl), ((tt, (refl, omega arith, behind_one), refl), tt)))

pub short_unopened : LawfulAfter (start_short (verb.AtNode 0 (node_verb.Fail 1))) (start_under_groups ([], answer.No cause.IdsShort)) → ⊥
short_unopened l = let e : ◌<◌ 1 1 = l.1.1.1.1.1.1.0.1.2 in omega arith

-- a rollback

pub back_failed : FiresAsSaid (writes_at (dialed_for false) (verb.AtLink 1 (link_verb.Down 10))) (event.CallFailed 1 ∷ event.Ended 1 reason.Disk ∷ []) (answer.No cause.Disk)
back_failed = refl

pub back_elsewhere : FiresAsSaid (writes_at (dialed_for false) (verb.AtLink 1 (link_verb.Down 10))) (event.CallFailed 0 ∷ event.Ended 1 reason.Disk ∷ []) (answer.No cause.Disk) → ⊥
back_elsewhere e = let n : ◌≡◌ {A = ℕ} 0 1 = cc in omega arith

-- ---- whose rollback it is

roll_one : LawfulRoll both_sent_back 1 0 1 0
roll_one = ((1, 0, refl, refl), record { saved = refl; below = omega arith; farthest = λ n s most. omega (arith, s) })

roll_other : LawfulRoll both_sent_back 1 1 1 0
roll_other = ((2, 0, refl, refl), record { saved = refl; below = omega arith; farthest = λ n s most. omega (arith, s) })

pub own : LawfulNext (verb.AtLink 1 (link_verb.Down 10)) (back_line ∷ [], answer.Number 10)
own = whole both_sent_back (numbered 1 (verb.AtLink 1 (link_verb.Down 10) ∷ [])) (groups_from_number 1 ((back_line ∷ [], answer.Number 10) ∷ [])) refl (((roll_one, tt), ((omega arith, λ e. ((_, refl, refl), (refl, tt)), λ e. cc), tt), refl), tt) (silent_heard both_sent_back (numbered 1 (verb.AtLink 1 (link_verb.Down 10) ∷ [])) (groups_from_number 1 ((back_line ∷ [], answer.Number 10) ∷ [])) (λ n c. refl) refl) (Quiet refl)

pub other_own : LawfulNext (verb.AtLink 2 (link_verb.Down 10)) (other_back ∷ [], answer.Number 10)
other_own = whole both_sent_back (numbered 1 (verb.AtLink 2 (link_verb.Down 10) ∷ [])) (groups_from_number 1 ((other_back ∷ [], answer.Number 10) ∷ [])) refl (((roll_other, tt), ((omega arith, λ e. ((_, refl, refl), (refl, tt)), λ e. cc), tt), refl), tt) (silent_heard both_sent_back (numbered 1 (verb.AtLink 2 (link_verb.Down 10) ∷ [])) (groups_from_number 1 ((other_back ∷ [], answer.Number 10) ∷ [])) (λ n c. refl) refl) (Quiet refl)

-- what is told is what the link waits for
same_one : (x y what : ℕ × (ℕ × Record)) → Some x ≡ Some what → y ∷ [] ≡ what ∷ [] → x ≡ y
same_one x y what e f = cc

-- which is of the vBucket 0, where it is the link 1
of_another : GoesBack (back_of both_sent_back 1) (other_back ∷ []) → ⊥
of_another b = let n : ◌≡◌ {A = ℕ} 0 1 = ap (λ (back : ℕ × (ℕ × Record)). back.1.0) (same_one _ _ b.0 b.1 b.2) in omega arith

pub another : LawfulNext (verb.AtLink 1 (link_verb.Down 10)) (other_back ∷ [], answer.Number 10) → ⊥
another l = of_another (l.0.1.0.1 refl).0

pub both : LawfulNext (verb.AtLink 1 (link_verb.Down 10)) (back_line ∷ other_back ∷ [], answer.Number 10) → ⊥
both l = let b = (l.0.1.0.1 refl).0 in cc

pub again : LawfulNext (verb.AtLink 1 (link_verb.Down 10)) (back_line ∷ back_line ∷ [], answer.Number 10) → ⊥
again l = let b = (l.0.1.0.1 refl).0 in cc

-- any other line tells of none, whatever it is answered
fires_of_none : (at : Option ℕ) (said : Answer) → FiresAsSaid at (back_line ∷ []) said → ⊥
fires_of_none (Some n) (answer.No cause.Disk) e = cc
fires_of_none (Some n) (answer.No cause.Stopped) e = cc
fires_of_none None (answer.No cause.Disk) e = e
fires_of_none None (answer.No cause.Stopped) e = e
fires_of_none (Some n) other e = one_none _ _ e
fires_of_none None other e = one_none _ _ e

pub in_bytes : (said : Answer) → LawfulNext (verb.AtClient 1 1 (client_verb.Bytes [])) (back_line ∷ [], said) → ⊥
in_bytes said l = fires_of_none None said l.0.2

pub in_up : (said : Answer) → LawfulNext (verb.AtLink 1 (link_verb.Up 10)) (back_line ∷ [], said) → ⊥
in_up said l = fires_of_none None said l.0.2

pub in_seal : (said : Answer) → LawfulNext (verb.AtVb 1 0 vb_verb.Seal) (back_line ∷ [], said) → ⊥
in_seal said l = fires_of_none None said l.0.2

pub in_save : (said : Answer) → LawfulNext (verb.AtVb 1 0 vb_verb.Save) (back_line ∷ [], said) → ⊥
in_save said l = fires_of_none (Some 1) said l.0.2
