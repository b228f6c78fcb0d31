-- no line leaves undone what it is for: a `take` takes no change only where each was taken, behind a `down` all was acknowledged that is due, and a `pump` is idle only where all was put
use Rattle.std.specs.Prelude.{◌≡◌, ◌<◌, ◌≤◌, ◌∷◌}
use Rattle.transcript_law.proofs.Words.{ℕ, Bool, true, false, List, [], length, refl, ap, sym, ◌∙◌, subst, arith, nat_tests, Option, Some, None, cond, is_some, Answer, Cause, Chronicle, ClientVerb, Event, LinkVerb, Plain, PlainNode, PlainWorld, Span, States, Verb, VbCall, VbVerb, Why}
use Rattle.transcript_law.proofs.Words.{after_job, after_lines, list_any, on_node, rises_in, take_snapshots, verb_step, with_vb_at, IsIn, stays, wholes}
use Rattle.transcript_law.proofs.{disks.Flushed.{flush_came}, invariant.Agreement.{Agrees, VbAgrees, all_rise}, invariant.JobSteps.{call_on, put_found}, invariant.Ranged.{IsRanged, NodeRanged, NodeRangedIf}, invariant.Seats.{seat}}
use Rattle.transcript_law.proofs.{verbs.FlushLines.{There, disk, mine, some, there_at_vb}, verbs.NodeLines.{on_node_by}, verbs.DownLine.{down_leaves}, verbs.Pumping.{pump_leaves, pump_reads}, verbs.Settling.{steady}, noted.{Joint.{Handed, noted_of}, Pumped.{pump_known}}}
use Rattle.transcript_law.specs.{LawfulAnswers.{IsStill}, TakeoverAnswers.{StateAwaited}}
use Rattle.transcript_law.specs.Unread.{StopsForDisk}
use Rattle.transcript_law.specs.Undone.{AllTaken, IsShutFor, LeavesNone, NoneToAcknowledge, NoneToPut, NoneToTake, WaitsForOne, is_taking}
use Rattle.{node_core.specs.Flushing.{flush_at, flush_result}, node_world.specs.Nodes.{flush_line}, std.specs.List.{find}, std.specs.Prelude.{nat_lt}}
use Rattle.vb_calls.specs.{Flushes.{batch_of_reply, take_job, taken_job, took}, Flushing.{batch_of, flush_from, unflushed_span}, Jobs.{Ended}, Shelves.{Flush, Idle, Out, Written, Shelves, with_shelf_at}, Spans.{all_spans}}
use Rattle.vb_types.specs.declared.journal.FlushPart.TheVariants as part
use Rattle.transcript_law.proofs.indexers.Pulled.{pull_leaves, pull_reads, pull_shuts, pull_waits}
use Rattle.vbucket.proofs.Ending.{takes_exactly}
use Rattle.vbucket.specs.Laws.{Follow}

-- where no span goes on above a seqno, none of what they hold lies above it
none_above : (low high n : ℕ) (ws : List Span) → Follow low ws high → low ≤ n → find (λ (y : Span). nat_lt n y.last) ws ≡ None → high ≤ n
none_above low high n [] f l e = let same : low ≡ high = f in omega arith
none_above low high n (x ∷ xs) f l e = by (nat_lt n x.last) refl e (none_above x.last high n xs f.2)
  where
    by : (b : Bool) → nat_lt n x.last ≡ b → cond b (Some x) (find (λ (y : Span). nat_lt n y.last) xs) ≡ None → (x.last ≤ n → find (λ (y : Span). nat_lt n y.last) xs ≡ None → high ≤ n) → high ≤ n
    by true t q rest = cc
    by false t q rest = rest (grind (arith, nat_tests, t)) q

-- so each change was taken
taken_all : (w : PlainWorld) (r : Chronicle) (n v : ℕ) (there : There w r n v) → unflushed_span there.vb ≡ None → AllTaken r n v
taken_all w r n v there none d i =
    let m : VbAgrees r n v (there.c.nodes (seat n v)) there.vb = mine w r n v there in
    let up : there.vb.position.at ≤ there.vb.flushed = none_above there.vb.floor there.vb.position.at there.vb.flushed (all_spans there.vb.spans) m.sound.spans m.sound.flushed.0 none in
    let low : d.seq ≤ there.vb.position.at = (rises_in 0 there.vb.position.at (there.c.nodes (seat n v)).held d (all_rise m.kept) (subst (IsIn d) m.held i)).1 in
    let told : (r.disk_at n v).taken ≡ there.vb.flushed = (disk w r n v there).taken in omega arith

-- by the batch that is on its way
module _ (w : PlainWorld) (r : Chronicle) (n v : ℕ) (there : There w r n v) (ranged : NodeRanged n there.node) where
  open there use {node, vb, shelf}

  abbrev st0 : States
  st0 = with_vb_at node.vbs v vb

  abbrev sh0 : Shelves
  sh0 = with_shelf_at node.shelves v shelf

  -- how a take is answered that finds this span
  abbrev said : Option Span → Answer
  said o = (flush_result n v (after_job (taken_job v (λ batch. Ended (took batch)) (batch_of_reply (Some (flush_from o vb).1))) (with_vb_at st0 v (flush_from o vb).0) sh0).1).answer

  came_none : (flush : Flush) → shelf.flush ≡ flush → (flush_result n v (after_job (take_job v flush) st0 sh0).1).answer ≡ Answer.Number 0 → AllTaken r n v
  came_none (Out b) e z = cc
  came_none (Written seq) e z = cc
  came_none Idle e z = by (unflushed_span vb) refl
    where
      same : said (unflushed_span vb) ≡ Answer.Number 0
      same = sym (ap (λ y. (flush_result n v y.1).answer) (call_on st0 sh0 v VbCall.FlushTake (λ reply. taken_job v (λ batch. Ended (took batch)) (batch_of_reply reply)) vb (flush_from (unflushed_span vb) vb).0 (flush_from (unflushed_span vb) vb).1 (put_found node.vbs v vb) refl)) ∙ z

      by : (o : Option Span) → unflushed_span vb ≡ o → AllTaken r n v
      by None q = taken_all w r n v there q
      by (Some x) q =
          let z : Answer.Number (length (batch_of vb x).items) ≡ Answer.Number 0 = ap said (sym q) ∙ same in let none : length (batch_of vb x).items ≡ 0 = cc in
          let has : 0 < length (batch_of vb x).items = some stays steady wholes w r n v there ranged x e q in absurd (omega arith)

take_leaves : (w : PlainWorld) (r : Chronicle) (n v : ℕ) → IsRanged w → Agrees w r → (on_node w n (flush_line n v part.Take)).1.answer ≡ Answer.Number 0 → AllTaken r n v
take_leaves w r n v ranged a = on_node_by (λ x. x.1.answer ≡ Answer.Number 0 → AllTaken r n v) w n (flush_line n v part.Take) (λ z. cc) (λ node at z. cc) (λ node at runs. by node at runs (node.vbs v) refl)
  where
    by : (node : PlainNode) → w.nodes n ≡ Some node → is_some node.off ≡ false → (o : Option Plain) → node.vbs v ≡ o → (flush_line n v part.Take node).1.answer ≡ Answer.Number 0 → AllTaken r n v
    by node at runs None e z =
        let none : (flush_line n v part.Take node).1.answer ≡ Answer.No Cause.UnknownVb = ap (λ (o : Option Plain). (after_job (flush_at n v part.Take (is_some o)) node.vbs node.shelves).1.answer) e in cc
    by node at runs (Some vb) e z =
        let t : There w r n v = there_at_vb w r n v a node at runs vb e in
        came_none w r n v t (subst (NodeRangedIf n) t.at (ranged n)) t.shelf.flush refl (sym (ap (λ y. y.1.answer) (flush_came n v part.Take node.vbs node.shelves vb (Some t.shelf) e t.kept)) ∙ z)

-- of each line
by_answer : (r : Chronicle) (line : Verb) (lines : List Event) (said : Answer) → (said ≡ Answer.Number 0 → NoneToTake r line) → ((n : ℕ) → said ≡ Answer.Number n → list_any is_taking lines ≡ true → NoneToAcknowledge (after_lines r lines) line) → ((n : ℕ) → said ≡ Answer.Pulled n Why.Idle → NoneToPut (after_lines r lines) line) → ((n : ℕ) → said ≡ Answer.Pulled n Why.WaitSaved → WaitsForOne (after_lines r lines) line) → ((n : ℕ) → said ≡ Answer.Pulled n Why.Full → IsShutFor (after_lines r lines) line) → ((n : ℕ) → said ≡ Answer.Pulled n Why.WaitState → StateAwaited r line lines) → ((n : ℕ) → said ≡ Answer.Pulled n Why.Disk → StopsForDisk (after_lines r lines) line) → LeavesNone r line lines said
by_answer r line lines (Answer.Number n) taken acked put waits full states reads = (λ z. taken (ap Answer.Number z), acked n refl)
by_answer r line lines (Answer.Pulled n Why.Idle) taken acked put waits full states reads = put n refl
by_answer r line lines (Answer.Pulled n Why.WaitSaved) taken acked put waits full states reads = waits n refl
by_answer r line lines (Answer.Pulled n Why.Full) taken acked put waits full states reads = full n refl
by_answer r line lines (Answer.Pulled n Why.WaitState) taken acked put waits full states reads = states n refl
by_answer r line lines (Answer.Pulled n Why.Disk) taken acked put waits full states reads = reads n refl
by_answer r line lines other taken acked put waits full states reads = tt

none_to_take : (w : PlainWorld) (number : ℕ) (line : Verb) (r : Chronicle) → IsRanged w → Agrees w r → (verb_step w number line).1.answer ≡ Answer.Number 0 → NoneToTake r line
none_to_take w number (Verb.AtVb n v VbVerb.Take) r ranged a z = take_leaves w r n v ranged a z
none_to_take w number other r ranged a z = tt

none_to_acknowledge : (w : PlainWorld) (number : ℕ) (line : Verb) (r : Chronicle) → Handed w r → Agrees w r → (n : ℕ) → (let x = verb_step w number line in x.1.answer ≡ Answer.Number n → list_any is_taking x.1.events ≡ true → NoneToAcknowledge (after_lines r x.1.events) line)
none_to_acknowledge w number (Verb.AtLink l (LinkVerb.Down wanted)) r h a n z takes = down_leaves stays w r l wanted n a (noted_of w r h) h.free z takes
none_to_acknowledge w number other r h a n z takes = tt

none_to_put : (w : PlainWorld) (number : ℕ) (line : Verb) (r : Chronicle) → IsRanged w → IsStill r → Handed w r → Agrees w r → (n : ℕ) → (let x = verb_step w number line in x.1.answer ≡ Answer.Pulled n Why.Idle → NoneToPut (after_lines r x.1.events) line)
none_to_put w number (Verb.AtLink l (LinkVerb.Pump frames)) r ranged calm h a n z = pump_leaves take_snapshots stays steady w r l frames n a ranged calm.0 (pump_known w r h) z
none_to_put w number (Verb.AtClient n c (ClientVerb.Pull frames)) r ranged calm h a k z = pull_leaves take_snapshots takes_exactly w r n c frames k ranged a z
none_to_put w number other r ranged calm h a n z = tt

waits_for_one : (w : PlainWorld) (number : ℕ) (line : Verb) (r : Chronicle) → IsRanged w → Agrees w r → (n : ℕ) → (let x = verb_step w number line in x.1.answer ≡ Answer.Pulled n Why.WaitSaved → WaitsForOne (after_lines r x.1.events) line)
waits_for_one w number (Verb.AtClient n c (ClientVerb.Pull frames)) r ranged a k z = pull_waits take_snapshots takes_exactly w r n c frames k ranged a z
waits_for_one w number other r ranged a n z = tt

shut_for : (w : PlainWorld) (number : ℕ) (line : Verb) (r : Chronicle) → IsRanged w → Agrees w r → (n : ℕ) → (let x = verb_step w number line in x.1.answer ≡ Answer.Pulled n Why.Full → IsShutFor (after_lines r x.1.events) line)
shut_for w number (Verb.AtClient n c (ClientVerb.Pull frames)) r ranged a k z = pull_shuts take_snapshots takes_exactly w r n c frames k ranged a z
shut_for w number other r ranged a n z = tt

stops_for_disk : (w : PlainWorld) (number : ℕ) (line : Verb) (r : Chronicle) → IsRanged w → IsStill r → Handed w r → Agrees w r → (n : ℕ) → (let x = verb_step w number line in x.1.answer ≡ Answer.Pulled n Why.Disk → StopsForDisk (after_lines r x.1.events) line)
stops_for_disk w number (Verb.AtLink l (LinkVerb.Pump frames)) r ranged calm h a n z = absurd (pump_reads take_snapshots stays steady w r l frames n a ranged calm.0 (pump_known w r h) z)
stops_for_disk w number (Verb.AtClient n c (ClientVerb.Pull frames)) r ranged calm h a k z = absurd (pull_reads take_snapshots takes_exactly w r n c frames k ranged a z)
stops_for_disk w number other r ranged calm h a n z = tt

pub leaves_none : (w : PlainWorld) (number : ℕ) (line : Verb) (r : Chronicle) → IsRanged w → IsStill r → Handed w r → Agrees w r
    → (let x = (verb_step w number line).1 in ((n : ℕ) → x.answer ≡ Answer.Pulled n Why.WaitState → StateAwaited r line x.events) → LeavesNone r line x.events x.answer)
leaves_none w number line r ranged calm h a waits = let x = verb_step w number line in by_answer r line x.1.events x.1.answer (none_to_take w number line r ranged a) (none_to_acknowledge w number line r h a) (none_to_put w number line r ranged calm h a) (waits_for_one w number line r ranged a) (shut_for w number line r ranged a) waits (stops_for_disk w number line r ranged calm h a)
