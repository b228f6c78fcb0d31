-- lines of links and streams tell nothing of the connections of clients, of a call that failed, and of a node that stopped, whatever the replies of vBuckets and journals
use Rattle.std.specs.Prelude.{◌∷◌, ◌++◌, if◌then◌else◌}
use Rattle.transcript_law.proofs.Words.{ℕ, refl, Bool, true, false, List, [], take, Option, Some, None, Event, EndReason, Frame, FrameFault, States, after, front_fault, frames_in, LogEntry, StreamAsk, VbAnswer, VbReply, PlainLink, PlainNode}
use Rattle.transcript_law.proofs.Words.{peer_of, dial_of, moved_len, pump_at}
use Rattle.node_core.specs.Peers.{PlainPeer, peer_answered}
use Rattle.node_core.specs.Dials.{DialResult, PlainDial, acknowledged_line, adopt_result, again_result, bytes_counted, with_last_line, requested_once_more, bytes_taken, call_made, dial_due, dial_bytes, due_requested, with_end_line, fault_met, follower_ask, frame_taken, frames_taken, go_on_with, got_line, granted_with, is_broken, is_done, is_over, message_result, over_for, passive_made, rest_met as dial_met, roll_back, rolled_back, step_made, taken_as, untold, with_consumer}
use Rattle.node_core.specs.Dials.{with_left as with_heard}
use Rattle.dcp_consumer.specs.Machine.{consumer_step, over_why}
use Rattle.dcp_consumer.specs.Counting.{bytes_acknowledged, counted_bytes}
use Rattle.dcp_consumer.specs.declared.handshake.ConsumerStep.{ConsumerStep}
use Rattle.dcp_consumer.specs.declared.handshake.ConsumerStep.TheVariants as step
use Rattle.dcp_consumer.specs.declared.passive_stream.Passive.{Passive}
use Rattle.dcp_consumer.specs.declared.passive_stream.Passive.TheVariants as passive
use Rattle.node_world.specs.{Arms.{placed}, World.{down_in}}
use Rattle.vb_calls.specs.declared.calls.VbAnswer.TheVariants as answer
use Rattle.vb_calls.specs.declared.journals.Rolled.{Rolled}
use Rattle.vb_calls.specs.declared.journals.Rolled.TheVariants as rolled
use Rattle.vb_calls.specs.Flushes.{roll_job}
use Rattle.vb_calls.specs.Jobs.{AlwaysJob, Job, Ended, each_job, lift}
use Rattle.vb_calls.specs.Programs.{Always, AnyCall, AnyReply}
use Rattle.vb_calls.proofs.{Conduct.{after_always}, JobConduct.{after_job_always, always_bind_job, always_each_job, always_lift}}
use Rattle.transcript_law.proofs.lines.Calm.{AnyAsk, any_job, due_keeps, either, state_always}
use Rattle.transcript_law.proofs.lines.Heard.{AreMute, mute_map, mute_more}
use Rattle.transcript_law.proofs.lines.{Answering.{Tells, peer_so}, Calm.{AnyKind, asks_any, takes_any}, Pulling.{pulled_so}}
use Rattle.dcp_producer.specs.declared.desk.Desk.{Desk}

-- ---- a producer

tells_mute : (d : Desk) → Tells AreMute d
tells_mute d = record { more = mute_more; asked = λ v ask high log said. (tt, tt); counted = λ link v member seq uuid changes. (tt, mute_map (Event.Changed d.node v uuid) changes (λ x. tt)) }

-- one frame, without the outcomes that are posted with it
pub peer_mute : (f : Frame) (peer : PlainPeer) (states : States) → AreMute (after (peer_answered f peer) states).1.events
peer_mute f peer states = (peer_so AnyKind AreMute peer.producer.desk asks_any (tells_mute peer.producer.desk) f peer states tt refl).0

-- what it puts
pub pump_mute : (frames : ℕ) (link : PlainLink) (node : PlainNode) → AreMute (pump_at frames link node).1.1.events
pump_mute frames link node = pulled_so AnyKind (λ name line. AreMute (line ∷ [])) takes_any (record { items = λ name c. (tt, tt); markers = λ name start end flags. (tt, tt); ends = λ name reason. (tt, tt); states = λ name told. (tt, tt) })
    AreMute link.server.desk (λ lines line is c. mute_more lines (line ∷ []) c is) (λ t. AreMute t.events) (λ heard put c. c) frames (peer_of link) node.vbs node.shelves tt refl

-- ---- a consumer

abbrev Dial : DialResult → Type 0
Dial s = AreMute s.events

abbrev Takes : Job DialResult → Type 0
Takes job = AlwaysJob AnyReply AnyCall AnyAsk Dial job

-- what it acknowledges
asks_mute : (s : DialResult) → Dial s → Always AnyCall Dial (due_requested s)
asks_mute s c = due_keeps AreMute (λ lines d seq saved m. mute_more lines (acknowledged_line d seq saved ∷ []) m (tt, tt)) s c

-- once more is written down
pub due_mute : (dial : PlainDial) (states : States) → AreMute (after (dial_due dial) states).1.events
due_mute dial states = after_always AnyCall (λ (t : DialResult). AreMute t.events) (dial_due dial) states (asks_mute (untold dial) tt)

adopted_mute : (log : List LogEntry) (s : DialResult) → Dial s → Always AnyCall Dial (go_on_with log s)
unfolding go_on_with
adopted_mute log s c = (tt, λ reply any. asks_mute (adopt_result log s reply) (either Dial (is_done reply) (granted_with log s) (over_for EndReason.Protocol s) (mute_more s.events _ c (tt, tt)) c))

again_mute : (s : DialResult) → Dial s → Always AnyCall Dial (requested_once_more s)
again_mute s c = (tt, λ reply any. by (follower_ask reply))
  where
    by : (o : Option StreamAsk) → Dial (again_result s o)
    by None = c
    by (Some ask) = c

back_mute : (point : ℕ) (s : DialResult) → Dial s → Takes (roll_back point s)
unfolding roll_back
back_mute point s c = always_bind_job AnyReply AnyCall AnyAsk (λ came. Unit {0}) Dial (roll_job s.dial.consumer.dialed.vb point) (λ came. lift (rolled_back point s came)) (any_job (roll_job s.dial.consumer.dialed.vb point))
    (λ came any. always_lift AnyReply AnyCall AnyAsk Dial (rolled_back point s came) (by came))
  where
    by : (came : Rolled) → Always AnyCall Dial (rolled_back point s came)
    by (rolled.To to) = again_mute _ (mute_more s.events _ c (tt, tt))
    by (rolled.Refused st) = c
    by rolled.Closed = c
    by rolled.DiskFailed = c
    by (rolled.Damaged place) = c

passive_mute : (p : Passive) (s : DialResult) → Dial s → Always AnyCall Dial (passive_made p s)
unfolding call_made
passive_mute (passive.Call x) s c = (tt, λ reply any. asks_mute (message_result s reply) (by reply))
  where
    taken : (reply : VbReply) (a : VbAnswer) → Dial (taken_as reply s a)
    taken reply (answer.Range ss se) = mute_more s.events _ c (tt, tt)
    taken reply answer.Done = mute_more s.events _ c (mute_map (got_line s.dial.consumer.dialed) reply.changes (λ y. tt))
    taken reply other = c

    by : (reply : Option VbReply) → Dial (message_result s reply)
    by None = c
    by (Some reply) = taken reply reply.answer
passive_mute other s c = c

step_mute : (t : ConsumerStep) (s : DialResult) → Dial s → Takes (step_made t s)
step_mute (step.Adopt log) s c = always_lift AnyReply AnyCall AnyAsk Dial (go_on_with log s) (adopted_mute log s c)
step_mute (step.Roll point) s c = back_mute point s c
step_mute (step.Passive p) s c = always_lift AnyReply AnyCall AnyAsk Dial (passive_made p s) (passive_mute p s c)
step_mute (step.State take opaque) s c = state_always Dial (λ s new c. mute_more s.events _ c (tt, tt))
    (λ s uuid changes c. mute_more s.events _ c (mute_map (Event.Changed s.dial.consumer.dialed.node s.dial.consumer.dialed.vb uuid) changes (λ x. tt))) (λ s opaque c. c) (λ s c. c) (λ s c. c) take opaque s c
step_mute other s c = c

taken_mute : (f : Frame) (s : DialResult) → Dial s → Takes (frame_taken f s)
unfolding frame_taken
taken_mute f s c = step_mute (consumer_step s.dial.consumer f).1 (with_consumer s (consumer_step s.dial.consumer f).0) c

written_mute : (frames : List Frame) (s : DialResult) → Dial s → Dial (bytes_counted frames s)
unfolding bytes_counted
written_mute frames s c = by _
  where
    by : (b : Bool) → Dial (if b then s else record s { out = s.out ++ bytes_acknowledged (counted_bytes frames) s.dial.consumer })
    by true = c
    by false = c

met_mute : (frames : List Frame) (s : DialResult) → Dial s → Takes (dial_met frames s)
met_mute frames s c =
    let t : DialResult = fault_met (front_fault s.dial.heard) s in last (bytes_counted frames t) (written_mute frames t (fault (front_fault s.dial.heard)))
  where
    fault : (o : Option FrameFault) → Dial (fault_met o s)
    fault None = c
    fault (Some x) = either Dial (is_over s.dial) s (over_for EndReason.Protocol s) c c

    last : (t : DialResult) → Dial t → Dial (with_last_line t)
    last t d = by (over_why t.dial.consumer.handshake)
      where
        by : (o : Option EndReason) → Dial (with_end_line o t)
        by None = d
        by (Some why) = either Dial (is_broken (Some why)) t _ d (mute_more t.events _ d (tt, tt))

dial_mute : (piece : List ℕ) (dial : PlainDial) → Takes (dial_bytes piece dial)
unfolding bytes_taken frames_taken
dial_mute piece dial =
    let bytes : List ℕ = dial.heard ++ piece in let s : DialResult = with_heard (untold dial) bytes in
    always_bind_job AnyReply AnyCall AnyAsk Dial Dial (each_job frame_taken (frames_in bytes) s) (dial_met (frames_in bytes)) (always_each_job AnyReply AnyCall AnyAsk Dial frame_taken taken_mute (frames_in bytes) (Ended s) tt) (met_mute (frames_in bytes))

pub down_mute : (wanted : ℕ) (link : PlainLink) (node : PlainNode) → AreMute (down_in wanted link node).1.1.events
down_mute wanted link node =
    let at : PlainNode = placed link.consumer.dialed.vb node in
    after_job_always AnyCall AnyAsk Dial (dial_bytes (take (moved_len wanted link.down) link.down) (dial_of link)) at.vbs at.shelves (dial_mute (take (moved_len wanted link.down) link.down) (dial_of link))
