-- a producer keeps its place, and a consumer what it dialed
use Rattle.std.proofs.Common.{◌≡◌, ℕ, Bool, true, false, List, [], ◌∷◌, ◌++◌, length, map, refl, ◌∙◌, Option, Some, None}
use Rattle.std.specs.Prelude.{◌==◌, ◌||◌, codes, if◌then◌else◌, nat_lt, Result, Ok, Err, ◌^◌, ◌-◌}
use Rattle.std.specs.Str.{bytes_eq}
use Rattle.std.specs.List.{list_any}
use Rattle.mcbp_frame.specs.declared.frame.Frame.{Frame}
use Rattle.mcbp_frame.specs.declared.frame.FrameFault.{FrameFault}
use Rattle.mcbp_frame.specs.declared.frame.TheConstants.{RESPONSE}
use Rattle.mcbp_frame.specs.Cutting.{front_fault, frames_in}
use Rattle.mcbp_dcp.specs.declared.message.DcpMsg.{DcpMsg}
use Rattle.mcbp_dcp.specs.declared.message.DcpMsg.TheVariants as msg
use Rattle.mcbp_dcp.specs.declared.message.DcpFault.{DcpFault}
use Rattle.mcbp_dcp.specs.Messages.{read_of}
use Rattle.mcbp_dcp.specs.Rows.{dcp_opcodes}
use Rattle.vb_types.specs.declared.stream.AskAnswer.{AskAnswer}
use Rattle.vb_types.specs.declared.stream.AskAnswer.TheVariants as ask_answer
use Rattle.vb_events.specs.declared.event.EndReason.{EndReason}
use Rattle.vb_events.specs.declared.event.EndReason.TheVariants as reason
use Rattle.vb_events.specs.declared.event.Event.TheVariants as event
use Rattle.vb_types.specs.declared.role.LogEntry.{LogEntry}
use Rattle.vb_types.specs.declared.status.Status.{Status}
use Rattle.vb_types.specs.declared.status.Status.TheVariants as status
use Rattle.vb_types.specs.declared.stream.Place.{Place}
use Rattle.vb_types.specs.declared.stream.StreamAsk.{StreamAsk}
use Rattle.vb_calls.specs.declared.calls.VbAnswer.{VbAnswer}
use Rattle.vb_calls.specs.declared.calls.VbAnswer.TheVariants as answer
use Rattle.vb_calls.specs.declared.calls.VbCall.{VbCall}
use Rattle.vb_calls.specs.declared.calls.VbCall.TheVariants as call
use Rattle.vb_calls.specs.declared.calls.VbReply.{VbReply}
use Rattle.vb_calls.specs.declared.journals.Rolled.{Rolled}
use Rattle.vb_calls.specs.declared.journals.Rolled.TheVariants as rolled
use Rattle.vb_calls.specs.declared.journals.Wrote.{Wrote}
use Rattle.vb_calls.specs.declared.journals.Wrote.TheVariants as wrote
use Rattle.vb_calls.specs.Flushes.{role_job, roll_job}
use Rattle.vb_types.specs.declared.role.Role.TheVariants as role
use Rattle.vb_calls.specs.Jobs.{Job, Ended, Request, bind_job, lift, repeated_job, after_job, after_reads, AlwaysJob, IsRead}
use Rattle.vb_calls.specs.Jobs.{Call as JobCall}
use Rattle.vb_calls.specs.Shelves.{Ask, Shelves}
use Rattle.vb_calls.proofs.JobConduct.{always_bind_job, always_each_job, always_lift, always_repeated_job, after_job_always}
use Rattle.vb_calls.proofs.JobReadings.{reads_always}
use Rattle.vb_calls.specs.Programs.{Prog, Done, Call, Turn, More, Stop, after, Always, AnyReply, AnyCall}
use Rattle.vb_calls.specs.States.{States}
use Rattle.vb_calls.proofs.Conduct.{always_bind, after_always}
use Rattle.dcp_producer.specs.declared.desk.Desk.{Desk}
use Rattle.dcp_producer.specs.declared.desk.Handshake.{Handshake}
use Rattle.dcp_producer.specs.declared.halt.Halt.{Halt}
use Rattle.dcp_producer.specs.declared.halt.Halt.TheVariants as halt
use Rattle.dcp_producer.specs.declared.next_frame.NextFrame.TheVariants as next
use Rattle.dcp_producer.specs.Frames.{Next, next_frame}
use Rattle.dcp_producer.specs.Producers.{PlainStream, Served, begun, is_open, stream_at, without_stream}
use Rattle.dcp_producer.specs.Serving.{bytes_acknowledged as bytes_taken_back, status_sent, open_refusal, opened_unless, control_answered, controlled, controlled_as, sized, sized_as, ask_verdict, next_stream, opens, place_of_reply, with_asked, with_granted, stream_answered, opening_requested, refusal_requested, stream_request, once_open, closed_sent, stream_closed, log_given, log_sent, log_answered, log_requested, message_answered, row_answered, read_answered, frame_answered, heard, is_taken, response_heard, counted_by, count_answered, count_requested, acknowledged}
use Rattle.dcp_producer.specs.Pulling.{Halting, QuietOnes, Pulling, pull_of, none_quiet, is_quiet, past_turn, stream_in_turn, came, stream_asked, turn_had, one_turn, turns_came, one_frame, pulled, frames_put}
use Rattle.takeover.specs.declared.take_over.TakeStep.{TakeStep}
use Rattle.takeover.specs.declared.take_over.TakeStep.TheVariants.{Pend, Own}
use Rattle.dcp_consumer.specs.declared.handshake.ConsumerStep.{ConsumerStep}
use Rattle.dcp_consumer.specs.declared.handshake.ConsumerStep.TheVariants as step
use Rattle.dcp_consumer.specs.declared.handshake.Dialed.{Dialed}
use Rattle.dcp_consumer.specs.declared.handshake.Handshake.{Handshake as ConsumerHandshake}
use Rattle.dcp_consumer.specs.declared.handshake.Handshake.TheVariants as shaken
use Rattle.dcp_consumer.specs.declared.passive_stream.Passive.{Passive}
use Rattle.dcp_consumer.specs.declared.passive_stream.Passive.TheVariants as passive
use Rattle.dcp_consumer.specs.Counting.{bytes_acknowledged, counted_bytes}
use Rattle.dcp_consumer.specs.Machine.{over_why, ended_for, request_again, again_by, consumer_step}
use Rattle.node_core.proofs.Dues.{due_always}
use Rattle.node_core.proofs.ProducerLines.{next_reads}
use Rattle.node_core.specs.Dials.{PlainDial, DialResult, heir_told, is_done_answer, is_pending, noted_for, own_result, owned, pended, role_line, state_made, state_met, adopt_result, due_requested, dial_due, untold, is_broken, is_over, with_line, over_for, granted_with, is_done, go_on_with, follower_ask, again_with, again_result, rolled_back, roll_back, taken_as, message_result, call_made, passive_made, step_made, frame_taken, frames_taken, with_left, fault_met, with_end_line, bytes_counted, rest_met, bytes_taken, dial_bytes}
use Rattle.node_core.specs.Peers.{PlainPeer, PeerResult, PullResult, peer_result, peer_heard, peer_frames, peer_answered, pull_result, peer_pulled}
use Rattle.node_world.specs.Links.{frame_up, frames_up, peer_given, untold_peer}
use Rattle.node_world.specs.Nodes.{PlainNode}

-- turns that go on, or stop
abbrev TurnHolds : {A R : Type 0} → (A → Type 0) → (R → Type 0) → Turn A R → Type 0
TurnHolds goes stops (More a) = goes a
TurnHolds goes stops (Stop r) = stops r

-- a producer's place
module _ (desk : Desk) where
  abbrev At : Served → Type 0
  At s = s.end.desk ≡ desk

  abbrev Keeps : Prog Served → Type 0
  Keeps prog = Always AnyCall At prog

  status_at : (f : Frame) (st : Status) (s : Served) → At s → At (status_sent f st s)
  unfolding status_sent
  status_at f st s e = e

  granted_at : (f : Frame) (ask : StreamAsk) (s : Served) (id : ℕ) (from : Place) (said : AskAnswer) → At s → At (record s { end = with_granted (with_asked s.end) id f ask from said })
  granted_at f ask s id from ask_answer.Go e = e
  granted_at f ask s id from (ask_answer.Roll to) e = e
  granted_at f ask s id from (ask_answer.Refuse code) e = e

  open_at : (o : Option Status) (f : Frame) (s : Served) → At s → At (opened_unless o f s)
  unfolding status_sent
  open_at None f s e = e
  open_at (Some st) f s e = e

  control_at : (o : Option Handshake) (f : Frame) (s : Served) → At s → At (controlled_as o f s)
  unfolding status_sent
  control_at None f s e = e
  control_at (Some set) f s e = e

  sized_at : (o : Option ℕ) (f : Frame) (s : Served) → At s → At (sized_as o f s)
  unfolding status_sent
  sized_at None f s e = e
  sized_at (Some size) f s e = e

  set_at : (f : Frame) (key value : List ℕ) (s : Served) → At s → At (control_answered f key value s)
  set_at f key value s e = by (bytes_eq key (codes "connection_buffer_size"))
    where
      by : (b : Bool) → At (if b then sized_as (sized s.end.handshake value) f s else controlled_as (controlled s.end.handshake key value) f s)
      by true = sized_at (sized s.end.handshake value) f s e
      by false = control_at (controlled s.end.handshake key value) f s e

  bytes_at : (f : Frame) (bytes : ℕ) (s : Served) → At s → At (bytes_taken_back f bytes s)
  unfolding status_sent
  bytes_at f bytes s e = by (is_open s.end.handshake) _ e
    where
      by : (b : Bool) (x : Served) → At x → At (if b then x else status_sent f status.Einval s)
      by true x here = here
      by false x here = e

  request_keeps : (f : Frame) (ask : StreamAsk) (s : Served) → At s → Keeps (stream_request f ask s)
  unfolding stream_request stream_answered
  request_keeps f ask s e = by (opens s.end f.vb_or_status ask)
    where
      by : (b : Bool) → Keeps (if b then opening_requested f ask s else refusal_requested f ask s)
      by true = (tt, λ reply formed. granted_at f ask s (next_stream s.end) (place_of_reply reply) (ask_verdict reply) e)
      by false = (tt, λ reply formed. e)

  -- what is answered once the connection is open
  once_keeps : (f : Frame) (s : Served) (prog : Prog Served) → At s → Keeps prog → Keeps (once_open f s prog)
  once_keeps f s prog e keeps = by (is_open s.end.handshake)
    where
      by : (b : Bool) → Keeps (if b then prog else Done (status_sent f status.Einval s))
      by true = keeps
      by false = status_at f status.Einval s e

  closed_keeps : (f : Frame) (s : Served) (o : Option PlainStream) → At s → Keeps (stream_closed f s o)
  closed_keeps f s None e = status_at f _ s e
  closed_keeps f s (Some stream) e = by stream.ended
    where
      gone : At (closed_sent f stream.id s)
      gone = status_at f _ (record s { end = without_stream stream.id s.end }) e

      by : (b : Bool) → Keeps (if b then Done (closed_sent f stream.id s) else Call stream.vb (call.CloseStream stream.id) (λ reply. Done (closed_sent f stream.id s)))
      by true = gone
      by false = (tt, λ reply formed. gone)

  log_at : (f : Frame) (s : Served) (o : Option (List LogEntry)) → At s → At (log_sent f s o)
  log_at f s None e = status_at f _ s e
  log_at f s (Some log) e = e

  logged_at : (f : Frame) (s : Served) (reply : Option VbReply) → At s → At (log_answered f s reply)
  logged_at f s None e = status_at f _ s e
  logged_at f s (Some reply) e = log_at f s (log_given reply.answer) e

  log_keeps : (f : Frame) (s : Served) → At s → Keeps (log_requested f s)
  log_keeps f s e = once_keeps f s _ e (tt, λ reply formed. logged_at f s reply e)

  counted_at : (f : Frame) (member seq : ℕ) (reply : VbReply) (a : VbAnswer) (s : Served) → At s → At (counted_by f member seq reply a s)
  unfolding status_sent
  counted_at f member seq reply (answer.Status st) s e = e
  counted_at f member seq reply other s e = e

  count_at : (f : Frame) (member seq : ℕ) (s : Served) (reply : Option VbReply) → At s → At (count_answered f member seq s reply)
  count_at f member seq s None e = status_at f status.NotMyVbucket s e
  count_at f member seq s (Some reply) e = counted_at f member seq reply reply.answer s e

  count_keeps : (f : Frame) (seq : ℕ) (s : Served) (o : Result ℕ Status) → At s → Keeps (count_requested f seq s o)
  count_keeps f seq s (Err st) e = status_at f st s e
  count_keeps f seq s (Ok member) e = (tt, λ reply formed. count_at f member seq s reply e)

  acknowledged_keeps : (f : Frame) (seq : ℕ) (s : Served) → At s → Keeps (acknowledged f seq s)
  unfolding acknowledged
  acknowledged_keeps f seq s e = once_keeps f s _ e (count_keeps f seq s _ e)

  message_keeps : (f : Frame) (m : DcpMsg) (s : Served) → At s → Keeps (message_answered f m s)
  message_keeps f (msg.Open number flags name) s e = open_at (open_refusal s.end.handshake flags) f s e
  message_keeps f (msg.Control key value) s e = set_at f key value s e
  message_keeps f (msg.StreamRequest ask) s e = request_keeps f ask s e
  message_keeps f (msg.SeqnoAcknowledged seq) s e = acknowledged_keeps f seq s e
  message_keeps f (msg.BufferAcknowledgement bytes) s e = bytes_at f bytes s e
  message_keeps f msg.CloseStream s e = once_keeps f s _ e (closed_keeps f s (stream_at f.vb_or_status s.end.streams) e)
  message_keeps f msg.GetFailoverLog s e = log_keeps f s e
  message_keeps f msg.Noop s e = status_at f _ s e
  message_keeps f other s e = status_at f _ s e

  read_keeps : (f : Frame) (o : Option (Result DcpMsg DcpFault)) (s : Served) → At s → Keeps (read_answered f o s)
  read_keeps f None s e = status_at f _ s e
  read_keeps f (Some read) s e = by (f.datatype == 0) read
    where
      by : (b : Bool) (read : Result DcpMsg DcpFault) → Keeps (if b then row_answered f read s else Done (status_sent f status.Einval s))
      by true (Err fault) = status_at f _ s e
      by true (Ok m) = message_keeps f m s e
      by false read = status_at f _ s e

  pub frame_keeps : (f : Frame) (s : Served) → At s → Keeps (frame_answered f s)
  unfolding frame_answered
  frame_keeps f s e = by (f.magic == RESPONSE) (list_any (λ o. o == f.opcode) dcp_opcodes)
    where
      heard_at : (b : Bool) → At (if b then record s { end = record s.end { streams = map (heard f.opaque) s.end.streams } } else s)
      heard_at true = e
      heard_at false = e

      by : (a b : Bool) → Keeps (if a then Done (response_heard f s) else if b then read_answered f (read_of f) s else Done (status_sent f status.UnknownCommand s))
      by true b = heard_at (is_taken f)
      by false true = read_keeps f (read_of f) s e
      by false false = status_at f _ s e

  -- frames of its streams
  abbrev Pulls : Pulling → Type 0
  Pulls p = At p.served

  abbrev Went : Halting → Type 0
  Went (p, halted) = Pulls p

  abbrev Turned : Turn Pulling Halting → Type 0
  Turned turn = TurnHolds Pulls Went turn

  abbrev Halted : Served × Halt → Type 0
  Halted put = At put.0

  abbrev Framed : Turn Pulling (Served × Halt) → Type 0
  Framed turn = TurnHolds Pulls Halted turn

  came_at : (s : Served) (q : QuietOnes) (next : Next) → At s → Turned (came s q next)
  came_at s q (next.Put m line, stream) e = e
  came_at s q (next.End reason, stream) e = e
  came_at s q (next.Quiet waits, stream) e = e
  came_at s q (next.Disk, stream) e = e

  -- a job that reads alone comes to such an answer
  abbrev Reads : {A : Type 0} → (A → Type 0) → Job A → Type 0
  Reads answers job = AlwaysJob AnyReply AnyCall IsRead answers job

  had_keeps : (s : Served) (q : QuietOnes) (o : Option PlainStream) → At s → Reads Turned (turn_had s q o)
  had_keeps s q None e = e
  had_keeps s q (Some stream) e = by (is_quiet stream.id q)
    where
      by : (b : Bool) → Reads Turned (if b then Ended (More (pull_of s q)) else stream_asked s q stream)
      by true = e
      by false =
          always_bind_job AnyReply AnyCall IsRead (λ (next : Next). Unit {0}) Turned (next_frame s.end.desk.stream stream) (λ next. Ended (came s q next)) (next_reads s.end.desk.stream stream)
          (λ next any. came_at s q next e)

  turn_keeps : (p : Pulling) → Pulls p → Reads Turned (one_turn p)
  unfolding one_turn
  turn_keeps p e = had_keeps (past_turn p.served) p.quiet (stream_in_turn p.served.end) e

  turns_at : (turns : Turn Pulling Halting) → Turned turns → Framed (turns_came turns)
  turns_at (More p) e = e
  turns_at (Stop (p, None)) e = e
  turns_at (Stop (p, Some halted)) e = e

  put_keeps : (p : Pulling) → Pulls p → Reads Framed (one_frame p)
  unfolding one_frame
  put_keeps p e = by _
    where
      turns : Job (Turn Pulling Halting)
      turns = repeated_job (length p.served.end.streams) one_turn p

      by : (b : Bool) → Reads Framed (if b then bind_job turns (λ turns. Ended (turns_came turns)) else Ended (Stop (p.served, halt.Full)))
      by true =
          always_bind_job AnyReply AnyCall IsRead Turned Framed turns (λ turns. Ended (turns_came turns)) (always_repeated_job AnyReply AnyCall IsRead Turned one_turn turn_keeps (length p.served.end.streams) p e) turns_at
      by false = e

  ends_keep : (t : Turn Pulling (Served × Halt)) → Framed t → Reads Halted (pulled t)
  ends_keep (More p) e = e
  ends_keep (Stop put) e = e

  pub all_keep : (n : ℕ) (s : Served) → At s → AlwaysJob AnyReply AnyCall IsRead Halted (frames_put n s)
  unfolding frames_put
  all_keep n s e =
      always_bind_job AnyReply AnyCall IsRead Framed Halted (repeated_job n one_frame (pull_of s none_quiet)) pulled (always_repeated_job AnyReply AnyCall IsRead Framed one_frame put_keeps n (pull_of s none_quiet) e) ends_keep

-- so it is after a frame was answered, and after frames were put
pub answered_desk : (f : Frame) (peer : PlainPeer) (states : States) → (after (peer_answered f peer) states).1.peer.producer.desk ≡ peer.producer.desk
answered_desk f peer states =
    let desk = peer.producer.desk in
    after_always AnyCall (λ (t : PeerResult). t.peer.producer.desk ≡ desk) (peer_answered f peer) states
    (always_bind AnyReply AnyCall (At desk) (λ (t : PeerResult). t.peer.producer.desk ≡ desk) (frame_answered f (begun peer.producer)) (λ s. Done (peer_result peer.heard s))
    (frame_keeps desk f (begun peer.producer) refl) (λ s e. e))

pub pulled_desk : (frames : ℕ) (peer : PlainPeer) (shelves : Shelves) (states : States) → (after_reads (peer_pulled frames peer) shelves states).1.peer.producer.desk ≡ peer.producer.desk
pulled_desk frames peer shelves states =
    let desk = peer.producer.desk in
    reads_always AnyCall IsRead (λ (t : PullResult). t.peer.producer.desk ≡ desk) (peer_pulled frames peer) shelves states
    (always_bind_job AnyReply AnyCall IsRead (Halted desk) (λ (t : PullResult). t.peer.producer.desk ≡ desk) (frames_put frames (begun peer.producer)) (λ put. Ended (pull_result peer.heard put))
    (all_keep desk frames (begun peer.producer) refl) (λ put e. e))

-- so it is after bytes of its peer, too
frames_desk : (frames : List Frame) (came : PlainNode × PeerResult) → (frames_up frames came).1.peer.producer.desk ≡ came.1.peer.producer.desk
frames_desk [] came = refl
frames_desk (f ∷ frames) came = frames_desk frames (frame_up f came) ∙ answered_desk f came.1.peer came.0.vbs

pub given_desk : (piece : List ℕ) (peer : PlainPeer) (node : PlainNode) → (peer_given piece peer node).1.peer.producer.desk ≡ peer.producer.desk
given_desk piece peer node = frames_desk (peer_frames piece peer) (node, untold_peer (peer_heard piece peer))

-- nothing at all is asked of a job
abbrev EachAsk : ℕ → Ask → Type 0
EachAsk v ask = Unit {0}

any_job : {A : Type 0} (job : Job A) → AlwaysJob AnyReply AnyCall EachAsk (λ (a : A). Unit {0}) job
any_job (Ended a) = tt
any_job (JobCall v call next) = (tt, λ reply formed. any_job (next reply))
any_job (Request v ask next) = (tt, λ got. any_job (next got))

-- what a consumer dialed
module _ (dialed : Dialed) where
  abbrev Still : DialResult → Type 0
  Still s = s.dial.consumer.dialed ≡ dialed

  abbrev Stays : Prog DialResult → Type 0
  Stays prog = Always AnyCall Still prog

  abbrev Holds : Job DialResult → Type 0
  Holds job = AlwaysJob AnyReply AnyCall EachAsk Still job

  lifted : (prog : Prog DialResult) → Stays prog → Holds (lift prog)
  lifted prog stays = always_lift AnyReply AnyCall EachAsk Still prog stays

  -- what is due is acknowledged
  due_stays : (s : DialResult) → Still s → Stays (due_requested s)
  due_stays s e = due_always Still s (λ seq saved. e) e AnyCall tt

  adopt_stays : (log : List LogEntry) (s : DialResult) → Still s → Stays (go_on_with log s)
  unfolding go_on_with
  adopt_stays log s e = (tt, λ reply formed. due_stays (adopt_result log s reply) (by (is_done reply)))
    where
      by : (b : Bool) → Still (if b then granted_with log s else over_for reason.Protocol s)
      by true = e
      by false = e

  again_stays : (h : ConsumerHandshake) (ask : StreamAsk) (s : DialResult) → Still s → Still (again_with s (again_by h ask s.dial.consumer))
  again_stays shaken.Asking ask s e = by (nat_lt s.dial.consumer.asked (2 ^ 32 - 1))
    where
      by : (b : Bool) → Still (again_with s (if b then request_again ask s.dial.consumer else (ended_for reason.Protocol s.dial.consumer, [])))
      by true = e
      by false = e
  again_stays other ask s e = e

  asked_stays : (s : DialResult) (o : Option StreamAsk) → Still s → Still (again_result s o)
  asked_stays s None e = e
  asked_stays s (Some ask) e = again_stays s.dial.consumer.handshake ask s e

  back_stays : (point : ℕ) (s : DialResult) (r : Rolled) → Still s → Stays (rolled_back point s r)
  back_stays point s (rolled.To to) e = (tt, λ reply formed. asked_stays _ (follower_ask reply) e)
  back_stays point s (rolled.Refused st) e = e
  back_stays point s rolled.Closed e = e
  back_stays point s rolled.DiskFailed e = e
  back_stays point s (rolled.Damaged place) e = e

  roll_stays : (point : ℕ) (s : DialResult) → Still s → Holds (roll_back point s)
  unfolding roll_back
  roll_stays point s e =
      always_bind_job AnyReply AnyCall EachAsk (λ (r : Rolled). Unit {0}) Still (roll_job s.dial.consumer.dialed.vb point) (λ came. lift (rolled_back point s came)) (any_job (roll_job s.dial.consumer.dialed.vb point))
      (λ came any. lifted (rolled_back point s came) (back_stays point s came e))

  taken_stays : (reply : VbReply) (s : DialResult) (a : VbAnswer) → Still s → Still (taken_as reply s a)
  taken_stays reply s (answer.Range ss se) e = e
  taken_stays reply s answer.Done e = e
  taken_stays reply s other e = e

  message_stays : (s : DialResult) (o : Option VbReply) → Still s → Still (message_result s o)
  message_stays s None e = e
  message_stays s (Some reply) e = taken_stays reply s reply.answer e

  call_stays : (c : VbCall) (s : DialResult) → Still s → Stays (call_made c s)
  unfolding call_made
  call_stays c s e = (tt, λ reply formed. due_stays (message_result s reply) (message_stays s reply e))

  passive_stays : (p : Passive) (s : DialResult) → Still s → Stays (passive_made p s)
  passive_stays (passive.Call c) s e = call_stays c s e
  passive_stays other s e = e

  pend_stays : (opaque : ℕ) (s : DialResult) → Still s → Stays (pended opaque s)
  unfolding pended
  pend_stays opaque s e = (tt, λ shown formed. (tt, λ reply formed. by (is_pending shown) (is_done reply)))
    where
      by : (before b : Bool) → Still (if b then state_met opaque (if before then s else with_line s (role_line s.dial.consumer.dialed role.Pending)) else over_for reason.Protocol s)
      by true true = e
      by false true = e
      by before false = e

  noted_stays : (came : Wrote) (s : DialResult) → Still s → Still (noted_for came s)
  noted_stays wrote.Stood s e = e
  noted_stays wrote.NotAsked s e = e
  noted_stays wrote.Closed s e = e
  noted_stays wrote.DiskFailed s e = e

  own_result_stays : (opaque : ℕ) (s : DialResult) (reply : Option VbReply) (came : Wrote) → Still s → Still (own_result opaque s reply came)
  own_result_stays opaque s None came e = e
  own_result_stays opaque s (Some reply) came e = by (is_done_answer reply.answer)
    where
      by : (b : Bool) → Still (if b then noted_for came (state_met opaque (heir_told reply s)) else over_for reason.Protocol s)
      by true = noted_stays came (state_met opaque (heir_told reply s)) e
      by false = e

  own_stays : (opaque : ℕ) (s : DialResult) → Still s → Holds (owned opaque s)
  unfolding owned
  own_stays opaque s e =
      always_bind_job AnyReply AnyCall EachAsk (λ (made : Option VbReply × Wrote). Unit {0}) Still (role_job s.dial.consumer.dialed.vb call.Own) (λ made. Ended (own_result opaque s made.0 made.1))
      (any_job (role_job s.dial.consumer.dialed.vb call.Own)) (λ made any. own_result_stays opaque s made.0 made.1 e)

  state_stays : (take : TakeStep) (opaque : ℕ) (s : DialResult) → Still s → Holds (state_made take opaque s)
  state_stays Pend opaque s e = lifted (pended opaque s) (pend_stays opaque s e)
  state_stays Own opaque s e = own_stays opaque s e

  step_stays : (a : ConsumerStep) (s : DialResult) → Still s → Holds (step_made a s)
  step_stays (step.Adopt log) s e = lifted (go_on_with log s) (adopt_stays log s e)
  step_stays (step.Roll point) s e = roll_stays point s e
  step_stays (step.Passive p) s e = lifted (passive_made p s) (passive_stays p s e)
  step_stays (step.State take opaque) s e = state_stays take opaque s e
  step_stays other s e = e

  frame_stays : (f : Frame) (s : DialResult) → Still s → Holds (frame_taken f s)
  unfolding frame_taken
  frame_stays f s e = step_stays (consumer_step s.dial.consumer f).1 _ e

  frames_stay : (frames : List Frame) (s : DialResult) → Still s → Holds (frames_taken frames s)
  unfolding frames_taken
  frames_stay frames s e = always_each_job AnyReply AnyCall EachAsk Still frame_taken frame_stays frames (Ended s) e

  fault_stays : (o : Option FrameFault) (s : DialResult) → Still s → Still (fault_met o s)
  fault_stays None s e = e
  fault_stays (Some fault) s e = by (is_over s.dial)
    where
      by : (b : Bool) → Still (if b then s else over_for reason.Protocol s)
      by true = e
      by false = e

  end_stays : (o : Option EndReason) (s : DialResult) → Still s → Still (with_end_line o s)
  end_stays None s e = e
  end_stays (Some why) s e = by (is_broken (Some why))
    where
      by : (b : Bool) → Still (if b then s else with_line s (event.Ended s.dial.consumer.dialed.link why))
      by true = e
      by false = e

  counted_stays : (frames : List Frame) (s : DialResult) → Still s → Still (bytes_counted frames s)
  unfolding bytes_counted
  counted_stays frames s e = by (is_over s.dial || s.dial.consumer.dialed.buffer == 0 || counted_bytes frames == 0)
    where
      by : (b : Bool) → Still (if b then s else record s { out = s.out ++ bytes_acknowledged (counted_bytes frames) s.dial.consumer })
      by true = e
      by false = e

  rest_stays : (frames : List Frame) (s : DialResult) → Still s → Holds (rest_met frames s)
  rest_stays frames s e =
      let faulted = fault_met (front_fault s.dial.heard) s in
      let met = bytes_counted frames faulted in
      end_stays (over_why met.dial.consumer.handshake) met (counted_stays frames faulted (fault_stays (front_fault s.dial.heard) s e))

  bytes_stay : (piece : List ℕ) (s : DialResult) → Still s → Holds (bytes_taken piece s)
  unfolding bytes_taken
  bytes_stay piece s e =
      let frames = frames_in (s.dial.heard ++ piece) in
      always_bind_job AnyReply AnyCall EachAsk Still Still (frames_taken frames (with_left s (s.dial.heard ++ piece))) (rest_met frames) (frames_stay _ _ e) (rest_stays frames)

pub fed_dialed : (piece : List ℕ) (dial : PlainDial) (states : States) (shelves : Shelves) → (after_job (dial_bytes piece dial) states shelves).1.dial.consumer.dialed ≡ dial.consumer.dialed
fed_dialed piece dial states shelves = after_job_always AnyCall EachAsk (Still dial.consumer.dialed) (dial_bytes piece dial) states shelves (bytes_stay dial.consumer.dialed piece (untold dial) refl)

pub due_dialed : (dial : PlainDial) (states : States) → (after (dial_due dial) states).1.dial.consumer.dialed ≡ dial.consumer.dialed
due_dialed dial states = after_always AnyCall (Still dial.consumer.dialed) (dial_due dial) states (due_stays dial.consumer.dialed (untold dial) refl)
