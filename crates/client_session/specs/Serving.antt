-- what a client's connection does with the bytes that come, as programs over its node's vBuckets
use Rattle.std.specs.Prelude.{ℕ, suc, ◌+◌, ◌-◌, ◌*◌, ◌^◌, ◌==◌, ◌||◌, nat_le, min, Bool, true, false, if◌then◌else◌, List, [], ◌∷◌, ◌++◌, length, drop, map, Option, Some, None, is_some, option_map, Result, Ok, Err}
use Rattle.std.specs.List.{find, list_any}
use Rattle.mcbp_dcp.specs.Rows.{dcp_opcodes}
use Rattle.mcbp_frame.specs.Frames.{faulty_head, first_frame, frame_len}
use Rattle.mcbp_frame.specs.declared.frame.Frame.{Frame}
use Rattle.mcbp_frame.specs.declared.frame.FrameFault.{FrameFault}
use Rattle.mcbp_frame.specs.declared.frame.TheConstants.{RESPONSE}
use Rattle.mcbp_kv.specs.Features.{feature_bytes, has_feature}
use Rattle.mcbp_kv.specs.Answers.{bare_answer, stored_answer}
use Rattle.mcbp_kv.specs.Requests.{request_of}
use Rattle.mcbp_kv.specs.declared.reply.KvReply.{KvReply}
use Rattle.mcbp_kv.specs.declared.durable.Durability.{Durability}
use Rattle.mcbp_kv.specs.declared.feature.Feature.{Feature}
use Rattle.mcbp_kv.specs.declared.feature.Feature.TheVariants as feature
use Rattle.mcbp_kv.specs.declared.request.KvRequest.{KvRequest}
use Rattle.mcbp_kv.specs.declared.request.KvRequest.TheVariants as request
use Rattle.vb_events.specs.declared.event.Event.{Event}
use Rattle.vb_events.specs.declared.event.Event.TheVariants as event
use Rattle.vb_types.specs.declared.write.Write.{Write}
use Rattle.vb_types.specs.declared.status.Status.{Status}
use Rattle.vb_types.specs.declared.status.Status.TheVariants as status
use Rattle.vb_calls.specs.Programs.{Prog, Done, Call, bind, Turn, More, Stop, repeated}
use Rattle.vb_calls.specs.declared.calls.VbCall.{VbCall}
use Rattle.vb_calls.specs.declared.calls.VbCall.TheVariants as call
use Rattle.vb_calls.specs.declared.calls.VbReply.{VbReply}
use Rattle.vb_calls.specs.declared.calls.VbAnswer.{VbAnswer}
use Rattle.vb_calls.specs.declared.calls.VbAnswer.TheVariants as answer
use Rattle.vb_calls.specs.declared.calls.Resolution.{Resolution}
use Rattle.vb_calls.specs.declared.calls.Resolution.TheVariants as resolution
use Rattle.vb_calls.specs.declared.calls.Resolved.{Resolved}
use Rattle.client_session.specs.declared.session.Awaited.{Awaited}
use Rattle.client_session.specs.declared.session.Settings.{Settings}
use Rattle.client_session.specs.declared.session.Who.{Who}
use Rattle.client_session.specs.Answers.{status_reply, value_reply, token, reply_line, request_lines, fault_lines}

-- a connection: which it is, the bytes that came and were not served yet, what HELLO set, whether it is closed, how many durable writes it asked for, and which one it awaits the outcome of, if it does: no frame is served before
pub record PlainSession : Type 0 where
  pub who : Who
  pub reader : List ℕ
  pub settings : Settings
  pub closed : Bool
  pub used : ℕ
  pub awaited : Option Awaited

-- a connection as its node keeps it; after want of memory it is spent, and serves nothing any more
pub record KeptSession : Type 0 where
  pub plain : PlainSession
  pub spent : Bool

-- a connection in a call, the lines that tell what happened, and the request of DCP that it handed up, if it did: no frame is served before its node answered that
pub record Served : Type 0 where
  pub session : PlainSession
  pub events : List Event
  pub dcp : Option Frame

-- a connection that handed nothing up, and these lines
abbrev pub served : PlainSession → List Event → Served
served session events = record { session = session; events = events; dcp = None }

-- nothing was asked for by HELLO
abbrev pub no_settings : Settings
no_settings = record { json = false; seqnos = false }

-- a new connection
abbrev pub new_session : Who → PlainSession
new_session who = record { who = who; reader = []; settings = no_settings; closed = false; used = 0; awaited = None }

-- with more lines
abbrev pub with_lines : Served → List Event → Served
with_lines s lines = record s { events = s.events ++ lines }

-- a request is answered with a status alone
abbrev pub refused : Frame → Status → Served → Served
refused f st s = with_lines s (reply_line s.session.who.node s.session.who.client (status_reply f st) ∷ [])

-- HELLO replaces what was set before by the features that it accepts
abbrev pub settings_of : List Feature → Settings
settings_of features = record { json = has_feature feature.Json features; seqnos = has_feature feature.MutationSeqnos features }

-- HELLO answers the features that it accepts
abbrev pub greeted : Frame → List Feature → Served → Served
greeted f features s = record s {
  session = record s.session { settings = settings_of features };
  events = s.events ++ reply_line s.session.who.node s.session.who.client (value_reply f (feature_bytes features)) ∷ [];
}

-- a vBucket's reply is told and answered
unfoldable pub told : Frame → Served → Option VbReply → Served
told f s reply = with_lines s (request_lines s.session.who.node s.session.who.client s.session.settings f reply)

-- the vBucket that a frame names is asked, and its reply is told and answered
abbrev pub asked : Frame → VbCall → Served → Prog Served
asked f c s = Call f.vb_or_status c (λ reply. Done (told f s reply))

-- under which number a connection waits for the outcome of its next durable write: no other wait has it
abbrev pub next_waiter : PlainSession → ℕ
next_waiter session = session.who.base * 2 ^ 32 + (session.used + 1)

-- when a durable write is given up: so many milliseconds from now, in nanoseconds of the clock, and at its last number where that is beyond it
abbrev pub deadline_of : ℕ → ℕ → ℕ
deadline_of clock timeout = min (clock + timeout * 1000000) (2 ^ 64 - 1)

-- the connection asked for one more durable write
abbrev pub with_used : Served → Served
with_used s = record s { session = record s.session { used = s.session.used + 1 } }

-- the answer to a durable write, by what became of it
abbrev pub outcome_reply : Settings → Awaited → Resolution → KvReply
outcome_reply settings a (resolution.Committed uuid seq cas) = stored_answer a.opcode a.opaque cas (token settings uuid seq)
outcome_reply settings a resolution.Ambiguous = bare_answer a.opcode status.SyncWriteAmbiguous a.opaque

-- a durable write is answered, and awaited no more
abbrev pub outcome_answered : Awaited → Resolution → Served → Served
outcome_answered a how s = record s {
  session = record s.session { awaited = None };
  events = s.events ++ reply_line s.session.who.node s.session.who.client (outcome_reply s.session.settings a how) ∷ [];
}

-- the outcome for this waiter, where it is among these
abbrev pub outcome_of : ℕ → List Resolved → Option Resolution
outcome_of waiter resolved = option_map (λ r. r.how) (find (λ r. r.waiter == waiter) resolved)

-- a durable write was prepared: its outcome is told at once where it is known, and awaited elsewhere
abbrev pub answered_or_awaited : Awaited → Option Resolution → Served → Served
answered_or_awaited a (Some how) s = outcome_answered a how s
answered_or_awaited a None s = record s { session = record s.session { awaited = Some a } }

-- who waits for a frame's durable write
abbrev pub awaited_by : ℕ → Frame → Awaited
awaited_by waiter f = record { waiter = waiter; opcode = f.opcode; opaque = f.opaque }

-- a vBucket's answer to a durable write of this waiter, and its outcome where that is known
abbrev pub durable_answered : ℕ → Frame → Option Resolution → VbAnswer → Served → Served
durable_answered waiter f how (answer.Status st) s = refused f st s
durable_answered waiter f how (answer.Prepared seq cas) s = answered_or_awaited (awaited_by waiter f) how s
durable_answered waiter f how other s = s

-- a vBucket's reply to a durable write: the changes that it made are told, and then the answer or nothing yet
unfoldable pub durable_replied : ℕ → Frame → Served → Option VbReply → Served
durable_replied waiter f s None = refused f status.NotMyVbucket s
durable_replied waiter f s (Some reply) =
    durable_answered waiter f (outcome_of waiter reply.resolved) reply.answer
    (with_lines s (map (event.Changed s.session.who.node f.vb_or_status reply.branch) reply.changes))

-- how many durable writes one connection may ask for
abbrev pub MOST_DURABLE : ℕ
MOST_DURABLE = 2 ^ 32 - 1

-- the vBucket that a frame names is asked for a durable write, whose wait has the connection's next number
abbrev pub durable_called : Frame → VbCall → Served → Prog Served
durable_called f c s = Call f.vb_or_status c (λ reply. Done (durable_replied (next_waiter s.session) f (with_used s) reply))

-- a durable write: its vBucket is asked, unless so many were asked for before
abbrev pub durable_requested : ℕ → Frame → Write → Durability → Served → Prog Served
durable_requested clock f write wish s =
    if nat_le MOST_DURABLE s.session.used then Done (refused f status.Etmpfail s)
    else durable_called f (call.Durable write clock wish.level (deadline_of clock wish.timeout) (next_waiter s.session)) s

-- a request: its vBucket is asked where a document is meant; the clock shows so many nanoseconds
unfoldable pub request_handled : ℕ → Frame → Result KvRequest Status → Served → Prog Served
request_handled clock f (Err st) s = Done (refused f st s)
request_handled clock f (Ok request.Noop) s = Done (refused f status.Success s)
request_handled clock f (Ok (request.Hello features)) s = Done (greeted f features s)
request_handled clock f (Ok (request.Get key)) s = asked f (call.Get key) s
request_handled clock f (Ok (request.Write write None)) s = asked f (call.Store write clock) s
request_handled clock f (Ok (request.Write write (Some wish))) s = durable_requested clock f write wish s

-- a request is answered by what is read of it
abbrev pub frame_answered : ℕ → Frame → Served → Prog Served
frame_answered clock f s = request_handled clock f (request_of s.session.settings.json f) s

-- an opcode that DCP has
abbrev pub is_dcp : ℕ → Bool
is_dcp opcode = list_any (λ o. o == opcode) dcp_opcodes

-- a request of DCP is handed up
abbrev pub handed : Frame → Served → Served
handed f s = record s { dcp = Some f }

-- a request is answered, or handed up where it is DCP's; a response, which answers nothing that was waited for, is dropped
unfoldable pub frame_handled : ℕ → Frame → Served → Prog Served
frame_handled clock f s =
    if f.magic == RESPONSE then Done s
    else if is_dcp f.opcode then Done (handed f s)
    else frame_answered clock f s

-- a closed session keeps no bytes
abbrev pub closed_with : Served → List Event → Served
closed_with s lines = record s { session = record s.session { reader = []; closed = true }; events = s.events ++ lines }

-- a frame that breaks the rules of its header ends the session
abbrev pub ended_at : Option FrameFault → Served → Served
ended_at None s = s
ended_at (Some fault) s = closed_with s (fault_lines s.session.who.node s.session.who.client (faulty_head fault s.session.reader))

-- the same connection, with these bytes kept
abbrev pub with_bytes : List ℕ → Served → Served
with_bytes bytes s = record s { session = record s.session { reader = bytes } }

-- whether the turns go on
abbrev pub turn : Bool → Served → Turn Served Served
turn more s = if more then More s else Stop s

-- an outcome is awaited
abbrev pub is_waiting : PlainSession → Bool
is_waiting session = is_some session.awaited

-- a frame that was handed up is not answered yet, or an outcome is awaited: no frame is served
abbrev pub is_held : Served → Bool
is_held s = is_some s.dcp || is_waiting s.session

-- one turn, by what the kept bytes begin with: a frame is cut off and served; a fault ends the session
abbrev pub turn_by : ℕ → Served → Option (Result Frame FrameFault) → Prog (Turn Served Served)
turn_by clock s None = Done (Stop s)
turn_by clock s (Some (Err fault)) = Done (Stop (ended_at (Some fault) s))
turn_by clock s (Some (Ok f)) = bind (frame_handled clock f (with_bytes (drop (frame_len f) s.session.reader) s)) (λ t. Done (More t))

-- one frame of the kept bytes; none while the connection is held
unfoldable pub turn_handled : ℕ → Served → Prog (Turn Served Served)
turn_handled clock s = if is_held s then Done (Stop s) else turn_by clock s (first_frame s.session.reader)

-- where the turns came to
abbrev pub come_to : Turn Served Served → Prog Served
come_to (More s) = Done s
come_to (Stop s) = Done s

-- turn after turn, one frame each, until a frame is handed up, an outcome is awaited, less than a frame is left, or a fault; a turn takes a byte at least
unfoldable pub turns_handled : ℕ → Served → Prog Served
turns_handled clock s = bind (repeated (suc (length s.session.reader)) (turn_handled clock) s) come_to

-- the next bytes from the client: the frames that are whole now are served, in order, up to one that is handed up or whose outcome is awaited, and a fault behind them ends the session; a closed one serves nothing any more
unfoldable pub bytes_handled : ℕ → List ℕ → Served → Prog Served
bytes_handled clock piece s =
    if s.session.closed then Done s else turns_handled clock (with_bytes (s.session.reader ++ piece) s)

-- the outcome of the durable write of this waiter is awaited
abbrev pub awaits : ℕ → Option Awaited → Bool
awaits waiter None = false
awaits waiter (Some a) = a.waiter == waiter

-- what became of a durable write, by what is awaited: where it is this outcome, it is told, and the frames behind are served
abbrev pub outcome_by : ℕ → Resolved → Served → Option Awaited → Prog Served
outcome_by clock r s None = Done s
outcome_by clock r s (Some a) = if a.waiter == r.waiter then turns_handled clock (outcome_answered a r.how s) else Done s

-- what became of a durable write
unfoldable pub outcome_handled : ℕ → Resolved → Served → Prog Served
outcome_handled clock r s = outcome_by clock r s s.session.awaited
