-- what a call of a node hands out
use Rattle.std.specs.Prelude.{◌≡◌, ℕ, Bool, true, false, List, [], ◌∷◌, Option, Some, None, Result, Ok, Err, if◌then◌else◌}
use Rattle.vb_events.specs.declared.event.Answer.{Answer}
use Rattle.vb_events.specs.declared.event.Answer.TheVariants as answer
use Rattle.dcp_consumer.specs.Machine.{over_why}
use Rattle.vb_events.specs.declared.event.Cause.{Cause}
use Rattle.vb_events.specs.declared.event.Cause.TheVariants as cause
use Rattle.vb_events.specs.declared.event.EndReason.{EndReason}
use Rattle.vb_events.specs.declared.event.EndReason.TheVariants as reason
use Rattle.vb_events.specs.declared.event.Event.{Event}
use Rattle.vb_events.specs.declared.event.Event.TheVariants as event
use Rattle.vb_types.specs.declared.role.Role.{Role}
use Rattle.node_core.specs.declared.out.NodeOut.{NodeOut}
use Rattle.node_core.specs.declared.roles.AdminResult.{AdminResult as Lines}
use Rattle.node_core.specs.declared.roles.AdminResult.TheVariants as lines
use Rattle.node_core.specs.declared.node.starts.Started.{Started}
use Rattle.node_core.specs.Admin.{AdminResult, noted_answer, role_lines}
use Rattle.vb_calls.specs.declared.journals.Wrote.{Wrote}
use Rattle.node_core.specs.Calls.{branch_lines}
use Rattle.node_core.specs.Flushing.{FlushResult}
use Rattle.node_core.specs.Dials.{PlainDial, KeptDial, DialResult, is_broken, is_over}
use Rattle.node_core.specs.Clients.{PlainClient, Handling, ClientPulled}
use Rattle.node_core.specs.Peers.{PlainPeer, PeerResult, PullResult}

-- the call was refused, and nothing happened
abbrev pub refused_out : Cause → NodeOut
refused_out why = record { events = []; out = []; answer = answer.No why; closed = false; resolved = [] }

-- the call was carried out: its lines, and the bytes for the other side
abbrev pub done_out : List Event → List ℕ → NodeOut
done_out events out = record { events = events; out = out; answer = answer.Ok; closed = false; resolved = [] }

-- a vBucket was made, and this became of its first record
abbrev pub made_out : ℕ → ℕ → Role → ℕ → Wrote → NodeOut
made_out n v role uuid wrote = record { events = branch_lines n v role uuid; out = []; answer = noted_answer wrote answer.Ok; closed = false; resolved = [] }

-- the same where it was made, and else that it is refused
abbrev pub made_unless : ℕ → ℕ → Role → ℕ → Option Wrote → NodeOut
made_unless n v role uuid (Some wrote) = made_out n v role uuid wrote
made_unless n v role uuid None = refused_out cause.VbExists

-- what a step of writing down hands out
abbrev pub flush_out : FlushResult → NodeOut
flush_out told = record { events = told.events; out = []; answer = told.answer; closed = false; resolved = told.resolved }

-- what was told of such a step, by what it handed out
abbrev pub flush_by : NodeOut → FlushResult
flush_by out = record { events = out.events; answer = out.answer; resolved = out.resolved }

-- what a start told
abbrev pub start_by : Started → FlushResult
start_by told = record { events = told.lines.items; answer = told.answer; resolved = [] }

-- what a client's bytes hand out, or an outcome
abbrev pub client_out : Handling → NodeOut
client_out h = record { events = h.events; out = []; answer = answer.Ok; closed = h.client.session.closed; resolved = [] }

-- what came of a client's connection, by what it handed out and the connection after it: no frame is left to be answered
abbrev pub handling_by : PlainClient → NodeOut → Handling
handling_by client out = record { client = client; events = out.events; dcp = None }

-- what frames of a client's streams hand out
abbrev pub client_pull_out : ClientPulled → NodeOut
client_pull_out told = record { events = told.events; out = []; answer = told.answer; closed = false; resolved = [] }

-- what was told of them, by what they handed out and the connection after them
abbrev pub client_pulled_by : PlainClient → NodeOut → ClientPulled
client_pulled_by client out = record { client = client; events = out.events; answer = out.answer }

-- what a peer's frame hands out
abbrev pub peer_out : PeerResult → NodeOut
peer_out told = record (done_out told.events told.out) { resolved = told.resolved }

-- what was told of a peer's frame, by what it handed out and the connection after it
abbrev pub peer_result_by : PlainPeer → NodeOut → PeerResult
peer_result_by peer out = record { peer = peer; events = out.events; out = out.out; resolved = out.resolved }

-- what frames of a peer's streams hand out
abbrev pub pull_out : PullResult → NodeOut
pull_out told = record { events = told.events; out = told.out; answer = told.answer; closed = false; resolved = [] }

-- what was told of frames, by what they handed out and the connection after them
abbrev pub pulled_by : PlainPeer → NodeOut → PullResult
pulled_by peer out = record { peer = peer; events = out.events; out = out.out; answer = out.answer }

-- what it hands out that a stream's cursor is taken away: whether it had one
abbrev pub dropped_out : Bool → NodeOut
dropped_out had = record { events = []; out = []; answer = answer.Number (if had then 1 else 0); closed = false; resolved = [] }

-- the answer to bytes for a dial: a rollback or a takeover could not be written down, or they were taken
abbrev pub dial_answer : Option EndReason → Answer
dial_answer why = if is_broken why then answer.No cause.Disk else answer.Ok

-- what a dialed producer's bytes hand out
abbrev pub dial_out : DialResult → NodeOut
dial_out told = record { events = told.events; out = told.out; answer = dial_answer (over_why told.dial.consumer.handshake); closed = is_over told.dial; resolved = [] }

-- the line of a dial that is cut
abbrev pub cut_line : PlainDial → Event
cut_line dial = event.Ended dial.consumer.dialed.link reason.Cut

-- the line of the own dial, if there is one, that a change of role cuts
abbrev pub cut_lines : Option KeptDial → List Event
cut_lines None = []
cut_lines (Some kept) = cut_line kept.plain ∷ []

-- a dial that is let go hands out the line of its end
abbrev pub cut_out : PlainDial → NodeOut
cut_out dial = record { events = cut_line dial ∷ []; out = []; answer = answer.Ok; closed = true; resolved = [] }

-- the vBucket's own dial, where a change of role ends it
abbrev pub dial_ended : Option (List ℕ) → Option KeptDial → Option KeptDial
dial_ended None kept = None
dial_ended (Some ids) kept = kept

-- what an operator's call hands out: the end of the own dial, if it ended it, and then what the call told
abbrev pub admin_out : Option KeptDial → AdminResult → NodeOut
admin_out None told = record { events = told.events; out = []; answer = told.answer; closed = false; resolved = told.resolved }
admin_out (Some kept) told = record { events = cut_line kept.plain ∷ told.events; out = []; answer = told.answer; closed = true; resolved = told.resolved }

-- an operator's call told this: another role, with its lines, the streams that it ended and what became of durable writes, or what is handed out where the role stays
abbrev pub Tells : Lines → AdminResult → Type 0
Tells (lines.Role role ended resolved) told = told ≡ record { events = role_lines role; answer = answer.Ok; ended = Some ended; resolved = resolved }
Tells (lines.Out out) told = (told.ended ≡ None) × (out ≡ admin_out None told)

-- a connection is gone after a call that handed this out
abbrev pub is_gone : {E : Type 0} → Result NodeOut E → Bool
is_gone (Ok out) = out.closed
is_gone (Err stop) = false
