-- how a node makes a vBucket, and what a vBucket asks for when its node dials
use Rattle.std.specs.Prelude.{ℕ, Bool, if◌then◌else◌, List, [], ◌∷◌, map, Option, Some, None, Result, Ok, Err}
use Rattle.vb_events.specs.declared.event.Cause.{Cause}
use Rattle.vb_events.specs.declared.event.Cause.TheVariants as cause
use Rattle.vb_events.specs.declared.event.Event.{Event}
use Rattle.vb_events.specs.declared.event.Event.TheVariants as event
use Rattle.vb_types.specs.declared.role.Role.{Role}
use Rattle.vb_types.specs.declared.role.Role.TheVariants as role
use Rattle.vb_types.specs.declared.stream.StreamAsk.{StreamAsk}
use Rattle.vb_calls.specs.Programs.{Prog, Done, Call}
use Rattle.vb_calls.specs.declared.calls.VbCall.TheVariants as call
use Rattle.vb_calls.specs.declared.calls.VbAnswer.{VbAnswer}
use Rattle.vb_calls.specs.declared.calls.VbAnswer.TheVariants as answer
use Rattle.vb_calls.specs.declared.calls.VbReply.{VbReply}
use Rattle.node_core.specs.Clients.{PlainClient}

-- a vBucket that is made active is on a branch of its own, which has no parent
abbrev pub branch_lines : ℕ → ℕ → Role → ℕ → List Event
branch_lines n v role.Active uuid = event.Branch n v uuid None 0 0 ∷ event.Role n v role.Active ∷ []
branch_lines n v other uuid = event.Role n v other ∷ []

-- a request that a vBucket names
abbrev pub named_ask : VbAnswer → Option StreamAsk
named_ask (answer.Named ask) = Some ask
named_ask other = None

-- what a vBucket's answer asks for; one that does not follow others has the wrong role
abbrev pub ask_or_role : Option StreamAsk → Result StreamAsk Cause
ask_or_role None = Err cause.WrongRole
ask_or_role (Some ask) = Ok ask

-- what a vBucket asks for as a consumer, or why no link is dialed for it
abbrev pub ask_of_reply : Option VbReply → Result StreamAsk Cause
ask_of_reply None = Err cause.UnknownVb
ask_of_reply (Some reply) = ask_or_role (named_ask reply.answer)

-- the same, where there is a link already, or the link's number is not free
abbrev pub ask_if : Bool → Result StreamAsk Cause → Result StreamAsk Cause
ask_if is_free (Err why) = Err why
ask_if is_free (Ok ask) = if is_free then Ok ask else Err cause.LinkOpen

-- the vBucket v is asked what it asks for, to dial
abbrev pub dial_requested : ℕ → Bool → Prog (Result StreamAsk Cause)
dial_requested v is_free = Call v call.Ask (λ reply. Done (ask_if is_free (ask_of_reply reply)))

-- the lines of the changes that a vBucket made of its own
abbrev pub own_lines : ℕ → ℕ → VbReply → List Event
own_lines n v reply = map (event.Changed n v reply.branch) reply.changes

-- the same, if there is a reply
abbrev pub own_lines_if : ℕ → ℕ → Option VbReply → List Event
own_lines_if n v None = []
own_lines_if n v (Some reply) = own_lines n v reply

-- a session that is closed is let go
abbrev pub left_open : PlainClient → Option PlainClient
left_open client = if client.session.closed then None else Some client
