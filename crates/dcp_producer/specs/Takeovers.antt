-- how a stream gives its vBucket up to its consumer's, in words beside the definitions; its steps are known by their numbers, 1 to 8
use Rattle.std.specs.Prelude.{◌≡◌, ◌⊎◌, ◌↔◌, ℕ, ◌<◌, true, false, List, [], ◌∷◌, length, map, Option, Some, None}
use Rattle.std.specs.List.{All, flat_map}
use Rattle.mcbp_dcp.specs.declared.message.DcpMsg.TheVariants as msg
use Rattle.vb_types.specs.declared.role.Role.{Role}
use Rattle.vb_types.specs.declared.role.Role.TheVariants as role
use Rattle.vb_events.specs.declared.event.Event.{Event}
use Rattle.vb_events.specs.declared.event.Event.TheVariants as event
use Rattle.vb_events.specs.declared.event.StreamName.{StreamName}
use Rattle.vb_events.specs.declared.event.Why.TheVariants as why
use Rattle.vb_calls.specs.declared.calls.VbAnswer.TheVariants as answer
use Rattle.vb_calls.specs.declared.calls.VbCall.TheVariants as call
use Rattle.vb_calls.specs.declared.calls.VbReply.{VbReply}
use Rattle.vb_calls.specs.Programs.{Made}
use Rattle.dcp_producer.specs.declared.halt.Halt.{Halt}
use Rattle.dcp_producer.specs.declared.next_frame.NextFrame.{NextFrame}
use Rattle.dcp_producer.specs.declared.next_frame.NextFrame.TheVariants as next
use Rattle.dcp_producer.specs.declared.next_frame.Waits.TheVariants as waits
use Rattle.dcp_producer.specs.declared.yields.Yielded.{Yielded}
use Rattle.dcp_producer.specs.Ends.{IsAt, IsBehind, IsSaid, AskedTake}
use Rattle.dcp_producer.specs.Giving.{Yields}
use Rattle.dcp_producer.specs.Holding.{IsShut}
use Rattle.dcp_producer.specs.Producers.{PlainStream, PlainProducer, Served}
use Rattle.dcp_producer.specs.Pulling.{why_of}
use Rattle.dcp_producer.specs.Pulls.{OneStops, OneWaits, PullsInTurn}
use Rattle.dcp_producer.specs.Turns.{put_in}

-- ---- what a stream puts

-- a state of this role is put, and the line tells it
abbrev pub PutsState : StreamName → Role → NextFrame → Type 0
PutsState name told comes = comes ≡ next.Put (msg.SetVbucketState told) (event.Stated name told)

-- no state is put
abbrev pub PutsNone : NextFrame → Type 0
PutsNone comes = (told : Role) (line : Event) → comes ≡ next.Put (msg.SetVbucketState told) line → ⊥

-- its changes come from memory, or its journal gave none, and its vBucket has no snapshot for it: all was sent
abbrev pub IsUp : PlainStream → List Made → Type 0
IsUp stream made = (reply : Option VbReply) × IsSaid reply answer.Nothing × AskedTake stream made reply

-- Behind its items, and where no change of role ended it, a stream puts the state pending exactly in the first step, where all was sent, and active exactly in the fifth, where all was; the second and the sixth step, in which a state alone is put without a call, are passed over with that, and no stream stands in one of them. It is in the third and the seventh then. No other state is put, and nothing else that it puts changes its step. Its end with reason 0 comes exactly in the eighth step; its end with 2 in place of any of these, and without a call, where a change of role ended it. In the third, the fourth and the seventh it puts nothing
pub record InOrder (name : StreamName) (stream : PlainStream) (made : List Made) (comes : NextFrame) (left : PlainStream) : Type 0 where
  pub pending : PutsState name role.Pending comes
      ↔ (IsBehind stream × (stream.ended ≡ false) × ((IsAt 1 stream × IsUp stream made) ⊎ (IsAt 2 stream × (made ≡ []))))
  pub active : PutsState name role.Active comes
      ↔ (IsBehind stream × (stream.ended ≡ false) × ((IsAt 5 stream × IsUp stream made) ⊎ (IsAt 6 stream × (made ≡ []))))
  pub others : (told : Role) (line : Event) → comes ≡ next.Put (msg.SetVbucketState told) line → (line ≡ event.Stated name told) × ((told ≡ role.Pending) ⊎ (told ≡ role.Active))
  pub third : PutsState name role.Pending comes → IsAt 3 left
  pub seventh : PutsState name role.Active comes → IsAt 7 left
  pub stays : PutsNone comes → left.gives ≡ stream.gives
  pub passed : (IsAt 2 stream ⊎ IsAt 6 stream → ⊥) → IsAt 2 left ⊎ IsAt 6 left → ⊥
  pub last : (stream.gives ≡ None → ⊥) → (comes ≡ next.End 0) ↔ (IsBehind stream × (stream.ended ≡ false) × IsAt 8 stream)
  pub over : IsBehind stream → stream.ended ≡ true → (comes ≡ next.End 2) × (made ≡ [])
  pub quiet : IsBehind stream × (stream.ended ≡ false) × (IsAt 3 stream ⊎ IsAt 4 stream ⊎ IsAt 7 stream) → comes ≡ next.Quiet waits.State

-- ---- when its vBucket is given up

-- the vBucket of a stream is to be given up: the stream is in the fourth step, all of its items are put, and no change of role ended it
pub record IsDue (stream : PlainStream) : Type 0 where
  pub fourth : IsAt 4 stream
  pub behind : IsBehind stream
  pub alive : stream.ended ≡ false

-- a stream in front of a pull: as it stood, with these calls, as it went on, and what was told of its vBucket
pub record Asked : Type 0 where
  pub stream : PlainStream
  pub made : List Made
  pub left : PlainStream
  pub told : List Yielded

-- its vBucket was to be given up, and replied so: where it says that it was, the stream is in the fifth step, and nothing else of it changed, and what is told is what the reply tells; by any other reply, or none, the stream is ended, and nothing is told
pub record YieldsBy (t : Asked) (reply : Option VbReply) : Type 0 where
  pub made : t.made ≡ (t.stream.vb, call.Yield t.stream.id, reply) ∷ []
  pub done : (r : VbReply) → reply ≡ Some r → r.answer ≡ answer.Done
      → IsAt 5 t.left × (t.left ≡ record t.stream { gives = t.left.gives }) × (t.told ≡ record { vb = t.stream.vb; ended = r.ended; resolved = r.resolved } ∷ [])
  pub refused : (IsSaid reply answer.Done → ⊥) → (t.left ≡ record t.stream { ended = true }) × (t.told ≡ [])

-- its vBucket is asked to be given up, once, exactly where that is to be; else nothing is called, told or changed
pub record YieldsSo (t : Asked) : Type 0 where
  pub due : IsDue t.stream → (reply : Option VbReply) × YieldsBy t reply
  pub stays : (IsDue t.stream → ⊥) → (t.made ≡ []) × (t.left ≡ t.stream) × (t.told ≡ [])

-- so it is with each stream, in the order in which they were opened; and nothing else of the connection changes
pub record YieldsInOrder (end : PlainProducer) (made : List Made) (came : Yields) : Type 0 where
  pub asked : List Asked
  pub each : All YieldsSo asked
  pub streams : map (λ t. t.stream) asked ≡ end.streams
  pub calls : made ≡ flat_map (λ t. t.made) asked
  pub left : came.end ≡ record end { streams = map (λ t. t.left) asked }
  pub told : came.yielded ≡ flat_map (λ t. t.told) asked

-- ---- answers to states

-- a stream waits for the answer to a state that it put with this opaque
abbrev pub Awaits : ℕ → PlainStream → Type 0
Awaits opaque stream = (stream.opaque ≡ opaque) × (IsAt 3 stream ⊎ IsAt 7 stream)

-- it goes on where it does, from the third step to the fourth and from the seventh to the eighth, and nothing else of it changes; any other is as it was
pub record HearsSo (opaque : ℕ) (old new : PlainStream) : Type 0 where
  pub goes : Awaits opaque old → new ≡ record old { gives = new.gives }
  pub third : Awaits opaque old → IsAt 3 old → IsAt 4 new
  pub seventh : Awaits opaque old → IsAt 7 old → IsAt 8 new
  pub stays : (Awaits opaque old → ⊥) → new ≡ old

abbrev pub HearEach : ℕ → List PlainStream → List PlainStream → Type 0
HearEach opaque [] new = new ≡ []
HearEach opaque (x ∷ old) [] = ⊥
HearEach opaque (x ∷ old) (y ∷ new) = HearsSo opaque x y × HearEach opaque old new

-- none of these streams waits for one
abbrev pub NoneAwaits : ℕ → List PlainStream → Type 0
NoneAwaits opaque streams = All (λ stream. Awaits opaque stream → ⊥) streams

-- ---- why a pull puts no more

-- The line says that all were put exactly where as many were as were asked for; that the window is shut exactly where fewer were, and it is left shut; next that a journal can't be read exactly where a stream that was asked said so; next that one waits for the answer to a state exactly where a stream that was asked said so; next that one waits for what is to be saved exactly where a stream said that; and that there is no more exactly where none said either
pub record WaitsInOrder (k : ℕ) (s : Served) (made : List Made) (left : Served) (halted : Halt) : Type 0 where
  pub pull : PullsInTurn k s made left halted
  pub put : ℕ
  pub many : put ≡ length (put_in s.end.desk.stream pull.tries)
  pub all : (why_of halted ≡ why.All) ↔ (put ≡ k)
  pub full : (why_of halted ≡ why.Full) ↔ ((put < k) × IsShut left.end.window)
  pub disk : (why_of halted ≡ why.Disk) ↔ ((put < k) × (IsShut left.end.window → ⊥) × OneStops pull.tries)
  pub states : (why_of halted ≡ why.WaitState) ↔ ((put < k) × (IsShut left.end.window → ⊥) × (OneStops pull.tries → ⊥) × OneWaits waits.State pull.tries)
  pub saves : (why_of halted ≡ why.WaitSaved)
      ↔ ((put < k) × (IsShut left.end.window → ⊥) × (OneStops pull.tries → ⊥) × (OneWaits waits.State pull.tries → ⊥) × OneWaits waits.Saved pull.tries)
  pub idle : (why_of halted ≡ why.Idle)
      ↔ ((put < k) × (IsShut left.end.window → ⊥) × (OneStops pull.tries → ⊥) × (OneWaits waits.State pull.tries → ⊥) × (OneWaits waits.Saved pull.tries → ⊥))
