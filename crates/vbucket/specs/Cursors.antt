-- which calls make, move and take away the cursor of a stream
use Rattle.std.specs.Prelude.{◌≡◌, ◌⊎◌, ℕ, Bool, ◌<◌, ◌≤◌, true, List, [], ◌∷◌, Some}
use Rattle.vb_types.specs.declared.stream.Place.TheVariants.{Memory}
use Rattle.vb_types.specs.declared.stream.StreamAsk.{StreamAsk}
use Rattle.vb_calls.specs.declared.calls.VbAnswer.{VbAnswer}
use Rattle.vb_calls.specs.declared.calls.VbAnswer.TheVariants as answer
use Rattle.vb_calls.specs.declared.calls.VbCall.{VbCall}
use Rattle.vb_calls.specs.declared.calls.VbCall.TheVariants.{CloseStream, DropCursor, OpenStream, Place, Stat, Take}
use Rattle.vb_calls.specs.declared.calls.VbReply.{VbReply}
use Rattle.vb_calls.specs.declared.stream.Stream.{Stream}
use Rattle.vb_calls.specs.Plain.{Plain, plain_step}
use Rattle.vb_calls.specs.Streams.{memory_from, stream_at}

-- the stream of this number is open, and has a cursor at this place
abbrev pub HasCursor : Plain → ℕ → ℕ → Type 0
HasCursor vb id place = (s : Stream) × (stream_at id vb.streams ≡ Some s) × (s.cursor ≡ true) × (s.place ≡ place)

-- it has none
abbrev pub HasNone : Plain → ℕ → Type 0
HasNone vb id = (place : ℕ) → HasCursor vb id place → ⊥

-- a number among these
abbrev pub IsEnded : ℕ → List ℕ → Type 0
IsEnded id [] = ⊥
IsEnded id (n ∷ ns) = (n ≡ id) ⊎ IsEnded id ns

-- an open stream's changes come from memory
abbrev pub IsPlaced : Plain → VbCall → ℕ → ℕ → VbAnswer → Type 0
IsPlaced vb call id place said = (call ≡ Place id) × (said ≡ answer.Placed Memory) × ((s : Stream) × (stream_at id vb.streams ≡ Some s) × (s.place ≡ place))

-- one is opened whose changes come from memory
abbrev pub IsOpened : Plain → VbCall → ℕ → ℕ → VbAnswer → Type 0
IsOpened vb call id place said = (ask : StreamAsk) × (sync : Bool) × (call ≡ OpenStream id ask sync) × (said ≡ answer.Opened vb.log vb.position.at Memory) × (ask.start ≡ place)

-- the stream is closed, its cursor is taken from it, or it is ended by a change of role
abbrev pub IsOver : VbCall → ℕ → VbReply → Type 0
IsOver call id reply = (call ≡ CloseStream id) ⊎ ((call ≡ DropCursor id) ⊎ IsEnded id reply.ended)

-- A cursor is made where a stream's changes come from memory, and where one is opened that is served from there, and nowhere else; it moves on where the stream takes a snapshot, and nowhere else; and it goes where it is taken away, and with its stream, and nowhere else. The flusher's stays.
pub record CursorsAs (vb : Plain) (call : VbCall) (id : ℕ) (after : Plain × VbReply) : Type 0 where
  pub makes : (place : ℕ) → IsPlaced vb call id place after.1.answer ⊎ IsOpened vb call id place after.1.answer → HasCursor after.0 id place
  pub made : (place : ℕ) → HasNone vb id → HasCursor after.0 id place → IsPlaced vb call id place after.1.answer ⊎ IsOpened vb call id place after.1.answer
  pub moved : (old place : ℕ) → HasCursor vb id old → HasCursor after.0 id place → (old ≡ place) ⊎ ((call ≡ Take id) × (old < place))
  pub goes : IsOver call id after.1 → HasNone after.0 id
  pub gone : (old : ℕ) → HasCursor vb id old → HasNone after.0 id → IsOver call id after.1
  pub stays : (windows items cursors saved high : ℕ) → (plain_step after.0 Stat).1.answer ≡ answer.Stat windows items cursors saved high → 1 ≤ cursors

-- each call and each stream
abbrev pub CursorsExactly : Type 0
CursorsExactly = (vb : Plain) (call : VbCall) (id : ℕ) → CursorsAs vb call id (plain_step vb call)
