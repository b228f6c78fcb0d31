-- what closing a stream comes to, and where a stream's changes come from
use Rattle.std.specs.Prelude.{◌≡◌, ◌≢◌, ◌↔◌, ◌⊎◌, ℕ, ◌<◌, ◌≤◌, ◌==◌, true, false, if◌then◌else◌, List, [], ◌∷◌, map, Some}
use Rattle.vb_types.specs.declared.stream.Place.TheVariants.{Memory, WaitSaved}
use Rattle.vb_calls.specs.declared.calls.VbCall.TheVariants.{CloseStream, Place}
use Rattle.vb_calls.specs.declared.calls.VbAnswer.TheVariants as answer
use Rattle.vb_calls.specs.declared.calls.VbReply.{VbReply}
use Rattle.vb_calls.specs.declared.stream.Stream.{Stream}
use Rattle.vb_calls.specs.Plain.{Plain, plain_step}
use Rattle.vb_calls.specs.Streams.{memory_from, stream_at}
use Rattle.vbucket.specs.Asks.{IsOpen}

-- the streams of the first list that have another number than id, in their order
abbrev pub AreOthers : ℕ → List Stream → List Stream → Type 0
AreOthers id [] left = left ≡ []
AreOthers id (s ∷ ss) left = ((s.id ≡ id) × AreOthers id ss left) ⊎ ((s.id ≢ id) × ((more : List Stream) × (left ≡ s ∷ more) × AreOthers id ss more))

-- the stream of this number is taken out, and nothing else changes; the answer says whether it was there
pub record ClosesAs (vb : Plain) (id : ℕ) (after : Plain × VbReply) : Type 0 where
  pub others : AreOthers id vb.streams after.0.streams
  pub stays : after.0 ≡ record vb { streams = after.0.streams }
  pub there : (after.1.answer ≡ answer.Flag true) ↔ IsOpen id vb.streams
  pub none : (after.1.answer ≡ answer.Flag false) ↔ (IsOpen id vb.streams → ⊥)

-- each stream is closed so
abbrev pub ClosesExactly : Type 0
ClosesExactly = (vb : Plain) (id : ℕ) → ClosesAs vb id (plain_step vb (CloseStream id))

-- a stream with a cursor, if it is the one of this number
abbrev pub with_its : ℕ → Stream → Stream
with_its id s = if s.id == id then record s { cursor = true } else s

-- an open stream's changes come from memory where it has a cursor, which changes nothing, and where it has none and stands where memory serves: it has one then, at its place. Any other waits, and nothing changes; where no such stream is open that is said
pub record PlacesAs (vb : Plain) (id : ℕ) (after : Plain × VbReply) : Type 0 where
  pub absent : (after.1.answer ≡ answer.Absent) ↔ (IsOpen id vb.streams → ⊥)
  pub memory : (after.1.answer ≡ answer.Placed Memory) ↔ ((s : Stream) × (stream_at id vb.streams ≡ Some s) × ((s.cursor ≡ true) ⊎ (memory_from vb ≤ s.place)))
  pub waits : (after.1.answer ≡ answer.Placed WaitSaved) ↔ ((s : Stream) × (stream_at id vb.streams ≡ Some s) × (s.cursor ≡ false) × (s.place < memory_from vb))
  pub had : (s : Stream) → stream_at id vb.streams ≡ Some s → s.cursor ≡ true → after.0 ≡ vb
  pub made : (s : Stream) → stream_at id vb.streams ≡ Some s → s.cursor ≡ false → memory_from vb ≤ s.place → after.0 ≡ record vb { streams = map (with_its id) vb.streams }
  pub still : after.1.answer ≢ answer.Placed Memory → after.0 ≡ vb

-- each stream's place is told so
abbrev pub PlacesExactly : Type 0
PlacesExactly = (vb : Plain) (id : ℕ) → PlacesAs vb id (plain_step vb (Place id))
