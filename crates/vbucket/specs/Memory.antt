-- what a vBucket gives up of its memory, and what stays, in other words
use Rattle.std.specs.Prelude.{◌≡◌, ◌≢◌, ◌↔◌, ◌⊎◌, ℕ, ◌<◌, ◌≤◌, true, false, List, [], ◌∷◌, ◌++◌, length, Some, None}
use Rattle.std.specs.List.{All}
use Rattle.vb_types.specs.Histories.{IsIn}
use Rattle.vb_types.specs.declared.change.Change.{Change}
use Rattle.vb_calls.specs.declared.calls.VbAnswer.TheVariants as answer
use Rattle.vb_calls.specs.declared.calls.VbCall.TheVariants.{DropCursor, Trim}
use Rattle.vb_calls.specs.declared.calls.VbReply.{VbReply}
use Rattle.vb_calls.specs.declared.span.Span.{Span}
use Rattle.vb_calls.specs.declared.stream.Stream.{Stream}
use Rattle.vb_calls.specs.Plain.{Plain, plain_step}
use Rattle.vb_calls.specs.State.{doc_at, pending_of, quiet_reply}
use Rattle.vb_calls.specs.Streams.{stream_at}
use Rattle.vbucket.specs.Laws.{Sound}

-- a stream is one of these
abbrev pub IsOpen : Stream → List Stream → Type 0
IsOpen s [] = ⊥
IsOpen s (t ∷ ts) = (s ≡ t) ⊎ IsOpen s ts

-- a span ends above what is saved, above what was taken to be, or above the place of a stream that has a cursor
abbrev pub IsWanted : Plain → Span → Type 0
IsWanted vb w = (vb.saved < w.last) ⊎ ((vb.flushed < w.last) ⊎ ((s : Stream) × IsOpen s vb.streams × (s.cursor ≡ true) × (s.place < w.last)))

-- A trim gives up a front of the sealed spans, and tells their number: each ends at most at what is saved, at what was taken to be, and at the place of each stream that has a cursor, and the first sealed one that stays, if there is one, is wanted. The floor is where the last one ended that went. No document changes, and nothing else: a change is held on exactly where it is above the floor.
pub record TrimsAs (vb : Plain) (after : Plain × VbReply) : Type 0 where
  pub gone : List Span
  pub front : vb.spans.sealed ≡ gone ++ after.0.spans.sealed
  pub current : after.0.spans.current ≡ vb.spans.current
  pub told : after.1 ≡ quiet_reply (answer.Num (length gone))
  pub saved : All (λ w. w.last ≤ vb.saved) gone
  pub taken : All (λ w. w.last ≤ vb.flushed) gone
  pub given : (s : Stream) → IsOpen s vb.streams → s.cursor ≡ true → All (λ w. w.last ≤ s.place) gone
  pub first : (w : Span) (ws : List Span) → after.0.spans.sealed ≡ w ∷ ws → IsWanted vb w
  pub still : gone ≡ [] → after.0.floor ≡ vb.floor
  pub floor : (w : Span) (ws : List Span) → gone ≡ ws ++ w ∷ [] → after.0.floor ≡ w.last
  pub documents : (key : List ℕ) → (doc_at after.0 key ≡ doc_at vb key) × (pending_of after.0 key ≡ pending_of vb key)
  pub held : (c : Change) → IsIn c after.0.held ↔ (IsIn c vb.held × (after.0.floor < c.seq))
  pub stays : after.0 ≡ record vb { base = after.0.base; held = after.0.held; spans = after.0.spans; floor = after.0.floor }

-- of every vBucket
abbrev pub TrimsExactly : Type 0
TrimsExactly = (vb : Plain) → Sound vb → TrimsAs vb (plain_step vb Trim)

-- whether an open stream of this number had a cursor is told; it has none then, and stays where it is, and no other stream changes
pub record DropsAs (vb : Plain) (id : ℕ) (after : Plain × VbReply) : Type 0 where
  pub had : (after.1 ≡ quiet_reply (answer.Flag true)) ↔ ((s : Stream) × (stream_at id vb.streams ≡ Some s) × (s.cursor ≡ true))
  pub none : (after.1 ≡ quiet_reply (answer.Flag false)) ↔ ((stream_at id vb.streams ≡ None) ⊎ ((s : Stream) × (stream_at id vb.streams ≡ Some s) × (s.cursor ≡ false)))
  pub here : (s : Stream) → stream_at id vb.streams ≡ Some s → stream_at id after.0.streams ≡ Some (record { id = s.id; ask = s.ask; sync = s.sync; place = s.place; cursor = false; taken = s.taken })
  pub others : (other : ℕ) → other ≢ id → stream_at other after.0.streams ≡ stream_at other vb.streams
  pub stays : after.0 ≡ record vb { streams = after.0.streams }

-- of every vBucket and stream
abbrev pub DropsExactly : Type 0
DropsExactly = (vb : Plain) (id : ℕ) → DropsAs vb id (plain_step vb (DropCursor id))

-- a vBucket that is sound stays so at both, with no premise on the call
abbrev pub GivesUpSoundly : Type 0
GivesUpSoundly = (vb : Plain) (id : ℕ) → Sound vb → Sound (plain_step vb Trim).0 × Sound (plain_step vb (DropCursor id)).0
