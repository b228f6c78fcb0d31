-- the flusher and the readers of a vBucket, step by step
use Rattle.std.specs.Prelude.{◌≡◌, ℕ, Bool, true, false, List}
use Rattle.vb_types.specs.Images.{Picture}
use Rattle.vb_calls.specs.declared.calls.VbAnswer.{VbAnswer}
use Rattle.vb_calls.specs.declared.calls.VbAnswer.TheVariants as answer
use Rattle.vb_calls.specs.declared.calls.VbCall.TheVariants as call
use Rattle.vb_calls.specs.Plain.{Plain, plain_step}
use Rattle.vb_calls.specs.Streams.{stream_at}
use Rattle.storm_model.specs.Sums.{written_down, taken_in}

-- an answer has a snapshot
abbrev pub is_taken : VbAnswer → Bool
is_taken (answer.Taken snapshot) = true
is_taken other = false

-- an answer has a batch
abbrev pub has_rows : VbAnswer → Bool
has_rows (answer.Rows batch) = true
has_rows other = false

-- the next batch is taken and written down, where there is one
abbrev pub flushed_once : Plain → Plain
flushed_once vb = let took = plain_step vb call.FlushTake in written_down took.1.answer took.0

-- a reader's next snapshot is taken
abbrev pub took : ℕ → Plain → Plain
took id vb = (plain_step vb (call.Take id)).0

-- and taken in
abbrev pub read_once : ℕ → Plain → Picture → Picture
read_once id vb image = taken_in (plain_step vb (call.Take id)).1.answer image

-- a reader that takes changes nothing
pub record IsStill (id : ℕ) (vb : Plain) : Type 0 where
  pub stays : took id vb ≡ vb
  pub image : (image : Picture) → read_once id vb image ≡ image

-- all is the same but where streams stand, and those of other numbers than this stand where they stood
pub record ReadBy (id : ℕ) (a b : Plain) : Type 0 where
  pub rest : b ≡ record a { streams = b.streams }
  pub others : (other : ℕ) → (other ≡ id → ⊥) → stream_at other b.streams ≡ stream_at other a.streams
