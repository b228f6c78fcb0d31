-- what is counted over bytes that are whole frames
use Rattle.std.proofs.Common.{◌≡◌, ℕ, ◌+◌, List, [], ◌∷◌, ◌++◌, refl, sym, ap, ◌∙◌, arith, append-nil}
use Rattle.std.specs.Prelude.{if◌then◌else◌, map}
use Rattle.std.specs.List.{All, concat, sum_by}
use Rattle.std.proofs.lemmas.List.Elements.{All-nil, All-cons}
use Rattle.std.proofs.lemmas.List.Sums.{sum_by-append, sum_by-cons}
use Rattle.mcbp_frame.specs.declared.frame.Frame.{Frame}
use Rattle.mcbp_frame.specs.Cutting.{frames_in, left_of}
use Rattle.mcbp_frame.specs.Spelling.{spelling, Readable}
use Rattle.mcbp_frame.proofs.Cases.{length-spelling}
use Rattle.mcbp_frame.proofs.Pieces.{frames-append, frames-spellings}
use Rattle.dcp_consumer.specs.Counting.{is_counted, counted_len, counted_bytes}
use Rattle.transcript_law.specs.Balance.{stream_len, acknowledged_by, counted_in, acknowledged_in}

-- the bytes of frames
abbrev pub spelled : List Frame → List ℕ
spelled frames = concat (map spelling frames)

pub no_frames : frames_in [] ≡ []
unfolding frames_in
no_frames = refl

-- the frames that were spelled are those in the bytes
pub frames_back : (frames : List Frame) → All Readable frames → frames_in (spelled frames) ≡ frames
frames_back frames good =
    ap frames_in (sym (append-nil (spelled frames))) ∙ frames-spellings frames [] good ∙ ap (λ fs. frames ++ fs) no_frames ∙ append-nil frames

pub frames_front : (bytes more : List ℕ) (frames : List Frame) → All Readable frames → bytes ≡ spelled frames → frames_in (bytes ++ more) ≡ frames_in bytes ++ frames_in more
frames_front bytes more frames good is =
    ap (λ b. frames_in (b ++ more)) is ∙ frames-spellings frames more good ∙ ap (λ fs. fs ++ frames_in more) (sym (ap frames_in is ∙ frames_back frames good))

pub frame_back : (f : Frame) → Readable f → frames_in (spelling f) ≡ f ∷ []
frame_back f good = ap frames_in (sym (append-nil (spelling f))) ∙ frames_back (f ∷ []) (All-cons Readable f [] good (All-nil Readable))

-- a number of each frame, over all frames in bytes
module _ (each : Frame → ℕ) where
  abbrev pub over : List ℕ → ℕ
  over bytes = sum_by each (frames_in bytes)

  -- the frames that came whole, and those of the bytes that were left with those that are to come
  pub over_parts : (come coming : List ℕ) → over (come ++ coming) ≡ sum_by each (frames_in come) + over (left_of come ++ coming)
  over_parts come coming = ap (sum_by each) (frames-append come coming) ∙ sum_by-append each (frames_in come) (frames_in (left_of come ++ coming))

  -- whole frames, and bytes behind them
  pub over_more : (bytes more : List ℕ) (frames : List Frame) → All Readable frames → bytes ≡ spelled frames → over (bytes ++ more) ≡ over bytes + over more
  over_more bytes more frames good is = ap (sum_by each) (frames_front bytes more frames good is) ∙ sum_by-append each (frames_in bytes) (frames_in more)

  -- one frame
  pub over_one : (f : Frame) → Readable f → over (spelling f) ≡ each f
  over_one f good = ap (sum_by each) (frame_back f good) ∙ omega arith

pub counted_is : (bytes : List ℕ) → counted_in bytes ≡ over stream_len bytes
unfolding counted_in
counted_is bytes = refl

pub acknowledged_is : (bytes : List ℕ) → acknowledged_in bytes ≡ over acknowledged_by bytes
unfolding acknowledged_in
acknowledged_is bytes = refl

-- what is counted here is what a consumer counts
pub len_is : (f : Frame) → stream_len f ≡ counted_len f
len_is f = ap (λ n. if is_counted f then n else 0) (sym (length-spelling f))

pub lens_are : (frames : List Frame) → sum_by stream_len frames ≡ counted_bytes frames
unfolding counted_bytes
lens_are [] = refl
lens_are (f ∷ fs) = sum_by-cons stream_len f fs ∙ (λ i. len_is f i + lens_are fs i) ∙ sym (sum_by-cons counted_len f fs)
