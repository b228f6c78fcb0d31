-- the frames in bytes, one after another
use Rattle.std.proofs.Common.{◌≡◌, ℕ, ◌+◌, ◌≤◌, zero, suc, List, [], ◌∷◌, ◌++◌, length, drop, refl, sym, ◌∙◌, ap, arith, length-drop, append_assoc, inl}
use Rattle.std.specs.Prelude.{Option, Some, None}
use Rattle.std.specs.List.{sum_by}
use Rattle.std.proofs.lemmas.List.{drop-drop}
use Rattle.std.proofs.lemmas.List.Sums.{sum_by-cons}
use Rattle.mcbp_frame.specs.declared.frame.Frame.{Frame}
use Rattle.mcbp_frame.specs.Cutting.{frame_in, front_frame, frames_by, frames_in, cut_len, left_of}
use Rattle.mcbp_frame.specs.Frames.{first_frame, frame_len}
use Rattle.mcbp_frame.proofs.Cases.{one as given_one}

pub no_byte : (bytes : List ℕ) (f : Frame) → length bytes ≡ 0 → front_frame bytes ≡ Some f → ⊥
no_byte bytes f none e =
    let nothing : first_frame bytes ≡ None = given_one bytes None (inl none) in
    let other : front_frame bytes ≡ None = ap frame_in nothing in
    cc

-- more turns than bytes change nothing
turns : (n m : ℕ) (front : Option Frame) (bytes : List ℕ) → length bytes ≤ n → length bytes ≤ m → front_frame bytes ≡ front → frames_by n front bytes ≡ frames_by m front bytes
turns zero zero front bytes hn hm e = refl
turns zero (suc m) None bytes hn hm e = refl
turns zero (suc m) (Some f) bytes hn hm e = absurd (no_byte bytes f (omega arith) e)
turns (suc n) zero None bytes hn hm e = refl
turns (suc n) zero (Some f) bytes hn hm e = absurd (no_byte bytes f (omega arith) e)
turns (suc n) (suc m) None bytes hn hm e = refl
turns (suc n) (suc m) (Some f) bytes hn hm e =
    ap (λ fs. f ∷ fs) (turns n m _ (drop (frame_len f) bytes) (omega (arith, length-drop (frame_len f) bytes)) (omega (arith, length-drop (frame_len f) bytes)) refl)

one_turn : (n : ℕ) (bytes : List ℕ) (f : Frame) → length bytes ≡ n → front_frame bytes ≡ Some f → frames_by n (front_frame bytes) bytes ≡ f ∷ frames_in (drop (frame_len f) bytes)
unfolding frames_in
one_turn zero bytes f h e = absurd (no_byte bytes f h e)
one_turn (suc n) bytes f h e =
    ap (λ front. frames_by (suc n) front bytes) e
    ∙ ap (λ fs. f ∷ fs) (turns n (length (drop (frame_len f) bytes)) _ (drop (frame_len f) bytes) (omega (arith, length-drop (frame_len f) bytes)) (omega arith) refl)

-- a frame at the front is the first of the frames
pub frames-one : (bytes : List ℕ) (f : Frame) → front_frame bytes ≡ Some f → frames_in bytes ≡ f ∷ frames_in (drop (frame_len f) bytes)
unfolding frames_in
frames-one bytes f e = one_turn (length bytes) bytes f refl e

stopped : (n : ℕ) (bytes : List ℕ) → frames_by n None bytes ≡ []
stopped zero bytes = refl
stopped (suc n) bytes = refl

-- without one there is none
pub frames-none : (bytes : List ℕ) → front_frame bytes ≡ None → frames_in bytes ≡ []
unfolding frames_in
frames-none bytes e = ap (λ front. frames_by (length bytes) front bytes) e ∙ stopped (length bytes) bytes

pub len-one : (bytes : List ℕ) (f : Frame) → front_frame bytes ≡ Some f → cut_len bytes ≡ frame_len f + cut_len (drop (frame_len f) bytes)
unfolding cut_len
len-one bytes f e = ap (sum_by frame_len) (frames-one bytes f e) ∙ sum_by-cons frame_len f (frames_in (drop (frame_len f) bytes))

pub len-none : (bytes : List ℕ) → front_frame bytes ≡ None → cut_len bytes ≡ 0
unfolding cut_len
len-none bytes e = ap (sum_by frame_len) (frames-none bytes e)

-- what is left behind the first frame is what is left
pub left-one : (bytes : List ℕ) (f : Frame) → front_frame bytes ≡ Some f → left_of bytes ≡ left_of (drop (frame_len f) bytes)
unfolding left_of
left-one bytes f e = ap (λ n. drop n bytes) (len-one bytes f e) ∙ sym (drop-drop (cut_len (drop (frame_len f) bytes)) (frame_len f) bytes)

pub left-none : (bytes : List ℕ) → front_frame bytes ≡ None → left_of bytes ≡ bytes
unfolding left_of
left-none bytes e = ap (λ n. drop n bytes) (len-none bytes e)

-- a frame moves from the bytes to those that were given
pub next_frames : (given now : List Frame) (f : Frame) (bytes rest : List ℕ) → now ≡ given ++ f ∷ [] → rest ≡ drop (frame_len f) bytes → front_frame bytes ≡ Some f
    → now ++ frames_in rest ≡ given ++ frames_in bytes
next_frames given now f bytes rest n r e =
    (λ i. n i ++ frames_in (r i)) ∙ append_assoc given (f ∷ []) (frames_in (drop (frame_len f) bytes)) ∙ ap (λ fs. given ++ fs) (sym (frames-one bytes f e))

pub next_len : (f : Frame) (bytes rest : List ℕ) → rest ≡ drop (frame_len f) bytes → front_frame bytes ≡ Some f → frame_len f ≤ length bytes
    → cut_len rest + length bytes ≡ cut_len bytes + length rest
next_len f bytes rest r e h = omega (arith, ap cut_len r, ap length r, length-drop (frame_len f) bytes, len-one bytes f e)
