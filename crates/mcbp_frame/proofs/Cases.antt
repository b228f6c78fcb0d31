-- the five cases of what bytes begin with
use Rattle.std.proofs.Common.{◌≡◌, ℕ, ◌+◌, ◌≤◌, Bool, true, false, List, [], ◌++◌, length, drop, refl, sym, ◌∙◌, ap, arith, subst, inl, inr, length-append, cond, ◌∷◌}
use Rattle.std.specs.Int.{w16, w32, w64, to_be_bytes}
use Rattle.std.proofs.Math.Seq.{drop-append_seam}
use Rattle.std.proofs.lemmas.List.{append-nil, append_cancel_left, drop_all}
use Rattle.std.specs.Prelude.{Option, Some, None, Result, Ok, Err, slice_index, ◌==◌}
use Rattle.std.proofs.lemmas.Bool.Decides.{nat_tests}
use Rattle.mcbp_frame.specs.declared.frame.Frame.{Frame}
use Rattle.mcbp_frame.specs.declared.frame.FrameFault.{FrameFault}
use Rattle.mcbp_frame.specs.declared.frame.FrameFault.TheVariants.{BadMagic, BodyTooLong, BadLengths}
use Rattle.mcbp_frame.specs.Frames.{is_magic, first_frame, body_len, parts_len, frame_of, body_size, frame_len, whole_frame, alone}
use Rattle.mcbp_frame.specs.Spelling.{spelling, lengths, Readable}
use Rattle.mcbp_frame.specs.Streams.{AreBytes, Begins}
use Rattle.mcbp_frame.proofs.SixTests.{picked, is_picked, is_empty, is_short, is_long, is_bad, is_missing}
use Rattle.mcbp_frame.proofs.ReadBack.{reads_back}
use Rattle.mcbp_frame.proofs.Respelled.{is_readable, is_spelled}

given_by : (bytes : List ℕ) (empty known short long bad missing : Bool) → AreBytes bytes
    → is_empty bytes ≡ empty → is_magic (slice_index bytes 0) ≡ known → is_short bytes ≡ short → is_long bytes ≡ long → is_bad bytes ≡ bad → is_missing bytes ≡ missing
    → Begins bytes (picked empty known short long bad missing (frame_of bytes))
given_by bytes true known short long bad missing h t0 tm t24 tl tp tw = inl (grind (arith, nat_tests))
given_by bytes false false short long bad missing h t0 tm t24 tl tp tw = (grind (arith, nat_tests), tm)
given_by bytes false true true long bad missing h t0 tm t24 tl tp tw = inr (inl ((grind (arith, nat_tests), tm), grind (arith, nat_tests)))
given_by bytes false true false true bad missing h t0 tm t24 tl tp tw = (((grind (arith, nat_tests), tm), grind (arith, nat_tests)), grind (arith, nat_tests))
given_by bytes false true false false true missing h t0 tm t24 tl tp tw = (((grind (arith, nat_tests), tm), grind (arith, nat_tests)), grind (arith, nat_tests), grind (arith, nat_tests))
given_by bytes false true false false false true h t0 tm t24 tl tp tw = inr (inr (((grind (arith, nat_tests), tm), grind (arith, nat_tests)), grind (arith, nat_tests), grind (arith, nat_tests), grind (arith, nat_tests)))
given_by bytes false true false false false false h t0 tm t24 tl tp tw =
    let limit : body_len bytes ≤ 22020096 = grind (arith, nat_tests) in
    let parts : parts_len bytes ≤ body_len bytes = grind (arith, nat_tests) in
    let whole : 24 + body_len bytes ≤ length bytes = grind (arith, nat_tests) in
    (is_readable bytes h tm limit parts whole, (drop (24 + body_len bytes) bytes, is_spelled bytes h tm limit parts whole))

-- the case that is given holds
pub given : (bytes : List ℕ) → AreBytes bytes → Begins bytes (first_frame bytes)
given bytes h = subst (Begins bytes) (sym (is_picked bytes)) (given_by bytes _ _ _ _ _ _ h refl refl refl refl refl refl)

-- a case that holds is the one that is given
pub one : (bytes : List ℕ) (case : Option (Result Frame FrameFault)) → Begins bytes case → first_frame bytes ≡ case
one bytes None (inl none) =
    let t0 : is_empty bytes ≡ true = grind (arith, nat_tests) in
    is_picked bytes ∙ (λ i. picked (t0 i) (is_magic (slice_index bytes 0)) (is_short bytes) (is_long bytes) (is_bad bytes) (is_missing bytes) (frame_of bytes))
one bytes None (inr (inl h)) =
    let t0 : is_empty bytes ≡ false = grind (arith, nat_tests, h.0.0) in
    let t24 : is_short bytes ≡ true = grind (arith, nat_tests, h.1) in
    is_picked bytes ∙ (λ i. picked (t0 i) (h.0.1 i) (t24 i) (is_long bytes) (is_bad bytes) (is_missing bytes) (frame_of bytes))
one bytes None (inr (inr h)) =
    let t0 : is_empty bytes ≡ false = grind (arith, nat_tests, h.0.0.0) in
    let t24 : is_short bytes ≡ false = grind (arith, nat_tests, h.0.1) in
    let tl : is_long bytes ≡ false = grind (arith, nat_tests, h.1) in
    let tp : is_bad bytes ≡ false = grind (arith, nat_tests, h.2) in
    let tw : is_missing bytes ≡ true = grind (arith, nat_tests, h.3) in
    is_picked bytes ∙ (λ i. picked (t0 i) (h.0.0.1 i) (t24 i) (tl i) (tp i) (tw i) (frame_of bytes))
one bytes (Some (Err BadMagic)) h =
    let t0 : is_empty bytes ≡ false = grind (arith, nat_tests, h.0) in
    is_picked bytes ∙ (λ i. picked (t0 i) (h.1 i) (is_short bytes) (is_long bytes) (is_bad bytes) (is_missing bytes) (frame_of bytes))
one bytes (Some (Err BodyTooLong)) h =
    let t0 : is_empty bytes ≡ false = grind (arith, nat_tests, h.0.0.0) in
    let t24 : is_short bytes ≡ false = grind (arith, nat_tests, h.0.1) in
    let tl : is_long bytes ≡ true = grind (arith, nat_tests, h.1) in
    is_picked bytes ∙ (λ i. picked (t0 i) (h.0.0.1 i) (t24 i) (tl i) (is_bad bytes) (is_missing bytes) (frame_of bytes))
one bytes (Some (Err BadLengths)) h =
    let t0 : is_empty bytes ≡ false = grind (arith, nat_tests, h.0.0.0) in
    let t24 : is_short bytes ≡ false = grind (arith, nat_tests, h.0.1) in
    let tl : is_long bytes ≡ false = grind (arith, nat_tests, h.1) in
    let tp : is_bad bytes ≡ true = grind (arith, nat_tests, h.2) in
    is_picked bytes ∙ (λ i. picked (t0 i) (h.0.0.1 i) (t24 i) (tl i) (tp i) (is_missing bytes) (frame_of bytes))
one bytes (Some (Ok f)) h = ap first_frame h.1.1 ∙ reads_back f h.1.0 h.0

two_long : (framed : Bool) (n k : ℕ) → length (cond framed (n ∷ k ∷ []) (to_be_bytes w16 k)) ≡ 2
two_long true n k = refl
two_long false n k = refl

joined_long : (a b c d e g h i j k l : List ℕ)
    → length ((((((((((a ++ b) ++ c) ++ d) ++ e) ++ g) ++ h) ++ i) ++ j) ++ k) ++ l) ≡ length a + length b + length c + length d + length e + length g + length h + length i + length j + length k + length l
joined_long a b c d e g h i j k l = simp length-append

-- how long a spelling is
pub length-spelling : (f : Frame) → length (spelling f) ≡ frame_len f
unfolding spelling
length-spelling f =
    let all = joined_long (f.magic ∷ f.opcode ∷ []) (lengths f) (length f.extras ∷ f.datatype ∷ []) (to_be_bytes w16 f.vb_or_status) (to_be_bytes w32 (body_size f)) (to_be_bytes w32 f.opaque) (to_be_bytes w64 f.cas) f.framing f.extras f.key f.value in
    omega (arith, all, two_long (f.magic == 8) (length f.framing) (length f.key))

-- no frame is a proper prefix of another
pub no_prefix : (f g : Frame) (more : List ℕ) → Readable f → Readable g → spelling f ++ more ≡ spelling g → more ≡ []
no_prefix f g more p q e =
    let read : Some (Ok f) ≡ first_frame (spelling g) = sym (reads_back f more p) ∙ ap first_frame e in
    let other : first_frame (spelling g) ≡ Some (Ok g) = ap first_frame (sym (append-nil (spelling g))) ∙ reads_back g [] q in
    let same : f ≡ g = cc in
    append_cancel_left (spelling f) more [] (e ∙ ap spelling (sym same) ∙ sym (append-nil (spelling f)))

alone_by : (f g : Frame) (len : ℕ) (whole : Bool) → (frame_len g == len) ≡ whole → cond whole (Some g) None ≡ Some f → (◌≡◌ {A = Option (Result Frame FrameFault)} (Some (Ok g)) (Some (Ok f))) × (frame_len f ≡ len)
alone_by f g len true t e =
    let same : g ≡ f = cc in
    (ap (λ x. Some (Ok x)) same, ap frame_len (sym same) ∙ grind (arith, nat_tests))
alone_by f g len false t e = cc

alone_is : (case : Option (Result Frame FrameFault)) (f : Frame) (len : ℕ) → alone case len ≡ Some f → (case ≡ Some (Ok f)) × (frame_len f ≡ len)
alone_is None f len e = cc
alone_is (Some (Err fault)) f len e = cc
alone_is (Some (Ok g)) f len e = alone_by f g len _ refl e

-- a frame that is given, and what stands behind it
pub front : (bytes : List ℕ) (f : Frame) → AreBytes bytes → first_frame bytes ≡ Some (Ok f) → Readable f × (bytes ≡ spelling f ++ drop (frame_len f) bytes)
front bytes f h e =
    let holds = subst (Begins bytes) e (given bytes h) in
    let rest : drop (frame_len f) bytes ≡ holds.1.0 = (λ i. drop (sym (length-spelling f) i) (holds.1.1 i)) ∙ drop-append_seam (spelling f) holds.1.0 in
    (holds.0, holds.1.1 ∙ ap (λ l. spelling f ++ l) (sym rest))

pub whole_back : (bytes : List ℕ) (f : Frame) → AreBytes bytes → whole_frame bytes ≡ Some f → Readable f × (bytes ≡ spelling f)
whole_back bytes f h e =
    let is = alone_is (first_frame bytes) f (length bytes) e in
    let is_front = front bytes f h is.0 in
    (is_front.0, is_front.1 ∙ ap (λ l. spelling f ++ l) (drop_all (frame_len f) bytes (omega (arith, is.1))) ∙ append-nil (spelling f))

pub is_whole : (bytes : List ℕ) (f : Frame) → Readable f × (bytes ≡ spelling f) → whole_frame bytes ≡ Some f
is_whole bytes f h =
    let first : first_frame bytes ≡ Some (Ok f) = ap first_frame (h.1 ∙ sym (append-nil (spelling f))) ∙ reads_back f [] h.0 in
    let len : length bytes ≡ frame_len f = ap length h.1 ∙ length-spelling f in
    let all : (frame_len f == length bytes) ≡ true = grind (arith, nat_tests) in
    ap (λ case. alone case (length bytes)) first ∙ ap (λ b. cond b (Some f) None) all
