-- a frame that is written is read back
use Rattle.std.proofs.Common.{◌≡◌, ℕ, ◌+◌, ◌-◌, ◌<◌, ◌/◌, ◌%◌, Bool, true, false, List, [], ◌∷◌, ◌++◌, length, take, drop, refl, ap, sym, ◌∙◌, arith, cond, length-append, append_assoc}
use Rattle.std.specs.Prelude.{Some, Ok, slice_range, nat_lt, ◌==◌}
use Rattle.std.specs.Int.{w16, w32, w64, from_be_bytes, to_be_bytes}
use Rattle.std.proofs.lemmas.Nat.{from_be_bytes-to_be_bytes_2, from_be_bytes-to_be_bytes_4, from_be_bytes-to_be_bytes_8}
use Rattle.std.proofs.Math.Seq.{take-append_seam, drop-append_seam}
use Rattle.std.proofs.lemmas.List.{drop-drop}
use Rattle.std.proofs.lemmas.Bool.Decides.{nat_tests}
use Rattle.mcbp_frame.specs.declared.frame.Frame.{Frame}
use Rattle.mcbp_frame.specs.Frames.{first_frame, framing_len, key_len, extras_len, body_len, frame_of, body_size}
use Rattle.mcbp_frame.proofs.SixTests.{picked, is_picked, is_long, is_bad, is_missing}
use Rattle.mcbp_frame.specs.Spelling.{spelling, header_spelling, Readable}

-- a header with its two bytes of lengths, and what stands behind it
abbrev headed : Frame → List ℕ → List ℕ → List ℕ
headed f two tail =
    (f.magic ∷ f.opcode ∷ [] ++ two ++ length f.extras ∷ f.datatype ∷ [] ++ to_be_bytes w16 f.vb_or_status
    ++ to_be_bytes w32 (body_size f) ++ to_be_bytes w32 f.opaque ++ to_be_bytes w64 f.cas) ++ tail

-- a part between others
mid_part : (bytes x y z : List ℕ) (from to : ℕ) → drop 24 bytes ≡ x ++ (y ++ z) → from ≡ 24 + length x → to ≡ from + length y → slice_range bytes from to ≡ y
mid_part bytes x y z from to e at end =
    let len : to - from ≡ length y = omega arith in
    let far : drop from bytes ≡ y ++ z = ap (λ n. drop n bytes) at ∙ sym (drop-drop (length x) 24 bytes) ∙ ap (drop (length x)) e ∙ drop-append_seam x (y ++ z) in
    (λ i. take (len i) (far i)) ∙ take-append_seam y z

regroup : (h a b c d e : List ℕ) → ((((h ++ a) ++ b) ++ c) ++ d) ++ e ≡ h ++ (a ++ (b ++ (c ++ (d ++ e))))
regroup h a b c d e = simp append_assoc

-- the two bytes of lengths are read back
two_lengths : (framed : Bool) (n k : ℕ) → n < cond framed 256 1 → k < cond framed 256 65536
    → (a : ℕ) × (b : ℕ) × (cond framed (n ∷ k ∷ []) (to_be_bytes w16 k) ≡ a ∷ b ∷ []) × (cond framed a 0 ≡ n) × (cond framed b (from_be_bytes w16 (a ∷ b ∷ [])) ≡ k)
two_lengths true n k hn hk = (n, k, refl, refl, refl)
two_lengths false n k hn hk = (k / 256 % 256, k % 256, refl, omega arith, from_be_bytes-to_be_bytes_2 k hk)

headed_reads : (f : Frame) (a b : ℕ) (rest : List ℕ) → Readable f → cond (f.magic == 8) a 0 ≡ length f.framing → cond (f.magic == 8) b (from_be_bytes w16 (a ∷ b ∷ [])) ≡ length f.key
    → first_frame (headed f (a ∷ b ∷ []) (f.framing ++ (f.extras ++ (f.key ++ (f.value ++ rest))))) ≡ Some (Ok f)
unfolding frame_of
headed_reads f a b rest r fl kl =
    let tail : List ℕ = f.framing ++ (f.extras ++ (f.key ++ (f.value ++ rest))) in
    let bytes : List ℕ = headed f (a ∷ b ∷ []) tail in
    let body : body_len bytes ≡ body_size f = from_be_bytes-to_be_bytes_4 (body_size f) r.fits.body in
    let all : length tail ≡ body_size f + length rest = simp length-append (omega arith) in
    let long : length bytes ≡ 24 + length tail = omega arith in
    let t0 : (length bytes == 0) ≡ false = grind (arith, nat_tests) in
    let t24 : nat_lt (length bytes) 24 ≡ false = grind (arith, nat_tests) in
    let whole : nat_lt (length bytes) (24 + body_size f) ≡ false = grind (arith, nat_tests) in
    let limit : nat_lt 22020096 (body_size f) ≡ false = grind (arith, nat_tests, r.limit) in
    let parts : nat_lt (body_size f) (length f.framing + length f.extras + length f.key) ≡ false = grind (arith, nat_tests) in
    let ul : is_long bytes ≡ false = ap (nat_lt 22020096) body ∙ limit in
    let ub : is_bad bytes ≡ false = (λ i. nat_lt (body i) (fl i + length f.extras + kl i)) ∙ parts in
    let uw : is_missing bytes ≡ false = ap (λ n. nat_lt (length bytes) (24 + n)) body ∙ whole in
    let at_extras : 24 + framing_len bytes ≡ 24 + length f.framing = ap (λ n. 24 + n) fl in
    let at_key : 24 + framing_len bytes + extras_len bytes ≡ 24 + length (f.framing ++ f.extras) = simp length-append (omega (arith, fl)) in
    let at_value : 24 + framing_len bytes + extras_len bytes + key_len bytes ≡ 24 + length ((f.framing ++ f.extras) ++ f.key) = simp length-append (omega (arith, fl, kl)) in
    let at_end : 24 + body_len bytes ≡ 24 + framing_len bytes + extras_len bytes + key_len bytes + length f.value = omega (arith, fl, kl, body) in
    let same : frame_of bytes ≡ f = λ i. record {
      magic = f.magic;
      opcode = f.opcode;
      datatype = f.datatype;
      vb_or_status = from_be_bytes-to_be_bytes_2 f.vb_or_status r.vb_or_status i;
      opaque = from_be_bytes-to_be_bytes_4 f.opaque r.opaque i;
      cas = from_be_bytes-to_be_bytes_8 f.cas r.cas i;
      framing = mid_part bytes [] f.framing (f.extras ++ (f.key ++ (f.value ++ rest))) 24 _ refl refl at_extras i;
      extras = mid_part bytes f.framing f.extras (f.key ++ (f.value ++ rest)) _ _ refl at_extras refl i;
      key = mid_part bytes (f.framing ++ f.extras) f.key (f.value ++ rest) _ _ (sym (append_assoc f.framing f.extras _)) at_key (ap (λ n. 24 + framing_len bytes + extras_len bytes + n) kl) i;
      value = mid_part bytes ((f.framing ++ f.extras) ++ f.key) f.value rest _ _ (sym (append_assoc f.framing f.extras _) ∙ sym (append_assoc (f.framing ++ f.extras) f.key _)) at_value at_end i;
    } in
    is_picked bytes ∙ (λ i. picked (t0 i) (r.magic i) (t24 i) (ul i) (ub i) (uw i) (same i))

pub reads_back : (f : Frame) (rest : List ℕ) → Readable f → first_frame (spelling f ++ rest) ≡ Some (Ok f)
unfolding spelling
reads_back f rest r =
    let two = two_lengths (f.magic == 8) (length f.framing) (length f.key) r.fits.framing r.fits.key in
    let tail : List ℕ = f.framing ++ (f.extras ++ (f.key ++ (f.value ++ rest))) in
    ap first_frame (regroup (header_spelling f) f.framing f.extras f.key f.value rest) ∙ ap (λ ls. first_frame (headed f ls tail)) two.2 ∙ headed_reads f two.0 two.1 rest r two.3 two.4
