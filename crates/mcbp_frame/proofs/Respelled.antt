-- a frame that is read has been spelled
use Rattle.std.proofs.Common.{◌≡◌, ℕ, ◌+◌, ◌-◌, ◌<◌, ◌≤◌, ◌^◌, Bool, true, false, List, [], ◌∷◌, ◌++◌, length, take, drop, refl, ap, sym, ◌∙◌, arith, cond, get_or, length-drop, append_assoc, inl, inr}
use Rattle.std.specs.Prelude.{slice_index, slice_range, ◌==◌}
use Rattle.std.specs.Int.{w16, w32, w64, to_be_bytes}
use Rattle.std.proofs.lemmas.Nat.{be_bytes_2, be_bytes_4, be_bytes_8}
use Rattle.std.proofs.lemmas.List.{drop-drop, take-append-drop, length-take-le, get_or_past, drop_more}
use Rattle.std.proofs.lemmas.List.Elements.{All-take, All-drop}
use Rattle.std.proofs.lemmas.Bool.{cases_lt}
use Rattle.mcbp_frame.specs.declared.frame.Frame.{Frame}
use Rattle.mcbp_frame.specs.Frames.{part, is_magic, framing_len, extras_len, key_len, body_len, extras_at, key_at, value_at, frame_of, body_size, parts_len, big_16_at, big_32_at, big_64_at}
use Rattle.mcbp_frame.specs.Spelling.{spelling, lengths, Readable}
use Rattle.mcbp_frame.specs.Streams.{AreBytes}

-- a part, and what stands behind it
cut : (bytes : List ℕ) (from n to : ℕ) → from + n ≡ to → drop from bytes ≡ take n (drop from bytes) ++ drop to bytes
cut bytes from n to e = sym (take-append-drop n (drop from bytes)) ∙ ap (λ l. take n (drop from bytes) ++ l) (drop-drop n from bytes ∙ ap (λ k. drop k bytes) e)

length_part : (bytes : List ℕ) (from n : ℕ) → from + n ≤ length bytes → length (part bytes from n) ≡ n
length_part bytes from n h = length-take-le n (drop from bytes) (omega (arith, length-drop from bytes))

length_range : (bytes : List ℕ) (from n to : ℕ) → from + n ≡ to → to ≤ length bytes → length (slice_range bytes from to) ≡ n
length_range bytes from n to a b = let len : to - from ≡ n = omega arith in ap (λ k. length (take k (drop from bytes))) len ∙ length_part bytes from n (omega arith)

-- each place of bytes holds less than 256, also past the end
small : (bytes : List ℕ) → AreBytes bytes → (i : ℕ) → get_or bytes i 0 < 256
small bytes h i = elim (cases_lt i (length bytes)) [
  | inl p ↦ h i 0 p
  | inr p ↦ omega (arith, get_or_past bytes i 0 p)
]

AreBytes-part : (bytes : List ℕ) (from n : ℕ) → AreBytes bytes → AreBytes (part bytes from n)
AreBytes-part bytes from n h = All-take (λ b. b < 256) n (drop from bytes) (All-drop (λ b. b < 256) from bytes h)

two_cells : (bytes : List ℕ) (at : ℕ) → at + 2 ≤ length bytes → part bytes at 2 ≡ slice_index bytes at ∷ slice_index bytes (at + 1) ∷ []
two_cells bytes at h =
    let e : at + 1 + 1 ≡ at + 2 = omega arith in
    ap (take 2) (drop_more bytes at 0 (omega arith) ∙ ap (λ l. slice_index bytes at ∷ l) (drop_more bytes (at + 1) 0 (omega arith)))

below_16 : (bytes : List ℕ) (at : ℕ) → AreBytes bytes → big_16_at bytes at < 2 ^ 16
below_16 bytes at h = let s = small (part bytes at 2) (AreBytes-part bytes at 2 h) in omega (arith, s 0, s 1)

below_32 : (bytes : List ℕ) (at : ℕ) → AreBytes bytes → big_32_at bytes at < 2 ^ 32
below_32 bytes at h = let s = small (part bytes at 4) (AreBytes-part bytes at 4 h) in omega (arith, s 0, s 1, s 2, s 3)

below_64 : (bytes : List ℕ) (at : ℕ) → AreBytes bytes → big_64_at bytes at < 2 ^ 64
below_64 bytes at h = let s = small (part bytes at 8) (AreBytes-part bytes at 8 h) in omega (arith, s 0, s 1, s 2, s 3, s 4, s 5, s 6, s 7)

spelled_16 : (bytes : List ℕ) (at n : ℕ) → AreBytes bytes → at + 2 ≤ length bytes → n ≡ big_16_at bytes at → part bytes at 2 ≡ to_be_bytes w16 n
spelled_16 bytes at n h far e = sym (be_bytes_2 (part bytes at 2) n (length_part bytes at 2 far) (small _ (AreBytes-part bytes at 2 h)) e)

spelled_32 : (bytes : List ℕ) (at n : ℕ) → AreBytes bytes → at + 4 ≤ length bytes → n ≡ big_32_at bytes at → part bytes at 4 ≡ to_be_bytes w32 n
spelled_32 bytes at n h far e = sym (be_bytes_4 (part bytes at 4) n (length_part bytes at 4 far) (small _ (AreBytes-part bytes at 4 h)) e)

spelled_64 : (bytes : List ℕ) (at n : ℕ) → AreBytes bytes → at + 8 ≤ length bytes → n ≡ big_64_at bytes at → part bytes at 8 ≡ to_be_bytes w64 n
spelled_64 bytes at n h far e = sym (be_bytes_8 (part bytes at 8) n (length_part bytes at 8 far) (small _ (AreBytes-part bytes at 8 h)) e)

joined : {all p s rest more : List ℕ} → all ≡ p ++ rest → p ≡ s → rest ≡ more → all ≡ s ++ more
joined e f g = e ∙ (λ i. f i ++ g i)

-- the two bytes of lengths, by whether the request is framed
two_lengths : (bytes : List ℕ) (framed : Bool) (n k : ℕ) → AreBytes bytes → 4 ≤ length bytes → n ≡ cond framed (slice_index bytes 2) 0 → k ≡ cond framed (slice_index bytes 3) (big_16_at bytes 2)
    → part bytes 2 2 ≡ cond framed (n ∷ k ∷ []) (to_be_bytes w16 k)
two_lengths bytes true n k h far en ek = two_cells bytes 2 far ∙ (λ i. sym en i ∷ sym ek i ∷ [])
two_lengths bytes false n k h far en ek = spelled_16 bytes 2 k h far ek

framing_fits : (framed : Bool) (a n : ℕ) → a < 256 → n ≡ cond framed a 0 → n < cond framed 256 1
framing_fits true a n h e = omega arith
framing_fits false a n h e = omega arith

key_fits : (framed : Bool) (a b k : ℕ) → a < 256 → b < 65536 → k ≡ cond framed a b → k < cond framed 256 65536
key_fits true a b k p q e = omega arith
key_fits false a b k p q e = omega arith

regroup : (a b c d e g h i j k l rest : List ℕ)
    → a ++ (b ++ (c ++ (d ++ (e ++ (g ++ (h ++ (i ++ (j ++ (k ++ (l ++ rest)))))))))) ≡ (((((((((a ++ b) ++ c) ++ d) ++ e) ++ g) ++ h) ++ i) ++ j) ++ k) ++ l ++ rest
regroup a b c d e g h i j k l rest = simp append_assoc

module _ (bytes : List ℕ) (h : AreBytes bytes) (magic : is_magic (slice_index bytes 0) ≡ true) (limit : body_len bytes ≤ 22020096) (parts : parts_len bytes ≤ body_len bytes) (whole : 24 + body_len bytes ≤ length bytes) where
  lf : length (slice_range bytes 24 (extras_at bytes)) ≡ framing_len bytes
  lf = length_range bytes 24 (framing_len bytes) (extras_at bytes) refl (omega arith)

  lx : length (slice_range bytes (extras_at bytes) (key_at bytes)) ≡ extras_len bytes
  lx = length_range bytes (extras_at bytes) (extras_len bytes) (key_at bytes) refl (omega arith)

  lk : length (slice_range bytes (key_at bytes) (value_at bytes)) ≡ key_len bytes
  lk = length_range bytes (key_at bytes) (key_len bytes) (value_at bytes) refl (omega arith)

  lv : length (slice_range bytes (value_at bytes) (24 + body_len bytes)) ≡ 24 + body_len bytes - value_at bytes
  lv = length_range bytes (value_at bytes) (24 + body_len bytes - value_at bytes) (24 + body_len bytes) (omega arith) whole

  size : body_size (frame_of bytes) ≡ body_len bytes
  unfolding frame_of
  size = omega (arith, lf, lx, lk, lv)

  pub is_readable : Readable (frame_of bytes)
  unfolding frame_of
  is_readable = record {
    fits = record {
      framing = framing_fits (slice_index bytes 0 == 8) (slice_index bytes 2) _ (small bytes h 2) lf;
      extras = omega (arith, lx, small bytes h 4);
      key = key_fits (slice_index bytes 0 == 8) (slice_index bytes 3) (big_16_at bytes 2) _ (small bytes h 3) (below_16 bytes 2 h) lk;
      body = omega (arith, size);
    };
    magic = magic;
    limit = omega (arith, size);
    vb_or_status = below_16 bytes 6 h;
    opaque = below_32 bytes 12 h;
    cas = below_64 bytes 16 h;
  }

  pub is_spelled : bytes ≡ spelling (frame_of bytes) ++ drop (24 + body_len bytes) bytes
  unfolding frame_of spelling
  is_spelled =
      let f : Frame = frame_of bytes in
      let p0 = two_cells bytes 0 (omega arith) in
      let p2 = two_lengths bytes (slice_index bytes 0 == 8) _ _ h (omega arith) lf lk in
      let p4 = two_cells bytes 4 (omega arith) ∙ (λ i. sym lx i ∷ slice_index bytes 5 ∷ []) in
      let p6 = spelled_16 bytes 6 _ h (omega arith) refl in
      let p8 = spelled_32 bytes 8 _ h (omega arith) size in
      let p12 = spelled_32 bytes 12 _ h (omega arith) refl in
      let p16 = spelled_64 bytes 16 _ h (omega arith) refl in
      joined (cut bytes 0 2 2 refl) p0 (
      joined (cut bytes 2 2 4 refl) p2 (
      joined (cut bytes 4 2 6 refl) p4 (
      joined (cut bytes 6 2 8 refl) p6 (
      joined (cut bytes 8 4 12 refl) p8 (
      joined (cut bytes 12 4 16 refl) p12 (
      joined (cut bytes 16 8 24 refl) p16 (
      joined (cut bytes 24 (extras_at bytes - 24) (extras_at bytes) (omega arith)) refl (
      joined (cut bytes (extras_at bytes) (key_at bytes - extras_at bytes) (key_at bytes) (omega arith)) refl (
      joined (cut bytes (key_at bytes) (value_at bytes - key_at bytes) (value_at bytes) (omega arith)) refl (
      cut bytes (value_at bytes) (24 + body_len bytes - value_at bytes) (24 + body_len bytes) (omega arith)))))))))))
      ∙ regroup (slice_index bytes 0 ∷ slice_index bytes 1 ∷ []) (lengths f) (length f.extras ∷ f.datatype ∷ []) (to_be_bytes w16 f.vb_or_status) (to_be_bytes w32 (body_size f)) (to_be_bytes w32 f.opaque) (to_be_bytes w64 f.cas)
      f.framing f.extras f.key f.value (drop (24 + body_len bytes) bytes)
