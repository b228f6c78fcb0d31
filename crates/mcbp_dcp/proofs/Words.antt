-- bytes as big-endian numbers, one behind another
use Rattle.std.proofs.Common.{◌≡◌, ℕ, ◌+◌, ◌<◌, ◌≤◌, ◌++◌, List, [], ◌∷◌, length, take, drop, refl, ap, sym, ◌∙◌, arith, get_or, length-drop, append_assoc, inl, inr}
use Rattle.std.specs.Prelude.{slice_index}
use Rattle.std.specs.Int.{w16, w32, w64, to_be_bytes}
use Rattle.std.proofs.lemmas.Nat.{be_bytes_2, be_bytes_4, be_bytes_8}
use Rattle.std.proofs.lemmas.List.{drop-drop, drop_more, length-take-le, get_or_past}
use Rattle.std.proofs.lemmas.List.Elements.{All-take, All-drop}
use Rattle.std.proofs.lemmas.Bool.{cases_lt}
use Rattle.std.proofs.Math.Seq.{take-add}
use Rattle.mcbp_frame.specs.Frames.{part, big_16_at, big_32_at, big_64_at}
use Rattle.mcbp_frame.specs.Streams.{AreBytes}

length_part : (bytes : List ℕ) (at n : ℕ) → at + n ≤ length bytes → length (part bytes at n) ≡ n
length_part bytes at n h = length-take-le n (drop at bytes) (omega (arith, length-drop at bytes))

-- each place of a part holds less than 256, also past the end
small : (bytes : List ℕ) (at n : ℕ) → AreBytes bytes → (i : ℕ) → get_or (part bytes at n) i 0 < 256
small bytes at n h i = elim (cases_lt i (length (part bytes at n))) [
  | inl p ↦ All-take (λ b. b < 256) n (drop at bytes) (All-drop (λ b. b < 256) at bytes h) i 0 p
  | inr p ↦ omega (arith, get_or_past (part bytes at n) i 0 p)
]

pub word_16 : (bytes : List ℕ) (at n : ℕ) → AreBytes bytes → at + 2 ≤ length bytes → n ≡ big_16_at bytes at → to_be_bytes w16 n ≡ part bytes at 2
word_16 bytes at n h far e = be_bytes_2 (part bytes at 2) n (length_part bytes at 2 far) (small bytes at 2 h) e

pub word_32 : (bytes : List ℕ) (at : ℕ) → AreBytes bytes → at + 4 ≤ length bytes → to_be_bytes w32 (big_32_at bytes at) ≡ part bytes at 4
word_32 bytes at h far = be_bytes_4 (part bytes at 4) _ (length_part bytes at 4 far) (small bytes at 4 h) refl

pub word_64 : (bytes : List ℕ) (at : ℕ) → AreBytes bytes → at + 8 ≤ length bytes → to_be_bytes w64 (big_64_at bytes at) ≡ part bytes at 8
word_64 bytes at h far = be_bytes_8 (part bytes at 8) _ (length_part bytes at 8 far) (small bytes at 8 h) refl

-- a byte at a place
pub byte : (bytes : List ℕ) (at : ℕ) → at < length bytes → slice_index bytes at ∷ [] ≡ part bytes at 1
byte bytes at far = sym (ap (take 1) (drop_more bytes at 0 far))

-- a word right behind a part makes the part longer
pub behind : (bytes before front word : List ℕ) (at n m : ℕ) → front ≡ before ++ part bytes at n → word ≡ part bytes (at + n) m → front ++ word ≡ before ++ part bytes at (n + m)
behind bytes before front word at n m e w =
    (λ i. e i ++ w i) ∙ append_assoc before (part bytes at n) (part bytes (at + n) m)
    ∙ ap (λ l. before ++ l) (ap (λ l. part bytes at n ++ take m l) (sym (drop-drop n at bytes)) ∙ sym (take-add n m (drop at bytes)))
