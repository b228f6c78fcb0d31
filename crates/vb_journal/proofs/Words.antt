-- bytes as big-endian numbers, one behind another
use Rattle.std.proofs.Common.{◌≡◌, ℕ, ◌+◌, ◌<◌, ◌≤◌, ◌++◌, List, [], ◌∷◌, length, take, drop, refl, ap, sym, ◌∙◌, arith, get_or, length-drop, inl, inr}
use Rattle.std.specs.Prelude.{slice_index}
use Rattle.std.specs.Int.{w32, w64, to_be_bytes}
use Rattle.std.proofs.lemmas.Nat.{be_bytes_4, be_bytes_8}
use Rattle.std.proofs.lemmas.List.{drop_more, length-take-le, get_or_past}
use Rattle.std.proofs.lemmas.List.Elements.{All-take, All-drop}
use Rattle.std.proofs.lemmas.Bool.{cases_lt}
use Rattle.std.proofs.Math.Seq.{take-add}
use Rattle.vb_journal.specs.Fitting.{AreBytes}
use Rattle.vb_journal.specs.Payloads.{number_32, number_64}

-- n bytes from a place on
abbrev pub part : List ℕ → ℕ → ℕ → List ℕ
part bytes at n = take n (drop at bytes)

pub length_part : (bytes : List ℕ) (at n : ℕ) → at + n ≤ length bytes → length (part bytes at n) ≡ n
length_part bytes at n h = length-take-le n (drop at bytes) (omega (arith, length-drop at bytes))

-- each place of bytes holds less than 256, also past the end
pub small : (bytes : List ℕ) → AreBytes bytes → (i : ℕ) → get_or bytes i 0 < 256
small bytes h i = elim (cases_lt i (length bytes)) [
  | inl p ↦ h i 0 p
  | inr p ↦ omega (arith, get_or_past bytes i 0 p)
]

part_small : (bytes : List ℕ) (at n : ℕ) → AreBytes bytes → (i : ℕ) → get_or (part bytes at n) i 0 < 256
part_small bytes at n h = small (part bytes at n) (All-take (λ b. b < 256) n (drop at bytes) (All-drop (λ b. b < 256) at bytes h))

-- a number of a field fits it
pub below_32 : (bytes : List ℕ) (at : ℕ) → AreBytes bytes → number_32 bytes at < 4294967296
below_32 bytes at h = let s = part_small bytes at 4 h in omega (arith, s 0, s 1, s 2, s 3)

pub below_64 : (bytes : List ℕ) (at : ℕ) → AreBytes bytes → number_64 bytes at < 18446744073709551616
below_64 bytes at h = let s = part_small bytes at 8 h in omega (arith, s 0, s 1, s 2, s 3, s 4, s 5, s 6, s 7)

-- and is spelled as it stands there
pub word_8 : (bytes : List ℕ) (at : ℕ) → at < length bytes → slice_index bytes at ∷ [] ≡ part bytes at 1
word_8 bytes at h = sym (ap (take 1) (drop_more bytes at 0 h))

pub word_32 : (bytes : List ℕ) (at n : ℕ) → AreBytes bytes → at + 4 ≤ length bytes → n ≡ number_32 bytes at → to_be_bytes w32 n ≡ part bytes at 4
word_32 bytes at n h far e = be_bytes_4 (part bytes at 4) n (length_part bytes at 4 far) (part_small bytes at 4 h) e

pub word_64 : (bytes : List ℕ) (at : ℕ) → AreBytes bytes → at + 8 ≤ length bytes → to_be_bytes w64 (number_64 bytes at) ≡ part bytes at 8
word_64 bytes at h far = be_bytes_8 (part bytes at 8) (number_64 bytes at) (length_part bytes at 8 far) (part_small bytes at 8 h) refl

-- a part right behind a front makes it longer
pub behind : (bytes front word : List ℕ) (at n : ℕ) → front ≡ take at bytes → word ≡ part bytes at n → front ++ word ≡ take (at + n) bytes
behind bytes front word at n e w = (λ i. e i ++ w i) ∙ sym (take-add at n bytes)
