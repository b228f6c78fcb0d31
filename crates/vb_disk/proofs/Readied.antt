-- writes for which memory was made ready
use Rattle.std.proofs.Common.{◌≡◌, ◌≢◌, ◌⊎◌, inl, inr, ℕ, zero, suc, ◌+◌, ◌≤◌, Bool, true, false, cond, List, [], ◌∷◌, ◌++◌, length, refl, sym, ◌∙◌, ap, arith}
use Rattle.std.specs.Prelude.{Some, None, position, get_or}
use Rattle.std.specs.List.{position_from, remove}
use Rattle.std.proofs.lemmas.Bool.{cases_eq}
use Rattle.std.proofs.lemmas.Bool.Decides.{nat_tests}
use Rattle.std.proofs.lemmas.Iterator.Adapters.{position_from-zero}
use Rattle.std.proofs.lemmas.List.Quantifiers.{position-Some}
use Rattle.vb_disk.specs.Disks.{IsReady, is_write, without}
use Rattle.vb_disk.specs.Memory.{EachFits}

-- more memory fits no less
pub fits_more : (c d : ℕ) (ready : List (ℕ × ℕ)) → c ≤ d → EachFits c ready → EachFits d ready
fits_more c d [] h fits = fits
fits_more c d (write ∷ ready) h fits = (omega (arith, fits.0), fits_more c d ready h fits.1)

pub fits_push : (c at len : ℕ) (ready : List (ℕ × ℕ)) → at + len ≤ c → EachFits c ready → EachFits c (ready ++ (at, len) ∷ [])
fits_push c at len [] h fits = (h, fits)
fits_push c at len (write ∷ ready) h fits = (fits.0, fits_push c at len ready h fits.1)

-- what is ready fits
pub ready_fits : (c at len : ℕ) (ready : List (ℕ × ℕ)) → IsReady at len ready → EachFits c ready → at + len ≤ c
ready_fits c at len [] none fits = elim none [ ]
ready_fits c at len (write ∷ ready) (inl is) fits = omega (arith, fits.0, ap (λ w. w.0) is, ap (λ w. w.1) is)
ready_fits c at len (write ∷ ready) (inr more) fits = ready_fits c at len ready more fits.1

-- a write is ready as soon as it was made ready
pub readied_is : (at len : ℕ) (ready : List (ℕ × ℕ)) → IsReady at len (ready ++ (at, len) ∷ [])
readied_is at len [] = inl refl
readied_is at len (write ∷ ready) = inr (readied_is at len ready)

-- and stays so when another is made ready
pub readied_stays : (at len : ℕ) (ready more : List (ℕ × ℕ)) → IsReady at len ready → IsReady at len (ready ++ more)
readied_stays at len [] more none = elim none [ ]
readied_stays at len (write ∷ ready) more (inl is) = inl is
readied_stays at len (write ∷ ready) more (inr later) = inr (readied_stays at len ready more later)

-- this write is the one, or is not
tested : (at len : ℕ) (write : ℕ × ℕ) → ((write ≡ (at, len)) × (is_write at len write ≡ true)) ⊎ ((write ≢ (at, len)) × (is_write at len write ≡ false))
tested at len write = elim (cases_eq write.0 at) [
  | inl place ↦ elim (cases_eq write.1 len) [
    | inl long ↦ inl (λ i. (place i, long i), grind (arith, nat_tests))
    | inr other ↦ inr (λ e. other (ap (λ w. w.1) e), grind (arith, nat_tests))
  ]
  | inr other ↦ inr (λ e. other (ap (λ w. w.0) e), grind (arith, nat_tests))
]

-- one that is ready is used up
pub one_is_used : (at len : ℕ) (ready : List (ℕ × ℕ)) → IsReady at len ready → length (without at len ready) + 1 ≡ length ready
one_is_used at len [] none = elim none [ ]
one_is_used at len (write ∷ ready) is = elim (tested at len write) [
  | inl same ↦ rw same.1 (omega arith)
  | inr other ↦ elim is [
    | inl same ↦ absurd (other.0 same)
    | inr later ↦ rw other.1 (let more : length (without at len ready) + 1 ≡ length ready = one_is_used at len ready later in omega arith)
  ]
]

-- and no other
pub others_stay : (at len : ℕ) (other : ℕ × ℕ) (ready : List (ℕ × ℕ)) → other ≢ (at, len) → IsReady other.0 other.1 ready → IsReady other.0 other.1 (without at len ready)
others_stay at len other [] apart none = elim none [ ]
others_stay at len other (write ∷ ready) apart is = elim (tested at len write) [
  | inl same ↦ rw same.1 (elim is [ inl here ↦ absurd (apart (sym here ∙ same.0)) | inr later ↦ later ])
  | inr unlike ↦ rw unlike.1 (elim is [ inl here ↦ inl here | inr later ↦ inr (others_stay at len other ready apart later) ])
]

-- nothing is made ready by it
pub none_is_made : (at len : ℕ) (other : ℕ × ℕ) (ready : List (ℕ × ℕ)) → IsReady other.0 other.1 (without at len ready) → IsReady other.0 other.1 ready
none_is_made at len other [] none = none
none_is_made at len other (write ∷ ready) is = elim (tested at len write) [
  | inl same ↦ inr (rw same.1 at is)
  | inr unlike ↦ elim (rw unlike.1 at is) [ inl here ↦ inl here | inr later ↦ inr (none_is_made at len other ready later) ]
]

pub fits_without : (c at len : ℕ) (ready : List (ℕ × ℕ)) → EachFits c ready → EachFits c (without at len ready)
fits_without c at len [] fits = fits
fits_without c at len (write ∷ ready) fits = elim (tested at len write) [
  | inl same ↦ rw same.1 fits.1
  | inr other ↦ rw other.1 (fits.0, fits_without c at len ready fits.1)
]

-- a place is not in front of where the search began
from_below : (test : ℕ × ℕ → Bool) (i k : ℕ) (ready : List (ℕ × ℕ)) → position_from test i ready ≡ Some k → i ≤ k
from_below test i k [] found = absurd (cc found)
from_below test i k (write ∷ ready) found = from_front (test write) found (from_below test (i + 1) k ready)
  where
    from_front : (b : Bool) → cond b (Some i) (position_from test (i + 1) ready) ≡ Some k → (position_from test (i + 1) ready ≡ Some k → i + 1 ≤ k) → i ≤ k
    from_front true is later = let e : i ≡ k = cc in omega arith
    from_front false is later = omega (arith, later is)

-- taken off at the place where it is found
from_place : (at len i k : ℕ) (ready : List (ℕ × ℕ)) → position_from (is_write at len) i ready ≡ Some (i + k) → remove ready k ≡ without at len ready
from_place at len i k [] found = absurd (cc found)
from_place at len i zero (write ∷ ready) found = elim (tested at len write) [
  | inl same ↦ rw same.1 refl
  | inr other ↦ absurd (omega (arith, from_below (is_write at len) (i + 1) (i + 0) ready (rw other.1 at found)))
]
from_place at len i (suc k) (write ∷ ready) found = elim (tested at len write) [
  | inl same ↦ let here : Some i ≡ Some (i + suc k) = rw same.1 at found in let e : i ≡ i + suc k = cc in absurd (omega arith)
  | inr other ↦
      let later : position_from (is_write at len) (i + 1) ready ≡ Some (i + 1 + k) = rw other.1 at found ∙ ap Some (omega arith) in
      rw other.1 (ap (λ (l : List (ℕ × ℕ)). write ∷ l) (from_place at len (i + 1) k ready later))
]

pub without_found : (at len k : ℕ) (ready : List (ℕ × ℕ)) → position (is_write at len) ready ≡ Some k → remove ready k ≡ without at len ready
without_found at len k ready found = from_place at len 0 k ready (sym (position_from-zero (is_write at len) ready) ∙ found ∙ ap Some (omega arith))

-- what is found is that write
pub found_is : (at len k : ℕ) (ready : List (ℕ × ℕ)) (write : ℕ × ℕ) → position (is_write at len) ready ≡ Some k → write ≡ get_or ready k write → write ≡ (at, len)
found_is at len k ready write found is = elim (tested at len (get_or ready k write)) [
  | inl same ↦ is ∙ same.0
  | inr other ↦ let at_k : is_write at len (get_or ready k write) ≡ true = (position-Some (is_write at len) ready k write found).1 in absurd (cc (at_k, other.1))
]

-- and it is found where it is ready
ready_at : (at len i : ℕ) (ready : List (ℕ × ℕ)) → IsReady at len ready → position_from (is_write at len) i ready ≡ None → ⊥
ready_at at len i [] none found = none
ready_at at len i (write ∷ ready) is found = elim (tested at len write) [
  | inl same ↦ absurd (cc (rw same.1 at found))
  | inr other ↦ elim is [ inl here ↦ other.0 here | inr later ↦ ready_at at len (i + 1) ready later (rw other.1 at found) ]
]

pub ready_is_found : (at len : ℕ) (ready : List (ℕ × ℕ)) → IsReady at len ready → position (is_write at len) ready ≡ None → ⊥
ready_is_found at len ready is found = ready_at at len 0 ready is (sym (position_from-zero (is_write at len) ready) ∙ found)
