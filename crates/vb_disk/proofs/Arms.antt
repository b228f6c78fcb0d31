-- an arm fires once, and what its hits leave
use Rattle.std.proofs.Common.{◌≡◌, inl, inr, ℕ, zero, suc, ◌+◌, ◌-◌, true, false, refl, sym, ◌∙◌, ap, arith}
use Rattle.std.specs.Prelude.{◌==◌, if◌then◌else◌}
use Rattle.std.proofs.lemmas.Bool.{cases_eq}
use Rattle.std.proofs.lemmas.Bool.Decides.{nat_tests}
use Rattle.vb_disk.specs.Arms.{hits, burnt_by, FiresOnce}
use Rattle.vb_disk.specs.declared.fuse.Fuse.TheVariants as fuse

none_by : (n : ℕ) → hits (burnt_by n fuse.Off) ≡ false
none_by zero = refl
none_by (suc n) = none_by n

-- it was the next one, or one of those behind it
stops_at : (k n : ℕ) → hits (burnt_by n (fuse.Stop k)) ≡ (k == n + 1)
stops_at k zero = refl
stops_at k (suc n) = elim (cases_eq k 1) [
  | inl next ↦
      let test : (k == 1) ≡ true = grind (arith, nat_tests) in
      let later : (k == suc n + 1) ≡ false = grind (arith, nat_tests) in
      ap (λ b. hits (burnt_by n (if b then fuse.Off else fuse.Stop (k - 1)))) test ∙ none_by n ∙ sym later
  | inr other ↦
      let test : (k == 1) ≡ false = grind (arith, nat_tests) in
      let later : (k - 1 == n + 1) ≡ (k == suc n + 1) = grind (arith, nat_tests) in
      ap (λ b. hits (burnt_by n (if b then fuse.Off else fuse.Stop (k - 1)))) test ∙ stops_at (k - 1) n ∙ later
]

fails_at : (k n : ℕ) → hits (burnt_by n (fuse.Fail k)) ≡ (k == n + 1)
fails_at k zero = refl
fails_at k (suc n) = elim (cases_eq k 1) [
  | inl next ↦
      let test : (k == 1) ≡ true = grind (arith, nat_tests) in
      let later : (k == suc n + 1) ≡ false = grind (arith, nat_tests) in
      ap (λ b. hits (burnt_by n (if b then fuse.Off else fuse.Fail (k - 1)))) test ∙ none_by n ∙ sym later
  | inr other ↦
      let test : (k == 1) ≡ false = grind (arith, nat_tests) in
      let later : (k - 1 == n + 1) ≡ (k == suc n + 1) = grind (arith, nat_tests) in
      ap (λ b. hits (burnt_by n (if b then fuse.Off else fuse.Fail (k - 1)))) test ∙ fails_at (k - 1) n ∙ later
]

pub fires_once : FiresOnce
fires_once = record { stops = stops_at; fails = fails_at; off = none_by }
