-- levels and their numbers
use Rattle.std.proofs.Common.{◌≡◌, ℕ, ◌<◌, Bool, true, false, refl, ap, ◌∙◌, ◌⊎◌, arith, cond}
use Rattle.std.specs.Prelude.{◌↔◌, ◌==◌, Option, Some, None}
use Rattle.std.proofs.lemmas.Bool.{eqb-true}
use Rattle.std.proofs.lemmas.Bool.Decides.{nat_tests}
use Rattle.vb_types.specs.declared.change.Level.{Level}
use Rattle.vb_types.specs.declared.change.Level.TheVariants as level
use Rattle.vb_types.specs.Levels.{level_number, level_of}

-- the level by the three tests
abbrev by : Bool → Bool → Bool → Option Level
by a b c = cond a (Some level.Majority) (cond b (Some level.MajorityPersistActive) (cond c (Some level.PersistMajority) None))

number_by : (n : ℕ) (l : Level) (a b c : Bool) → (n == 1) ≡ a → (n == 2) ≡ b → (n == 3) ≡ c → by a b c ≡ Some l → n ≡ level_number l
number_by n l true b c p q r e = eqb-true n 1 p ∙ ap level_number (let same : level.Majority ≡ l = cc in same)
number_by n l false true c p q r e = eqb-true n 2 q ∙ ap level_number (let same : level.MajorityPersistActive ≡ l = cc in same)
number_by n l false false true p q r e = eqb-true n 3 r ∙ ap level_number (let same : level.PersistMajority ≡ l = cc in same)
number_by n l false false false p q r e = cc

pub level_back : (l : Level) → level_of (level_number l) ≡ Some l
level_back level.Majority = refl
level_back level.MajorityPersistActive = refl
level_back level.PersistMajority = refl

pub numbered : (n : ℕ) (l : Level) → (level_of n ≡ Some l) ↔ (n ≡ level_number l)
numbered n l = (number_by n l (n == 1) (n == 2) (n == 3) refl refl refl, λ e. ap level_of e ∙ level_back l)

none_by : (n : ℕ) (a b c : Bool) → (n == 1) ≡ a → (n == 2) ≡ b → (n == 3) ≡ c → (by a b c ≡ None) ↔ ((n < 1) ⊎ (3 < n))
none_by n true b c p q r = (λ e. cc, λ o. grind (arith, nat_tests, o))
none_by n false true c p q r = (λ e. cc, λ o. grind (arith, nat_tests, o))
none_by n false false true p q r = (λ e. cc, λ o. grind (arith, nat_tests, o))
none_by n false false false p q r = (λ e. grind (arith, nat_tests), λ o. refl)

pub unnumbered : (n : ℕ) → (level_of n ≡ None) ↔ ((n < 1) ⊎ (3 < n))
unnumbered n = none_by n (n == 1) (n == 2) (n == 3) refl refl refl
