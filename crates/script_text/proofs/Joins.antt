-- parts with a byte between
use Rattle.std.proofs.Common.{◌≡◌, ℕ, List, [], ◌∷◌, ◌++◌, ap, rules}
use Rattle.std.specs.Prelude.{map}
use Rattle.std.specs.List.{flat_map, join_with_byte}

-- the parts after the first stand with the byte in front
pub joined_on : {A : Type 0} (cut : ℕ) (text : A → List ℕ) (x : A) (xs : List A) → join_with_byte cut (map text (x ∷ xs)) ≡ text x ++ flat_map (λ y. cut ∷ text y) xs
joined_on cut text x [] = search (rules)
joined_on cut text x (y ∷ ys) = ap (λ more. text x ++ cut ∷ more) (joined_on cut text y ys)
