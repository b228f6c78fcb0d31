-- lists that stand for lists
use Rattle.std.specs.Prelude.{List, [], ◌∷◌}

-- one list stands for another, each of its members for the one at its place
abbrev pub Pairs : {X P : Type 0} → (X → P → Type 0) → List X → List P → Type 0
Pairs R [] [] = Unit {0}
Pairs R [] (p ∷ ps) = ⊥
Pairs R (x ∷ xs) [] = ⊥
Pairs R (x ∷ xs) (p ∷ ps) = R x p × Pairs R xs ps

-- so it is of each member
abbrev pub Each : {X : Type 0} → (X → Type 0) → List X → Type 0
Each R [] = Unit {0}
Each R (x ∷ xs) = R x × Each R xs

-- any two members are apart
abbrev pub Differ : {X : Type 0} → (X → X → Type 0) → List X → Type 0
Differ A [] = Unit {0}
Differ A (x ∷ xs) = Each (A x) xs × Differ A xs
