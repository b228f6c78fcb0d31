-- lists of rows that have a number
use Rattle.std.specs.Prelude.{ℕ, ◌==◌, if◌then◌else◌, List, [], ◌∷◌, Option, Some, None}

-- the first row with this number
abbrev pub row_at : {S : Type 0} → (S → ℕ) → ℕ → List S → Option S
row_at number n [] = None
row_at number n (s ∷ ss) = if number s == n then Some s else row_at number n ss

-- the rows with this one in place of the first with this number
abbrev pub row_put : {S : Type 0} → (S → ℕ) → ℕ → S → List S → List S
row_put number n row [] = []
row_put number n row (s ∷ ss) = if number s == n then row ∷ ss else s ∷ row_put number n row ss

-- the rows without the first with this number
abbrev pub row_out : {S : Type 0} → (S → ℕ) → ℕ → List S → List S
row_out number n [] = []
row_out number n (s ∷ ss) = if number s == n then ss else s ∷ row_out number n ss
