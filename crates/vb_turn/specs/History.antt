-- histories of calls, each with its reply
use Rattle.std.specs.Prelude.{◌≡◌, ℕ, max, List, [], ◌∷◌}

module _ {P C R : Type 0} (next : P → C → P × R) where
  -- the state behind all calls
  abbrev pub after : P → List (C × R) → P
  after s [] = s
  after s (e ∷ es) = after (next s e.0).0 es

  -- each reply is the one that the machine gives there
  abbrev pub Legal : P → List (C × R) → Type 0
  Legal s [] = Unit {0}
  Legal s (e ∷ es) = ((next s e.0).1 ≡ e.1) × Legal (next s e.0).0 es

  -- the greatest number that a state on the way shows. A call may lower a state's number, and never this
  abbrev pub top : (P → ℕ) → P → List (C × R) → ℕ
  top number s [] = number s
  top number s (e ∷ es) = max (number s) (top number (next s e.0).0 es)

module _ {M P C R : Type 0} (stands : M → P → Type 0) (next : P → C → P × R) (number : P → ℕ) where
  -- the history is legal from each state that the opening object stands for, and n is its greatest number
  abbrev pub Sound : M → List (C × R) → ℕ → Type 0
  Sound opening log n = (s : P) → stands opening s → Legal next s log × (top next number s log ≡ n)

module _ {M P C R : Type 0} (stands : M → P → Type 0) (next : P → C → P × R) where
  -- the object stands for the state at the history's end, if the opening one stood for that at its begin
  abbrev pub Ends : M → List (C × R) → M → Type 0
  Ends opening log object = (s : P) → stands opening s → stands object (after next s log)
