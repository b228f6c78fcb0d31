-- a machine of one number, and a seat of it, for rows in numbers
use Rattle.std.specs.Prelude.{◌≡◌, ℕ, [], ◌∷◌, Some, false}
use Rattle.vb_turn.specs.declared.view.View.{View}

-- a call puts its own number there, and its reply is what stood there
abbrev pub put : ℕ → ℕ → ℕ × ℕ
put s call = (call, s)

abbrev pub shown : ℕ → ℕ
shown s = s

abbrev pub IsAt : ℕ → ℕ → Type 0
IsAt object s = object ≡ s

-- the view of a seat with so many parts that put 5 on 0, and was told a number
abbrev pub has_put : ℕ → ℕ → View ℕ (ℕ × ℕ)
has_put parts known = record { opening = Some 0; seen = (5, 0) ∷ []; met = []; base = []; mine = (0, (5, 0)) ∷ []; known = known; parts = parts; turn = false }
