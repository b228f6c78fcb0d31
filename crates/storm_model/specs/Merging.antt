-- What one seat has of a history: its own entries, at rising places.
use Rattle.std.specs.Prelude.{◌≡◌, ℕ, suc, ◌≤◌, Bool, true, List, [], ◌∷◌, length, map, Some, slice_get, ◌⊎◌}
use Rattle.std.specs.List.{filter}
use Rattle.vb_turn.specs.Turning.{once_below, places, times}

module _ {E : Type 0} where
  -- the places rise, from this one on
  abbrev pub Rising : ℕ → List (ℕ × E) → Type 0
  Rising from [] = Unit {0}
  Rising from (m ∷ ms) = (from ≤ m.0) × Rising (suc m.0) ms

  -- each entry stands in the history at its place
  abbrev pub Stand : List E → List (ℕ × E) → Type 0
  Stand log [] = Unit {0}
  Stand log (m ∷ ms) = (slice_get log m.0 ≡ Some m.1) × Stand log ms

  -- one of the entries has this place
  abbrev pub HasPlace : ℕ → List (ℕ × E) → Type 0
  HasPlace x [] = ⊥
  HasPlace x (m ∷ ms) = (x ≡ m.0) ⊎ HasPlace x ms

  -- each entry of this kind in the history is one of these
  abbrev pub AllOf : (E → Bool) → List E → List (ℕ × E) → Type 0
  AllOf is log mine = (x : ℕ) (e : E) → slice_get log x ≡ Some e → is e ≡ true → HasPlace x mine

  -- each entry of this kind in the one list is one of the other
  abbrev pub OnlyIn : (E → Bool) → List (ℕ × E) → List (ℕ × E) → Type 0
  OnlyIn is [] part = Unit {0}
  OnlyIn is (m ∷ ms) part = (is m.1 ≡ true → HasPlace m.0 part) × OnlyIn is ms part

  -- the entries, in order
  abbrev pub entries : List (ℕ × E) → List E
  entries mine = map (λ m. m.1) mine

-- where all entries of a kind are one seat's, they stand in the history in that seat's order, and no others
abbrev pub OwnOrder : (E : Type 0) → Type 0
OwnOrder E = (is : E → Bool) (log : List E) (mine : List (ℕ × E)) → Rising 0 mine → Stand log mine → AllOf is log mine → filter is log ≡ filter is (entries mine)

-- the entries are all of the history, each once
abbrev pub IsAll : {E : Type 0} → List (ℕ × E) → List E → Type 0
IsAll mine log = (x : ℕ) → times x (places mine) ≡ once_below x (length log)

-- where the gathered entries are all of a history, and those of a kind are one part of them, that part has all of its kind
abbrev pub PartHasAll : (E : Type 0) → Type 0
PartHasAll E = (is : E → Bool) (log : List E) (mine part : List (ℕ × E)) → Stand log mine → IsAll mine log → OnlyIn is mine part → AllOf is log part
