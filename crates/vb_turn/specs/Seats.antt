-- what a call says of a seat
use Rattle.std.specs.Prelude.{◌≡◌, ℕ, ◌<◌, ◌≤◌, false, true, List, [], ◌∷◌, ◌++◌, Some}
use mathlib.Core.List.{IsPrefix}
use Rattle.atomic_table.specs.Table.{Me}
use Rattle.vb_turn.specs.History.{after, Legal, top, Ends}
use Rattle.vb_turn.specs.Turning.{all_parts, Placed, Apart, Whole, longer, shorter, holding, added, without_turn, knowing, both, Orderly}
use Rattle.vb_turn.specs.declared.view.View.{View}
use Rattle.atomic_table.specs.declared.shared.Seat.{Seat}

module _ {M E : Type 0} where
  -- between two calls a seat has neither the turn nor the object
  abbrev pub IsIdle : Me M (View M E) → Type 0
  IsIdle m = (m.1 ≡ []) × (m.0.turn ≡ false) × (m.0.base ≡ []) × (0 < m.0.parts)

  -- the same seat at the same table
  abbrev pub IsSame : Seat M (View M E) → Seat M (View M E) → Type 0
  IsSame old new = (new.table_id ≡ old.table_id) × (new.id ≡ old.id)

  -- the view after a call that all of `base` came before
  abbrev pub called : View M E → List E → E → View M E
  called v base e = without_turn (added (holding v base) e)

  -- the longer of what both had seen, which the other begins, the calls of both, at places that differ, and the parts of both. With all parts these calls are all that is seen
  abbrev pub Gathered : View M E → View M E → View M E → Type 0
  Gathered v u w = IsPrefix (shorter v.seen u.seen) (longer v.seen u.seen)
      × ((n : ℕ) × (v.known ≤ n) × (u.known ≤ n) × (w ≡ knowing (both v u) n)) × Placed w.seen w.mine × Apart w.mine × (w.parts ≡ all_parts → Whole w.mine w.seen)

module _ {M P C R : Type 0} (stands : M → P → Type 0) (next : P → C → P × R) where
  -- the seat has the turn, and the object, which stands for the end of the base
  abbrev pub Holds : Me M (View M (C × R)) → Type 0
  Holds m = (o : M) × (y : M) × (m.1 ≡ (0, y) ∷ []) × (m.0.turn ≡ true) × (m.0.opening ≡ Some o) × Ends stands next o m.0.base y

  -- the seat had all parts. The object stands for the end of a legal history, which begins with what the seat had seen; the seat's own calls are all of it, each once, at its place
  abbrev pub ClosesWith : View M (C × R) → M → Type 0
  ClosesWith v object = (v.parts ≡ all_parts)
      × ((log : List (C × R)) × IsPrefix v.seen log × Placed v.seen v.mine × Whole v.mine log
      × ((o : M) → v.opening ≡ Some o → (s : P) → stands o s → Legal next s log × stands object (after next s log)))

module _ {M P C R : Type 0} (stands : M → P → Type 0) (next : P → C → P × R) (number : P → ℕ) where
  -- the call was made at the end of the base, and gave this reply and this number
  abbrev pub MadeAt : View M (C × R) → C × R → ℕ → Type 0
  MadeAt v e n = (o : M) → v.opening ≡ Some o → (s : P) → stands o s → (e.1 ≡ (next (after next s v.base) e.0).1) × (n ≡ number (next (after next s v.base) e.0).0)

  -- the object stands for the end of the base with the call
  abbrev pub Stepped : Me M (View M (C × R)) → C → R × ℕ → Me M (View M (C × R)) → Type 0
  Stepped m call r m' = (m'.0 ≡ m.0) × ((y : M) × (m'.1 ≡ (0, y) ∷ []) × ((o : M) → m.0.opening ≡ Some o → Ends stands next o (m.0.base ++ (call, r.0) ∷ []) y)) × MadeAt m.0 (call, r.0) r.1

  -- the call stands in the history
  abbrev pub Joined : View M (C × R) → C × R → View M (C × R) → Type 0
  Joined v e w = (w ≡ added v e) × Orderly w w.seen × ((n : ℕ) × MadeAt v e n)

  -- the call stands in the history, and the seat has neither the turn nor the object any more
  abbrev pub Finished : View M (C × R) → C × R → Me M (View M (C × R)) → Type 0
  Finished v e m = (m ≡ (without_turn (added v e), [])) × Orderly (added v e) (added v e).seen × ((n : ℕ) × MadeAt v e n)

  -- one history, which is legal from the opening object, begins with all that the seat had seen and ends with this call.
  -- The seat's own calls stand in it at their places, which differ, and its greatest number is at least the one that the seat knew
  pub record Called (v : View M (C × R)) (e : C × R) (w : View M (C × R)) : Type 0 where
    pub base : List (C × R)
    pub front : IsPrefix v.seen base
    pub new : w ≡ called v base e
    pub legal : (o : M) → v.opening ≡ Some o → (s : P) → stands o s → Legal next s (base ++ e ∷ []) × (v.known ≤ top next number s (base ++ e ∷ []))
    pub orderly : Orderly w w.seen

  -- the number is at least each earlier one, and at least the greatest of what the seat has seen. It is the greatest of a legal history, which begins with what the seat has seen and has its calls at their places; with all parts they are all of it
  abbrev pub Published : View M (C × R) → ℕ → View M (C × R) → Type 0
  Published v n w = (w ≡ knowing v n) × (v.known ≤ n) × ((o : M) → v.opening ≡ Some o → (s : P) → stands o s → top next number s v.seen ≤ n)
      × ((log : List (C × R)) × IsPrefix v.seen log × Orderly v log × ((o : M) → v.opening ≡ Some o → (s : P) → stands o s → Legal next s log × (top next number s log ≡ n)))
