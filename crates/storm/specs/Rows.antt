-- the seats of a storm's vBuckets
use Rattle.std.specs.Prelude.{◌≡◌, ℕ, suc, ◌+◌, ◌<◌, List, [], ◌∷◌, length, map}
use Rattle.std.specs.List.{AllByRecursion}
use Rattle.vb_turn.specs.Seats.{Gathered}
use Rattle.vb_turn.specs.Turning.{left, right}
use Rattle.vbucket.specs.Stands.{StandsFor}
use Rattle.node_threads.specs.Seats.{Row, rows_of}
use Rattle.storm_seats.specs.Gathering.{AllFrom, Gathers, Stormed}
use Rattle.storm_seats.specs.Views.{openings}

-- two lists, pair by pair, by rising number from here on
abbrev pub AllTwo : {A B : Type 0} → (ℕ → A → B → Type 0) → ℕ → List A → List B → Type 0
AllTwo P n [] [] = Unit {0}
AllTwo P n [] (y ∷ ys) = ⊥
AllTwo P n (x ∷ xs) [] = ⊥
AllTwo P n (x ∷ xs) (y ∷ ys) = P n x y × AllTwo P (suc n) xs ys

-- three lists
abbrev pub AllThree : {A B C : Type 0} → (A → B → C → Type 0) → List A → List B → List C → Type 0
AllThree P [] [] [] = Unit {0}
AllThree P (x ∷ xs) (y ∷ ys) (z ∷ zs) = P x y z × AllThree P xs ys zs
AllThree P xs ys zs = ⊥

-- vBucket v with both readers' streams: nobody else has called it, and its seat has all parts
pub record IsOpened (v : ℕ) (row : Row) : Type 0 where
  pub number : row.number ≡ v
  pub seen : row.view.seen ≡ openings v
  pub gathers : (seed writes : ℕ) → Gathers StandsFor seed writes v 0 [] row.view

-- the four of them
abbrev pub AreOpened : List Row → Type 0
AreOpened rows = (length rows ≡ 4) × AllFrom IsOpened 0 rows

-- the same vBucket, and the same turn
abbrev pub SameTurn : Row → Row → Type 0
SameTurn x y = (y.number ≡ x.number) × (y.table ≡ x.table)

-- what a seat keeps that gives so many parts away, and what a seat is that has one part
abbrev pub gives : ℕ → Row → Row
gives n row = record row { view = left n row.view }

abbrev pub given : Row → Row
given row = record row { view = right 1 row.view }

-- the seats have more parts than so many
abbrev pub HaveMore : ℕ → List Row → Type 0
HaveMore n rows = AllByRecursion (λ row. n < row.view.parts) rows

-- two seats may be joined
abbrev pub MayJoin : List Row → List Row → Type 0
MayJoin xs us = AllTwo (λ n x u. x.table ≡ u.table) 0 xs us

-- a seat took another one in
abbrev pub Joins : Row → Row → Row → Type 0
Joins x u w = SameTurn x w × Gathered x.view u.view w.view

-- the storm is over at vBucket v: the seat has all parts again, and its calls are the openings and the clients' Stores, each client's in its order, each made
abbrev pub IsStormed : ℕ → ℕ → ℕ → ℕ → Row → Type 0
IsStormed seed clients writes v row = (row.number ≡ v) × Stormed StandsFor seed clients writes v row.view

-- at all four
abbrev pub AreStormed : ℕ → ℕ → ℕ → List Row → Type 0
AreStormed seed clients writes rows = (length rows ≡ 4) × AllFrom (IsStormed seed clients writes) 0 rows
