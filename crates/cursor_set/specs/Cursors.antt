-- cursors: the place of each, by its number
use Rattle.std.specs.Prelude.{◌≡◌, ℕ, ◌≤◌, Bool, false, if◌then◌else◌, nat_le, min, Option, Some, None, is_some}
use Rattle.std.specs.FinMap as map
use Rattle.std.specs.List.{fold}
use Rattle.std.specs.Ordering.{nat_cmp}

-- the seqno up to which each cursor was given changes
abbrev pub Places : Type 0
Places = map.FinMap nat_cmp ℕ

-- the place of a cursor
abbrev pub place_of : Places → ℕ → Option ℕ
place_of places id = map.get places id

-- a new cursor comes to its place; one that is there stays where it is
abbrev pub registered : Places → ℕ → ℕ → Places
registered places id place = if is_some (place_of places id) then places else map.insert places id place

-- whether a cursor is there, and not beyond a seqno
abbrev pub may_advance : Option ℕ → ℕ → Bool
may_advance None to = false
may_advance (Some place) to = nat_le place to

-- a cursor that is there, and not beyond, goes on to a seqno
abbrev pub advanced : Places → ℕ → ℕ → Places
advanced places id to = if may_advance (place_of places id) to then map.insert places id to else places

-- n is the least place
pub record IsLeast (places : Places) (n : ℕ) : Type 0 where
  pub there : (id : ℕ) × (place_of places id ≡ Some n)
  pub least : (id place : ℕ) → place_of places id ≡ Some place → n ≤ place

-- the lesser of n and a place, if there is one
abbrev pub min_with : ℕ → Option ℕ → ℕ
min_with n None = n
min_with n (Some place) = min n place

-- the least of n and all places
abbrev pub least_with : Places → ℕ → ℕ
least_with places n = fold (λ m id. min_with m (place_of places id)) n (map.keys places)
