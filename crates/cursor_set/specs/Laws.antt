-- what calls do to cursors, in other words
use Rattle.std.specs.Prelude.{◌≡◌, ◌≢◌, ◌↔◌, ◌⊎◌, ℕ, ◌≤◌, max, Some, None}
use Rattle.std.specs.FinMap as map
use Rattle.cursor_set.specs.Cursors.{Places, place_of, registered, advanced, least_with}

-- no other cursor moves, whatever one cursor does
pub record OthersStay (places : Places) (id other : ℕ) : Type 0 where
  pub registered : (place : ℕ) → place_of (registered places id place) other ≡ place_of places other
  pub advanced : (to : ℕ) → place_of (advanced places id to) other ≡ place_of places other
  pub put : (at : ℕ) → place_of (map.insert places id at) other ≡ place_of places other
  pub removed : place_of (map.remove places id) other ≡ place_of places other

-- of each two cursors
abbrev pub CursorsApart : Type 0
CursorsApart = (places : Places) (id other : ℕ) → other ≢ id → OthersStay places id other

-- where a cursor stands that was at a place: registered again it stays there, it goes on and never back, it may be put anywhere, and it may go away
pub record MovesAs (places : Places) (id place : ℕ) : Type 0 where
  pub registered : (at : ℕ) → place_of (registered places id at) id ≡ Some place
  pub advanced : (to : ℕ) → place_of (advanced places id to) id ≡ Some (max place to)
  pub put : (at : ℕ) → place_of (map.insert places id at) id ≡ Some at
  pub removed : place_of (map.remove places id) id ≡ None

-- a cursor that is not there comes to its place, and is not moved
pub record ComesAs (places : Places) (id : ℕ) : Type 0 where
  pub registered : (at : ℕ) → place_of (registered places id at) id ≡ Some at
  pub advanced : (to : ℕ) → place_of (advanced places id to) id ≡ None
  pub put : (at : ℕ) → place_of (map.insert places id at) id ≡ Some at

-- of each cursor
pub record CursorsMove : Type 0 where
  pub there : (places : Places) (id place : ℕ) → place_of places id ≡ Some place → MovesAs places id place
  pub absent : (places : Places) (id : ℕ) → place_of places id ≡ None → ComesAs places id

-- m is the least of n and all places exactly where it is n or a place, and neither n nor a place is below it
abbrev pub LeastOfAll : Type 0
LeastOfAll = (places : Places) (n m : ℕ) →
    (least_with places n ≡ m) ↔ (((m ≡ n) ⊎ ((id : ℕ) × (place_of places id ≡ Some m))) × (m ≤ n) × ((id place : ℕ) → place_of places id ≡ Some place → m ≤ place))
