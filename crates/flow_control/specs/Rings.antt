-- whose turn it is
use Rattle.std.specs.Prelude.{ℕ, ◌+◌, ◌-◌, ◌==◌, ◌≤◌, nat_lt, if◌then◌else◌, List, [], ◌∷◌, ◌++◌, length, take, drop, slice_get, Option, Some, None}
use Rattle.std.specs.List.{position}

-- the streams that are open, in the order in which they were opened, and the place behind the one that had the last turn
pub record PlainRing : Type 0 where
  pub ids : List ℕ
  pub turn : ℕ

-- the place is one of the ring's, or its end
abbrev pub IsRing : PlainRing → Type 0
IsRing r = r.turn ≤ length r.ids

-- none is open
abbrev pub new_ring : PlainRing
new_ring = record { ids = []; turn = 0 }

-- one more is open, behind all others
abbrev pub opened : ℕ → PlainRing → PlainRing
opened id r = record r { ids = r.ids ++ id ∷ [] }

-- without the one that stood at a place. Those behind it move up by one
abbrev pub without : Option ℕ → PlainRing → PlainRing
without None r = r
without (Some at) r = record { ids = take at r.ids ++ drop (at + 1) r.ids; turn = if nat_lt at r.turn then r.turn - 1 else r.turn }

-- one is closed
abbrev pub closed : ℕ → PlainRing → PlainRing
closed id r = without (position (λ other. other == id) r.ids) r

-- the place of the one whose turn it is: behind the newest comes the oldest, once the turn is asked for
abbrev pub at_turn : PlainRing → ℕ
at_turn r = if nat_lt r.turn (length r.ids) then r.turn else 0

-- whose turn it is
abbrev pub next_id : PlainRing → Option ℕ
next_id r = slice_get r.ids (at_turn r)

-- behind it
abbrev pub passed : PlainRing → Option ℕ → PlainRing
passed r None = r
passed r (Some id) = record r { turn = at_turn r + 1 }

-- the ring after a turn
abbrev pub turned : PlainRing → PlainRing
turned r = passed r (next_id r)
