-- the bases of client connections
use Rattle.std.specs.Prelude.{◌≡◌, ◌≢◌, ◌<◌, ◌≤◌, ℕ, List, Option, Some, None, IsTrue}
use Rattle.std.specs.declared.cmp.Ordering.{Ordering}
use Rattle.std.specs.Ordering.{nat_cmp, ordering_then}
use Rattle.std.specs.BTreeSet.{BTreeSet, contains}
use Rattle.node_core.specs.Outcomes.{value_at}

-- the order of pairs of numbers
abbrev pub pair_cmp : ℕ × ℕ → ℕ × ℕ → Ordering
pair_cmp p q = ordering_then (nat_cmp p.0 q.0) (nat_cmp p.1 q.1)

-- each base stands in a set with its connection
abbrev pub ArePaired : List (ℕ × ℕ) → BTreeSet (ℕ × ℕ) → Type 0
ArePaired bases pairs = (client base : ℕ) → value_at bases client ≡ Some base → IsTrue (contains pair_cmp pairs (base, client))

-- a set of such pairs loses none but of other bases of this connection
abbrev pub LosesStale : ℕ → ℕ → BTreeSet (ℕ × ℕ) → BTreeSet (ℕ × ℕ) → Type 0
LosesStale client base old new = (c b : ℕ) → (c ≡ client → b ≡ base) → IsTrue (contains pair_cmp old (b, c)) → IsTrue (contains pair_cmp new (b, c))

-- no connection from one number on and below another one has this base
abbrev pub NoneHas : ℕ → ℕ → ℕ → List (ℕ × ℕ) → Type 0
NoneHas base from end bases = (client : ℕ) → from ≤ client → client < end → value_at bases client ≢ Some base

-- the next connection that may have a base, of those from one number on and below another one
abbrev pub IsNext : ℕ → ℕ → ℕ → List (ℕ × ℕ) → Option ℕ → Type 0
IsNext base from end bases None = NoneHas base from end bases
IsNext base from end bases (Some client) = (from ≤ client) × (client < end) × NoneHas base from client bases
