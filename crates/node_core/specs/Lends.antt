-- what a map from numbers ends as, where a `&mut` to one of its values is returned
use Rattle.std.specs.Prelude.{◌≡◌, ℕ, List, Option, Some, IsSome}
use Rattle.std.specs.Borrow.{Lends, LendsSo, Fml, RattleType, MutBor}
use Rattle.node_core.specs.contracts.numbered.Numbered.{the_row}
use Rattle.node_core.specs.contracts.node.Node as node_row
use Rattle.node_core.specs.declared.node.Node.{Node}
use Rattle.node_core.specs.Outcomes.{value_at, Renumbered}

-- the number, if it has a value, has the last one that is written through the reference, and every other keeps its own
abbrev pub lends_number : (T : RattleType) → MutBor (List (ℕ × T.Denot)) → ℕ → Option (MutBor T.Denot) → Fml
lends_number T s number r = LendsSo (the_row T) T s r (λ new value. IsSome (value_at s.now number) → Renumbered s.now new number (Some value)) (λ new. new ≡ s.now)

-- the node ends as it was but for its journals, which are what is last written through the reference
abbrev pub lends_disks : (A J : RattleType) → MutBor (Node A.Denot J.Denot) → MutBor J.Denot → Fml
lends_disks A J s r = Lends (node_row.the_row A J) J s r (λ disks. record s.now { disks = disks })
