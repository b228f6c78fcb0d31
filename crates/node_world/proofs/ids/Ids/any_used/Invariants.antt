use Rattle.std.proofs.Common.{◌≡◌, ℕ, List, length}
use Rattle.node_world.specs.Power.{any_used}
use Rattle.node_world.specs.Stands.{IdsStand}
use Rattle.node_world.proofs.ids.Ids.any_used.Given as goal

-- whether one is used is left to the ids that were not met yet
abbrev pub invariant-loop-id : goal.invariant-loop-id
invariant-loop-id l = (uuids : List ℕ) → IdsStand l.self uuids → any_used uuids l.ids ≡ any_used uuids l.rest

abbrev pub decreases-loop-id : goal.decreases-loop-id
decreases-loop-id l = length l.rest
