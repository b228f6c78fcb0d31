use Rattle.std.proofs.Common.{◌≡◌, take}
use Rattle.std.specs.List.{flat_map}
use Rattle.node_core.specs.GivingUp.{resolved_in}
use Rattle.node_core.proofs.giving.all_resolved.Given as goal

abbrev pub invariant-loop-one : goal.invariant-loop-one
invariant-loop-one l = l.resolved.items ≡ flat_map resolved_in (take l.one-index l.given)
