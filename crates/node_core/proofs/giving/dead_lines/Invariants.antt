use Rattle.std.proofs.Common.{◌≡◌, take, map}
use Rattle.node_core.specs.GivingUp.{dead_line}
use Rattle.node_core.proofs.giving.dead_lines.Given as goal

abbrev pub invariant-loop-one : goal.invariant-loop-one
invariant-loop-one l = l.lines.items ≡ map (dead_line l.node) (take l.one-index l.given)
