use Rattle.std.proofs.Common.{◌≡◌, ◌++◌}
use Rattle.node_world.proofs.power.put_lines.Given as goal

abbrev pub invariant-loop-line : goal.invariant-loop-line
invariant-loop-line l = l.events ≡ l.initial.events ++ l.yielded
