use Rattle.std.proofs.Common.{◌≡◌, take}
use Rattle.std.specs.List.{fold}
use Rattle.vbucket.specs.Promoting.{with_left}
use Rattle.vbucket.proofs.vbucket.roles.add_left.Given as goal

abbrev pub invariant-loop-prepare : goal.invariant-loop-prepare
invariant-loop-prepare l = l.left ≡ record l.initial.left { waiting = fold with_left l.initial.left.waiting (take l.prepare-index l.prepares); spare = l.left.spare }
