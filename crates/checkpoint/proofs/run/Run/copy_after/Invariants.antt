use Rattle.std.proofs.Common.{◌≡◌, ◌++◌, take}
use Rattle.checkpoint.specs.Runs.{changes_there}
use Rattle.checkpoint.proofs.run.Run.copy_after.Given as goal

abbrev pub invariant-loop-change : goal.invariant-loop-change
invariant-loop-change l = l.items ≡ l.initial.items ++ changes_there (take l.change-index l.change-items)
