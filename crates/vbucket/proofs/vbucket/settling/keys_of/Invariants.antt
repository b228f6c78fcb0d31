use Rattle.std.proofs.Common.{◌≡◌, take}
use Rattle.vbucket.specs.Plans.{keys_of}
use Rattle.vbucket.proofs.vbucket.settling.keys_of.Given as goal

abbrev pub invariant-loop-change : goal.invariant-loop-change
invariant-loop-change l = l.keys ≡ keys_of (take l.change-index l.changes)
