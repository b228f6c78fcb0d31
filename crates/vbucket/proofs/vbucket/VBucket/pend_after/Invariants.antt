use Rattle.std.proofs.Common.{◌≡◌, take}
use Rattle.std.specs.List.{fold}
use Rattle.std.specs.FinMap as map
use Rattle.vb_types.specs.Images.{applied}
use Rattle.vbucket.proofs.vbucket.VBucket.pend_after.Given as goal

abbrev pub invariant-loop-change : goal.invariant-loop-change
invariant-loop-change l = l.pend ≡ map.get (fold applied l.self.rest.base (take l.change-index l.made)).pending l.key
