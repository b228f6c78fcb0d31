use Rattle.std.proofs.Common.{◌≡◌, take}
use Rattle.std.specs.List.{fold}
use Rattle.vb_types.specs.Images.{applied}
use Rattle.storm.proofs.reading.apply_all.Given as goal

abbrev pub invariant-loop-change : goal.invariant-loop-change
invariant-loop-change l = l.image ≡ fold applied l.initial.image (take l.change-index l.changes)
