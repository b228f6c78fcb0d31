use Rattle.std.proofs.Common.{◌≡◌, ◌≤◌, length}
use Rattle.std.specs.List.{fold}
use Rattle.std.specs.Prelude.{reverse}
use Rattle.vb_types.specs.Images.{applied}
use Rattle.vbucket.proofs.vbucket.entering.apply_all.Given as goal

abbrev pub invariant-loop-change : goal.invariant-loop-change
invariant-loop-change l = (fold applied l.table.image (reverse l.rest.items) ≡ fold applied l.initial.table.image (reverse l.initial.rest.items)) × (length l.rest.items ≤ l.table.room)

abbrev pub decreases-loop-change : goal.decreases-loop-change
decreases-loop-change l = length l.rest.items
