use Rattle.std.proofs.Common.{◌≡◌, take}
use Rattle.std.specs.List.{filter}
use Rattle.vb_types.specs.Histories.{is_visible}
use Rattle.backfill.proofs.snapshots.documents.Given as goal

abbrev pub invariant-loop-change : goal.invariant-loop-change
invariant-loop-change l = l.items ≡ filter (λ c. is_visible c.act) (take l.change-index l.changes)
