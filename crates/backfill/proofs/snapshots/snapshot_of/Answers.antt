use Rattle.std.proofs.Common.{◌-◌, length, ap, sym, ◌∙◌}
use Rattle.std.specs.Prelude.{slice_get}
use Rattle.backfill.proofs.Lasts.{last_is}
use Rattle.backfill.proofs.snapshots.snapshot_of.Goals as goal

pub returns : goal.returns
returns c = last_is c.args.start c.args.items c.in-Some.item.now (ap (λ xs. slice_get xs (length xs - 1)) (sym c.as_slice.ensures) ∙ sym c.in-Some.ensures.value)
