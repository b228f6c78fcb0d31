use Rattle.std.proofs.Common.{arith, subst}
use Rattle.std.specs.List.{All}
use Rattle.vb_journal.specs.Fitting.{EntryFits, ItemFits}
use Rattle.vb_journal.proofs.payload.writer.put_batch.Goals as goal

pub returns-clause-fits : goal.returns-clause-fits
returns-clause-fits c = record {
  ss = omega arith;
  se = omega arith;
  at = omega arith;
  cas = omega arith;
  log = subst (All EntryFits) c.as_slice.ensures c.in_ok-put_log.ensures.fits;
  items = subst (All ItemFits) c.as_slice-items.ensures c.in_ok-put_items.ensures.fits;
}
