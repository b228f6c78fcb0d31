use Rattle.backfill.proofs.Backfilling.{reads_once}
use Rattle.backfill.proofs.laws.backfills_read_once.Goals as goal

pub returns : goal.returns
returns g c = reads_once g.A.VbAccess.step g.J.Journals.asks g.J.Journals.failures g.J.Journals.counted
