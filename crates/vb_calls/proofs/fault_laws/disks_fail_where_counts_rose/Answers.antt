use Rattle.vb_calls.proofs.Faults.{fails_where_it_rose}
use Rattle.vb_calls.proofs.fault_laws.disks_fail_where_counts_rose.Goals as goal

pub returns : goal.returns
returns g c = fails_where_it_rose g.A.VbAccess.step g.J.Journals.asks g.J.Journals.failures g.J.Journals.counted
