use Rattle.vb_calls.proofs.Faults.{never_falls}
use Rattle.vb_calls.proofs.fault_laws.counts_never_fall.Goals as goal

pub returns : goal.returns
returns g c = never_falls g.A.VbAccess.step g.J.Journals.asks g.J.Journals.failures g.J.Journals.counted
