use Rattle.vb_calls.proofs.Repeats.{turns_made}
use Rattle.vb_calls.proofs.job_laws.turns_are_made.Goals as goal

pub returns : goal.returns
returns g c = λ f. turns_made g.A.VbAccess.step g.J.Journals.asks f
