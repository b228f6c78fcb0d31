use Rattle.vb_calls.proofs.AllSteps.{all_steps}
use Rattle.vb_calls.proofs.flush_laws.all_steps_are_made.Goals as goal

pub returns : goal.returns
returns g c = λ v old kept came now left ran. all_steps g.A.VbAccess.step g.J.Journals.asks v old kept came now left ran
