use Rattle.vb_told.proofs.Fronts.{tell}
use Rattle.vb_told.proofs.laws.jobs_tell_their_calls.Goals as goal

pub returns : goal.returns
returns g c = tell
