use Rattle.storm_model.proofs.Gathering.{gathered}
use Rattle.storm_model.proofs.laws.gathered_storms.Goals as goal

pub returns : goal.returns
returns c = gathered
