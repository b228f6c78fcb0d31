use Rattle.mcbp_kv.proofs.Chosen.{accepts_those, accepts_few}
use Rattle.mcbp_kv.proofs.laws.features_are_accepted.Goals as goal

pub returns-clause-those : goal.returns-clause-those
returns-clause-those c = accepts_those

pub returns-clause-few : goal.returns-clause-few
returns-clause-few c = accepts_few
