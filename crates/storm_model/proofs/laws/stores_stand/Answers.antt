use Rattle.storm_model.proofs.Storming.{stores_stand}
use Rattle.storm_model.proofs.laws.stores_stand.Goals as goal

pub returns : goal.returns
returns c = stores_stand
