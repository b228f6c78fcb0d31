use Rattle.storm_model.proofs.Agreeing.{orders_agree}
use Rattle.storm_model.proofs.laws.orders_agree.Goals as goal

pub returns : goal.returns
returns c = orders_agree
