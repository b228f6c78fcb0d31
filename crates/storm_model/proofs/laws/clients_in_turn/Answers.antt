use Rattle.storm_model.proofs.Agreeing.{as_in_turn}
use Rattle.storm_model.proofs.laws.clients_in_turn.Goals as goal

pub returns : goal.returns
returns c seed clients writes v log fits s = as_in_turn seed clients writes v fits log s
