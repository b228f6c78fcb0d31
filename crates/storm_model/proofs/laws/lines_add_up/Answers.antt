use Rattle.storm_model.proofs.Adding.{lines_add_up}
use Rattle.storm_model.proofs.laws.lines_add_up.Goals as goal

pub returns : goal.returns
returns c = lines_add_up
