use Rattle.storm_model.proofs.AllRead.{all_is_read}
use Rattle.storm_model.proofs.laws.all_is_read.Goals as goal

pub returns : goal.returns
returns c = all_is_read
