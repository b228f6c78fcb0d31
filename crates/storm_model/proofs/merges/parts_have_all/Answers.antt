use Rattle.storm_model.proofs.Parts.{part_has_all}
use Rattle.storm_model.proofs.merges.parts_have_all.Goals as goal

pub returns : goal.returns
returns c = part_has_all
