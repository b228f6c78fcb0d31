use Rattle.storm_model.proofs.Ledgering.{same_by_keys}
use Rattle.storm_model.proofs.merges.keys_are_apart.Goals as goal

pub returns : goal.returns
returns c = same_by_keys
