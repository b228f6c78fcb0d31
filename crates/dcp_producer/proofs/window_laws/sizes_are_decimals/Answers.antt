use Rattle.dcp_producer.proofs.Decimals.{sizes}
use Rattle.dcp_producer.proofs.window_laws.sizes_are_decimals.Goals as goal

pub returns-clause-all : goal.returns-clause-all
returns-clause-all c n value = sizes value n
