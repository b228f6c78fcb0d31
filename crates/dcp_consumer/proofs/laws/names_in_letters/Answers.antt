use Rattle.dcp_consumer.proofs.Names.{few, many}
use Rattle.dcp_consumer.proofs.laws.names_in_letters.Goals as goal

pub returns : goal.returns
returns c = record { few = few; many = many }
