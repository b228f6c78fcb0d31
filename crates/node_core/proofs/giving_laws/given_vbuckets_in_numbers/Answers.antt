use Rattle.node_core.proofs.GivingNumbers.{given_in_numbers}
use Rattle.node_core.proofs.giving_laws.given_vbuckets_in_numbers.Goals as goal

pub returns : goal.returns
returns c = given_in_numbers
