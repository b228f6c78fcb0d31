use Rattle.vbucket.proofs.DurableNumbers.{in_numbers}
use Rattle.vbucket.proofs.durable_laws.durable_writes_in_numbers.Goals as goal

pub returns : goal.returns
returns c = in_numbers
