use Rattle.dcp_consumer.proofs.Ordered.{plain, buffered, stream}
use Rattle.dcp_consumer.proofs.laws.requests_are_answered.Goals as goal

pub returns : goal.returns
returns c = record { plain = plain; buffered = buffered; stream = stream }
