use Rattle.dcp_consumer.proofs.DialBytes.{plain, buffered, takeover}
use Rattle.dcp_consumer.proofs.laws.dials_in_bytes.Goals as goal

pub returns : goal.returns
returns c = record { plain = plain; buffered = buffered; takeover = takeover }
