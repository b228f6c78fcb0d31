use Rattle.dcp_producer.proofs.Handshaking.{opens_refused, opens_unsupported, opens_once}
use Rattle.dcp_producer.proofs.laws.opens_are_answered.Goals as goal

pub returns-clause-einval : goal.returns-clause-einval
returns-clause-einval c f number flags name s either = opens_refused f number name s flags either

pub returns-clause-unsupported : goal.returns-clause-unsupported
returns-clause-unsupported c = opens_unsupported

pub returns-clause-opened : goal.returns-clause-opened
returns-clause-opened c = opens_once
