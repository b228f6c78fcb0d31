use Rattle.dcp_producer.proofs.Requests.{one_reply}
use Rattle.dcp_producer.proofs.laws.requests_are_one_call.Goals as goal

pub returns : goal.returns
returns c = one_reply
