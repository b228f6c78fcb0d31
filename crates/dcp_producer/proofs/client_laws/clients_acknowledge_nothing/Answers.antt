use Rattle.std.proofs.Common.{inl}
use Rattle.dcp_producer.proofs.Acknowledging.{counted_early, unfed_first}
use Rattle.dcp_producer.proofs.client_laws.clients_acknowledge_nothing.Goals as goal

pub returns-clause-early : goal.returns-clause-early
returns-clause-early c f seq node client s named fresh = counted_early f seq s fresh

pub returns-clause-opened : goal.returns-clause-opened
returns-clause-opened c f seq node client s named opened = unfed_first f seq s opened (inl (node, client, named))
