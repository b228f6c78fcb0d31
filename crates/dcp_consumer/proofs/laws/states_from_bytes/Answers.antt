use Rattle.dcp_consumer.proofs.StateBytes.{pending, active, heads}
use Rattle.dcp_consumer.proofs.laws.states_from_bytes.Goals as goal

pub returns : goal.returns
returns c = record { pending = pending; active = active; heads = heads }
