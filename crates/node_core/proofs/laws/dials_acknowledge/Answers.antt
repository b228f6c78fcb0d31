use Rattle.node_core.proofs.Acknowledging.{due_acknowledges, idle_is_silent}
use Rattle.node_core.proofs.Deliveries.{bytes_acknowledge}
use Rattle.node_core.proofs.laws.dials_acknowledge.Goals as goal

pub returns : goal.returns
returns c = record { bytes = bytes_acknowledge; saved = due_acknowledges; idle = idle_is_silent }
