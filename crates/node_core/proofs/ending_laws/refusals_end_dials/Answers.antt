use Rattle.node_core.proofs.Endings.{over_by_refusals, last_lines}
use Rattle.node_core.proofs.ending_laws.refusals_end_dials.Goals as goal

pub returns : goal.returns
returns c = record { reasons = over_by_refusals; lines = last_lines }
