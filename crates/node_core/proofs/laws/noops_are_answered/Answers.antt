use Rattle.node_core.proofs.Noops.{place, alone}
use Rattle.node_core.proofs.laws.noops_are_answered.Goals as goal

pub returns : goal.returns
returns c = record { place = place; alone = alone }
