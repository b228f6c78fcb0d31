use Rattle.std.proofs.Common.{subst}
use Rattle.dcp_consumer.specs.States.{ComesTo}
use Rattle.dcp_consumer.proofs.States.{comes_to_so, comes_to_itself}
use Rattle.dcp_consumer.proofs.laws.frames_come_to_steps.Goals as goal

pub returns : goal.returns
returns c = λ consumer f s. ((λ e. subst (ComesTo consumer f) e (comes_to_itself consumer f)), comes_to_so consumer f s)
