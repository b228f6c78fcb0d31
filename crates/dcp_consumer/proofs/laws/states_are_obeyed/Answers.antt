use Rattle.std.proofs.Common.{refl}
use Rattle.dcp_consumer.proofs.States.{obeyed, only, strange, stays}
use Rattle.dcp_consumer.proofs.StateBytes.{written}
use Rattle.dcp_consumer.proofs.laws.states_are_obeyed.Goals as goal

pub returns : goal.returns
returns c = record { obeyed = obeyed; only = only; strange = strange; stays = stays; first = λ dialed. refl; written = written }
