use Rattle.std.proofs.Common.{refl}
use Rattle.dcp_producer.proofs.turn_laws.streams_take_their_own.Goals as goal

pub returns : goal.returns
returns c = λ name stream resolved ended branch changes. (refl, refl)
