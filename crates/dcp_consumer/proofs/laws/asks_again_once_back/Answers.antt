use Rattle.std.proofs.Common.{refl}
use Rattle.dcp_consumer.proofs.Moves.{back, first_asked, none_left, unasked}
use Rattle.dcp_consumer.proofs.laws.asks_again_once_back.Goals as goal

pub returns : goal.returns
returns c = record {
  first = first_asked;
  fed = λ consumer f. refl;
  granted = λ consumer. refl;
  back = back;
  flags = λ ask. (refl, refl);
  last = none_left;
  others = unasked;
}
