use Rattle.std.proofs.Common.{refl}
use Rattle.dcp_consumer.proofs.Acknowledging.{due, streams, written, past, others, bytes}
use Rattle.dcp_consumer.proofs.laws.acknowledgements_rise.Goals as goal

pub returns : goal.returns
returns c = record {
  due = due;
  streams = streams;
  first = λ dialed. refl;
  written = written;
  past = past;
  same = λ consumer seq. (refl, refl, refl, refl, refl);
  others = others;
  bytes = bytes;
}
