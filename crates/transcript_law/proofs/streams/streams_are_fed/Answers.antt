use Rattle.transcript_law.proofs.invariant.Linked.{streams_linked}
use Rattle.transcript_law.proofs.streams.streams_are_fed.Goals as goal

pub returns : goal.returns
returns c = record { streams = λ script fits. (streams_linked script fits).0; links = λ script fits. (streams_linked script fits).1 }
