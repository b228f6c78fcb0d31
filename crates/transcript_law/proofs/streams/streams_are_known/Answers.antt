use Rattle.transcript_law.proofs.invariant.Linked.{streams_known}
use Rattle.transcript_law.proofs.streams.streams_are_known.Goals as goal

pub returns : goal.returns
returns c = streams_known
