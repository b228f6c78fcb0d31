use Rattle.transcript_law.proofs.invariant.Unpended.{none_pending, none_rests}
use Rattle.transcript_law.proofs.takeovers.none_is_pending.Goals as goal

pub returns : goal.returns
returns c = record { follows = none_pending; rests = none_rests }
