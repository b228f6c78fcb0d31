use Rattle.transcript_law.proofs.invariant.Prefixes.{branches_followed}
use Rattle.transcript_law.proofs.branches.branches_are_followed.Goals as goal

pub returns : goal.returns
returns c = branches_followed
