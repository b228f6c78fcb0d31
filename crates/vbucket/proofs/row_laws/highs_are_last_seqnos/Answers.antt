use Rattle.vbucket.proofs.Highs.{highs_are_last}
use Rattle.vbucket.proofs.row_laws.highs_are_last_seqnos.Goals as goal

pub returns : goal.returns
returns c = highs_are_last
