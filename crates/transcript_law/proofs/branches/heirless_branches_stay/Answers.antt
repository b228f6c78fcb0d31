use Rattle.transcript_law.proofs.heirless.Scripts.{heirless_stays}
use Rattle.transcript_law.proofs.branches.heirless_branches_stay.Goals as goal

pub returns : goal.returns
returns c = λ script more fits uuid h. heirless_stays uuid script more fits h
