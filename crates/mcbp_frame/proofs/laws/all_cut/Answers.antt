use Rattle.mcbp_frame.proofs.Pieces.{gives, gives_only, cuts, frames-left, left-left}
use Rattle.mcbp_frame.proofs.laws.all_cut.Goals as goal

pub returns-clause-gives : goal.returns-clause-gives
returns-clause-gives c = gives

pub returns-clause-only : goal.returns-clause-only
returns-clause-only c = gives_only

pub returns-clause-cut : goal.returns-clause-cut
returns-clause-cut c = cuts

pub returns-clause-no_more : goal.returns-clause-no_more
returns-clause-no_more c = frames-left

pub returns-clause-same : goal.returns-clause-same
returns-clause-same c = left-left
