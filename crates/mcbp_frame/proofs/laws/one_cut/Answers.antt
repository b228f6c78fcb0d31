use Rattle.mcbp_frame.proofs.Cuts.{gives_cut, cut_is_given, some, one, more}
use Rattle.mcbp_frame.proofs.laws.one_cut.Goals as goal

pub returns-clause-some : goal.returns-clause-some
returns-clause-some c = some

pub returns-clause-cut : goal.returns-clause-cut
returns-clause-cut c = λ stream frames rest h. (gives_cut stream frames rest h, cut_is_given stream frames rest)

pub returns-clause-one : goal.returns-clause-one
returns-clause-one c = one

pub returns-clause-more : goal.returns-clause-more
returns-clause-more c = more
