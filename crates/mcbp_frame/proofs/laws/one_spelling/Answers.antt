use Rattle.mcbp_frame.proofs.Cases.{length-spelling, whole_back, is_whole}
use Rattle.mcbp_frame.proofs.laws.one_spelling.Goals as goal

pub returns-clause-length : goal.returns-clause-length
returns-clause-length c = length-spelling

pub returns-clause-whole : goal.returns-clause-whole
returns-clause-whole c = λ bytes f h. (whole_back bytes f h, is_whole bytes f)
