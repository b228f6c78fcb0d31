use Rattle.mcbp_frame.proofs.Cases.{given, one}
use Rattle.mcbp_frame.proofs.laws.exactly_one_case.Goals as goal

pub returns-clause-given : goal.returns-clause-given
returns-clause-given c = given

pub returns-clause-one : goal.returns-clause-one
returns-clause-one c = one
