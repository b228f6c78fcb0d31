use Rattle.std.proofs.Common.{inr}
use Rattle.client_session.proofs.Chunks.{two, all, nothing, kept, settled}
use Rattle.client_session.proofs.laws.pieces_do_not_matter.Goals as goal

pub returns-clause-two : goal.returns-clause-two
returns-clause-two c = two

pub returns-clause-all : goal.returns-clause-all
returns-clause-all c = all

pub returns-clause-new : goal.returns-clause-new
returns-clause-new c = λ who. inr (inr nothing)

pub returns-clause-kept : goal.returns-clause-kept
returns-clause-kept c = kept

pub returns-clause-settled : goal.returns-clause-settled
returns-clause-settled c = settled
