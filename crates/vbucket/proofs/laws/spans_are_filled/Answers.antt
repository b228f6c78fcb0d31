use Rattle.std.proofs.Common.{refl}
use Rattle.vbucket.proofs.Filling.{lives_exactly, in_numbers, own_fills, received_fills}
use Rattle.vbucket.proofs.laws.spans_are_filled.Goals as goal

pub returns-clause-own : goal.returns-clause-own
returns-clause-own c = own_fills

pub returns-clause-received : goal.returns-clause-received
returns-clause-received c = received_fills

pub returns-clause-live : goal.returns-clause-live
returns-clause-live c = lives_exactly

pub returns-clause-weight : goal.returns-clause-weight
returns-clause-weight c = in_numbers

pub returns-clause-seals : goal.returns-clause-seals
returns-clause-seals c = λ vb. (refl, refl)
