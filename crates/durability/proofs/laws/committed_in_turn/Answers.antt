use Rattle.durability.proofs.Counts.{in_turn, turns_end}
use Rattle.durability.proofs.laws.committed_in_turn.Goals as goal

pub returns-clause-first : goal.returns-clause-first
returns-clause-first c = in_turn

pub returns-clause-rest : goal.returns-clause-rest
returns-clause-rest c = turns_end
