use Rattle.mcbp_kv.proofs.Answers.{in_order}
use Rattle.mcbp_kv.proofs.laws.answers_are_spelled.Goals as goal

pub returns-clause-order : goal.returns-clause-order
returns-clause-order c = in_order
