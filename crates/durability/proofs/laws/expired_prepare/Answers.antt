use Rattle.durability.proofs.Changes.{some_late, none_late}
use Rattle.durability.proofs.laws.expired_prepare.Goals as goal

pub returns-clause-some : goal.returns-clause-some
returns-clause-some c = some_late

pub returns-clause-none : goal.returns-clause-none
returns-clause-none c = none_late
