use Rattle.durability.proofs.Changes.{comes, stay, goes, rest}
use Rattle.durability.proofs.laws.prepares_come_and_go.Goals as goal

pub returns-clause-comes : goal.returns-clause-comes
returns-clause-comes c = comes

pub returns-clause-stay : goal.returns-clause-stay
returns-clause-stay c = stay

pub returns-clause-goes : goal.returns-clause-goes
returns-clause-goes c = goes

pub returns-clause-left : goal.returns-clause-left
returns-clause-left c = rest
