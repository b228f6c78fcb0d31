use Rattle.durability.proofs.Dues.{due_of, due_complete, due_thirds, due_greatest}
use Rattle.durability.proofs.laws.acknowledged_number.Goals as goal

pub returns-clause-of : goal.returns-clause-of
returns-clause-of c = due_of

pub returns-clause-complete : goal.returns-clause-complete
returns-clause-complete c = due_complete

pub returns-clause-thirds : goal.returns-clause-thirds
returns-clause-thirds c = due_thirds

pub returns-clause-greatest : goal.returns-clause-greatest
returns-clause-greatest c = due_greatest
