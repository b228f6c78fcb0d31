use Rattle.disk_journals.proofs.InOrder.{lists_in_order}
use Rattle.disk_journals.proofs.order_laws.journals_are_listed_in_order.Goals as goal

pub returns : goal.returns
returns c = lists_in_order
