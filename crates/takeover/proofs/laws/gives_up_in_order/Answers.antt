use Rattle.takeover.proofs.Giving.{gives_up_in_order}
use Rattle.takeover.proofs.laws.gives_up_in_order.Goals as goal

pub returns : goal.returns
returns c = gives_up_in_order
