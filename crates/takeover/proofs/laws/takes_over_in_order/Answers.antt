use Rattle.takeover.proofs.Taking.{takes_over_in_order}
use Rattle.takeover.proofs.laws.takes_over_in_order.Goals as goal

pub returns : goal.returns
returns c = takes_over_in_order
