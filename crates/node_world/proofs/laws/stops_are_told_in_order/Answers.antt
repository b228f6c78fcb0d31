use Rattle.node_world.proofs.Stops.{starts, stops}
use Rattle.node_world.proofs.laws.stops_are_told_in_order.Goals as goal

pub returns-clause-lines : goal.returns-clause-lines
returns-clause-lines c = stops

pub returns-clause-starts : goal.returns-clause-starts
returns-clause-starts c = starts
