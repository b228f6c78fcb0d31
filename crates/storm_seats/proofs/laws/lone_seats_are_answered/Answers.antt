use Rattle.storm_seats.specs.Laws.{Is, last}
use Rattle.storm_seats.proofs.Seats.{alone}
use Rattle.storm_seats.proofs.laws.lone_seats_are_answered.Goals as goal

pub returns : goal.returns
returns c = alone Is last
