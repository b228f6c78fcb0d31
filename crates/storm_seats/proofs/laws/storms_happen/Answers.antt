use Rattle.storm_seats.proofs.Happening.{storms_happen}
use Rattle.storm_seats.proofs.laws.storms_happen.Goals as goal

pub returns : goal.returns
returns c = storms_happen
