use Rattle.node_threads.proofs.Turns.{in_numbers}
use Rattle.node_threads.proofs.laws.seats_in_numbers.Goals as goal

pub returns : goal.returns
returns c = in_numbers
