use Rattle.std.proofs.Common.{◌≡◌, length}
use Rattle.node_threads.specs.Seats.{rows_of}
use Rattle.storm_seats.specs.Gathering.{AllFrom}
use Rattle.storm.specs.Rows.{IsOpened}
use Rattle.storm.proofs.opening.open_all.Given as goal

abbrev pub invariant-loop-v : goal.invariant-loop-v
invariant-loop-v g l = (length (rows_of l.slots.items) ≡ l.v) × AllFrom IsOpened 0 (rows_of l.slots.items)
