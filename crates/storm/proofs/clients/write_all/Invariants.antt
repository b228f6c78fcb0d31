use Rattle.std.proofs.Common.{length}
use Rattle.node_threads.specs.Seats.{rows_of}
use Rattle.storm.proofs.Writing.{Storing}
use Rattle.storm.proofs.clients.write_all.Given as goal

abbrev pub invariant-loop-aimed : goal.invariant-loop-aimed
invariant-loop-aimed g l = Storing l.fn.writes l.writes (rows_of l.fn.slots.items) (rows_of l.slots.items)

abbrev pub decreases-loop-aimed : goal.decreases-loop-aimed
decreases-loop-aimed g l = length l.writes
