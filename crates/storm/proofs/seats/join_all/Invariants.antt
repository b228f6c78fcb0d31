use Rattle.std.proofs.Common.{length}
use Rattle.node_threads.specs.Seats.{rows_of}
use Rattle.storm.proofs.Sharing.{Joining}
use Rattle.storm.proofs.seats.join_all.Given as goal

abbrev pub invariant-loop-seat : goal.invariant-loop-seat
invariant-loop-seat l = Joining (rows_of l.own.items) (rows_of l.fn.slots.items) (rows_of l.fn.own.items) (rows_of l.slots.items)

abbrev pub decreases-loop-seat : goal.decreases-loop-seat
decreases-loop-seat l = length l.own.items
