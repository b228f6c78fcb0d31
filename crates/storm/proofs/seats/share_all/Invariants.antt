use Rattle.std.proofs.Common.{◌≡◌, map, length, take}
use Rattle.node_threads.specs.Seats.{rows_of}
use Rattle.storm.specs.Rows.{given}
use Rattle.storm.proofs.Sharing.{given_to}
use Rattle.storm.proofs.seats.share_all.Given as goal

abbrev pub invariant-loop-at : goal.invariant-loop-at
invariant-loop-at l = (rows_of l.slots.items ≡ given_to l.at (rows_of l.fn.slots.items)) × (rows_of l.own.items ≡ map given (take l.at (rows_of l.fn.slots.items)))
    × (l.at-end ≡ length l.fn.slots.items)
