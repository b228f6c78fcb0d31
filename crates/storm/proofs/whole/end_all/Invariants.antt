use Rattle.std.proofs.Common.{◌≡◌, ◌++◌, length}
use Rattle.std.specs.Vec.Iter.{into_iter_items, into_iter_len}
use Rattle.node_threads.specs.Seats.{rows_of}
use Rattle.storm.specs.Ending.{EndsWith}
use Rattle.storm.specs.Rows.{AllTwo}
use Rattle.storm.proofs.whole.end_all.Given as goal

abbrev pub invariant-loop-slot : goal.invariant-loop-slot
invariant-loop-slot g l = (l.yielded ++ into_iter_items l.slot-iterator ≡ into_iter_items l.initial.slot-iterator)
    × AllTwo (λ n. EndsWith) 0 (rows_of l.yielded) l.lines.items
    × (into_iter_len l.slot-iterator ≡ length (into_iter_items l.slot-iterator))
