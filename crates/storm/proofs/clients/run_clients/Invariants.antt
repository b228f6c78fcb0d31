use Rattle.std.proofs.Common.{◌≡◌, ◌++◌, length}
use Rattle.std.specs.Vec.Iter.{into_iter_items, into_iter_len}
use Rattle.node_threads.specs.Seats.{rows_of}
use Rattle.storm.specs.Rows.{AllTwo}
use Rattle.storm.proofs.Writing.{IsMain}
use Rattle.storm.proofs.clients.run_clients.Given as goal

abbrev pub invariant-loop-own : goal.invariant-loop-own
invariant-loop-own g l = (l.yielded ++ into_iter_items l.own-iterator ≡ into_iter_items l.initial.own-iterator)
    × AllTwo (IsMain l.plan.seed l.plan.writes l.plan.clients (length l.yielded)) 0 (rows_of l.fn.slots.items) (rows_of l.slots.items)
    × (into_iter_len l.own-iterator ≡ length (into_iter_items l.own-iterator))
