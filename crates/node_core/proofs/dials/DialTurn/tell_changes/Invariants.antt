use Rattle.std.proofs.Common.{◌≡◌, ◌++◌, take, map}
use Rattle.node_core.specs.Dials.{got_line}
use Rattle.node_core.proofs.dials.DialTurn.tell_changes.Given as goal

abbrev pub invariant-loop-change : goal.invariant-loop-change
invariant-loop-change l =
    l.self-inside ≡ record l.initial.self-inside {
      events = l.initial.self-inside.events ++ map (got_line l.initial.self-inside.consumer.plain.dialed) (take l.change-index l.changes);
    }
