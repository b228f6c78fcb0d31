use Rattle.std.proofs.Common.{◌≡◌, ◌++◌, take, map}
use Rattle.vb_events.specs.declared.event.Event.TheVariants as event
use Rattle.node_core.proofs.dials.DialTurn.tell_own.Given as goal

abbrev pub invariant-loop-change : goal.invariant-loop-change
invariant-loop-change l =
    l.self-inside ≡ record l.initial.self-inside {
      events = l.initial.self-inside.events
          ++ map (event.Changed l.initial.self-inside.consumer.plain.dialed.node l.initial.self-inside.consumer.plain.dialed.vb l.reply.branch) (take l.change-index l.reply.changes);
    }
