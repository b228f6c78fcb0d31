use Rattle.std.specs.Prelude.{◌≡◌, ◌++◌, ◌∷◌, map}
use Rattle.std.proofs.Common.{take}
use Rattle.vb_events.specs.declared.event.Event.TheVariants as event
use Rattle.dcp_producer.specs.Serving.{counted_line}
use Rattle.dcp_producer.proofs.connection.Connection.tell_lines.Given as goal

abbrev pub invariant-loop-change : goal.invariant-loop-change
invariant-loop-change l =
    l.self ≡ record l.fn.self {
      events = l.fn.self.events
          ++ counted_line l.fn.self.end.desk l.f l.member l.seq ∷ map (event.Changed l.fn.self.end.desk.node l.f.vb_or_status l.reply.branch) (take l.change-index l.reply.changes);
    }
