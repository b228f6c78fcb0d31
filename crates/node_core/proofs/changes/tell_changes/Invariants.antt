use Rattle.std.proofs.Common.{◌≡◌, ◌++◌, take, map}
use Rattle.vb_events.specs.declared.event.Event.TheVariants as event
use Rattle.node_core.proofs.changes.tell_changes.Given as goal

abbrev pub invariant-loop-change : goal.invariant-loop-change
invariant-loop-change l = l.lines.items ≡ l.initial.lines.items ++ map (event.Changed l.node l.vb l.reply.branch) (take l.change-index l.reply.changes)
