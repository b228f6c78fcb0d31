use Rattle.std.proofs.Common.{◌≡◌, take, map}
use Rattle.vb_events.specs.declared.event.Event.TheVariants as event
use Rattle.client_session.specs.Serving.{with_lines}
use Rattle.client_session.specs.contracts.connection.Connection.{the_view}
use Rattle.client_session.proofs.connection.Connection.tell_changes.Given as goal

abbrev pub invariant-loop-change : goal.invariant-loop-change
invariant-loop-change l = the_view l.self-inside ≡ with_lines (the_view l.initial.self-inside) (map (event.Changed (the_view l.initial.self-inside).session.who.node l.vb l.uuid) (take l.change-index l.changes))
