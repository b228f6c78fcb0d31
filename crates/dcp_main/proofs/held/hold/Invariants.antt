use Rattle.std.proofs.Common.{◌<◌, ℕ}
use Rattle.std.specs.List.{slice_index_or}
use Rattle.script_text.specs.Held.{IsEventHeld}
use Rattle.vb_events.specs.declared.event.Event.{Event}
use Rattle.dcp_main.proofs.held.hold.Given as goal

abbrev pub invariant-loop-event : goal.invariant-loop-event
invariant-loop-event l = (i : ℕ) (d : Event) → i < l.event-index → IsEventHeld (slice_index_or l.event-items i d)
