use Rattle.std.proofs.Common.{◌≡◌, ◌++◌, take}
use Rattle.std.specs.List.{flat_map}
use Rattle.script_text.specs.Lines.{ended}
use Rattle.script_text.specs.Transcript.{event_text}
use Rattle.script_text.proofs.transcript.push_group.Given as goal

abbrev pub invariant-loop-event : goal.invariant-loop-event
invariant-loop-event l = l.text.items ≡ l.initial.text.items ++ flat_map (λ event. ended (event_text event)) (take l.event-index l.event-items)
