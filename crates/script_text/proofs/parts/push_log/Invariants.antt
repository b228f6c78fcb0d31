use Rattle.std.proofs.Common.{◌≡◌, ◌++◌, ◌∷◌, take}
use Rattle.std.specs.List.{flat_map}
use Rattle.script_text.specs.Transcript.{entry_text}
use Rattle.script_text.proofs.parts.push_log.Given as goal

abbrev pub invariant-loop-entry : goal.invariant-loop-entry
invariant-loop-entry l = l.text.items ≡ l.initial.text.items ++ flat_map (λ entry. 44 ∷ entry_text entry) (take l.entry-index l.older)
