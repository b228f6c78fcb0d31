use Rattle.std.proofs.Common.{◌<◌, ℕ}
use Rattle.std.specs.List.{slice_index_or}
use Rattle.script_text.specs.Held.{IsEntryHeld}
use Rattle.vb_types.specs.declared.role.LogEntry.{LogEntry}
use Rattle.dcp_main.proofs.held.log_held.Given as goal

abbrev pub invariant-loop-entry : goal.invariant-loop-entry
invariant-loop-entry l = (i : ℕ) (d : LogEntry) → i < l.entry-index → IsEntryHeld (slice_index_or l.log i d)
