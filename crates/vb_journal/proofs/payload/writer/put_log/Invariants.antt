-- the entries so far are appended
use Rattle.std.proofs.Common.{◌≡◌, ◌++◌, take}
use Rattle.std.specs.List.{flat_map, All}
use Rattle.vb_journal.specs.Payloads.{entry_bytes}
use Rattle.vb_journal.specs.Fitting.{EntryFits}
use Rattle.vb_journal.proofs.payload.writer.put_log.Given as goal

abbrev pub invariant-loop-entry : goal.invariant-loop-entry
invariant-loop-entry l = (l.out.items ≡ l.initial.out.items ++ flat_map entry_bytes (take l.entry-index l.log)) × All EntryFits (take l.entry-index l.log)
