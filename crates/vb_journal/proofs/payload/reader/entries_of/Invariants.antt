use Rattle.std.proofs.Common.{◌≡◌, take, map}
use Rattle.vb_journal.specs.Payloads.{entry_in}
use Rattle.vb_journal.proofs.payload.reader.entries_of.Given as goal

abbrev pub invariant-loop-entry : goal.invariant-loop-entry
invariant-loop-entry l = l.log.items ≡ map entry_in (take l.entry-index l.entries)
