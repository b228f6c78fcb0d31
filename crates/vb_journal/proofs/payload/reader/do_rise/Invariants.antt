use Rattle.std.proofs.Common.{◌≡◌, length}
use Rattle.vb_journal.specs.Payloads.{rise}
use Rattle.vb_journal.proofs.payload.reader.do_rise.Given as goal

abbrev pub invariant-loop-first : goal.invariant-loop-first
invariant-loop-first l = rise l.rest ≡ rise l.items

abbrev pub decreases-loop-first : goal.decreases-loop-first
decreases-loop-first l = length l.rest
