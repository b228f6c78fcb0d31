use Rattle.std.proofs.Common.{◌≡◌, map, take}
use Rattle.vb_types.specs.Histories.{plain}
use Rattle.dcp_producer.proofs.first.all_written_out.Given as goal

abbrev pub invariant-loop-change : goal.invariant-loop-change
invariant-loop-change l = l.items ≡ map plain (take l.change-index l.changes)
