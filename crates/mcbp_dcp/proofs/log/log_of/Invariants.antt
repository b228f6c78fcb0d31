use Rattle.std.proofs.Common.{◌≡◌, take, map}
use Rattle.mcbp_dcp.specs.WireLogs.{entry_in}
use Rattle.mcbp_dcp.proofs.log.log_of.Given as goal

abbrev pub invariant-loop-entry : goal.invariant-loop-entry
invariant-loop-entry l = l.log ≡ map entry_in (take l.entry-index l.entries)
