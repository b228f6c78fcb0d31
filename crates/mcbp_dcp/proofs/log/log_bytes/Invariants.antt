use Rattle.std.proofs.Common.{◌≡◌, take}
use Rattle.mcbp_dcp.specs.WireLogs.{log_spelling}
use Rattle.mcbp_dcp.proofs.log.log_bytes.Given as goal

abbrev pub invariant-loop-entry : goal.invariant-loop-entry
invariant-loop-entry l = l.bytes.items ≡ log_spelling (take l.entry-index l.log)
