use Rattle.std.proofs.Common.{◌≡◌, take, length, ap, ◌∙◌, arith}
use Rattle.std.proofs.lemmas.List.{take_all}
use Rattle.mcbp_dcp.specs.WireLogs.{log_spelling}
use Rattle.mcbp_dcp.proofs.WireLogs.{length_log}
use Rattle.mcbp_dcp.proofs.log.log_bytes.Goals as goal

pub returns-clause-len : goal.returns-clause-len
returns-clause-len c =
    let all : take c.loop-entry.entry-index c.args.log.now ≡ c.args.log.now = take_all _ _ (omega arith) in
    ap length (c.in_ok-freeze.ensures.ok ∙ c.loop-entry.invariant ∙ ap log_spelling all) ∙ length_log c.args.log.now
