use Rattle.std.proofs.Common.{◌∙◌, ap}
use Rattle.std.specs.Prelude.{◌==◌}
use Rattle.std.specs.Option.{is_some}
use Rattle.mcbp_dcp.specs.Opcodes.{opcode_number, opcodes}
use Rattle.mcbp_dcp.proofs.Opcodes.{some_found}
use Rattle.mcbp_dcp.proofs.row.is_dcp.Goals as goal

pub returns : goal.returns
returns c = c.is_some.ensures ∙ ap is_some c.of.ensures ∙ some_found (λ o. opcode_number o == c.args.opcode) opcodes
