-- the numbers of all opcodes, one after the other
use Rattle.std.proofs.Common.{rules, tests, ◌∙◌}
use Rattle.std.specs.Prelude.{◌==◌}
use Rattle.std.proofs.lemmas.Iterator.{YieldsList-from_slice}
use Rattle.std.proofs.lemmas.Iterator.Search.{find_from_yields_List}
use Rattle.mcbp_dcp.specs.Opcodes.{opcode_number, opcodes}
use Rattle.mcbp_dcp.proofs.opcode.Opcode.of.Goals as goal

pub returns : goal.returns
returns c =
    c.copied.ensures
    ∙ find_from_yields_List (λ o. opcode_number o == c.args.number) _ _ _ c.find.ensures.ran (YieldsList-from_slice opcodes cc) (λ x b q k. search (rules, tests))
