use Rattle.std.proofs.Common.{arith}
use Rattle.std.proofs.lemmas.Grind.{common_steps}
use Rattle.dcp_io.proofs.Parts.{taken_from}
use Rattle.dcp_io.proofs.mem_source.MemSourceSource.take.Goals as goal

pub returns-clause-moved : goal.returns-clause-moved
returns-clause-moved c = rw (← c.self.view_is) (grind (arith, common_steps, taken_from))
