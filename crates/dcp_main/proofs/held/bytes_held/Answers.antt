use Rattle.std.proofs.Common.{arith}
use Rattle.dcp_main.proofs.held.bytes_held.Goals as goal

pub returns : goal.returns
returns c = λ i. let f = c.type_inv.bytes i in omega arith
