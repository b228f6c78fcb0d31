use Rattle.mcbp_kv.proofs.Extras.{read_as_spelled}
use Rattle.mcbp_kv.proofs.laws.framing_is_read.Goals as goal

pub returns : goal.returns
returns c = read_as_spelled
