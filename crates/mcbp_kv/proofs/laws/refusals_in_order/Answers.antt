use Rattle.mcbp_kv.proofs.Asked.{refused_in_order}
use Rattle.mcbp_kv.proofs.laws.refusals_in_order.Goals as goal

pub returns : goal.returns
returns c = refused_in_order
