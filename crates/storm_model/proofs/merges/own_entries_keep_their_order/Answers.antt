use Rattle.storm_model.proofs.Own.{own_order}
use Rattle.storm_model.proofs.merges.own_entries_keep_their_order.Goals as goal

pub returns : goal.returns
returns c = own_order
