use Rattle.checkpoint.proofs.Cuts.{cuts_take_back}
use Rattle.checkpoint.proofs.laws.cuts_take_back.Goals as goal

pub returns : goal.returns
returns c = cuts_take_back
