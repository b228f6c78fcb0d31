use Rattle.ckpt_list.proofs.Rehearsing.{rehearsed}
use Rattle.ckpt_list.proofs.laws.trims_in_numbers.Goals as goal

pub returns : goal.returns
returns c = rehearsed
