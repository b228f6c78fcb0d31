use Rattle.ckpt_list.proofs.Trimming.{trims_exactly}
use Rattle.ckpt_list.proofs.laws.trims_are_exact.Goals as goal

pub returns : goal.returns
returns c = trims_exactly
