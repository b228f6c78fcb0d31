use Rattle.ckpt_list.proofs.Trimming.{puts_exactly}
use Rattle.ckpt_list.proofs.laws.cursors_are_put.Goals as goal

pub returns : goal.returns
returns c = puts_exactly
