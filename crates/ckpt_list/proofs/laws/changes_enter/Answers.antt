use Rattle.ckpt_list.proofs.Exactly.{queues_one}
use Rattle.ckpt_list.proofs.laws.changes_enter.Goals as goal

pub returns : goal.returns
returns c = queues_one
