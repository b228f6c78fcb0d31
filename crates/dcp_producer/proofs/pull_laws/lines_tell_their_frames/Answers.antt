use Rattle.dcp_producer.proofs.Going.{lines_tell}
use Rattle.dcp_producer.proofs.pull_laws.lines_tell_their_frames.Goals as goal

pub returns : goal.returns
returns c = λ frames s left made halted. lines_tell frames s left made halted
