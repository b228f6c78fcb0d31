use Rattle.mcbp_frame.proofs.ReadBack.{reads_back}
use Rattle.mcbp_frame.proofs.laws.reads_back.Goals as goal

pub returns : goal.returns
returns c = reads_back
