use Rattle.mcbp_frame.proofs.Cuts.{any_pieces}
use Rattle.mcbp_frame.proofs.laws.any_pieces.Goals as goal

pub returns : goal.returns
returns c = any_pieces
