use Rattle.mcbp_frame.proofs.Pieces.{pieces_of_frames}
use Rattle.mcbp_frame.proofs.laws.pieces_of_frames.Goals as goal

pub returns : goal.returns
returns c = pieces_of_frames
