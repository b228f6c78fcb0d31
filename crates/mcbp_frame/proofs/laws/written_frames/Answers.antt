use Rattle.mcbp_frame.proofs.Pieces.{frames-spellings, left-spellings}
use Rattle.mcbp_frame.proofs.laws.written_frames.Goals as goal

pub returns-clause-frames : goal.returns-clause-frames
returns-clause-frames c = frames-spellings

pub returns-clause-left : goal.returns-clause-left
returns-clause-left c = left-spellings
