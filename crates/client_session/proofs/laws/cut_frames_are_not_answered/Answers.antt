use Rattle.client_session.proofs.Chunks.{cut}
use Rattle.client_session.proofs.laws.cut_frames_are_not_answered.Goals as goal

pub returns : goal.returns
returns c = cut
