use Rattle.mcbp_frame.proofs.FrameBytes.{request, answer, framed}
use Rattle.mcbp_frame.proofs.laws.frames_in_bytes.Goals as goal

pub returns-clause-request : goal.returns-clause-request
returns-clause-request c = request

pub returns-clause-answer : goal.returns-clause-answer
returns-clause-answer c = answer

pub returns-clause-framed : goal.returns-clause-framed
returns-clause-framed c = framed
