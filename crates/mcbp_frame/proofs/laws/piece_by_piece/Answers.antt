use Rattle.mcbp_frame.proofs.Pieces.{frames-append, left-append, fault_stays}
use Rattle.mcbp_frame.proofs.Faults.{head_stays}
use Rattle.mcbp_frame.proofs.laws.piece_by_piece.Goals as goal

pub returns-clause-frames : goal.returns-clause-frames
returns-clause-frames c = frames-append

pub returns-clause-left : goal.returns-clause-left
returns-clause-left c = left-append

pub returns-clause-fault : goal.returns-clause-fault
returns-clause-fault c = fault_stays

pub returns-clause-head : goal.returns-clause-head
returns-clause-head c = head_stays
