use Rattle.transcript_law.proofs.rows.ClientStreamMarks as marks
use Rattle.transcript_law.proofs.client_streams.judged_client_frames.Goals as goal

pub returns : goal.returns
returns c = record { alone = marks.alone; apart = marks.apart; another = marks.another; opaque = marks.opaque; header = marks.unnamed; shut = marks.shut }
