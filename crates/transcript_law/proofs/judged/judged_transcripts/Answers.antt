use Rattle.transcript_law.proofs.rows.Transcripts.{right, value, missing, more, prepares, branch, seqno}
use Rattle.transcript_law.proofs.judged.judged_transcripts.Goals as goal

pub returns : goal.returns
returns c = record { right = right; value = value; missing = missing; more = more; prepares = prepares; branch = branch; seqno = seqno }
