use Rattle.transcript_law.proofs.rows.AnswerFaults as rows
use Rattle.transcript_law.proofs.replies.judged_faults.Goals as goal

pub returns : goal.returns
returns c = record {
  closes = rows.closes;
  long = rows.long;
  stays = rows.stays;
  later = rows.later;
  opaque = rows.opaque;
  opcode = rows.opcode;
  success = rows.success;
  behind = rows.behind;
  early = rows.early;
  unnamed = rows.unnamed;
  part = rows.part;
}
