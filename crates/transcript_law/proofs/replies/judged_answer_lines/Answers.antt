use Rattle.transcript_law.proofs.rows.AnswerLines as rows
use Rattle.transcript_law.proofs.replies.judged_answer_lines.Goals as goal

pub returns : goal.returns
returns c = record {
  here = rows.here;
  unasked = rows.unasked;
  opaque = rows.opaque;
  twice = rows.twice;
  pieces = rows.pieces;
  waited = rows.waited;
  each = rows.each;
  again = rows.again;
  made = rows.made;
  made_before = rows.made_before;
  committed = rows.committed;
  committed_before = rows.committed_before;
  anew = rows.anew;
}
