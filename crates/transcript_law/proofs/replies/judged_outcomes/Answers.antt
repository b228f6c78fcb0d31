use Rattle.transcript_law.proofs.rows.AnswerCommits as rows
use Rattle.transcript_law.proofs.replies.judged_outcomes.Goals as goal

pub returns : goal.returns
returns c = record {
  committed = rows.committed;
  uncommitted = rows.uncommitted;
  prepared = rows.prepared;
  cas = rows.cas;
  far = rows.far;
  later = rows.later;
  seqnos = rows.seqnos;
  untold = rows.untold;
  branch = rows.branch;
  seqno = rows.seqno;
  unasked = rows.unasked;
  other_key = rows.other_key;
  other_vb = rows.other_vb;
  other_value = rows.other_value;
  removal = rows.removal;
  other_level = rows.other_level;
  other_prepare = rows.other_prepare;
  plain = rows.plain;
  plain_uncommitted = rows.plain_uncommitted;
}
