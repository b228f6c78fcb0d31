use Rattle.transcript_law.proofs.rows.AnswerWrites as rows
use Rattle.transcript_law.proofs.replies.judged_writes.Goals as goal

pub returns : goal.returns
returns c = record {
  made = rows.made;
  unmade = rows.unmade;
  cas = rows.cas;
  key = rows.key;
  value = rows.value;
  elsewhere = rows.elsewhere;
  far = rows.far;
  twice = rows.twice;
  each = rows.each;
  late = rows.late;
  seqnos = rows.seqnos;
  untold = rows.untold;
  branch = rows.branch;
  seqno = rows.seqno;
  unasked = rows.unasked;
  fits = rows.fits;
  unfit = rows.unfit;
  adds = rows.adds;
  adds_again = rows.adds_again;
  replaces = rows.replaces;
  replaces_none = rows.replaces_none;
  removed = rows.removed;
  prepared = rows.prepared_only;
  locked = rows.locked;
}
