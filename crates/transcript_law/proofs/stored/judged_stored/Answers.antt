use Rattle.transcript_law.proofs.rows.StoredJudged.{before, cas, durable, elsewhere, later, refused, right, ticked, ticked_told, told, twice, unanswered, unremoved, untold}
use Rattle.transcript_law.proofs.stored.judged_stored.Goals as goal

pub returns : goal.returns
returns c = record {
  told = told;
  untold = untold;
  unremoved = unremoved;
  before = before;
  later = later;
  twice = twice;
  refused = refused;
  cas = cas;
  elsewhere = elsewhere;
  durable = durable;
  right = right;
  unanswered = unanswered;
  ticked = ticked;
  ticked_told = ticked_told;
}
