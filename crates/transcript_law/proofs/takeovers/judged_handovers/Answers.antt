use Rattle.transcript_law.proofs.rows.TakeoverWaits.{answers, ends, link_over, obeys, offers, rises, yields}
use Rattle.transcript_law.proofs.takeovers.judged_handovers.Goals as goal

pub returns : goal.returns
returns c = record {
  offers = offers;
  obeys = obeys;
  answers = answers;
  yields = yields;
  rises = rises;
  ends = ends;
  over = link_over;
}
