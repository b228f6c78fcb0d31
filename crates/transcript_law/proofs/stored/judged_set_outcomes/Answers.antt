use Rattle.transcript_law.proofs.rows.StoredOutcomes.{asked, outcome, refused, unasked, unasked_before, unasked_unsure, unsure}
use Rattle.transcript_law.proofs.stored.judged_set_outcomes.Goals as goal

pub returns : goal.returns
returns c = record {
  outcome = outcome;
  unasked = unasked;
  unasked_before = unasked_before;
  unsure = unsure;
  unasked_unsure = unasked_unsure;
  asked = asked;
  refused = refused;
}
