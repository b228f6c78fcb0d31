use Rattle.transcript_law.proofs.rows.KeptRows.{behind_commit, behind_outcome, left, refused, unsure, waits}
use Rattle.transcript_law.proofs.stored.judged_kept_prepares.Goals as goal

pub returns : goal.returns
returns c = record {
  refused = refused;
  left = left;
  unsure = unsure;
  waits = waits;
  behind_commit = behind_commit;
  behind_outcome = behind_outcome;
}
