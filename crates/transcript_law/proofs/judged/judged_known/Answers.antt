use Rattle.transcript_law.proofs.rows.Contrary.{asked_otherwise, kept_log, cut_log, unmade_log, dead_again, follower_changes, follower_active, promoted_dead}
use Rattle.transcript_law.proofs.judged.judged_known.Goals as goal

pub returns : goal.returns
returns c = record {
  adopted = asked_otherwise;
  kept = kept_log;
  cut = cut_log;
  unmade = unmade_log;
  dead_again = dead_again;
  changes = follower_changes;
  active = follower_active;
  dead = promoted_dead;
}
