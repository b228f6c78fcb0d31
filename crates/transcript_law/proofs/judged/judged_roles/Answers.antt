use Rattle.transcript_law.proofs.rows.Rollbacks.{own_log, other_log, same_role, resting, other_role, unmade, any_log, any_role, any_change, any_shown}
use Rattle.transcript_law.proofs.judged.judged_roles.Goals as goal

pub returns : goal.returns
returns c = record {
  log = own_log;
  other = other_log;
  same = same_role;
  resting = resting;
  shown = other_role;
  unmade = unmade;
  any_log = any_log;
  any_role = any_role;
  any_change = any_change;
  any_shown = any_shown;
}
