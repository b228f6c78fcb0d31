use Rattle.transcript_law.proofs.rows.TakeoverRows.{active_again, active_dead, active_early, active_first, active_now, active_short, active_unobeyed, pending_again, pending_dead, pending_following, pending_nobody, pending_now, pending_short, pending_unput}
use Rattle.transcript_law.proofs.takeovers.judged_put_states.Goals as goal

pub returns : goal.returns
returns c = record {
  pending = pending_now;
  pending_following = pending_following;
  pending_unput = pending_unput;
  pending_short = pending_short;
  pending_again = pending_again;
  pending_dead = pending_dead;
  active = active_now;
  active_first = active_first;
  active_early = active_early;
  active_dead = active_dead;
  active_short = active_short;
  active_again = active_again;
  replica = λ s. s.next;
  dead = λ s. s.next;
  pending_nobody = pending_nobody;
  active_unobeyed = active_unobeyed;
}
