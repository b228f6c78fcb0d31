use Rattle.transcript_law.proofs.rows.TakeoverWaits.{ends_idle, gives_up_alone, idle, idle_unstated, puts_active, puts_pending, saves, waits, waits_half, waits_heard, waits_on, waits_turned, waits_unstated}
use Rattle.transcript_law.proofs.takeovers.judged_awaited_states.Goals as goal

pub returns : goal.returns
returns c = record {
  puts_pending = puts_pending;
  waits = waits;
  waits_on = waits_on;
  waits_half = waits_half;
  waits_heard = waits_heard;
  waits_unstated = waits_unstated;
  waits_turned = waits_turned;
  puts_active = puts_active;
  gives_up_alone = gives_up_alone;
  idle = idle;
  idle_unstated = idle_unstated;
  saves = saves;
  ends_idle = ends_idle;
}
