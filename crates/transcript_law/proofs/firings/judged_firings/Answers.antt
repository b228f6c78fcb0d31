use Rattle.transcript_law.proofs.rows.FiredRows.{once, twice, untold, unfired, fired_ok, stopped, stopped_twice, stopped_untold, stopped_ok, seals, seal_failed, seal_disk, seal_stopped, here, there, opened, opened_untold, started, started_fired, opened_ok, last_failed, last_ok, started_far, last_stopped, last_stopped_ok, stopped_far, short, short_unopened, back_failed, back_elsewhere}
use Rattle.transcript_law.proofs.firings.judged_firings.Goals as goal

pub returns : goal.returns
returns c = record {
  once = once;
  twice = twice;
  untold = untold;
  unfired = unfired;
  fired_ok = fired_ok;
  stopped = stopped;
  stopped_twice = stopped_twice;
  stopped_untold = stopped_untold;
  stopped_ok = stopped_ok;
  seals = seals;
  seal_failed = seal_failed;
  seal_disk = seal_disk;
  seal_stopped = seal_stopped;
  here = here;
  there = there;
  opened = opened;
  opened_untold = opened_untold;
  started = started;
  started_fired = started_fired;
  opened_ok = opened_ok;
  last_failed = last_failed;
  last_ok = last_ok;
  started_far = started_far;
  last_stopped = last_stopped;
  last_stopped_ok = last_stopped_ok;
  stopped_far = stopped_far;
  short = short;
  short_unopened = short_unopened;
  back_failed = back_failed;
  back_elsewhere = back_elsewhere;
}
