use Rattle.transcript_law.proofs.rows.CrashRows.{passed, passed_failed, passed_stopped, fails, fails_ok, stops, stops_ok, fails_stopped, stops_failed, unarmed_failed, unarmed_stopped, other_failed, other_stopped, elsewhere, counted, counted_ok, once, twice, stopped_once, stopped_twice, gone, survives, stop_survives}
use Rattle.transcript_law.proofs.crashes.judged_arms.Goals as goal

pub returns : goal.returns
returns c = record {
  passed = passed;
  passed_failed = passed_failed;
  passed_stopped = passed_stopped;
  fails = fails;
  fails_ok = fails_ok;
  stops = stops;
  stops_ok = stops_ok;
  fails_stopped = fails_stopped;
  stops_failed = stops_failed;
  unarmed_failed = unarmed_failed;
  unarmed_stopped = unarmed_stopped;
  other_failed = other_failed;
  other_stopped = other_stopped;
  elsewhere = elsewhere;
  counted = counted;
  counted_ok = counted_ok;
  once = once;
  twice = twice;
  stopped_once = stopped_once;
  stopped_twice = stopped_twice;
  gone = gone;
  survives = survives;
  stop_survives = stop_survives;
}
