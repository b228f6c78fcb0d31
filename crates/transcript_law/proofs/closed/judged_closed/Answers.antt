use Rattle.transcript_law.proofs.rows.ClosedRows.{follows, stands, unfailed, unmade, again, again_ok, twice_ok, none_taken, none_failed, none_stopped, given_up, given_up_closed, opened, opened_closed, started, started_ok, back, back_stands, back_passes, back_failed, back_stopped, back_shut, back_closed, back_refused, back_fails, unsent_failed, unsent_stopped, unsent_closed, unsent_back}
use Rattle.transcript_law.proofs.closed.judged_closed.Goals as goal

pub returns : goal.returns
returns c = record {
  follows = follows;
  stands = stands;
  unfailed = unfailed;
  unmade = unmade;
  again = again;
  again_ok = again_ok;
  twice_ok = twice_ok;
  none_taken = none_taken;
  none_failed = none_failed;
  none_stopped = none_stopped;
  given_up = given_up;
  given_up_closed = given_up_closed;
  opened = opened;
  opened_closed = opened_closed;
  started = started;
  started_ok = started_ok;
  back = back;
  back_stands = back_stands;
  back_passes = back_passes;
  back_failed = back_failed;
  back_stopped = back_stopped;
  back_shut = back_shut;
  back_closed = back_closed;
  back_refused = back_refused;
  back_fails = back_fails;
  unsent_failed = unsent_failed;
  unsent_stopped = unsent_stopped;
  unsent_closed = unsent_closed;
  unsent_back = unsent_back;
}
