use Rattle.transcript_law.proofs.rows.EndRows as rows
use Rattle.transcript_law.proofs.told_ends.judged_told_ends.Goals as goal

pub returns : goal.returns
returns c = record {
  crash_source = rows.crash_source;
  crash_follower = rows.crash_follower;
  crash_elsewhere = rows.crash_elsewhere;
  stop = rows.stop;
  stop_source = rows.stop_source;
  down_stop = rows.down_stop;
  stopped = rows.stopped;
  stopped_source = rows.stopped_source;
  stopped_behind = rows.stopped_behind;
  stopped_told = rows.stopped_told;
  stopped_elsewhere = rows.stopped_elsewhere;
  promote = rows.promote;
  follow = rows.follow;
  dead = rows.dead;
  dead_told = rows.dead_told;
  promote_beside = rows.promote_beside;
  cut = rows.cut;
  cut_told = rows.cut_told;
}
