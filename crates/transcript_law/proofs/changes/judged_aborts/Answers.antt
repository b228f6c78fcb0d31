use Rattle.transcript_law.proofs.rows.AbortRows as rows
use Rattle.transcript_law.proofs.changes.judged_aborts.Goals as goal

pub returns : goal.returns
returns c = record {
  up = rows.up;
  early = rows.early;
  at_once = rows.at_once;
  last = rows.last;
  before_last = rows.before_last;
  unasked = rows.unasked;
  other_vb = rows.other_vb;
  other_node = rows.other_node;
  unmade = rows.unmade;
  behind = rows.behind;
  behind_early = rows.behind_early;
  behind_other = rows.behind_other;
  tick_other = rows.tick_other;
  without_clock = rows.without_clock;
  chained = rows.chained;
}
