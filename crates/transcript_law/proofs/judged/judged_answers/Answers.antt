use Rattle.std.specs.Prelude.{◌≤◌}
use Rattle.transcript_law.proofs.Words.{arith}
use Rattle.transcript_law.proofs.links.PumpAnswers.{full_at_once, full_fewer, full_more, pumped_right, pumped_all, pumped_fewer, pumped_full, pumped_not_all, pumped_not_full, pumped_not_idle, pumped_excess}
use Rattle.transcript_law.proofs.judged.judged_answers.Goals as goal

pub returns : goal.returns
returns c = record {
  moved = omega arith;
  beyond = λ l. let e : 11 ≤ 10 = l in omega arith;
  beyond_down = λ l. let e : 11 ≤ 10 = l.0.0 in omega arith;
  uncounted = λ l. l;
  pumped = pumped_right;
  all = pumped_all;
  full = pumped_full;
  full_at_once = full_at_once;
  fewer = pumped_fewer;
  full_fewer = full_fewer;
  full_more = full_more;
  not_full = pumped_not_full;
  not_all = pumped_not_all;
  not_idle = pumped_not_idle;
  excess = pumped_excess;
  counted = λ l. l;
}
