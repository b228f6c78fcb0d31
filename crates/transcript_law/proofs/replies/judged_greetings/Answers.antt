use Rattle.transcript_law.proofs.rows.AnswerGreetings as rows
use Rattle.transcript_law.proofs.replies.judged_greetings.Goals as goal

pub returns : goal.returns
returns c = record {
  hello = rows.hello;
  more = rows.more;
  fewer = rows.fewer;
  sets = rows.sets;
  sets_raw = rows.sets_raw;
  sets_back = rows.sets_back;
  noop = rows.nooping;
  noop_refused = rows.noop_refused;
  formless = rows.formless_refused;
  formless_taken = rows.formless_taken;
  unknown = rows.unknown_refused;
  unknown_other = rows.unknown_other;
}
