use Rattle.transcript_law.proofs.rows.ClientStreamMarks as marks
use Rattle.transcript_law.proofs.client_streams.judged_client_markers.Goals as goal

pub returns : goal.returns
returns c = record {
  whole = marks.whole;
  first = marks.first;
  next = marks.next;
  between = marks.between;
  above = marks.above;
  meant = marks.meant;
  start = marks.start;
  short = marks.short;
  past = marks.past;
  due = marks.due;
  not_due = marks.not_due;
  turns = marks.turns;
  over = marks.over;
  disk = marks.disk;
}
