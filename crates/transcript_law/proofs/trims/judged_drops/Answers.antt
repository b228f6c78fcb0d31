use Rattle.transcript_law.proofs.rows.TrimRows as rows
use Rattle.transcript_law.proofs.trims.judged_drops.Goals as goal

pub returns : goal.returns
returns c = record {
  one = rows.one;
  none = rows.no_cursor;
  two = rows.two;
  no_stream = rows.no_stream;
  no_stream_none = rows.no_stream_none;
  ended = rows.ended;
  ended_none = rows.ended_none;
  closed = rows.closed;
  ok = λ l. l.0.1;
  pulled = λ n why l. l.0.1;
}
