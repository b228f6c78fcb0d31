use Rattle.transcript_law.proofs.rows.CheckedRows as rows
use Rattle.transcript_law.proofs.checked.judged_checked_streams.Goals as goal

pub returns : goal.returns
returns c = record {
  whole = rows.client_whole;
  all_sent = rows.all_sent;
  alone = rows.alone;
  another = rows.another;
  header = rows.header;
  start = rows.client_start;
  short = rows.client_short;
  plain_short = rows.plain_short;
  between = rows.between;
  skipped = rows.client_skipped;
  part = rows.client_part;
}
