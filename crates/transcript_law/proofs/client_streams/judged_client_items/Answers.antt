use Rattle.transcript_law.proofs.rows.ClientStreamItems as rows
use Rattle.transcript_law.proofs.client_streams.judged_client_items.Goals as goal

pub returns : goal.returns
returns c = record {
  both = rows.both;
  answered = rows.answered;
  in_turn = rows.in_turn;
  own = rows.own;
  header = rows.header;
  value = rows.value;
  skipped = rows.skipped;
  unmarked = rows.unmarked;
  over = rows.over;
  turns = rows.turns;
  turns_lost = rows.turns_lost;
  turns_twice = rows.turns_twice;
  left = rows.left;
  left_none = rows.left_none;
  other_turned = rows.other_turned;
  lost = rows.lost;
}
