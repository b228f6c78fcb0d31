use Rattle.transcript_law.proofs.rows.PrepareRows as rows
use Rattle.transcript_law.proofs.changes.judged_asked_prepares.Goals as goal

pub returns : goal.returns
returns c = record {
  asked = rows.asked;
  unasked = rows.unasked;
  elsewhere = rows.elsewhere;
  part = rows.part;
  behind = rows.behind;
  behind_answered = rows.behind_answered;
  refused = rows.refused;
  answered = rows.answered;
  other_key = rows.other_key;
  other_vb = rows.other_vb;
  other_level = rows.other_level;
  other_value = rows.other_value;
  removal = rows.removal;
  plain = rows.plain;
  shut = rows.shut;
  last_number = rows.last_number;
  spent = rows.spent;
  again = rows.again;
  behind_change = rows.behind_change;
}
