use Rattle.transcript_law.proofs.rows.ClientStreamEnds as rows
use Rattle.transcript_law.proofs.client_streams.judged_client_ends.Goals as goal

pub returns : goal.returns
returns c = record {
  all_sent = rows.all_sent;
  above = rows.above;
  early = rows.early;
  unasked = rows.unasked;
  unbegun = rows.unbegun;
  part = rows.part;
  turns = rows.turns;
  turns_early = rows.turns_early;
  turns_sent = rows.turns_sent;
  other_turns = rows.other_turns;
  turns_elsewhere = rows.turns_elsewhere;
  stays = rows.stays;
  twice = rows.twice;
}
