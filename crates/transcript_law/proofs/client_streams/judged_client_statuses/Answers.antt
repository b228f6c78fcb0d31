use Rattle.transcript_law.proofs.rows.ClientStreamStatuses as rows
use Rattle.transcript_law.proofs.client_streams.judged_client_statuses.Goals as goal

pub returns : goal.returns
returns c = record {
  flags_go = rows.flags_go;
  flags_other = rows.flags_other;
  unopened_other = rows.unopened_other;
  takeover_other = rows.takeover_other;
  held_rolls = rows.held_rolls;
  typed = rows.typed;
  typed_alone = rows.typed_alone;
  typed_close = rows.typed_close;
}
