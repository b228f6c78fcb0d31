use Rattle.transcript_law.proofs.rows.BackfillClients as rows
use Rattle.transcript_law.proofs.backfills.judged_disk_clients.Goals as goal

pub returns : goal.returns
returns c = record {
  plain = rows.plain;
  document = rows.document;
  above = rows.above;
  both = rows.both;
  commit = rows.commit;
  replaced = rows.replaced;
  plain_replaced = rows.plain_replaced;
}
