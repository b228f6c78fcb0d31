use Rattle.transcript_law.proofs.rows.ClientStreamDurables as rows
use Rattle.transcript_law.proofs.client_streams.judged_durable_items.Goals as goal

pub returns : goal.returns
returns c = record {
  prepare = rows.prepare;
  commit = rows.commit;
  document = rows.document;
  plain_prepare = rows.plain_prepare;
  plain_document = rows.plain_document;
  plain_commit = rows.plain_commit;
  below = rows.below;
  below_commit = rows.below_commit;
  later_document = rows.later_document;
  later_commit = rows.later_commit;
  held_so = rows.held_so;
  held_commit = rows.held_commit;
  turned_commit = rows.turned_commit;
  turned_as_document = rows.turned_as_document;
  turned_document = rows.turned_document;
  turned_as_commit = rows.turned_as_commit;
}
