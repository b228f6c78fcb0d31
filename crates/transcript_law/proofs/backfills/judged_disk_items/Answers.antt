use Rattle.transcript_law.proofs.rows.BackfillRows as rows
use Rattle.transcript_law.proofs.backfills.judged_disk_items.Goals as goal

pub returns : goal.returns
returns c = record {
  all = rows.all;
  removal = rows.removal;
  abort = rows.abort;
  replaced = rows.replaced;
  replaced_prepare = rows.replaced_prepare;
  commit = rows.commit;
  replaced_memory = rows.replaced_memory;
  commit_memory = rows.commit_memory;
  inside = rows.inside;
  ended = rows.ended;
  ended_early = rows.ended_early;
}
