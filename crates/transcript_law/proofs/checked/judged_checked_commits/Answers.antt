use Rattle.transcript_law.proofs.rows.CheckedRows as rows
use Rattle.transcript_law.proofs.checked.judged_checked_commits.Goals as goal

pub returns : goal.returns
returns c = record {
  of_two = rows.of_two;
  lacking = rows.lacking;
  below = rows.commit_below;
  stranger = rows.not_of_chain;
  twice = rows.counts_twice;
  saved = rows.saved;
  unsaved = rows.commit_unsaved;
  told = rows.told;
  uncommitted = rows.uncommitted;
  prepared = rows.behind_prepare;
  cas = rows.other_cas;
  level = rows.other_level;
}
