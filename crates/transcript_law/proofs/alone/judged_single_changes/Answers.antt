use Rattle.transcript_law.proofs.rows.AloneRows.{branch, commits, unprepared, document, removal, history, waiting}
use Rattle.transcript_law.proofs.alone.judged_single_changes.Goals as goal

pub returns : goal.returns
returns c = record {
  branch = branch;
  commits = commits;
  unprepared = unprepared;
  document = document;
  removal = removal;
  history = history;
  waiting = waiting;
}
