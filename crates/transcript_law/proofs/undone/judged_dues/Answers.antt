use Rattle.transcript_law.proofs.rows.UndoneRows.{acknowledged, unacknowledged, less, inside, unsaved, due_by_log, due_by_marker, due_by_change, due_saved}
use Rattle.transcript_law.proofs.undone.judged_dues.Goals as goal

pub returns-clause-acknowledged : goal.returns-clause-acknowledged
returns-clause-acknowledged c = acknowledged

pub returns-clause-unacknowledged : goal.returns-clause-unacknowledged
returns-clause-unacknowledged c = unacknowledged

pub returns-clause-less : goal.returns-clause-less
returns-clause-less c = less

pub returns-clause-inside : goal.returns-clause-inside
returns-clause-inside c = inside

pub returns-clause-unsaved : goal.returns-clause-unsaved
returns-clause-unsaved c = unsaved

pub returns-clause-log : goal.returns-clause-log
returns-clause-log c = due_by_log

pub returns-clause-marker : goal.returns-clause-marker
returns-clause-marker c = due_by_marker

pub returns-clause-change : goal.returns-clause-change
returns-clause-change c = due_by_change

pub returns-clause-saved : goal.returns-clause-saved
returns-clause-saved c = due_saved
