use Rattle.transcript_law.proofs.rows.ClientStreamClosings as rows
use Rattle.transcript_law.proofs.client_streams.judged_closed_streams.Goals as goal

pub returns : goal.returns
returns c = record { marker = rows.marker; item = rows.item; end = rows.end; behind = rows.behind; other = rows.other; waits = rows.waits; left = rows.left }
