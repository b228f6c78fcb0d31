use Rattle.transcript_law.proofs.rows.ClientStreamFeeds as rows
use Rattle.transcript_law.proofs.client_streams.judged_fed_clients.Goals as goal

pub returns : goal.returns
returns c = record { unopened = rows.unopened; with_link = λ ask stream on. rows.with_link stream on ask; twice = rows.twice }
