use Rattle.transcript_law.proofs.rows.FeedingRows as rows
use Rattle.transcript_law.proofs.tellings.judged_linked_streams.Goals as goal

pub returns : goal.returns
returns c = record { unlinked = rows.unlinked; unopened = rows.unopened; second = λ ask first stream on. rows.second ask stream on first; shared = rows.shared }
