use Rattle.transcript_law.proofs.rows.FeedingRows as rows
use Rattle.transcript_law.proofs.tellings.judged_fed_links.Goals as goal

pub returns : goal.returns
returns c = record { fed = rows.fed; producer_down = rows.producer_down; producer_unmade = rows.producer_unmade; consumer_down = rows.consumer_down; no_vb = rows.no_vb; active = rows.active; dead = rows.dead; owner = rows.owner; gone_on = rows.gone_on; owns_none = rows.owns_none; twice = rows.twice }
