use Rattle.transcript_law.proofs.rows.Followers.{key, skipped, twice}
use Rattle.transcript_law.proofs.judged.judged_items.Goals as goal

pub returns : goal.returns
returns c = record { key = key; skipped = skipped; twice = twice }
