use Rattle.transcript_law.proofs.rows.Rollbacks.{partly, lacking, untold, left, two, above, unlogged, stranger}
use Rattle.transcript_law.proofs.rows.FollowerRows.{own_client, strange_client, unbounded_follows, unchained, uncommitted, waits}
use Rattle.transcript_law.proofs.judged.judged_followers.Goals as goal

pub returns : goal.returns
returns c = record { inside = partly; lacking = lacking; untold = untold; left = left; unlogged = unlogged; stranger = stranger; two = two; above = above; unbounded = unbounded_follows; waits = waits; unchained = unchained; uncommitted = uncommitted; own = own_client; not_own = strange_client }
