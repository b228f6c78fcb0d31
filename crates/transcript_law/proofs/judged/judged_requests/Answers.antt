use Rattle.transcript_law.proofs.rows.Followers.{asks, log, high, unknown, ahead, back, nameless, other, late}
use Rattle.transcript_law.proofs.judged.judged_requests.Goals as goal

pub returns : goal.returns
returns c = record { asks = asks; log = log; high = high; unknown = unknown; ahead = ahead; back = back; nameless = nameless; other = other; late = late }
