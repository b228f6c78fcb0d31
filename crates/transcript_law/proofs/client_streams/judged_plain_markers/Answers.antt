use Rattle.transcript_law.proofs.rows.ClientStreamPlain as plain
use Rattle.transcript_law.proofs.client_streams.judged_plain_markers.Goals as goal

pub returns : goal.returns
returns c = record { above = plain.above; there = plain.there; below = plain.below; over_one = plain.over_one; at_end = plain.at_end; short = plain.short; too_short = plain.too_short; prepare = plain.prepare }
