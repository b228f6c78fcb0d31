use Rattle.std.proofs.Common.{◌≡◌, ◌≤◌, length, map, drop}
use Rattle.hash_table.specs.Tables.{put_all}
use Rattle.hash_table.proofs.hash_table.put_pends.Given as goal

abbrev pub invariant-loop-at : goal.invariant-loop-at
invariant-loop-at l = (l.at ≤ length l.pends) × (l.image ≡ record l.fn.image { pending = put_all l.fn.image.pending (drop l.at (map (λ p. (p.0.now, p.1.now)) l.pends)) })

abbrev pub decreases-loop-at : goal.decreases-loop-at
decreases-loop-at l = l.at
