use Rattle.std.proofs.Common.{◌≡◌, ◌≤◌, length, map, drop}
use Rattle.hash_table.specs.Tables.{put_all}
use Rattle.hash_table.proofs.hash_table.load_pends.Given as goal

abbrev pub invariant-loop-at : goal.invariant-loop-at
invariant-loop-at l = (l.at ≤ length l.pends) × (l.table.map ≡ put_all l.fn.table.map (drop l.at (map (λ p. (p.0.now, p.1.now)) l.pends)))

abbrev pub decreases-loop-at : goal.decreases-loop-at
decreases-loop-at l = l.at
