use Rattle.std.proofs.Common.{map, take}
use Rattle.journal_points.specs.Sides.{AreLasts}
use Rattle.journal_points.proofs.lasts.last_seqs.Given as goal

abbrev pub invariant-loop-change : goal.invariant-loop-change
invariant-loop-change l = AreLasts l.side (map (λ c. c.now) (take l.change-index l.changes)) l.lasts
