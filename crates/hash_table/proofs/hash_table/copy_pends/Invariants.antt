use Rattle.std.proofs.Common.{◌≡◌, ◌++◌, map, take}
use Rattle.hash_table.proofs.hash_table.copy_pends.Given as goal

abbrev pub invariant-loop-key : goal.invariant-loop-key
invariant-loop-key l = l.copies.items ≡ l.initial.copies.items ++ map (λ p. (p.0.now, p.1.now)) (take l.key-index l.pends)
