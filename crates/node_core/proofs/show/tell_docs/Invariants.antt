use Rattle.std.proofs.Common.{◌≡◌, ◌++◌, map, take}
use Rattle.node_core.specs.Shown.{document_line}
use Rattle.node_core.proofs.show.tell_docs.Given as goal

abbrev pub invariant-loop-key : goal.invariant-loop-key
invariant-loop-key l = l.events ≡ l.initial.events ++ map document_line (map (λ p. (p.0.now, p.1.now)) (take l.key-index l.key-items))
