use Rattle.std.proofs.Common.{take}
use Rattle.node_core.proofs.GivenTold.{GivenSo}
use Rattle.node_core.proofs.giving.tell_given.Given as goal

abbrev pub invariant-loop-one : goal.invariant-loop-one
invariant-loop-one l = GivenSo (take l.one-index l.given) l.initial.conns l.conns
