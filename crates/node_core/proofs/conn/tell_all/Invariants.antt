use Rattle.std.proofs.Common.{Some}
use Rattle.node_core.specs.Outcomes.{conn_ended}
use Rattle.node_core.proofs.Keys.{ToldBelow}
use Rattle.node_core.proofs.conn.tell_all.Given as goal

abbrev pub invariant-loop-key : goal.invariant-loop-key
invariant-loop-key l = ToldBelow (conn_ended l.vb (Some l.ids)) l.initial.conns l.conns l.key
