use Rattle.std.proofs.Common.{◌≡◌}
use Rattle.node_core.specs.Clients.{handling}
use Rattle.node_core.proofs.ClientTurns.{Passed, to_do}
use Rattle.node_core.proofs.client.Client.pass_frames.Given as goal

abbrev pub invariant-loop-frame : goal.invariant-loop-frame
invariant-loop-frame g l = record {
  passed : Passed g.A.VbAccess.step l.clock (handling l.initial.self.plain l.initial.step) l.initial.vbs (handling l.self.plain l.step) l.vbs;
  closed : l.step.closed ≡ l.self.plain.session.closed;
  spent : l.self.spent ≡ l.initial.self.spent;
  desk : l.self.plain.producer.desk ≡ l.initial.self.plain.producer.desk;
}

abbrev pub decreases-loop-frame : goal.decreases-loop-frame
decreases-loop-frame g l = to_do (handling l.self.plain l.step)
