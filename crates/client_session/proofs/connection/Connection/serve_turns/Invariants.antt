use Rattle.std.proofs.Common.{length}
use Rattle.client_session.proofs.Turns.{Turned}
use Rattle.client_session.proofs.connection.Connection.serve_turns.Given as goal

abbrev pub invariant-loop : goal.invariant-loop
invariant-loop g l = Turned g.A.VbAccess.step l.clock l.initial.self l.initial.vbs l.self l.vbs

abbrev pub decreases-loop : goal.decreases-loop
decreases-loop g l = length l.self.session.reader
