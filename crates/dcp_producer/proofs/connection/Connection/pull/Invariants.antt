use Rattle.std.specs.Prelude.{◌≡◌, ◌≤◌}
use Rattle.vb_calls.specs.Jobs.{RanJob, repeated_job}
use Rattle.vb_calls.specs.Programs.{More}
use Rattle.dcp_producer.specs.Pulling.{pull_of, one_frame}
use Rattle.dcp_producer.specs.Wanting.{Stays}
use Rattle.dcp_producer.proofs.connection.Connection.pull.Given as goal

abbrev pub invariant-loop-turn : goal.invariant-loop-turn
invariant-loop-turn g l = record {
  ran : RanJob g.A.VbAccess.step g.J.Journals.asks (repeated_job l.turn one_frame (pull_of l.initial.self l.initial.quiet)) l.initial.vbs l.initial.disks (More (pull_of l.self l.quiet)) l.vbs l.disks;
  count : l.self.count ≤ l.turn;
  resolved : l.self.resolved ≡ l.initial.self.resolved;
  stays : Stays l.initial.self.end l.self.end;
}
