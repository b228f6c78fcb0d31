use Rattle.std.proofs.Common.{refl, ◌∙◌, subst}
use Rattle.vb_calls.specs.Jobs.{RanJob}
use Rattle.vb_calls.specs.Programs.{More}
use Rattle.vb_calls.proofs.JobRuns.{repeated_next_job}
use Rattle.dcp_producer.specs.Pulling.{one_turn, pull_of, turn_of, Counts}
use Rattle.dcp_producer.proofs.Staying.{stays_same, stays_behind}
use Rattle.dcp_producer.proofs.connection.Connection.put_one_frame.Goals as goal

pub returns-then-not-open-clause-same : goal.returns-then-not-open-clause-same
returns-then-not-open-clause-same g c = stays_same c.args.self.now.end c.args.self.now.end refl

pub loop-turn-init : goal.loop-turn-init
loop-turn-init g c = record { ran = (refl, refl, refl); count = refl; window = refl; resolved = refl; stays = stays_same c.args.self.now.end c.args.self.now.end refl }

pub returns-in_err-take_turn-clause-same : goal.returns-in_err-take_turn-clause-same
returns-in_err-take_turn-clause-same g c = stays_behind c.args.self.now.end c.loop-turn.self.end c.take_turn.new.self.end c.loop-turn.invariant.stays c.take_turn.ensures.same

pub returns-in-Put-clause-same : goal.returns-in-Put-clause-same
returns-in-Put-clause-same g c = stays_behind c.args.self.now.end c.loop-turn.self.end c.take_turn.new.self.end c.loop-turn.invariant.stays c.take_turn.ensures.same

pub returns-in-Unread-clause-same : goal.returns-in-Unread-clause-same
returns-in-Unread-clause-same g c = stays_behind c.args.self.now.end c.loop-turn.self.end c.take_turn.new.self.end c.loop-turn.invariant.stays c.take_turn.ensures.same

pub loop-turn-preserved : goal.loop-turn-preserved
loop-turn-preserved g c =
    let counts = subst (λ turned. Counts turned c.loop-turn.self c.take_turn.new.self) c.in-Passed.is c.in_ok-take_turn.ensures.counts in
    let ran = subst (λ turned. RanJob g.A.VbAccess.step g.J.Journals.asks (one_turn (pull_of c.loop-turn.self c.loop-turn.quiet)) c.loop-turn.vbs c.loop-turn.disks (turn_of turned (pull_of c.take_turn.new.self c.take_turn.new.quiet)) c.take_turn.new.vbs c.take_turn.new.disks)
    c.in-Passed.is c.in_ok-take_turn.ensures.ok in
    record {
      ran = repeated_next_job g.A.VbAccess.step g.J.Journals.asks one_turn c.loop-turn.turn (pull_of c.args.self.now c.args.quiet.now) c.args.vbs.now c.args.disks.now (pull_of c.loop-turn.self c.loop-turn.quiet) c.loop-turn.vbs c.loop-turn.disks
          (More (pull_of c.take_turn.new.self c.take_turn.new.quiet)) c.take_turn.new.vbs c.take_turn.new.disks c.loop-turn.invariant.ran ran;
      count = counts.0 ∙ c.loop-turn.invariant.count;
      window = counts.1 ∙ c.loop-turn.invariant.window;
      resolved = counts.2 ∙ c.loop-turn.invariant.resolved;
      stays = stays_behind c.args.self.now.end c.loop-turn.self.end c.take_turn.new.self.end c.loop-turn.invariant.stays c.take_turn.ensures.same;
    }
