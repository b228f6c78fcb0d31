use Rattle.std.proofs.Common.{arith, refl, ◌∙◌, subst}
use Rattle.vb_calls.specs.Jobs.{RanJob}
use Rattle.vb_calls.specs.Programs.{More}
use Rattle.vb_calls.proofs.JobRuns.{repeated_next_job}
use Rattle.dcp_producer.specs.Pulling.{one_frame, pull_of, frame_of}
use Rattle.dcp_producer.proofs.Staying.{stays_same, stays_behind}
use Rattle.dcp_producer.proofs.connection.Connection.pull.Goals as goal

pub loop-turn-init : goal.loop-turn-init
loop-turn-init g c = let none = c.requires in record { ran = (refl, refl, refl); count = omega arith; resolved = refl; stays = stays_same c.args.self.now.end c.args.self.now.end refl }

pub returns-in_err-halt-clause-same : goal.returns-in_err-halt-clause-same
returns-in_err-halt-clause-same g c = stays_behind c.args.self.now.end c.loop-turn.self.end c.put_one_frame.new.self.end c.loop-turn.invariant.stays c.put_one_frame.ensures.same

pub returns-in-Some-clause-same : goal.returns-in-Some-clause-same
returns-in-Some-clause-same g c = stays_behind c.args.self.now.end c.loop-turn.self.end c.put_one_frame.new.self.end c.loop-turn.invariant.stays c.put_one_frame.ensures.same

pub loop-turn-preserved : goal.loop-turn-preserved
loop-turn-preserved g c =
    let one = c.in_ok-halt.ensures.count in
    let so_far = c.loop-turn.invariant.count in
    let ran = subst (λ halt. RanJob g.A.VbAccess.step g.J.Journals.asks (one_frame (pull_of c.loop-turn.self c.loop-turn.quiet)) c.loop-turn.vbs c.loop-turn.disks (frame_of halt (pull_of c.put_one_frame.new.self c.put_one_frame.new.quiet)) c.put_one_frame.new.vbs c.put_one_frame.new.disks)
    c.in_default.is c.in_ok-halt.ensures.ok in
    record {
      ran = repeated_next_job g.A.VbAccess.step g.J.Journals.asks one_frame c.loop-turn.turn (pull_of c.args.self.now c.begin.new.self) c.args.vbs.now c.args.disks.now (pull_of c.loop-turn.self c.loop-turn.quiet) c.loop-turn.vbs c.loop-turn.disks
          (More (pull_of c.put_one_frame.new.self c.put_one_frame.new.quiet)) c.put_one_frame.new.vbs c.put_one_frame.new.disks c.loop-turn.invariant.ran ran;
      count = omega arith;
      resolved = c.in_ok-halt.ensures.resolved ∙ c.loop-turn.invariant.resolved;
      stays = stays_behind c.args.self.now.end c.loop-turn.self.end c.put_one_frame.new.self.end c.loop-turn.invariant.stays c.put_one_frame.ensures.same;
    }
