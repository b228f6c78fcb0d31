use Rattle.std.proofs.Common.{sym, ◌∙◌, subst}
use Rattle.client_session.proofs.Turns.{on_err}
use Rattle.vb_calls.specs.Programs.{Ran, Began}
use Rattle.node_core.specs.Clients.{frames_passed, handling}
use Rattle.node_core.proofs.ClientTurns.{passed_all, passed_less, passed_one, passed_part}
use Rattle.node_core.proofs.client.Client.pass_frames.Goals as goal

pub loop-frame-smaller : goal.loop-frame-smaller
loop-frame-smaller g c =
    passed_less g.A.VbAccess.step c.args.clock (handling c.args.self.now.plain c.args.step.now) c.args.vbs.now (handling c.loop-frame.self.plain c.loop-frame.step) c.in-Some.frame c.take.new.self c.loop-frame.vbs
    (handling c.pass_on-passed.new.self.plain c.pass_on-passed.new.step) c.pass_on-passed.new.vbs (sym c.in-Some.ensures.value) c.in_ok-passed.ensures.ok

pub loop-frame-preserved : goal.loop-frame-preserved
loop-frame-preserved g c = record {
  passed = passed_one g.A.VbAccess.step c.args.clock (handling c.args.self.now.plain c.args.step.now) c.args.vbs.now (handling c.loop-frame.self.plain c.loop-frame.step) c.in-Some.frame c.take.new.self c.loop-frame.vbs
      (handling c.pass_on-passed.new.self.plain c.pass_on-passed.new.step) c.pass_on-passed.new.vbs (sym c.in-Some.ensures.value) c.loop-frame.invariant.passed c.in_ok-passed.ensures.ok;
  closed = c.in_ok-passed.ensures.closed;
  spent = c.pass_on-passed.ensures.spent ∙ c.loop-frame.invariant.spent;
  desk = c.pass_on-passed.ensures.desk ∙ c.loop-frame.invariant.desk;
}

pub returns-in_err-passed-clause-err : goal.returns-in_err-passed-clause-err
returns-in_err-passed-clause-err g c =
    on_err (Began g.A.VbAccess.step (frames_passed c.args.clock (handling c.args.self.now.plain c.args.step.now)) c.args.vbs.now c.pass_on-passed.new.vbs) c.from_residual.result
    (passed_part g.A.VbAccess.step c.args.clock (handling c.args.self.now.plain c.args.step.now) c.args.vbs.now (handling c.loop-frame.self.plain c.loop-frame.step) c.in-Some.frame c.take.new.self c.loop-frame.vbs
    c.pass_on-passed.new.vbs (sym c.in-Some.ensures.value) c.loop-frame.invariant.passed c.in_err-passed.ensures.err)

pub returns-clause-ok : goal.returns-clause-ok
returns-clause-ok g c =
    let none = sym c.in_default.ensures.value in
    subst (λ dcp. Ran g.A.VbAccess.step (frames_passed c.args.clock (handling c.args.self.now.plain c.args.step.now)) c.args.vbs.now
    (handling c.loop-frame.self.plain (record { events = c.loop-frame.step.events; dcp = dcp; closed = c.loop-frame.step.closed })) c.loop-frame.vbs) (none ∙ sym c.in_default.ensures.after)
    (passed_all g.A.VbAccess.step c.args.clock (handling c.args.self.now.plain c.args.step.now) c.args.vbs.now (handling c.loop-frame.self.plain c.loop-frame.step) c.loop-frame.vbs none c.loop-frame.invariant.passed)
