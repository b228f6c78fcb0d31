use Rattle.std.proofs.Common.{refl, arith, subst}
use Rattle.vb_calls.specs.Programs.{Ran, Began}
use Rattle.client_session.specs.Serving.{turn, turn_handled, turns_handled}
use Rattle.client_session.proofs.Turns.{turn_fewer, turned_one, turned_all, turned_part, on_err}
use Rattle.client_session.proofs.connection.Connection.serve_turns.Goals as goal

pub loop-init : goal.loop-init
loop-init g c = record { turns = 0; fewer = omega arith; ran = (refl, refl) }

pub returns-in_err-serve_turn-clause-err : goal.returns-in_err-serve_turn-clause-err
returns-in_err-serve_turn-clause-err g c =
    on_err (Began g.A.VbAccess.step (turns_handled c.args.clock c.args.self.now) c.args.vbs.now c.serve_turn.new.vbs) c.from_residual.result
    (turned_part g.A.VbAccess.step c.args.clock c.args.self.now c.args.vbs.now c.loop.self c.loop.vbs c.serve_turn.new.vbs c.loop.invariant c.in_err-serve_turn.ensures.err)

pub loop-smaller : goal.loop-smaller
loop-smaller g c =
    turn_fewer g.A.VbAccess.step c.args.clock c.loop.self c.loop.vbs c.serve_turn.new.self c.serve_turn.new.vbs
    (subst (λ more. Ran g.A.VbAccess.step (turn_handled c.args.clock c.loop.self) c.loop.vbs (turn more c.serve_turn.new.self) c.serve_turn.new.vbs) c.if-branch.true c.in_ok-serve_turn.ensures.ok)

pub loop-preserved : goal.loop-preserved
loop-preserved g c =
    turned_one g.A.VbAccess.step c.args.clock c.args.self.now c.args.vbs.now c.loop.self c.serve_turn.new.self c.loop.vbs c.serve_turn.new.vbs c.loop.invariant
    (subst (λ more. Ran g.A.VbAccess.step (turn_handled c.args.clock c.loop.self) c.loop.vbs (turn more c.serve_turn.new.self) c.serve_turn.new.vbs) c.if-branch.true c.in_ok-serve_turn.ensures.ok)

pub returns-clause-ok : goal.returns-clause-ok
returns-clause-ok g c =
    turned_all g.A.VbAccess.step c.args.clock c.args.self.now c.args.vbs.now c.loop.self c.serve_turn.new.self c.loop.vbs c.serve_turn.new.vbs c.loop.invariant
    (subst (λ more. Ran g.A.VbAccess.step (turn_handled c.args.clock c.loop.self) c.loop.vbs (turn more c.serve_turn.new.self) c.serve_turn.new.vbs) c.if-branch.false c.in_ok-serve_turn.ensures.ok)
