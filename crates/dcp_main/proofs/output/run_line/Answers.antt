use Rattle.dcp_main.proofs.Groups.{line_stop, told_stopped, told_wrote}
use Rattle.dcp_main.proofs.output.run_line.Goals as goal

pub returns-in_err-put_piece-in-Ok : goal.returns-in_err-put_piece-in-Ok
returns-in_err-put_piece-in-Ok g c = λ w stands rests.
    let told = rw c.in-Ok.is at (c.tell_line.ensures.ok w stands rests) in
    line_stop w _ _ _ _ _ (g.O.Sink.outlet c.args.output.now) (g.O.Sink.outlet c.put_piece.new.output) c.from_residual.result c.in_err-put_piece-in-Ok.field-0.0 c.from_residual.ensures.1
    (told_stopped w _ _ _ _ _ _ (g.O.Sink.outlet c.args.output.now) (g.O.Sink.outlet c.put_piece.new.output) c.in-Ok.told c.in_err-put_piece-in-Ok.field-0.0 told c.in_err-put_piece-in-Ok.ensures)

pub returns-in_ok-put_piece-in-Ok : goal.returns-in_ok-put_piece-in-Ok
returns-in_ok-put_piece-in-Ok g c = λ w stands rests.
    let told = rw c.in-Ok.is at (c.tell_line.ensures.ok w stands rests) in
    told_wrote w _ _ _ _ _ _ _ (g.O.Sink.outlet c.args.output.now) (g.O.Sink.outlet c.put_piece.new.output) c.in-Ok.told stands rests told c.in_ok-put_piece-in-Ok.ensures
