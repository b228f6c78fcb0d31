use Rattle.std.proofs.Common.{ap, ◌∙◌}
use Rattle.dcp_producer.specs.Serving.{frame_answered}
use Rattle.dcp_producer.proofs.Wanting.{cut_so}
use Rattle.dcp_producer.proofs.Uncounted.{answered_so, desk_answered, desk_cut}
use Rattle.dcp_producer.proofs.producer.Producer.answer.Goals as goal

pub returns-clause-ok : goal.returns-clause-ok
returns-clause-ok g c =
    let ran = rw c.in_ok-answered.was at c.answer_frame-answered.ensures.ok in
    answered_so g.A.VbAccess.step c.args.frame.now c.self.inside.connection c.answer_frame-answered.new.self
    (record { end = c.told-asked.new.self.end; events = c.told-asked.result.events; out = c.told-asked.result.out.items; count = 0; resolved = c.told-asked.result.resolved })
    c.args.self.now.plain c.args.vbs.now c.answer_frame-answered.new.vbs c.self.invariant (ap (λ k. k.plain) c.self.view_is)
    (ap (λ s. s.end) c.told-asked.ensures.rest) c.told-asked.ensures.events c.told-asked.ensures.out c.told-asked.ensures.resolved ran

pub returns-in_err-answered-clause-err : goal.returns-in_err-answered-clause-err
returns-in_err-answered-clause-err g c =
    let cut = rw c.in_err-answered.was at c.answer_frame-answered.ensures.err in
    cut_so g.A.VbAccess.step c.from_residual.result (frame_answered c.args.frame.now) c.self.inside.connection c.args.self.now.plain c.args.vbs.now
    c.answer_frame-answered.new.self.end c.answer_frame-answered.new.vbs c.self.invariant (ap (λ k. k.plain) c.self.view_is) cut

pub returns-in_err-answered-clause-desk : goal.returns-in_err-answered-clause-desk
returns-in_err-answered-clause-desk g c =
    let cut = rw c.in_err-answered.was at c.answer_frame-answered.ensures.err in
    ap (λ s. s.end.desk) c.told-asked.ensures.rest
    ∙ desk_cut g.A.VbAccess.step c.args.frame.now c.self.inside.connection c.args.vbs.now c.answer_frame-answered.new.vbs c.answer_frame-answered.new.self.end cut
    ∙ ap (λ k. k.plain.desk) c.self.view_is

pub returns-clause-desk : goal.returns-clause-desk
returns-clause-desk g c =
    let ran = rw c.in_ok-answered.was at c.answer_frame-answered.ensures.ok in
    ap (λ s. s.end.desk) c.told-asked.ensures.rest
    ∙ desk_answered g.A.VbAccess.step c.args.frame.now c.self.inside.connection c.args.vbs.now c.answer_frame-answered.new.vbs c.answer_frame-answered.new.self ran
    ∙ ap (λ k. k.plain.desk) c.self.view_is
