use Rattle.std.proofs.lemmas.Result.{IfOk-weaker}
use Rattle.node_core.proofs.Admins.{admin_none, admin_began, admin_untold, admin_handed, admin_unhanded}
use Rattle.node_core.proofs.node.Node.admin.Goals as goal

pub returns-in_err-room-clause-began : goal.returns-in_err-room-clause-began
returns-in_err-room-clause-began g c = admin_none g.A.VbAccess.step g.J.Journals.asks _ _ _ _ _ _

pub returns-in_err-reply-clause-began : goal.returns-in_err-reply-clause-began
returns-in_err-reply-clause-began g c = admin_began g.A.VbAccess.step g.J.Journals.asks _ _ _ _ _ _ _ _ c.in_err-reply.ensures.err

pub returns-in_err-said-clause-began : goal.returns-in_err-said-clause-began
returns-in_err-said-clause-began g c = admin_untold g.A.VbAccess.step g.J.Journals.asks _ _ _ _ _ _ _ _ _ c.in_ok-reply.ensures.ok

pub returns-clause-ok : goal.returns-clause-ok
returns-clause-ok g c =
    let made = c.in_ok-reply.ensures in
    IfOk-weaker c.hand_out.result _ _ (λ out hands. admin_handed g.A.VbAccess.step g.J.Journals.asks _ _ _ _ _ _ out _ _ made.ok made.rest c.in_ok-said.ensures.ok hands) c.hand_out.ensures.ok

pub returns-clause-began : goal.returns-clause-began
returns-clause-began g c = admin_unhanded g.A.VbAccess.step g.J.Journals.asks _ _ _ _ _ _ _ _ _ c.in_ok-reply.ensures.ok c.hand_out.ensures.err
