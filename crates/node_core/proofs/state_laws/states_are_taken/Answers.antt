use Rattle.node_core.proofs.Taking.{in_place, owns_so, pends_so}
use Rattle.node_core.proofs.state_laws.states_are_taken.Goals as goal

pub returns-clause-pending : goal.returns-clause-pending
returns-clause-pending g c = λ opaque s old told now ran. pends_so opaque s g.A.VbAccess.step old told now ran

pub returns-clause-active : goal.returns-clause-active
returns-clause-active g c = λ opaque s old kept told now left ran. owns_so opaque s g.A.VbAccess.step g.J.Journals.asks old kept told now left ran

pub returns-clause-place : goal.returns-clause-place
returns-clause-place g c = in_place
