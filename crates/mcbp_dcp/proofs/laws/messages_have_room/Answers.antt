use Rattle.std.proofs.Common.{length, refl, ap, arith}
use Rattle.mcbp_dcp.proofs.laws.messages_have_room.Goals as goal

pub returns-clause-control : goal.returns-clause-control
returns-clause-control c = λ key value. (λ k. k, λ k. k)

pub returns-clause-mutation : goal.returns-clause-mutation
returns-clause-mutation c = λ change. (λ k. k, λ k. k)

pub returns-clause-deletion : goal.returns-clause-deletion
returns-clause-deletion c = λ change. (λ k. k, λ k. k)

pub returns-clause-ended : goal.returns-clause-ended
returns-clause-ended c = λ change. ((λ k. k, λ k. k), (λ k. k, λ k. k))

pub returns-clause-log : goal.returns-clause-log
returns-clause-log c = λ log. (λ k. k.0, λ k. (k, λ n. absurd (n refl)))

pub returns-clause-refused : goal.returns-clause-refused
returns-clause-refused c = λ status log far. (λ k. k.1 far, λ none. (omega (arith, ap length none), λ n. none))
