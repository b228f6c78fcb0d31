use Rattle.cluster_model.proofs.spans.span_flushed.Goals as goal
use Rattle.cluster_model.proofs.Taking.{own_span, received_span}

pub returns-clause-own : goal.returns-clause-own
returns-clause-own c = λ held w d top low place end rh rw t sub all l i e. own_span top low place end held w d rh rw t sub all l i e

pub returns-clause-received : goal.returns-clause-received
returns-clause-received c = λ held d top place end rh l i e. received_span top place end held d rh l i e
