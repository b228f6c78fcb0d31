use Rattle.dcp_producer.proofs.Acknowledging.{counted_early, unfed_first, stranger_next, above_then, counted_last, counted_only}
use Rattle.dcp_producer.proofs.laws.acknowledgements_are_weighed.Goals as goal

pub returns-clause-early : goal.returns-clause-early
returns-clause-early c = counted_early

pub returns-clause-unsupported : goal.returns-clause-unsupported
returns-clause-unsupported c = unfed_first

pub returns-clause-einval : goal.returns-clause-einval
returns-clause-einval c = stranger_next

pub returns-clause-erange : goal.returns-clause-erange
returns-clause-erange c = above_then

pub returns-clause-counted : goal.returns-clause-counted
returns-clause-counted c = counted_last

pub returns-clause-only : goal.returns-clause-only
returns-clause-only c = counted_only
