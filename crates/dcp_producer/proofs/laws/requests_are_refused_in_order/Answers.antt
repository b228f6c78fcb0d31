use Rattle.dcp_producer.proofs.Requests.{einval_first, unsupported_next, numbers_then, inactive_then, held_last, outside_then, held_only}
use Rattle.dcp_producer.proofs.laws.requests_are_refused_in_order.Goals as goal

pub returns-clause-einval : goal.returns-clause-einval
returns-clause-einval c = einval_first

pub returns-clause-unsupported : goal.returns-clause-unsupported
returns-clause-unsupported c = unsupported_next

pub returns-clause-numbers : goal.returns-clause-numbers
returns-clause-numbers c = numbers_then

pub returns-clause-elsewhere : goal.returns-clause-elsewhere
returns-clause-elsewhere c = inactive_then

pub returns-clause-held : goal.returns-clause-held
returns-clause-held c f ask s states vb stream it there active held = held_last f ask s states it vb there active stream held

pub returns-clause-outside : goal.returns-clause-outside
returns-clause-outside c f ask s states vb it there active = outside_then f ask s states it vb there active

pub returns-clause-only : goal.returns-clause-only
returns-clause-only c f ask s states vb it there active = held_only f ask s states it vb there active
