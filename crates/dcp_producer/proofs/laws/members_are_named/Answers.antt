use Rattle.dcp_producer.proofs.Naming.{members_named, named_only}
use Rattle.dcp_producer.proofs.laws.members_are_named.Goals as goal

pub returns-clause-members : goal.returns-clause-members
returns-clause-members c = members_named

pub returns-clause-only : goal.returns-clause-only
returns-clause-only c = named_only
