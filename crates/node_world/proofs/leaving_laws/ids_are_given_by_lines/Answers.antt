use Rattle.node_world.proofs.GivenIds.{gives, gives_none}
use Rattle.node_world.proofs.leaving_laws.ids_are_given_by_lines.Goals as goal

pub returns : goal.returns
returns c = record { lines = gives; none = gives_none }
