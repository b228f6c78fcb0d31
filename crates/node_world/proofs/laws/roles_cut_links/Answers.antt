use Rattle.node_world.proofs.laws.roles_cut_links.Goals as goal
use Rattle.node_world.proofs.OwnLinks.{roles_cut}

pub returns : goal.returns
returns c = roles_cut
