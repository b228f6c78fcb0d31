use Rattle.node_world.proofs.OpenEnds.{ends_are}
use Rattle.node_world.proofs.plumbing_laws.ends_are_links.Goals as goal

pub returns : goal.returns
returns c = ends_are
