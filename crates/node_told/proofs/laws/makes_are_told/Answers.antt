use Rattle.node_told.proofs.Disks.{makes}
use Rattle.node_told.proofs.laws.makes_are_told.Goals as goal

pub returns : goal.returns
returns g c = λ mine lists. makes g.A.VbAccess.made g.J.Journals.asks mine lists
