use Rattle.node_core.proofs.Conduct.{others_stay, link_stays}
use Rattle.node_core.proofs.laws.dials_leave_other_vbuckets.Goals as goal

pub returns : goal.returns
returns c = record { others = others_stay; link = link_stays }
