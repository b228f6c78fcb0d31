use Rattle.std.proofs.Common.{refl}
use Rattle.node_world.proofs.Plumbing.{bases, first_opaque, later_opaque, opens, streams, waits}
use Rattle.node_world.proofs.plumbing_laws.numberings_are_apart.Goals as goal

pub returns-clause-waits : goal.returns-clause-waits
returns-clause-waits c = waits

pub returns-clause-streams : goal.returns-clause-streams
returns-clause-streams c = streams

pub returns-clause-bases : goal.returns-clause-bases
returns-clause-bases c = bases

pub returns-clause-opened : goal.returns-clause-opened
returns-clause-opened c = opens

pub returns-clause-links : goal.returns-clause-links
returns-clause-links c = λ line l m n v buffer takeover ask. record { number = refl; base = refl; streams = (refl, refl); first = refl; opaque = first_opaque buffer; later = later_opaque buffer }
