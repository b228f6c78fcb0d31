use Rattle.std.proofs.Common.{ap, ◌∙◌}
use Rattle.vb_journal.specs.Payloads.{is_writable}
use Rattle.node_core.proofs.FirstRecord.{first_writable}
use Rattle.node_core.proofs.node.Node.make_noted.Goals as goal

pub append-wrote-requires : goal.append-wrote-requires
append-wrote-requires g c = record { writable = ap is_writable c.in_ok-first.ensures ∙ first_writable c.args.role c.args.uuid c.requires.kept }
