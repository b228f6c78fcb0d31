use Rattle.node_core.proofs.FirstRecord.{notes_first}
use Rattle.node_core.proofs.laws.first_records.Goals as goal

pub returns : goal.returns
returns g c = notes_first g.J.Journals.asks
