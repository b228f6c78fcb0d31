use Rattle.disk_journals.proofs.Lawful.{rolls_first}
use Rattle.disk_journals.proofs.laws.rolls_append_first.Goals as goal

pub returns : goal.returns
returns c = rolls_first
