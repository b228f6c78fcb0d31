use Rattle.disk_journals.proofs.UnderArms.{armed_plain}
use Rattle.disk_journals.proofs.laws.arms_are_exact.Goals as goal

pub returns : goal.returns
returns c = armed_plain
