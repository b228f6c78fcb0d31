use Rattle.disk_journals.proofs.Numbers.{lists_all}
use Rattle.disk_journals.proofs.laws.crashes_list_all.Goals as goal

pub returns : goal.returns
returns c = lists_all
