use Rattle.disk_journals.proofs.Reopened.{opened_stand}
use Rattle.disk_journals.proofs.laws.opened_journals_stand.Goals as goal

pub returns : goal.returns
returns c = opened_stand
