use Rattle.backfill.proofs.Disks.{gives_what_is_due}
use Rattle.backfill.proofs.laws.gives_what_is_due.Goals as goal

pub returns : goal.returns
returns c = gives_what_is_due
