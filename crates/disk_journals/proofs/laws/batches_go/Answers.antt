use Rattle.disk_journals.proofs.Lawful.{no_batch}
use Rattle.disk_journals.proofs.laws.batches_go.Goals as goal

pub returns : goal.returns
returns c = no_batch
