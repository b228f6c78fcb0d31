use Rattle.disk_journals.proofs.Lawful.{log_of_take}
use Rattle.disk_journals.proofs.laws.batches_have_the_log_of_their_take.Goals as goal

pub returns : goal.returns
returns c = log_of_take
