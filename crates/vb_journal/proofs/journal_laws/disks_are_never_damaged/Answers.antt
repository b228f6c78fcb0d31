use Rattle.vb_journal.proofs.Surviving.{never}
use Rattle.vb_journal.proofs.journal_laws.disks_are_never_damaged.Goals as goal

pub returns : goal.returns
returns g c = never g.D.Disk.storage g.D.Disk.crashes
