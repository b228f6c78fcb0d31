use Rattle.file_disk.proofs.Anything.{may_tear}
use Rattle.file_disk.proofs.file_disk.FileDiskDisk.write_at.Goals as goal

pub returns-clause-crash : goal.returns-clause-crash
returns-clause-crash g c = may_tear c.args.at _
