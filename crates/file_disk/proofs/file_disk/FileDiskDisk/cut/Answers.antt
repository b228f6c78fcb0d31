use Rattle.file_disk.proofs.Anything.{may_clip}
use Rattle.file_disk.proofs.file_disk.FileDiskDisk.cut.Goals as goal

pub returns-clause-crash : goal.returns-clause-crash
returns-clause-crash g c = may_clip c.args.len
