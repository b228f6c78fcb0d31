use Rattle.vb_disk.proofs.Rewritten.{is_written, only_written, written_is_torn, unwritten_is_torn}
use Rattle.vb_disk.proofs.laws.what_is_written_is_read.Goals as goal

pub returns : goal.returns
returns c = record { are = is_written; only = only_written; torn = written_is_torn; unwritten = unwritten_is_torn }
