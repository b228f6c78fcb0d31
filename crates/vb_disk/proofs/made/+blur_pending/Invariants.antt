use Rattle.std.proofs.Common.{length}
use Rattle.vb_disk.proofs.made.+blur_pending.Given as goal

abbrev pub decreases-blur_pending : goal.decreases-blur_pending
decreases-blur_pending l = length l.past.now.items
