use Rattle.std.proofs.Common.{length}
use Rattle.vb_disk.proofs.made.+forget_pending.Given as goal

abbrev pub decreases-forget_pending : goal.decreases-forget_pending
decreases-forget_pending l = length l.past.now.items
