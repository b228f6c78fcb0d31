use Rattle.vb_disk.proofs.Kept.{kept_without, noted_without}
use Rattle.vb_disk.proofs.mem_disk.MemDisk.forgo.Goals as goal

pub invariant_of-self : goal.invariant_of-self
invariant_of-self c =
    let ready_is = rw (← c.self.view_is) at c.requires in
    rw c.use_up.ensures.rest (kept_without _ _ c.args.at c.args.len _ _ c.self.invariant.0, noted_without _ _ c.args.at c.args.len _ _ ready_is c.self.invariant.1)
