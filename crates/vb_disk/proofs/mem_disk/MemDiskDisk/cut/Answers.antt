use Rattle.std.proofs.Common.{refl, arith, ap, length}
use Rattle.vb_disk.specs.declared.made.Made.TheVariants as made
use Rattle.vb_disk.proofs.Kept.{cut_kept, done_noted}
use Rattle.vb_disk.proofs.mem_disk.MemDiskDisk.cut.Goals as goal

pub invariant_of-self : goal.invariant_of-self
invariant_of-self c =
    let n = c.args.len in
    let ready = c.self.inside.ready.items in
    let ready_is = rw (← c.self.view_is) at c.requires.ready in
    let within = ap (λ m. length m.bytes) c.self.view_is in
    rw (c.use_up.ensures.rest, c.truncate.ensures.capacity) (
      cut_kept _ _ n _ _ _ ready c.push_reserved.ensures.items c.self.invariant.0 c.requires.some (omega (arith, within, c.requires.within)) c.truncate.ensures.items,
      done_noted _ _ (made.Cut n) n 0 _ _ ready _ c.push_reserved.ensures.items refl ready_is c.push_reserved.ensures.capacity c.self.invariant.1,
    )
