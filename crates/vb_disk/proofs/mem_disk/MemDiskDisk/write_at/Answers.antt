use Rattle.std.proofs.Common.{refl, length, ap, arith}
use Rattle.vb_disk.specs.declared.made.Made.TheVariants as made
use Rattle.vb_disk.proofs.Kept.{wrote_kept, done_noted}
use Rattle.vb_disk.proofs.Readied.{ready_fits}
use Rattle.vb_disk.proofs.mem_disk.MemDiskDisk.write_at.Goals as goal

pub overwrite-requires-clause-room : goal.overwrite-requires-clause-room
overwrite-requires-clause-room c = ready_fits _ c.args.at _ c.self.inside.ready.items (rw (← c.self.view_is) at c.requires.ready) c.self.invariant.0.fits

pub invariant_of-self : goal.invariant_of-self
invariant_of-self c =
    let at = c.args.at in
    let ready = c.self.inside.ready.items in
    let ready_is = rw (← c.self.view_is) at c.requires.ready in
    let within = ap (λ m. length m.bytes) c.self.view_is in
    rw c.use_up-room.ensures.rest (
      wrote_kept _ _ at c.copy-bytes.result c.args.bytes.now _ _ _ _ ready c.push_reserved.ensures.items c.copy-bytes.ensures c.self.invariant.0 (omega (arith, within, c.requires.within))
          (ready_fits _ at _ ready ready_is c.self.invariant.0.fits) c.requires.end c.overwrite.ensures.capacity c.overwrite.ensures.items,
      done_noted _ _ (made.Wrote at c.copy-bytes.result) at _ _ _ ready _ c.push_reserved.ensures.items refl ready_is c.push_reserved.ensures.capacity c.self.invariant.1,
    )
