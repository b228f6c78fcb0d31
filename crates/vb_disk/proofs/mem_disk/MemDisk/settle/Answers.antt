use Rattle.std.proofs.Common.{subst, Some}
use Rattle.std.specs.Prelude.{reverse}
use Rattle.vb_disk.specs.Crashes.{MaySettle}
use Rattle.vb_disk.specs.Memory.{crashes_after, mem_crashes}
use Rattle.vb_disk.specs.declared.Put.TheVariants as put
use Rattle.vb_disk.proofs.Kept.{sync_settles}
use Rattle.vb_disk.proofs.mem_disk.MemDisk.settle.Goals as goal

pub returns-then-self-clause-settles : goal.returns-then-self-clause-settles
returns-then-self-clause-settles c =
    subst (λ m. MaySettle (mem_crashes m) (crashes_after (reverse c.push_reserved.new.self.items)) (Some c.self.inside.bytes.items) put.Done) c.self.view_is
    (sync_settles _ _ _ c.self.inside.ready.items _ c.push_reserved.ensures.items c.self.invariant.0)
