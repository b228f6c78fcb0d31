use Rattle.std.proofs.Common.{◌∙◌, ap, sym}
use Rattle.vb_disk.specs.declared.fuse.Fuse.TheVariants.{Off}
use Rattle.vb_disk.specs.Memory.{MemStorage}
use Rattle.vb_disk.specs.Fused.{FuseStorage}
use Rattle.node_world.proofs.Making.{has_one, new_disk_added, on_ok}
use Rattle.node_world.proofs.script_node.ScriptNode.add_disk.Goals as goal

pub returns : goal.returns
returns c =
    on_ok c.add.result (new_disk_added c.args.self.now c.args.v c.disks_mut-disks.result.now c.add.new.self c.new-disk.result c.disks_mut-disks.ensures.value (c.new-disk.ensures ∙ ap (λ (m : MemStorage). let disk : FuseStorage = record { disk = m; fuse = Off; failures = 0 } in disk) c.in_ok-new.ensures) (sym c.has.ensures ∙ c.if-has.false)) c.add.ensures.ok

pub returns-then-has : goal.returns-then-has
returns-then-has c = has_one c.args.self.now c.args.v c.disks_mut-disks.result.now c.disks_mut-disks.ensures.value (sym c.has.ensures ∙ c.if-has.true)
