use Rattle.std.proofs.Common.{sym, subst}
use Rattle.disk_journals.specs.Devices.{fuse_device}
use Rattle.disk_journals.specs.Stands.{ShelvesStand}
use Rattle.node_world.proofs.Armed.{places}
use Rattle.node_world.proofs.Shelved.{MemJournals}
use Rattle.node_world.proofs.script_node.ScriptNode.place_arm.Goals as goal

pub returns : goal.returns
returns c =
    places c.args.self.now c.args.v c.arm.new.self (λ shelves stand. c.arm.ensures.stands shelves (subst (λ (d : MemJournals). ShelvesStand fuse_device d shelves) (sym c.disks_mut.ensures.value) stand))
