use Rattle.std.proofs.Common.{Some, refl, sym, ap, ◌∙◌, subst}
use Rattle.disk_journals.specs.Devices.{fuse_device}
use Rattle.disk_journals.specs.Stands.{ShelvesStand}
use Rattle.node_world.specs.declared.script_node.ScriptNode.{ScriptNode}
use Rattle.node_world.proofs.Shelved.{MemJournals}
use Rattle.node_world.proofs.Starting.{stops}
use Rattle.node_world.proofs.script_node.ScriptNode.power_off.Goals as goal

pub returns : goal.returns
returns c =
    let now = c.replace-stopped.new.dest in
    let fresh = c.replace-stopped.ensures.after in
    stops c.args.self.now (record now { off = Some c.crash.result }) c.args.out (ap (λ (x : ScriptNode). x.node.number) fresh ∙ c.new.ensures.number ∙ c.number-number.ensures)
    (ap (λ (x : ScriptNode). x.node.vbs) fresh ∙ c.new.ensures.vbs) (ap (λ (x : ScriptNode). x.node.disks) fresh ∙ c.new.ensures.disks) (ap (λ (x : ScriptNode). x.node.conns.slots) fresh ∙ c.new.ensures.conns)
    (ap (λ (x : ScriptNode). x.node.dials) fresh ∙ c.new.ensures.dials) (ap (λ (x : ScriptNode). x.clients) fresh ∙ c.new.ensures.clients) (ap (λ (x : ScriptNode). x.clock) fresh ∙ c.new.ensures.clock)
    (ap (λ (x : ScriptNode). x.made) fresh ∙ c.new.ensures.made) (ap (λ (x : ScriptNode). x.arm) fresh ∙ c.new.ensures.arm) refl
    (λ shelves stand. c.crash.ensures shelves (subst (λ (d : MemJournals). ShelvesStand fuse_device d shelves) (sym (c.into_journals.ensures ∙ ap (λ (x : ScriptNode). x.node.disks) c.replace-stopped.ensures.value)) stand))
