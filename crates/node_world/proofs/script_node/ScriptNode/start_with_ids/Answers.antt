use Rattle.std.proofs.Common.{refl, sym, subst}
use Rattle.std.proofs.lemmas.Result.{IfOk-weaker}
use Rattle.disk_journals.specs.Devices.{fuse_device}
use Rattle.node_core.specs.Loads.{FailsBy, Loads}
use Rattle.node_world.specs.Arms.{no_arm}
use Rattle.node_world.proofs.StartRuns.{IsDown, ids_short, none_damaged, not_all, starts_loaded}
use Rattle.node_world.proofs.script_node.ScriptNode.start_with_ids.Goals as goal

pub returns-in-Ok : goal.returns-in-Ok
returns-in-Ok c =
    let old = c.args.self.now in
    let laid = c.lay_arm-left.new.disks.items in
    IfOk-weaker c.start_all.result _ _
    (λ told runs. starts_loaded c.args.disks.items c.args.ids.now old laid c.lay_arm-left.result c.lay_arm-left.ensures.laid c.lay_arm-left.ensures.books c.in-Ok.field-0
    (subst (λ n. Loads fuse_device n laid c.args.ids.now c.in-Ok.field-0) c.number-n.ensures c.in-Ok.ensures.ok)
    c.start_all.new.self told c.deref.result.now c.rise.new.self c.deref.ensures.value c.rise.ensures runs)
    c.start_all.ensures

pub returns-in-Err-IdsShort : goal.returns-in-Err-IdsShort
returns-in-Err-IdsShort c =
    let old = c.args.self.now in
    let laid = c.lay_arm-left.new.disks.items in
    let back = c.in-Err-IdsShort.disks.items in
    let left = c.lay_arm-left.result in
    ids_short c.args.disks.items c.args.ids.now old laid left c.lay_arm-left.ensures.laid c.lay_arm-left.ensures.books back c.stay_down.new.self c.refusal.result
    (subst (λ fault. FailsBy fuse_device laid c.args.ids.now fault) c.in-Err-IdsShort.field-0-is c.in-Err-IdsShort.ensures.err)
    (subst (λ new. IsDown old new back (record old.arm { fuse = left })) (sym c.stay_down.ensures) (record { same = refl; there = refl; disks = refl })) c.refusal.ensures

pub returns-in-Err-DiskFailed : goal.returns-in-Err-DiskFailed
returns-in-Err-DiskFailed c =
    let old = c.args.self.now in
    let laid = c.lay_arm-left.new.disks.items in
    let back = c.in-Err-DiskFailed.disks.items in
    IfOk-weaker c.not_opened.result _ _
    (λ told said. not_all c.args.disks.items c.args.ids.now old laid c.lay_arm-left.result c.lay_arm-left.ensures.laid c.lay_arm-left.ensures.books back c.not_opened.new.self told
    (subst (λ fault. FailsBy fuse_device laid c.args.ids.now fault) c.in-Err-DiskFailed.field-0-is c.in-Err-DiskFailed.ensures.err)
    (subst (λ new. IsDown old new back no_arm) (sym c.not_opened.ensures.down) (record { same = refl; there = refl; disks = refl })) said)
    c.not_opened.ensures.told

pub returns-in-Err-Damaged : goal.returns-in-Err-Damaged
returns-in-Err-Damaged c =
    let old = c.args.self.now in
    let laid = c.lay_arm-left.new.disks.items in
    IfOk-weaker c.not_opened-in-Err-Damaged.result _ _
    (λ told said. none_damaged c.args.disks.items c.args.ids.now old laid c.lay_arm-left.result c.lay_arm-left.ensures.laid c.lay_arm-left.ensures.books c.in-Err-Damaged.disks.items c.in-Err-Damaged.field-0-0 told c.not_opened-in-Err-Damaged.new.self
    (subst (λ fault. FailsBy fuse_device laid c.args.ids.now fault) c.in-Err-Damaged.field-0-is c.in-Err-Damaged.ensures.err))
    c.not_opened-in-Err-Damaged.ensures.told
