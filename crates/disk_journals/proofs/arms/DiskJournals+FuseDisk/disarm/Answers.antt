use Rattle.std.proofs.Common.{ap, ◌∙◌, Some}
use Rattle.vb_disk.specs.declared.fuse.Fuse.TheVariants.{Off}
use Rattle.disk_journals.proofs.Arming.{armed_has, armed_is, armed_stands, unarmed_is, unarmed_stands}
use Rattle.disk_journals.proofs.arms.DiskJournals+FuseDisk.disarm.Goals as goal

pub returns-in-None-clause-left : goal.returns-in-None-clause-left
returns-in-None-clause-left c = λ shelves stand. unarmed_is c.args.self.now c.args.v shelves c.in-None.ensures.first stand

pub returns-in-None-clause-stands : goal.returns-in-None-clause-stands
returns-in-None-clause-stands c = λ shelves stand. unarmed_stands c.args.self.now c.args.v Off shelves c.in-None.ensures.first stand

pub returns-in-Some-clause-left : goal.returns-in-Some-clause-left
returns-in-Some-clause-left c = λ shelves stand.
    ap Some c.disarm.ensures.left ∙ armed_is c.args.self.now c.self.inside.slots.items c.args.v c.in-Some.at c.index_mut.result.now c.disarm.new.self Off c.in-Some.ensures.first c.self.view_is c.index_mut.ensures.value c.disarm.ensures.off shelves stand

pub returns-in-Some-clause-stands : goal.returns-in-Some-clause-stands
returns-in-Some-clause-stands c = λ shelves stand. armed_stands c.args.self.now c.self.inside.slots.items c.args.v c.in-Some.at c.index_mut.result.now c.disarm.new.self Off c.in-Some.ensures.first c.self.view_is c.index_mut.ensures.value c.disarm.ensures.off shelves stand

pub returns-in-Some-clause-has : goal.returns-in-Some-clause-has
returns-in-Some-clause-has c = λ w. armed_has c.args.self.now c.self.inside.slots.items c.args.v c.in-Some.at c.index_mut.result.now c.disarm.new.self Off c.in-Some.ensures.first c.self.view_is c.index_mut.ensures.value c.disarm.ensures.off w
