use Rattle.disk_journals.proofs.Arming.{armed_has, armed_stands, unarmed_stands}
use Rattle.disk_journals.proofs.arms.DiskJournals+FuseDisk.arm.Goals as goal

pub returns-in-None-clause-stands : goal.returns-in-None-clause-stands
returns-in-None-clause-stands c = λ shelves stand. unarmed_stands c.args.self.now c.args.v c.args.fuse shelves c.in-None.ensures.first stand

pub returns-in-Some-clause-stands : goal.returns-in-Some-clause-stands
returns-in-Some-clause-stands c = λ shelves stand. armed_stands c.args.self.now c.self.inside.slots.items c.args.v c.in-Some.at c.index_mut.result.now c.arm.new.self c.args.fuse c.in-Some.ensures.first c.self.view_is c.index_mut.ensures.value c.arm.ensures shelves stand

pub returns-in-Some-clause-has : goal.returns-in-Some-clause-has
returns-in-Some-clause-has c = λ w. armed_has c.args.self.now c.self.inside.slots.items c.args.v c.in-Some.at c.index_mut.result.now c.arm.new.self c.args.fuse c.in-Some.ensures.first c.self.view_is c.index_mut.ensures.value c.arm.ensures w
