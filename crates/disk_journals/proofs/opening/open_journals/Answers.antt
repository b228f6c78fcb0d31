use Rattle.std.proofs.Common.{◌++◌, map, arith, refl, sym, ap, ◌∙◌, subst, inr, Err}
use Rattle.std.specs.Option.{option_to_list}
use Rattle.disk_journals.specs.Devices.{device}
use Rattle.disk_journals.specs.Opening.{FirstFault, OpeningCame, disk_of}
use Rattle.disk_journals.proofs.Opens.{Opens, opens_more, opens_fault}
use Rattle.disk_journals.proofs.opening.open_journals.Goals as goal

pub loop-number-preserved : goal.loop-number-preserved
loop-number-preserved g c =
    let s = device g.D.Disk.storage g.D.Disk.crashes g.D.Disk.armed g.D.Disk.left_by in
    let popped = c.pop_front.ensures.items ∙ ap (λ o. option_to_list o ++ c.pop_front.new.self.items) c.in-Some.is in
    let came : OpeningCame s c.in-Some.field-0.disk c.open.result = record { opened = c.open.ensures.opened; crash = c.open.ensures.crash; arm = c.open.ensures.arm } in
    let opened = subst (λ r. OpeningCame s c.in-Some.field-0.disk r) c.in-Ok-open.is came in
    let more = opens_more s c.reserve.new.self.items c.loop-number.disks.items c.pop_front.new.self.items c.loop-number.opened.items c.in-Some.field-0 _ c.loop-number.invariant.opens popped (record { number = refl; journal = opened }) in record {
      opens = subst (λ os. Opens s c.reserve.new.self.items c.pop_front.new.self.items os) (sym c.push_back_reserved.ensures.items) more;
      room = grind (arith, c.loop-number.invariant.room, c.push_back_reserved.ensures.len, c.push_back_reserved.ensures.capacity, c.pop_front.ensures.cases, c.in-Some.is);
      back = grind (arith, c.loop-number.invariant.back, c.push_back_reserved.ensures.len, c.pop_front.ensures.capacity, c.pop_front.ensures.cases, c.in-Some.is);
    }

pub returns-in-Err-open-clause-err : goal.returns-in-Err-open-clause-err
returns-in-Err-open-clause-err g c =
    let s = device g.D.Disk.storage g.D.Disk.crashes g.D.Disk.armed g.D.Disk.left_by in
    let popped = c.pop_front.ensures.items ∙ ap (λ o. option_to_list o ++ c.pop_front.new.self.items) c.in-Some.is in
    let came : OpeningCame s c.in-Some.field-0.disk c.open.result = record { opened = c.open.ensures.opened; crash = c.open.ensures.crash; arm = c.open.ensures.arm } in
    let fault = subst (λ r. OpeningCame s c.in-Some.field-0.disk r) (c.in-Err-open.is ∙ ap Err (sym c.cause_of-cause.ensures)) came in
    let back = c.close_journals.ensures.disks ∙ ap (λ ds. map disk_of c.loop-number.opened.items ++ ds) c.push_front_reserved.ensures.items in
    let of_room = opens_fault s c.reserve.new.self.items c.loop-number.disks.items c.pop_front.new.self.items c.loop-number.opened.items c.in-Some.field-0 c.cause_of-cause.result.0 c.cause_of-cause.result.1 c.close_journals.new.disks.items c.loop-number.invariant.opens popped fault back in
    inr (subst (λ ds. FirstFault s ds c.cause_of-cause.result.0 c.close_journals.new.disks.items) c.reserve.ensures.items of_room)
