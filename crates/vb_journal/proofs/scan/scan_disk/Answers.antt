use Rattle.std.proofs.Common.{◌+◌, ◌∙◌, ap, subst, sym, arith}
use Rattle.std.specs.Prelude.{Some, IfSome}
use Rattle.vb_journal.specs.Books.{IsWithin}
use Rattle.vb_journal.specs.declared.scan.Front.TheVariants as front
use Rattle.vb_journal.proofs.Coming.{Come, there_is, come_more, come_closed, come_outside}
use Rattle.vb_disk.proofs.Moments.{no_more_twice}
use Rattle.vb_journal.proofs.scan.scan_disk.Goals as goal

pub returns-in-Some-Closed-clause-scanned : goal.returns-in-Some-Closed-clause-scanned
returns-in-Some-Closed-clause-scanned g c =
    let s = g.D.Disk.storage in
    let is = c.in-Some-Closed.is ∙ ap Some c.in-Some-Closed.field-0-is in
    let there = there_is (s c.args.disk.now) (s c.loop-records.disk) (s c.front_at.new.disk) c.loop-records.place c.in_ok-front_at.field-0 front.Closed is
    c.loop-records.invariant.stays.held c.in_ok-front_at.ensures.found in
    come_closed (s c.args.disk.now).held c.loop-records.records c.loop-records.place c.loop-records.invariant.come there

pub loop-records-preserved : goal.loop-records-preserved
loop-records-preserved g c =
    let s = g.D.Disk.storage in
    let is = c.in-Some-Holds.is ∙ ap Some c.in-Some-Holds.field-0-is in
    let within = subst (λ begins. IfSome begins (IsWithin (s c.loop-records.disk).size c.loop-records.place)) is c.in_ok-front_at.ensures.within in
    let there = there_is (s c.args.disk.now) (s c.loop-records.disk) (s c.front_at.new.disk) c.loop-records.place c.in_ok-front_at.field-0
    (front.Holds c.in-Some-Holds.record c.in-Some-Holds.len) is c.loop-records.invariant.stays.held c.in_ok-front_at.ensures.found in
    let more = come_more (s c.args.disk.now).held c.loop-records.records c.loop-records.place c.in-Some-Holds.record c.in-Some-Holds.len c.loop-records.invariant.come there in record {
      stays = record {
        size = c.front_at.ensures.stays.size ∙ c.loop-records.invariant.stays.size;
        held = c.front_at.ensures.stays.held ∙ c.loop-records.invariant.stays.held;
        ready = c.front_at.ensures.stays.ready ∙ c.loop-records.invariant.stays.ready;
      };
      later = omega (arith, c.loop-records.invariant.later, c.front_at.ensures.later);
      crash = no_more_twice _ _ _ c.loop-records.invariant.crash c.front_at.ensures.crash;
      arm = c.front_at.ensures.arm ∙ c.loop-records.invariant.arm;
      left = λ out. c.front_at.ensures.left out ∙ c.loop-records.invariant.left out;
      within = omega (arith, within, c.loop-records.invariant.stays.size);
      come =
          subst (λ records. IfSome (s c.args.disk.now).held (Come records (c.loop-records.place + (5 + c.in-Some-Holds.len)))) (sym c.in_ok-push-in-Some-Holds.ensures.ok) more;
    }

pub returns-in-Some-Outside-clause-scanned : goal.returns-in-Some-Outside-clause-scanned
returns-in-Some-Outside-clause-scanned g c =
    let s = g.D.Disk.storage in
    let is = c.in-Some-Outside.is ∙ ap Some c.in-Some-Outside.field-0-is in
    let there = there_is (s c.args.disk.now) (s c.loop-records.disk) (s c.front_at.new.disk) c.loop-records.place c.in_ok-front_at.field-0 front.Outside is
    c.loop-records.invariant.stays.held c.in_ok-front_at.ensures.found in
    come_outside (s c.args.disk.now).held c.loop-records.records c.loop-records.place c.loop-records.invariant.come there
