use Rattle.std.proofs.Common.{◌≡◌, ◌+◌, ◌≤◌, List, Some, None, refl, sym, ap, ◌∙◌, subst, arith}
use Rattle.std.specs.Prelude.{vec_len}
use Rattle.std.specs.VecDeque.{deque_len, deque_capacity}
use Rattle.vb_disk.specs.Fused.{FuseStorage}
use Rattle.disk_journals.specs.Seen.{Seen, place_in}
use Rattle.disk_journals.specs.declared.opening.VbDisk.{VbDisk}
use Rattle.disk_journals.specs.declared.crash.TheConstants.{NUMBERS}
use Rattle.disk_journals.specs.Books.{listed}
use Rattle.disk_journals.proofs.Crashing.{Ahead, Crashed, ahead_none, ahead_some, crashed_none, crashed_some}
use Rattle.disk_journals.proofs.crash.DiskJournals+FuseDisk.crash.Goals.{in-Some, in-None}
use Rattle.disk_journals.proofs.crash.DiskJournals+FuseDisk.crash.Goals as goal

pub loop-number-preserved : goal.loop-number-preserved
loop-number-preserved c =
    let all = c.args.self in
    let v = c.loop-number.number in
    let slots : List (Seen FuseStorage) = c.loop-number.slots.items in
    let disks : List (VbDisk FuseStorage) = c.loop-number.disks.items in
    let ahead : Ahead all slots v = c.loop-number.invariant.ahead in
    let done : Crashed c.args.out all v disks = c.loop-number.invariant.crashed in
    elim c.match-place_of.branch [
      | in-Some w ↦
          let s : Seen FuseStorage = w.remove.result in
          let place : Some w.in-Some.at ≡ place_in slots v = w.in-Some.ensures.first ∙ ap (λ xs. place_in xs v) c.deref.ensures.value in
          let left : VbDisk FuseStorage = w.into_disk-ended.result in
          let on : VbDisk FuseStorage = record { number = left.number; disk = w.crash.new.self } in
          record {
            within = grind (arith, c.loop-number-test.true);
            ahead = subst (λ xs. Ahead all xs (v + 1)) (sym (ap (λ xs. xs.items) w.slots-is ∙ w.remove.ensures.items)) (ahead_some c.args.out all slots v disks ahead done w.in-Some.at s place w.remove.ensures.value);
            crashed = subst (λ ds. Crashed c.args.out all (v + 1) ds) (sym (ap (λ ds. ds.items) w.disks-is ∙ w.push_back_reserved.ensures.items))
                (crashed_some c.args.out all slots v disks ahead done w.in-Some.at s place w.remove.ensures.value left on w.into_disk-ended.ensures.number w.into_disk-ended.ensures.disk refl w.crash.ensures.image w.crash.ensures.settled);
            room = subst (λ xs. vec_len xs + deque_len c.match-place_of.disks ≤ deque_capacity c.match-place_of.disks) (sym w.slots-is)
                (subst (λ ds. vec_len w.remove.new.self + deque_len ds ≤ deque_capacity ds) (sym w.disks-is)
                (grind (arith, c.loop-number.invariant.room, w.remove.ensures.len, w.push_back_reserved.ensures.len, w.push_back_reserved.ensures.capacity)));
          }
      | in-None w ↦
          let none : None ≡ place_in slots v = w.in-None.ensures.first ∙ ap (λ xs. place_in xs v) c.deref.ensures.value in
          record {
            within = grind (arith, c.loop-number-test.true);
            ahead = subst (λ xs. Ahead all xs (v + 1)) (sym (ap (λ xs. xs.items) w.slots-is)) (ahead_none c.args.out all slots v disks ahead done);
            crashed = subst (λ ds. Crashed c.args.out all (v + 1) ds) (sym (ap (λ ds. ds.items) w.disks-is)) (crashed_none c.args.out all slots v disks ahead done none);
            room = subst (λ xs. vec_len xs + deque_len c.match-place_of.disks ≤ deque_capacity c.match-place_of.disks) (sym w.slots-is)
                (subst (λ ds. vec_len c.loop-number.slots + deque_len ds ≤ deque_capacity ds) (sym w.disks-is) c.loop-number.invariant.room);
          }
    ]

pub returns : goal.returns
unfolding listed
returns c =
    let at_end : c.loop-number.number ≡ NUMBERS = grind (arith, c.loop-number-test.false, c.loop-number.invariant.within) in
    subst (λ n. Crashed c.args.out c.args.self n c.loop-number.disks.items) at_end c.loop-number.invariant.crashed
