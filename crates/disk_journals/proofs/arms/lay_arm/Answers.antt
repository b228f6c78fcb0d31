use Rattle.std.proofs.Common.{◌≡◌, ◌<◌, List, arith, ap, sym, ◌∙◌, subst, length, take, set, ◌+◌}
use Rattle.std.proofs.lemmas.List.{take_more_set}
use Rattle.vb_disk.specs.Arms.{burnt}
use Rattle.vb_disk.specs.Fused.{FuseStorage}
use Rattle.disk_journals.specs.Arms.{ArmsLaid, for_one_call}
use Rattle.disk_journals.specs.Books.{AreBooks}
use Rattle.disk_journals.specs.declared.opening.VbDisk.{VbDisk}
use Rattle.disk_journals.proofs.Laying.{books_under, laid_more, on_under}
use Rattle.disk_journals.proofs.arms.lay_arm.Goals as goal

pub loop-at-preserved : goal.loop-at-preserved
loop-at-preserved c =
    let items : List (VbDisk FuseStorage) = c.loop-at.disks.items in
    let at = c.loop-at.at in
    let old : VbDisk FuseStorage = c.index_mut.result.now in
    let now : VbDisk FuseStorage = record { number = old.number; disk = c.arm.new.self } in
    let is : now ≡ on_under (for_one_call c.loop-at.left) old = ap (λ d. record { number = old.number; disk = d }) (c.arm.ensures ∙ ap (λ f. record old.disk { fuse = f }) c.for_one_call.ensures) in
    let below : at < length items = grind (arith, c.loop-at-test.true, c.loop-at.invariant.len, c.loop-at.disks.ok.0) in
    let arm = ap (λ (on : VbDisk FuseStorage). on.disk.fuse) is in
    record {
      within = grind (arith, c.loop-at-test.true);
      len = c.loop-at.invariant.len;
      laid = subst (λ f. ArmsLaid c.args.fuse (take (at + 1) (set items at now)) f) (sym c.burnt-left.ensures)
          (subst (λ ds. ArmsLaid c.args.fuse ds (burnt c.loop-at.left)) (sym (take_more_set items at now below)) (laid_more c.args.fuse (take at items) now c.loop-at.left c.loop-at.invariant.laid arm));
      books = λ books are. subst (λ n. AreBooks (set items at n) books) (sym is) (books_under items at (for_one_call c.loop-at.left) old books c.index_mut.ensures.value (c.loop-at.invariant.books books are));
    }
