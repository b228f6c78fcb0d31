use Rattle.std.proofs.Common.{◌+◌, ◌≤◌, length, arith}
use Rattle.branch_model.proofs.Lists.{rises_le}
use Rattle.ckpt_list.proofs.Climbs.{rises_count}
use Rattle.ckpt_list.proofs.ckpt_list.CkptList.count.Goals as goal

pub prove-unreachable-requires : goal.prove-unreachable-requires
prove-unreachable-requires c =
    let m : c.self.inside.newest.above ≤ c.last.result = rises_le _ _ _ c.last.ensures.rises in
    omega (arith, m, c.above.ensures, c.if-prove.true)

pub overflow_add-result : goal.overflow_add-result
overflow_add-result c =
    let v = c.self.inside in
    let a : v.floor + length v.items.items ≤ v.newest.above = rises_count v.floor v.newest.above v.items.items c.self.invariant.sound.items in
    let b : v.newest.above + length v.newest.items ≤ c.last.result = rises_count v.newest.above c.last.result v.newest.items c.last.ensures.rises in
    omega (arith, a, b, c.last.type_inv, c.len.ensures, c.len-2.ensures)
