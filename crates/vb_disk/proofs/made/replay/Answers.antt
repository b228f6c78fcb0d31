use Rattle.std.proofs.Common.{arith}
use Rattle.vb_disk.proofs.Crashed.{ran_room, can_be_redone}
use Rattle.vb_disk.proofs.made.replay.Goals as goal

pub push_reserved-requires : goal.push_reserved-requires
push_reserved-requires c = omega (arith, c.clear.ensures.len, c.clear.ensures.capacity, ran_room _ _ c.requires)

pub redo-requires : goal.redo-requires
redo-requires c = can_be_redone _ _ c.args.past.now c.loop-made.made-index c.made-item.result _ c.loop-made-test.true c.made-item.is c.requires (omega (arith, c.loop-made.invariant.capacity, c.push_reserved.ensures.capacity, c.clear.ensures.capacity)) c.loop-made.invariant.items
