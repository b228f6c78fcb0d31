use Rattle.ckpt_list.proofs.Seals.{empty_stands}
use Rattle.ckpt_list.proofs.ckpt_list.CkptList.reset.Goals as goal

pub invariant_of-self : goal.invariant_of-self
invariant_of-self c =
    empty_stands _ _ _ _ c.args.at c.self.inside.newest.origin _ c.clear.ensures.items c.clear-2.ensures.items c.reset.ensures c.reset-2.ensures c.clear-3.ensures.items
