use Rattle.std.proofs.Common.{List, sym, subst}
use Rattle.vb_types.specs.declared.change.Change.{Change}
use Rattle.vb_types.specs.Histories.{Rises}
use Rattle.checkpoint.specs.Checkpoints.{Ckpt, ckpt_last}
use Rattle.ckpt_list.specs.Windows.{ArePartsAbove}
use Rattle.ckpt_list.proofs.Queues.{Puts, puts_begin, puts_to}
use Rattle.ckpt_list.proofs.windows.put_all.Goals as goal

pub loop-change-init : goal.loop-change-init
loop-change-init c =
    let k : Ckpt = c.args.newest.now in
    let all : List Change = c.from-rest.result.items in
    subst (λ ws. Puts c.last-last.result k all (ws, k) all) (sym c.new-full.ensures.items)
    (puts_begin c.last-last.result k all (subst (λ n. Rises k.above n k.items) c.last-last.ensures.last c.last-last.ensures.rises) c.last-last.ensures.last (subst (ArePartsAbove (ckpt_last k)) (sym c.from-rest.ensures.0) c.requires))

pub loop-change-preserved : goal.loop-change-preserved
loop-change-preserved c =
    puts_to c.last-last.result c.args.newest.now c.from-rest.result.items (c.loop-change.full.items, c.loop-change.newest) (c.put_in_newest.new.full.items, c.put_in_newest.new.newest) c.in-Some.change
    c.loop-change.rest.items c.pop_front.new.self.items c.loop-change.invariant c.in-Some.ensures.items c.in_default-put_in_newest.ensures.ok
