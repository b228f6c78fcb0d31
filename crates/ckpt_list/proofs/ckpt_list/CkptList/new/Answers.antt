use Rattle.std.proofs.Common.{ap, ◌∙◌}
use Rattle.vb_calls.specs.declared.span.Origin.TheVariants.{Own}
use Rattle.cursor_set.specs.Cursors.{registered}
use Rattle.ckpt_list.proofs.Seals.{empty_stands, view_at, registered_first}
use Rattle.ckpt_list.proofs.ckpt_list.CkptList.new.Goals as goal

pub invariant_of-result : goal.invariant_of-result
invariant_of-result c =
    empty_stands _ _ _ _ c.args.at Own _ c.new.ensures.items c.new-2.ensures.items c.new-3.ensures
    (c.in_ok-register.ensures.ok ∙ ap (λ places. registered places 0 c.args.at) c.new-cursors.ensures ∙ registered_first c.args.at) c.new-4.ensures.items

pub returns : goal.returns
returns c =
    view_at _ _ _ _ c.args.at Own c.new.ensures.items c.new-2.ensures.items c.new-3.ensures
    (c.in_ok-register.ensures.ok ∙ ap (λ places. registered places 0 c.args.at) c.new-cursors.ensures ∙ registered_first c.args.at)
