use Rattle.std.proofs.Common.{◌≡◌, ℕ, false, leb, sym, ◌∙◌}
use Rattle.ckpt_list.specs.Trims.{is_first}
use Rattle.vb_types.specs.declared.change.Change.{Change}
use Rattle.ckpt_list.proofs.Sheds.{shed_all}
use Rattle.ckpt_list.proofs.trims.shed_items.Goals as goal

pub returns : goal.returns
returns c =
    let stays : is_first (λ (x : Change). leb x.seq c.args.to) c.loop-items.items.items ≡ false = sym c.starts_to.ensures ∙ c.loop-items-test.false in
    shed_all (λ (x : Change). x.seq) c.args.to c.loop-items.items.items stays c.loop-items.invariant.sorted ∙ c.loop-items.invariant.same
