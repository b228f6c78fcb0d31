use Rattle.std.proofs.Common.{◌≡◌, ℕ, false, leb, sym, ◌∙◌}
use Rattle.ckpt_list.specs.Trims.{is_first}
use Rattle.ckpt_list.proofs.Sheds.{shed_all}
use Rattle.ckpt_list.proofs.trims.shed_ends.Goals as goal

pub returns : goal.returns
returns c =
    let stays : is_first (λ (x : ℕ). leb x c.args.to) c.loop-ends.ends.items ≡ false = sym c.ends_to.ensures ∙ c.loop-ends-test.false in
    shed_all (λ (x : ℕ). x) c.args.to c.loop-ends.ends.items stays c.loop-ends.invariant.sorted ∙ c.loop-ends.invariant.same
