use Rattle.std.proofs.Common.{sym, ap, ◌∙◌}
use Rattle.std.specs.FinMap as map
use Rattle.std.proofs.lemmas.Result.{IfOk-weaker}
use Rattle.vb_types.proofs.Finds.{entries-from_entries}
use Rattle.vb_types.proofs.keyed.Keyed.list.Goals as goal

pub returns : goal.returns
returns g c =
    let kept = entries-from_entries c.self.inside.tree.entries c.pairs_of.ensures.ordered in
    IfOk-weaker c.pairs_of.result _ _ (λ pairs h. h ∙ sym kept ∙ ap map.entries c.self.view_is) c.pairs_of.ensures.pairs
