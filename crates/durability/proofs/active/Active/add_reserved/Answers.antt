use Rattle.std.proofs.Common.{◌++◌, List, take, drop, ap, ◌∙◌, arith}
use Rattle.std.specs.Prelude.{suc}
use Rattle.durability.specs.declared.waiting.Waiting.{Waiting}
use Rattle.durability.specs.Outstanding.{Known}
use Rattle.durability.proofs.Rising.{put_back}
use Rattle.durability.proofs.active.Active.add_reserved.Goals as goal

pub returns-clause-others : goal.returns-clause-others
returns-clause-others c =
    let at = c.place_for-at.result in
    let ws : List Waiting = c.self.inside.waiting.items in
    ap (λ xs. take at xs ++ drop (suc at) xs) c.put_at.ensures.items ∙ put_back at c.args.prepare ws (omega arith) ∙ ap (λ (k : Known). k.waiting) c.self.view_is
