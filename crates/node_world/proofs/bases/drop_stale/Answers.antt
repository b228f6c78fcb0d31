use Rattle.std.proofs.Common.{sym, ◌∙◌}
use Rattle.node_world.proofs.BasePairs.{kept_but}
use Rattle.node_world.proofs.bases.drop_stale.Goals as goal

pub returns-then-before-base : goal.returns-then-before-base
returns-then-before-base c = λ d b same has.
    kept_but c.args.pairs.now c.remove.new.self c.in-Some.before c.args.client b d c.remove.ensures.updates (λ mine is. c.if-before-base.true (sym is ∙ same mine)) has
