use Rattle.std.proofs.Common.{subst, Some, None}
use Rattle.node_world.specs.Bases.{IsNext}
use Rattle.node_world.proofs.BasePairs.{none_next, one_next}
use Rattle.node_world.proofs.bases.Bases.next.Goals as goal

pub returns-in-Some : goal.returns-in-Some
returns-in-Some c =
    let in_range = c.range.ensures.in_range tt in
    subst (λ bases. IsNext c.args.base c.args.from c.args.end bases (Some c.in-Some.pair.now.1)) c.self.view_is
    (one_next c.self.inside.of c.self.inside.pairs c.args.base c.args.from c.args.end c.range.result c.self.invariant in_range c.in-Some.pair.now c.next.new.self c.in-Some.ensures.steps)

pub returns-in-None : goal.returns-in-None
returns-in-None c =
    subst (λ bases. IsNext c.args.base c.args.from c.args.end bases None) c.self.view_is
    (none_next c.self.inside.of c.self.inside.pairs c.args.base c.args.from c.args.end c.range.result c.self.invariant (c.range.ensures.in_range tt) c.in-None.ensures.steps.0)
