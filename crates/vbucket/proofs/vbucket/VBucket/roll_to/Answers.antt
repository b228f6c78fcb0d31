use Rattle.std.proofs.Common.{ap, sym, ◌∙◌}
use Rattle.vb_types.specs.declared.position.Position.{Position}
use Rattle.vbucket.proofs.Steadying.{rolled_steady}
use Rattle.vbucket.proofs.vbucket.VBucket.roll_to.Goals as goal

pub invariant_of-self : goal.invariant_of-self
invariant_of-self c =
    let v = c.self.inside in
    rolled_steady v.role v.position.at v.list v.streams.items c.reset.new.self c.args.at c.complete_at-self-inside.result.at v.list.newest.origin c.self.invariant (sym c.follows.ensures ∙ c.if-not-follows.false) c.reset.ensures
    (ap (λ (p : Position). p.at) c.complete_at-self-inside.ensures)
