use Rattle.std.proofs.Common.{◌∙◌, ap, arith, length, List, subst}
use Rattle.node_world.specs.declared.link.Link.{Link}
use Rattle.node_world.specs.Stands.{Kept}
use Rattle.node_world.specs.Starts.{Cutting}
use Rattle.node_world.proofs.Dropping.{cut_begun, cut_done}
use Rattle.node_world.proofs.world.World.cut_links_of.Goals as goal

pub loop-turn-init : goal.loop-turn-init
loop-turn-init c = record {
  within = omega arith;
  cut = λ w stands. cut_begun c.args.n (length c.as_slice-count.result.now) c.args.self.now w (ap (λ (links : List Link). length links) c.as_slice-count.ensures.value ∙ ap (λ (k : Kept). length k.links) c.self.view_is) stands;
}

pub loop-turn-preserved : goal.loop-turn-preserved
loop-turn-preserved c = record {
  within = grind (arith, c.loop-turn-test.true);
  cut = λ w stands. c.in_ok-cut_first.ensures (length c.as_slice-count.result.now) c.loop-turn.turn w (grind (arith, c.loop-turn-test.true)) (c.loop-turn.invariant.cut w stands);
}

pub returns : goal.returns
returns c = λ w stands.
    cut_done c.args.n (length c.as_slice-count.result.now) c.loop-turn.self w
    (subst (λ turn. Cutting c.args.n (length c.as_slice-count.result.now) turn c.loop-turn.self w) (grind (arith, c.loop-turn-test.false, c.loop-turn.invariant.within)) (c.loop-turn.invariant.cut w stands))
