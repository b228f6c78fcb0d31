use Rattle.std.proofs.Common.{arith}
use Rattle.node_world.specs.Power.{end_line}
use Rattle.node_world.proofs.Dropping.{lines_all, lines_more}
use Rattle.node_world.proofs.world.World.tell_ends.Goals as goal

pub loop-link-preserved : goal.loop-link-preserved
loop-link-preserved c = record {
  within = grind (arith, c.loop-link-test.true);
  told = λ w stands. lines_more (end_line c.args.n c.args.also w.links) c.args.events.now c.loop-link.events c.tell_end.new.events c.loop-link.link (c.loop-link.invariant.told w stands) (c.in_ok-tell_end.ensures w stands);
}

pub returns : goal.returns
returns c = λ w stands. lines_all (end_line c.args.n c.args.also w.links) c.args.events.now c.loop-link.events c.loop-link.link (grind (arith, c.loop-link-test.false, c.loop-link.invariant.within)) (c.loop-link.invariant.told w stands)
