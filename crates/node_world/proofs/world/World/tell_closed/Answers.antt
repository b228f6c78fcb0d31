use Rattle.std.proofs.Common.{arith}
use Rattle.node_world.specs.Power.{closed_line}
use Rattle.node_world.proofs.Dropping.{lines_all, lines_more}
use Rattle.node_world.proofs.world.World.tell_closed.Goals as goal

pub loop-client-preserved : goal.loop-client-preserved
loop-client-preserved c = record {
  within = grind (arith, c.loop-client-test.true);
  told = λ w stands. lines_more (closed_line c.args.node (w.nodes c.args.node)) c.args.events.now c.loop-client.events c.tell_close.new.events c.loop-client.client (c.loop-client.invariant.told w stands) (c.in_ok-tell_close.ensures w stands);
}

pub returns : goal.returns
returns c = λ w stands. lines_all (closed_line c.args.node (w.nodes c.args.node)) c.args.events.now c.loop-client.events c.loop-client.client (grind (arith, c.loop-client-test.false, c.loop-client.invariant.within)) (c.loop-client.invariant.told w stands)
