use Rattle.node_world.specs.Power.{all_cut, closed_lines, end_lines}
use Rattle.node_world.proofs.Befalling.{both_lines}
use Rattle.node_world.proofs.world.World.power_off.Goals as goal

pub returns : goal.returns
returns c = λ w stands.
    let (cut, none) = c.in_ok-cut_links_of.ensures w stands in (
      c.drop_node.ensures (all_cut c.args.n w) cut none,
      both_lines c.args.events.now c.tell_ends.new.events c.tell_closed.new.events (end_lines c.args.n c.args.also w.links) (closed_lines c.args.n (w.nodes c.args.n)) (c.in_ok-tell_ends.ensures w stands) (c.in_ok-tell_closed.ensures w stands),
    )
