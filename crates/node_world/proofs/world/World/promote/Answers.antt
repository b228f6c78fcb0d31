use Rattle.node_world.proofs.OnNodes.{stands_in}
use Rattle.node_world.proofs.Promoting.{promoted_line}
use Rattle.node_world.proofs.world.World.promote.Goals as goal

pub returns : goal.returns
returns c = λ w stands rests.
    promoted_line c.set_role.new.self w c.args.n c.args.v c.args.uuid c.free-asked.result c.in_ok-told.told c.naming.result (c.free-asked.ensures w.uuids (stands_in c.args.self.now _ w c.self.view_is stands).ids)
    (c.in_ok-told.ensures w stands rests) c.naming.ensures
