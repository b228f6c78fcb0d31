use Rattle.node_world.proofs.OnLinks.{own_left, own_none}
use Rattle.node_world.proofs.world.World.leave_own.Goals as goal

pub returns-in-Some : goal.returns-in-Some
returns-in-Some c = own_left c.args.self.now _ c.leave.new.self c.deref.result.now c.args.n c.args.v c.in-Some.at c.args.over c.own_place.result c.self.view_is c.deref.ensures.value c.own_place.ensures c.in-Some.is c.leave.ensures

pub returns-in_default : goal.returns-in_default
returns-in_default c = own_none c.args.self.now _ c.args.self.now c.deref.result.now c.args.n c.args.v c.args.over c.own_place.result c.self.view_is c.deref.ensures.value c.own_place.ensures c.in_default.is
