use Rattle.dcp_producer.proofs.Persisting.{kept_persist}
use Rattle.dcp_producer.proofs.connection.Connection.give_all.Goals as goal

pub invariant_of-self : goal.invariant_of-self
invariant_of-self g c =
    kept_persist c.self.inside.desk.base c.self.inside.asked c.self.inside.streams.items c.give_each.new.streams.items c.self.inside.ring c.give_each.ensures.same c.self.invariant

pub invariant_of-self-2 : goal.invariant_of-self-2
invariant_of-self-2 g c =
    kept_persist c.self.inside.desk.base c.self.inside.asked c.self.inside.streams.items c.give_each.new.streams.items c.self.inside.ring c.give_each.ensures.same c.self.invariant
