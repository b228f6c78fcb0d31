use Rattle.dcp_producer.proofs.Kept.{kept_ended}
use Rattle.dcp_producer.proofs.connection.Connection.end_streams.Goals as goal

pub invariant_of-self : goal.invariant_of-self
invariant_of-self c =
    rw c.end_each.ensures (kept_ended c.self.inside.desk.base c.self.inside.asked c.args.vb c.args.ids.now c.self.inside.streams.items c.self.inside.ring c.self.invariant)
