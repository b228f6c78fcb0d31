use Rattle.dcp_producer.proofs.Kept.{kept_heard}
use Rattle.dcp_producer.proofs.connection.Connection.hear_answer.Goals as goal

pub invariant_of-self : goal.invariant_of-self
invariant_of-self c =
    rw c.hear_each.ensures (kept_heard c.self.inside.desk.base c.self.inside.asked c.args.opaque c.self.inside.streams.items c.self.inside.ring c.self.invariant)
