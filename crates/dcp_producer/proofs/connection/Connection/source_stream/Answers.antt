use Rattle.dcp_producer.proofs.Kept.{kept_sourced}
use Rattle.dcp_producer.proofs.connection.Connection.source_stream.Goals as goal

pub invariant_of-self : goal.invariant_of-self
invariant_of-self c =
    rw c.source_each.ensures (kept_sourced c.self.inside.desk.base c.self.inside.asked c.args.from c.args.id c.self.inside.streams.items c.self.inside.ring c.self.invariant)
