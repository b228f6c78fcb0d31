use Rattle.dcp_producer.proofs.Kept.{kept_less}
use Rattle.dcp_producer.proofs.connection.Connection.drop_stream.Goals as goal

pub invariant_of-self : goal.invariant_of-self
invariant_of-self c =
    rw (c.remove_stream.ensures, c.remove.ensures) (kept_less c.self.inside.desk.base c.self.inside.asked c.args.id c.self.inside.streams.items c.self.inside.ring c.self.invariant)
