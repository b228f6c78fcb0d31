use Rattle.vbucket.proofs.Steadying.{closed_steady}
use Rattle.vbucket.proofs.vbucket.VBucket.close_stream.Goals as goal

pub invariant_of-self : goal.invariant_of-self
invariant_of-self c =
    let v = c.self.inside in
    closed_steady v.role v.position.at v.list v.streams.items c.close.new.list c.close.new.streams.items c.args.id c.self.invariant c.close.ensures.list c.close.ensures.fed c.close.ensures.streams
