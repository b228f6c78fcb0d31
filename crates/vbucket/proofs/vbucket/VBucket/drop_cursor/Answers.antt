use Rattle.vbucket.proofs.Trimming.{dropped_steady}
use Rattle.vbucket.proofs.vbucket.VBucket.drop_cursor.Goals as goal

pub invariant_of-self : goal.invariant_of-self
invariant_of-self c =
    let v = c.self.inside in
    dropped_steady v.role v.position.at v.list v.streams.items c.drop_cursor.new.list c.drop_cursor.new.streams.items c.args.id c.self.invariant c.drop_cursor.ensures.list c.drop_cursor.ensures.fed c.drop_cursor.ensures.streams
