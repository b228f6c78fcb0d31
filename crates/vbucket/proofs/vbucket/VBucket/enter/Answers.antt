use Rattle.vbucket.proofs.Steadying.{queued_steady}
use Rattle.vbucket.proofs.vbucket.VBucket.enter.Goals as goal

pub invariant_of-self-2 : goal.invariant_of-self-2
invariant_of-self-2 c = queued_steady c.self.inside.role c.self.inside.position.at c.self.inside.list c.self.inside.streams.items c.args.origin c.args.change c.put.new.list c.args.position.at c.self.invariant c.in_ok-changes.ensures.list c.requires.at
