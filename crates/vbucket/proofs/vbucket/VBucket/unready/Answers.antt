use Rattle.std.proofs.Common.{rules}
use Rattle.vbucket.proofs.Adopting.{lacks_of}
use Rattle.vbucket.proofs.vbucket.VBucket.unready.Goals as goal

pub returns-then-lacks-clause-lacks : goal.returns-then-lacks-clause-lacks
returns-then-lacks-clause-lacks c = λ _. lacks_of c.args.self.now.rest.log c.args.uuid (search rules)
