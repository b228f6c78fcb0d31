use Rattle.vbucket.proofs.Batching.{saves}
use Rattle.vbucket.proofs.laws.receipts_are_counted.Goals as goal

pub returns : goal.returns
returns c = saves
