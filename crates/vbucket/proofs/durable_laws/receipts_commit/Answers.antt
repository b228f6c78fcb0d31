use Rattle.vbucket.proofs.Telling.{receipts_commit}
use Rattle.vbucket.proofs.durable_laws.receipts_commit.Goals as goal

pub returns : goal.returns
returns c = receipts_commit
