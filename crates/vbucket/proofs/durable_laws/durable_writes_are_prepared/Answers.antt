use Rattle.vbucket.proofs.Durables.{durably_made}
use Rattle.vbucket.proofs.durable_laws.durable_writes_are_prepared.Goals as goal

pub returns : goal.returns
returns c = durably_made
