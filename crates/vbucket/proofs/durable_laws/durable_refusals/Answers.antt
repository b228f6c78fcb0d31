use Rattle.vbucket.proofs.Durables.{refused}
use Rattle.vbucket.proofs.durable_laws.durable_refusals.Goals as goal

pub returns : goal.returns
returns c = refused
