use Rattle.vbucket.proofs.Telling.{quiet_ones}
use Rattle.vbucket.proofs.durable_laws.others_resolve_none.Goals as goal

pub returns : goal.returns
returns c = quiet_ones
