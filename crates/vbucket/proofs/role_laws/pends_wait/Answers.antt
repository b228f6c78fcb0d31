use Rattle.vbucket.proofs.Takeovers.{pends_wait}
use Rattle.vbucket.proofs.role_laws.pends_wait.Goals as goal

pub returns : goal.returns
returns c = pends_wait
