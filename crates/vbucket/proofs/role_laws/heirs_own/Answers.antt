use Rattle.vbucket.proofs.Takeovers.{heirs_own}
use Rattle.vbucket.proofs.role_laws.heirs_own.Goals as goal

pub returns : goal.returns
returns c = heirs_own
