use Rattle.vbucket.proofs.Takeovers.{yields_keep_one}
use Rattle.vbucket.proofs.role_laws.yields_keep_one.Goals as goal

pub returns : goal.returns
returns c = yields_keep_one
