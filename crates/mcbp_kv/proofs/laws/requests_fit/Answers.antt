use Rattle.mcbp_kv.proofs.Commands.{read_fits, timeouts_fit}
use Rattle.mcbp_kv.proofs.laws.requests_fit.Goals as goal

pub returns-clause-parts : goal.returns-clause-parts
returns-clause-parts c = read_fits

pub returns-clause-timeouts : goal.returns-clause-timeouts
returns-clause-timeouts c = timeouts_fit
