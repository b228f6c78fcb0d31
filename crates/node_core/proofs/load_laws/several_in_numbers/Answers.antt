use Rattle.std.proofs.Common.{ap}
use Rattle.vb_calls.specs.Flushes.{role_job}
use Rattle.node_core.proofs.LoadNumbers.{two_starts, none_left}
use Rattle.node_core.proofs.load_laws.several_in_numbers.Goals as goal

pub returns-clause-told : goal.returns-clause-told
unfolding role_job
returns-clause-told c = ap (λ ws. (two_starts ws).told) none_left
