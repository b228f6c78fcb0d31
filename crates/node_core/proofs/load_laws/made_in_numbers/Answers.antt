use Rattle.std.proofs.Common.{◌∷◌, [], ap}
use Rattle.vb_calls.specs.Flushes.{role_job}
use Rattle.node_core.specs.LoadRows.{made_only}
use Rattle.node_core.proofs.LoadNumbers.{one_start, none_left}
use Rattle.node_core.proofs.load_laws.made_in_numbers.Goals as goal

pub returns-clause-told : goal.returns-clause-told
unfolding role_job
returns-clause-told c = ap (λ ws. (one_start made_only 22 ws).1 ∷ []) none_left

pub returns-clause-journal : goal.returns-clause-journal
unfolding role_job
returns-clause-journal c = ap (λ ws. (one_start made_only 22 ws).0.1 0) none_left
