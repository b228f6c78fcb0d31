use Rattle.std.proofs.Common.{◌∷◌, [], ap}
use Rattle.std.specs.Option.{option_map}
use Rattle.vb_calls.specs.Flushes.{role_job}
use Rattle.vb_calls.specs.State.{Plain}
use Rattle.node_core.specs.LoadRows.{saved_to_6}
use Rattle.node_core.proofs.LoadNumbers.{one_start, none_left}
use Rattle.node_core.proofs.load_laws.saved_in_numbers.Goals as goal

pub returns-clause-told : goal.returns-clause-told
unfolding role_job
returns-clause-told c = ap (λ ws. (one_start saved_to_6 33 ws).1 ∷ []) none_left

pub returns-clause-role : goal.returns-clause-role
unfolding role_job
returns-clause-role c = ap (λ ws. option_map (λ (vb : Plain). vb.role) ((one_start saved_to_6 33 ws).0.0 0)) none_left

pub returns-clause-log : goal.returns-clause-log
unfolding role_job
returns-clause-log c = ap (λ ws. option_map (λ (vb : Plain). vb.log) ((one_start saved_to_6 33 ws).0.0 0)) none_left

pub returns-clause-position : goal.returns-clause-position
unfolding role_job
returns-clause-position c = ap (λ ws. option_map (λ (vb : Plain). vb.position) ((one_start saved_to_6 33 ws).0.0 0)) none_left

pub returns-clause-saved : goal.returns-clause-saved
unfolding role_job
returns-clause-saved c = ap (λ ws. option_map (λ (vb : Plain). vb.saved) ((one_start saved_to_6 33 ws).0.0 0)) none_left

pub returns-clause-floor : goal.returns-clause-floor
unfolding role_job
returns-clause-floor c = ap (λ ws. option_map (λ (vb : Plain). vb.floor) ((one_start saved_to_6 33 ws).0.0 0)) none_left

pub returns-clause-journal : goal.returns-clause-journal
unfolding role_job
returns-clause-journal c = ap (λ ws. (one_start saved_to_6 33 ws).0.1 0) none_left
