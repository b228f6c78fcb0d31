use Rattle.std.proofs.Common.{ap, true, Some}
use Rattle.std.specs.Option.{option_map}
use Rattle.vb_calls.specs.Flushes.{role_job}
use Rattle.vb_calls.specs.Shelves.{blank_shelf}
use Rattle.vb_calls.specs.State.{Plain}
use Rattle.vb_disk.specs.declared.fuse.Fuse.TheVariants.{Fail}
use Rattle.node_core.proofs.LoadNumbers.{one_over, none_left}
use Rattle.node_core.proofs.load_laws.failed_starts_in_numbers.Goals as goal

pub returns-clause-disk : goal.returns-clause-disk
unfolding role_job
returns-clause-disk c = ap (λ ws. (one_over (λ v. Some (record blank_shelf { fuse = Fail 1 })) ws).1) none_left

pub returns-clause-closed : goal.returns-clause-closed
unfolding role_job
returns-clause-closed c = ap (λ ws. (one_over (λ v. Some (record blank_shelf { is_closed = true })) ws).1) none_left

pub returns-clause-active : goal.returns-clause-active
unfolding role_job
returns-clause-active c = ap (λ ws. option_map (λ (vb : Plain). vb.role) ((one_over (λ v. Some (record blank_shelf { fuse = Fail 1 })) ws).0.0 0)) none_left
