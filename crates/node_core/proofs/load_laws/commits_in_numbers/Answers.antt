use Rattle.std.proofs.Common.{◌∷◌, [], ap, ◌∙◌, Some}
use Rattle.std.specs.Option.{option_map}
use Rattle.vb_calls.specs.Flushes.{role_job}
use Rattle.vb_calls.specs.State.{Plain, doc_at}
use Rattle.vb_types.specs.Images.{nothing}
use Rattle.vb_types.proofs.Laws.{get-insert_same}
use Rattle.node_core.specs.LoadRows.{doc_of_5}
use Rattle.node_core.proofs.LoadNumbers.{commits}
use Rattle.node_core.proofs.load_laws.commits_in_numbers.Goals as goal

pub returns-clause-told : goal.returns-clause-told
unfolding role_job
returns-clause-told c = commits (λ came. came.1 ∷ [])

pub returns-clause-waiting : goal.returns-clause-waiting
unfolding role_job
returns-clause-waiting c = commits (λ came. option_map (λ (vb : Plain). vb.waiting) (came.0.0 0))

pub returns-clause-place : goal.returns-clause-place
unfolding role_job
returns-clause-place c = commits (λ came. option_map (λ (vb : Plain). vb.position) (came.0.0 0))

pub returns-clause-saved : goal.returns-clause-saved
unfolding role_job
returns-clause-saved c = commits (λ came. option_map (λ (vb : Plain). vb.saved) (came.0.0 0))

pub returns-clause-shown : goal.returns-clause-shown
unfolding role_job
returns-clause-shown c = commits (λ came. option_map (λ (vb : Plain). doc_at vb (107 ∷ [])) (came.0.0 0)) ∙ ap Some (get-insert_same nothing.docs (107 ∷ []) doc_of_5)
