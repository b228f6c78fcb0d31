use Rattle.std.proofs.Common.{◌≡◌, ◌++◌, take, ap, sym, ◌∙◌, append_assoc, append-nil}
use Rattle.std.specs.Prelude.{Some}
use Rattle.std.specs.Option.{option_to_list}
use Rattle.checkpoint.specs.Runs.{changes_there}
use Rattle.checkpoint.proofs.Runs.{next_there}
use Rattle.checkpoint.proofs.run.Run.copy_after.Goals as goal
use Rattle.checkpoint.proofs.run.Run.copy_after.Goals.{in-Some+in_ok-copy+in_ok-push, in_default}

pub loop-change-preserved : goal.loop-change-preserved
loop-change-preserved c =
    let es = c.later-change-items.result.now in
    let i = c.loop-change.change-index in
    let so_far = changes_there (take i es) in
    let next = next_there i es c.loop-change-item.result c.loop-change-test.true c.loop-change-item.is in
    let pushed : c.match-change.items ≡ c.loop-change.items ++ option_to_list c.loop-change-item.result.1 = elim c.match-change.branch [
      | in-Some+in_ok-copy+in_ok-push w ↦ w.items-is ∙ w.in_ok-push.ensures.ok ∙ ap (λ d. c.loop-change.items ++ option_to_list d) (ap Some w.in_ok-copy.ensures ∙ sym w.in-Some.is)
      | in_default w ↦ w.items-is ∙ sym (append-nil c.loop-change.items) ∙ ap (λ d. c.loop-change.items ++ option_to_list d) (sym w.in_default.is)
    ] in
    pushed ∙ ap (λ xs. xs ++ option_to_list c.loop-change-item.result.1) c.loop-change.invariant ∙ append_assoc c.args.items.now so_far (option_to_list c.loop-change-item.result.1)
    ∙ ap (λ xs. c.args.items.now ++ xs) (sym next)
