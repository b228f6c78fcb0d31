use Rattle.std.proofs.Common.{ap, sym, subst, ◌∙◌}
use Rattle.std.proofs.lemmas.Result.{IfOk-weaker}
use Rattle.durability.specs.Outstanding.{late}
use Rattle.vbucket.specs.Kept.{Kept}
use Rattle.vbucket.specs.Settling.{no_plan}
use Rattle.vbucket.specs.Plans.{IsRising}
use Rattle.vbucket.proofs.Planning.{rising_aborts, rising_commits, rising_none}
use Rattle.vbucket.proofs.vbucket.VBucket.late_plan.Goals as goal

pub returns-clause-rises : goal.returns-clause-rises
returns-clause-rises c =
    let low = c.args.self.now.rest.position.at in
    let first : IsRising low c.new-plan.result = subst (IsRising low) (sym (c.new-plan.ensures ∙ ap (λ (k : Kept). no_plan k.rest.position.at) c.self.view_is)) (rising_none low) in
    let given : IsRising low c.give_up.new.plan = subst (IsRising low) (sym (ap (λ s. s.0) c.in_ok-give_up.ensures.plan)) (rising_aborts low (late c.args.clock c.args.self.now.rest.waiting) (c.new-plan.result, c.in_ok-left.left.waiting) first) in
    IfOk-weaker c.with_ready.result _ (IsRising low) (λ plan is. subst (IsRising low) (sym is) (rising_commits low _ _ _ c.give_up.new.plan given)) c.with_ready.ensures
