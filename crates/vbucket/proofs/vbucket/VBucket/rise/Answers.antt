use Rattle.std.proofs.Common.{ℕ, refl, sym, subst, arith}
use Rattle.vbucket.specs.Promoting.{lead_plan}
use Rattle.vbucket.specs.Plans.{IsRising}
use Rattle.vbucket.proofs.Planning.{parts_above, rising_commits}
use Rattle.vbucket.proofs.vbucket.VBucket.rise.Goals as goal

pub lead-requires : goal.lead-requires
lead-requires c =
    let low : ℕ = c.args.self.now.rest.position.at in
    let none : IsRising low (lead_plan c.args.self.now.rest) = record { rises = omega arith; durable = refl } in
    let is : IsRising low c.in_ok-plan.plan = subst (IsRising low) (sym c.in_ok-plan.ensures) (rising_commits low _ _ _ (lead_plan c.args.self.now.rest) none) in
    parts_above low c.in_ok-plan.plan.at c.in_ok-plan.plan.changes is.rises is.durable
