use Rattle.std.proofs.Common.{sym, subst}
use Rattle.vbucket.specs.Plans.{IsRising}
use Rattle.vbucket.proofs.Planning.{rising_commits}
use Rattle.vbucket.proofs.vbucket.VBucket.settle.Goals as goal

pub carry_out-requires-clause-rises : goal.carry_out-requires-clause-rises
carry_out-requires-clause-rises c =
    let low = c.args.self.now.rest.position.at in
    let is : IsRising low c.in_ok-plan.plan = subst (IsRising low) (sym c.in_ok-plan.ensures) (rising_commits low _ _ _ c.args.plan (record { rises = c.requires.rises; durable = c.requires.durable })) in is.rises

pub carry_out-requires-clause-durable : goal.carry_out-requires-clause-durable
carry_out-requires-clause-durable c =
    let low = c.args.self.now.rest.position.at in
    let is : IsRising low c.in_ok-plan.plan = subst (IsRising low) (sym c.in_ok-plan.ensures) (rising_commits low _ _ _ c.args.plan (record { rises = c.requires.rises; durable = c.requires.durable })) in is.durable
