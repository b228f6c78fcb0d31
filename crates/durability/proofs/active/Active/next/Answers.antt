use Rattle.std.proofs.Common.{rules, ◌≡◌, ◌≤◌, true, subst}
use Rattle.durability.specs.Chains.{named, has_enough}
use Rattle.durability.specs.Outstanding.{Known, acked}
use Rattle.durability.specs.Laws.{HasMajority}
use Rattle.durability.proofs.Counts.{differ_true, held_by}
use Rattle.durability.proofs.active.Active.next.Goals as goal

pub returns-in-Some-clause-held : goal.returns-in-Some-clause-held
returns-in-Some-clause-held c =
    let lowest = c.in-Some.lowest.now in
    let acks = c.self.inside.acks.items in
    let others = c.self.inside.others.items in
    let enough : has_enough (acked acks) others c.args.saved lowest ≡ true = search rules in
    subst (λ (k : Known). HasMajority k.others (λ m. lowest.seq ≤ acked k.acks m)) c.self.view_is
    (held_by (acked acks) others c.args.saved lowest (differ_true (named others) c.self.invariant.2) enough)
