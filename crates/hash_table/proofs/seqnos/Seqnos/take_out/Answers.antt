use Rattle.std.proofs.Common.{ap, arith}
use Rattle.hash_table.specs.Seqnos.{Ranked}
use Rattle.hash_table.proofs.Ranks.{one_out}
use Rattle.hash_table.proofs.seqnos.Seqnos.take_out.Goals as goal

pub invariant_of-self : goal.invariant_of-self
invariant_of-self c =
    let parts = c.count_up_to-behind.ensures in
    (one_out c.self.inside.numbers.items c.args.self.now.list c.remove.new.self.items c.args.seq c.count_up_to-behind.result (ap (λ (s : Ranked). s.list) c.self.view_is) parts.parted parts.within c.requires c.self.invariant
    (λ h. rw (c.remove.ensures.succeeds 0 (omega (arith, h, c.self.inside.numbers.ok.0))) at c.remove.ensures.items)).0

pub returns-clause-list : goal.returns-clause-list
returns-clause-list c =
    let parts = c.count_up_to-behind.ensures in
    (one_out c.self.inside.numbers.items c.args.self.now.list c.remove.new.self.items c.args.seq c.count_up_to-behind.result (ap (λ (s : Ranked). s.list) c.self.view_is) parts.parted parts.within c.requires c.self.invariant
    (λ h. rw (c.remove.ensures.succeeds 0 (omega (arith, h, c.self.inside.numbers.ok.0))) at c.remove.ensures.items)).1
