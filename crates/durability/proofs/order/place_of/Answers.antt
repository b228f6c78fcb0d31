use Rattle.std.proofs.Common.{rules, ltb, arith, ap, ◌∙◌}
use Rattle.std.proofs.lemmas.List.{get_or_default}
use Rattle.std.proofs.lemmas.List.Sorted.{IsPartitionPoint-from_clause, IsPartitionedBy-ltb}
use Rattle.durability.specs.declared.waiting.Waiting.{Waiting}
use Rattle.durability.proofs.Rising.{lacks_there, rises_by, rises_without, stands_there}
use Rattle.durability.proofs.order.place_of.Goals as goal
use Rattle.durability.proofs.order.place_of.Goals.{else-at-len-via-then-at-len+else-index-seq, else-at-len-via-else-at-len}

pub returns-then-index-seq-clause-first : goal.returns-then-index-seq-clause-first
returns-then-index-seq-clause-first c =
    let ws = c.args.waiting.now.items in
    let q = c.args.seq in
    let point = IsPartitionPoint-from_clause (λ w. ltb w.seq q) ws _ c.partition_point-at.ensures.partitioned (IsPartitionedBy-ltb (λ w. w.seq) ws q (rises_by 0 ws c.requires)) (λ a r q k. search rules) in
    stands_there q c.partition_point-at.result ws c.index.result.now c.requires point (omega arith) c.index.ensures c.if-index-seq.true

pub returns-then-index-seq-clause-rises : goal.returns-then-index-seq-clause-rises
returns-then-index-seq-clause-rises c = rises_without 0 c.args.seq c.args.waiting.now.items c.requires

pub returns-else-at-len-clause-first : goal.returns-else-at-len-clause-first
returns-else-at-len-clause-first c =
    let ws = c.args.waiting.now.items in
    let q = c.args.seq in
    let at = c.partition_point-at.result in
    let point = IsPartitionPoint-from_clause (λ w. ltb w.seq q) ws _ c.partition_point-at.ensures.partitioned (IsPartitionedBy-ltb (λ w. w.seq) ws q (rises_by 0 ws c.requires)) (λ a r q k. search rules) in
    lacks_there q at ws c.requires (omega arith) point
    (λ d l e. elim c.else-at-len.branch [
      | else-at-len-via-then-at-len+else-index-seq w ↦ w.if-index-seq.false (ap (λ (x : Waiting). x.seq) (w.index.ensures ∙ get_or_default ws at w.index.result.now d l) ∙ e)
      | else-at-len-via-else-at-len w ↦ absurd (omega (arith, w.if-at-len.false))
    ])

pub returns-else-at-len-clause-rises : goal.returns-else-at-len-clause-rises
returns-else-at-len-clause-rises c = rises_without 0 c.args.seq c.args.waiting.now.items c.requires
