use Rattle.std.proofs.Common.{rules, leb, arith}
use Rattle.std.proofs.lemmas.List.Sorted.{IsPartitionPoint-from_clause, IsPartitionedBy-leb}
use Rattle.durability.proofs.Rising.{goes_there, rises_by, rises_placed}
use Rattle.durability.proofs.order.place_for.Goals as goal

pub returns-clause-placed : goal.returns-clause-placed
returns-clause-placed c =
    let ws = c.args.waiting.now.items in
    let p = c.args.prepare.now in
    goes_there p c.partition_point.result ws (omega arith)
    (IsPartitionPoint-from_clause (λ w. leb w.seq p.seq) ws _ c.partition_point.ensures.partitioned (IsPartitionedBy-leb (λ w. w.seq) ws p.seq (rises_by 0 ws c.requires)) (λ a r q k. search rules))

pub returns-clause-rises : goal.returns-clause-rises
returns-clause-rises c = rises_placed 0 c.args.prepare.now c.args.waiting.now.items (omega arith) c.requires
