use Rattle.std.proofs.Common.{subst, rules, leb}
use Rattle.std.proofs.lemmas.List.Sorted.{IsPartitionPoint-from_clause, IsPartitionedBy-leb}
use Rattle.hash_table.specs.Seqnos.{Ranked}
use Rattle.hash_table.proofs.Ranks.{Behind, behind}
use Rattle.hash_table.proofs.seqnos.Seqnos.count_up_to.Goals as goal

pub returns-clause-parted : goal.returns-clause-parted
returns-clause-parted c =
    let parted = IsPartitionedBy-leb (λ n. n) _ c.args.seq c.self.invariant in
    let point = IsPartitionPoint-from_clause (λ n. leb n c.args.seq) _ _ c.partition_point.ensures.partitioned parted (λ a r q k. search rules) in
    subst (λ (s : Ranked). Behind s.list c.args.seq c.partition_point.result) c.self.view_is (behind c.self.inside.numbers.items c.args.seq c.partition_point.result point)
