use Rattle.std.proofs.Common.{leb, rules}
use Rattle.std.proofs.lemmas.List.Sorted.{IsPartitionPoint-from_clause, IsPartitionedBy-leb}
use Rattle.vb_types.specs.declared.change.Change.{Change}
use Rattle.ckpt_list.proofs.Climbs.{cut_at}
use Rattle.ckpt_list.proofs.parts.count_to.Goals as goal

pub returns-clause-front : goal.returns-clause-front
returns-clause-front c =
    let parted = IsPartitionedBy-leb (λ (p : Change). p.seq) _ c.args.n c.requires in
    (cut_at (λ (p : Change). p.seq) c.args.n _ _ (IsPartitionPoint-from_clause (λ (p : Change). leb p.seq c.args.n) _ _ c.partition_point.ensures.partitioned parted (λ a r q k. search rules))).0

pub returns-clause-back : goal.returns-clause-back
returns-clause-back c =
    let parted = IsPartitionedBy-leb (λ (p : Change). p.seq) _ c.args.n c.requires in
    (cut_at (λ (p : Change). p.seq) c.args.n _ _ (IsPartitionPoint-from_clause (λ (p : Change). leb p.seq c.args.n) _ _ c.partition_point.ensures.partitioned parted (λ a r q k. search rules))).1
