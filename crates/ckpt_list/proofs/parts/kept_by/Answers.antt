use Rattle.std.proofs.Common.{◌≡◌, ℕ, leb, length, take, ap, ◌∙◌, arith, rules}
use Rattle.std.proofs.lemmas.List.Sorted.{IsPartitionPoint-from_clause, IsPartitionedBy-leb}
use Rattle.ckpt_list.proofs.Climbs.{kept_own, kept_received}
use Rattle.ckpt_list.proofs.parts.kept_by.Goals as goal

pub returns-in-Own-clause-kept : goal.returns-in-Own-clause-kept
returns-in-Own-clause-kept c =
    let whole : c.len.result ≡ length c.args.ends.now.items = omega (arith, c.len.ensures, c.args.ends.now.ok) in
    ap (λ k. take k c.args.ends.now.items) whole ∙ kept_own c.args.span.now.last c.args.span.now.origin c.args.ends.now.items c.in-Own.is

pub returns-in-Received-clause-kept : goal.returns-in-Received-clause-kept
returns-in-Received-clause-kept c =
    let parted = IsPartitionedBy-leb (λ (e : ℕ). e) _ c.in-Received.ss c.requires.rise in
    kept_received c.args.span.now.last c.in-Received.ss c.in-Received.se c.args.span.now.origin c.args.ends.now.items _ c.in-Received.is c.requires.below
    (IsPartitionPoint-from_clause (λ (e : ℕ). leb e c.in-Received.ss) _ _ c.partition_point.ensures.partitioned parted (λ a r q k. search rules))
