use Rattle.vb_calls.specs.declared.span.Span.{Span}
use Rattle.std.proofs.Common.{◌<◌, length, leb, rules, arith, ap, sym, ◌∙◌}
use Rattle.std.specs.Prelude.{Some}
use Rattle.std.proofs.lemmas.List.Sorted.{IsPartitionPoint-from_clause, IsPartitionedBy-leb}
use Rattle.std.proofs.lemmas.Option.{slice_get-get_or, slice_get_past}
use Rattle.ckpt_list.proofs.Climbs.{cut_at}
use Rattle.ckpt_list.proofs.parts.end_above.Goals as goal

pub returns-then-at-len : goal.returns-then-at-len
returns-then-at-len c =
    let parted = IsPartitionedBy-leb (λ (e : Span). e.last) _ c.args.n c.requires in
    let cut = (cut_at (λ (e : Span). e.last) c.args.n _ _ (IsPartitionPoint-from_clause (λ (e : Span). leb e.last c.args.n) _ _ c.partition_point-at.ensures.partitioned parted (λ a r q k. search rules))).2 in
    let inside : c.partition_point-at.result < length c.args.spans.now.items = omega (arith, c.if-at-len.true, c.len.ensures, c.args.spans.now.ok) in
    ap Some c.index.ensures ∙ sym (slice_get-get_or _ _ _ inside) ∙ cut

pub returns-else-at-len : goal.returns-else-at-len
returns-else-at-len c =
    let parted = IsPartitionedBy-leb (λ (e : Span). e.last) _ c.args.n c.requires in
    let cut = (cut_at (λ (e : Span). e.last) c.args.n _ _ (IsPartitionPoint-from_clause (λ (e : Span). leb e.last c.args.n) _ _ c.partition_point-at.ensures.partitioned parted (λ a r q k. search rules))).2 in
    sym (slice_get_past c.args.spans.now.items _ (omega (arith, c.if-at-len.false, c.len.ensures, c.args.spans.now.ok))) ∙ cut
