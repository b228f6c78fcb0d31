use Rattle.std.proofs.Common.{rules, ltb, arith, drop, sym, ap, ◌∙◌, subst, ◌<◌, ◌≡◌}
use Rattle.std.specs.List.{list_any}
use Rattle.std.specs.VecDeque.Iter.{deque_iter_rest}
use Rattle.std.proofs.lemmas.List.{length-drop, take_all}
use Rattle.std.proofs.lemmas.List.Sorted.{IsPartitionPoint-from_clause, IsPartitionedBy-ltb}
use Rattle.durability.specs.Outstanding.{Rises}
use Rattle.durability.proofs.Rising.{left_at, left_behind, no_left_above, rises_by}
use Rattle.durability.proofs.order.holds_left.Goals as goal

pub loop-prepare-init : goal.loop-prepare-init
loop-prepare-init c =
    let ws = c.args.waiting.now.items in
    let q = c.args.seq in
    let from = c.partition_point-from.result in
    let e = length-drop from ws in
    let begun = left_behind q from ws c.requires (omega arith)
    (IsPartitionPoint-from_clause (λ w. ltb w.seq q) ws _ c.partition_point-from.ensures.partitioned (IsPartitionedBy-ltb (λ w. w.seq) ws q (rises_by 0 ws c.requires)) (λ a r q k. search rules)) in
    let rest : deque_iter_rest c.into_iter-prepare-iterator.result ≡ drop from ws =
    ap deque_iter_rest c.into_iter-prepare-iterator.ensures.into_iter_gives ∙ c.range-prepare-items.ensures.rest ∙ take_all _ (drop from ws) (omega arith) in
    record { same = ap (list_any (left_at q)) rest ∙ begun.0; rises = subst (Rises q) (sym rest) begun.1 }

pub returns-then-prepare-seq : goal.returns-then-prepare-seq
returns-then-prepare-seq c =
    let q = c.args.seq in
    let first = c.in-Some.prepare.now in
    let k = c.loop-prepare.invariant in
    let r = subst (Rises q) c.in-Some.ensures.steps k.rises in
    let l : q < first.seq = omega (arith, r.0, c.if-prepare-seq.true) in
    sym (no_left_above q first _ l r.1) ∙ ap (list_any (left_at q)) (sym c.in-Some.ensures.steps) ∙ k.same
