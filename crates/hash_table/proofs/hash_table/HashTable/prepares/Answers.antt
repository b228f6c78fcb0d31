use Rattle.std.proofs.Common.{rules, ℕ, List, [], ◌++◌, map, ap, ◌∙◌}
use Rattle.std.specs.List.{fold}
use Rattle.std.proofs.lemmas.List.Sorted.{IsNonDecreasingBy-from_sort_by_key, answers_always}
use Rattle.vb_types.specs.declared.change.Pend.{Pend}
use Rattle.hash_table.specs.Tables.{Table, by_seqnos, placed}
use Rattle.hash_table.proofs.Placing.{stably_sorted}
use Rattle.hash_table.proofs.hash_table.HashTable.prepares.Goals as goal

pub returns : goal.returns
returns c =
    let shown : List (List ℕ × Pend) = map (λ p. (p.0.now, p.1.now)) c.deref.result.now in
    c.in_ok-copy_pends.ensures
    ∙ ap (λ (es : List (List ℕ × Pend)). es ++ shown) c.in_ok-prepares.ensures.items
    ∙ ap (map (λ p. (p.0.now, p.1.now))) c.deref.ensures.value
    ∙ stably_sorted (λ (e : List ℕ × Pend). e.1.seq) (λ p. (p.0.now, p.1.now)) c.in_ok-pends.pends.items c.sort_by_key.new.self.items
    (IsNonDecreasingBy-from_sort_by_key (λ p. p.1.now.seq) _ c.in_ok-sort_by_key.ensures.sorted (λ a r q k. search rules))
    (c.sort_by_key.ensures.stable (λ p. p.1.now.seq) (answers_always _ _ _ (λ f a r q k. search rules)))
    ∙ ap (fold placed []) c.in_ok-pends.ensures
    ∙ ap (λ (t : Table). by_seqnos t.image.pending) c.self.view_is
