use Rattle.std.proofs.Common.{rules, ap, ◌∙◌}
use Rattle.std.specs.FinMap as map
use Rattle.std.specs.Ordering.{is_lt}
use Rattle.std.specs.Cmp.Lexicographic.{nat_list_cmp_total}
use Rattle.std.proofs.lemmas.List.Sorted.{answers_always, ranks_by}
use Rattle.vb_types.specs.Keys.{key_cmp}
use Rattle.hash_table.proofs.Orders.{in_order}
use Rattle.hash_table.proofs.hashed.Hashed.in_order.Goals as goal

pub returns : goal.returns
returns g c =
    in_order (λ p. (p.0.now, p.1.now)) c.in_ok-pairs.pairs.items c.sort_by.new.self.items c.self.inside.table.entries c.in_ok-pairs.ensures.pairs c.pairs_of.ensures.unique c.sort_by.ensures.permutation
    (c.in_ok-sort_by.ensures.sorted (λ p q. is_lt (key_cmp p.0.now q.0.now)) (ranks_by nat_list_cmp_total (λ p. p.0.now)) (answers_always _ _ _ (λ f a r q k. search rules)))
    ∙ ap (λ m. map.entries m.map) c.self.view_is
