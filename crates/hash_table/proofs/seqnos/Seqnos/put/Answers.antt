use Rattle.std.proofs.Common.{◌∷◌, sym, subst}
use Rattle.std.specs.List.Sorted.{IsPermutation}
use Rattle.std.proofs.lemmas.List.Sorted.{IsPermutation-insert}
use Rattle.hash_table.specs.Seqnos.{Ranked}
use Rattle.hash_table.proofs.seqnos.Seqnos.put.Goals as goal

pub returns-clause-list : goal.returns-clause-list
returns-clause-list c =
    let items = rw c.unwrap.ensures at c.insert-placed.ensures.items in
    subst (λ (s : Ranked). IsPermutation (c.args.seq ∷ s.list) c.insert-placed.new.self.items) c.self.view_is
    (subst (IsPermutation (c.args.seq ∷ c.self.inside.numbers.items)) (sym items) (IsPermutation-insert c.self.inside.numbers.items c.count_up_to-at.result c.args.seq))
