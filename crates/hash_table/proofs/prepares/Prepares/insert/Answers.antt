use Rattle.std.proofs.Common.{◌≡◌, ◌++◌, true, sym, ap, ◌∙◌, subst}
use Rattle.std.specs.Prelude.{None}
use Rattle.std.specs.FinMap as finite
use Rattle.std.specs.List.Sorted.{IsPermutation}
use Rattle.hash_table.specs.Seqnos.{AreSeqnos, one_if}
use Rattle.vb_types.specs.Levels.{is_third}
use Rattle.hash_table.proofs.Counts.{none_left, one_more, put_over}
use Rattle.hash_table.proofs.prepares.Prepares.insert.Goals as goal

pub invariant_of-self : goal.invariant_of-self
invariant_of-self c =
    let k = c.args.key in
    let m = c.self.inside.pends.map in
    let gone = ap (λ t. t.map) c.self.view_is ∙ c.remove.ensures.map in
    let none : finite.get m k ≡ None = ap (λ n. finite.get n k) gone ∙ none_left c.args.self.now.map k in
    let all = one_more (λ _. true) m k c.args.pend c.self.inside.seqnos.list c.put.new.self.list none c.self.invariant.0 c.put.ensures.list in
    let thirds =
    one_more (λ p. is_third p.level) m k c.args.pend c.self.inside.thirds.list c.put_if.new.self.list none c.self.invariant.1
    (subst (λ b. IsPermutation (one_if b c.args.pend.seq ++ c.self.inside.thirds.list) c.put_if.new.self.list) c.is_third.ensures c.put_if.ensures.list) in (
      subst (λ n. AreSeqnos (λ _. true) n c.put.new.self.list) (sym c.insert.ensures.map) all,
      subst (λ n. AreSeqnos (λ p. is_third p.level) n c.put_if.new.self.list) (sym c.insert.ensures.map) thirds,
    )

pub returns-clause-map : goal.returns-clause-map
returns-clause-map c =
    c.insert.ensures.map ∙ ap (λ m. finite.insert m c.args.key c.args.pend) (ap (λ t. t.map) c.self.view_is ∙ c.remove.ensures.map) ∙ put_over c.args.self.now.map c.args.key c.args.pend
