use Rattle.std.proofs.Common.{fold, ap, ◌∙◌, refl}
use Rattle.std.proofs.lemmas.List.{take_all}
use Rattle.std.specs.FinMap.{entries}
use Rattle.storm_model.specs.Sums.{number_of}
use Rattle.storm_model.proofs.Numbers.{with_value, values_wrapped}
use Rattle.storm_model.proofs.sums.summed.Goals as goal

pub returns-clause-sum : goal.returns-clause-sum
returns-clause-sum c =
    c.loop-key.invariant
    ∙ ap (fold (with_value (λ d. number_of d.1.now.value)) 0) (take_all c.loop-key.key-index c.deref-key-items.result.now c.loop-key-test.false ∙ c.deref-key-items.ensures.value)
    ∙ values_wrapped (λ d. number_of d.1.now.value) (λ d. (d.0.now, d.1.now)) (λ d. refl) c.args.image.now c.in_ok-docs.docs.items (c.in_ok-docs.ensures ∙ ap entries c.docs.ensures)
