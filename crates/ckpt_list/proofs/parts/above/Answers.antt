use Rattle.std.proofs.Common.{◌∙◌, sym, subst}
use Rattle.std.specs.List.Sorted.{IsNonDecreasingBy}
use Rattle.std.proofs.lemmas.List.Sorted.{IsNonDecreasingBy-drop}
use Rattle.vb_types.specs.declared.change.Change.{Change}
use Rattle.std.proofs.lemmas.List.{take_rest}
use Rattle.ckpt_list.proofs.parts.above.Goals as goal

pub returns-clause-above : goal.returns-clause-above
returns-clause-above c = take_rest c.args.items.now c.count_to.result ∙ c.count_to.ensures.back

pub returns-clause-rise : goal.returns-clause-rise
returns-clause-rise c =
    subst (IsNonDecreasingBy (λ (d : Change). d.seq)) (sym (take_rest c.args.items.now c.count_to.result)) (IsNonDecreasingBy-drop (λ (d : Change). d.seq) c.count_to.result c.args.items.now c.requires)
