use Rattle.std.proofs.Common.{ltb, ap, sym, subst, ◌∙◌}
use Rattle.std.specs.Prelude.{option_to_list}
use Rattle.std.specs.Option.{option_or}
use Rattle.std.specs.List.{find}
use Rattle.std.specs.List.Sorted.{IsNonDecreasingBy}
use Rattle.std.proofs.lemmas.List.Folds.{find-append}
use Rattle.vb_calls.specs.declared.span.Span.{Span}
use Rattle.checkpoint.specs.Checkpoints.{ckpt_span}
use Rattle.ckpt_list.specs.Lists.{Ckpts}
use Rattle.ckpt_list.specs.Sound.{IsSound}
use Rattle.ckpt_list.proofs.Takes.{found_above, found_some}
use Rattle.ckpt_list.proofs.Seals.{spans_sorted}
use Rattle.ckpt_list.proofs.ckpt_list.CkptList.span_above.Goals as goal

pub end_above-requires : goal.end_above-requires
end_above-requires c = spans_sorted _ c.self.invariant.sound

pub returns-clause-span : goal.returns-clause-span
returns-clause-span c =
    let l : Ckpts = c.args.self.now in
    let p = λ (w : Span). ltb c.args.n w.last in
    c.or.ensures ∙ ap (λ o. option_or o c.open_above.result) (c.end_above.ensures ∙ ap (find p) (ap (λ (m : Ckpts). m.sealed) c.self.view_is))
    ∙ ap (option_or (find p l.sealed)) c.open_above.ensures ∙ sym (find-append p l.sealed (option_to_list (ckpt_span l.newest)))

pub returns-clause-end : goal.returns-clause-end
returns-clause-end c =
    found_some (λ (w : Span). ltb c.args.n w.last) c.args.self.now c.or.result (subst IsSound c.self.view_is c.self.invariant.sound) (returns-clause-span c)

pub returns-clause-above : goal.returns-clause-above
returns-clause-above c = found_above c.args.n _ c.or.result (returns-clause-span c)
