use Rattle.std.proofs.Common.{◌≡◌, List, max, ◌-◌, ltb, ap, sym, ◌∙◌, rules}
use Rattle.std.specs.Option.{option_map}
use Rattle.std.specs.List.{find}
use Rattle.vb_calls.specs.declared.span.Span.{Span}
use Rattle.vb_calls.specs.Spans.{all_spans}
use Rattle.ckpt_list.specs.Lists.{spans_of}
use Rattle.ckpt_list.proofs.Takes.{reach_map}
use Rattle.ckpt_list.proofs.ckpt_list.CkptList.reach.Goals as goal

pub returns-in-Some-clause-reach : goal.returns-in-Some-clause-reach
returns-in-Some-clause-reach c =
    let ws : List Span = all_spans (spans_of c.args.self.now) in
    let m : c.max.result ≡ max c.args.place (c.args.need - 1) = search rules in
    ap (option_map (λ (w : Span). w.last)) (sym c.in-Some.is ∙ c.span_above.ensures.span ∙ ap (λ n. find (λ (w : Span). ltb n w.last) ws) m) ∙ sym (reach_map c.args.place c.args.need ws)

pub returns-in-None-clause-reach : goal.returns-in-None-clause-reach
returns-in-None-clause-reach c =
    let ws : List Span = all_spans (spans_of c.args.self.now) in
    let m : c.max.result ≡ max c.args.place (c.args.need - 1) = search rules in
    ap (option_map (λ (w : Span). w.last)) (sym c.in-None.is ∙ c.span_above.ensures.span ∙ ap (λ n. find (λ (w : Span). ltb n w.last) ws) m) ∙ sym (reach_map c.args.place c.args.need ws)
