use Rattle.std.proofs.Common.{◌≡◌, ℕ, false, leb, ◌∙◌, sym}
use Rattle.std.specs.Prelude.{None, Option}
use Rattle.std.specs.Option.{option_map}
use Rattle.vb_calls.specs.declared.span.Span.{Span}
use Rattle.ckpt_list.specs.Trims.{first_if, is_first}
use Rattle.ckpt_list.proofs.Sheds.{ended_none, first_none, shed_all}
use Rattle.ckpt_list.proofs.trims.shed_spans.Goals as goal

pub returns-clause-spans : goal.returns-clause-spans
returns-clause-spans c =
    let none : is_first (λ (w : Span). leb w.last c.args.to) c.loop-next.spans.items ≡ false = first_none (λ (w : Span). w.last) _ c.loop-next.spans.items (sym c.first_end.ensures ∙ c.in_default.is) in
    shed_all (λ (w : Span). w.last) c.args.to c.loop-next.spans.items none c.loop-next.invariant.sorted ∙ c.loop-next.invariant.same

pub returns-clause-floor : goal.returns-clause-floor
returns-clause-floor c =
    let none : is_first (λ (w : Span). leb w.last c.args.to) c.loop-next.spans.items ≡ false = first_none (λ (w : Span). w.last) _ c.loop-next.spans.items (sym c.first_end.ensures ∙ c.in_default.is) in
    sym (ended_none c.args.to c.loop-next.end c.loop-next.spans.items none c.loop-next.invariant.sorted) ∙ c.loop-next.invariant.end
