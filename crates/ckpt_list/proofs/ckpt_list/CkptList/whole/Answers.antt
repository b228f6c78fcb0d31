use Rattle.std.proofs.Common.{◌≡◌, ◌&&◌, not, ltb, ap, sym, ◌∙◌}
use Rattle.std.specs.Prelude.{option_to_list}
use Rattle.std.proofs.lemmas.List.Folds.{list_all-append}
use Rattle.vb_calls.specs.declared.span.Span.{Span}
use Rattle.vb_calls.specs.Spans.{is_whole, starts_below}
use Rattle.checkpoint.specs.Checkpoints.{ckpt_span}
use Rattle.ckpt_list.specs.Lists.{Ckpts}
use Rattle.ckpt_list.proofs.ckpt_list.CkptList.whole.Goals as goal

pub returns-then-ends_whole : goal.returns-then-ends_whole
returns-then-ends_whole c =
    let l : Ckpts = c.args.self.now in
    let n = c.args.n in
    let front : is_whole n l.sealed ≡ c.ends_whole.result = sym (c.ends_whole.ensures ∙ ap (is_whole n) (ap (λ (m : Ckpts). m.sealed) c.self.view_is)) in
    c.is_open_whole.ensures
    ∙ sym (list_all-append (λ (w : Span). not (ltb n w.last && starts_below n w.origin)) l.sealed (option_to_list (ckpt_span l.newest))
    ∙ ap (λ b. b && is_whole n (option_to_list (ckpt_span l.newest))) (front ∙ c.if-ends_whole.true))

pub returns-else-ends_whole : goal.returns-else-ends_whole
returns-else-ends_whole c =
    let l : Ckpts = c.args.self.now in
    let n = c.args.n in
    let front : is_whole n l.sealed ≡ c.ends_whole.result = sym (c.ends_whole.ensures ∙ ap (is_whole n) (ap (λ (m : Ckpts). m.sealed) c.self.view_is)) in
    c.if-ends_whole.false
    ∙ sym (list_all-append (λ (w : Span). not (ltb n w.last && starts_below n w.origin)) l.sealed (option_to_list (ckpt_span l.newest))
    ∙ ap (λ b. b && is_whole n (option_to_list (ckpt_span l.newest))) (front ∙ c.if-ends_whole.false))
