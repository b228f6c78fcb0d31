use Rattle.std.proofs.Common.{◌≡◌, ◌+◌, ◌++◌, ap, sym, ◌∙◌, drop, arith}
use Rattle.std.specs.Prelude.{string_bytes}
use Rattle.storm_model.specs.Texts.{lines_text}
use Rattle.storm.proofs.Texts.{text_all, text_more}
use Rattle.storm.proofs.top.text_of.Goals as goal

pub loop-line-preserved : goal.loop-line-preserved
loop-line-preserved c =
    let inv = c.loop-line.invariant in
    let new : string_bytes c.push_str.new.self ≡ string_bytes c.loop-line.text ++ string_bytes c.in_ok-line_text.field-0 = c.in_ok-push_str.ensures.bytes ∙ ap (λ p. string_bytes c.loop-line.text ++ p) c.deref.ensures in (
      ap (λ n. n + 1) inv.0,
      inv.1 ∙ text_more c.loop-line.line-index c.loop-line.v c.args.lines.now _ (string_bytes c.loop-line.text) (string_bytes c.in_ok-line_text.field-0) c.loop-line-test.true c.in_ok-line_text.ensures
          ∙ ap (λ t. t ++ lines_text (c.loop-line.v + 1) (drop (c.loop-line.line-index + 1) c.args.lines.now)) (sym new),
    )

pub returns : goal.returns
returns c = sym (c.loop-line.invariant.1 ∙ text_all c.loop-line.line-index c.loop-line.v c.args.lines.now (string_bytes c.loop-line.text) c.loop-line-test.false)
