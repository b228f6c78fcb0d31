use Rattle.std.proofs.Common.{◌≤◌, ◌∙◌, length, decimal, arith, rules}
use Rattle.std.proofs.lemmas.Fmt.{length-decimal-le}
use Rattle.std.proofs.lemmas.List.{append-nil}
use Rattle.script_text.proofs.Signs.{sign_and_digits}
use Rattle.script_text.proofs.parts.push_long.Goals as goal

pub write_digits-start-requires : goal.write_digits-start-requires
write_digits-start-requires c =
    let short : length (decimal c.args.number) ≤ 20 = search (rules, length-decimal-le 20) in (omega arith, omega arith)

pub overflow_sub-start : goal.overflow_sub-start
overflow_sub-start c =
    let short : length (decimal c.args.number) ≤ 20 = search (rules, length-decimal-le 20) in omega (arith, c.write_digits-start.ensures.start)

pub returns-clause-ok : goal.returns-clause-ok
returns-clause-ok c =
    let w = c.write_digits-start in
    let short : length (decimal c.args.number) ≤ 20 = search (rules, length-decimal-le 20) in
    let digits = decimal c.args.number in
    let text = sign_and_digits w.new.buf digits c.args.sign w.result w.ensures.start short (w.ensures.written ∙ append-nil digits) w.ensures.before in
    rw (← text) c.extend_from_slice.ensures.ok
