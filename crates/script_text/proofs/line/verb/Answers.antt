use Rattle.std.proofs.Common.{List, ℕ, map, sym, arith}
use Rattle.std.proofs.lemmas.List.{length-map}
use Rattle.script_text.proofs.Lines.{few_said}
use Rattle.script_text.proofs.line.verb.Goals as goal

pub returns-in_default : goal.returns-in_default
returns-in_default c =
    let words : List (List ℕ) = map (λ word. word.now) c.args.words.now in
    let as_many = length-map c.args.words.now (λ word. word.now) in
    let few = c.in_default.len_below in
    sym (few_said words (omega (arith, as_many, few)))
