use Rattle.std.proofs.Common.{List, ℕ, ◌<◌, ◌≤◌, length, map, sym, arith, rules}
use Rattle.std.proofs.lemmas.List.{length-map}
use Rattle.script_text.proofs.Lines.{few_words, six_words, many_words}
use Rattle.script_text.proofs.line.counted_verb.Goals as goal
use Rattle.script_text.proofs.line.counted_verb.Goals.{in_default-via-then-words-lt2, in_default-via-else-words-lt2+else-words-lt3+else-words-lt4+else-words-lt5+else-words-lt6+then-words-lt7, in_default-via-else-words-lt2+else-words-lt3+else-words-lt4+else-words-lt5+else-words-lt6+else-words-lt7+else-words-lt8}

pub returns-in_default : goal.returns-in_default
returns-in_default c =
    let words : List (List ℕ) = map (λ word. word.now) c.args.words.now in
    let as_many = length-map c.args.words.now (λ word. word.now) in
    elim c.in_default.branch [
      | in_default-via-then-words-lt2 w ↦
          let few : length c.args.words.now < 2 = search rules in
          sym (few_words words (omega (arith, as_many, few)))
      | in_default-via-else-words-lt2+else-words-lt3+else-words-lt4+else-words-lt5+else-words-lt6+then-words-lt7 w ↦
          let least : 6 ≤ length c.args.words.now = search rules in
          let below : length c.args.words.now < 7 = search rules in
          sym (six_words words (omega (arith, as_many, least)) (omega (arith, as_many, below)))
      | in_default-via-else-words-lt2+else-words-lt3+else-words-lt4+else-words-lt5+else-words-lt6+else-words-lt7+else-words-lt8 w ↦
          let least : 8 ≤ length c.args.words.now = search rules in
          sym (many_words words (omega (arith, as_many, least)))
    ]
