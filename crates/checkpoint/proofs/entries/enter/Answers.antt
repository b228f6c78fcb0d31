use Rattle.std.proofs.Common.{◌≡◌, rules, List, ℕ, cond, ap, ◌∙◌}
use Rattle.std.specs.Prelude.{Option, Some}
use Rattle.std.specs.HashMap as hash
use Rattle.std.specs.Str.{bytes_eq}
use Rattle.checkpoint.proofs.entries.enter.Goals as goal

pub returns-clause-seqs : goal.returns-clause-seqs
returns-clause-seqs c =
    let key : c.in_ok-key.key ≡ c.args.change.key = search rules in
    let same : hash.get bytes_eq c.ready.new.seqs ≡ hash.get bytes_eq c.args.seqs.now = c.ready.ensures.same in
    λ q. c.place.ensures.seqs q
    ∙ ap (λ (b : List ℕ). cond (bytes_eq b q) (Some c.args.change.seq) (hash.get bytes_eq c.ready.new.seqs q)) key
    ∙ ap (λ (f : List ℕ → Option ℕ). cond (bytes_eq c.args.change.key q) (Some c.args.change.seq) (f q)) same

pub returns-clause-earlier : goal.returns-clause-earlier
returns-clause-earlier c =
    let key : c.in_ok-key.key ≡ c.args.change.key = search rules in
    let same : hash.get bytes_eq c.ready.new.seqs ≡ hash.get bytes_eq c.args.seqs.now = c.ready.ensures.same in
    c.place.ensures.earlier ∙ ap (hash.get bytes_eq c.ready.new.seqs) key ∙ ap (λ (f : List ℕ → Option ℕ). f c.args.change.key) same
