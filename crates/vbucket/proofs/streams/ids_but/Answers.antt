use Rattle.std.proofs.Common.{ℕ, ap, ◌∙◌, rules}
use Rattle.std.specs.Prelude.{not, ◌==◌}
use Rattle.std.specs.List.{filter}
use Rattle.std.proofs.lemmas.Fn.{filter_same}
use Rattle.vbucket.proofs.Dropping.{ids_without}
use Rattle.vbucket.proofs.streams.ids_but.Goals as goal

pub returns : goal.returns
returns c =
    c.from_vec.ensures ∙ filter_same _ (λ (n : ℕ). not (n == c.args.id)) _ (λ n b f k. search rules) _ _ c.retain.ensures.filtered
    ∙ ap (filter (λ n. not (n == c.args.id))) c.in_ok-ids.ensures ∙ ids_without c.args.id c.args.streams.now
