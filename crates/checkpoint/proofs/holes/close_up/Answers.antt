use Rattle.std.proofs.Common.{ℕ, rules, arith, ap, ◌∙◌}
use Rattle.std.specs.Prelude.{Option, is_some}
use Rattle.std.proofs.lemmas.Fn.{filter_same}
use Rattle.vb_types.specs.declared.change.Change.{Change}
use Rattle.checkpoint.specs.Runs.{changes_there}
use Rattle.checkpoint.proofs.Runs.{closed_run, closed_there, not_more}
use Rattle.checkpoint.proofs.holes.close_up.Goals as goal

pub overflow_sub-len : goal.overflow_sub-len
overflow_sub-len c =
    let k = not_more c.args.entries.now.items in
    omega (arith, k, c.requires.counted, c.len.ensures, c.args.entries.now.ok.0)

pub returns-then-len-there-clause-there : goal.returns-then-len-there-clause-there
returns-then-len-there-clause-there c =
    ap changes_there (filter_same _ (λ (e : ℕ × Option Change). is_some e.1) _ (λ e b f k. search rules) _ _ c.retain.ensures.filtered) ∙ closed_there c.args.entries.now.items

pub returns-then-len-there-clause-run : goal.returns-then-len-there-clause-run
returns-then-len-there-clause-run c =
    closed_run c.args.there c.args.entries.now.items _ c.requires.entries c.requires.counted (filter_same _ (λ (e : ℕ × Option Change). is_some e.1) _ (λ e b f k. search rules) _ _ c.retain.ensures.filtered)
