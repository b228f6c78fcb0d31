use Rattle.std.proofs.Common.{ℕ, rules, ap, ◌∙◌}
use Rattle.std.specs.Prelude.{Option}
use Rattle.std.specs.List.{list_any}
use Rattle.std.specs.Option.{option_to_list}
use Rattle.std.proofs.lemmas.Iterator.{YieldsList-from_slice}
use Rattle.std.proofs.lemmas.Iterator.Search.{any_from_yields_List}
use Rattle.vb_types.specs.declared.change.Change.{Change}
use Rattle.vb_calls.specs.Streams.{is_seen}
use Rattle.checkpoint.specs.Checkpoints.{has_seen, items_above}
use Rattle.checkpoint.specs.Runs.{changes_there}
use Rattle.checkpoint.proofs.Runs.{any_above, any_there}
use Rattle.checkpoint.proofs.run.Run.sees_after.Goals as goal

pub returns : goal.returns
returns c =
    let test = λ (d : Change). is_seen c.args.sync d.act in
    any_from_yields_List (λ (e : ℕ × Option Change). list_any test (option_to_list e.1)) _ _ _ c.any.ensures.ran (YieldsList-from_slice c.later-later.result.now c.iter.ensures.rest) (λ x b q h. search rules)
    ∙ any_there test c.later-later.result.now ∙ ap (list_any test) (c.later-later.ensures ∙ ap (λ es. items_above c.args.place (changes_there es)) c.deref.ensures.value)
    ∙ any_above test c.args.place (changes_there c.self.inside.entries.items) ∙ ap (has_seen c.args.sync c.args.place) c.self.view_is
