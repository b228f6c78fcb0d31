use Rattle.std.proofs.Common.{sym, ap, ◌∙◌}
use Rattle.std.specs.Prelude.{is_some}
use Rattle.std.specs.FinMap as map
use Rattle.cursor_set.specs.Cursors.{place_of}
use Rattle.cursor_set.proofs.Finds.{get_at, removed}
use Rattle.cursor_set.proofs.cursor_set.CursorSet.remove.Goals as goal

pub returns-clause-places : goal.returns-clause-places
returns-clause-places c =
    removed c.self.inside.places.entries c.remove.new.self.entries c.args.id c.remove.ensures.updates.0
    ∙ ap (λ m. map.remove m c.args.id) c.self.view_is

pub returns-clause-there : goal.returns-clause-there
returns-clause-there c =
    c.is_some.ensures ∙ ap is_some (c.remove.ensures.value ∙ sym (get_at c.self.inside.places.entries c.args.id) ∙ ap (λ m. place_of m c.args.id) c.self.view_is)
