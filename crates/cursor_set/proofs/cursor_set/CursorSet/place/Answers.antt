use Rattle.std.proofs.Common.{sym, ap, ◌∙◌}
use Rattle.cursor_set.specs.Cursors.{place_of}
use Rattle.cursor_set.proofs.Finds.{get_at}
use Rattle.cursor_set.proofs.cursor_set.CursorSet.place.Goals as goal

pub returns : goal.returns
returns c = c.copied.ensures ∙ c.get.ensures.value ∙ sym (get_at c.self.inside.places.entries c.args.id) ∙ ap (λ m. place_of m c.args.id) c.self.view_is
