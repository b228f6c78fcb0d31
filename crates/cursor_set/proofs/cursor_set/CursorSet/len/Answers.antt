use Rattle.std.proofs.Common.{sym, ap, ◌∙◌}
use Rattle.std.specs.FinMap as map
use Rattle.cursor_set.proofs.Finds.{len_at}
use Rattle.cursor_set.proofs.cursor_set.CursorSet.len.Goals as goal

pub returns : goal.returns
returns c = c.len.ensures.len ∙ sym (len_at c.self.inside.places.entries c.len.ensures.ordered) ∙ ap map.len c.self.view_is
