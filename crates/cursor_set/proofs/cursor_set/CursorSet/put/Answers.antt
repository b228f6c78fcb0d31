use Rattle.std.proofs.Common.{◌≡◌, None, is_some, sym, ap, ◌∙◌}
use Rattle.std.specs.FinMap as map
use Rattle.cursor_set.specs.Cursors.{place_of}
use Rattle.cursor_set.proofs.Finds.{get_at, inserted}
use Rattle.cursor_set.proofs.cursor_set.CursorSet.put.Goals as goal

pub returns-clause-ok : goal.returns-clause-ok
returns-clause-ok c =
    inserted c.self.inside.places.entries c.insert.new.self.entries c.args.id c.args.place c.in_ok-insert.ensures.updates.0
    ∙ ap (λ m. map.insert m c.args.id c.args.place) c.self.view_is

pub returns-in_err-insert-clause-there : goal.returns-in_err-insert-clause-there
returns-in_err-insert-clause-there c there =
    let none : place_of c.args.self.now c.args.id ≡ None =
    sym (ap (λ m. place_of m c.args.id) c.self.view_is) ∙ get_at c.self.inside.places.entries c.args.id ∙ c.in_err-insert.ensures.absent in
    let no = sym there ∙ ap is_some none in
    cc
