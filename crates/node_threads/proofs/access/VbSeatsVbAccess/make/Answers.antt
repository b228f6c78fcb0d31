use Rattle.std.proofs.Common.{◌++◌, ◌∷◌, [], List, refl, sym, ap, ◌∙◌}
use Rattle.atomic_table.specs.Seated.{TableId}
use Rattle.vb_turn.specs.Words.{view}
use Rattle.node_threads.specs.Seats.{Row, VbView, has_row, rows_of}
use Rattle.node_threads.proofs.Lists.{more_rows, no_row, rows_push}
use Rattle.node_threads.proofs.access.VbSeatsVbAccess.make.Goals as goal

pub returns-clause-ok : goal.returns-clause-ok
returns-clause-ok g c =
    let table : TableId = c.in_ok-turn.seat.own.table_id in
    let row : Row = record { number = c.args.v; table = table; view = view c.in_ok-turn.seat } in (
      sym c.has.ensures ∙ c.if-has.false,
      (
        table,
        c.in_ok-vb.vb,
        c.in_ok-vb.ensures,
        ap rows_of c.in_ok-push.ensures.items
            ∙ (rows_push c.self.inside.slots.items _ ∙ (ap (λ (rows : List Row). rows ++ row ∷ []) c.self.view_is
            ∙ ap (λ (w : VbView). c.args.self.now ++ record { number = c.args.v; table = table; view = w } ∷ []) c.in_ok-turn.ensures.1)),
      ),
    )

pub returns-clause-more : goal.returns-clause-more
returns-clause-more g c = λ w.
    let row : Row = record { number = c.args.v; table = c.in_ok-turn.seat.own.table_id; view = view c.in_ok-turn.seat } in
    ap (λ (rows : List Row). has_row rows w) (ap rows_of c.in_ok-push.ensures.items ∙ (rows_push c.self.inside.slots.items _ ∙ ap (λ (rows : List Row). rows ++ row ∷ []) c.self.view_is))
    ∙ more_rows c.args.self.now c.args.v row (no_row c.args.self.now c.args.v (sym c.has.ensures ∙ c.if-has.false)) refl w
