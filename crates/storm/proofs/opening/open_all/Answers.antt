use Rattle.std.proofs.Common.{◌≡◌, ℕ, suc, ◌+◌, ◌<◌, ◌++◌, ◌∷◌, [], List, length, map, take, get_or, set, refl, sym, ap, ◌∙◌, subst, arith, append_assoc, append-nil, length-append}
use Rattle.node_threads.specs.Seats.{Row, row_of, rows_of}
use Rattle.node_threads.proofs.Lists.{rows_push}
use Rattle.storm_seats.specs.Gathering.{AllFrom}
use Rattle.storm.specs.Rows.{IsOpened}
use Rattle.storm.proofs.Lists.{from_more}
use Rattle.storm.proofs.opening.open_all.Goals as goal

pub loop-v-preserved : goal.loop-v-preserved
loop-v-preserved g c =
    let rows : List Row = rows_of c.loop-v.slots.items in
    let row = row_of c.in_ok-open_vb.field-0 in
    let inv = c.loop-v.invariant in
    let many : length rows ≡ c.loop-v.v = inv.0 in
    let items : rows_of c.push.new.self.items ≡ rows ++ row ∷ [] = ap rows_of c.in_ok-push.ensures.items ∙ rows_push c.loop-v.slots.items c.in_ok-open_vb.field-0 in (
      ap length items ∙ length-append rows (row ∷ []) ∙ ap (λ k. k + 1) many,
      subst (AllFrom IsOpened 0) (sym items) (from_more IsOpened 0 rows row inv.1 (subst (λ k. IsOpened k row) (let e : c.loop-v.v ≡ 0 + length rows = omega arith in e) c.in_ok-open_vb.ensures)),
    )
