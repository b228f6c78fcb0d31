use Rattle.std.proofs.Common.{◌≡◌, ℕ, suc, ◌+◌, ◌<◌, ◌++◌, ◌∷◌, [], List, length, map, take, get_or, set, refl, sym, ap, ◌∙◌, subst, arith, append_assoc, append-nil, length-append}
use Rattle.node_threads.specs.Seats.{Row, row_of, rows_of}
use Rattle.node_threads.proofs.Lists.{rows_push}
use Rattle.storm.specs.Rows.{given, gives}
use Rattle.storm.proofs.Lists.{rows_get, rows_length, rows_set}
use Rattle.storm.proofs.Sharing.{given_all, given_more, given_to, more_at, own_all, own_more}
use Rattle.storm.proofs.seats.share_all.Goals as goal

pub share-requires : goal.share-requires
share-requires c =
    let rows : List Row = rows_of c.args.slots.now.items in
    let at = c.loop-at.at in
    let r = row_of c.index_mut.result.now in
    let inv = c.loop-at.invariant in
    let here : r ≡ get_or (given_to at rows) at r = rows_get c.loop-at.slots.items at c.index_mut.result.now c.index_mut.ensures.value ∙ ap (λ l. get_or l at r) inv.0 in
    more_at 1 at rows r c.requires here (let a = c.loop-at-test.true in let b = inv.2 in let d = rows_length c.args.slots.now.items in omega arith)

pub loop-at-preserved : goal.loop-at-preserved
loop-at-preserved c =
    let rows : List Row = rows_of c.args.slots.now.items in
    let at = c.loop-at.at in
    let r = row_of c.index_mut.result.now in
    let inv = c.loop-at.invariant in
    let here : r ≡ get_or (given_to at rows) at r = rows_get c.loop-at.slots.items at c.index_mut.result.now c.index_mut.ensures.value ∙ ap (λ l. get_or l at r) inv.0 in
    let below : at < length rows = let a = c.loop-at-test.true in let b = inv.2 in let d = rows_length c.args.slots.now.items in omega arith in
    let next : suc at ≡ at + 1 = omega arith in
    let shared = c.in_ok-share.ensures in (
      rows_set c.loop-at.slots.items at c.share.new.slot
          ∙ (λ i. set (inv.0 i) at (shared.0 i))
          ∙ given_more at rows r here below
          ∙ ap (λ n. given_to n rows) next,
      ap rows_of c.in_ok-push.ensures.items
          ∙ rows_push c.loop-at.own.items c.in_ok-share.field-0
          ∙ (λ i. inv.1 i ++ shared.1 i ∷ [])
          ∙ own_more at rows r here below
          ∙ ap (λ n. map given (take n rows)) next,
      inv.2,
    )

pub returns : goal.returns
returns c =
    let rows : List Row = rows_of c.args.slots.now.items in
    let inv = c.loop-at.invariant in
    let all : c.loop-at.at ≡ length rows = let a = c.loop-at-test.false in let b = c.loop-at.auto.at-end in let d = inv.2 in let e = rows_length c.args.slots.now.items in omega arith in (
      inv.0 ∙ ap (λ n. given_to n rows) all ∙ given_all rows,
      inv.1 ∙ ap (λ n. map given (take n rows)) all ∙ own_all rows,
    )
