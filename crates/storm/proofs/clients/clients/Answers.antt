use Rattle.std.proofs.Common.{◌≡◌, ℕ, suc, ◌+◌, ◌<◌, ◌++◌, ◌∷◌, [], List, length, map, take, get_or, set, refl, sym, ap, ◌∙◌, subst, arith, append_assoc, append-nil, length-append}
use Rattle.node_threads.specs.Seats.{Row, row_of, rows_of}
use Rattle.storm_seats.specs.Gathering.{AllFrom}
use Rattle.storm.specs.declared.clients.Client.{Client}
use Rattle.storm.specs.Rows.{HaveMore, given, gives}
use Rattle.storm.proofs.Lists.{from_more}
use Rattle.storm.proofs.Sharing.{all_next, all_none, given_same, still_more}
use Rattle.storm.proofs.clients.clients.Goals as goal

-- the client of a number, with seats that were cut from these
abbrev IsOne : List Row → ℕ → Client → Type 0
IsOne rows n client = (client.number ≡ n) × (rows_of client.slots.items ≡ map given rows)

pub loop-number-init : goal.loop-number-init
loop-number-init c = (sym (all_none (rows_of c.args.slots.now.items)), (ap length c.new-clients.ensures.items, subst (AllFrom (IsOne (rows_of c.args.slots.now.items)) 0) (sym c.new-clients.ensures.items) tt))

pub share_all-requires : goal.share_all-requires
share_all-requires c = subst (HaveMore 1) (sym c.loop-number.invariant.0) (still_more c.loop-number.number c.args.count (rows_of c.args.slots.now.items) c.requires c.loop-number-test.true)

pub loop-number-preserved : goal.loop-number-preserved
loop-number-preserved c =
    let rows : List Row = rows_of c.args.slots.now.items in
    let n = c.loop-number.number in
    let inv = c.loop-number.invariant in
    let e = c.in_ok-own.ensures in
    let next : suc n ≡ n + 1 = omega arith in
    let new : Client = record { number = n; slots = c.in_ok-own.own } in
    let many = inv.1.0 in
    let place : n ≡ 0 + length c.loop-number.clients.items = omega arith in (
      e.0 ∙ ap (map (gives 1)) inv.0 ∙ all_next n rows ∙ ap (λ k. map (gives k) rows) next,
      (
        ap length c.in_ok-push.ensures.items ∙ length-append c.loop-number.clients.items (new ∷ []) ∙ ap (λ k. k + 1) many,
        subst (AllFrom (IsOne rows) 0) (sym c.in_ok-push.ensures.items) (from_more (IsOne rows) 0 c.loop-number.clients.items new inv.1.1 (place, e.1 ∙ ap (map given) inv.0 ∙ given_same n rows)),
      ),
    )
