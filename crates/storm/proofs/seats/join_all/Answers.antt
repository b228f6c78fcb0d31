use Rattle.std.proofs.Common.{◌≡◌, ℕ, suc, ◌+◌, ◌<◌, ◌++◌, ◌∷◌, [], List, length, map, take, get_or, set, refl, sym, ap, ◌∙◌, subst, arith, append_assoc, append-nil, length-append}
use Rattle.node_threads.specs.Seats.{Row, row_of, rows_of}
use Rattle.node_threads.proofs.Lists.{rows_push}
use Rattle.storm.proofs.Lists.{rows_get, rows_length, rows_set}
use Rattle.storm.proofs.Sharing.{Joining, joining_next, joining_none, joining_place, joining_table}
use Rattle.storm.proofs.seats.join_all.Goals as goal

pub loop-seat-init : goal.loop-seat-init
loop-seat-init c = joining_none (rows_of c.args.slots.now.items) (rows_of c.args.own.items) c.requires

pub index_mut-requires : goal.index_mut-requires
index_mut-requires c =
    let xs : List Row = rows_of c.args.slots.now.items in
    let us : List Row = rows_of c.args.own.items in
    let ws : List Row = rows_of c.loop-seat.slots.items in
    let own : List Row = rows_of c.pop.new.self.items in
    let j : Joining (own ++ row_of c.in-Some.seat ∷ []) xs us ws = subst (λ l. Joining l xs us ws) (ap rows_of c.in-Some.ensures.items ∙ rows_push c.pop.new.self.items c.in-Some.seat) c.loop-seat.invariant in
    let a : length own < length ws = joining_place own xs us ws (row_of c.in-Some.seat) j in
    let b = c.len.ensures in let d = rows_length c.pop.new.self.items in let e = rows_length c.loop-seat.slots.items in omega arith

pub join-requires : goal.join-requires
join-requires c =
    let xs : List Row = rows_of c.args.slots.now.items in
    let us : List Row = rows_of c.args.own.items in
    let ws : List Row = rows_of c.loop-seat.slots.items in
    let own : List Row = rows_of c.pop.new.self.items in
    let w = row_of c.index_mut.result.now in
    let j : Joining (own ++ row_of c.in-Some.seat ∷ []) xs us ws = subst (λ l. Joining l xs us ws) (ap rows_of c.in-Some.ensures.items ∙ rows_push c.pop.new.self.items c.in-Some.seat) c.loop-seat.invariant in
    let place : c.len.result ≡ length own = let a = c.len.ensures in let b = rows_length c.pop.new.self.items in omega arith in
    let here : w ≡ get_or ws (length own) w = rows_get c.loop-seat.slots.items c.len.result c.index_mut.result.now c.index_mut.ensures.value ∙ ap (λ n. get_or ws n w) place in
    joining_table 0 own xs us ws (row_of c.in-Some.seat) w c.requires j here

pub loop-seat-preserved : goal.loop-seat-preserved
loop-seat-preserved c =
    let xs : List Row = rows_of c.args.slots.now.items in
    let us : List Row = rows_of c.args.own.items in
    let ws : List Row = rows_of c.loop-seat.slots.items in
    let own : List Row = rows_of c.pop.new.self.items in
    let w = row_of c.index_mut.result.now in
    let j : Joining (own ++ row_of c.in-Some.seat ∷ []) xs us ws = subst (λ l. Joining l xs us ws) (ap rows_of c.in-Some.ensures.items ∙ rows_push c.pop.new.self.items c.in-Some.seat) c.loop-seat.invariant in
    let place : c.len.result ≡ length own = let a = c.len.ensures in let b = rows_length c.pop.new.self.items in omega arith in
    let here : w ≡ get_or ws (length own) w = rows_get c.loop-seat.slots.items c.len.result c.index_mut.result.now c.index_mut.ensures.value ∙ ap (λ n. get_or ws n w) place in
    subst (Joining own xs us) (sym (rows_set c.loop-seat.slots.items c.len.result c.join.new.slot ∙ ap (λ n. set ws n (row_of c.join.new.slot)) place))
    (joining_next own xs us ws (row_of c.in-Some.seat) w (row_of c.join.new.slot) j here c.join.ensures)
