use Rattle.std.proofs.Common.{◌≡◌, ◌∷◌, ◌∙◌, ap, sym, subst, arith, get_or, set, length, List, [], Some, None}
use Rattle.node_threads.specs.Seats.{Row, row_of, rows_of}
use Rattle.storm_model.specs.declared.writes.Aimed.{Aimed}
use Rattle.storm_model.specs.Writes.{Gives}
use Rattle.storm.proofs.Lists.{rows_get, rows_length, rows_set}
use Rattle.storm.proofs.Writing.{Storing, storing_all, storing_more, storing_none, storing_room}
use Rattle.storm.proofs.clients.write_all.Goals as goal

pub loop-aimed-init : goal.loop-aimed-init
loop-aimed-init g c = storing_none c.args.writes (rows_of c.args.slots.now.items) c.requires.aimed

pub index_mut-requires : goal.index_mut-requires
index_mut-requires g c =
    let a : Aimed = c.in-Some.aimed in
    let given : c.loop-aimed.writes ≡ a ∷ c.next.new.self = subst (λ o. Gives c.loop-aimed.writes o c.next.new.self) c.in-Some.is c.in_ok-aimed.ensures.given in
    let four : length (rows_of c.args.slots.now.items) ≡ 4 = rows_length c.args.slots.now.items ∙ c.requires.four in
    let room = storing_room c.args.writes c.loop-aimed.writes c.next.new.self a (rows_of c.args.slots.now.items) (rows_of c.loop-aimed.slots.items) c.loop-aimed.invariant given four in
    let at = c.from-at.ensures in let many = rows_length c.loop-aimed.slots.items in omega arith

pub loop-aimed-preserved : goal.loop-aimed-preserved
loop-aimed-preserved g c =
    let a : Aimed = c.in-Some.aimed in
    let given : c.loop-aimed.writes ≡ a ∷ c.next.new.self = subst (λ o. Gives c.loop-aimed.writes o c.next.new.self) c.in-Some.is c.in_ok-aimed.ensures.given in
    let four : length (rows_of c.args.slots.now.items) ≡ 4 = rows_length c.args.slots.now.items ∙ c.requires.four in
    let ys : List Row = rows_of c.loop-aimed.slots.items in
    let y = row_of c.index_mut.result.now in
    let here : y ≡ get_or ys a.vb y = rows_get c.loop-aimed.slots.items c.from-at.result c.index_mut.result.now c.index_mut.ensures.value ∙ ap (λ n. get_or ys n y) c.from-at.ensures in
    let stored = c.in_ok-store.ensures in
    subst (Storing c.args.writes c.next.new.self (rows_of c.args.slots.now.items)) (sym (rows_set c.loop-aimed.slots.items c.from-at.result c.store.new.slot ∙ ap (λ n. set ys n (row_of c.store.new.slot)) c.from-at.ensures))
    (storing_more c.args.writes c.loop-aimed.writes c.next.new.self a (rows_of c.args.slots.now.items) ys y (row_of c.store.new.slot) stored.ok.0 c.loop-aimed.invariant given four here stored.same stored.ok.1)

pub returns : goal.returns
returns g c =
    let none = subst (λ o. Gives c.loop-aimed.writes o c.next.new.self) c.in_default.is c.in_ok-aimed.ensures.given in
    storing_all c.args.writes c.loop-aimed.writes (rows_of c.args.slots.now.items) (rows_of c.loop-aimed.slots.items) c.loop-aimed.invariant none.0
