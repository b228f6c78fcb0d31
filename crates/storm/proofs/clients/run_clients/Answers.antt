use Rattle.std.proofs.Common.{◌≡◌, ℕ, suc, ◌<◌, ◌++◌, ◌∷◌, [], List, length, map, refl, sym, ap, ◌∙◌, subst, arith, rules, append_assoc, append-nil}
use Rattle.std.specs.Vec.Iter.{into_iter_items}
use Rattle.node_threads.specs.Seats.{Row, rows_of}
use Rattle.storm_model.specs.Writes.{all_writes}
use Rattle.storm_model.proofs.Agreeing.{in_limits}
use Rattle.storm.specs.Rows.{AllTwo}
use Rattle.storm.proofs.Lists.{nothing_left, two_length}
use Rattle.storm.specs.Clients.{HasWorked}
use Rattle.storm.proofs.Writing.{IsMain, are_stormed, clients_fit, have_four, mains_more, may_join, none_taken, one_longer, worked_next}
use Rattle.storm.proofs.clients.run_clients.Goals as goal

pub clients-requires : goal.clients-requires
clients-requires g c = clients_fit c.args.plan.now.clients c.args.plan.now.writes (rows_of c.args.slots.now.items) c.args.plan.now.fits c.requires

pub work_all-requires : goal.work_all-requires
work_all-requires g c = (search rules, (search rules, have_four c.args.plan.now.clients c.in_ok-clients.clients.items (rows_of c.args.slots.now.items) c.requires c.in_ok-clients.ensures.clients))

pub loop-own-init : goal.loop-own-init
loop-own-init g c =
    let plan = c.args.plan.now in
    let rows : List Row = rows_of c.args.slots.now.items in
    let l = in_limits plan.clients plan.writes plan.fits in
    let gives = c.into_iter-own-iterator.ensures.into_iter_gives in (
      refl,
      subst (AllTwo (IsMain plan.seed plan.writes plan.clients 0) 0 rows) (sym c.in_ok-clients.ensures.rows) (none_taken plan.seed plan.writes plan.clients 0 rows l.clients_low l.clients_high c.requires.1),
      let a = gives.1 in let b = ap length gives.0 in omega arith,
    )

pub join_all-requires : goal.join_all-requires
join_all-requires g c =
    let plan = c.args.plan.now in
    let rows : List Row = rows_of c.args.slots.now.items in
    let at = c.loop-own in
    let steps : into_iter_items at.own-iterator ≡ c.in-Some.own ∷ into_iter_items c.next.new.self = c.in-Some.ensures.steps.0 in
    let all : at.yielded ++ c.in-Some.own ∷ into_iter_items c.next.new.self ≡ c.in_ok-own-items.own-items.items = ap (λ l. at.yielded ++ l) (sym steps) ∙ at.invariant.0 ∙ c.into_iter-own-iterator.ensures.into_iter_gives.0 in
    let wrote = worked_next plan plan.clients rows c.in_ok-clients.clients.items at.yielded (into_iter_items c.next.new.self) c.in_ok-own-items.own-items.items c.in-Some.own c.in_ok-own.field-0 c.in_ok-clients.ensures.clients c.in_ok-own-items.ensures all c.in_ok-own.was in
    may_join plan.seed plan.writes plan.clients (length at.yielded) 0 rows (rows_of at.slots.items) (rows_of c.in_ok-own.field-0.items) (all_writes plan.seed (length at.yielded) plan.writes) at.invariant.1 wrote.1

pub loop-own-preserved : goal.loop-own-preserved
loop-own-preserved g c =
    let plan = c.args.plan.now in
    let rows : List Row = rows_of c.args.slots.now.items in
    let at = c.loop-own in
    let own = c.in-Some.own in
    let steps : into_iter_items at.own-iterator ≡ own ∷ into_iter_items c.next.new.self = c.in-Some.ensures.steps.0 in
    let all : at.yielded ++ own ∷ into_iter_items c.next.new.self ≡ c.in_ok-own-items.own-items.items = ap (λ l. at.yielded ++ l) (sym steps) ∙ at.invariant.0 ∙ c.into_iter-own-iterator.ensures.into_iter_gives.0 in
    let wrote = worked_next plan plan.clients rows c.in_ok-clients.clients.items at.yielded (into_iter_items c.next.new.self) c.in_ok-own-items.own-items.items own c.in_ok-own.field-0 c.in_ok-clients.ensures.clients c.in_ok-own-items.ensures all c.in_ok-own.was in (
      append_assoc at.yielded (own ∷ []) (into_iter_items c.next.new.self) ∙ ap (λ l. at.yielded ++ l) (sym steps) ∙ at.invariant.0,
      subst (λ k. AllTwo (IsMain plan.seed plan.writes plan.clients k) 0 rows (rows_of c.join_all.new.slots.items)) (sym (one_longer at.yielded own))
          (mains_more plan.seed plan.writes plan.clients (length at.yielded) 0 rows (rows_of c.in_ok-own.field-0.items) (rows_of at.slots.items) (rows_of c.join_all.new.slots.items) wrote.0 c.requires.1 at.invariant.1 wrote.1 c.join_all.ensures),
      let was = at.invariant.2 in let gone = c.in-Some.ensures.steps.1 in let short = ap length steps in omega arith,
    )

pub returns : goal.returns
returns g c =
    let plan = c.args.plan.now in
    let rows : List Row = rows_of c.args.slots.now.items in
    let at = c.loop-own in
    let none = c.in-None.ensures.steps in
    let empty : into_iter_items at.own-iterator ≡ [] = nothing_left _ (sym at.invariant.2 ∙ none.0) in
    let all : at.yielded ≡ c.in_ok-own-items.own-items.items = sym (append-nil at.yielded) ∙ ap (λ l. at.yielded ++ l) (sym empty) ∙ at.invariant.0 ∙ c.into_iter-own-iterator.ensures.into_iter_gives.0 in
    let many : length at.yielded ≡ plan.clients = ap length all ∙ two_length (HasWorked plan) 0 c.in_ok-clients.clients.items c.in_ok-own-items.own-items.items c.in_ok-own-items.ensures ∙ c.in_ok-clients.ensures.clients.0 in
    are_stormed plan.seed plan.writes plan.clients rows (rows_of at.slots.items) plan.fits c.requires (subst (λ k. AllTwo (IsMain plan.seed plan.writes plan.clients k) 0 rows (rows_of at.slots.items)) many at.invariant.1)
