use Rattle.std.proofs.Common.{◌≡◌, ℕ, suc, ◌+◌, ◌<◌, ◌++◌, ◌∷◌, [], List, length, map, take, get_or, set, refl, sym, ap, ◌∙◌, subst, arith, append_assoc, append-nil, length-append}
use Rattle.std.specs.List.{AllByRecursion}
use Rattle.std.specs.Vec.Iter.{into_iter_items}
use Rattle.node_threads.specs.declared.slot.SeatSlot.{SeatSlot}
use Rattle.node_threads.specs.Seats.{Row, row_of, rows_of}
use Rattle.node_threads.proofs.Lists.{rows_push}
use Rattle.storm_model.specs.declared.lines.StormLine.{StormLine}
use Rattle.storm.specs.Ending.{EndsWith, IsAlone}
use Rattle.storm.specs.Rows.{AllTwo}
use Rattle.storm.proofs.Lists.{all_at, nothing_left, two_snoc}
use Rattle.storm.proofs.whole.end_all.Goals as goal

abbrev Ends : ℕ → Row → StormLine → Type 0
Ends n = EndsWith

pub loop-slot-init : goal.loop-slot-init
loop-slot-init g c =
    let gives = c.into_iter-slot-iterator.ensures.into_iter_gives in
    (refl, subst (AllTwo Ends 0 []) (sym c.new-lines.ensures.items) tt, let a = gives.1 in let b = ap length gives.0 in omega arith)

pub end-requires : goal.end-requires
end-requires g c =
    let at = c.loop-slot in
    let steps : into_iter_items at.slot-iterator ≡ c.in-Some.slot ∷ into_iter_items c.next.new.self = c.in-Some.ensures.steps.0 in
    let all : at.yielded ++ c.in-Some.slot ∷ into_iter_items c.next.new.self ≡ c.args.slots.items = ap (λ l. at.yielded ++ l) (sym steps) ∙ at.invariant.0 ∙ c.into_iter-slot-iterator.ensures.into_iter_gives.0 in
    all_at IsAlone at.yielded (into_iter_items c.next.new.self) c.in-Some.slot (subst (λ (l : List SeatSlot). AllByRecursion IsAlone (rows_of l)) (sym all) c.requires)

pub loop-slot-preserved : goal.loop-slot-preserved
loop-slot-preserved g c =
    let at = c.loop-slot in
    let slot = c.in-Some.slot in
    let steps : into_iter_items at.slot-iterator ≡ slot ∷ into_iter_items c.next.new.self = c.in-Some.ensures.steps.0 in (
      append_assoc at.yielded (slot ∷ []) (into_iter_items c.next.new.self) ∙ ap (λ l. at.yielded ++ l) (sym steps) ∙ at.invariant.0,
      subst (AllTwo Ends 0 (rows_of (at.yielded ++ slot ∷ []))) (sym c.in_ok-push.ensures.items)
          (subst (λ (rows : List Row). AllTwo Ends 0 rows (at.lines.items ++ c.in_ok-end.field-0 ∷ [])) (sym (rows_push at.yielded slot))
          (two_snoc Ends 0 (rows_of at.yielded) at.lines.items (row_of slot) c.in_ok-end.field-0 at.invariant.1 c.in_ok-end.ensures)),
      let was = at.invariant.2 in let gone = c.in-Some.ensures.steps.1 in let short = ap length steps in omega arith,
    )

pub returns : goal.returns
returns g c =
    let at = c.loop-slot in
    let none = c.in-None.ensures.steps in
    let empty : into_iter_items at.slot-iterator ≡ [] = nothing_left _ (sym at.invariant.2 ∙ none.0) in
    let all : at.yielded ≡ c.args.slots.items = sym (append-nil at.yielded) ∙ ap (λ l. at.yielded ++ l) (sym empty) ∙ at.invariant.0 ∙ c.into_iter-slot-iterator.ensures.into_iter_gives.0 in
    subst (λ (l : List SeatSlot). AllTwo Ends 0 (rows_of l) at.lines.items) all at.invariant.1
