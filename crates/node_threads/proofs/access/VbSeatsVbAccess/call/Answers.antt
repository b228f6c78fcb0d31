use Rattle.std.proofs.Common.{◌≡◌, sym, ◌∙◌, ap, subst, set, List, None, Some, refl}
use Rattle.std.specs.Prelude.{◌==◌, is_some}
use Rattle.std.specs.List.{position}
use Rattle.vbucket.specs.Rows.{row_at}
use Rattle.vb_turn.specs.Words.{view}
use Rattle.node_threads.specs.declared.slot.SeatSlot.{SeatSlot}
use Rattle.node_threads.specs.Seats.{Row, number_of, row_of, rows_of, has_row, With}
use Rattle.node_threads.proofs.Lists.{none_at, has_at, same_rows, row_there, with_row, keeps_rows, on_err}
use Rattle.node_threads.proofs.access.VbSeatsVbAccess.call.Goals as goal

pub returns-in_err-reply-in-Some-clause-keeps : goal.returns-in_err-reply-in-Some-clause-keeps
returns-in_err-reply-in-Some-clause-keeps g c = λ w.
    let e = c.in_err-reply-in-Some.ensures in
    ap (λ (rows : List Row). has_row rows w)
    (same_rows c.index_mut.result.now c.call_slot.new.slot e.same.0 e.same.1 c.self.inside.slots.items c.in-Some.at c.index_mut.ensures.value e.err ∙ c.self.view_is)

pub returns-in_err-reply-in-Some-clause-err : goal.returns-in_err-reply-in-Some-clause-err
returns-in_err-reply-in-Some-clause-err g c =
    let e = c.in_err-reply-in-Some.ensures in
    on_err _ c.from_residual.result
    (same_rows c.index_mut.result.now c.call_slot.new.slot e.same.0 e.same.1 c.self.inside.slots.items c.in-Some.at c.index_mut.ensures.value e.err ∙ c.self.view_is)

pub returns-in-None-clause-ok : goal.returns-in-None-clause-ok
returns-in-None-clause-ok g c =
    let slots : List SeatSlot = c.self.inside.slots.items in
    let place : position (λ (s : SeatSlot). s.number == c.args.v) slots ≡ None =
    ap (λ (slots : List SeatSlot). position (λ s. s.number == c.args.v) slots) (sym c.deref.ensures.value) ∙ sym c.slot_place.ensures ∙ c.in-None.is in
    (subst (λ (rows : List Row). row_at number_of c.args.v rows ≡ None) c.self.view_is (none_at slots c.args.v place), refl)

pub returns-in-None-clause-there : goal.returns-in-None-clause-there
returns-in-None-clause-there g c =
    let slots : List SeatSlot = c.self.inside.slots.items in
    let place : position (λ (s : SeatSlot). s.number == c.args.v) slots ≡ None =
    ap (λ (slots : List SeatSlot). position (λ s. s.number == c.args.v) slots) (sym c.deref.ensures.value) ∙ sym c.slot_place.ensures ∙ c.in-None.is in
    sym (ap is_some place) ∙ (has_at slots c.args.v ∙ ap (λ (rows : List Row). has_row rows c.args.v) c.self.view_is)

pub returns-in_ok-reply-in-Some-clause-ok : goal.returns-in_ok-reply-in-Some-clause-ok
returns-in_ok-reply-in-Some-clause-ok g c =
    let e = c.in_ok-reply-in-Some.ensures in
    let slots : List SeatSlot = c.self.inside.slots.items in
    let old : SeatSlot = c.index_mut.result.now in
    let new : SeatSlot = c.call_slot.new.slot in
    let place : position (λ (s : SeatSlot). s.number == c.args.v) slots ≡ Some c.in-Some.at =
    ap (λ (slots : List SeatSlot). position (λ s. s.number == c.args.v) slots) (sym c.deref.ensures.value) ∙ sym c.slot_place.ensures ∙ c.in-Some.is in
    let row : Row = record (row_of old) { view = view new.seat } in (
      row_of old,
      view new.seat,
      subst (λ (rows : List Row). row_at number_of c.args.v rows ≡ Some (row_of old)) c.self.view_is (row_there old new e.same.0 e.same.1 slots c.args.v c.in-Some.at place c.index_mut.ensures.value),
      e.ok,
      subst (λ (rows : List Row). With c.args.v row rows (rows_of (set slots c.in-Some.at new))) c.self.view_is (with_row old new e.same.0 e.same.1 slots c.args.v c.in-Some.at place c.index_mut.ensures.value),
    )

pub returns-in_ok-reply-in-Some-clause-there : goal.returns-in_ok-reply-in-Some-clause-there
returns-in_ok-reply-in-Some-clause-there g c =
    let slots : List SeatSlot = c.self.inside.slots.items in
    let place : position (λ (s : SeatSlot). s.number == c.args.v) slots ≡ Some c.in-Some.at =
    ap (λ (slots : List SeatSlot). position (λ s. s.number == c.args.v) slots) (sym c.deref.ensures.value) ∙ sym c.slot_place.ensures ∙ c.in-Some.is in
    sym (ap is_some place) ∙ (has_at slots c.args.v ∙ ap (λ (rows : List Row). has_row rows c.args.v) c.self.view_is)

pub returns-in_ok-reply-in-Some-clause-keeps : goal.returns-in_ok-reply-in-Some-clause-keeps
returns-in_ok-reply-in-Some-clause-keeps g c = λ w.
    let e = c.in_ok-reply-in-Some.ensures in
    let slots : List SeatSlot = c.self.inside.slots.items in
    let place : position (λ (s : SeatSlot). s.number == c.args.v) slots ≡ Some c.in-Some.at =
    ap (λ (slots : List SeatSlot). position (λ s. s.number == c.args.v) slots) (sym c.deref.ensures.value) ∙ sym c.slot_place.ensures ∙ c.in-Some.is in
    keeps_rows c.index_mut.result.now c.call_slot.new.slot e.same.0 e.same.1 slots c.args.v c.in-Some.at place c.index_mut.ensures.value w
    ∙ ap (λ (rows : List Row). has_row rows w) c.self.view_is
