use Rattle.std.proofs.Common.{◌≡◌, sym, ◌∙◌, ap, subst, List, None, Some}
use Rattle.std.specs.Prelude.{◌==◌, is_some}
use Rattle.std.specs.List.{position}
use Rattle.std.proofs.lemmas.Result.{IfOk-weaker}
use Rattle.vbucket.specs.declared.vb_map.VbSlot.{VbSlot}
use Rattle.vbucket.specs.Stands.{slot_number, has_slot, SlotsStand}
use Rattle.vbucket.proofs.RowsAt.{placed, not_placed}
use Rattle.vbucket.proofs.Slots.{some_called, none_called, called_has}
use Rattle.vbucket.proofs.vb_map.VbMapVbAccess.call.Goals as goal

pub returns-in-None-clause-ok : goal.returns-in-None-clause-ok
returns-in-None-clause-ok c = λ states stand.
    let place : position (λ (slot : VbSlot). slot.number == c.args.v) c.args.self.now ≡ None =
    ap (λ (slots : List VbSlot). position (λ slot. slot.number == c.args.v) slots) (sym c.self.view_is ∙ sym c.deref.ensures.value) ∙ sym c.slot_place.ensures ∙ c.in-None.is in
    none_called c.args.self.now states c.args.v c.args.call (not_placed slot_number c.args.v c.args.self.now place) stand

pub returns-in-Some-clause-ok : goal.returns-in-Some-clause-ok
returns-in-Some-clause-ok c =
    let slots : List VbSlot = c.self.inside.slots.items in
    let place : position (λ (slot : VbSlot). slot.number == c.args.v) slots ≡ Some c.in-Some.at =
    ap (λ (slots : List VbSlot). position (λ slot. slot.number == c.args.v) slots) (sym c.deref.ensures.value) ∙ sym c.slot_place.ensures ∙ c.in-Some.is in
    IfOk-weaker c.step_slot.result _ _
    (λ reply stepped states stand.
    some_called slots states c.args.v c.args.call c.in-Some.at c.index_mut.result.now c.step_slot.new.slot reply
    place c.index_mut.ensures.value c.step_slot.ensures.number stepped (subst (λ s. SlotsStand s states) (sym c.self.view_is) stand))
    c.step_slot.ensures.ok

pub returns-in-None-clause-there : goal.returns-in-None-clause-there
returns-in-None-clause-there c =
    let place : position (λ (slot : VbSlot). slot.number == c.args.v) c.args.self.now ≡ None =
    ap (λ (slots : List VbSlot). position (λ slot. slot.number == c.args.v) slots) (sym c.self.view_is ∙ sym c.deref.ensures.value) ∙ sym c.slot_place.ensures ∙ c.in-None.is in
    sym (ap is_some (not_placed slot_number c.args.v c.args.self.now place))

pub returns-in-Some-clause-there : goal.returns-in-Some-clause-there
returns-in-Some-clause-there c =
    let slots : List VbSlot = c.self.inside.slots.items in
    let place : position (λ (slot : VbSlot). slot.number == c.args.v) slots ≡ Some c.in-Some.at =
    ap (λ (slots : List VbSlot). position (λ slot. slot.number == c.args.v) slots) (sym c.deref.ensures.value) ∙ sym c.slot_place.ensures ∙ c.in-Some.is in
    IfOk-weaker c.step_slot.result _ _
    (λ reply some. some ∙ sym (ap is_some place) ∙ placed slot_number c.args.v slots ∙ ap (λ (s : List VbSlot). has_slot s c.args.v) c.self.view_is)
    c.step_slot.ensures.there

pub returns-in-Some-clause-keeps : goal.returns-in-Some-clause-keeps
returns-in-Some-clause-keeps c = λ w.
    let slots : List VbSlot = c.self.inside.slots.items in
    let place : position (λ (slot : VbSlot). slot.number == c.args.v) slots ≡ Some c.in-Some.at =
    ap (λ (slots : List VbSlot). position (λ slot. slot.number == c.args.v) slots) (sym c.deref.ensures.value) ∙ sym c.slot_place.ensures ∙ c.in-Some.is in
    called_has slots c.args.v c.in-Some.at c.index_mut.result.now c.step_slot.new.slot place c.index_mut.ensures.value c.step_slot.ensures.number w
    ∙ ap (λ (s : List VbSlot). has_slot s w) c.self.view_is
