-- the vBuckets of a node, by their places
use Rattle.std.proofs.Common.{◌≡◌, ℕ, Bool, true, false, List, [], ◌∷◌, ◌++◌, get_or, set, refl, ap, sym, ◌∙◌, Option, Some, None, subst}
use Rattle.std.specs.Prelude.{◌==◌, ◌||◌, if◌then◌else◌, is_some}
use Rattle.std.specs.List.{position}
use Rattle.std.proofs.lemmas.Bool.{eqb-true}
use Rattle.std.proofs.lemmas.List.Quantifiers.{position-Some}
use Rattle.vb_calls.specs.Plain.{Plain, plain_step}
use Rattle.vbucket.specs.Stands.{StandsFor}
use Rattle.vb_calls.specs.declared.calls.VbCall.{VbCall}
use Rattle.vb_calls.specs.declared.calls.VbReply.{VbReply}
use Rattle.vbucket.specs.declared.vb_map.VbSlot.{VbSlot}
use Rattle.vbucket.specs.Rows.{row_at}
use Rattle.vb_calls.specs.States.{States, with_vb_at, call_at, states_step}
use Rattle.vbucket.specs.Stands.{slot_number, has_slot, SlotStands, SlotsStand}
use Rattle.vbucket.proofs.RowsAt.{at_place, at_set, at_push}

no_slot : (o : Option Plain) → SlotStands None o → o ≡ None
no_slot None h = refl
no_slot (Some plain) h = absurd h

-- no vBucket of this number answers nothing
pub none_called : (slots : List VbSlot) (states : States) (v : ℕ) (call : VbCall) → row_at slot_number v slots ≡ None → SlotsStand slots states
    → (None ≡ (states_step states v call).1) × SlotsStand slots (states_step states v call).0
none_called slots states v call none stand =
    let e : states v ≡ None = no_slot (states v) (subst (λ o. SlotStands o (states v)) none (stand v)) in
    subst (λ o. (None ≡ (call_at states v call o).1) × SlotsStand slots (call_at states v call o).0) (sym e) (refl, stand)

-- slots in which the vBucket of one number changed
with_vb_stands : (slots others : List VbSlot) (states : States) (v : ℕ) (slot : VbSlot) (plain : Plain) → StandsFor slot.vb plain → SlotsStand slots states
    → ((w : ℕ) → row_at slot_number w others ≡ (if w == v then Some slot else row_at slot_number w slots)) → SlotsStand others (with_vb_at states v plain)
with_vb_stands slots others states v slot plain for stand rows = λ w. subst (λ o. SlotStands o (with_vb_at states v plain w)) (sym (rows w)) (by w (w == v))
  where
    by : (w : ℕ) (b : Bool) → SlotStands (if b then Some slot else row_at slot_number w slots) (if b then Some plain else states w)
    by w true = for
    by w false = stand w

called_at : (slots others : List VbSlot) (states : States) (v : ℕ) (call : VbCall) (old new : VbSlot) (reply : Option VbReply) (o : Option Plain) → SlotStands (Some old) o
    → ((s : Plain) → StandsFor old.vb s → StandsFor new.vb (plain_step s call).0 × (reply ≡ Some (plain_step s call).1)) → SlotsStand slots states
    → ((w : ℕ) → row_at slot_number w others ≡ (if w == v then Some new else row_at slot_number w slots))
    → (reply ≡ (call_at states v call o).1) × SlotsStand others (call_at states v call o).0
called_at slots others states v call old new reply None here step stand rows = absurd here
called_at slots others states v call old new reply (Some plain) here step stand rows =
    let stepped = step plain here in
    (stepped.1, with_vb_stands slots others states v new (plain_step plain call).0 stepped.0 stand rows)

-- a call to the vBucket at a place
pub some_called : (slots : List VbSlot) (states : States) (v : ℕ) (call : VbCall) (i : ℕ) (old new : VbSlot) (reply : Option VbReply)
    → position (λ slot. slot.number == v) slots ≡ Some i → old ≡ get_or slots i old → new.number ≡ old.number
    → ((s : Plain) → StandsFor old.vb s → StandsFor new.vb (plain_step s call).0 × (reply ≡ Some (plain_step s call).1)) → SlotsStand slots states
    → (reply ≡ (states_step states v call).1) × SlotsStand (set slots i new) (states_step states v call).0
some_called slots states v call i old new reply place is same step stand =
    let (lt, here, before) = position-Some (λ slot. slot.number == v) slots i old place in
    let there : row_at slot_number v slots ≡ Some old = at_place slot_number v slots i old lt here before ∙ ap Some (sym is) in
    let number : new.number ≡ v = same ∙ ap slot_number is ∙ eqb-true (get_or slots i old).number v here in
    called_at slots (set slots i new) states v call old new reply (states v) (subst (λ o. SlotStands o (states v)) there (stand v)) step stand
    (λ w. at_set slot_number v w slots i old new lt here before number)

-- one more vBucket
pub added : (slots : List VbSlot) (states : States) (v : ℕ) (slot : VbSlot) (plain : Plain) → row_at slot_number v slots ≡ None → slot.number ≡ v → StandsFor slot.vb plain → SlotsStand slots states
    → SlotsStand (slots ++ slot ∷ []) (with_vb_at states v plain)
added slots states v slot plain none same for stand =
    with_vb_stands slots (slots ++ slot ∷ []) states v slot plain for stand (λ w. at_push slot_number v w slots slot none same)

-- a call leaves which numbers there are
pub called_has : (slots : List VbSlot) (v i : ℕ) (old new : VbSlot) → position (λ slot. slot.number == v) slots ≡ Some i → old ≡ get_or slots i old → new.number ≡ old.number
    → (w : ℕ) → has_slot (set slots i new) w ≡ has_slot slots w
called_has slots v i old new place is same w =
    let (lt, here, before) = position-Some (λ slot. slot.number == v) slots i old place in
    let there : row_at slot_number v slots ≡ Some old = at_place slot_number v slots i old lt here before ∙ ap Some (sym is) in
    let number : new.number ≡ v = same ∙ ap slot_number is ∙ eqb-true (get_or slots i old).number v here in
    ap is_some (at_set slot_number v w slots i old new lt here before number) ∙ by there (w == v) refl
  where
    by : row_at slot_number v slots ≡ Some old → (b : Bool) → (w == v) ≡ b → is_some (if b then Some new else row_at slot_number w slots) ≡ has_slot slots w
    by there true e = sym (ap is_some (subst (λ n. row_at slot_number n slots ≡ Some old) (sym (eqb-true w v e)) there))
    by there false e = refl

-- one more number
pub added_has : (slots : List VbSlot) (v : ℕ) (slot : VbSlot) → row_at slot_number v slots ≡ None → slot.number ≡ v → (w : ℕ) → has_slot (slots ++ slot ∷ []) w ≡ (w == v || has_slot slots w)
added_has slots v slot none same w = ap is_some (at_push slot_number v w slots slot none same) ∙ by (w == v)
  where
    by : (b : Bool) → is_some (if b then Some slot else row_at slot_number w slots) ≡ (b || has_slot slots w)
    by true = refl
    by false = refl
