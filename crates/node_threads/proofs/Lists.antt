-- one place of the list of seats
use Rattle.std.proofs.Common.{◌≡◌, ℕ, zero, suc, List, [], ◌∷◌, ◌++◌, map, get_or, set, Option, Some, None, option_map, is_some, Bool, true, false, refl, sym, ap, ◌∙◌, subst, arith, Result, Ok, Err}
use Rattle.std.specs.Prelude.{◌==◌, ◌||◌, ◌↔◌, if◌then◌else◌, nat_eq, OnErr, length}
use Rattle.std.specs.List.{position}
use Rattle.std.proofs.lemmas.List.{append-nil}
use Rattle.std.proofs.lemmas.Bool.{eqb-true}
use Rattle.std.proofs.lemmas.List.Quantifiers.{position-Some}
use Rattle.vb_calls.specs.declared.calls.VbCall.{VbCall}
use Rattle.vb_calls.specs.declared.calls.VbReply.{VbReply}
use Rattle.vb_calls.specs.Programs.{one}
use Rattle.vb_types.specs.declared.role.Role.{Role}
use Rattle.vb_told.specs.Laws.{ListsCalls, ListsNoMakes}
use Rattle.vbucket.specs.Rows.{row_at}
use Rattle.vbucket.proofs.RowsAt.{at_place, at_set, at_push, placed, not_placed}
use Rattle.vb_turn.specs.Words.{view}
use Rattle.node_threads.specs.declared.slot.SeatSlot.{SeatSlot}
use Rattle.node_threads.specs.Laws.{MakesExactly}
use Rattle.node_threads.specs.Seats.{VbView, Row, number_of, slot_number, row_of, rows_of, has_row, CalledVb, With, seat_made, seat_step, mine_in, mine_of}

rows_at : (v : ℕ) (slots : List SeatSlot) → row_at number_of v (rows_of slots) ≡ option_map row_of (row_at slot_number v slots)
rows_at v [] = refl
rows_at v (s ∷ ss) = by (s.number == v) _ _ (rows_at v ss)
  where
    by : (b : Bool) (xs : Option Row) (rest : Option SeatSlot) → xs ≡ option_map row_of rest → (if b then Some (row_of s) else xs) ≡ option_map row_of (if b then Some s else rest)
    by true xs rest e = refl
    by false xs rest e = e

is_some_map : {A B : Type 0} (f : A → B) (o : Option A) → is_some (option_map f o) ≡ is_some o
is_some_map f None = refl
is_some_map f (Some a) = refl

-- there is a seat of this number exactly where it has a place
pub has_at : (slots : List SeatSlot) (v : ℕ) → is_some (position (λ (s : SeatSlot). s.number == v) slots) ≡ has_row (rows_of slots) v
has_at slots v = placed slot_number v slots ∙ (sym (is_some_map row_of (row_at slot_number v slots)) ∙ sym (ap is_some (rows_at v slots)))

pub none_at : (slots : List SeatSlot) (v : ℕ) → position (λ (s : SeatSlot). s.number == v) slots ≡ None → row_at number_of v (rows_of slots) ≡ None
none_at slots v place = rows_at v slots ∙ ap (option_map row_of) (not_placed slot_number v slots place)

module _ (old new : SeatSlot) (number : new.number ≡ old.number) (table : (row_of new).table ≡ (row_of old).table) where
  -- the row of a seat that has made a call, or none
  new_row : row_of new ≡ record (row_of old) { view = view new.seat }
  new_row j = record { number = number j; table = table j; view = view new.seat }

  same_row : view new.seat ≡ view old.seat → row_of new ≡ row_of old
  same_row e j = record { number = number j; table = table j; view = e j }

  pub same_rows : (slots : List SeatSlot) (i : ℕ) → old ≡ get_or slots i old → view new.seat ≡ view old.seat → rows_of (set slots i new) ≡ rows_of slots
  same_rows [] i is e = refl
  same_rows (x ∷ xs) zero is e = ap (λ (r : Row). r ∷ rows_of xs) (same_row e ∙ ap row_of is)
  same_rows (x ∷ xs) (suc i) is e = ap (λ rs. row_of x ∷ rs) (same_rows xs i is e)

  module _ (slots : List SeatSlot) (v i : ℕ) (place : position (λ (s : SeatSlot). s.number == v) slots ≡ Some i) (is : old ≡ get_or slots i old) where
    there : row_at slot_number v slots ≡ Some old
    there = let (lt, here, before) = position-Some (λ (s : SeatSlot). s.number == v) slots i old place in
        at_place slot_number v slots i old lt here before ∙ ap Some (sym is)

    old_number : old.number ≡ v
    old_number = let (lt, here, before) = position-Some (λ (s : SeatSlot). s.number == v) slots i old place in
        ap slot_number is ∙ eqb-true (get_or slots i old).number v here

    pub row_there : row_at number_of v (rows_of slots) ≡ Some (row_of old)
    row_there = rows_at v slots ∙ ap (option_map row_of) there

    pub with_row : With v (record (row_of old) { view = view new.seat }) (rows_of slots) (rows_of (set slots i new))
    with_row w =
        let (lt, here, before) = position-Some (λ (s : SeatSlot). s.number == v) slots i old place in
        rows_at w (set slots i new) ∙ (ap (option_map row_of) (at_set slot_number v w slots i old new lt here before (number ∙ old_number)) ∙ by (w == v))
      where
        by : (b : Bool) → option_map row_of (if b then Some new else row_at slot_number w slots) ≡ (if b then Some (record (row_of old) { view = view new.seat }) else row_at number_of w (rows_of slots))
        by true = ap Some new_row
        by false = sym (rows_at w slots)

    pub keeps_rows : (w : ℕ) → has_row (rows_of (set slots i new)) w ≡ has_row (rows_of slots) w
    keeps_rows w = ap is_some (with_row w) ∙ by (w == v) refl
      where
        by : (b : Bool) → (w == v) ≡ b → is_some (if b then Some (record (row_of old) { view = view new.seat }) else row_at number_of w (rows_of slots)) ≡ has_row (rows_of slots) w
        by true e = sym (ap is_some (subst (λ n. row_at number_of n (rows_of slots) ≡ Some (row_of old)) (sym (eqb-true w v e)) row_there))
        by false e = refl

none_of : (o : Option Row) → is_some o ≡ false → o ≡ None
none_of None e = refl
none_of (Some row) e = cc

pub no_row : (rows : List Row) (v : ℕ) → has_row rows v ≡ false → row_at number_of v rows ≡ None
no_row rows v e = none_of (row_at number_of v rows) e

pub rows_push : (slots : List SeatSlot) (s : SeatSlot) → rows_of (slots ++ s ∷ []) ≡ rows_of slots ++ row_of s ∷ []
rows_push [] s = refl
rows_push (x ∷ xs) s = ap (λ rs. row_of x ∷ rs) (rows_push xs s)

pub more_rows : (rows : List Row) (v : ℕ) (row : Row) → row_at number_of v rows ≡ None → row.number ≡ v → (w : ℕ) → has_row (rows ++ row ∷ []) w ≡ (w == v || has_row rows w)
more_rows rows v row none same w = ap is_some (at_push number_of v w rows row none same) ∙ by (w == v)
  where
    by : (b : Bool) → is_some (if b then Some row else row_at number_of w rows) ≡ (b || has_row rows w)
    by true = refl
    by false = refl

map_append : {X Y : Type 0} (f : X → Y) (xs ys : List X) → map f (xs ++ ys) ≡ map f xs ++ map f ys
map_append f [] ys = refl
map_append f (x ∷ xs) ys = ap (λ l. f x ∷ l) (map_append f xs ys)

mine_next : (x y : VbView) (call : VbCall) (reply : VbReply) → CalledVb x call reply y → map (λ t. t.1) y.mine ≡ map (λ t. t.1) x.mine ++ (call, reply) ∷ []
mine_next x y call reply called = ap (λ (u : VbView). map (λ t. t.1) u.mine) called.new ∙ map_append (λ t. t.1) x.mine ((length called.base, (call, reply)) ∷ [])

one_at : (old : List Row) (v w : ℕ) (x : Row) (y : VbView) (call : VbCall) (reply : VbReply) (b : Bool) → (w == v) ≡ b → row_at number_of v old ≡ Some x → CalledVb x.view call reply y
    → mine_in (if b then Some (record x { view = y }) else row_at number_of w old) ≡ mine_of old w ++ one b call (Some reply)
one_at old v w x y call reply true e at called =
    mine_next x.view y call reply called ∙ ap (λ l. l ++ (call, reply) ∷ []) (sym (ap mine_in (subst (λ n. row_at number_of n old ≡ Some x) (sym (eqb-true w v e)) at)))
one_at old v w x y call reply false e at called = sym (append-nil (mine_of old w))

eq_other : (w v : ℕ) (b : Bool) → (w == v) ≡ b → nat_eq v w ≡ b
eq_other w v true e = grind (arith, e)
eq_other w v false e = grind (arith, e)

none_one : (b : Bool) (call : VbCall) → one b call None ≡ []
none_one true call = refl
none_one false call = refl

-- a call over seats enters the list of its own seat, with its reply
pub told : ListsCalls seat_step mine_of
told old v call None new (none, same) w = ap (λ (rows : List Row). mine_of rows w) same ∙ (sym (append-nil (mine_of old w)) ∙ ap (λ l. mine_of old w ++ l) (sym (none_one (nat_eq v w) call)))
told old v call (Some reply) new (x, y, at, called, with) w =
    ap mine_in (with w) ∙ (one_at old v w x y call reply (w == v) refl at called ∙ ap (λ (b : Bool). mine_of old w ++ one b call (Some reply)) (sym (eq_other w v (w == v) refl)))

-- a seat that called nothing, behind all others
added : (rows : List Row) (row : Row) → row.view.mine ≡ [] → (w : ℕ) → mine_of (rows ++ row ∷ []) w ≡ mine_of rows w
added [] row e w = by (row.number == w)
  where
    by : (b : Bool) → mine_in (if b then Some row else None) ≡ []
    by true = ap (λ (l : List (ℕ × (VbCall × VbReply))). map (λ t. t.1) l) e
    by false = refl
added (x ∷ xs) row e w = by (x.number == w) (row_at number_of w (xs ++ row ∷ [])) (row_at number_of w xs) (added xs row e w)
  where
    by : (b : Bool) (rest' rest : Option Row) → mine_in rest' ≡ mine_in rest → mine_in (if b then Some x else rest') ≡ mine_in (if b then Some x else rest)
    by true rest' rest same = refl
    by false rest' rest same = same

-- one that is made enters none
pub made_quietly : ListsNoMakes seat_made mine_of
made_quietly old v node role uuid true new (_, (table, o, stands, is)) w =
    ap (λ (rows : List Row). mine_of rows w) is ∙ (added old _ refl w ∙ sym (append-nil (mine_of old w)))
made_quietly old v node role uuid false new (_, is) w = ap (λ (rows : List Row). mine_of rows w) is ∙ sym (append-nil (mine_of old w))

-- and one is made exactly where there is no seat of its number
has_none : (o : Option Row) → o ≡ None → is_some o ≡ true → ⊥
has_none None e t = cc
has_none (Some row) e t = cc

pub makes_exactly : MakesExactly
makes_exactly = record {
  fresh = λ old new v node role uuid fresh made. by old new v node role uuid fresh made;
  kept = λ old new v node role uuid made. made.1;
}
  where
    by : (old new : List Row) (v node : ℕ) (role : Role) (uuid : ℕ) (fresh : Bool) → seat_made old v node role uuid fresh new → (fresh ≡ true) ↔ (row_at number_of v old ≡ None)
    by old new v node role uuid true made = (λ e. no_row old v made.0, λ e. refl)
    by old new v node role uuid false made = (λ e. cc, λ e. absurd (has_none (row_at number_of v old) e made.0))

pub on_err : {A E : Type 0} (P : Type 0) (r : Result A E) → P → OnErr r P
on_err P (Ok x) p = tt
on_err P (Err e) p = p
