-- what a call over seats does
use Rattle.std.specs.Prelude.{◌≡◌, ℕ, ◌==◌, Bool, true, false, if◌then◌else◌, List, [], ◌∷◌, ◌++◌, map, Option, Some, None, is_some}
use Rattle.atomic_table.specs.Seated.{TableId}
use Rattle.vb_types.specs.declared.role.Role.{Role}
use Rattle.vb_calls.specs.Plain.{Plain, new_vb, plain_step}
use Rattle.vb_calls.specs.declared.calls.VbCall.{VbCall}
use Rattle.vb_calls.specs.declared.calls.VbReply.{VbReply}
use Rattle.vb_turn.specs.declared.view.View.{View}
use Rattle.vb_turn.specs.Seats.{Called}
use Rattle.vb_turn.specs.Turning.{opened}
use Rattle.vb_turn.specs.Words.{view}
use Rattle.vbucket.specs.Highs.{high_of}
use Rattle.vbucket.specs.Kept.{Kept}
use Rattle.vbucket.specs.Rows.{row_at}
use Rattle.vbucket.specs.Stands.{StandsFor}
use Rattle.node_threads.specs.declared.slot.SeatSlot.{SeatSlot}

-- what a seat of a vBucket has seen and done
abbrev pub VbView : Type 0
VbView = View Kept (VbCall × VbReply)

-- a seat: the number of its vBucket, the table of its turn, and what it has seen and done
pub record Row : Type 0 where
  pub number : ℕ
  pub table : TableId
  pub view : VbView

abbrev pub number_of : Row → ℕ
number_of row = row.number

abbrev pub slot_number : SeatSlot → ℕ
slot_number slot = slot.number

abbrev pub row_of : SeatSlot → Row
row_of slot = record { number = slot.number; table = slot.seat.own.table_id; view = view slot.seat }

abbrev pub rows_of : List SeatSlot → List Row
rows_of slots = map row_of slots

-- there is a seat of the vBucket of this number
abbrev pub has_row : List Row → ℕ → Bool
has_row rows v = is_some (row_at number_of v rows)

-- the call stands at the end of one legal history of the vBucket, which begins with all that its seat had seen
abbrev pub CalledVb : VbView → VbCall → VbReply → VbView → Type 0
CalledVb old call reply new = Called StandsFor plain_step high_of old (call, reply) new

-- the seats after that of v came to be this one: no other changed
abbrev pub With : ℕ → Row → List Row → List Row → Type 0
With v row old new = (w : ℕ) → row_at number_of w new ≡ (if w == v then Some row else row_at number_of w old)

-- a call to the vBucket v, if there is a seat of it
abbrev pub seat_step : List Row → ℕ → VbCall → Option VbReply → List Row → Type 0
seat_step old v call None new = (row_at number_of v old ≡ None) × (new ≡ old)
seat_step old v call (Some reply) new =
    (x : Row) × (y : VbView) × (row_at number_of v old ≡ Some x) × CalledVb x.view call reply y × With v (record x { view = y }) old new

-- a vBucket that is new: its seat has all parts, and nobody has called it
abbrev pub Opens : ℕ → Plain → List Row → List Row → Type 0
Opens v plain old new = (table : TableId) × (o : Kept) × StandsFor o plain × (new ≡ old ++ record { number = v; table = table; view = opened o } ∷ [])

-- what is known where a vBucket is to be made: it is, exactly where there is no seat of its number, and else nothing changes
abbrev pub seat_made : List Row → ℕ → ℕ → Role → ℕ → Bool → List Row → Type 0
seat_made old v node role uuid true new = (has_row old v ≡ false) × Opens v (new_vb node role uuid) old new
seat_made old v node role uuid false new = (has_row old v ≡ true) × (new ≡ old)

-- the calls of a seat, each with its reply, in order
abbrev pub mine_in : Option Row → List (VbCall × VbReply)
mine_in None = []
mine_in (Some row) = map (λ t. t.1) row.view.mine

-- the calls to the vBucket w that were made by this seat
abbrev pub mine_of : List Row → ℕ → List (VbCall × VbReply)
mine_of rows w = mine_in (row_at number_of w rows)
