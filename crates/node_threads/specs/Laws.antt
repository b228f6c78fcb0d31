-- what holds of calls over seats, in other words
use Rattle.std.specs.Prelude.{◌≡◌, ◌≢◌, ◌↔◌, ℕ, ◌+◌, ◌≤◌, Bool, true, false, List, [], ◌∷◌, ◌++◌, length, Some, None, slice_get}
use Rattle.vb_types.specs.declared.role.Role.{Role}
use Rattle.vb_calls.specs.Plain.{Plain, plain_step}
use Rattle.vb_calls.specs.declared.calls.VbCall.{VbCall}
use Rattle.vb_calls.specs.declared.calls.VbReply.{VbReply}
use Rattle.vb_turn.specs.Laws.{behind}
use Rattle.vbucket.specs.Kept.{Kept}
use Rattle.vbucket.specs.Rows.{row_at}
use Rattle.vbucket.specs.Stands.{StandsFor}
use Rattle.node_threads.specs.Seats.{Row, number_of, seat_made, seat_step}

-- a seat made a call: at a place behind all that it had seen, where the reply is the plain vBucket's behind the calls before it, whoever made them
pub record TookTurn (x y : Row) (call : VbCall) (reply : VbReply) : Type 0 where
  pub place : ℕ
  pub seen : length x.view.seen ≤ place
  pub last : (length y.view.seen ≡ place + 1) × (slice_get y.view.seen place ≡ Some (call, reply))
  pub mine : y.view.mine ≡ x.view.mine ++ (place, (call, reply)) ∷ []
  pub kept : (k : ℕ) (e : VbCall × VbReply) → slice_get x.view.seen k ≡ Some e → slice_get y.view.seen k ≡ Some e
  pub answers : (o : Kept) → x.view.opening ≡ Some o → (vb : Plain) → StandsFor o vb → (plain_step (behind plain_step vb y.view.seen place) call).1 ≡ reply
  pub same : (y.number ≡ x.number) × (y.table ≡ x.table) × (y.view.opening ≡ x.view.opening) × (y.view.parts ≡ x.view.parts) × (y.view.known ≡ x.view.known)

-- a call that is answered is one turn of the seat of its vBucket, and of no other. None comes exactly where there is no such seat, and changes nothing
pub record CallsAreTurns : Type 0 where
  pub turn : (old new : List Row) (v : ℕ) (call : VbCall) (reply : VbReply) → seat_step old v call (Some reply) new
      → (x : Row) × (y : Row) × (row_at number_of v old ≡ Some x) × (row_at number_of v new ≡ Some y) × TookTurn x y call reply
  pub others : (old new : List Row) (v : ℕ) (call : VbCall) (reply : VbReply) → seat_step old v call (Some reply) new → (w : ℕ) → w ≢ v → row_at number_of w new ≡ row_at number_of w old
  pub none : (old new : List Row) (v : ℕ) (call : VbCall) → seat_step old v call None new → (row_at number_of v old ≡ None) × (new ≡ old)
  pub there : (old new : List Row) (v : ℕ) (call : VbCall) (reply : VbReply) → row_at number_of v old ≡ None → seat_step old v call (Some reply) new → ⊥

-- a vBucket is made exactly where there is no seat of its number, and nothing changes where there is one
pub record MakesExactly : Type 0 where
  pub fresh : (old new : List Row) (v node : ℕ) (role : Role) (uuid : ℕ) (fresh : Bool) → seat_made old v node role uuid fresh new → (fresh ≡ true) ↔ (row_at number_of v old ≡ None)
  pub kept : (old new : List Row) (v node : ℕ) (role : Role) (uuid : ℕ) → seat_made old v node role uuid false new → new ≡ old

-- seats of the vBuckets 3 and 5
abbrev pub two_seats : Row → Row → List Row
two_seats three five = record three { number = 3 } ∷ record five { number = 5 } ∷ []

-- a call to the vBucket 3, or to the vBucket 4, of which there is no seat
pub record SeatsInNumbers (three five : Row) (call : VbCall) (reply : VbReply) : Type 0 where
  pub silent : seat_step (two_seats three five) 3 call None (two_seats three five) → ⊥
  pub stays : seat_step (two_seats three five) 3 call (Some reply) (two_seats three five) → ⊥
  pub other : (five' : Row) → seat_step (two_seats three five) 3 call (Some reply) (two_seats three five') → ⊥
  pub unseated : (new : List Row) → seat_step (two_seats three five) 4 call (Some reply) new → ⊥
  pub nobody : seat_step (two_seats three five) 4 call None (two_seats three five)
  pub lost : seat_step (two_seats three five) 4 call None [] → ⊥
