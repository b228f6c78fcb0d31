-- the words of the contracts
use Rattle.std.specs.Prelude.{◌≡◌, ℕ, List, map}
use Rattle.vb_turn.specs.declared.view.View.{View}
use Rattle.vb_turn.specs.declared.seat.Turn.{Turn}
use Rattle.vb_turn.specs.declared.seat.TurnSeat.{TurnSeat}

module _ {M C R : Type 0} where
  -- what a seat has seen and done
  abbrev pub view : TurnSeat M C R → View M (C × R)
  view t = t.own.me.0

  -- the history that the seat has seen
  abbrev pub seen : TurnSeat M C R → List (C × R)
  seen t = (view t).seen

  -- the seat's own calls, in order
  abbrev pub mine : TurnSeat M C R → List (C × R)
  mine t = map (λ x. x.1) (view t).mine

  -- where each of these stands in the history
  abbrev pub places_of : TurnSeat M C R → List ℕ
  places_of t = map (λ x. x.0) (view t).mine

  -- the seat is one of this turn's
  abbrev pub IsSeatOf : Turn M C R → TurnSeat M C R → Type 0
  IsSeatOf turn seat = seat.own.table_id ≡ turn.table.shared.table_id
