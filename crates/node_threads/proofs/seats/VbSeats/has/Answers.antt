use Rattle.std.proofs.Common.{◌∙◌, ap, List}
use Rattle.std.specs.Prelude.{◌==◌, is_some}
use Rattle.std.specs.List.{position}
use Rattle.node_threads.specs.declared.slot.SeatSlot.{SeatSlot}
use Rattle.node_threads.specs.Seats.{Row, has_row}
use Rattle.node_threads.proofs.Lists.{has_at}
use Rattle.node_threads.proofs.seats.VbSeats.has.Goals as goal

pub returns : goal.returns
returns g c =
    c.is_some.ensures ∙ (ap is_some c.slot_place.ensures
    ∙ (ap (λ (slots : List SeatSlot). is_some (position (λ s. s.number == c.args.v) slots)) c.deref.ensures.value
    ∙ (has_at c.self.inside.slots.items c.args.v ∙ ap (λ (rows : List Row). has_row rows c.args.v) c.self.view_is)))
