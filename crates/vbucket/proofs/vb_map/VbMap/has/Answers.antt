use Rattle.std.proofs.Common.{◌∙◌, ap, is_some, List, ◌==◌}
use Rattle.std.specs.List.{position}
use Rattle.vbucket.specs.declared.vb_map.VbSlot.{VbSlot}
use Rattle.vbucket.specs.Rows.{row_at}
use Rattle.vbucket.specs.Stands.{slot_number}
use Rattle.vbucket.proofs.RowsAt.{placed}
use Rattle.vbucket.proofs.vb_map.VbMap.has.Goals as goal

pub returns : goal.returns
returns c = let e = placed slot_number c.args.v c.self.inside.slots.items in c.is_some.ensures ∙ ap is_some c.slot_place.ensures ∙ ap (λ (slots : List VbSlot). is_some (position (λ slot. slot.number == c.args.v) slots)) c.deref.ensures.value ∙ e ∙ ap (λ slots. is_some (row_at slot_number c.args.v slots)) c.self.view_is
