use Rattle.vb_types.specs.declared.change.Change.{Change}
use Rattle.ckpt_list.proofs.Sheds.{back_sorted, front_sorted}
use Rattle.ckpt_list.proofs.parts.copies.Goals as goal

pub stretch-requires : goal.stretch-requires
stretch-requires c = front_sorted (λ (d : Change). d.seq) _ _ _ c.as_slices.ensures.items c.requires

pub stretch-requires-2 : goal.stretch-requires-2
stretch-requires-2 c = back_sorted (λ (d : Change). d.seq) _ _ _ c.as_slices.ensures.items c.requires
