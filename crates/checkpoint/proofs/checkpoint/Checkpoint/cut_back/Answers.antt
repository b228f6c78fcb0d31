use Rattle.std.proofs.Common.{ap, ◌∙◌}
use Rattle.branch_model.specs.Histories.{last_seq}
use Rattle.vb_types.specs.Histories.{upto}
use Rattle.checkpoint.specs.Checkpoints.{Ckpt, cut_to}
use Rattle.checkpoint.proofs.Cuts.{measured_to}
use Rattle.checkpoint.proofs.checkpoint.Checkpoint.cut_back.Goals as goal

pub invariant_of-self : goal.invariant_of-self
invariant_of-self c = (
  c.cut-freed.ensures.finds,
  measured_to c.self.inside.above c.self.inside.last c.self.inside.weight c.cut-freed.result c.args.last c.self.inside.changes c.cut-freed.new.changes c.self.invariant.1
      c.cut-freed.ensures.changes c.cut-freed.ensures.weight (ap (λ (k : Ckpt). last_seq k.above (upto k.items c.args.last)) c.self.view_is ∙ c.requires),
)

pub returns : goal.returns
returns c =
    ap (λ items. record { above = c.self.inside.above; origin = c.self.inside.origin; items = items }) c.cut-freed.ensures.changes
    ∙ ap (cut_to c.args.last) c.self.view_is
