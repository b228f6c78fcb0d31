use Rattle.std.proofs.Common.{◌∙◌, Bool, ap, sym}
use Rattle.std.specs.Prelude.{◌||◌}
use Rattle.vbucket.specs.Rows.{row_at}
use Rattle.node_world.specs.Links.{link_number}
use Rattle.node_world.specs.Power.{is_touched}
use Rattle.node_world.proofs.world.World.is_ended.Goals as goal

pub returns-then-is_this_number : goal.returns-then-is_this_number
returns-then-is_this_number c = λ w stands. sym (ap (λ (b : Bool). b || is_touched c.args.n (row_at link_number c.args.link w.links)) (sym c.is_this_number.ensures ∙ c.if-is_this_number.true))

pub returns : goal.returns
returns c = λ w stands. c.is_touched.ensures w stands ∙ sym (ap (λ (b : Bool). b || is_touched c.args.n (row_at link_number c.args.link w.links)) (sym c.is_this_number.ensures ∙ c.if-is_this_number.false))
