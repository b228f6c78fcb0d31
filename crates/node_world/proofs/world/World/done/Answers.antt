use Rattle.std.proofs.Common.{◌∙◌, sym}
use Rattle.std.proofs.lemmas.Result.{IfOk-weaker}
use Rattle.vb_types.specs.declared.journal.FlushPart.TheVariants as part
use Rattle.node_world.specs.Nodes.{flush_line}
use Rattle.node_world.specs.Worlds.{on_node}
use Rattle.node_world.proofs.Dues.{due_after, not_due}
use Rattle.node_world.proofs.world.World.done.Goals as goal

pub returns-then-is_counted : goal.returns-then-is_counted
returns-then-is_counted c = IfOk-weaker c.acknowledge.result _ _ (λ came known w stands.
    let (after, said) = c.in_ok-told.ensures w stands in
    let x = on_node w c.args.n (flush_line c.args.n c.args.v part.Done) in
    due_after c.args.n c.args.v c.acknowledge.new.self c.in_ok-told.told came x said (sym c.is_counted.ensures ∙ c.if-is_counted.true) (known x.0 after)) c.acknowledge.ensures

pub returns : goal.returns
returns c = λ w stands.
    let (after, said) = c.in_ok-told.ensures w stands in
    let x = on_node w c.args.n (flush_line c.args.n c.args.v part.Done) in
    not_due c.args.n c.args.v c.on_node.new.self c.in_ok-told.told x said (sym c.is_counted.ensures ∙ c.if-is_counted.false) after
