use Rattle.std.proofs.Common.{sym, subst, None}
use Rattle.node_world.specs.Ends.{Carries}
use Rattle.node_world.specs.Lines.{counted, made_unless}
use Rattle.node_world.specs.Stands.{node_number}
use Rattle.node_world.proofs.Making.{makes}
use Rattle.node_world.proofs.script_node.ScriptNode.make.Goals as goal

pub returns : goal.returns
returns c =
    let old = c.args.self.now in
    let left = c.lift_arm.new.self in
    subst (λ refused. Carries (made_unless refused (node_number old) c.args.v c.args.role c.args.uuid) old c.of.result c.count.new.self) (sym c.in_default.is)
    (subst (λ new. Carries (made_unless None (node_number old) c.args.v c.args.role c.args.uuid) old c.of.result new) (sym c.count.ensures)
    (subst (λ told. Carries (made_unless None (node_number old) c.args.v c.args.role c.args.uuid) old told (record left { made = counted c.in_ok-out.out.answer left.made })) (sym c.of.ensures)
    (makes old c.has.new.self c.add_disk.new.self c.place_arm.new.self left c.in_ok-has.field-0 c.args.v c.args.role c.args.uuid c.in_ok-out.out c.make_vb.new.self c.if-branch.false c.in_ok-has.ensures c.in_ok-add_disk.ensures c.place_arm.ensures c.in_ok-out.ensures.ok c.lift_arm.ensures)))
