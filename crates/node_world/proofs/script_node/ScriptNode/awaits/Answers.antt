use Rattle.std.proofs.Common.{◌∙◌, ap, sym}
use Rattle.std.specs.Option.{option_copied}
use Rattle.node_world.specs.Nodes.{awaits_in}
use Rattle.node_world.proofs.Posting.{awaits_as, unkeyed}
use Rattle.node_world.proofs.script_node.ScriptNode.awaits.Goals as goal

pub returns-in-Some : goal.returns-in-Some
returns-in-Some c = λ plain stands. c.awaits.ensures ∙ sym (awaits_as c.args.self.now plain c.args.waiter c.args.client c.in-Some.key.now (sym c.get.ensures ∙ ap option_copied c.in-Some.is) stands)

pub returns-in-None : goal.returns-in-None
returns-in-None c = λ plain stands. sym (ap (awaits_in c.args.waiter) (unkeyed c.args.self.now plain c.args.client (sym c.get.ensures ∙ ap option_copied c.in-None.is) stands))
