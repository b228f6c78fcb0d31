use Rattle.std.proofs.Common.{◌∙◌, sym, subst}
use Rattle.node_world.specs.Ends.{PostsTo}
use Rattle.node_world.proofs.Clients.{posts}
use Rattle.node_world.proofs.Posting.{gone_posted}
use Rattle.node_world.proofs.script_node.ScriptNode.post_to.Goals as goal

pub returns-in_default : goal.returns-in_default
returns-in_default c =
    let old = c.args.self.now in
    subst (λ lines. PostsTo c.args.client c.args.outcome old lines old) (sym c.new.ensures) (gone_posted c.args.outcome old c.args.client (sym c.get.ensures ∙ sym c.copied.ensures ∙ c.in_default.is))

pub returns : goal.returns
returns c =
    posts c.args.self.now c.args.client c.in-Some.key c.post.new.self c.forget_if.new.clients (sym c.get.ensures ∙ sym c.copied.ensures ∙ c.in-Some.is) c.args.outcome c.in_ok-out.out c.in_ok-out.ensures.ok c.forget_if.ensures
