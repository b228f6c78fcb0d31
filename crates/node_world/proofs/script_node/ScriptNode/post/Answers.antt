use Rattle.std.proofs.Common.{◌∙◌, sym, subst}
use Rattle.std.proofs.lemmas.Result.{IfOk-weaker}
use Rattle.node_world.specs.Ends.{Posts}
use Rattle.node_world.proofs.Posting.{none_posted, one_posted}
use Rattle.node_world.proofs.script_node.ScriptNode.post.Goals as goal

pub returns-in_default : goal.returns-in_default
returns-in_default c =
    let old = c.args.self.now in
    subst (λ lines. Posts c.args.outcome old lines old) (sym c.new.ensures) (none_posted c.args.outcome old (λ plain stands. sym c.in_default.is ∙ c.awaiting.ensures plain stands))

pub returns : goal.returns
returns c =
    let old = c.args.self.now in
    IfOk-weaker c.post_to.result _ _ (λ lines went. one_posted c.args.outcome old c.post_to.new.self c.in-Some.client lines (λ plain stands. sym c.in-Some.is ∙ c.awaiting.ensures plain stands) went) c.post_to.ensures
