use Rattle.std.proofs.Common.{List, ◌∙◌, ap, subst}
use Rattle.vb_calls.specs.declared.calls.Resolved.{Resolved}
use Rattle.node_core.specs.declared.out.NodeOut.{NodeOut}
use Rattle.node_world.specs.Ends.{PostsAll}
use Rattle.node_world.proofs.Frames.{answers_peer}
use Rattle.node_world.proofs.Nodes.{inside}
use Rattle.node_world.proofs.Peers.{answers_frame}
use Rattle.node_world.proofs.script_node.ScriptNode.answer_peer.Goals as goal

pub returns : goal.returns
returns c =
    let old = c.args.self.now in
    let out : NodeOut = c.in_ok-out.out in
    let mid = inside old c.answer.new.self in
    answers_peer c.args.key c.args.frame.now old mid c.post_all.new.self out (record out { events = c.post_all.new.lines; resolved = c.replace-outcomes.new.dest }) c.post_all.new.lines
    (answers_frame old c.args.key out c.answer.new.self c.args.frame.now c.in_ok-out.ensures.ok)
    (subst (λ (rs : List Resolved). PostsAll rs mid out.events c.post_all.new.self c.post_all.new.lines) (c.as_slice.ensures ∙ c.replace-outcomes.ensures.value) c.in_ok-post_all.ensures)
    (ap (λ (rs : List Resolved). record out { events = c.post_all.new.lines; resolved = rs }) (c.replace-outcomes.ensures.after ∙ c.new.ensures))
