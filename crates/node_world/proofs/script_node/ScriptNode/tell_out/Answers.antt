use Rattle.std.proofs.Common.{List, refl, subst}
use Rattle.vb_calls.specs.declared.calls.Resolved.{Resolved}
use Rattle.node_world.specs.declared.told.Told.{Told}
use Rattle.node_world.specs.Ends.{PostsAll}
use Rattle.node_world.proofs.Posting.{tells}
use Rattle.node_world.proofs.script_node.ScriptNode.tell_out.Goals as goal

pub returns : goal.returns
returns c =
    let old = c.args.self.now in
    let told : Told = record { events = c.post_all.new.lines; answer = c.args.out.answer } in
    tells old c.post_all.new.self c.args.out c.post_all.new.lines told
    (subst (λ (rs : List Resolved). PostsAll rs old c.args.out.events c.post_all.new.self c.post_all.new.lines) c.as_slice.ensures c.in_ok-post_all.ensures) refl
