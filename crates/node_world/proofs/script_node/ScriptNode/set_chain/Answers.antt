use Rattle.std.proofs.Common.{◌∙◌, refl, sym}
use Rattle.std.proofs.lemmas.Result.{IfOk-weaker}
use Rattle.durability.specs.Chains.{chain_of}
use Rattle.node_core.specs.Flushing.{chain_changed}
use Rattle.node_world.specs.Stands.{node_number}
use Rattle.node_world.proofs.Chaining.{chain_carried, chain_refused}
use Rattle.node_world.proofs.Nodes.{inside, settles}
use Rattle.node_world.proofs.Posting.{settles_told}
use Rattle.node_world.proofs.script_node.ScriptNode.set_chain.Goals as goal

pub returns-in_ok-chain_cause-in-None : goal.returns-in_ok-chain_cause-in-None
returns-in_ok-chain_cause-in-None c =
    let old = c.args.self.now in
    chain_refused c.args.v c.args.others.now old c.chain_cause.new.self c.in_ok-chain_cause-in-None.field-0 c.refusal.result
    ((λ i. chain_of (sym c.number.ensures i) (sym c.in_ok-members.ensures.items i)) ∙ sym c.new.ensures ∙ c.in-None.is) c.in_ok-chain_cause-in-None.ensures c.refusal.ensures

pub returns-in_ok-out-in-Some : goal.returns-in_ok-out-in-Some
returns-in_ok-out-in-Some c =
    let old = c.args.self.now in
    let n = node_number old in
    IfOk-weaker c.tell_out.result _ _
    (λ told went. chain_carried c.args.v c.args.others.now c.in-Some.chain old c.tell_out.new.self told
    ((λ i. chain_of (sym c.number.ensures i) (sym c.in_ok-members.ensures.items i)) ∙ sym c.new.ensures ∙ c.in-Some.is)
    (settles_told (λ plain. chain_changed n c.args.v c.in-Some.chain) old (inside old c.set_chain.new.self) c.tell_out.new.self c.in_ok-out-in-Some.out told
    (settles (λ plain. chain_changed n c.args.v c.in-Some.chain) old (chain_changed n c.args.v c.in-Some.chain) c.in_ok-out-in-Some.out c.set_chain.new.self (λ plain stands. refl) c.in_ok-out-in-Some.ensures.ok) went))
    c.tell_out.ensures
