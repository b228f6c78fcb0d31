use Rattle.std.proofs.Common.{◌≡◌, ◌∙◌, ◌-◌, ◌+◌, suc, arith, subst, sym}
use Rattle.node_world.specs.Bases.{IsNext}
use Rattle.node_world.proofs.Posting.{is_first, none_awaits, not_at, passed_over}
use Rattle.node_world.proofs.script_node.ScriptNode.awaiting.Goals as goal

pub loop-client-init : goal.loop-client-init
loop-client-init c = record { within = omega arith; none = λ plain stands. none_awaits plain.clients c.args.waiter }

pub loop-client-preserved : goal.loop-client-preserved
loop-client-preserved c =
    let at = c.in-Some.client in
    let next = subst (IsNext c.base_of-base.result c.loop-client.from 1000 c.args.self.now.bases) c.in-Some.is c.next.ensures in
    record {
      within = omega (arith, next.1);
      none = λ plain stands.
          not_at plain.clients c.args.waiter at (sym (c.awaits.ensures plain stands) ∙ c.if-awaits.false)
          (passed_over c.args.self.now plain c.args.waiter c.base_of-base.result c.loop-client.from at c.base_of-base.ensures next.0 next.2 stands (c.loop-client.invariant.none plain stands));
    }

pub returns-then-awaits : goal.returns-then-awaits
returns-then-awaits c = λ plain stands.
    let at = c.in-Some.client in
    let next = subst (IsNext c.base_of-base.result c.loop-client.from 1000 c.args.self.now.bases) c.in-Some.is c.next.ensures in
    let all : 1000 - suc at + suc at ≡ 1000 = omega (arith, next.1) in
    let none = passed_over c.args.self.now plain c.args.waiter c.base_of-base.result c.loop-client.from at c.base_of-base.ensures next.0 next.2 stands (c.loop-client.invariant.none plain stands) in
    sym (is_first plain.clients c.args.waiter at (1000 - suc at) 1000 all (sym (c.awaits.ensures plain stands) ∙ c.if-awaits.true) none)

pub returns : goal.returns
returns c = λ plain stands.
    let next = subst (IsNext c.base_of-base.result c.loop-client.from 1000 c.args.self.now.bases) c.in_default.is c.next.ensures in
    sym (passed_over c.args.self.now plain c.args.waiter c.base_of-base.result c.loop-client.from 1000 c.base_of-base.ensures c.loop-client.invariant.within next stands (c.loop-client.invariant.none plain stands))
