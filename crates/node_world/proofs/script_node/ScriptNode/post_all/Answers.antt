use Rattle.std.proofs.Common.{◌+◌, arith, sym, subst}
use Rattle.std.proofs.lemmas.List.{drop_all}
use Rattle.node_world.proofs.Posting.{PostsSoFar, all_told, none_told, one_more}
use Rattle.node_world.proofs.script_node.ScriptNode.post_all.Goals as goal

pub loop-outcome-init : goal.loop-outcome-init
loop-outcome-init c = none_told c.args.outcomes.now c.args.self.now c.args.lines.now

pub loop-outcome-preserved : goal.loop-outcome-preserved
loop-outcome-preserved c =
    let outcomes = c.args.outcomes.now in
    let old = c.args.self.now in
    let i = c.loop-outcome.outcome-index in
    let lines = c.in_ok-post.field-0 in
    subst (λ ls. PostsSoFar outcomes old c.args.lines.now (i + 1) ls c.post.new.self) (sym c.in_ok-append.ensures.ok)
    (one_more outcomes old c.args.lines.now i _ c.loop-outcome-test.true c.loop-outcome.lines lines c.loop-outcome.self c.post.new.self c.loop-outcome.invariant c.in_ok-post.ensures)

pub returns : goal.returns
returns c =
    let outcomes = c.args.outcomes.now in
    all_told outcomes c.args.self.now c.args.lines.now c.loop-outcome.outcome-index c.loop-outcome.lines c.loop-outcome.self (drop_all c.loop-outcome.outcome-index outcomes (grind (arith, c.loop-outcome-test.false))) c.loop-outcome.invariant
