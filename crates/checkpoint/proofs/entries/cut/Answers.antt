use Rattle.std.proofs.Common.{◌≡◌, ◌+◌, List, arith, ◌∙◌}
use Rattle.vb_types.specs.declared.change.Change.{Change}
use Rattle.vb_calls.specs.Spans.{change_weight}
use Rattle.checkpoint.specs.Checkpoints.{items_weight}
use Rattle.checkpoint.proofs.Cuts.{finds_before, to_before, weighs_before}
use Rattle.checkpoint.proofs.entries.cut.Goals as goal

pub loop-change-preserved : goal.loop-change-preserved
loop-change-preserved c =
    let k = c.loop-change.invariant in
    let cs : List Change = c.pop_above.new.self in
    let gone = c.in-Some.ensures.some in
    let all : items_weight c.loop-change.changes ≡ items_weight cs + change_weight c.in-Some.change = weighs_before cs c.loop-change.changes c.in-Some.change gone.0 in
    record {
      finds = finds_before cs c.loop-change.changes c.in-Some.change _ _ k.finds gone.0 c.release-freed.ensures.seqs;
      stay = to_before c.args.last cs c.loop-change.changes c.in-Some.change gone.0 gone.1 ∙ k.stay;
      weighs = omega (arith, all, k.weighs, c.release-freed.ensures.weight);
    }
