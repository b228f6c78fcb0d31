use Rattle.std.proofs.Common.{◌≡◌, ◌<◌, List, rules, arith, ap, sym, subst, ◌∙◌}
use Rattle.vb_types.specs.declared.change.Change.{Change}
use Rattle.ckpt_list.specs.Windows.{ArePartsAbove}
use Rattle.ckpt_tests.proofs.Parts.{end_of, end_push, parts_push}
use Rattle.ckpt_tests.proofs.several.aborts.Goals as goal

pub loop-n-preserved : goal.loop-n-preserved
loop-n-preserved c =
    let k = c.loop-n.invariant in
    let x : Change = c.in_ok-abort.field-0 in
    let at : x.seq ≡ c.in_ok-seq.seq = c.in_ok-abort.ensures.seq in
    let next : c.loop-n.seq < c.in_ok-seq.seq = search rules in
    let up : end_of c.args.high c.loop-n.changes.items < x.seq = omega (arith, next, at, k.ends) in
    let all = c.in_ok-push.ensures.items in
    record {
      parts = subst (ArePartsAbove c.args.high) (sym all) (parts_push c.args.high c.loop-n.changes.items x k.parts up c.in_ok-abort.ensures.part);
      ends = ap (end_of c.args.high) all ∙ end_push c.args.high c.loop-n.changes.items x ∙ at;
    }
