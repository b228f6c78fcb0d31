use Rattle.std.proofs.Common.{◌≡◌, ◌<◌, ◌≤◌, List, ap, sym, subst, ◌∙◌, arith}
use Rattle.std.specs.List.Sorted.{IsNonDecreasingBy}
use Rattle.vb_types.specs.declared.change.Change.{Change}
use Rattle.checkpoint.specs.Checkpoints.{Ckpt, ckpt_last}
use Rattle.ckpt_list.specs.Lists.{Ckpts, between, held_of, high_of}
use Rattle.ckpt_list.proofs.Takes.{copied_early, copied_late}
use Rattle.ckpt_list.proofs.Seals.{items_sorted}
use Rattle.ckpt_list.proofs.ckpt_list.CkptList.copied.Goals as goal

pub copies-requires : goal.copies-requires
copies-requires c = items_sorted _ c.self.invariant.sound

pub returns-then-end-above : goal.returns-then-end-above
returns-then-end-above c =
    let xs : List Change = c.in_ok-items.items in
    let k : Ckpt = c.self.inside.newest in
    let given : xs ≡ between c.args.place c.args.end c.self.inside.items.items = c.in_ok-items.ensures in
    let m : c.args.end ≤ k.above = omega arith in
    subst (λ (l : Ckpts). xs ≡ between c.args.place c.args.end (held_of l)) c.self.view_is
    (copied_early c.args.place c.args.end k.above (ckpt_last k) c.self.inside.items.items k.items xs c.self.invariant.sound.newest m given)

pub returns : goal.returns
returns c =
    let xs : List Change = c.in_ok-items.items in
    let k : Ckpt = c.self.inside.newest in
    let given : xs ≡ between c.args.place c.args.end c.self.inside.items.items = c.in_ok-items.ensures in
    let low : k.above < c.args.end = omega arith in
    let m : ckpt_last k ≤ c.args.end = subst (λ (l : Ckpts). l.newest.above < c.args.end → high_of l ≤ c.args.end) (sym c.self.view_is) c.requires low in
    subst (λ (l : Ckpts). c.items_after.new.items ≡ between c.args.place c.args.end (held_of l)) c.self.view_is
    (c.in_ok-items_after.ensures ∙ copied_late c.args.place c.args.end k.above (ckpt_last k) c.self.inside.items.items k.items xs c.self.invariant.sound.newest m given)
