use Rattle.std.proofs.Common.{sym, ◌∙◌, ap, subst, arith}
use Rattle.std.specs.Prelude.{reverse, vec_capacity}
use Rattle.vb_disk.specs.Memory.{MayLeave, EachRan, content, crashed, filled, synced}
use Rattle.vb_disk.proofs.Crashed.{old_kept, synced_left, synced_ran, synced_done, are_blurred, filled_kept, filled_left}
use Rattle.vb_disk.proofs.Kept.{now_may_be, ran_more, settled_only}
use Rattle.vb_disk.proofs.mem_disk.MemDisk.crash.Goals as goal

pub replay-requires : goal.replay-requires
replay-requires c =
    let past = reverse c.self.inside.past.items in
    subst (EachRan _) (sym (ap reverse c.deref.ensures.value ∙ c.forget_pending.ensures.items)) (synced_ran _ past c.self.invariant.0.ran)

pub invariant_of-self : goal.invariant_of-self
invariant_of-self c =
    let past = reverse c.self.inside.past.items in
    let now = c.replay.ensures.items ∙ ap (λ l. content (reverse l)) c.deref.ensures.value ∙ ap content c.forget_pending.ensures.items in
    rw c.clear.ensures.items (old_kept past _ _ _ _ c.forget_pending.ensures.items now (ran_more _ _ past c.replay.ensures.capacity c.self.invariant.0.ran) (omega (arith, c.self.invariant.1.room, c.forget_pending.ensures.capacity)))

pub returns-in-Old-clause-left : goal.returns-in-Old-clause-left
returns-in-Old-clause-left c =
    let past = reverse c.self.inside.past.items in
    let now = c.replay.ensures.items ∙ ap (λ l. content (reverse l)) c.deref.ensures.value ∙ ap content c.forget_pending.ensures.items in
    subst (λ m. MayLeave m.past c.replay.new.bytes.items) c.self.view_is (subst (MayLeave past) (sym now) (synced_left past))

pub returns-in-Old-clause-settled : goal.returns-in-Old-clause-settled
returns-in-Old-clause-settled c = λ image left.
    let past = reverse c.self.inside.past.items in
    let now = c.replay.ensures.items ∙ ap (λ l. content (reverse l)) c.deref.ensures.value ∙ ap content c.forget_pending.ensures.items in
    settled_only (synced past) (synced_done past) image (subst (λ l. MayLeave l image) c.forget_pending.ensures.items left) ∙ sym now

pub returns-in-New-clause-left : goal.returns-in-New-clause-left
returns-in-New-clause-left c =
    let past = reverse c.self.inside.past.items in
    subst (λ m. MayLeave m.past c.settle.new.self.bytes) c.self.view_is
    (subst (MayLeave past) (sym (c.settle.ensures.bytes ∙ c.self.invariant.0.now)) (now_may_be _ past c.self.invariant.0.ran))

pub replay-requires-in-Fill : goal.replay-requires-in-Fill
replay-requires-in-Fill c =
    let past = reverse c.self.inside.past.items in
    subst (λ l. EachRan (vec_capacity c.self.inside.bytes) (reverse l)) (sym c.deref-in-Fill.ensures.value) (are_blurred _ c.in-Fill.byte past _ c.self.invariant.0.ran c.blur_pending.ensures.items).ran

pub invariant_of-self-in-Fill : goal.invariant_of-self-in-Fill
invariant_of-self-in-Fill c =
    let past = reverse c.self.inside.past.items in
    rw c.clear.ensures.items (filled_kept past _ _ _ c.in-Fill.byte _ _ _ c.blur_pending.ensures.items (c.replay-in-Fill.ensures.items ∙ ap (λ l. content (reverse l)) c.deref-in-Fill.ensures.value)
    c.self.invariant.0.ran c.replay-in-Fill.ensures.capacity c.self.invariant.1.known (omega (arith, c.self.invariant.1.room, c.blur_pending.ensures.capacity)))

pub returns-in-Fill-clause-left : goal.returns-in-Fill-clause-left
returns-in-Fill-clause-left c =
    let past = reverse c.self.inside.past.items in
    let now = c.settle-in-Fill.ensures.bytes ∙ c.replay-in-Fill.ensures.items ∙ ap (λ l. content (reverse l)) c.deref-in-Fill.ensures.value
    ∙ (are_blurred _ c.in-Fill.byte past _ c.self.invariant.0.ran c.blur_pending.ensures.items).bytes in
    subst (λ m. MayLeave m.past c.settle-in-Fill.new.self.bytes) c.self.view_is (subst (MayLeave past) (sym now) (filled_left _ c.in-Fill.byte past c.self.invariant.0.ran))

pub returns-in-Fill-clause-image : goal.returns-in-Fill-clause-image
returns-in-Fill-clause-image c =
    let past = reverse c.self.inside.past.items in
    let now = c.settle-in-Fill.ensures.bytes ∙ c.replay-in-Fill.ensures.items ∙ ap (λ l. content (reverse l)) c.deref-in-Fill.ensures.value
    ∙ (are_blurred _ c.in-Fill.byte past _ c.self.invariant.0.ran c.blur_pending.ensures.items).bytes in
    now ∙ ap (λ m. filled c.in-Fill.byte m.past) c.self.view_is ∙ ap (λ out. crashed out c.args.self.now.past) (sym c.in-Fill.is)
