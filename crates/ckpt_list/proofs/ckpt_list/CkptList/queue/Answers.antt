use Rattle.std.proofs.Common.{◌≡◌, ◌<◌, false, length, refl, ap, sym, subst, ◌∙◌, inl, inr, arith}
use Rattle.std.specs.Prelude.{◌⊎◌}
use Rattle.checkpoint.specs.Checkpoints.{Ckpt, ckpt_last, ckpt_with, empty_ckpt, fits_in}
use Rattle.ckpt_list.specs.Lists.{Ckpts, high_of, is_own, sealed_list}
use Rattle.ckpt_list.specs.Sound.{HasWholes}
use Rattle.ckpt_list.proofs.Seals.{after, with_newest, put_rises, queued_new}
use Rattle.ckpt_list.proofs.ckpt_list.CkptList.queue.Goals as goal
use Rattle.ckpt_list.proofs.ckpt_list.CkptList.queue.Goals.{else-len-gt0-via-then-len-gt0+else-fits, else-len-gt0-via-else-len-gt0}

pub invariant_of-self : goal.invariant_of-self
invariant_of-self c =
    let k : Ckpt = c.self.inside.newest in
    let up : ckpt_last k < c.args.change.seq = subst (λ (l : Ckpts). high_of l < c.args.change.seq) (sym c.self.view_is) c.requires in
    after c.put.result
    (λ (n : Ckpt). HasWholes (record { sealed = c.self.inside.sealed.items; items = c.self.inside.items.items; newest = n; places = c.self.inside.cursors; floor = c.self.inside.floor }) c.self.inside.wholes.items)
    _ _ _ c.put.ensures.ok c.put.ensures.err
    (with_newest _ _ c.self.invariant (ckpt_with k c.args.change) refl (put_rises k c.args.change c.self.invariant.sound.newest up)) c.self.invariant

pub returns-clause-ok : goal.returns-clause-ok
returns-clause-ok c =
    let l : Ckpts = c.args.self.now in
    let k : Ckpt = c.self.inside.newest in
    let Apart : Ckpts → Type 0 = λ m. (length m.newest.items ≡ 0) ⊎ (fits_in (is_own c.args.origin) m.newest.items c.args.change ≡ false) in
    let apart : Apart l = subst Apart c.self.view_is
    (elim c.else-len-gt0.branch [
      | else-len-gt0-via-then-len-gt0+else-fits w ↦ inr (sym (ap (λ own. fits_in own k.items c.args.change) w.is_own.ensures) ∙ sym w.fits.ensures ∙ w.if-fits.false)
      | else-len-gt0-via-else-len-gt0 w ↦ inl (let e : length k.items ≡ 0 = omega (arith, w.if-len-gt0.false) in e)
    ]) in
    let made : c.put-2.new.self ≡ ckpt_with (empty_ckpt (ckpt_last l.newest) c.args.origin) c.args.change =
    c.in_ok-put.ensures.ok ∙ ap (λ n. ckpt_with n c.args.change) (c.new-newest.ensures ∙ ap (λ n. empty_ckpt n c.args.origin) (c.last.ensures.last ∙ ap (λ (m : Ckpts). ckpt_last m.newest) c.self.view_is)) in
    ap (λ (m : Ckpts). record m { newest = c.put-2.new.self }) (c.self-2.view_is ∙ c.in_ok-seal.ensures.ok)
    ∙ ap (λ n. record (sealed_list l) { newest = n }) made
    ∙ queued_new l c.args.origin c.args.change apart
