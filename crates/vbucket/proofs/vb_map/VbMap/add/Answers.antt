use Rattle.std.proofs.Common.{◌≡◌, ◌++◌, ◌∷◌, [], refl, sym, ◌∙◌, ap, subst, List}
use Rattle.std.specs.Prelude.{◌==◌, ◌||◌}
use Rattle.vbucket.specs.declared.vb_map.VbSlot.{VbSlot}
use Rattle.vbucket.specs.Stands.{has_slot, SlotsStand}
use Rattle.vb_calls.specs.States.{with_vb_at}
use Rattle.vbucket.proofs.Slots.{added, added_has}
use Rattle.vbucket.proofs.vb_map.VbMap.add.Goals as goal

pub returns-clause-ok : goal.returns-clause-ok
returns-clause-ok c = λ states plain stand for.
    let slot : VbSlot = record { number = c.args.v; vb = c.args.vb } in
    let there : SlotsStand (c.args.self.now ++ slot ∷ []) (with_vb_at states c.args.v plain) = added c.args.self.now states c.args.v slot plain c.requires refl for stand in
    subst (λ s. SlotsStand s (with_vb_at states c.args.v plain)) (ap (λ (s : List VbSlot). s ++ slot ∷ []) (sym c.self.view_is) ∙ sym c.in_ok-push.ensures.items) there

pub returns-clause-more : goal.returns-clause-more
returns-clause-more c = λ w.
    let slot : VbSlot = record { number = c.args.v; vb = c.args.vb } in
    subst (λ (s : List VbSlot). has_slot s w ≡ (w == c.args.v || has_slot c.args.self.now w)) (ap (λ (s : List VbSlot). s ++ slot ∷ []) (sym c.self.view_is) ∙ sym c.in_ok-push.ensures.items)
    (added_has c.args.self.now c.args.v slot c.requires refl w)
