use Rattle.std.proofs.Common.{◌≡◌, ℕ, true, ap, sym, subst, ◌∙◌}
use Rattle.std.specs.Prelude.{Some, is_some}
use Rattle.cursor_set.specs.Cursors.{Places, place_of, advanced}
use Rattle.ckpt_list.specs.Lists.{Ckpts}
use Rattle.ckpt_list.proofs.Takes.{taken}
use Rattle.ckpt_list.proofs.Seals.{with_places, advanced_keeps}
use Rattle.ckpt_list.proofs.ckpt_list.CkptList.take.Goals as goal

pub invariant_of-self : goal.invariant_of-self
invariant_of-self c =
    with_places _ _ c.self.invariant c.advance.new.self
    (subst (λ places. is_some (place_of places 0) ≡ true) (sym c.advance.ensures.places) (advanced_keeps c.self.inside.cursors c.args.id c.in-Some.end c.self.invariant.sound.cursor))

pub returns-clause-ok : goal.returns-clause-ok
returns-clause-ok c =
    let l : Ckpts = c.args.self.now in
    let items = c.in_ok-items.items in
    let end : ℕ = c.in-Some.end in
    let at : place_of l.places c.args.id ≡ Some c.unwrap-place.result = sym (c.place.ensures ∙ ap (λ (m : Ckpts). place_of m.places c.args.id) c.self.view_is) ∙ c.unwrap-place.ensures in
    ap (λ (p : Places). (record { sealed = c.self.inside.sealed.items; items = c.self.inside.items.items; newest = c.self.inside.newest; places = p; floor = c.self.inside.floor }, Some items)) c.advance.ensures.places
    ∙ ap (λ (m : Ckpts). (record m { places = advanced m.places c.args.id end }, Some items)) c.self.view_is
    ∙ taken l c.args.id c.args.need c.unwrap-place.result end items at (sym c.reach.ensures.reach ∙ c.in-Some.is) c.in_ok-items.ensures
