use Rattle.std.proofs.Common.{◌≡◌, true, ap, sym, subst, ◌∙◌}
use Rattle.std.specs.Prelude.{is_some}
use Rattle.std.proofs.lemmas.Bool.{cond-true}
use Rattle.cursor_set.specs.Cursors.{Places, place_of, advanced}
use Rattle.ckpt_list.specs.Lists.{Ckpts}
use Rattle.ckpt_list.proofs.Seals.{with_places, advanced_keeps}
use Rattle.ckpt_list.proofs.ckpt_list.CkptList.advance.Goals as goal

pub invariant_of-self : goal.invariant_of-self
invariant_of-self c =
    with_places _ _ c.self.invariant c.advance.new.self
    (subst (λ places. is_some (place_of places 0) ≡ true) (sym c.advance.ensures.places) (advanced_keeps c.self.inside.cursors c.args.id c.args.to c.self.invariant.sound.cursor))

pub returns : goal.returns
returns c =
    ap (λ (p : Places). record { sealed = c.self.inside.sealed.items; items = c.self.inside.items.items; newest = c.self.inside.newest; places = p; floor = c.self.inside.floor }) c.advance.ensures.places
    ∙ ap (λ (m : Ckpts). record m { places = advanced m.places c.args.id c.args.to }) c.self.view_is
    ∙ ap (λ (p : Places). record c.args.self.now { places = p }) (cond-true _ _ _ c.requires)
