use Rattle.std.proofs.Common.{◌≡◌, true, sym, subst}
use Rattle.std.specs.Prelude.{is_some}
use Rattle.cursor_set.specs.Cursors.{place_of}
use Rattle.ckpt_list.proofs.Seals.{with_places, removed_keeps}
use Rattle.ckpt_list.proofs.ckpt_list.CkptList.drop_cursor.Goals as goal

pub invariant_of-self : goal.invariant_of-self
invariant_of-self c =
    with_places _ _ c.self.invariant c.remove.new.self
    (subst (λ places. is_some (place_of places 0) ≡ true) (sym c.remove.ensures.places) (removed_keeps c.self.inside.cursors c.args.id c.requires c.self.invariant.sound.cursor))
