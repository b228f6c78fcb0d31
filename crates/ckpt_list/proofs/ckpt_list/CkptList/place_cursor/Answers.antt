use Rattle.std.proofs.Common.{◌≡◌, true, sym, subst}
use Rattle.std.specs.Prelude.{is_some}
use Rattle.cursor_set.specs.Cursors.{place_of}
use Rattle.ckpt_list.proofs.Seals.{with_places, inserted_keeps}
use Rattle.ckpt_list.proofs.ckpt_list.CkptList.place_cursor.Goals as goal

pub invariant_of-self-2 : goal.invariant_of-self-2
invariant_of-self-2 c =
    with_places _ _ c.self.invariant c.put.new.self
    (subst (λ places. is_some (place_of places 0) ≡ true) (sym c.in_ok-put.ensures.ok) (inserted_keeps c.self.inside.cursors c.args.id c.args.place c.self.invariant.sound.cursor))
