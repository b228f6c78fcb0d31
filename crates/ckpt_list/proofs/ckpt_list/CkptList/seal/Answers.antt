use Rattle.std.proofs.Common.{◌≡◌, ℕ, ◌<◌, ◌++◌, ap, sym, subst, ◌∙◌}
use Rattle.std.specs.Prelude.{option_to_list}
use Rattle.std.specs.List.{All}
use Rattle.std.specs.List.Sorted.{IsNonDecreasingBy}
use Rattle.checkpoint.specs.Checkpoints.{Ckpt, ckpt_span}
use Rattle.ckpt_list.specs.Lists.{Ckpts, sealed_list}
use Rattle.ckpt_list.specs.Windows.{ends_behind}
use Rattle.ckpt_list.proofs.Seals.{moved, sealed_on, wholes_below, wholes_sorted}
use Rattle.ckpt_list.proofs.ckpt_list.CkptList.seal.Goals as goal

pub seal_behind-requires-clause-rise : goal.seal_behind-requires-clause-rise
seal_behind-requires-clause-rise c = subst (IsNonDecreasingBy (λ (e : ℕ). e)) (sym (c.make_room.ensures.wholes ∙ c.self.invariant.wholes)) (wholes_sorted _ c.self.invariant.sound)

pub seal_behind-requires-clause-below : goal.seal_behind-requires-clause-below
seal_behind-requires-clause-below c = λ w at. subst (All (λ e. e < w.last)) (sym (c.make_room.ensures.wholes ∙ c.self.invariant.wholes)) (wholes_below _ w c.self.invariant.sound at)

pub invariant_of-self-2 : goal.invariant_of-self-2
invariant_of-self-2 c =
    let v = c.self.inside in
    let k : Ckpt = v.newest in
    let put = c.seal_behind.ensures in
    let l : Ckpts = record { sealed = v.sealed.items; items = v.items.items; newest = k; places = v.cursors; floor = v.floor } in
    let made : Ckpts = record { sealed = c.seal_behind.new.sealed.items; items = c.seal_behind.new.items.items; newest = c.seal_behind.new.window; places = v.cursors; floor = v.floor } in
    let same : made ≡ sealed_list l = λ i. record {
      sealed = (put.sealed ∙ ap (λ ws. ws ++ option_to_list (ckpt_span k)) c.make_room.ensures.sealed) i;
      items = (put.items ∙ ap (λ xs. xs ++ k.items) c.make_room.ensures.items) i;
      newest = put.empty i;
      places = v.cursors;
      floor = v.floor;
    } in
    moved (sealed_list l) made _ _ (sym same) (sym (put.wholes ∙ ap (ends_behind (ckpt_span k)) c.make_room.ensures.wholes)) (sealed_on l v.wholes.items c.self.invariant put.light)

pub returns-clause-ok : goal.returns-clause-ok
returns-clause-ok c =
    let v = c.self.inside in
    let k : Ckpt = v.newest in
    let put = c.seal_behind.ensures in
    (λ i. record {
      sealed = (put.sealed ∙ ap (λ ws. ws ++ option_to_list (ckpt_span k)) c.make_room.ensures.sealed) i;
      items = (put.items ∙ ap (λ xs. xs ++ k.items) c.make_room.ensures.items) i;
      newest = put.empty i;
      places = v.cursors;
      floor = v.floor;
    })
    ∙ ap sealed_list c.self.view_is
