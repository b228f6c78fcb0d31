use Rattle.std.proofs.Common.{◌≡◌, ◌≤◌, ◌+◌, List, length, arith, ap, sym, subst, ◌∙◌}
use Rattle.std.specs.List.{AllByRecursion, fold}
use Rattle.vb_calls.specs.declared.span.TheConstants.{MAX_WEIGHT}
use Rattle.std.proofs.Common.{length-append}
use Rattle.checkpoint.specs.Checkpoints.{Ckpt, ckpt_span, items_weight}
use Rattle.ckpt_list.specs.Windows.{CanSeal, Sealed, count_in, sealed_behind}
use Rattle.ckpt_list.proofs.Queues.{count_cons, ends_count, span_count}
use Rattle.ckpt_list.proofs.windows.seal_all.Goals as goal

pub loop-window-preserved : goal.loop-window-preserved
loop-window-preserved c =
    let k = c.loop-window.invariant in
    let w : Ckpt = c.in-Some.window in
    let rest : List Ckpt = c.pop_front.new.self.items in
    let same = c.in-Some.ensures.items in
    let put = c.seal_behind.ensures in
    let old : Sealed = record { spans = c.loop-window.sealed.items; items = c.loop-window.items.items; ends = c.loop-window.wholes.items } in
    let new : Sealed = record { spans = c.seal_behind.new.sealed.items; items = c.seal_behind.new.items.items; ends = c.seal_behind.new.wholes.items } in
    let made : new ≡ sealed_behind old w = λ i. record { spans = put.sealed i; items = put.items i; ends = put.wholes i } in
    let can = subst (CanSeal old.ends) same k.can in
    let counted : count_in c.loop-window.full.items ≡ length w.items + count_in rest = ap count_in same ∙ count_cons w rest in
    let left = c.in-Some.ensures.cases in
    record {
      going = ap (λ (s : Sealed). fold sealed_behind s rest) made ∙ ap (fold sealed_behind old) (sym same) ∙ k.going;
      can = subst (λ ends. CanSeal ends rest) (sym put.wholes) can.2;
      light = λ h. k.light (subst (AllByRecursion (λ (v : Ckpt). items_weight v.items ≤ MAX_WEIGHT)) (sym same) (put.light, h));
      sealed_room = omega (arith, ap length put.sealed, span_count old.spans (ckpt_span w), left, k.sealed_room, put.room.0);
      items_room = omega (arith, ap length put.items, length-append old.items w.items, counted, k.items_room, put.room.1);
      wholes_room = omega (arith, ap length put.wholes, ends_count old.ends (ckpt_span w), left, k.wholes_room, put.room.2);
    }
