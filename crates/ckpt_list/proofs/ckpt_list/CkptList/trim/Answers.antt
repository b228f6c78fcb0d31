use Rattle.std.proofs.Common.{◌≡◌, ℕ, ◌+◌, ◌-◌, ◌≤◌, leb, ltb, length, List, ap, sym, subst, ◌∙◌, arith}
use Rattle.std.specs.List.{filter}
use Rattle.std.specs.List.Sorted.{IsNonDecreasingBy}
use Rattle.std.proofs.lemmas.List.Filters.{length-filter_both}
use Rattle.vb_calls.specs.declared.span.Span.{Span}
use Rattle.checkpoint.specs.Checkpoints.{items_above}
use Rattle.ckpt_list.specs.Lists.{Ckpts}
use Rattle.vb_calls.specs.Trims.{end_of, ended_by}
use Rattle.ckpt_list.specs.Trims.{trimmed, trimmed_to}
use Rattle.ckpt_list.proofs.Climbs.{at_most}
use Rattle.ckpt_list.proofs.Seals.{items_sorted, moved, spans_sorted, wholes_sorted}
use Rattle.ckpt_list.proofs.Sheds.{floor_to, past, trimmed_stands}
use Rattle.ckpt_list.proofs.ckpt_list.CkptList.trim.Goals as goal

pub shed_spans-self-inside-requires : goal.shed_spans-self-inside-requires
shed_spans-self-inside-requires c = spans_sorted _ c.self.invariant.sound

pub shed_items-requires : goal.shed_items-requires
shed_items-requires c = items_sorted _ c.self.invariant.sound

pub shed_ends-requires : goal.shed_ends-requires
shed_ends-requires c = subst (IsNonDecreasingBy (λ (e : ℕ). e)) (sym c.self.invariant.wholes) (wholes_sorted _ c.self.invariant.sound)

pub overflow_sub-result : goal.overflow_sub-result
overflow_sub-result c =
    let n : ℕ = c.least_with-to.result in
    let ws : List Span = c.self.inside.sealed.items in
    let both : length (ended_by n ws) + length (past (λ (w : Span). w.last) n ws) ≡ length ws = length-filter_both (λ (w : Span). leb w.last n) (λ (w : Span). ltb n w.last) (λ w. at_most n w.last) ws in
    omega (arith, both, ap length c.shed_spans-self-inside.ensures.spans, c.len.ensures, c.len-before.ensures, c.shed_spans-self-inside.new.spans.ok, c.self.inside.sealed.ok)

pub invariant_of-self : goal.invariant_of-self
invariant_of-self c =
    let v = c.self.inside in
    let n : ℕ = c.least_with-to.result in
    let l : Ckpts = record { sealed = v.sealed.items; items = v.items.items; newest = v.newest; places = v.cursors; floor = v.floor } in
    let shed = c.shed_spans-self-inside in
    let made : Ckpts = record { sealed = shed.new.spans.items; items = c.shed_items.new.items.items; newest = v.newest; places = v.cursors; floor = shed.result } in
    let same : made ≡ trimmed_to l n = λ i. record {
      sealed = shed.ensures.spans i;
      items = (c.shed_items.ensures ∙ ap (λ f. items_above f v.items.items) shed.ensures.floor) i;
      newest = v.newest;
      places = v.cursors;
      floor = shed.ensures.floor i;
    } in
    moved (trimmed_to l n) made _ _ (sym same) (sym (c.shed_ends.ensures ∙ ap (λ f. filter (λ e. ltb f e) v.wholes.items) shed.ensures.floor)) (trimmed_stands l v.wholes.items n c.self.invariant)

pub returns : goal.returns
returns c =
    let v = c.self.inside in
    let n : ℕ = c.least_with-to.result in
    let l : Ckpts = record { sealed = v.sealed.items; items = v.items.items; newest = v.newest; places = v.cursors; floor = v.floor } in
    let shed = c.shed_spans-self-inside in
    let ws : List Span = v.sealed.items in
    let both : length (ended_by n ws) + length (past (λ (w : Span). w.last) n ws) ≡ length ws = length-filter_both (λ (w : Span). leb w.last n) (λ (w : Span). ltb n w.last) (λ w. at_most n w.last) ws in
    let count : c.len-before.result - c.len.result ≡ length (ended_by n ws) = omega (arith, both, ap length shed.ensures.spans, c.len.ensures, c.len-before.ensures, shed.new.spans.ok, v.sealed.ok) in
    let made : Ckpts = record { sealed = shed.new.spans.items; items = c.shed_items.new.items.items; newest = v.newest; places = v.cursors; floor = shed.result } in
    let same : made ≡ trimmed_to l n = λ i. record {
      sealed = shed.ensures.spans i;
      items = (c.shed_items.ensures ∙ ap (λ f. items_above f v.items.items) shed.ensures.floor) i;
      newest = v.newest;
      places = v.cursors;
      floor = shed.ensures.floor i;
    } in
    let told : (made, c.len-before.result - c.len.result) ≡ (trimmed_to l n, length (ended_by n ws)) = λ i. (same i, count i) in
    let least : (trimmed_to l n, length (ended_by n ws)) ≡ trimmed l c.args.saved = ap (λ m. (trimmed_to l m, length (ended_by m ws))) c.least_with-to.ensures in
    told ∙ least ∙ ap (λ (m : Ckpts). trimmed m c.args.saved) c.self.view_is
