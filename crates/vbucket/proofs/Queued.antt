-- the checkpoints after a change, and after a seal
use Rattle.std.proofs.Common.{◌≡◌, ℕ, ◌<◌, Bool, true, false, List, [], ◌∷◌, ◌++◌, refl, sym, ap, subst, ◌∙◌, inl, inr, ⊎_elim, arith}
use Rattle.std.specs.Prelude.{◌⊎◌, not, Option, Some, None, if◌then◌else◌, option_to_list}
use Rattle.std.specs.List.{filter, flat_map}
use Rattle.std.specs.Str.{bytes_eq}
use Rattle.std.proofs.lemmas.List.{append-nil}
use Rattle.std.proofs.lemmas.Grind.{flat_map-append}
use Rattle.vb_types.specs.declared.change.Change.{Change}
use Rattle.vb_types.specs.Histories.{Rises}
use Rattle.branch_model.specs.Histories.{last_seq}
use Rattle.vb_calls.specs.declared.span.Span.{Span}
use Rattle.vb_calls.specs.declared.span.Origin.{Origin}
use Rattle.vb_calls.specs.declared.span.Origin.TheVariants.{Own, Received}
use Rattle.vb_calls.specs.Spans.{Spans, all_spans, last_at, live_in, live_of, span_of, span_to, stretch, with_change, with_seal}
use Rattle.checkpoint.specs.Checkpoints.{Ckpt, ckpt_last, ckpt_span, ckpt_with, entered, fits_by, fits_in, item_at, span_by}
use Rattle.ckpt_list.specs.Lists.{Ckpts, is_own, opened, queued, queued_by, sealed_list, spans_of}
use Rattle.vbucket.specs.Laws.{AllSpans, Follow, IsSpan}
use Rattle.vbucket.specs.Stands.{ListStands, open_live}
use Rattle.vbucket.proofs.Counting.{stretch_sealed}
use Rattle.vbucket.proofs.Lives.{joins, joins_fits, live_entered, span_item, within}
use Rattle.vbucket.proofs.Parts.{bounded, follow_most, filtered, in_stretch}
use Rattle.vbucket.proofs.Tidying.{alone_live, joined_live}

-- what stood stays
lives_stay : (low at : ℕ) (h : List Change) (c : Change) (ws vs : List Span) → Follow low (ws ++ vs) at → at < c.seq → flat_map (λ w. live_in w (h ++ c ∷ [])) ws ≡ flat_map (λ w. live_in w h) ws
lives_stay low at h c [] vs f l = refl
lives_stay low at h c (w ∷ ws) vs f l =
    let m = follow_most w.last at (ws ++ vs) f.2 in
    ap (λ xs. live_of w.origin xs ++ flat_map (λ w. live_in w (h ++ c ∷ [])) ws) (stretch_sealed w.above w.last h c (omega arith)) ∙ ap (λ xs. live_in w h ++ xs) (lives_stay w.last at h c ws vs f.2 l)

-- the last span ends at the last seqno
last_ends : (low at : ℕ) (ws : List Span) (w : Span) → Follow low (ws ++ w ∷ []) at → (w.last ≡ at) × (w.above < w.last)
last_ends low at [] w f = (f.2, (let e : w.above ≡ low = f.0 in let l : low < w.last = f.1 in omega arith))
last_ends low at (v ∷ vs) w f = last_ends v.last at vs w f.2

last_among : (h : List Change) (ws : List Span) (w : Span) → AllSpans h (ws ++ w ∷ []) → IsSpan h w
last_among h [] w a = a.0
last_among h (v ∷ vs) w a = last_among h vs w a.1

pub lives_rise : (at : ℕ) (h : List Change) (w : Span) → Rises 0 at h → w.above < w.last → Rises w.above w.last (stretch w.above w.last h)
lives_rise at h w r l = bounded 0 at w.above w.last (stretch w.above w.last h) (filtered _ 0 at h r) (omega arith) (λ x i. let k = in_stretch w.above w.last h x i in (k.1, k.2))

-- a checkpoint that ends with c
ends_with : (n : ℕ) (xs : List Change) (c : Change) → last_seq n (xs ++ c ∷ []) ≡ c.seq
ends_with n [] c = refl
ends_with n (x ∷ xs) c = ends_with x.seq xs c

span_with : (above : ℕ) (origin : Origin) (xs : List Change) (c : Change) → span_by above origin (xs ++ c ∷ []) ≡ Some (record { above = above; last = c.seq; origin = origin })
span_with above origin [] c = refl
span_with above origin (x ∷ xs) c = ap (λ n. Some (record { above = above; last = n; origin = origin })) (ends_with x.seq xs c)

-- the span of a checkpoint that has changes
span_is : (k : Ckpt) (w : Span) → ckpt_span k ≡ Some w → (k.above ≡ w.above) × (k.origin ≡ w.origin)
span_is k w e = by k.items e
  where
    by : (xs : List Change) → span_by k.above k.origin xs ≡ Some w → (k.above ≡ w.above) × (k.origin ≡ w.origin)
    by [] q = cc
    by (x ∷ xs) q =
        let s : record { above = k.above; last = last_seq x.seq xs; origin = k.origin } ≡ w = cc in
        (ap (λ (v : Span). v.above) s, ap (λ (v : Span). v.origin) s)

module _ (low : ℕ) (l : Ckpts) (h : List Change) (at : ℕ) (origin : Origin) (c : Change) (r : Rises 0 at h) (items : l.items ≡ flat_map (λ w. live_in w h) l.sealed)
    (newest : l.newest.items ≡ open_live (ckpt_span l.newest) h) (high : ckpt_last l.newest ≡ at) (above : at < c.seq) where
  abbrev spans_by : Option Span → Spans
  spans_by o = record { sealed = l.sealed; current = o }

  none_queued : Follow low (all_spans (spans_by None)) at → ListStands (opened l origin c) (with_change (spans_by None) None (span_of at origin c)) (h ++ c ∷ []) c.seq
  none_queued f = record {
    spans = ap (λ n. record { sealed = l.sealed; current = Some (record { above = n; last = c.seq; origin = origin }) }) high
        ∙ ap (λ xs. record { sealed = xs; current = Some (span_of at origin c) }) (sym (append-nil l.sealed));
    items = items ∙ sym (lives_stay low at h c l.sealed [] f above) ∙ ap (flat_map (λ w. live_in w (h ++ c ∷ []))) (sym (append-nil l.sealed));
    newest = sym (alone_live at h c (span_of at origin c) r above refl refl);
    high = refl;
  }

  module _ (w : Span) (e : ckpt_span l.newest ≡ Some w) (f : Follow low (all_spans (spans_by (Some w))) at) (t : AllSpans h (all_spans (spans_by (Some w)))) (own : origin ≡ Own → w.origin ≡ Own) where
    ends : (w.last ≡ at) × (w.above < w.last)
    ends = last_ends low at l.sealed w f

    live : l.newest.items ≡ live_in w h
    live = newest ∙ ap (λ o. open_live o h) e

    found : item_at c.key (live_in w h) ≡ within w (last_at h c.key)
    found = span_item at h w c.key r (lives_rise at h w r ends.1) ends.0 (last_among h l.sealed w t).tidy

    joined : joins origin h (Some w) (last_at h c.key) c ≡ (if fits_in (is_own origin) l.newest.items c then Some (span_to w c) else None)
    joined = joins_fits origin h w (last_at h c.key) c found ∙ sym (ap (λ xs. if fits_in (is_own origin) xs c then Some (span_to w c) else None) live)

    -- a received change that fits has a key that is not there
    absent : (o : Origin) (i : Option Change) → fits_by (is_own o) l.newest.items i c ≡ true → (o ≡ Own) ⊎ (i ≡ None)
    absent Own i q = inl refl
    absent (Received ss se) None q = inr refl
    absent (Received ss se) (Some d) q = cc

    enters : fits_in (is_own origin) l.newest.items c ≡ true → (w.origin ≡ Own) ⊎ (item_at c.key (live_in w h) ≡ None)
    enters q = ⊎_elim (λ o. inl (own o)) (λ n. inr (ap (item_at c.key) (sym live) ∙ n)) (absent origin (item_at c.key l.newest.items) q)

    taken : fits_in (is_own origin) l.newest.items c ≡ true → ListStands (record l { newest = ckpt_with l.newest c }) (with_change (spans_by (Some w)) (Some (span_to w c)) (span_of at origin c)) (h ++ c ∷ []) c.seq
    taken q =
        let is = span_is l.newest w e in
        let others : List Change = filter (λ d. not (bytes_eq d.key c.key)) l.newest.items in
        record {
          spans = ap (λ o. record { sealed = l.sealed; current = o })
              (span_with l.newest.above l.newest.origin others c ∙ ap (λ n. Some (record { above = n; last = c.seq; origin = l.newest.origin })) is.0 ∙ ap (λ o. Some (record { above = w.above; last = c.seq; origin = o })) is.1);
          items = items ∙ sym (lives_stay low at h c l.sealed (w ∷ []) f above);
          newest = ap (λ xs. entered xs c) live ∙ sym (live_entered w.origin (stretch w.above w.last h) c (enters q)) ∙ sym (joined_live at h c w (span_to w c) r ends.0 ends.1 above refl refl refl);
          high = ends_with l.newest.above others c;
        }

    renewed : ListStands (opened (sealed_list l) origin c) (with_change (spans_by (Some w)) None (span_of at origin c)) (h ++ c ∷ []) c.seq
    renewed = record {
      spans = ap (λ o. record { sealed = l.sealed ++ option_to_list o; current = Some (record { above = ckpt_last l.newest; last = c.seq; origin = origin }) }) e
          ∙ ap (λ n. record { sealed = l.sealed ++ w ∷ []; current = Some (record { above = n; last = c.seq; origin = origin }) }) high;
      items = ap (λ xs. xs ++ l.newest.items) items ∙ ap (λ xs. flat_map (λ w. live_in w h) l.sealed ++ xs) (live ∙ sym (append-nil (live_in w h))) ∙ sym (flat_map-append (λ w. live_in w h) l.sealed (w ∷ []))
          ∙ sym (lives_stay low at h c (l.sealed ++ w ∷ []) [] (subst (λ xs. Follow low xs at) (sym (append-nil (l.sealed ++ w ∷ []))) f) above);
      newest = sym (alone_live at h c (span_of at origin c) r above refl refl);
      high = refl;
    }

    some_queued : ListStands (queued_by (Some w) l origin c) (with_change (spans_by (Some w)) (joins origin h (Some w) (last_at h c.key) c) (span_of at origin c)) (h ++ c ∷ []) c.seq
    some_queued =
        subst (λ j. ListStands (queued_by (Some w) l origin c) (with_change (spans_by (Some w)) j (span_of at origin c)) (h ++ c ∷ []) c.seq) (sym joined) (by (fits_in (is_own origin) l.newest.items c) refl)
      where
        by : (b : Bool) → fits_in (is_own origin) l.newest.items c ≡ b
            → ListStands (if b then record l { newest = ckpt_with l.newest c } else opened (sealed_list l) origin c) (with_change (spans_by (Some w)) (if b then Some (span_to w c) else None) (span_of at origin c)) (h ++ c ∷ []) c.seq
        by true q = taken q
        by false q = renewed

  by_queued : (o : Option Span) → ckpt_span l.newest ≡ o → Follow low (all_spans (spans_by o)) at → AllSpans h (all_spans (spans_by o)) → (origin ≡ Own → (w : Span) → o ≡ Some w → w.origin ≡ Own)
      → ListStands (queued_by o l origin c) (with_change (spans_by o) (joins origin h o (last_at h c.key) c) (span_of at origin c)) (h ++ c ∷ []) c.seq
  by_queued None e f t own = let j : joins origin h None (last_at h c.key) c ≡ None = none origin in subst (λ j. ListStands (opened l origin c) (with_change (spans_by None) j (span_of at origin c)) (h ++ c ∷ []) c.seq) (sym j) (none_queued f)
    where
      none : (o : Origin) → joins o h None (last_at h c.key) c ≡ None
      none Own = refl
      none (Received ss se) = refl
  by_queued (Some w) e f t own = some_queued w e f t (λ o. own o w refl)

-- a change is queued
pub queue_stands : (low : ℕ) (l : Ckpts) (ws : Spans) (h : List Change) (at : ℕ) (origin : Origin) (c : Change) → ListStands l ws h at → Rises 0 at h → Follow low (all_spans ws) at → AllSpans h (all_spans ws) → at < c.seq
    → (origin ≡ Own → (w : Span) → ws.current ≡ Some w → w.origin ≡ Own)
    → ListStands (queued l origin c) (with_change ws (joins origin h ws.current (last_at h c.key) c) (span_of at origin c)) (h ++ c ∷ []) c.seq
queue_stands low l ws h at origin c st r f t above own = by ws st.spans st f t own
  where
    by : (ws : Spans) → spans_of l ≡ ws → ListStands l ws h at → Follow low (all_spans ws) at → AllSpans h (all_spans ws) → (origin ≡ Own → (w : Span) → ws.current ≡ Some w → w.origin ≡ Own)
        → ListStands (queued l origin c) (with_change ws (joins origin h ws.current (last_at h c.key) c) (span_of at origin c)) (h ++ c ∷ []) c.seq
    by ws e st f t own =
        let st' : ListStands l (spans_of l) h at = subst (λ v. ListStands l v h at) (sym e) st in
        subst (λ v. ListStands (queued l origin c) (with_change v (joins origin h v.current (last_at h c.key) c) (span_of at origin c)) (h ++ c ∷ []) c.seq) e
        (by_queued low l h at origin c r st'.items st'.newest st'.high above (ckpt_span l.newest) refl (subst (λ v. Follow low (all_spans v) at) (sym e) f) (subst (λ v. AllSpans h (all_spans v)) (sym e) t)
        (subst (λ v. origin ≡ Own → (w : Span) → v.current ≡ Some w → w.origin ≡ Own) (sym e) own))

-- the open checkpoint is sealed
pub list_seals : (l : Ckpts) (ws : Spans) (h : List Change) (at : ℕ) → ListStands l ws h at → ListStands (sealed_list l) (with_seal ws) h at
list_seals l ws h at st = record {
  spans = ap with_seal st.spans;
  items = ap (λ xs. xs ++ l.newest.items) st.items ∙ ap (λ xs. flat_map (λ w. live_in w h) ws.sealed ++ xs) (st.newest ∙ open_flat ws.current) ∙ sym (flat_map-append (λ w. live_in w h) ws.sealed (option_to_list ws.current));
  newest = refl;
  high = st.high;
}
  where
    open_flat : (o : Option Span) → open_live o h ≡ flat_map (λ w. live_in w h) (option_to_list o)
    open_flat None = refl
    open_flat (Some w) = sym (append-nil (live_in w h))
