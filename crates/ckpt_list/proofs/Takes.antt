-- ends of checkpoints, and the changes up to them
use Rattle.std.proofs.Common.{◌≡◌, ℕ, ◌<◌, ◌≤◌, Bool, true, false, cond, ◌&&◌, leb, ltb, List, [], ◌∷◌, ◌++◌, map, max, ◌-◌, append-nil, refl, ap, sym, ◌∙◌, subst, ⊎_elim, arith}
use Rattle.std.specs.Prelude.{Option, Some, None, option_to_list, IfSome}
use Rattle.std.specs.Option.{option_or, option_map}
use Rattle.std.specs.List.{find}
use Rattle.std.proofs.lemmas.Bool.{ltb-true, ltb-false, lt-ltb, le-leb, lt-leb, cond-true, cond-false, cases_Bool, and_left, and_right, and_parts, and_from}
use Rattle.std.proofs.lemmas.List.Folds.{find-append}
use Rattle.std.proofs.lemmas.List.Elements.{filter-append}
use Rattle.vb_types.specs.declared.change.Change.{Change}
use Rattle.vb_types.specs.Histories.{Rises}
use Rattle.vb_calls.specs.declared.span.Span.{Span}
use Rattle.vb_calls.specs.declared.span.Origin.{Origin}
use Rattle.vb_calls.specs.Spans.{all_spans}
use Rattle.branch_model.specs.Histories.{last_seq}
use Rattle.branch_model.proofs.Lists.{rises_le}
use Rattle.checkpoint.specs.Checkpoints.{Ckpt, ckpt_last, ckpt_span, span_by, items_above}
use Rattle.cursor_set.specs.Cursors.{Places, place_of, advanced, may_advance}
use Rattle.ckpt_list.specs.Lists.{Ckpts, taken_by, taken_to, moved_cursor, place_of_cursor, spans_of, held_of, high_of, between, ends_of, reach_of}
use Rattle.ckpt_list.specs.Sound.{Follow, IsSound}

-- what a checkpoint's span is
pub record Spanned (k : Ckpt) (w : Span) : Type 0 where
  pub above : w.above ≡ k.above
  pub last : w.last ≡ ckpt_last k
  pub low : w.above < w.last
  pub origin : w.origin ≡ k.origin

spanned_by : (above : ℕ) (o : Origin) (items : List Change) (w : Span) → Rises above (last_seq above items) items → span_by above o items ≡ Some w → Spanned (record { above = above; origin = o; items = items }) w
spanned_by above o [] w r e = absurd (cc)
spanned_by above o (c ∷ cs) w r e =
    let n : ℕ = last_seq c.seq cs in
    let same : record { above = above; last = n; origin = o } ≡ w = cc in
    let up : above < c.seq = r.0 in
    let on : c.seq ≤ n = rises_le c.seq n cs r.1 in
    record {
      above = ap (λ (v : Span). v.above) (sym same);
      last = ap (λ (v : Span). v.last) (sym same);
      low = subst (λ (v : Span). v.above < v.last) same (let l : above < n = omega arith in l);
      origin = ap (λ (v : Span). v.origin) (sym same);
    }

pub spanned : (k : Ckpt) (w : Span) → Rises k.above (ckpt_last k) k.items → ckpt_span k ≡ Some w → Spanned k w
spanned k w r e = spanned_by k.above k.origin k.items w r e

-- a span that is found among all ends at or below where the open one begins, or is the open one

pub follow_le : (low high : ℕ) (ws : List Span) → Follow low ws high → low ≤ high
follow_le low high [] f = let e : low ≡ high = f in omega arith
follow_le low high (w ∷ ws) f = let a : low < w.last = f.1 in let b : w.last ≤ high = follow_le w.last high ws f.2 in omega arith

pub follow_push : (low high : ℕ) (ws : List Span) (w : Span) → Follow low ws high → w.above ≡ high → high < w.last → Follow low (ws ++ w ∷ []) w.last
follow_push low high [] w f e l = let k : low ≡ high = f in (let g : w.above ≡ low = cc in g, let m : low < w.last = omega arith in m, refl)
follow_push low high (v ∷ vs) w f e l = (f.0, f.1, follow_push v.last high vs w f.2 e l)

found_below : (p : Span → Bool) (low high : ℕ) (ws : List Span) (w : Span) → Follow low ws high → find p ws ≡ Some w → w.last ≤ high
found_below p low high [] w f e = absurd (cc)
found_below p low high (v ∷ vs) w f e = ⊎_elim
    (λ t. let q : Some v ≡ Some w = sym (cond-true (p v) _ _ t) ∙ e in let same : v ≡ w = cc in subst (λ (x : Span). x.last ≤ high) same (follow_le v.last high vs f.2))
    (λ n. found_below p v.last high vs w f.2 (sym (cond-false (p v) _ _ n) ∙ e))
    (cases_Bool (p v))

found_open : (p : Span → Bool) (k : Ckpt) (o : Option Span) (w : Span) → Rises k.above (ckpt_last k) k.items → ckpt_span k ≡ o → find p (option_to_list o) ≡ Some w → ckpt_last k ≤ w.last
found_open p k None w r e f = absurd (cc)
found_open p k (Some v) w r e f = ⊎_elim
    (λ t. let q : Some v ≡ Some w = sym (cond-true (p v) _ _ t) ∙ f in let same : v ≡ w = cc in
    let last : v.last ≡ ckpt_last k = (spanned k v r e).last in let at : w.last ≡ ckpt_last k = subst (λ (x : Span). x.last ≡ ckpt_last k) same last in omega arith)
    (λ n. let q : None ≡ Some w = sym (cond-false (p v) _ _ n) ∙ f in absurd (cc))
    (cases_Bool (p v))

-- a span that is found above a seqno ends above it
pub found_above : (n : ℕ) (ws : List Span) (o : Option Span) → o ≡ find (λ w. ltb n w.last) ws → IfSome o (λ w. n < w.last)
found_above n [] o e = subst (λ x. IfSome x (λ w. n < w.last)) (sym e) tt
found_above n (v ∷ vs) o e = ⊎_elim
    (λ t. subst (λ x. IfSome x (λ w. n < w.last)) (sym (e ∙ cond-true (ltb n v.last) _ _ t)) (ltb-true n v.last t))
    (λ f. found_above n vs o (e ∙ cond-false (ltb n v.last) _ _ f))
    (cases_Bool (ltb n v.last))

found_or : (l : Ckpts) (a b : Option Span) (w : Span) → ((v : Span) → a ≡ Some v → v.last ≤ l.newest.above) → ((v : Span) → b ≡ Some v → high_of l ≤ v.last)
    → option_or a b ≡ Some w → l.newest.above < w.last → high_of l ≤ w.last
found_or l None b w f g e m = g w e
found_or l (Some v) b w f g e m = let k : w.last ≤ l.newest.above = f w e in absurd (omega arith)

pub found_end : (p : Span → Bool) (l : Ckpts) (w : Span) → IsSound l → find p (all_spans (spans_of l)) ≡ Some w → l.newest.above < w.last → high_of l ≤ w.last
found_end p l w s e m =
    found_or l (find p l.sealed) (find p (option_to_list (ckpt_span l.newest))) w
    (λ v g. found_below p l.floor l.newest.above l.sealed v s.spans g)
    (λ v g. found_open p l.newest (ckpt_span l.newest) v s.newest refl g)
    (sym (find-append p l.sealed (option_to_list (ckpt_span l.newest))) ∙ e) m

pub found_some : (p : Span → Bool) (l : Ckpts) (o : Option Span) → IsSound l → o ≡ find p (all_spans (spans_of l)) → IfSome o (λ w. l.newest.above < w.last → high_of l ≤ w.last)
found_some p l None s e = tt
found_some p l (Some w) s e = found_end p l w s (sym e)

-- the least end that reaches what is needed

reach_at : (place need n : ℕ) → (ltb place n && leb need n) ≡ ltb (max place (need - 1)) n
reach_at place need n = ⊎_elim
    (λ t. let m : max place (need - 1) < n = ltb-true _ n t in
    and_from (ltb place n) (leb need n) (lt-ltb place n (omega arith)) (le-leb need n (omega arith)) ∙ sym t)
    (λ f. let m : n ≤ max place (need - 1) = ltb-false _ n f in ⊎_elim
    (λ a. let b : place < n = ltb-true place n a in and_right (ltb place n) (leb need n) (lt-leb need n (omega arith)) ∙ sym f)
    (λ a. and_left (ltb place n) (leb need n) a ∙ sym f)
    (cases_Bool (ltb place n)))
    (cases_Bool (ltb (max place (need - 1)) n))

pub reach_map : (place need : ℕ) (ws : List Span) → find (λ n. ltb place n && leb need n) (map (λ w. w.last) ws) ≡ option_map (λ w. w.last) (find (λ w. ltb (max place (need - 1)) w.last) ws)
reach_map place need [] = refl
reach_map place need (w ∷ ws) = ⊎_elim
    (λ t. cond-true _ _ _ (reach_at place need w.last ∙ t) ∙ sym (ap (option_map (λ (v : Span). v.last)) (cond-true _ _ _ t)))
    (λ f. cond-false _ _ _ (reach_at place need w.last ∙ f) ∙ reach_map place need ws ∙ sym (ap (option_map (λ (v : Span). v.last)) (cond-false _ _ _ f)))
    (cases_Bool (ltb (max place (need - 1)) w.last))

-- the changes up to an end

and_true : (a b : Bool) → b ≡ true → a ≡ (a && b)
and_true true b e = sym e
and_true false b e = refl

pub late : (place end low high : ℕ) (cs : List Change) → Rises low high cs → high ≤ end → items_above place cs ≡ between place end cs
late place end low high [] r m = refl
late place end low high (c ∷ cs) r m =
    let on : c.seq ≤ high = rises_le c.seq high cs r.1 in
    ap (λ b. cond b (c ∷ items_above place cs) (items_above place cs)) (and_true (ltb place c.seq) (leb c.seq end) (le-leb c.seq end (omega arith)))
    ∙ ap (λ l. cond (ltb place c.seq && leb c.seq end) (c ∷ l) l) (late place end c.seq high cs r.1 m)

pub early : (place end low high : ℕ) (cs : List Change) → Rises low high cs → end ≤ low → between place end cs ≡ []
early place end low high [] r m = refl
early place end low high (c ∷ cs) r m =
    let up : low < c.seq = r.0 in
    cond-false _ _ _ (and_right (ltb place c.seq) (leb c.seq end) (lt-leb c.seq end (omega arith))) ∙ early place end c.seq high cs r.1 (omega arith)

pub copied_late : (place end low high : ℕ) (items new xs : List Change) → Rises low high new → high ≤ end → xs ≡ between place end items → xs ++ items_above place new ≡ between place end (items ++ new)
copied_late place end low high items new xs r m e =
    ap (λ l. l ++ items_above place new) e ∙ ap (λ l. between place end items ++ l) (late place end low high new r m) ∙ sym (filter-append (λ (c : Change). ltb place c.seq && leb c.seq end) items new)

pub copied_early : (place end low high : ℕ) (items new xs : List Change) → Rises low high new → end ≤ low → xs ≡ between place end items → xs ≡ between place end (items ++ new)
copied_early place end low high items new xs r m e =
    e ∙ sym (append-nil (between place end items)) ∙ ap (λ l. between place end items ++ l) (sym (early place end low high new r m)) ∙ sym (filter-append (λ (c : Change). ltb place c.seq && leb c.seq end) items new)

-- what a take makes

pub taken : (l : Ckpts) (id need place n : ℕ) (items : List Change) → place_of l.places id ≡ Some place → reach_of l place need ≡ Some n → items ≡ between place n (held_of l)
    → (record l { places = advanced l.places id n }, Some items) ≡ taken_by l id need
taken l id need place n items at to is =
    let on : may_advance (place_of l.places id) n ≡ true = ap (λ o. may_advance o n) at ∙ reached (ends_of l) to in
    ap (λ (p : Places). (record l { places = p }, Some items)) (cond-true _ _ _ on)
    ∙ ap (λ xs. (moved_cursor l id n, Some xs)) is
    ∙ sym (ap (λ o. taken_to o l id place) to)
    ∙ sym (ap (λ o. taken_to (reach_of l (place_of_cursor o) need) l id (place_of_cursor o)) at)
  where
    reached : (ns : List ℕ) → find (λ m. ltb place m && leb need m) ns ≡ Some n → leb place n ≡ true
    reached [] e = absurd (cc)
    reached (m ∷ ns) e = ⊎_elim
        (λ t. let q : Some m ≡ Some n = sym (cond-true _ _ _ t) ∙ e in let same : m ≡ n = cc in let k : place < m = ltb-true place m (and_parts _ _ t).0 in le-leb place n (omega arith))
        (λ f. reached ns (sym (cond-false _ _ _ f) ∙ e))
        (cases_Bool (ltb place m && leb need m))

pub taken_none : (l : Ckpts) (id need place : ℕ) → place_of l.places id ≡ Some place → reach_of l place need ≡ None → (l, None) ≡ taken_by l id need
taken_none l id need place at to =
    sym (ap (λ o. taken_to o l id place) to) ∙ sym (ap (λ o. taken_to (reach_of l (place_of_cursor o) need) l id (place_of_cursor o)) at)
