-- what a stream is sent of the checkpoints is what it is sent of the spans
use Rattle.std.proofs.Common.{◌≡◌, ℕ, ◌<◌, ◌≤◌, Bool, true, false, cond, List, [], ◌∷◌, ◌++◌, map, refl, sym, ap, subst, ◌∙◌, inl, inr, ⊎_elim, arith}
use Rattle.std.specs.Prelude.{◌⊎◌, Option, Some, None, nat_le, nat_lt, ◌&&◌, ◌||◌, option_to_list}
use Rattle.std.specs.List.{filter, find, flat_map, list_any}
use Rattle.std.specs.Option.{option_map}
use Rattle.std.proofs.lemmas.Bool.Decides.{nat_tests}
use Rattle.std.proofs.lemmas.List.{append-nil, map-append}
use Rattle.std.proofs.lemmas.List.Elements.{filter-append}
use Rattle.std.proofs.lemmas.Grind.{flat_map-append}
use Rattle.vb_types.specs.declared.change.Change.{Change}
use Rattle.vb_types.specs.Histories.{IsIn}
use Rattle.branch_model.proofs.Lists.{in_append}
use Rattle.vb_calls.specs.declared.span.Span.{Span}
use Rattle.vb_calls.specs.declared.stream.Stream.{Stream}
use Rattle.vb_calls.specs.Spans.{Spans, all_spans, is_whole, live_in, stretch}
use Rattle.vb_calls.specs.Streams.{end_span, has_any, is_end_for, is_plain, is_seen, items_to, may_end, need_of, sent_as, span_items}
use Rattle.ckpt_list.specs.Lists.{Ckpts, between, held_of, may_stop, stop_of}
use Rattle.vbucket.specs.Kept.{sent_items}
use Rattle.vbucket.specs.Laws.{Follow}
use Rattle.vbucket.specs.Stands.{ListStands, open_live}
use Rattle.vbucket.proofs.Counting.{filter_none, filter_same}
use Rattle.vbucket.proofs.Parts.{Among, ends_above, in_live, in_stretch, split}

-- a seqno where a span ends lies in no other span
abbrev pub IsCut : ℕ → List Span → Type 0
IsCut e ws = (w : Span) → Among w ws → (w.last ≤ e) ⊎ (e ≤ w.above)

low_cut : (low high e : ℕ) (ws : List Span) → Follow low ws high → e ≤ low → IsCut e ws
low_cut low high e [] f l w a = absurd a
low_cut low high e (v ∷ vs) f l w a =
    let q : v.above ≡ low = f.0 in
    let m : low < v.last = f.1 in
    ⊎_elim (λ s. let k : w.above ≡ v.above = ap (λ (x : Span). x.above) s in inr (omega arith)) (λ i. low_cut v.last high e vs f.2 (omega arith) w i) a

end_cut : (low high : ℕ) (ws : List Span) (w0 : Span) → Follow low ws high → Among w0 ws → IsCut w0.last ws
end_cut low high [] w0 f i w a = absurd a
end_cut low high (v ∷ vs) w0 f i w a = ⊎_elim
    (λ q. let k : w0.last ≡ v.last = ap (λ (x : Span). x.last) q in
    ⊎_elim (λ s. let m : w.last ≡ v.last = ap (λ (x : Span). x.last) s in inl (omega arith)) (λ j. low_cut v.last high w0.last vs f.2 (omega arith) w j) a)
    (λ j. ⊎_elim (λ s. let m : w.last ≡ v.last = ap (λ (x : Span). x.last) s in let n = ends_above v.last high vs w0 f.2 j in inl (omega arith)) (λ t. end_cut v.last high vs w0 f.2 j w t) a) i

seen_up_to : (place e seq : ℕ) (b : Bool) → seq ≤ e → (b && (nat_lt place seq && nat_le seq e)) ≡ (nat_lt place seq && b)
seen_up_to place e seq b l = by b (nat_lt place seq) (nat_le seq e) (grind (arith, nat_tests))
  where
    by : (b p q : Bool) → q ≡ true → (b && (p && q)) ≡ (p && b)
    by true true true e = refl
    by true false true e = refl
    by false true true e = refl
    by false false true e = refl
    by b p false e = cc

not_up_to : (place e last seq above : ℕ) → (nat_lt place last && nat_le last e) ≡ false → (last ≤ e) ⊎ (e ≤ above) → above < seq → seq ≤ last → (nat_lt place seq && nat_le seq e) ≡ false
not_up_to place e last seq above q k l m = ⊎_elim (λ n. let z : last ≤ place = grind (arith, nat_tests) in grind (arith, nat_tests)) (λ n. grind (arith, nat_tests)) k

module _ (st : Stream) (h : List Change) (e : ℕ) where
  abbrev up_to : Change → Bool
  up_to c = nat_lt st.place c.seq && nat_le c.seq e

  abbrev seen : Change → Bool
  seen c = is_seen st.sync c.act

  in_span : (w : Span) (x : Change) → IsIn x (live_in w h) → (w.above < x.seq) × (x.seq ≤ w.last)
  in_span w x i = let k = in_stretch w.above w.last h x (in_live w.origin (stretch w.above w.last h) x i) in (k.1, k.2)

  whole_span : (w : Span) → w.last ≤ e → span_items st h w ≡ sent_items st (between st.place e (live_in w h))
  whole_span w l = ap (map (sent_as (is_plain st)))
      (filter_same (λ c. nat_lt st.place c.seq && is_seen st.sync c.act) (λ c. seen c && up_to c) (live_in w h)
      (λ x i. let k = in_span w x i in let m : x.seq ≤ w.last = k.1 in sym (seen_up_to st.place e x.seq (seen x) (omega arith)))
      ∙ split seen up_to (live_in w h))

  no_span : (w : Span) → (nat_lt st.place w.last && nat_le w.last e) ≡ false → (w.last ≤ e) ⊎ (e ≤ w.above) → between st.place e (live_in w h) ≡ []
  no_span w q k = filter_none up_to (live_in w h) (λ x i. let m = in_span w x i in not_up_to st.place e w.last x.seq w.above q k m.0 m.1)

  sent_append : (xs ys : List Change) → sent_items st (between st.place e (xs ++ ys)) ≡ sent_items st (between st.place e xs) ++ sent_items st (between st.place e ys)
  sent_append xs ys =
      ap (λ zs. map (sent_as (is_plain st)) (filter seen zs)) (filter-append up_to xs ys)
      ∙ ap (map (sent_as (is_plain st))) (filter-append seen (filter up_to xs) (filter up_to ys))
      ∙ map-append (sent_as (is_plain st)) (filter seen (filter up_to xs)) (filter seen (filter up_to ys))

  pub sent_flat : (ws : List Span) → IsCut e ws → items_to st ws h e ≡ sent_items st (between st.place e (flat_map (λ w. live_in w h) ws))
  sent_flat [] k = refl
  sent_flat (w ∷ ws) k = by (nat_lt st.place w.last && nat_le w.last e) refl (sent_flat ws (λ v a. k v (inr a)))
    where
      rest : List Change
      rest = flat_map (λ w. live_in w h) ws

      by : (b : Bool) → (nat_lt st.place w.last && nat_le w.last e) ≡ b → items_to st ws h e ≡ sent_items st (between st.place e rest)
          → flat_map (span_items st h) (cond b (w ∷ filter (λ w. nat_lt st.place w.last && nat_le w.last e) ws) (filter (λ w. nat_lt st.place w.last && nat_le w.last e) ws)) ≡ sent_items st (between st.place e (live_in w h ++ rest))
      by true q ih = let l : w.last ≤ e = grind (arith, nat_tests) in ap (λ xs. span_items st h w ++ xs) ih ∙ ap (λ xs. xs ++ sent_items st (between st.place e rest)) (whole_span w l) ∙ sym (sent_append (live_in w h) rest)
      by false q ih = ih ∙ ap (λ xs. sent_items st xs ++ sent_items st (between st.place e rest)) (sym (no_span w q (k w (inl refl)))) ∙ sym (sent_append (live_in w h) rest)

  any_sent : (xs : List Change) → has_any (sent_items st (between st.place e xs)) ≡ list_any (λ c. up_to c && seen c) xs
  any_sent [] = refl
  any_sent (x ∷ xs) = by (up_to x) (seen x) refl (any_sent xs)
    where
      by : (a b : Bool) → seen x ≡ b → has_any (sent_items st (between st.place e xs)) ≡ list_any (λ c. up_to c && seen c) xs
          → has_any (map (sent_as (is_plain st)) (filter seen (cond a (x ∷ filter up_to xs) (filter up_to xs)))) ≡ ((a && b) || list_any (λ c. up_to c && seen c) xs)
      by true true q ih = ap (λ t. has_any (map (sent_as (is_plain st)) (cond t (x ∷ filter seen (filter up_to xs)) (filter seen (filter up_to xs))))) q
      by true false q ih = ap (λ t. has_any (map (sent_as (is_plain st)) (cond t (x ∷ filter seen (filter up_to xs)) (filter seen (filter up_to xs))))) q ∙ ih
      by false b q ih = ih

-- the live changes of all checkpoints are those of all spans
pub held_flat : (l : Ckpts) (ws : Spans) (h : List Change) (at : ℕ) → ListStands l ws h at → held_of l ≡ flat_map (λ w. live_in w h) (all_spans ws)
held_flat l ws h at s =
    ap (λ xs. xs ++ l.newest.items) s.items ∙ ap (λ xs. flat_map (λ w. live_in w h) ws.sealed ++ xs) (s.newest ∙ open_flat ws.current) ∙ sym (flat_map-append (λ w. live_in w h) ws.sealed (option_to_list ws.current))
  where
    open_flat : (o : Option Span) → open_live o h ≡ flat_map (λ w. live_in w h) (option_to_list o)
    open_flat None = refl
    open_flat (Some w) = sym (append-nil (live_in w h))

find_at : (p : ℕ → Bool) (q : Span → Bool) (ws : List Span) → ((w : Span) → Among w ws → p w.last ≡ q w) → find p (map (λ w. w.last) ws) ≡ option_map (λ w. w.last) (find q ws)
find_at p q [] f = refl
find_at p q (w ∷ ws) f = by (q w) (f w (inl refl)) (find_at p q ws (λ v a. f v (inr a)))
  where
    by : (b : Bool) → p w.last ≡ b → find p (map (λ w. w.last) ws) ≡ option_map (λ w. w.last) (find q ws) → cond (p w.last) (Some w.last) (find p (map (λ w. w.last) ws)) ≡ option_map (λ w. w.last) (cond b (Some w) (find q ws))
    by true e ih = ap (λ t. cond t (Some w.last) (find p (map (λ w. w.last) ws))) e
    by false e ih = ap (λ t. cond t (Some w.last) (find p (map (λ w. w.last) ws))) e ∙ ih

module _ (low : ℕ) (l : Ckpts) (ws : Spans) (h : List Change) (at : ℕ) (is : ListStands l ws h at) (f : Follow low (all_spans ws) at) (st : Stream) where
  pub taken_items : (w : Span) → Among w (all_spans ws) → sent_items st (between st.place w.last (held_of l)) ≡ items_to st (all_spans ws) h w.last
  taken_items w a = ap (λ xs. sent_items st (between st.place w.last xs)) (held_flat l ws h at is) ∙ sym (sent_flat st h w.last (all_spans ws) (end_cut low at (all_spans ws) w f a))

  stops : (w : Span) → Among w (all_spans ws) → may_stop l st.place (need_of st) st.sync w.last ≡ may_end st (all_spans ws) h w.last
  stops w a =
      ap (λ v. nat_lt st.place w.last && is_whole w.last (all_spans v) && nat_le (need_of st) w.last && list_any (λ c. nat_lt st.place c.seq && nat_le c.seq w.last && is_seen st.sync c.act) (held_of l)) is.spans
      ∙ ap (λ b. is_end_for st (all_spans ws) w.last && b) (sym (any_sent st h w.last (held_of l)) ∙ ap has_any (taken_items w a))

  pub stop_found : stop_of l st.place (need_of st) st.sync ≡ option_map (λ w. w.last) (end_span st (all_spans ws) h)
  stop_found = ap (λ v. find (may_stop l st.place (need_of st) st.sync) (map (λ w. w.last) (all_spans v))) is.spans ∙ find_at (may_stop l st.place (need_of st) st.sync) (λ w. may_end st (all_spans ws) h w.last) (all_spans ws) stops

-- what is to be written down of the spans

above_flat : (low at : ℕ) (h : List Change) (ws : List Span) (x : Change) → Follow low ws at → IsIn x (flat_map (λ w. live_in w h) ws) → low < x.seq
above_flat low at h [] x f i = absurd i
above_flat low at h (w ∷ ws) x f i = ⊎_elim
    (λ j. let k = (in_stretch w.above w.last h x (in_live w.origin (stretch w.above w.last h) x j)).1 in let e : w.above ≡ low = f.0 in omega arith)
    (λ j. let k = above_flat w.last at h ws x f.2 j in let l : low < w.last = f.1 in omega arith)
    (in_append x (live_in w h) (flat_map (λ w. live_in w h) ws) i)

most_live : (h : List Change) (w : Span) (x : Change) → IsIn x (live_in w h) → x.seq ≤ w.last
most_live h w x i = (in_stretch w.above w.last h x (in_live w.origin (stretch w.above w.last h) x i)).2

up_to_last : (place seq last : ℕ) → seq ≤ last → (nat_lt place seq && nat_le seq last) ≡ nat_lt place seq
up_to_last place seq last l = by (nat_lt place seq) (nat_le seq last) (grind (arith, nat_tests))
  where
    by : (p q : Bool) → q ≡ true → (p && q) ≡ p
    by true true e = refl
    by false true e = refl
    by p false e = cc

none_up_to : (place seq last : ℕ) → last < seq → (nat_lt place seq && nat_le seq last) ≡ false
none_up_to place seq last l = grind (arith, nat_tests)

none_below : (place seq last : ℕ) → seq ≤ place → (nat_lt place seq && nat_le seq last) ≡ false
none_below place seq last l = grind (arith, nat_tests)

-- above a place and up to the end of the first span that goes on above it stand changes of that span alone
pub batch_items : (low at place : ℕ) (h : List Change) (ws : List Span) (w : Span) → Follow low ws at → find (λ v. nat_lt place v.last) ws ≡ Some w
    → between place w.last (flat_map (λ v. live_in v h) ws) ≡ filter (λ c. nat_lt place c.seq) (live_in w h)
batch_items low at place h [] w f e = cc
batch_items low at place h (v ∷ vs) w f e = by (nat_lt place v.last) refl e (batch_items v.last at place h vs w f.2)
  where
    rest : List Change
    rest = flat_map (λ v. live_in v h) vs

    by : (b : Bool) → nat_lt place v.last ≡ b → cond b (Some v) (find (λ v. nat_lt place v.last) vs) ≡ Some w
        → (find (λ v. nat_lt place v.last) vs ≡ Some w → between place w.last rest ≡ filter (λ c. nat_lt place c.seq) (live_in w h))
        → between place w.last (live_in v h ++ rest) ≡ filter (λ c. nat_lt place c.seq) (live_in w h)
    by true q e ih =
        let s : v ≡ w = cc in
        subst (λ (u : Span). between place u.last (live_in v h ++ rest) ≡ filter (λ c. nat_lt place c.seq) (live_in u h)) s
        (filter-append (λ c. nat_lt place c.seq && nat_le c.seq v.last) (live_in v h) rest
        ∙ ap (λ xs. between place v.last (live_in v h) ++ xs) (filter_none (λ c. nat_lt place c.seq && nat_le c.seq v.last) rest (λ x i. none_up_to place x.seq v.last (above_flat v.last at h vs x f.2 i)))
        ∙ append-nil (between place v.last (live_in v h))
        ∙ filter_same (λ c. nat_lt place c.seq && nat_le c.seq v.last) (λ c. nat_lt place c.seq) (live_in v h) (λ x i. up_to_last place x.seq v.last (most_live h v x i)))
    by false q e ih =
        let l : v.last ≤ place = grind (arith, nat_tests) in
        filter-append (λ c. nat_lt place c.seq && nat_le c.seq w.last) (live_in v h) rest
        ∙ ap (λ xs. xs ++ between place w.last rest) (filter_none (λ c. nat_lt place c.seq && nat_le c.seq w.last) (live_in v h) (λ x i. let m = most_live h v x i in none_below place x.seq w.last (omega arith)))
        ∙ ih e
