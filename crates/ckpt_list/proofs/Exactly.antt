-- the laws of takes, changes, seals and resets
use Rattle.std.proofs.Common.{◌≡◌, ◌≢◌, ◌↔◌, ℕ, ◌<◌, ◌≤◌, Bool, true, false, not, ◌&&◌, leb, ltb, List, [], ◌∷◌, ◌++◌, map, refl, ap, sym, ◌∙◌, subst, ⊎_elim, inl, inr, arith, append-nil}
use Rattle.std.specs.Prelude.{◌⊎◌, Option, Some, None, option_to_list}
use Rattle.std.specs.FinMap as finite
use Rattle.std.specs.FinMap.{get-insert, get-empty}
use Rattle.std.specs.Cmp.{unsigned_tied}
use Rattle.std.specs.Ordering.{nat_cmp}
use Rattle.std.specs.List.{find, filter}
use Rattle.std.specs.Str.{bytes_eq}
use Rattle.std.proofs.lemmas.Cmp.{nat_cmp_total}
use Rattle.checkpoint.proofs.Entered.{same_key}
use Rattle.std.proofs.lemmas.Bool.{leb-true, ltb-true, lt-ltb, le-ltb, le-leb, lt-leb, cond-true, cond-false, cases_Bool, cases_lt, and_from, and_left, and_right, and_parts, eq-eqb, ne_eqb}
use Rattle.vb_types.specs.declared.change.Change.{Change}
use Rattle.vb_types.specs.Histories.{IsIn}
use Rattle.vb_calls.specs.declared.span.Span.{Span}
use Rattle.vb_calls.specs.declared.span.Origin.{Origin}
use Rattle.vb_calls.specs.Spans.{all_spans}
use Rattle.branch_model.specs.Histories.{last_seq}
use Rattle.branch_model.proofs.Lists.{in_append, in_left, in_right}
use Rattle.branch_model.proofs.Lasts.{in_filter, kept_in_filter}
use Rattle.checkpoint.specs.Checkpoints.{ckpt_last, ckpt_span, ckpt_with, entered, fits_in, span_by}
use Rattle.cursor_set.specs.Cursors.{Places, place_of}
use Rattle.ckpt_list.specs.Lists.{Ckpts, ends_of, held_of, high_of, spans_of, queued_by, opened, is_own, sealed_list, taken_by, taken_to, reach_of, place_of_cursor, moved_cursor, between}
use Rattle.ckpt_list.specs.Sound.{Follow, IsSound}
use Rattle.ckpt_list.specs.Laws.{IsAmong, Gives, TakesExactly, NothingExactly, Queues, QueuesOne, SealsAlone, ResetsAlone}
use Rattle.ckpt_list.proofs.Climbs.{Climbs, climbs_map, climbs_follow}
use Rattle.ckpt_list.proofs.Takes.{spanned, follow_le, follow_push}
use Rattle.ckpt_list.proofs.Seals.{last_pushed}

-- what a find gives of numbers that rise

found_among : (p : ℕ → Bool) (ns : List ℕ) (n : ℕ) → find p ns ≡ Some n → IsAmong n ns × (p n ≡ true)
found_among p [] n e = absurd (cc)
found_among p (m ∷ ms) n e = ⊎_elim
    (λ t. let q : Some m ≡ Some n = sym (cond-true (p m) _ _ t) ∙ e in let same : m ≡ n = cc in (inl (sym same), subst (λ x. p x ≡ true) same t))
    (λ f. let r = found_among p ms n (sym (cond-false (p m) _ _ f) ∙ e) in (inr r.0, r.1))
    (cases_Bool (p m))

among_above : (low e : ℕ) (ns : List ℕ) → Climbs (λ (x : ℕ). x) low ns → IsAmong e ns → low < e
among_above low e [] c i = absurd i
among_above low e (m ∷ ms) c i = let k : low < m = c.0 in ⊎_elim (λ s. let g : low < e = subst (λ x. low < x) (sym s) k in g) (λ r. let h : m < e = among_above m e ms c.1 r in omega arith) i

found_least : (p : ℕ → Bool) (low : ℕ) (ns : List ℕ) (n : ℕ) → Climbs (λ (x : ℕ). x) low ns → find p ns ≡ Some n → (e : ℕ) → IsAmong e ns → p e ≡ true → n ≤ e
found_least p low [] n c f e i t = absurd i
found_least p low (m ∷ ms) n c f e i t = ⊎_elim
    (λ y. let q : Some m ≡ Some n = sym (cond-true (p m) _ _ y) ∙ f in let same : m ≡ n = cc in
    ⊎_elim (λ s. omega (arith, s)) (λ r. let h : m < e = among_above m e ms c.1 r in omega arith) i)
    (λ no. ⊎_elim (λ s. let u : p m ≡ true = subst (λ x. p x ≡ true) s t in absurd (cc)) (λ r. found_least p m ms n c.1 (sym (cond-false (p m) _ _ no) ∙ f) e r t) i)
    (cases_Bool (p m))

found_none : (p : ℕ → Bool) (ns : List ℕ) → find p ns ≡ None → (e : ℕ) → IsAmong e ns → p e ≡ true → ⊥
found_none p [] f e i t = i
found_none p (m ∷ ms) f e i t = ⊎_elim
    (λ y. let q : Some m ≡ None = sym (cond-true (p m) _ _ y) ∙ f in absurd (cc))
    (λ no. ⊎_elim (λ s. let u : p m ≡ true = subst (λ x. p x ≡ true) s t in absurd (cc)) (λ r. found_none p ms (sym (cond-false (p m) _ _ no) ∙ f) e r t) i)
    (cases_Bool (p m))

finds_none : (p : ℕ → Bool) (ns : List ℕ) → ((e : ℕ) → IsAmong e ns → p e ≡ false) → find p ns ≡ None
finds_none p [] h = refl
finds_none p (m ∷ ms) h = cond-false (p m) _ _ (h m (inl refl)) ∙ finds_none p ms (λ e i. h e (inr i))

-- all ends follow one another up to the last seqno

all_follow : (l : Ckpts) (o : Option Span) → IsSound l → ckpt_span l.newest ≡ o → (high : ℕ) × Follow l.floor (l.sealed ++ option_to_list o) high × (high ≡ ckpt_last l.newest)
all_follow l None s e = (l.newest.above, subst (λ ws. Follow l.floor ws l.newest.above) (sym (append-nil l.sealed)) s.spans, none_last l.newest.items refl)
  where
    none_last : (xs : List Change) → l.newest.items ≡ xs → l.newest.above ≡ ckpt_last l.newest
    none_last [] f = sym (ap (last_seq l.newest.above) f)
    none_last (x ∷ xs) f = let some : span_by l.newest.above l.newest.origin l.newest.items ≡ span_by l.newest.above l.newest.origin (x ∷ xs) = ap (span_by l.newest.above l.newest.origin) f in absurd (cc)
all_follow l (Some w) s e =
    let k = spanned l.newest w s.newest e in
    let a : w.above ≡ l.newest.above = k.above in
    let b : w.above < w.last = k.low in
    (w.last, follow_push l.floor l.newest.above l.sealed w s.spans a (omega arith), k.last)

among_follow : (low high e : ℕ) (ws : List Span) → Follow low ws high → IsAmong e (map (λ w. w.last) ws) → e ≤ high
among_follow low high e [] f i = absurd i
among_follow low high e (w ∷ ws) f i = let k : w.last ≤ high = follow_le w.last high ws f.2 in ⊎_elim (λ s. omega (arith, s)) (λ r. among_follow w.last high e ws f.2 r) i

last_among : (low high : ℕ) (ws : List Span) → Follow low ws high → low < high → IsAmong high (map (λ w. w.last) ws)
last_among low high [] f m = let e : low ≡ high = f in absurd (omega arith)
last_among low high (w ∷ ws) f m = ⊎_elim
    (λ l. inr (last_among w.last high ws f.2 l))
    (λ g. let k : w.last ≤ high = follow_le w.last high ws f.2 in let same : high ≡ w.last = omega arith in inl same)
    (cases_lt w.last high)

-- cursors

placed : (places : Places) (id n : ℕ) → place_of (finite.insert places id n) id ≡ Some n
placed places id n = get-insert nat_cmp_total places id n id ∙ cond-true _ _ _ (unsigned_tied id id ∙ eq-eqb id id refl)

unplaced : (places : Places) (id n other : ℕ) → other ≢ id → place_of (finite.insert places id n) other ≡ place_of places other
unplaced places id n other ne = get-insert nat_cmp_total places id n other ∙ cond-false _ _ _ (unsigned_tied other id ∙ ne_eqb other id ne)

-- takes

gives_to : (l m : Ckpts) (id need place : ℕ) (items : List Change) (o : Option ℕ) → IsSound l → reach_of l place need ≡ o → taken_to o l id place ≡ (m, Some items) → Gives l m id need place items
gives_to l m id need place items None s r e = let f : None ≡ Some items = ap (λ x. x.1) e in absurd (cc)
gives_to l m id need place items (Some n) s r e =
    let all = all_follow l (ckpt_span l.newest) s refl in
    let found = found_among (λ x. ltb place x && leb need x) (ends_of l) n r in
    let passes = and_parts (ltb place n) (leb need n) found.1 in
    let is : Some (between place n (held_of l)) ≡ Some items = ap (λ x. x.1) e in
    let same : between place n (held_of l) ≡ items = cc in
    let at : moved_cursor l id n ≡ m = ap (λ x. x.0) e in
    record {
      end = n;
      is_end = found.0;
      beyond = ltb-true place n passes.0;
      enough = leb-true need n passes.1;
      least = λ x i a b. found_least (λ y. ltb place y && leb need y) l.floor (ends_of l) n (climbs_map (λ (w : Span). w.last) l.floor (all_spans (spans_of l)) (climbs_follow l.floor all.0 (all_spans (spans_of l)) all.1)) r x i
          (and_from (ltb place x) (leb need x) (lt-ltb place x a) (le-leb need x b));
      given = λ c. subst (λ xs. IsIn c xs ↔ (IsIn c (held_of l) × (place < c.seq) × (c.seq ≤ n))) same (
        (λ i. let f = in_filter (λ (d : Change). ltb place d.seq && leb d.seq n) c (held_of l) i in let p = and_parts (ltb place c.seq) (leb c.seq n) f.1 in (f.0, ltb-true place c.seq p.0, leb-true c.seq n p.1)),
        (λ h. kept_in_filter (λ (d : Change). ltb place d.seq && leb d.seq n) c (held_of l) h.0 (and_from (ltb place c.seq) (leb c.seq n) (lt-ltb place c.seq h.1) (le-leb c.seq n h.2))),
      );
      moved = subst (λ (x : Ckpts). place_of x.places id ≡ Some n) at (placed l.places id n);
      others = λ other ne. subst (λ (x : Ckpts). place_of x.places other ≡ place_of l.places other) at (unplaced l.places id n other ne);
      rest = subst (λ (x : Ckpts). x ≡ record l { places = x.places }) at refl;
    }

pub takes_exactly : TakesExactly
takes_exactly l m id need place items s at e =
    gives_to l m id need place items (reach_of l place need) s refl (sym (ap (λ o. taken_to (reach_of l (place_of_cursor o) need) l id (place_of_cursor o)) at) ∙ e)

takes_none_exactly : (l : Ckpts) (id place : ℕ) (o : Option ℕ) → ((taken_to o l id place).1 ≡ None) → o ≡ None
takes_none_exactly l id place None e = refl
takes_none_exactly l id place (Some n) e = absurd (cc)

pub nothing_exactly : NothingExactly
nothing_exactly l id need place s low at =
    let all = all_follow l (ckpt_span l.newest) s refl in
    let top : all.0 ≡ high_of l = all.2 in
    let now : taken_by l id need ≡ taken_to (reach_of l place need) l id place = ap (λ o. taken_to (reach_of l (place_of_cursor o) need) l id (place_of_cursor o)) at in (
      (λ e. let none : reach_of l place need ≡ None = takes_none_exactly l id place (reach_of l place need) (sym (ap (λ x. x.1) now) ∙ e) in
          ⊎_elim (λ a. inl a)
          (λ a. ⊎_elim
          (λ b. absurd (found_none (λ x. ltb place x && leb need x) (ends_of l) none all.0 (last_among l.floor all.0 (all_spans (spans_of l)) all.1 (omega arith))
          (and_from (ltb place all.0) (leb need all.0) (lt-ltb place all.0 (omega arith)) (le-leb need all.0 (omega arith)))))
          (λ b. inr b)
          (cases_lt place (high_of l)))
          (cases_lt (high_of l) need)),
      (λ h. ap (λ x. x.1) now ∙ ap (λ o. (taken_to o l id place).1)
          (finds_none (λ x. ltb place x && leb need x) (ends_of l)
          (λ x i. let on : x ≤ all.0 = among_follow l.floor all.0 x (all_spans (spans_of l)) all.1 i in
          ⊎_elim (λ a. and_right (ltb place x) (leb need x) (lt-leb need x (omega arith))) (λ b. and_left (ltb place x) (leb need x) (le-ltb place x (omega arith))) h))),
    )

-- changes

not_true : (b : Bool) → b ≡ false → not b ≡ true
not_true b e = ap not e

entered_stay : (items : List Change) (c d : Change) → IsIn d items → IsIn d (entered items c) ⊎ (IsIn d items × (d.key ≡ c.key))
entered_stay items c d i = ⊎_elim
    (λ t. inr (i, same_key d.key c.key t))
    (λ f. inl (in_left d _ (c ∷ []) (kept_in_filter (λ (x : Change). not (bytes_eq x.key c.key)) d items i (not_true (bytes_eq d.key c.key) f))))
    (cases_Bool (bytes_eq d.key c.key))

entered_came : (items : List Change) (c d : Change) → IsIn d (entered items c) → (d ≡ c) ⊎ IsIn d items
entered_came items c d i = ⊎_elim
    (λ a. inr (in_filter (λ (x : Change). not (bytes_eq x.key c.key)) d items a).0)
    (λ b. ⊎_elim (λ e. inl e) (λ no. absurd no) b)
    (in_append d (filter (λ (x : Change). not (bytes_eq x.key c.key)) items) (c ∷ []) i)

queues_put : (l : Ckpts) (c : Change) → Queues l (record l { newest = ckpt_with l.newest c }) c
queues_put l c = record {
  held = in_right c l.items (entered l.newest.items c) (in_right c (filter (λ d. not (bytes_eq d.key c.key)) l.newest.items) (c ∷ []) (inl refl));
  stay = λ d i. ⊎_elim (λ a. inl (in_left d l.items (entered l.newest.items c) a))
      (λ b. ⊎_elim (λ y. inl (in_right d l.items (entered l.newest.items c) y)) (λ n. inr n) (entered_stay l.newest.items c d b)) (in_append d l.items l.newest.items i);
  came = λ d i. ⊎_elim (λ a. inr (in_left d l.items l.newest.items a))
      (λ b. ⊎_elim (λ e. inl e) (λ y. inr (in_right d l.items l.newest.items y)) (entered_came l.newest.items c d b)) (in_append d l.items (entered l.newest.items c) i);
  places = refl;
  high = last_pushed l.newest.above (filter (λ d. not (bytes_eq d.key c.key)) l.newest.items) c;
}

queues_behind : (l m : Ckpts) (c : Change) → held_of m ≡ held_of l ++ c ∷ [] → m.places ≡ l.places → high_of m ≡ c.seq → Queues l m c
queues_behind l m c held places high = record {
  held = subst (IsIn c) (sym held) (in_right c (held_of l) (c ∷ []) (inl refl));
  stay = λ d i. inl (subst (IsIn d) (sym held) (in_left d (held_of l) (c ∷ []) i));
  came = λ d i. ⊎_elim (λ a. inr a) (λ b. ⊎_elim (λ e. inl e) (λ no. absurd no) b) (in_append d (held_of l) (c ∷ []) (subst (IsIn d) held i));
  places = places;
  high = high;
}

no_items : (l : Ckpts) (xs : List Change) → l.newest.items ≡ xs → ckpt_span l.newest ≡ None → l.newest.items ≡ []
no_items l [] f e = f
no_items l (x ∷ xs) f e = let some : span_by l.newest.above l.newest.origin l.newest.items ≡ span_by l.newest.above l.newest.origin (x ∷ xs) = ap (span_by l.newest.above l.newest.origin) f in absurd (cc)

queues_by : (l : Ckpts) (o : Origin) (c : Change) (s : Option Span) → ckpt_span l.newest ≡ s → Queues l (queued_by s l o c) c
queues_by l o c None e = queues_behind l (opened l o c) c (ap (λ xs. xs ++ c ∷ []) (sym (ap (λ xs. l.items ++ xs) (no_items l l.newest.items refl e) ∙ append-nil l.items))) refl refl
queues_by l o c (Some w) e = ⊎_elim
    (λ t. subst (λ (m : Ckpts). Queues l m c) (sym (cond-true (fits_in (is_own o) l.newest.items c) _ _ t)) (queues_put l c))
    (λ f. subst (λ (m : Ckpts). Queues l m c) (sym (cond-false (fits_in (is_own o) l.newest.items c) _ _ f)) (queues_behind l (opened (sealed_list l) o c) c refl refl refl))
    (cases_Bool (fits_in (is_own o) l.newest.items c))

pub queues_one : QueuesOne
queues_one l o c = queues_by l o c (ckpt_span l.newest) refl

-- seals and resets

pub seals_alone : SealsAlone
seals_alone l = record { held = append-nil (l.items ++ l.newest.items); places = refl; high = refl; none = refl }

pub resets_alone : ResetsAlone
resets_alone at o = record {
  zero = placed finite.empty 0 at;
  others = λ other ne. unplaced finite.empty 0 at other ne ∙ get-empty nat_cmp other;
  held = refl;
  high = refl;
}
