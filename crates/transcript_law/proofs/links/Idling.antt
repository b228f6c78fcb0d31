-- a producer that puts nothing more has put all that its vBucket holds for its stream
use Rattle.std.specs.Prelude.{◌≡◌, ◌<◌, ◌≤◌, ◌⊎◌, ◌∷◌, ◌++◌, ◌&&◌, ◌||◌, if◌then◌else◌}
use Rattle.transcript_law.proofs.Words.{ℕ, Bool, true, false, List, [], length, map, refl, ap, sym, ◌∙◌, subst, arith, inl, inr, ⊎_elim, Option, Some, None, cond, filter, flat_map, is_some, list_any, nat_tests, not, and_parts, Begun, Change, Chronicle, Dial, Granted, IsIn, ItemLine, Plain, PlainStream, Rises, Role, Sound, Span, Stream, StreamName}
use Rattle.transcript_law.proofs.Words.{all_spans, end_span, in_filter, is_active, item_of_change, last_seq, need_of, Own, Received}
use Rattle.transcript_law.proofs.invariant.Agreement.{BegunAgrees}
use Rattle.transcript_law.specs.Undone.{AllPut, FallsShort, HasNoMore, IsPutWhole}
use Rattle.branch_model.{proofs.Lasts.{kept_in_filter, rises_filter}, specs.Requests.{effective_se}}
use Rattle.std.proofs.lemmas.{Bool.{and_from, le-leb, lt-ltb}, List.{take_all}}
use Rattle.std.specs.{List.{find}, Prelude.{nat_le, nat_lt}, Str.{bytes_eq}}
use Rattle.vb_calls.specs.Spans.{is_whole, key_lasts, live_in, live_of, starts_below, stretch}
use Rattle.vb_calls.specs.Streams.{has_any, is_end_for, is_plain, is_seen, items_to, may_end, sent_as, span_items}
use Rattle.vb_calls.specs.declared.span.Origin.{Origin}
use Rattle.vb_types.specs.Histories.{is_visible}
use Rattle.vbucket.specs.Laws.{AllSpans, Follow, IsSpan}

-- spans go up
follow_up : (low high : ℕ) (ws : List Span) → Follow low ws high → low ≤ high
follow_up low high [] f = let e : low ≡ high = f in omega arith
follow_up low high (w ∷ ws) f = let up : low < w.last = f.1 in let more : w.last ≤ high = follow_up w.last high ws f.2 in omega arith

-- ---- the last change of a span

-- the last one of a list
abbrev IsFinal : Change → List Change → Type 0
IsFinal c [] = ⊥
IsFinal c (x ∷ []) = c ≡ x
IsFinal c (x ∷ y ∷ ys) = IsFinal c (y ∷ ys)

-- where seqnos rise, it is the one of the greatest
final_is : (a b : ℕ) (xs : List Change) (c : Change) → Rises a b xs → IsIn c xs → ((d : Change) → IsIn d xs → d.seq ≤ c.seq) → IsFinal c xs
final_is a b [] c r i most = absurd i
final_is a b (x ∷ []) c r i most = ⊎_elim (λ e. e) (λ none. absurd none) i
final_is a b (x ∷ y ∷ ys) c r i most = ⊎_elim
    (λ e. let up : x.seq < y.seq = r.1.0 in let low : y.seq ≤ c.seq = most y (inr (inl refl)) in let same : c.seq ≡ x.seq = ap (λ (z : Change). z.seq) e in absurd (omega arith))
    (λ k. final_is x.seq b (y ∷ ys) c r.1 k (λ d n. most d (inr n))) i

-- no later change replaces it
final_lasts : (xs : List Change) (c : Change) → IsFinal c xs → IsIn c (key_lasts xs)
final_lasts [] c f = absurd f
final_lasts (x ∷ []) c f = inl f
final_lasts (x ∷ y ∷ ys) c f = by (list_any (λ d. bytes_eq d.key x.key) (y ∷ ys)) (final_lasts (y ∷ ys) c f)
  where
    by : (b : Bool) → IsIn c (key_lasts (y ∷ ys)) → IsIn c (if b then key_lasts (y ∷ ys) else x ∷ key_lasts (y ∷ ys))
    by true i = i
    by false i = inr i

final_in : (xs : List Change) (c : Change) → IsFinal c xs → IsIn c xs
final_in [] c f = absurd f
final_in (x ∷ []) c f = inl f
final_in (x ∷ y ∷ ys) c f = inr (final_in (y ∷ ys) c f)

final_live : (o : Origin) (xs : List Change) (c : Change) → IsFinal c xs → IsIn c (live_of o xs)
final_live Own xs c f = final_lasts xs c f
final_live (Received ss se) xs c f = final_in xs c f

any_sent : (f : Change → Change) (xs : List Change) (c : Change) → IsIn c xs → has_any (map f xs) ≡ true
any_sent f [] c i = absurd i
any_sent f (x ∷ xs) c i = refl

-- a sync stream has not got it where the span ends above its place
module _ (s : Stream) (sync : s.sync ≡ true) (h : List Change) (floor high : ℕ) (rises : Rises floor high h) where
  span_has : (w : Span) → IsSpan h w → w.above < w.last → s.place < w.last → has_any (span_items s h w) ≡ true
  span_has w is goes_on above_place =
      let (c, there, ends) = is.ends in let at : c.seq ≡ w.last = ends in
      let part : List Change = stretch w.above w.last h in
      let inside : IsIn c part = kept_in_filter (λ d. nat_lt w.above d.seq && nat_le d.seq w.last) c h there (and_from (nat_lt w.above c.seq) (nat_le c.seq w.last) (lt-ltb w.above c.seq (omega arith)) (le-leb c.seq w.last (omega arith))) in
      let final : IsFinal c part = final_is floor high part c (rises_filter (λ d. nat_lt w.above d.seq && nat_le d.seq w.last) floor high h rises) inside (λ d i. low c at d (in_filter (λ e. nat_lt w.above e.seq && nat_le e.seq w.last) d h i).1) in
      any_sent (sent_as (is_plain s)) (filter (λ d. nat_lt s.place d.seq && is_seen s.sync d.act) (live_in w h)) c
      (kept_in_filter (λ d. nat_lt s.place d.seq && is_seen s.sync d.act) c (live_in w h) (final_live w.origin part c final)
      (and_from (nat_lt s.place c.seq) (is_seen s.sync c.act) (lt-ltb s.place c.seq (omega arith)) (ap (λ b. b || is_visible c.act) sync)))
    where
      low : (c : Change) → c.seq ≡ w.last → (d : Change) → (nat_lt w.above d.seq && nat_le d.seq w.last) ≡ true → d.seq ≤ c.seq
      low c at d t = let l : nat_le d.seq w.last ≡ true = (and_parts (nat_lt w.above d.seq) (nat_le d.seq w.last) t).1 in let m : d.seq ≤ w.last = grind (arith, nat_tests, l) in omega arith

  any_behind : (xs ys : List Change) → has_any ys ≡ true → has_any (xs ++ ys) ≡ true
  any_behind [] ys e = e
  any_behind (x ∷ xs) ys e = refl

  any_front : (xs ys : List Change) → has_any xs ≡ true → has_any (xs ++ ys) ≡ true
  any_front [] ys e = cc
  any_front (x ∷ xs) ys e = refl

  -- so it is given something up to where the spans end
  spans_have : (low : ℕ) (ws : List Span) → Follow low ws high → AllSpans h ws → low < high → s.place < high → has_any (items_to s ws h high) ≡ true
  spans_have low [] f t l p = let e : low ≡ high = f in absurd (omega arith)
  spans_have low (w ∷ []) f t l p =
      let e : w.last ≡ high = f.2 in let first : w.above ≡ low = f.0 in let up : low < w.last = f.1 in
      subst (λ b. has_any (flat_map (span_items s h) (if b then w ∷ [] else [])) ≡ true)
      (sym (and_from (nat_lt s.place w.last) (nat_le w.last high) (lt-ltb s.place w.last (omega arith)) (le-leb w.last high (omega arith))))
      (any_front (span_items s h w) [] (span_has w t.0 (omega arith) (omega arith)))
  spans_have low (w ∷ x ∷ ws) f t l p =
      let up : w.last < x.last = f.2.1 in let more : x.last ≤ high = follow_up x.last high ws f.2.2 in
      by (nat_lt s.place w.last && nat_le w.last high) (spans_have w.last (x ∷ ws) f.2 t.1 (omega arith) p)
    where
      rest : List Span
      rest = filter (λ y. nat_lt s.place y.last && nat_le y.last high) (x ∷ ws)

      by : (b : Bool) → has_any (flat_map (span_items s h) rest) ≡ true → has_any (flat_map (span_items s h) (if b then w ∷ rest else rest)) ≡ true
      by true e = any_behind (span_items s h w) (flat_map (span_items s h) rest) e
      by false e = e

-- no span cuts what lies where they all end
ends_whole : (low high : ℕ) (ws : List Span) → Follow low ws high → is_whole high ws ≡ true
ends_whole low high [] f = refl
ends_whole low high (w ∷ ws) f = by (nat_lt high w.last) refl (ends_whole w.last high ws f.2)
  where
    by : (b : Bool) → nat_lt high w.last ≡ b → is_whole high ws ≡ true → (not (b && starts_below high w.origin) && is_whole high ws) ≡ true
    by true e rest = let up : high < w.last = grind (arith, nat_tests, e) in let low : w.last ≤ high = follow_up w.last high ws f.2 in absurd (omega arith)
    by false e rest = rest

-- where no span passes, that is no place to end
none_last : (p : ℕ → Bool) (low high : ℕ) (ws : List Span) → Follow low ws high → low < high → find (λ (w : Span). p w.last) ws ≡ None → p high ≡ false
none_last p low high [] f l e = let z : low ≡ high = f in absurd (omega arith)
none_last p low high (w ∷ []) f l e = by (p w.last) refl e
  where
    by : (b : Bool) → p w.last ≡ b → cond b (Some w) None ≡ None → p high ≡ false
    by true t q = cc
    by false t q = let same : w.last ≡ high = f.2 in subst (λ n. p n ≡ false) same t
none_last p low high (w ∷ x ∷ ws) f l e =
    let up : w.last < x.last = f.2.1 in let more : x.last ≤ high = follow_up x.last high ws f.2.2 in by (p w.last) e (none_last p w.last high (x ∷ ws) f.2 (omega arith))
  where
    rest : Option Span
    rest = find (λ (y : Span). p y.last) (x ∷ ws)

    by : (b : Bool) → cond b (Some w) rest ≡ None → (rest ≡ None → p high ≡ false) → p high ≡ false
    by true q behind = cc
    by false q behind = behind q

-- ---- where a stream is given nothing

module _ (p : Plain) (o : Stream) (sound : Sound p) (sync : o.sync ≡ true) (floor_low : p.floor ≤ o.place) (none : end_span o (all_spans p.spans) p.held ≡ None) where
  abbrev at : ℕ
  at = p.position.at

  abbrev need : ℕ
  need = effective_se o.ask.start o.ask.ss o.ask.se

  abbrev ws : List Span
  ws = all_spans p.spans

  -- where there is more it may end
  no_end : o.place < at → need_of o ≤ at → ⊥
  no_end up needed =
      let low = floor_low in let below : p.floor < at = omega arith in
      let no : may_end o ws p.held at ≡ false = none_last (λ n. may_end o ws p.held n) p.floor at ws sound.spans below none in
      let yes : may_end o ws p.held at ≡ true = and_from (is_end_for o ws at) (has_any (items_to o ws p.held at))
      (and_from (nat_lt o.place at && is_whole at ws) (nat_le (need_of o) at) (and_from (nat_lt o.place at) (is_whole at ws) (lt-ltb o.place at up) (ends_whole p.floor at ws sound.spans)) (le-leb (need_of o) at needed))
      (spans_have o sync p.held p.floor at sound.rises p.floor ws sound.spans sound.tidy below up) in
      let z : true ≡ false = sym yes ∙ no in cc

  pub no_more : (at ≤ o.place) ⊎ ((o.taken ≡ false) × (at < need))
  no_more = by_place (nat_lt o.place at) refl
    where
      by_need : o.place < at → o.taken ≡ false → (b : Bool) → nat_le need at ≡ b → (at ≤ o.place) ⊎ ((o.taken ≡ false) × (at < need))
      by_need up first true e = let l : need ≤ at = grind (arith, nat_tests, e) in absurd (no_end up (subst (λ b. (if b then 0 else need) ≤ at) (sym first) l))
      by_need up first false e = inr (first, grind (arith, nat_tests, e))

      by_taken : o.place < at → (b : Bool) → o.taken ≡ b → (at ≤ o.place) ⊎ ((o.taken ≡ false) × (at < need))
      by_taken up true e = let l : 0 ≤ at = omega arith in absurd (no_end up (subst (λ b. (if b then 0 else need) ≤ at) (sym e) l))
      by_taken up false e = by_need up e (nat_le need at) refl

      by_place : (b : Bool) → nat_lt o.place at ≡ b → (at ≤ o.place) ⊎ ((o.taken ≡ false) × (at < need))
      by_place true e = by_taken (grind (arith, nat_tests, e)) o.taken refl
      by_place false e = inl (grind (arith, nat_tests, e))

-- ---- and as the lines tell it

ends_item : (n end : ℕ) (x : Change) (xs : List Change) → last_seq n (x ∷ xs) ≡ end → (before : List ItemLine) × (item : ItemLine) × (map item_of_change (x ∷ xs) ≡ before ++ item ∷ []) × (item.seq ≡ end)
ends_item n end x [] e = ([], item_of_change x, refl, e)
ends_item n end x (y ∷ ys) e = let (before, item, is, ends) = ends_item x.seq end y ys e in (item_of_change x ∷ before, item, ap (λ items. item_of_change x ∷ items) is, ends)

-- behind its items the last snapshot was put to its end
pub put_whole : (o : Option Begun) (stream : PlainStream) → BegunAgrees o stream → length stream.items ≤ stream.next → IsPutWhole o
put_whole None stream begun whole = tt
put_whole (Some b) stream begun whole = subst (λ items. (before : List ItemLine) × (item : ItemLine) × (items ≡ before ++ item ∷ []) × (item.seq ≡ b.end)) (sym (begun.1 ∙ ap (map item_of_change) (take_all stream.next stream.items whole))) (by stream.items begun.0.goes_on begun.0.reaches)
  where
    by : (xs : List Change) → b.from < b.end → last_seq b.from xs ≡ b.end → (before : List ItemLine) × (item : ItemLine) × (map item_of_change xs ≡ before ++ item ∷ []) × (item.seq ≡ b.end)
    by [] up e = let same : b.from ≡ b.end = e in absurd (omega arith)
    by (x ∷ xs) up e = ends_item b.from b.end x xs e

pub active_is : (role : Role) → is_active role ≡ true → role ≡ Role.Active
active_is Role.Active e = refl
active_is other e = cc

-- what a stream has not got yet, by what the lines tell of it
pub none_told : (g : Granted) (o : Stream) (high at : ℕ) → o.ask ≡ g.ask → o.place ≡ g.place → o.taken ≡ is_some g.last → high ≡ at → (at ≤ o.place) ⊎ ((o.taken ≡ false) × (at < effective_se o.ask.start o.ask.ss o.ask.se)) → (high ≤ g.place) ⊎ FallsShort g high
none_told g o high at asked placed before same left = ⊎_elim (λ l. inl (omega (arith, l, placed, same)))
    (λ x. inr (no_snapshot g.last (sym before ∙ x.0), (let l : at < effective_se o.ask.start o.ask.ss o.ask.se = x.1 in let m : high < effective_se o.ask.start o.ask.ss o.ask.se = omega arith in subst (λ a. high < effective_se a.start a.ss a.se) asked m))) left
  where
    no_snapshot : (q : Option Begun) → is_some q ≡ false → q ≡ None
    no_snapshot None e = refl
    no_snapshot (Some b) e = cc

-- all was put on the stream of a link that was dialed so, by what is told of it
pub all_put_by : (read : Chronicle) (l : ℕ) (d : Dial) (o : Option Granted) → read.dial_of l ≡ Some d → read.stream_of (StreamName.Link l) d.vb ≡ o → ((g : Granted) → o ≡ Some g → g.over ≡ false → HasNoMore read d.producer d.vb g) → AllPut read l
all_put_by read l d o e f m dial g e' f' over =
    let is : Some d ≡ Some dial = sym e ∙ e' in let same : d ≡ dial = cc in
    subst (λ (x : Dial). HasNoMore read x.producer x.vb g) same (m g (sym f ∙ ap (λ (x : Dial). read.stream_of (StreamName.Link l) x.vb) same ∙ f') over)
