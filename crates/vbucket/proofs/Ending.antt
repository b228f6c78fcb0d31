-- where a stream's next snapshot ends
use Rattle.std.proofs.Common.{◌≡◌, ℕ, ◌<◌, ◌≤◌, Bool, true, false, cond, List, [], ◌∷◌, refl, sym, ap, subst, ◌∙◌, inl, inr, ⊎_elim, arith}
use Rattle.std.specs.Prelude.{◌⊎◌, not, Option, Some, None, if◌then◌else◌, nat_le, nat_lt, ◌&&◌, ◌||◌}
use Rattle.std.specs.List.{find}
use Rattle.std.proofs.lemmas.Bool.{and_parts, and_from}
use Rattle.std.proofs.lemmas.Bool.Decides.{nat_tests}
use Rattle.std.proofs.lemmas.Slice.Eq.{bytes_eq-Decides}
use Rattle.vb_types.specs.declared.change.Change.{Change}
use Rattle.vb_types.specs.Histories.{upto, IsIn, Slot, touches, is_visible}
use Rattle.branch_model.specs.Requests.{effective_se}
use Rattle.branch_model.proofs.Lists.{upto_in, rises_upto, last_in, last_above}
use Rattle.vb_calls.specs.declared.stream.Stream.{Stream}
use Rattle.vb_calls.specs.declared.span.Span.{Span}
use Rattle.vb_calls.specs.declared.span.Origin.{Origin}
use Rattle.vb_calls.specs.declared.span.Origin.TheVariants.{Own, Received}
use Rattle.vb_calls.specs.Plain.{Plain}
use Rattle.vb_calls.specs.Spans.{all_spans, is_whole, starts_below}
use Rattle.vb_calls.specs.Streams.{stream_at, is_seen, is_plain, sent_as, items_to, has_any, may_end, end_span, need_of, snapshot_of, take_to, take_from}
use Rattle.vbucket.specs.Laws.{Sound, Follow}
use Rattle.vbucket.specs.Takes.{EndsOne, CutsNone, MayEnd, EndsFirst, TakesAs, TakesExactly, IsSnapshot}
use Rattle.vbucket.proofs.Asks.{is_open, not_open}
use Rattle.vbucket.proofs.Parts.{from_zero, Among, both, conj, below_of, below_tested, most_of, most_tested, found, ends_above}
use Rattle.vbucket.proofs.Receiving.{either, never, of_right}
use Rattle.vbucket.proofs.Taking.{item_of, item_there, snapshot_at}

-- spans

cuts_of : (n last : ℕ) (o : Origin) → not (nat_lt n last && starts_below n o) ≡ true → (ss se : ℕ) → o ≡ Received ss se → ss < n → last ≤ n
cuts_of n last Own e ss se q l = cc
cuts_of n last (Received a b) e ss se q l = let k : a ≡ ss = cc in by (nat_lt n last) (nat_lt a n) refl refl e k
  where
    by : (s t : Bool) → nat_lt n last ≡ s → nat_lt a n ≡ t → not (s && t) ≡ true → a ≡ ss → last ≤ n
    by true true p q e k = cc
    by true false p q e k = absurd (never (nat_lt a n) q (below_tested a n (omega arith)))
    by false t p q e k = grind (arith, nat_tests)

cuts_tested : (n last : ℕ) (o : Origin) → ((ss se : ℕ) → o ≡ Received ss se → ss < n → last ≤ n) → not (nat_lt n last && starts_below n o) ≡ true
cuts_tested n last Own f = by (nat_lt n last)
  where
    by : (b : Bool) → not (b && false) ≡ true
    by true = refl
    by false = refl
cuts_tested n last (Received ss se) f = by (nat_lt n last) (nat_lt ss n) refl refl
  where
    by : (s t : Bool) → nat_lt n last ≡ s → nat_lt ss n ≡ t → not (s && t) ≡ true
    by true true p q = let k : last ≤ n = f ss se refl (below_of ss n q) in let l : n < last = below_of n last p in absurd (omega arith)
    by true false p q = refl
    by false t p q = refl

cuts_none : (n : ℕ) (ws : List Span) → is_whole n ws ≡ true → CutsNone n ws
cuts_none n [] e = tt
cuts_none n (w ∷ ws) e = let k = both (not (nat_lt n w.last && starts_below n w.origin)) (is_whole n ws) e in (cuts_of n w.last w.origin k.0, cuts_none n ws k.1)

whole_of : (n : ℕ) (ws : List Span) → CutsNone n ws → is_whole n ws ≡ true
whole_of n [] c = refl
whole_of n (w ∷ ws) c = conj (not (nat_lt n w.last && starts_below n w.origin)) (is_whole n ws) (cuts_tested n w.last w.origin c.0) (whole_of n ws c.1)

among_ends : (w : Span) (ws : List Span) → Among w ws → EndsOne w.last ws
among_ends w [] a = absurd a
among_ends w (v ∷ vs) a = ⊎_elim (λ e. inl (ap (λ (x : Span). x.last) (sym e))) (λ k. inr (among_ends w vs k)) a

among_with_end : (n : ℕ) (ws : List Span) → EndsOne n ws → (w : Span) × Among w ws × (w.last ≡ n)
among_with_end n [] e = absurd e
among_with_end n (v ∷ vs) e = ⊎_elim (λ q. (v, inl refl, q)) (λ k. let r = among_with_end n vs k in (r.0, inr r.1, r.2)) e

-- the span that is found ends first
pub found_first : (p : Span → Bool) (low high : ℕ) (ws : List Span) (w v : Span) → Follow low ws high → find p ws ≡ Some w → Among v ws → p v ≡ true → w.last ≤ v.last
found_first p low high [] w v f e a t = absurd a
found_first p low high (x ∷ xs) w v f e a t = by (p x) refl e (λ q i. found_first p x.last high xs w v f.2 q i t)
  where
    by : (b : Bool) → p x ≡ b → cond b (Some x) (find p xs) ≡ Some w → (find p xs ≡ Some w → Among v xs → w.last ≤ v.last) → w.last ≤ v.last
    by true h q ih =
        let s : x ≡ w = cc in
        let k : x.last ≡ w.last = ap (λ (y : Span). y.last) s in
        ⊎_elim (λ i. let m : v.last ≡ x.last = ap (λ (y : Span). y.last) i in omega arith) (λ i. let m = ends_above x.last high xs v f.2 i in omega arith) a
    by false h q ih = ⊎_elim (λ i. absurd (never (p x) h (ap p (sym i) ∙ t))) (λ i. ih q i) a

none_found_among : (p : Span → Bool) (ws : List Span) (v : Span) → find p ws ≡ None → Among v ws → p v ≡ true → ⊥
none_found_among p [] v e a t = a
none_found_among p (x ∷ xs) v e a t = by (p x) refl e (λ q i. none_found_among p xs v q i t)
  where
    by : (b : Bool) → p x ≡ b → cond b (Some x) (find p xs) ≡ None → (find p xs ≡ None → Among v xs → ⊥) → ⊥
    by true h q ih = cc
    by false h q ih = ⊎_elim (λ i. never (p x) h (ap p (sym i) ∙ t)) (λ i. ih q i) a

-- what the request needs

needs_of : (s : Stream) (n : ℕ) → need_of s ≤ n → s.taken ≡ false → effective_se s.ask.start s.ask.ss s.ask.se ≤ n
needs_of s n l e = subst (λ m. m ≤ n) (ap (λ b. if b then 0 else effective_se s.ask.start s.ask.ss s.ask.se) e) l

needs_tested : (s : Stream) (n : ℕ) → (s.taken ≡ false → effective_se s.ask.start s.ask.ss s.ask.se ≤ n) → need_of s ≤ n
needs_tested s n f = by s.taken f
  where
    by : (b : Bool) → (b ≡ false → effective_se s.ask.start s.ask.ss s.ask.se ≤ n) → (if b then 0 else effective_se s.ask.start s.ask.ss s.ask.se) ≤ n
    by true f = omega arith
    by false f = f refl

-- changes for the stream

any_in : (xs : List Change) → has_any xs ≡ true → (x : Change) × IsIn x xs
any_in [] e = cc
any_in (x ∷ xs) e = (x, inl refl)

any_tested : (xs : List Change) (x : Change) → IsIn x xs → has_any xs ≡ true
any_tested [] x i = absurd i
any_tested (y ∷ ys) x i = refl

module _ (vb : Plain) (s : Stream) (sound : Sound vb) (w : Span) (a : Among w (all_spans vb.spans)) (l : s.place < w.last) where
  abbrev ws : List Span
  ws = all_spans vb.spans

  abbrev items : List Change
  items = items_to s ws vb.held w.last

  abbrev ForIt : Type 0
  ForIt = (c : Change) × IsIn c vb.held × (s.place < c.seq) × (c.seq ≤ w.last) × ((s.sync ≡ true) ⊎ (is_visible c.act ≡ true))

  some_of : has_any items ≡ true → ForIt
  some_of e =
      let x = any_in items e in
      let k = item_of s ws vb.held vb.floor vb.position.at sound.rises sound.spans sound.tidy w a l x.0 x.1 in
      (k.0, k.1, k.2, k.3, either s.sync (is_visible k.0.act) k.5)

  -- the last change of a slot of c
  given : (slot : Slot) (c : Change) → IsIn c vb.held → s.place < c.seq → c.seq ≤ w.last → touches slot c ≡ true → ((d : Change) → touches slot d ≡ true → is_seen s.sync d.act ≡ true) → has_any items ≡ true
  given slot c i p m t f =
      let at = vb.position.at in
      let z = last_above (touches slot) 0 w.last (upto vb.held w.last) c (rises_upto 0 at w.last vb.held (omega arith) (from_zero vb.floor at vb.held sound.rises)) (upto_in c vb.held w.last i m) t in
      let k : c.seq ≤ z.0.seq = z.2 in
      any_tested items (sent_as (is_plain s) z.0)
      (item_there s ws vb.held vb.floor at sound.rises sound.spans sound.tidy w a l slot z.0 z.1 (omega arith) (f z.0 (last_in (touches slot) (upto vb.held w.last) z.0 z.1).1))

  of_some : ForIt → has_any items ≡ true
  of_some k = ⊎_elim
      (λ e. given (Slot.Pending k.0.key) k.0 k.1 k.2 k.3 ((bytes_eq-Decides k.0.key k.0.key).1 refl) (λ d t. ap (λ b. b || is_visible d.act) e))
      (λ v. given (Slot.Committed k.0.key) k.0 k.1 k.2 k.3 (and_from _ _ ((bytes_eq-Decides k.0.key k.0.key).1 refl) v) (λ d t. of_right s.sync (is_visible d.act) (and_parts _ _ t).1)) k.4

module _ (vb : Plain) (s : Stream) (sound : Sound vb) (has : s.cursor ≡ true) where
  abbrev passes : Span → Bool
  passes w = may_end s (all_spans vb.spans) vb.held w.last

  ends_of : (w : Span) → Among w (all_spans vb.spans) → passes w ≡ true → MayEnd vb s w.last
  ends_of w a e =
      let ws = all_spans vb.spans in
      let m = both (nat_lt s.place w.last && is_whole w.last ws && nat_le (need_of s) w.last) (has_any (items_to s ws vb.held w.last)) e in
      let n = both (nat_lt s.place w.last && is_whole w.last ws) (nat_le (need_of s) w.last) m.0 in
      let o = both (nat_lt s.place w.last) (is_whole w.last ws) n.0 in
      let l = below_of s.place w.last o.0 in
      record { cursor = has; above = l; span = among_ends w ws a; whole = cuts_none w.last ws o.1; needed = needs_of s w.last (most_of (need_of s) w.last n.1); some = some_of vb s sound w a l m.1 }

  of_ends_at : (w : Span) → Among w (all_spans vb.spans) → MayEnd vb s w.last → passes w ≡ true
  of_ends_at w a e =
      let ws = all_spans vb.spans in
      conj (nat_lt s.place w.last && is_whole w.last ws && nat_le (need_of s) w.last) (has_any (items_to s ws vb.held w.last))
      (conj (nat_lt s.place w.last && is_whole w.last ws) (nat_le (need_of s) w.last)
      (conj (nat_lt s.place w.last) (is_whole w.last ws) (below_tested s.place w.last e.above) (whole_of w.last ws e.whole)) (most_tested (need_of s) w.last (needs_tested s w.last e.needed)))
      (of_some vb s sound w a e.above e.some)

  of_ends : (n : ℕ) → MayEnd vb s n → (w : Span) × Among w (all_spans vb.spans) × (w.last ≡ n) × (passes w ≡ true)
  of_ends n e = let k = among_with_end n (all_spans vb.spans) e.span in (k.0, k.1, k.2, of_ends_at k.0 k.1 (subst (MayEnd vb s) (sym k.2) e))

  ends_first : (w : Span) → end_span s (all_spans vb.spans) vb.held ≡ Some w → EndsFirst vb s w.last
  ends_first w e =
      let k = found passes (all_spans vb.spans) w e in (
        ends_of w k.0 k.1,
        λ m may. let v = of_ends m may in subst (λ x. w.last ≤ x) v.2 (found_first passes vb.floor vb.position.at (all_spans vb.spans) w v.0 sound.spans e v.1 v.3),
      )

  ends_nowhere : end_span s (all_spans vb.spans) vb.held ≡ None → (n : ℕ) → MayEnd vb s n → ⊥
  ends_nowhere e n may = let v = of_ends n may in none_found_among passes (all_spans vb.spans) v.0 e v.1 v.3

same_stream : (o : Option Stream) (s t : Stream) → o ≡ Some s → o ≡ Some t → s ≡ t
same_stream o s t e f = let k : Some s ≡ Some t = sym e ∙ f in cc

to_as : (vb : Plain) (id : ℕ) (s : Stream) (o : Option Span) → Sound vb → s.cursor ≡ true → stream_at id vb.streams ≡ Some s → end_span s (all_spans vb.spans) vb.held ≡ o → TakesAs vb id (take_to o s vb)
to_as vb id s None sound has e q = record {
  absent = (λ k. cc, λ f. absurd (f (is_open id vb.streams s e)));
  nothing = (λ k. (s, e, ends_nowhere vb s sound has q), λ k. refl);
  taken = λ snapshot k. cc;
  some = λ t n f may. absurd (ends_nowhere vb s sound has q n (subst (λ x. MayEnd vb x n) (same_stream (stream_at id vb.streams) t s f e) may));
}
to_as vb id s (Some w) sound has e q =
    let first = ends_first vb s sound has w q in
    let k = found (passes vb s sound has) (all_spans vb.spans) w q in
    record {
      absent = (λ k. cc, λ f. absurd (f (is_open id vb.streams s e)));
      nothing = (λ k. cc, λ k. absurd (k.2 w.last (subst (λ x. MayEnd vb x w.last) (same_stream (stream_at id vb.streams) s k.0 e k.1) first.0)));
      taken = λ snapshot t. let r : snapshot_of s (items_to s (all_spans vb.spans) vb.held w.last) ≡ snapshot = cc in (s, w.last, e, first, subst (IsSnapshot vb s w.last) r (snapshot_at vb s w sound k.0 k.1));
      some = λ t n f may. (snapshot_of s (items_to s (all_spans vb.spans) vb.held w.last), refl);
    }

-- a stream that has no cursor is given nothing
uncursored : (vb : Plain) (id : ℕ) (s : Stream) → stream_at id vb.streams ≡ Some s → s.cursor ≡ false → TakesAs vb id (take_to None s vb)
uncursored vb id s e m = record {
  absent = (λ k. cc, λ f. absurd (f (is_open id vb.streams s e)));
  nothing = (λ k. (s, e, λ n may. nowhere may.cursor), λ k. refl);
  taken = λ snapshot k. cc;
  some = λ t n f may. absurd (nowhere (subst (λ (x : Stream). x.cursor ≡ true) (same_stream (stream_at id vb.streams) t s f e) may.cursor));
}
  where
    nowhere : s.cursor ≡ true → ⊥
    nowhere = never s.cursor m

from_as : (vb : Plain) (id : ℕ) (o : Option Stream) → Sound vb → stream_at id vb.streams ≡ o → TakesAs vb id (take_from o vb)
from_as vb id None sound e = record {
  absent = (λ k. not_open id vb.streams e, λ f. refl);
  nothing = (λ k. cc, λ k. let z : None ≡ Some k.0 = sym e ∙ k.1 in cc);
  taken = λ snapshot k. cc;
  some = λ s n f may. let z : None ≡ Some s = sym e ∙ f in cc;
}
from_as vb id (Some s) sound e = by s.cursor refl
  where
    by : (b : Bool) → s.cursor ≡ b → TakesAs vb id (take_to (if b then end_span s (all_spans vb.spans) vb.held else None) s vb)
    by true m = to_as vb id s (end_span s (all_spans vb.spans) vb.held) sound m e refl
    by false m = uncursored vb id s e m

pub takes_exactly : TakesExactly
takes_exactly vb id sound = from_as vb id (stream_at id vb.streams) sound refl
