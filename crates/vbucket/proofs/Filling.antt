-- when a change opens a new span
use Rattle.std.proofs.Common.{◌≡◌, ℕ, ◌+◌, ◌<◌, ◌≤◌, Bool, true, false, List, [], ◌∷◌, ◌++◌, length, refl, sym, ap, subst, ◌∙◌, inl, inr, ⊎_elim, arith}
use Rattle.std.specs.Prelude.{◌↔◌, ◌-◌, Option, Some, None, if◌then◌else◌, nat_le, nat_lt, ◌&&◌, ◌||◌, ◌⊎◌, option_to_list}
use Rattle.std.specs.Option.{option_or}
use Rattle.std.specs.List.{list_any}
use Rattle.std.specs.Str.{bytes_eq}
use Rattle.std.proofs.lemmas.Bool.{cases_lt}
use Rattle.std.proofs.lemmas.Bool.Decides.{nat_tests}
use Rattle.std.proofs.lemmas.List.{length-append}
use Rattle.std.proofs.lemmas.Slice.Eq.{bytes_eq-Decides}
use Rattle.vb_types.specs.declared.change.Act.{Act}
use Rattle.vb_types.specs.declared.change.Act.TheVariants as act
use Rattle.vb_types.specs.declared.change.Change.{Change}
use Rattle.vb_types.specs.declared.status.Status.{Status}
use Rattle.vb_types.specs.declared.status.Status.TheVariants as status
use Rattle.vb_types.specs.declared.write.Write.{Write}
use Rattle.vb_types.specs.Histories.{Rises, IsIn, Slot, touches}
use Rattle.branch_model.proofs.Lists.{rises_in, last_in, last_above, same_seq}
use Rattle.vb_calls.specs.declared.span.Span.{Span}
use Rattle.vb_calls.specs.declared.span.Origin.{Origin}
use Rattle.vb_calls.specs.declared.span.Origin.TheVariants.{Own, Received}
use Rattle.vb_calls.specs.declared.span.TheConstants.{MAX_ITEMS, MAX_WEIGHT}
use Rattle.vb_calls.specs.State.{Plain, is_active, pending_of}
use Rattle.vb_calls.specs.Following.{is_follower, is_next, completed_act, receive_as, with_received_change}
use Rattle.vb_calls.specs.Writes.{growth, key_refusal, lacks_seqnos, write_change, new_cas, store_refusal, store_outcome}
use Rattle.vb_calls.specs.Spans.{Spans, all_spans, change_weight, is_durable, key_lasts, live_of, live_in, live_count, live_weight, last_at, stretch, span_of, span_to, with_change, with_other, with_newer, with_own, with_received, own_joined, received_joined}
use Rattle.vbucket.specs.Laws.{Sound, Follow}
use Rattle.vbucket.specs.Filling.{LivesExactly, WeighsInNumbers, IsPart, HasKey, IsFull, KeepsOut, ShutsOwn, ShutsReceived, StandsAlone, Joins, Fills, OwnFills, ReceivedFills}
use Rattle.vbucket.proofs.Covering.{last_live}
use Rattle.vbucket.proofs.Parts.{from_zero, filtered, in_live, in_stretch, within_stretch, last_filtered, between_tested, below_of}
use Rattle.vbucket.proofs.Soundness.{active_of, guarded}
use Rattle.vbucket.proofs.Tidying.{last_of_key, not_in, not_there, own_span}

-- the live changes of a key

any_none : (key : List ℕ) (xs : List Change) → list_any (λ d. bytes_eq d.key key) xs ≡ false → last_at xs key ≡ None
any_none key [] e = refl
any_none key (x ∷ xs) e = by (bytes_eq x.key key) (list_any (λ d. bytes_eq d.key key) xs) refl e (any_none key xs)
  where
    by : (b t : Bool) → bytes_eq x.key key ≡ b → (b || t) ≡ false → (t ≡ false → last_at xs key ≡ None) → option_or (last_at xs key) (if bytes_eq x.key key then Some x else None) ≡ None
    by true t eb q ih = cc
    by false t eb q ih = ap (λ o. option_or o (if bytes_eq x.key key then Some x else None)) (ih q) ∙ ap (λ b. if b then Some x else None) eb

-- of own changes the live one of a key is its last
lasts_one : (xs : List Change) (c : Change) → IsIn c (key_lasts xs) → last_at xs c.key ≡ Some c
lasts_one [] c i = absurd i
lasts_one (x ∷ xs) c i = by (list_any (λ d. bytes_eq d.key x.key) xs) refl i (λ j. ap (λ o. option_or o (if bytes_eq x.key c.key then Some x else None)) (lasts_one xs c j))
  where
    by : (t : Bool) → list_any (λ d. bytes_eq d.key x.key) xs ≡ t → IsIn c (if t then key_lasts xs else x ∷ key_lasts xs) → (IsIn c (key_lasts xs) → last_at (x ∷ xs) c.key ≡ Some c) → last_at (x ∷ xs) c.key ≡ Some c
    by true e j ih = ih j
    by false e j ih = ⊎_elim
        (λ q. ap (λ o. option_or o (if bytes_eq x.key c.key then Some x else None)) (ap (λ (y : Change). last_at xs y.key) q ∙ any_none x.key xs e)
        ∙ ap (λ b. if b then Some x else None) ((bytes_eq-Decides x.key c.key).1 (ap (λ (y : Change). y.key) (sym q))) ∙ ap Some (sym q))
        ih j

live_one : (w : Span) (h : List Change) (c d : Change) → w.origin ≡ Own → IsIn c (live_in w h) → last_at (stretch w.above w.last h) c.key ≡ Some d → c ≡ d
live_one w h c d o i e =
    let k : Some c ≡ Some d = sym (lasts_one (stretch w.above w.last h) c (subst (λ p. IsIn c (live_of p (stretch w.above w.last h))) o i)) ∙ e in
    cc

is_live : (o : Origin) (xs : List Change) (d : Change) → last_at xs d.key ≡ Some d → IsIn d (live_of o xs)
is_live Own xs d e = last_live d xs e
is_live (Received ss se) xs d e = (last_in (touches (Slot.Pending d.key)) xs d e).0

module _ (at : ℕ) (h : List Change) (w : Span) (c : Change) (r : Rises 0 at h) where
  no_live : ((d : Change) → last_at h c.key ≡ Some d → d.seq ≤ w.above) → HasKey h w c.key → ⊥
  no_live f k =
      let i = in_stretch w.above w.last h k.0 (in_live w.origin (stretch w.above w.last h) k.0 k.1) in
      let d = last_of_key at h k.0 c.key r i.0 k.2 in
      let l : d.0.seq ≤ w.above = f d.0 d.1 in
      let m : w.above < k.0.seq = i.1 in
      let n : k.0.seq ≤ d.0.seq = d.2 in
      absurd (omega arith)

  -- the last change of c's key, where it lies in the span
  module _ (d : Change) (l : w.last ≡ at) (e : last_at h c.key ≡ Some d) (a : w.above < d.seq) where
    its_key : d.key ≡ c.key
    its_key = (bytes_eq-Decides d.key c.key).0 (last_in (touches (Slot.Pending c.key)) h d e).1

    stands : last_at (stretch w.above w.last h) c.key ≡ Some d
    stands =
        let m = (rises_in 0 at h d r (last_in (touches (Slot.Pending c.key)) h d e).0).1 in
        last_filtered (touches (Slot.Pending c.key)) (λ x. nat_lt w.above x.seq && nat_le x.seq w.last) h d e (between_tested w.above w.last d.seq a (omega arith))

    lives : IsIn d (live_in w h)
    lives = is_live w.origin (stretch w.above w.last h) d (ap (last_at (stretch w.above w.last h)) its_key ∙ stands)

    only : w.origin ≡ Own → (x : Change) → IsIn x (live_in w h) → x.key ≡ c.key → x ≡ d
    only o x i k = live_one w h x d o i (ap (last_at (stretch w.above w.last h)) k ∙ stands)

-- no later change of its key stands in the span
abbrev NoneAfter : List Change → Span → Change → Type 0
NoneAfter h w c = (d : Change) → IsIn d h → d.key ≡ c.key → c.seq < d.seq → w.last < d.seq

module _ (at : ℕ) (h : List Change) (w : Span) (c : Change) (r : Rises 0 at h) where
  abbrev cs : List Change
  cs = stretch w.above w.last h

  its_last : (d : Change) → IsIn d cs → d.key ≡ c.key → (z : Change) × (last_at cs c.key ≡ Some z) × (d.seq ≤ z.seq)
  its_last d i k = last_above (touches (Slot.Pending c.key)) 0 at cs d (filtered (λ x. nat_lt w.above x.seq && nat_le x.seq w.last) 0 at h r) i ((bytes_eq-Decides d.key c.key).1 k)

  none_after : last_at cs c.key ≡ Some c → NoneAfter h w c
  none_after e d i k l = ⊎_elim
      (λ (m : w.last < d.seq). m)
      (λ (m : d.seq ≤ w.last).
      let above : w.above < c.seq = (in_stretch w.above w.last h c (last_in (touches (Slot.Pending c.key)) cs c e).0).1 in
      let z = its_last d (within_stretch w.above w.last h d i (omega arith) m) k in
      let q : z.0 ≡ c = (let y : Some z.0 ≡ Some c = sym z.1 ∙ e in cc) in
      let s : z.0.seq ≡ c.seq = ap (λ (y : Change). y.seq) q in
      let n : d.seq ≤ z.0.seq = z.2 in
      absurd (omega arith))
      (cases_lt w.last d.seq)

  last_of_none : IsIn c cs → NoneAfter h w c → last_at cs c.key ≡ Some c
  last_of_none i f =
      let z = its_last c i refl in
      let j = last_in (touches (Slot.Pending c.key)) cs z.0 z.1 in
      let k = in_stretch w.above w.last h z.0 j.0 in
      let n : c.seq ≤ z.0.seq = z.2 in
      let most : z.0.seq ≤ w.last = k.2 in
      let same : z.0.seq ≡ c.seq = ⊎_elim (λ (l : c.seq < z.0.seq). let m : w.last < z.0.seq = f z.0 k.0 ((bytes_eq-Decides z.0.key c.key).0 j.1) l in absurd (omega arith)) (λ (l : z.0.seq ≤ c.seq). omega arith) (cases_lt c.seq z.0.seq) in
      z.1 ∙ ap Some (same_seq 0 at h z.0 c r k.0 (in_stretch w.above w.last h c i).0 same)

  lives_as : (o : Origin) → w.origin ≡ o → IsIn c (live_of o cs) ↔ (IsIn c cs × (w.origin ≡ Own → NoneAfter h w c))
  lives_as Own e = (λ i. (in_live Own cs c i, λ _. none_after (lasts_one cs c i)), λ p. is_live Own cs c (last_of_none p.0 (p.1 e)))
  lives_as (Received ss se) e = (λ i. (i, λ q. let z : Received ss se ≡ Own = sym e ∙ q in cc), λ p. p.0)

pub lives_exactly : LivesExactly
lives_exactly low at h w c r =
    let k = lives_as at h w c (from_zero low at h r) w.origin refl in
    (λ i. let p = k.0 i in (in_stretch w.above w.last h c p.0, p.1), λ p. k.1 (within_stretch w.above w.last h c p.0.0 p.0.1 p.0.2, p.1))

pub in_numbers : WeighsInNumbers
in_numbers key doc level deleted prepared cas rev = (λ seq. refl, λ seq. omega arith, λ seq. refl, λ seq. refl, λ seq. omega arith)

-- what a test decides

abbrev Decided : Option Span → Span → Type 0 → Type 0
Decided o j Shuts = ((o ≡ None) × Shuts) ⊎ ((o ≡ Some j) × (Shuts → ⊥))

tested : (b : Bool) (j : Span) (Shuts : Type 0) → (b ≡ true → Shuts) → (b ≡ false → Shuts → ⊥) → Decided (if b then None else Some j) j Shuts
tested true j Shuts f g = inl (refl, f refl)
tested false j Shuts f g = inr (refl, g refl)

full_of : (n m : ℕ) → (nat_le MAX_ITEMS n || nat_lt MAX_WEIGHT m) ≡ true → (1000 < n + 1) ⊎ (33554432 < m)
full_of n m e = by (nat_le MAX_ITEMS n) refl e
  where
    by : (b : Bool) → nat_le MAX_ITEMS n ≡ b → (b || nat_lt MAX_WEIGHT m) ≡ true → (1000 < n + 1) ⊎ (33554432 < m)
    by true q t = inl (grind (arith, nat_tests))
    by false q t = inr (grind (arith, nat_tests))

not_full : (n m : ℕ) → (nat_le MAX_ITEMS n || nat_lt MAX_WEIGHT m) ≡ false → (1000 < n + 1) ⊎ (33554432 < m) → ⊥
not_full n m e f = by (nat_le MAX_ITEMS n) refl e f
  where
    by : (b : Bool) → nat_le MAX_ITEMS n ≡ b → (b || nat_lt MAX_WEIGHT m) ≡ false → (1000 < n + 1) ⊎ (33554432 < m) → ⊥
    by true q t f = cc
    by false q t (inl k) = grind (arith, nat_tests)
    by false q t (inr k) = grind (arith, nat_tests)

other_decided : (h : List Change) (w : Span) (c : Change) (Shuts : Type 0) → (IsFull h w c → Shuts) → (Shuts → IsFull h w c) → Decided (with_other h w c) (span_to w c) Shuts
other_decided h w c Shuts f g =
    let n = live_count w h in
    let m = live_weight w h + change_weight c in
    tested (nat_le MAX_ITEMS n || nat_lt MAX_WEIGHT m) (span_to w c) Shuts (λ e. f (full_of n m e)) (λ e s. not_full n m e (g s))

part_of : (a : Act) → is_durable a ≡ true → IsPart a
part_of (act.Set doc) e = cc
part_of (act.Remove cas rev) e = cc
part_of (act.Prepare level doc deleted) e = tt
part_of (act.Commit prepared doc deleted) e = tt
part_of (act.Abort prepared) e = tt

not_part : (a : Act) → is_durable a ≡ false → IsPart a → ⊥
not_part (act.Set doc) e p = p
not_part (act.Remove cas rev) e p = p
not_part (act.Prepare level doc deleted) e p = cc
not_part (act.Commit prepared doc deleted) e p = cc
not_part (act.Abort prepared) e p = cc

heavy : (m : ℕ) → nat_lt MAX_WEIGHT m ≡ true → 33554432 < m
heavy m e = grind (arith, nat_tests)

light : (m : ℕ) → nat_lt MAX_WEIGHT m ≡ false → 33554432 < m → ⊥
light m e l = grind (arith, nat_tests)

kept_out : (a b : Act) (m : ℕ) → (is_durable a || is_durable b || nat_lt MAX_WEIGHT m) ≡ true → (IsPart a ⊎ IsPart b) ⊎ (33554432 < m)
kept_out a b m e = by (is_durable a) (is_durable b) refl refl e
  where
    by : (s t : Bool) → is_durable a ≡ s → is_durable b ≡ t → (s || t || nat_lt MAX_WEIGHT m) ≡ true → (IsPart a ⊎ IsPart b) ⊎ (33554432 < m)
    by true t p q e = inl (inl (part_of a p))
    by false true p q e = inl (inr (part_of b q))
    by false false p q e = inr (heavy m e)

let_in : (a b : Act) (m : ℕ) → (is_durable a || is_durable b || nat_lt MAX_WEIGHT m) ≡ false → (IsPart a ⊎ IsPart b) ⊎ (33554432 < m) → ⊥
let_in a b m e k = by (is_durable a) (is_durable b) refl refl e
  where
    by : (s t : Bool) → is_durable a ≡ s → is_durable b ≡ t → (s || t || nat_lt MAX_WEIGHT m) ≡ false → ⊥
    by true t p q e = cc
    by false true p q e = cc
    by false false p q e = ⊎_elim (λ x. ⊎_elim (λ y. not_part a p y) (λ y. not_part b q y) x) (λ x. light m e x) k

-- the open span

module _ (at : ℕ) (h : List Change) (w : Span) (c : Change) (r : Rises 0 at h) (l : w.last ≡ at) where
  own_other : (HasKey h w c.key → ⊥) → Decided (with_other h w c) (span_to w c) (ShutsOwn h w c)
  own_other none = other_decided h w c (ShutsOwn h w c) (λ f. inr (none, f)) (λ s. ⊎_elim (λ k. absurd (none (k.0, k.1, k.2))) (λ k. k.1) s)

  received_other : (HasKey h w c.key → ⊥) → Decided (with_other h w c) (span_to w c) (ShutsReceived h w c)
  received_other none = other_decided h w c (ShutsReceived h w c) (λ f. inr f) (λ s. ⊎_elim (λ k. absurd (none k)) (λ k. k) s)

  own_newer : (d : Change) → w.origin ≡ Own → last_at h c.key ≡ Some d → w.above < d.seq → Decided (with_newer h w d c) (span_to w c) (ShutsOwn h w c)
  own_newer d o e a =
      let m = live_weight w h + change_weight c - change_weight d in
      let i : IsIn d (live_in w h) = lives at h w c r d l e a in
      let k : d.key ≡ c.key = its_key at h w c r d l e a in
      tested (is_durable d.act || is_durable c.act || nat_lt MAX_WEIGHT m) (span_to w c) (ShutsOwn h w c) (λ t. inl (d, i, k, kept_out d.act c.act m t))
      (λ t s. ⊎_elim
      (λ x. let_in d.act c.act m t (subst (λ y. KeepsOut h w y c) (only at h w c r d l e a o x.0 x.1 x.2) x.3))
      (λ x. x.0 (d, i, k)) s)

  own_decided : (o : Option Change) → w.origin ≡ Own → last_at h c.key ≡ o → Decided (with_own h w o c) (span_to w c) (ShutsOwn h w c)
  own_decided None own e = own_other (no_live at h w c r (not_there h w c.key e))
  own_decided (Some d) own e = by (nat_lt w.above d.seq) refl
    where
      by : (b : Bool) → nat_lt w.above d.seq ≡ b → Decided (if b then with_newer h w d c else with_other h w c) (span_to w c) (ShutsOwn h w c)
      by true q = own_newer d own e (below_of w.above d.seq q)
      by false q = own_other (no_live at h w c r (not_in h w c.key d e q))

  received_decided : (o : Option Change) → last_at h c.key ≡ o → Decided (with_received h w o c) (span_to w c) (ShutsReceived h w c)
  received_decided None e = received_other (no_live at h w c r (not_there h w c.key e))
  received_decided (Some d) e = by (nat_lt w.above d.seq) refl
    where
      by : (b : Bool) → nat_lt w.above d.seq ≡ b → Decided (if b then None else with_other h w c) (span_to w c) (ShutsReceived h w c)
      by true q =
          let a : w.above < d.seq = below_of w.above d.seq q in
          inl (refl, inl (d, lives at h w c r d l e a, its_key at h w c r d l e a))
      by false q = received_other (no_live at h w c r (not_in h w c.key d e q))

-- one span more is another list
longer : (ws : List Span) (w : Span) → ws ++ w ∷ [] ≡ ws → ⊥
longer ws w e =
    let n : length (ws ++ w ∷ []) ≡ length ws + 1 = length-append ws (w ∷ []) in
    let m : length (ws ++ w ∷ []) ≡ length ws = ap length e in
    absurd (omega arith)

-- the last of spans that follow one another ends at their end
follow_last : (low at : ℕ) (ws : List Span) (w : Span) → Follow low (ws ++ w ∷ []) at → w.last ≡ at
follow_last low at [] w f = f.2
follow_last low at (v ∷ vs) w f = follow_last v.last at vs w f.2

-- the spans after a change

module _ (vb : Plain) (origin : Origin) (Shuts : Span → Type 0) (c : Change) (joined : Option Span → Option Span) where
  abbrev After : Option Span → Spans
  After current = with_change vb.spans (joined current) (span_of vb.position.at origin c)

  fills : (after : Plain) (current : Option Span) → vb.spans.current ≡ current → after.spans ≡ After current → joined None ≡ None → ((w : Span) → current ≡ Some w → Decided (joined (Some w)) (span_to w c) (Shuts w))
      → Fills vb origin Shuts c after
  fills after None q e n d = record {
    first = λ _. subst (λ (ws : Spans). (ws.sealed ≡ all_spans vb.spans) × (ws.current ≡ Some (span_of vb.position.at origin c))) (sym (e ∙ ap (λ o. with_change vb.spans o (span_of vb.position.at origin c)) n)) (refl, refl);
    new = λ w k. let z : None ≡ Some w = sym q ∙ k in cc;
    same = λ w k. let z : None ≡ Some w = sym q ∙ k in cc;
  }
  fills after (Some v) q e n d = record {
    first = λ k. let z : Some v ≡ None = sym q ∙ k in cc;
    new = λ w k. (by w k (d w (sym q ∙ k))).0;
    same = λ w k. (by w k (d w (sym q ∙ k))).1;
  }
    where
      ends : (w : Span) → vb.spans.current ≡ Some w → all_spans vb.spans ≡ vb.spans.sealed ++ w ∷ []
      ends w k = ap (λ o. vb.spans.sealed ++ option_to_list o) k

      at : (w : Span) (o : Option Span) → vb.spans.current ≡ Some w → joined (Some w) ≡ o → after.spans ≡ with_change vb.spans o (span_of vb.position.at origin c)
      at w o k j = e ∙ ap After (sym q ∙ k) ∙ ap (λ x. with_change vb.spans x (span_of vb.position.at origin c)) j

      by : (w : Span) → vb.spans.current ≡ Some w → Decided (joined (Some w)) (span_to w c) (Shuts w) → (StandsAlone vb origin c after ↔ Shuts w) × (Joins vb w c after ↔ (Shuts w → ⊥))
      by w k (inl s) =
          let a : after.spans ≡ with_change vb.spans None (span_of vb.position.at origin c) = at w None k s.0 in (
            (λ _. s.1, λ _. (ap (λ (ws : Spans). ws.sealed) a, ap (λ (ws : Spans). ws.current) a)),
            (λ j. absurd (longer vb.spans.sealed w (sym (ends w k) ∙ sym (ap (λ (ws : Spans). ws.sealed) a) ∙ j.0)), λ f. absurd (f s.1)),
          )
      by w k (inr s) =
          let a : after.spans ≡ with_change vb.spans (Some (span_to w c)) (span_of vb.position.at origin c) = at w (Some (span_to w c)) k s.0 in (
            (λ j. absurd (longer vb.spans.sealed w (sym (ends w k) ∙ sym j.0 ∙ ap (λ (ws : Spans). ws.sealed) a)), λ x. absurd (s.1 x)),
            (λ _. s.1, λ _. (ap (λ (ws : Spans). ws.sealed) a, ap (λ (ws : Spans). ws.current) a)),
          )

open_last : (vb : Plain) (w : Span) → Sound vb → vb.spans.current ≡ Some w → w.last ≡ vb.position.at
open_last vb w s e = follow_last vb.floor vb.position.at vb.spans.sealed w (subst (λ o. Follow vb.floor (vb.spans.sealed ++ option_to_list o) vb.position.at) e s.spans)

-- the span of a change of the vBucket's own
pub growth_fills : (vb : Plain) (x : Change) (after : Plain) → Sound vb → is_active vb.role ≡ true → after.spans ≡ with_change vb.spans (own_joined vb.held vb.spans.current (last_at vb.held x.key) x) (span_of vb.position.at Own x)
    → Fills vb Own (λ w. ShutsOwn vb.held w x) x after
growth_fills vb x after s active e =
    fills vb Own (λ w. ShutsOwn vb.held w x) x (λ o. own_joined vb.held o (last_at vb.held x.key) x) after vb.spans.current refl e refl
    (λ w j. own_decided vb.position.at vb.held w x (from_zero vb.floor vb.position.at vb.held s.rises) (open_last vb w s j) (last_at vb.held x.key) (own_span vb.role vb.spans.current active s.current w j) refl)

grown_fills : (vb : Plain) (write : Write) (cas : ℕ) (c : Change) (why : Option Status) → Sound vb → store_refusal vb write ≡ why → (store_outcome why vb write cas).1.changes ≡ c ∷ []
    → Fills vb Own (λ w. ShutsOwn vb.held w c) c (store_outcome why vb write cas).0
grown_fills vb write cas c (Some st) s e q = cc
grown_fills vb write cas c None s e q =
    let k : write_change vb write cas ≡ c = (let z : write_change vb write cas ∷ [] ≡ c ∷ [] = q in cc) in
    let active = active_of vb.role (lacks_seqnos vb 1) (key_refusal vb write) e in
    subst (λ x. Fills vb Own (λ w. ShutsOwn vb.held w x) x (growth vb (write_change vb write cas) cas).0) k
    (growth_fills vb (write_change vb write cas) (growth vb (write_change vb write cas) cas).0 s active refl)

pub own_fills : OwnFills
own_fills vb write clock c s q = grown_fills vb write (new_cas clock vb.last_cas) c (store_refusal vb write) s refl q

taken_fills : (vb : Plain) (x c : Change) → Sound vb → (with_received_change vb x).1.changes ≡ c ∷ [] → Fills vb (Received vb.position.ss vb.position.se) (λ w. ShutsReceived vb.held w c) c (with_received_change vb x).0
taken_fills vb x c s q =
    let k : x ≡ c = (let z : x ∷ [] ≡ c ∷ [] = q in cc) in
    subst (λ y. Fills vb (Received vb.position.ss vb.position.se) (λ w. ShutsReceived vb.held w y) y (with_received_change vb x).0) k
    (fills vb (Received vb.position.ss vb.position.se) (λ w. ShutsReceived vb.held w x) x (λ o. received_joined vb.held o (last_at vb.held x.key) x) (with_received_change vb x).0 vb.spans.current refl refl refl
    (λ w j. received_decided vb.position.at vb.held w x (from_zero vb.floor vb.position.at vb.held s.rises) (open_last vb w s j) (last_at vb.held x.key) refl))

as_fills : (a : Option Act) (vb : Plain) (x c : Change) → Sound vb → (receive_as a vb x).1.changes ≡ c ∷ [] → Fills vb (Received vb.position.ss vb.position.se) (λ w. ShutsReceived vb.held w c) c (receive_as a vb x).0
as_fills None vb x c s q = cc
as_fills (Some a) vb x c s q = taken_fills vb (record { seq = x.seq; key = x.key; act = a }) c s q

guarded_fills : (b d : Bool) (a : Option Act) (vb : Plain) (x c : Change) → Sound vb → (guarded b d (receive_as a vb x) vb status.Erange).1.changes ≡ c ∷ []
    → Fills vb (Received vb.position.ss vb.position.se) (λ w. ShutsReceived vb.held w c) c (guarded b d (receive_as a vb x) vb status.Erange).0
guarded_fills true true a vb x c s q = as_fills a vb x c s q
guarded_fills true false a vb x c s q = cc
guarded_fills false d a vb x c s q = cc

pub received_fills : ReceivedFills
received_fills vb x c s q = guarded_fills (is_follower vb.role) (is_next vb.position x.seq) (completed_act (pending_of vb x.key) x.act) vb x c s q
