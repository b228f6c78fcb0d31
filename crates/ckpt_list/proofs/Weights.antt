-- what stands in a checkpoint is light
use Rattle.std.proofs.Common.{◌≡◌, ℕ, ◌<◌, ◌≤◌, Bool, true, false, cond, ◌&&◌, leb, ltb, List, [], ◌∷◌, ◌++◌, refl, ap, sym, ◌∙◌, subst, inl, inr, ⊎_elim, arith, append-nil}
use Rattle.std.specs.Prelude.{◌⊎◌, Option, Some, None, option_to_list}
use Rattle.std.specs.List.{find, filter}
use Rattle.std.proofs.lemmas.Bool.{ltb-true, ltb-false, lt-ltb, leb-true, le-ltb, cond-true, cond-false, cases_Bool, and_left, and_parts}
use Rattle.std.proofs.lemmas.List.Elements.{filter-append}
use Rattle.std.proofs.lemmas.List.Sums.{sum_by-cons}
use Rattle.vb_types.specs.declared.change.Change.{Change}
use Rattle.vb_types.specs.Histories.{Rises, IsIn}
use Rattle.vb_calls.specs.declared.span.Span.{Span}
use Rattle.vb_calls.specs.declared.span.Origin.{Origin}
use Rattle.vb_calls.specs.declared.span.Origin.TheVariants.{Own, Received}
use Rattle.vb_calls.specs.declared.span.TheConstants.{MAX_WEIGHT}
use Rattle.vb_calls.specs.Spans.{all_spans, change_weight, span_position}
use Rattle.branch_model.proofs.Lists.{rises_append, rises_in, rises_le}
use Rattle.branch_model.proofs.Lasts.{rises_filter, in_filter}
use Rattle.checkpoint.specs.Checkpoints.{ckpt_last, ckpt_span, items_above, items_weight}
use Rattle.ckpt_list.specs.Lists.{Ckpts, between, held_of, high_of, spans_of}
use Rattle.ckpt_list.specs.Sound.{AreLight, Follow, HasWholes, IsBatch, IsSound}
use Rattle.ckpt_list.proofs.Takes.{early, follow_le, late, spanned}

-- parts weigh no more

part_weight : (p : Change → Bool) (xs : List Change) → items_weight (filter p xs) ≤ items_weight xs
part_weight p [] = omega arith
part_weight p (x ∷ xs) = by (p x) (part_weight p xs)
  where
    by : (b : Bool) → items_weight (filter p xs) ≤ items_weight xs → items_weight (cond b (x ∷ filter p xs) (filter p xs)) ≤ items_weight (x ∷ xs)
    by true l = omega (arith, l, sum_by-cons change_weight x (filter p xs), sum_by-cons change_weight x xs)
    by false l = omega (arith, l, sum_by-cons change_weight x xs)

beyond : (place end low high : ℕ) (cs : List Change) → Rises low high cs → high ≤ place → between place end cs ≡ []
beyond place end low high [] r m = refl
beyond place end low high (c ∷ cs) r m =
    let on : c.seq ≤ high = rises_le c.seq high cs r.1 in
    cond-false _ _ _ (and_left (ltb place c.seq) (leb c.seq end) (le-ltb place c.seq (omega arith))) ∙ beyond place end c.seq high cs r.1 m

pub all_above : (low high : ℕ) (cs : List Change) → Rises low high cs → items_above low cs ≡ cs
all_above low high cs r = by low cs (λ x i. (rises_in low high cs x r i).0)
  where
    by : (n : ℕ) (xs : List Change) → ((x : Change) → IsIn x xs → n < x.seq) → items_above n xs ≡ xs
    by n [] f = refl
    by n (x ∷ xs) f = cond-true _ _ _ (lt-ltb n x.seq (f x (inl refl))) ∙ ap (λ ys. x ∷ ys) (by n xs (λ y i. f y (inr i)))

-- a seal

abbrev Light : Span → List Change → Type 0
Light w items = items_weight (between w.above w.last items) ≤ MAX_WEIGHT

-- sealed spans keep what stands in them
old_light : (low high top : ℕ) (ws : List Span) (items new : List Change) → Follow low ws high → Rises high top new → AreLight items ws → AreLight (items ++ new) ws
old_light low high top [] items new f r a = tt
old_light low high top (w ∷ ws) items new f r a =
    let on : w.last ≤ high = follow_le w.last high ws f.2 in
    let same : between w.above w.last (items ++ new) ≡ between w.above w.last items =
    filter-append (λ (c : Change). ltb w.above c.seq && leb c.seq w.last) items new ∙ ap (λ xs. between w.above w.last items ++ xs) (early w.above w.last high top new r on) ∙ append-nil (between w.above w.last items) in
    (subst (λ xs. items_weight xs ≤ MAX_WEIGHT) (sym same) a.0, old_light w.last high top ws items new f.2 r a.1)

light_append : (items : List Change) (ws vs : List Span) → AreLight items ws → AreLight items vs → AreLight items (ws ++ vs)
light_append items [] vs a b = b
light_append items (w ∷ ws) vs a b = (a.0, light_append items ws vs a.1 b)

-- what is sealed stands in its span
new_within : (low above last : ℕ) (items new : List Change) → Rises low above items → Rises above last new → between above last (items ++ new) ≡ new
new_within low above last items new r s =
    filter-append (λ (c : Change). ltb above c.seq && leb c.seq last) items new ∙ ap (λ xs. xs ++ between above last new) (beyond above last low above items r (omega arith))
    ∙ sym (late above last above last new s (omega arith)) ∙ all_above above last new s

pub sealed_light : (l : Ckpts) (ends : List ℕ) (w : Span) → HasWholes l ends → ckpt_span l.newest ≡ Some w → items_weight l.newest.items ≤ MAX_WEIGHT → AreLight (l.items ++ l.newest.items) (l.sealed ++ w ∷ [])
sealed_light l ends w h e m =
    let s = spanned l.newest w h.sound.newest e in
    let rest = old_light l.floor l.newest.above (ckpt_last l.newest) l.sealed l.items l.newest.items h.sound.spans h.sound.newest h.light in
    let same : between w.above w.last (l.items ++ l.newest.items) ≡ l.newest.items =
    ap (λ n. between n w.last (l.items ++ l.newest.items)) s.above ∙ ap (λ n. between l.newest.above n (l.items ++ l.newest.items)) s.last
    ∙ new_within l.floor l.newest.above (ckpt_last l.newest) l.items l.newest.items h.sound.items h.sound.newest in
    light_append (l.items ++ l.newest.items) l.sealed (w ∷ []) rest (subst (λ xs. items_weight xs ≤ MAX_WEIGHT) (sym same) m, tt)

-- what is found above a place

-- the span that is found begins at the place or below it, or is the first
found_low : (place low high : ℕ) (ws : List Span) (w : Span) → Follow low ws high → find (λ v. ltb place v.last) ws ≡ Some w → (w.above ≤ place) ⊎ (w.above ≤ low)
found_low place low high [] w f e = absurd (cc)
found_low place low high (v ∷ vs) w f e = ⊎_elim
    (λ t. let q : Some v ≡ Some w = sym (cond-true (ltb place v.last) _ _ t) ∙ e in let same : v ≡ w = cc in let a : v.above ≡ low = f.0 in
    inr (subst (λ (x : Span). x.above ≤ low) same (omega arith)))
    (λ n. let m : v.last ≤ place = ltb-false place v.last n in ⊎_elim (λ k. inl k) (λ k. inl (omega arith)) (found_low place v.last high vs w f.2 (sym (cond-false (ltb place v.last) _ _ n) ∙ e)))
    (cases_Bool (ltb place v.last))

found_light : (place : ℕ) (items : List Change) (ws : List Span) (w : Span) → AreLight items ws → find (λ v. ltb place v.last) ws ≡ Some w → Light w items
found_light place items [] w a e = absurd (cc)
found_light place items (v ∷ vs) w a e = ⊎_elim
    (λ t. let q : Some v ≡ Some w = sym (cond-true (ltb place v.last) _ _ t) ∙ e in let same : v ≡ w = cc in subst (λ (x : Span). Light x items) same a.0)
    (λ n. found_light place items vs w a.1 (sym (cond-false (ltb place v.last) _ _ n) ∙ e))
    (cases_Bool (ltb place v.last))

-- of the changes above a place and up to the end of a span none lies below the span
part_of : (place low high : ℕ) (w : Span) (xs : List Change) → Rises low high xs → (w.above ≤ place) ⊎ (w.above ≤ low) → between place w.last xs ≡ filter (λ c. ltb place c.seq) (between w.above w.last xs)
part_of place low high w [] r k = refl
part_of place low high w (x ∷ xs) r k = by (ltb place x.seq) (ltb w.above x.seq) (leb x.seq w.last) refl refl (part_of place x.seq high w xs r.1 (⊎_elim (λ a. inl a) (λ a. let u : low < x.seq = r.0 in inr (omega arith)) k))
  where
    rest : List Change
    rest = filter (λ c. ltb place c.seq) (between w.above w.last xs)

    by : (a b c : Bool) → ltb place x.seq ≡ a → ltb w.above x.seq ≡ b → between place w.last xs ≡ rest
        → cond (a && c) (x ∷ between place w.last xs) (between place w.last xs) ≡ filter (λ c. ltb place c.seq) (cond (b && c) (x ∷ between w.above w.last xs) (between w.above w.last xs))
    by true true true p q ih = ap (λ ys. x ∷ ys) ih ∙ sym (cond-true (ltb place x.seq) (x ∷ rest) rest p)
    by true true false p q ih = ih
    by true false true p q ih =
        let u : low < x.seq = r.0 in
        let m : place < x.seq = ltb-true place x.seq p in
        let n : x.seq ≤ w.above = ltb-false w.above x.seq q in
        absurd (⊎_elim (λ a. omega arith) (λ a. omega arith) k)
    by true false false p q ih = ih
    by false true true p q ih = ih ∙ sym (cond-false (ltb place x.seq) (x ∷ rest) rest p)
    by false true false p q ih = ih
    by false false true p q ih = ih
    by false false false p q ih = ih

-- changes that rise within closer bounds
pub closer : (low high a b : ℕ) (xs : List Change) → Rises low high xs → a ≤ b → ((x : Change) → IsIn x xs → (a < x.seq) × (x.seq ≤ b)) → Rises a b xs
closer low high a b [] r k f = k
closer low high a b (x ∷ xs) r k f = let n = f x (inl refl) in (n.0, closer x.seq high x.seq b xs r.1 n.1 (λ y i. ((rises_in x.seq high xs y r.1 i).0, (f y (inr i)).1)))

held_rises : (l : Ckpts) → IsSound l → Rises l.floor (high_of l) (held_of l)
held_rises l s = rises_append l.floor l.newest.above (ckpt_last l.newest) l.items l.newest.items s.items s.newest

all_light : (l : Ckpts) (ends : List ℕ) (o : Option Span) → HasWholes l ends → ckpt_span l.newest ≡ o → items_weight l.newest.items ≤ MAX_WEIGHT → AreLight (held_of l) (l.sealed ++ option_to_list o)
all_light l ends None h e m = light_append (held_of l) l.sealed [] (old_light l.floor l.newest.above (ckpt_last l.newest) l.sealed l.items l.newest.items h.sound.spans h.sound.newest h.light) tt
all_light l ends (Some w) h e m = sealed_light l ends w h e m

-- spans follow one another up to some seqno
all_follow : (l : Ckpts) (o : Option Span) → IsSound l → ckpt_span l.newest ≡ o → (high : ℕ) × Follow l.floor (l.sealed ++ option_to_list o) high
all_follow l None s e = (l.newest.above, subst (λ ws. Follow l.floor ws l.newest.above) (sym (append-nil l.sealed)) s.spans)
all_follow l (Some w) s e = let k = spanned l.newest w s.newest e in (w.last, push l.floor l.newest.above l.sealed s.spans k.above k.low)
  where
    push : (low high : ℕ) (ws : List Span) → Follow low ws high → w.above ≡ high → w.above < w.last → Follow low (ws ++ w ∷ []) w.last
    push low high [] f a k = let e : low ≡ high = f in (a ∙ sym e, let m : low < w.last = omega arith in m, refl)
    push low high (v ∷ vs) f a k = (f.0, f.1, push v.last high vs f.2 a k)

pub batch_at : (l : Ckpts) (ends : List ℕ) (place : ℕ) (w : Span) → HasWholes l ends → items_weight l.newest.items ≤ MAX_WEIGHT → find (λ v. ltb place v.last) (all_spans (spans_of l)) ≡ Some w
    → IsBatch place w.last (between place w.last (held_of l))
batch_at l ends place w h m e =
    let f = all_follow l (ckpt_span l.newest) h.sound refl in
    let same = part_of place l.floor (high_of l) w (held_of l) (held_rises l h.sound) (found_low place l.floor f.0 (all_spans (spans_of l)) w f.1 e) in
    let light : Light w (held_of l) = found_light place (held_of l) (all_spans (spans_of l)) w (all_light l ends (ckpt_span l.newest) h refl m) e in
    let part = part_weight (λ c. ltb place c.seq) (between w.above w.last (held_of l)) in
    record {
      rises = closer l.floor (high_of l) place w.last (between place w.last (held_of l)) (rises_filter (λ c. ltb place c.seq && leb c.seq w.last) l.floor (high_of l) (held_of l) (held_rises l h.sound)) (found_up e)
          (λ x i. let t = and_parts (ltb place x.seq) (leb x.seq w.last) (in_filter (λ c. ltb place c.seq && leb c.seq w.last) x (held_of l) i).1 in (ltb-true place x.seq t.0, leb-true x.seq w.last t.1));
      light = subst (λ xs. items_weight xs ≤ MAX_WEIGHT) (sym same) (omega (arith, part, light));
    }
  where
    found_up : find (λ v. ltb place v.last) (all_spans (spans_of l)) ≡ Some w → place ≤ w.last
    found_up q = up (all_spans (spans_of l)) q
      where
        up : (ws : List Span) → find (λ v. ltb place v.last) ws ≡ Some w → place ≤ w.last
        up [] q = absurd (cc)
        up (v ∷ vs) q = ⊎_elim
            (λ t. let z : Some v ≡ Some w = sym (cond-true (ltb place v.last) _ _ t) ∙ q in let same : v ≡ w = cc in let k : place < v.last = ltb-true place v.last t in subst (λ (x : Span). place ≤ x.last) same (omega arith))
            (λ n. up vs (sym (cond-false (ltb place v.last) _ _ n) ∙ q))
            (cases_Bool (ltb place v.last))

-- where a vBucket stands behind a span
pub position_at : (o : Origin) (n : ℕ) → (span_position o n).at ≡ n
position_at Own n = refl
position_at (Received ss se) n = refl
