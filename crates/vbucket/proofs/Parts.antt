-- parts of lists of changes, and of spans
use Rattle.std.proofs.Common.{◌≡◌, ℕ, ◌<◌, ◌≤◌, Bool, true, false, cond, List, [], ◌∷◌, map, refl, sym, ap, subst, ◌∙◌, inl, inr, ⊎_elim, arith}
use Rattle.std.specs.Prelude.{Option, Some, None, if◌then◌else◌, nat_le, nat_lt, ◌&&◌}
use Rattle.std.specs.Option.{option_or}
use Rattle.std.specs.List.{filter, find, flat_map, list_any}
use Rattle.std.specs.Str.{bytes_eq}
use Rattle.std.proofs.lemmas.Bool.Decides.{nat_tests}
use Rattle.std.proofs.lemmas.Bool.{cases_lt}
use Rattle.vb_types.specs.declared.change.Change.{Change}
use Rattle.vb_types.specs.Histories.{Rises, IsIn, last_by}
use Rattle.branch_model.proofs.Lists.{rises_lower, rises_append, rises_in, in_left, in_right, in_append}
use Rattle.vb_calls.specs.declared.span.Span.{Span}
use Rattle.vb_calls.specs.declared.span.Origin.{Origin}
use Rattle.vb_calls.specs.declared.span.Origin.TheVariants.{Own, Received}
use Rattle.vb_calls.specs.Spans.{key_lasts, live_of, stretch}
use Rattle.vbucket.specs.Laws.{Follow}
use Rattle.vbucket.specs.Saving.{IsOneOf}

-- tests and facts

pub between_of : (a b n : ℕ) → (nat_lt a n && nat_le n b) ≡ true → (a < n) × (n ≤ b)
between_of a b n e = (grind (arith, nat_tests), grind (arith, nat_tests))

pub between_tested : (a b n : ℕ) → a < n → n ≤ b → (nat_lt a n && nat_le n b) ≡ true
between_tested a b n l m = grind (arith, nat_tests)

pub below_of : (a b : ℕ) → nat_lt a b ≡ true → a < b
below_of a b e = grind (arith, nat_tests)

pub below_tested : (a b : ℕ) → a < b → nat_lt a b ≡ true
below_tested a b l = grind (arith, nat_tests)

pub most_of : (a b : ℕ) → nat_le a b ≡ true → a ≤ b
most_of a b e = grind (arith, nat_tests)

pub most_not : (a b : ℕ) → nat_le a b ≡ false → b < a
most_not a b e = grind (arith, nat_tests)

pub most_tested : (a b : ℕ) → a ≤ b → nat_le a b ≡ true
most_tested a b l = grind (arith, nat_tests)

pub both : (a b : Bool) → (a && b) ≡ true → (a ≡ true) × (b ≡ true)
both true b e = (refl, e)
both false b e = cc

pub conj : (a b : Bool) → a ≡ true → b ≡ true → (a && b) ≡ true
conj true b e f = f
conj false b e f = cc

-- parts of a rising list rise

pub from_zero : (low at : ℕ) (h : List Change) → Rises low at h → Rises 0 at h
from_zero low at h r = rises_lower 0 low at h (omega arith) r

pub filtered : (p : Change → Bool) (a b : ℕ) (xs : List Change) → Rises a b xs → Rises a b (filter p xs)
filtered p a b [] r = r
filtered p a b (x ∷ xs) r = by (p x) (filtered p x.seq b xs r.1)
  where
    by : (t : Bool) → Rises x.seq b (filter p xs) → Rises a b (cond t (x ∷ filter p xs) (filter p xs))
    by true k = (r.0, k)
    by false k = rises_lower a x.seq b (filter p xs) (let l : a < x.seq = r.0 in omega arith) k

pub lasts_rise : (a b : ℕ) (xs : List Change) → Rises a b xs → Rises a b (key_lasts xs)
lasts_rise a b [] r = r
lasts_rise a b (x ∷ xs) r = by (list_any (λ d. bytes_eq d.key x.key) xs) (lasts_rise x.seq b xs r.1)
  where
    by : (t : Bool) → Rises x.seq b (key_lasts xs) → Rises a b (if t then key_lasts xs else x ∷ key_lasts xs)
    by true k = rises_lower a x.seq b (key_lasts xs) (let l : a < x.seq = r.0 in omega arith) k
    by false k = (r.0, k)

pub live_rises : (o : Origin) (a b : ℕ) (xs : List Change) → Rises a b xs → Rises a b (live_of o xs)
live_rises Own a b xs r = lasts_rise a b xs r
live_rises (Received ss se) a b xs r = r

-- a rising list within closer bounds
pub bounded : (a b low high : ℕ) (xs : List Change) → Rises a b xs → low ≤ high → ((x : Change) → IsIn x xs → (low < x.seq) × (x.seq ≤ high)) → Rises low high xs
bounded a b low high [] r l f = l
bounded a b low high (x ∷ xs) r l f =
    let h = f x (inl refl) in
    let m : x.seq ≤ high = h.1 in
    (h.0, bounded x.seq b x.seq high xs r.1 m (λ y i. ((rises_in x.seq b xs y r.1 i).0, (f y (inr i)).1)))

-- membership

pub in_filter : (p : Change → Bool) (xs : List Change) (c : Change) → IsIn c (filter p xs) → IsIn c xs × (p c ≡ true)
in_filter p [] c i = absurd i
in_filter p (x ∷ xs) c i = by (p x) refl i (in_filter p xs c)
  where
    by : (t : Bool) → p x ≡ t → IsIn c (cond t (x ∷ filter p xs) (filter p xs)) → (IsIn c (filter p xs) → IsIn c xs × (p c ≡ true)) → IsIn c (x ∷ xs) × (p c ≡ true)
    by true e j ih = ⊎_elim (λ q. (inl q, subst (λ y. p y ≡ true) (sym q) e)) (λ t. let k = ih t in (inr k.0, k.1)) j
    by false e j ih = let k = ih j in (inr k.0, k.1)

pub kept_in_filter : (p : Change → Bool) (xs : List Change) (c : Change) → IsIn c xs → p c ≡ true → IsIn c (filter p xs)
kept_in_filter p [] c i e = absurd i
kept_in_filter p (x ∷ xs) c i e = ⊎_elim
    (λ q. subst (λ t. IsIn c (cond t (x ∷ filter p xs) (filter p xs))) (sym (subst (λ y. p y ≡ true) q e)) (inl q))
    (λ j. by (p x) (kept_in_filter p xs c j e)) i
  where
    by : (t : Bool) → IsIn c (filter p xs) → IsIn c (cond t (x ∷ filter p xs) (filter p xs))
    by true k = inr k
    by false k = k

pub in_lasts : (xs : List Change) (c : Change) → IsIn c (key_lasts xs) → IsIn c xs
in_lasts [] c i = i
in_lasts (x ∷ xs) c i = by (list_any (λ d. bytes_eq d.key x.key) xs) i (in_lasts xs c)
  where
    by : (t : Bool) → IsIn c (if t then key_lasts xs else x ∷ key_lasts xs) → (IsIn c (key_lasts xs) → IsIn c xs) → IsIn c (x ∷ xs)
    by true j ih = inr (ih j)
    by false j ih = ⊎_elim (λ q. inl q) (λ k. inr (ih k)) j

pub in_live : (o : Origin) (xs : List Change) (c : Change) → IsIn c (live_of o xs) → IsIn c xs
in_live Own xs c i = in_lasts xs c i
in_live (Received ss se) xs c i = i

pub in_map : (f : Change → Change) (xs : List Change) (x : Change) → IsIn x (map f xs) → (c : Change) × IsIn c xs × (x ≡ f c)
in_map f [] x i = absurd i
in_map f (y ∷ ys) x i = ⊎_elim (λ q. (y, inl refl, q)) (λ j. let k = in_map f ys x j in (k.0, inr k.1, k.2)) i

pub mapped_in : (f : Change → Change) (xs : List Change) (c : Change) → IsIn c xs → IsIn (f c) (map f xs)
mapped_in f [] c i = absurd i
mapped_in f (y ∷ ys) c i = ⊎_elim (λ q. inl (ap f q)) (λ j. inr (mapped_in f ys c j)) i

-- the last change of a key stays the last of a part that has it

pub none_filtered : (test p : Change → Bool) (xs : List Change) → last_by test xs ≡ None → last_by test (filter p xs) ≡ None
none_filtered test p [] e = refl
none_filtered test p (x ∷ xs) e = by (last_by test xs) (test x) (p x) refl refl e (none_filtered test p xs)
  where
    by : (o : Option Change) (b t : Bool) → last_by test xs ≡ o → test x ≡ b → option_or o (if b then Some x else None) ≡ None → (last_by test xs ≡ None → last_by test (filter p xs) ≡ None)
        → last_by test (cond t (x ∷ filter p xs) (filter p xs)) ≡ None
    by (Some d) b t eo eb q ih = cc
    by None true t eo eb q ih = cc
    by None false true eo eb q ih = ap (λ o. option_or o (if test x then Some x else None)) (ih eo) ∙ ap (λ b. if b then Some x else None) eb
    by None false false eo eb q ih = ih eo

pub last_filtered : (test p : Change → Bool) (xs : List Change) (c : Change) → last_by test xs ≡ Some c → p c ≡ true → last_by test (filter p xs) ≡ Some c
last_filtered test p [] c e t = cc
last_filtered test p (x ∷ xs) c e t = by (last_by test xs) (test x) (p x) refl refl refl e (λ u. last_filtered test p xs c u t) (none_filtered test p xs)
  where
    by : (o : Option Change) (b k : Bool) → last_by test xs ≡ o → test x ≡ b → p x ≡ k → option_or o (if b then Some x else None) ≡ Some c → (last_by test xs ≡ Some c → last_by test (filter p xs) ≡ Some c)
        → (last_by test xs ≡ None → last_by test (filter p xs) ≡ None) → last_by test (cond k (x ∷ filter p xs) (filter p xs)) ≡ Some c
    by (Some d) b true eo eb ek q ih gone = ap (λ o. option_or o (if test x then Some x else None)) (ih (eo ∙ q))
    by (Some d) b false eo eb ek q ih gone = ih (eo ∙ q)
    by None true true eo eb ek q ih gone = ap (λ o. option_or o (if test x then Some x else None)) (gone eo) ∙ ap (λ b. if b then Some x else None) eb ∙ q
    by None true false eo eb ek q ih gone = let s : x ≡ c = cc in let z : true ≡ false = sym t ∙ ap p (sym s) ∙ ek in cc
    by None false k eo eb ek q ih gone = cc

pub split : (p q : Change → Bool) (xs : List Change) → filter (λ c. p c && q c) xs ≡ filter p (filter q xs)
split p q [] = refl
split p q (x ∷ xs) = by (p x) (q x) refl (split p q xs)
  where
    by : (a b : Bool) → p x ≡ a → filter (λ c. p c && q c) xs ≡ filter p (filter q xs)
        → cond (a && b) (x ∷ filter (λ c. p c && q c) xs) (filter (λ c. p c && q c) xs) ≡ filter p (cond b (x ∷ filter q xs) (filter q xs))
    by true true e ih = ap (λ r. x ∷ r) ih ∙ sym (ap (λ t. cond t (x ∷ filter p (filter q xs)) (filter p (filter q xs))) e)
    by true false e ih = ih
    by false true e ih = ih ∙ sym (ap (λ t. cond t (x ∷ filter p (filter q xs)) (filter p (filter q xs))) e)
    by false false e ih = ih

-- spans

abbrev pub Among : Span → List Span → Type 0
Among w ws = IsOneOf w ws

pub found : (p : Span → Bool) (ws : List Span) (w : Span) → find p ws ≡ Some w → Among w ws × (p w ≡ true)
found p [] w e = cc
found p (v ∷ vs) w e = by (p v) refl e (found p vs w)
  where
    by : (t : Bool) → p v ≡ t → cond t (Some v) (find p vs) ≡ Some w → (find p vs ≡ Some w → Among w vs × (p w ≡ true)) → Among w (v ∷ vs) × (p w ≡ true)
    by true h q ih = let s : v ≡ w = cc in (inl (sym s), subst (λ x. p x ≡ true) s h)
    by false h q ih = let k = ih q in (inr k.0, k.1)

pub ends_above : (low high : ℕ) (ws : List Span) (w : Span) → Follow low ws high → Among w ws → low < w.last
ends_above low high [] w f a = absurd a
ends_above low high (v ∷ vs) w f a = ⊎_elim (λ e. subst (λ (x : Span). low < x.last) (sym e) f.1) (λ t. let k = ends_above v.last high vs w f.2 t in let l : low < v.last = f.1 in omega arith) a

-- where spans that follow one another end
pub follow_most : (low high : ℕ) (ws : List Span) → Follow low ws high → low ≤ high
follow_most low high [] f = let e : low ≡ high = f in omega arith
follow_most low high (w ∷ ws) f = let k = follow_most w.last high ws f.2 in let l : low < w.last = f.1 in omega arith

pub among_most : (low high : ℕ) (ws : List Span) (w : Span) → Follow low ws high → Among w ws → w.last ≤ high
among_most low high [] w f a = absurd a
among_most low high (v ∷ vs) w f a = ⊎_elim (λ e. let q : w.last ≡ v.last = ap (λ (y : Span). y.last) e in let m = follow_most v.last high vs f.2 in omega arith) (λ k. among_most v.last high vs w f.2 k) a

-- a seqno below a span's end stands in a span that ends no later
pub stands_in : (low high n : ℕ) (ws : List Span) (e : Span) → Follow low ws high → Among e ws → low < n → n ≤ e.last → (w : Span) × Among w ws × (w.above < n) × (n ≤ w.last) × (w.last ≤ e.last)
stands_in low high n [] e f a l m = absurd a
stands_in low high n (v ∷ vs) e f a l m = ⊎_elim
    (λ k. ⊎_elim (λ q. let x : e.last ≡ v.last = ap (λ (y : Span). y.last) q in absurd (omega arith))
    (λ t. let r = stands_in v.last high n vs e f.2 t k m in (r.0, inr r.1, r.2, r.3, r.4)) a)
    (λ k. (
      v,
      inl refl,
      (let q : v.above ≡ low = f.0 in omega arith),
      k,
      ⊎_elim (λ q. let x : e.last ≡ v.last = ap (λ (y : Span). y.last) q in omega arith) (λ t. let x = ends_above v.last high vs e f.2 t in omega arith) a,
    ))
    (cases_lt v.last n)

pub in_flat : (f : Span → List Change) (q : Span → Bool) (ws : List Span) (x : Change) → IsIn x (flat_map f (filter q ws)) → (w : Span) × Among w ws × (q w ≡ true) × IsIn x (f w)
in_flat f q [] x i = absurd i
in_flat f q (v ∷ vs) x i = by (q v) refl i (in_flat f q vs x)
  where
    by : (t : Bool) → q v ≡ t → IsIn x (flat_map f (cond t (v ∷ filter q vs) (filter q vs))) → (IsIn x (flat_map f (filter q vs)) → (w : Span) × Among w vs × (q w ≡ true) × IsIn x (f w))
        → (w : Span) × Among w (v ∷ vs) × (q w ≡ true) × IsIn x (f w)
    by true e j ih = ⊎_elim (λ l. (v, inl refl, e, l)) (λ r. let k = ih r in (k.0, inr k.1, k.2, k.3)) (in_append x (f v) (flat_map f (filter q vs)) j)
    by false e j ih = let k = ih j in (k.0, inr k.1, k.2, k.3)

pub in_flat_of : (f : Span → List Change) (q : Span → Bool) (ws : List Span) (w : Span) (x : Change) → Among w ws → q w ≡ true → IsIn x (f w) → IsIn x (flat_map f (filter q ws))
in_flat_of f q [] w x a t i = absurd a
in_flat_of f q (v ∷ vs) w x a t i = ⊎_elim
    (λ e. subst (λ b. IsIn x (flat_map f (cond b (v ∷ filter q vs) (filter q vs)))) (sym (ap q (sym e) ∙ t)) (in_left x (f v) (flat_map f (filter q vs)) (subst (λ y. IsIn x (f y)) e i)))
    (λ r. by (q v) (in_flat_of f q vs w x r t i)) a
  where
    by : (b : Bool) → IsIn x (flat_map f (filter q vs)) → IsIn x (flat_map f (cond b (v ∷ filter q vs) (filter q vs)))
    by true k = in_right x (f v) (flat_map f (filter q vs)) k
    by false k = k

pub flat_rises : (f : Span → List Change) (q : Span → Bool) → ((w : Span) → w.above ≤ w.last → Rises w.above w.last (f w)) → (low high : ℕ) (ws : List Span) → Follow low ws high → Rises low high (flat_map f (filter q ws))
flat_rises f q r low high [] e = let k : low ≡ high = e in omega arith
flat_rises f q r low high (v ∷ vs) e = by (q v) e.1 (flat_rises f q r v.last high vs e.2)
  where
    by : (b : Bool) → low < v.last → Rises v.last high (flat_map f (filter q vs)) → Rises low high (flat_map f (cond b (v ∷ filter q vs) (filter q vs)))
    by true l rest = rises_append low v.last high (f v) (flat_map f (filter q vs)) (subst (λ n. Rises n v.last (f v)) e.0 (r v (let a : v.above ≡ low = e.0 in omega arith))) rest
    by false l rest = rises_lower low v.last high (flat_map f (filter q vs)) (omega arith) rest

-- the changes of a span

pub in_stretch : (low high : ℕ) (h : List Change) (x : Change) → IsIn x (stretch low high h) → IsIn x h × (low < x.seq) × (x.seq ≤ high)
in_stretch low high h x i =
    let k = in_filter (λ c. nat_lt low c.seq && nat_le c.seq high) h x i in
    let b = between_of low high x.seq k.1 in
    (k.0, b.0, b.1)

pub within_stretch : (low high : ℕ) (h : List Change) (x : Change) → IsIn x h → low < x.seq → x.seq ≤ high → IsIn x (stretch low high h)
within_stretch low high h x i l m = kept_in_filter (λ c. nat_lt low c.seq && nat_le c.seq high) h x i (between_tested low high x.seq l m)
