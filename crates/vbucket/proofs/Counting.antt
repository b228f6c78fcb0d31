-- what a span counts and weighs
use Rattle.std.proofs.Common.{◌≡◌, ℕ, ◌+◌, ◌<◌, ◌≤◌, Bool, true, false, cond, List, [], ◌∷◌, ◌++◌, length, refl, sym, ap, subst, ◌∙◌, inl, inr, ⊎_elim, arith}
use Rattle.std.specs.Prelude.{◌-◌, Option, Some, None, if◌then◌else◌, nat_le, nat_lt, ◌&&◌, ◌||◌}
use Rattle.std.specs.Option.{option_or}
use Rattle.std.specs.List.{filter, list_any, sum_by}
use Rattle.std.specs.Str.{bytes_eq}
use Rattle.std.proofs.lemmas.Bool.Decides.{nat_tests}
use Rattle.std.proofs.lemmas.List.{append-nil, length-append}
use Rattle.std.proofs.lemmas.List.Elements.{filter-append}
use Rattle.std.proofs.lemmas.List.Folds.{list_any-append}
use Rattle.std.proofs.lemmas.List.Sums.{sum_by-cons, sum_by-append}
use Rattle.std.proofs.lemmas.Slice.Eq.{bytes_eq-Decides}
use Rattle.vb_types.specs.declared.change.Change.{Change}
use Rattle.vb_types.specs.Histories.{Rises, IsIn, Slot, touches}
use Rattle.branch_model.proofs.Lists.{rises_in, last_in}
use Rattle.vb_calls.specs.declared.span.Span.{Span}
use Rattle.vb_calls.specs.declared.span.Origin.{Origin}
use Rattle.vb_calls.specs.declared.span.Origin.TheVariants.{Own, Received}
use Rattle.vb_calls.specs.declared.span.TheConstants.{MAX_ITEMS, MAX_WEIGHT}
use Rattle.vb_calls.specs.Spans.{with_other, with_newer, is_durable, change_weight, stretch, key_lasts, live_of, live_in, live_count, live_weight, last_at, span_to}
use Rattle.vbucket.specs.Laws.{IsWithin}
use Rattle.vbucket.proofs.Covering.{none_touches}
use Rattle.vbucket.proofs.Parts.{between_tested}

-- spans of a history with one more change

pub filter_same : (p q : Change → Bool) (h : List Change) → ((x : Change) → IsIn x h → p x ≡ q x) → filter p h ≡ filter q h
filter_same p q [] f = refl
filter_same p q (c ∷ cs) f = ap (λ b. cond b (c ∷ filter p cs) (filter p cs)) (f c (inl refl)) ∙ ap (λ xs. cond (q c) (c ∷ xs) xs) (filter_same p q cs (λ x i. f x (inr i)))

pub filter_none : (p : Change → Bool) (h : List Change) → ((x : Change) → IsIn x h → p x ≡ false) → filter p h ≡ []
filter_none p [] f = refl
filter_none p (c ∷ cs) f = ap (λ b. cond b (c ∷ filter p cs) (filter p cs)) (f c (inl refl)) ∙ filter_none p cs (λ x i. f x (inr i))

filter_more : (p : Change → Bool) (h : List Change) (c : Change) (b : Bool) → p c ≡ b → filter p (h ++ c ∷ []) ≡ filter p h ++ cond b (c ∷ []) []
filter_more p h c b e = filter-append p h (c ∷ []) ∙ ap (λ t. filter p h ++ cond t (c ∷ []) []) e

above_test : (low high n : ℕ) → high < n → (nat_lt low n && nat_le n high) ≡ false
above_test low high n l = grind (arith, nat_tests)

below_test : (low high n : ℕ) → n ≤ low → (nat_lt low n && nat_le n high) ≡ false
below_test low high n l = grind (arith, nat_tests)

same_test : (low high more n : ℕ) → n ≤ high → high ≤ more → (nat_lt low n && nat_le n more) ≡ (nat_lt low n && nat_le n high)
same_test low high more n l m = grind (arith, nat_tests)

-- one that ended before stays
pub stretch_sealed : (low high : ℕ) (h : List Change) (c : Change) → high < c.seq → stretch low high (h ++ c ∷ []) ≡ stretch low high h
stretch_sealed low high h c l = filter_more (λ x. nat_lt low x.seq && nat_le x.seq high) h c false (above_test low high c.seq l) ∙ append-nil (stretch low high h)

-- the one that it joins has it as its last
pub stretch_joined : (low at : ℕ) (h : List Change) (c : Change) → Rises 0 at h → low < c.seq → at < c.seq → stretch low c.seq (h ++ c ∷ []) ≡ stretch low at h ++ c ∷ []
stretch_joined low at h c r l m =
    filter_more (λ x. nat_lt low x.seq && nat_le x.seq c.seq) h c true (between_tested low c.seq c.seq l (omega arith))
    ∙ ap (λ xs. xs ++ c ∷ [])
    (filter_same (λ x. nat_lt low x.seq && nat_le x.seq c.seq) (λ x. nat_lt low x.seq && nat_le x.seq at) h (λ x i. let k = (rises_in 0 at h x r i).1 in same_test low at c.seq x.seq k (omega arith)))

-- a new one has it alone
pub stretch_alone : (at : ℕ) (h : List Change) (c : Change) → Rises 0 at h → at < c.seq → stretch at c.seq (h ++ c ∷ []) ≡ c ∷ []
stretch_alone at h c r l =
    stretch_joined at at h c r l l ∙ ap (λ xs. xs ++ c ∷ []) (filter_none (λ x. nat_lt at x.seq && nat_le x.seq at) h (λ x i. below_test at at x.seq (rises_in 0 at h x r i).1))

-- the last change of each key, with one more

pub other_way : (a b : List ℕ) (t : Bool) → bytes_eq a b ≡ t → bytes_eq b a ≡ t
other_way a b true e = (bytes_eq-Decides b a).1 (sym ((bytes_eq-Decides a b).0 e))
other_way a b false e = by (bytes_eq b a) refl
  where
    by : (t : Bool) → bytes_eq b a ≡ t → bytes_eq b a ≡ false
    by true q = let z : true ≡ false = sym ((bytes_eq-Decides a b).1 (sym ((bytes_eq-Decides b a).0 q))) ∙ e in cc
    by false q = q

pub or_false : (b : Bool) → (b || false) ≡ b
or_false true = refl
or_false false = refl

pub or_true : (b : Bool) → (b || true) ≡ true
or_true true = refl
or_true false = refl

pub any_more : (xs : List Change) (c x : Change) (b : Bool) → bytes_eq c.key x.key ≡ b → list_any (λ d. bytes_eq d.key x.key) (xs ++ c ∷ []) ≡ (list_any (λ d. bytes_eq d.key x.key) xs || b)
any_more xs c x b e = list_any-append (λ d. bytes_eq d.key x.key) xs (c ∷ []) ∙ ap (λ t. list_any (λ d. bytes_eq d.key x.key) xs || t) (last e)
  where
    last : bytes_eq c.key x.key ≡ b → (bytes_eq c.key x.key || false) ≡ b
    last e = or_false (bytes_eq c.key x.key) ∙ e

lasts_new : (xs : List Change) (c : Change) → last_at xs c.key ≡ None → key_lasts (xs ++ c ∷ []) ≡ key_lasts xs ++ c ∷ []
lasts_new [] c e = refl
lasts_new (x ∷ xs) c e = by (last_at xs c.key) (bytes_eq x.key c.key) refl refl e (lasts_new xs c)
  where
    step : (t u : Bool) → t ≡ u → (if t then key_lasts xs ++ c ∷ [] else x ∷ (key_lasts xs ++ c ∷ [])) ≡ (if u then key_lasts xs else x ∷ key_lasts xs) ++ c ∷ []
    step true true q = refl
    step false false q = refl
    step true false q = cc
    step false true q = cc

    by : (o : Option Change) (b : Bool) → last_at xs c.key ≡ o → bytes_eq x.key c.key ≡ b → option_or o (if b then Some x else None) ≡ None → (last_at xs c.key ≡ None → key_lasts (xs ++ c ∷ []) ≡ key_lasts xs ++ c ∷ [])
        → key_lasts (x ∷ (xs ++ c ∷ [])) ≡ key_lasts (x ∷ xs) ++ c ∷ []
    by (Some d) b eo eb q ih = cc
    by None true eo eb q ih = cc
    by None false eo eb q ih =
        ap (λ ys. if list_any (λ d. bytes_eq d.key x.key) (xs ++ c ∷ []) then ys else x ∷ ys) (ih eo)
        ∙ step (list_any (λ d. bytes_eq d.key x.key) (xs ++ c ∷ [])) (list_any (λ d. bytes_eq d.key x.key) xs) (any_more xs c x false (other_way x.key c.key false eb) ∙ or_false (list_any (λ d. bytes_eq d.key x.key) xs))

pub any_in : (p : Change → Bool) (xs : List Change) (d : Change) → IsIn d xs → p d ≡ true → list_any p xs ≡ true
any_in p [] d i e = absurd i
any_in p (x ∷ xs) d i e = ⊎_elim (λ q. ap (λ b. b || list_any p xs) (ap p (sym q) ∙ e)) (λ j. ap (λ b. p x || b) (any_in p xs d j e) ∙ or_true (p x)) i

pub weigh_one : (c : Change) → sum_by change_weight (c ∷ []) ≡ change_weight c
weigh_one c = let e : sum_by change_weight (c ∷ []) ≡ change_weight c + 0 = sum_by-cons change_weight c [] in omega arith

-- as many, and as heavy but for the two changes
abbrev pub InPlace : List Change → List Change → Change → Change → Type 0
InPlace new old d c = (length new ≡ length old) × (sum_by change_weight new + change_weight d ≡ sum_by change_weight old + change_weight c)

in_place_more : (x d c : Change) (new old : List Change) → InPlace new old d c → InPlace (x ∷ new) (x ∷ old) d c
in_place_more x d c new old p =
    let a : sum_by change_weight (x ∷ new) ≡ change_weight x + sum_by change_weight new = sum_by-cons change_weight x new in
    let b : sum_by change_weight (x ∷ old) ≡ change_weight x + sum_by change_weight old = sum_by-cons change_weight x old in
    let e : sum_by change_weight new + change_weight d ≡ sum_by change_weight old + change_weight c = p.1 in
    ((let n : length new ≡ length old = p.0 in omega arith), omega arith)

pub lasts_newer : (xs : List Change) (d c : Change) → last_at xs c.key ≡ Some d → InPlace (key_lasts (xs ++ c ∷ [])) (key_lasts xs) d c
lasts_newer [] d c e = cc
lasts_newer (x ∷ xs) d c e = by (last_at xs c.key) (bytes_eq x.key c.key) refl refl e (lasts_newer xs d c)
  where
    any : List Change → Bool
    any ys = list_any (λ y. bytes_eq y.key x.key) ys

    step : (t u : Bool) → t ≡ u → InPlace (key_lasts (xs ++ c ∷ [])) (key_lasts xs) d c → InPlace (if t then key_lasts (xs ++ c ∷ []) else x ∷ key_lasts (xs ++ c ∷ [])) (if u then key_lasts xs else x ∷ key_lasts xs) d c
    step true true q p = p
    step false false q p = in_place_more x d c (key_lasts (xs ++ c ∷ [])) (key_lasts xs) p
    step true false q p = cc
    step false true q p = cc

    same : (f : Change) (b : Bool) → last_at xs c.key ≡ Some f → bytes_eq x.key c.key ≡ b → any (xs ++ c ∷ []) ≡ any xs
    same f false eo eb = any_more xs c x false (other_way x.key c.key false eb) ∙ or_false (any xs)
    same f true eo eb =
        let i = last_in (touches (Slot.Pending c.key)) xs f eo in
        let k : f.key ≡ x.key = (bytes_eq-Decides f.key c.key).0 i.1 ∙ sym ((bytes_eq-Decides x.key c.key).0 eb) in
        any_more xs c x true (other_way x.key c.key true eb) ∙ or_true (any xs) ∙ sym (any_in (λ y. bytes_eq y.key x.key) xs f i.0 ((bytes_eq-Decides f.key x.key).1 k))

    here : x ≡ d → last_at xs c.key ≡ None → bytes_eq x.key c.key ≡ true → InPlace (key_lasts (x ∷ (xs ++ c ∷ []))) (key_lasts (x ∷ xs)) d c
    here q eo eb =
        let k : x.key ≡ c.key = (bytes_eq-Decides x.key c.key).0 eb in
        let new : key_lasts (x ∷ (xs ++ c ∷ [])) ≡ key_lasts xs ++ c ∷ [] = ap (λ t. if t then key_lasts (xs ++ c ∷ []) else x ∷ key_lasts (xs ++ c ∷ [])) (any_more xs c x true (other_way x.key c.key true eb) ∙ or_true (any xs)) ∙ lasts_new xs c eo in
        let old : key_lasts (x ∷ xs) ≡ x ∷ key_lasts xs = ap (λ t. if t then key_lasts xs else x ∷ key_lasts xs) (none_touches x.key xs (ap (last_at xs) k ∙ eo)) in
        let a : sum_by change_weight (key_lasts xs ++ c ∷ []) ≡ sum_by change_weight (key_lasts xs) + sum_by change_weight (c ∷ []) = sum_by-append change_weight (key_lasts xs) (c ∷ []) in
        let b : sum_by change_weight (x ∷ key_lasts xs) ≡ change_weight x + sum_by change_weight (key_lasts xs) = sum_by-cons change_weight x (key_lasts xs) in
        let o : sum_by change_weight (c ∷ []) ≡ change_weight c = weigh_one c in
        let w : change_weight x ≡ change_weight d = ap change_weight q in
        let n : length (key_lasts xs ++ c ∷ []) ≡ length (key_lasts xs) + 1 = length-append (key_lasts xs) (c ∷ []) in
        let p : InPlace (key_lasts xs ++ c ∷ []) (x ∷ key_lasts xs) d c = (omega arith, omega arith) in
        subst (λ ys. InPlace ys (key_lasts (x ∷ xs)) d c) (sym new) (subst (λ ys. InPlace (key_lasts xs ++ c ∷ []) ys d c) (sym old) p)

    by : (o : Option Change) (b : Bool) → last_at xs c.key ≡ o → bytes_eq x.key c.key ≡ b → option_or o (if b then Some x else None) ≡ Some d
        → (last_at xs c.key ≡ Some d → InPlace (key_lasts (xs ++ c ∷ [])) (key_lasts xs) d c) → InPlace (key_lasts (x ∷ (xs ++ c ∷ []))) (key_lasts (x ∷ xs)) d c
    by (Some f) b eo eb q ih = step (any (xs ++ c ∷ [])) (any xs) (same f b eo eb) (ih (eo ∙ q))
    by None true eo eb q ih = here (let s : x ≡ d = cc in s) eo eb
    by None false eo eb q ih = cc

-- one more, and as heavy with it
abbrev pub OneMore : List Change → List Change → Change → Type 0
OneMore new old c = (length new ≡ length old + 1) × (sum_by change_weight new ≡ sum_by change_weight old + change_weight c)

pub one_more : (old : List Change) (c : Change) → OneMore (old ++ c ∷ []) old c
one_more old c =
    let a : sum_by change_weight (old ++ c ∷ []) ≡ sum_by change_weight old + sum_by change_weight (c ∷ []) = sum_by-append change_weight old (c ∷ []) in
    let o : sum_by change_weight (c ∷ []) ≡ change_weight c = weigh_one c in
    (length-append old (c ∷ []), omega arith)

-- live changes that may make a span
abbrev pub Fit : List Change → Type 0
Fit cs = IsWithin (length cs) (sum_by change_weight cs)

pub fit_alone : (c : Change) (cs : List Change) → cs ≡ c ∷ [] → Fit cs
fit_alone c cs e = subst Fit (sym e) (inl refl)

room_other : (count most : ℕ) (n m : Bool) (w j : Span) → nat_le MAX_ITEMS count ≡ n → nat_lt MAX_WEIGHT most ≡ m → (if n || m then None else Some w) ≡ Some j → (count + 1 ≤ MAX_ITEMS) × (most ≤ MAX_WEIGHT)
room_other count most true m w j en em e = cc
room_other count most false true w j en em e = cc
room_other count most false false w j en em e = (grind (arith, nat_tests), grind (arith, nat_tests))

pub fit_other : (h : List Change) (w j : Span) (c : Change) (new : List Change) → with_other h w c ≡ Some j → OneMore new (live_in w h) c → Fit new
fit_other h w j c new e more =
    let k = room_other (live_count w h) (live_weight w h + change_weight c) (nat_le MAX_ITEMS (live_count w h)) (nat_lt MAX_WEIGHT (live_weight w h + change_weight c)) (span_to w c) j refl refl e in
    let n : length new ≡ live_count w h + 1 = more.0 in
    let m : sum_by change_weight new ≡ live_weight w h + change_weight c = more.1 in
    let a : live_count w h + 1 ≤ MAX_ITEMS = k.0 in
    let b : live_weight w h + change_weight c ≤ MAX_WEIGHT = k.1 in
    inr (subst (λ x. x ≤ MAX_ITEMS) (sym n) a, subst (λ x. x ≤ MAX_WEIGHT) (sym m) b)

room_newer : (x y m : Bool) (most : ℕ) (w j : Span) → nat_lt MAX_WEIGHT most ≡ m → (if x || y || m then None else Some w) ≡ Some j → most ≤ MAX_WEIGHT
room_newer true y m most w j em e = cc
room_newer false true m most w j em e = cc
room_newer false false true most w j em e = cc
room_newer false false false most w j em e = grind (arith, nat_tests)

within_still : (n m p : ℕ) → IsWithin n m → p ≤ MAX_WEIGHT → IsWithin n p
within_still n m p i l = ⊎_elim (λ e. inl e) (λ k. inr (k.0, l)) i

pub fit_newer : (h : List Change) (w j : Span) (d c : Change) (new : List Change) → with_newer h w d c ≡ Some j → IsWithin (live_count w h) (live_weight w h) → InPlace new (live_in w h) d c → Fit new
fit_newer h w j d c new e i p =
    let k : live_weight w h + change_weight c - change_weight d ≤ MAX_WEIGHT = room_newer (is_durable d.act) (is_durable c.act) (nat_lt MAX_WEIGHT (live_weight w h + change_weight c - change_weight d)) (live_weight w h + change_weight c - change_weight d) (span_to w c) j refl e in
    let n : length new ≡ live_count w h = p.0 in
    let m : sum_by change_weight new + change_weight d ≡ live_weight w h + change_weight c = p.1 in
    subst (λ x. IsWithin x (sum_by change_weight new)) (sym n) (within_still (live_count w h) (live_weight w h) (sum_by change_weight new) i (omega arith))

pub live_new : (o : Origin) (cs : List Change) (c : Change) → last_at cs c.key ≡ None → live_of o (cs ++ c ∷ []) ≡ live_of o cs ++ c ∷ []
live_new Own cs c e = lasts_new cs c e
live_new (Received ss se) cs c e = refl

pub live_one : (o : Origin) (c : Change) → live_of o (c ∷ []) ≡ c ∷ []
live_one Own c = refl
live_one (Received ss se) c = refl
