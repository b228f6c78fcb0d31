-- the live changes of a span: which has a key, and what a change makes of them
use Rattle.std.proofs.Common.{◌≡◌, ℕ, Bool, true, false, cond, List, [], ◌∷◌, ◌++◌, refl, sym, ap, ◌∙◌, inl, inr, ⊎_elim, arith}
use Rattle.std.specs.Prelude.{◌+◌, ◌-◌, ◌⊎◌, Option, Some, None, if◌then◌else◌, nat_le, nat_lt, not, ◌&&◌, ◌||◌}
use Rattle.std.specs.List.{filter, list_any}
use Rattle.std.specs.Option.{option_or}
use Rattle.std.specs.Str.{bytes_eq}
use Rattle.std.proofs.lemmas.Bool.Decides.{nat_tests}
use Rattle.std.proofs.lemmas.Slice.Eq.{bytes_eq-Decides}
use Rattle.vb_types.specs.declared.change.Change.{Change}
use Rattle.vb_types.specs.Histories.{Rises, Slot, touches}
use Rattle.branch_model.proofs.Lists.{rises_in, last_in}
use Rattle.vb_calls.specs.declared.span.Span.{Span}
use Rattle.vb_calls.specs.declared.span.Origin.{Origin}
use Rattle.vb_calls.specs.declared.span.Origin.TheVariants.{Own, Received}
use Rattle.vb_calls.specs.declared.span.TheConstants.{MAX_ITEMS, MAX_WEIGHT}
use Rattle.vb_calls.specs.Spans.{change_weight, is_durable, key_lasts, last_at, live_count, live_in, live_of, live_weight, own_joined, received_joined, span_to, stretch, with_newer, with_other, with_own, with_received}
use Rattle.checkpoint.specs.Checkpoints.{entered, fits_by, fits_in, fits_newer, fits_other, item_at}
use Rattle.ckpt_list.specs.Lists.{is_own}
use Rattle.vbucket.specs.Laws.{Tidy}
use Rattle.vbucket.proofs.Counting.{any_more, any_in, other_way}
use Rattle.vbucket.proofs.Covering.{none_touches}
use Rattle.vbucket.proofs.Parts.{last_filtered, between_tested, below_of}
use Rattle.vbucket.proofs.Tidying.{none_there, not_in, not_there}

-- a change enters

entered_step : (p : Change → Bool) (x c : Change) (ys zs : List Change) (t a : Bool) → (a ≡ true → t ≡ true) → (a ≡ false → p x ≡ not t) → ys ≡ filter p zs ++ c ∷ []
    → (if t then ys else x ∷ ys) ≡ filter p (if a then zs else x ∷ zs) ++ c ∷ []
entered_step p x c ys zs true true f g ih = ih
entered_step p x c ys zs true false f g ih = ih ∙ sym (ap (λ b. cond b (x ∷ filter p zs) (filter p zs) ++ c ∷ []) (g refl))
entered_step p x c ys zs false false f g ih = ap (λ r. x ∷ r) ih ∙ sym (ap (λ b. cond b (x ∷ filter p zs) (filter p zs) ++ c ∷ []) (g refl))
entered_step p x c ys zs false true f g ih = let z : false ≡ true = f refl in cc

pub lasts_entered : (xs : List Change) (c : Change) → key_lasts (xs ++ c ∷ []) ≡ entered (key_lasts xs) c
lasts_entered [] c = refl
lasts_entered (x ∷ xs) c = by (bytes_eq c.key x.key) refl (lasts_entered xs c)
  where
    any : List Change → Bool
    any ys = list_any (λ d. bytes_eq d.key x.key) ys

    by : (b : Bool) → bytes_eq c.key x.key ≡ b → key_lasts (xs ++ c ∷ []) ≡ entered (key_lasts xs) c → key_lasts (x ∷ (xs ++ c ∷ [])) ≡ entered (key_lasts (x ∷ xs)) c
    by b e ih =
        let more : any (xs ++ c ∷ []) ≡ (any xs || b) = any_more xs c x b e in
        let same : bytes_eq x.key c.key ≡ b = other_way c.key x.key b e in
        entered_step (λ d. not (bytes_eq d.key c.key)) x c (key_lasts (xs ++ c ∷ [])) (key_lasts xs) (any (xs ++ c ∷ [])) (any xs)
        (λ q. more ∙ ap (λ t. t || b) q) (λ q. ap not same ∙ sym (ap not (more ∙ ap (λ t. t || b) q))) ih

absent_stays : (key : List ℕ) (xs : List Change) → item_at key xs ≡ None → filter (λ d. not (bytes_eq d.key key)) xs ≡ xs
absent_stays key [] e = refl
absent_stays key (x ∷ xs) e = by (bytes_eq x.key key) refl e (absent_stays key xs)
  where
    p : Change → Bool
    p d = not (bytes_eq d.key key)

    by : (b : Bool) → bytes_eq x.key key ≡ b → cond b (Some x) (item_at key xs) ≡ None → (item_at key xs ≡ None → filter p xs ≡ xs) → cond (not (bytes_eq x.key key)) (x ∷ filter p xs) (filter p xs) ≡ x ∷ xs
    by true q n ih = cc
    by false q n ih = ap (λ b. cond (not b) (x ∷ filter p xs) (filter p xs)) q ∙ ap (λ r. x ∷ r) (ih n)

-- of an own span any, and of a received one a change whose key is not there
pub live_entered : (o : Origin) (cs : List Change) (c : Change) → (o ≡ Own) ⊎ (item_at c.key (live_of o cs) ≡ None) → live_of o (cs ++ c ∷ []) ≡ entered (live_of o cs) c
live_entered Own cs c k = lasts_entered cs c
live_entered (Received ss se) cs c k = ⊎_elim (λ e. let z : Received ss se ≡ Own = e in cc) (λ n. sym (ap (λ r. r ++ c ∷ []) (absent_stays c.key cs n))) k

-- the change of a key

lasts_item : (key : List ℕ) (xs : List Change) → item_at key (key_lasts xs) ≡ last_at xs key
lasts_item key [] = refl
lasts_item key (x ∷ xs) = by (last_at xs key) (bytes_eq x.key key) (list_any (λ d. bytes_eq d.key x.key) xs) refl refl refl (lasts_item key xs)
  where
    any : Bool
    any = list_any (λ d. bytes_eq d.key x.key) xs

    there : (d : Change) → last_at xs key ≡ Some d → bytes_eq x.key key ≡ true → any ≡ true
    there d eo eb =
        let i = last_in (touches (Slot.Pending key)) xs d eo in
        let k : d.key ≡ x.key = (bytes_eq-Decides d.key key).0 i.1 ∙ sym ((bytes_eq-Decides x.key key).0 eb) in
        any_in (λ y. bytes_eq y.key x.key) xs d i.0 ((bytes_eq-Decides d.key x.key).1 k)

    none : last_at xs key ≡ None → bytes_eq x.key key ≡ true → any ≡ false
    none eo eb = let k : x.key ≡ key = (bytes_eq-Decides x.key key).0 eb in none_touches x.key xs (ap (last_at xs) k ∙ eo)

    skip : (t : Bool) → bytes_eq x.key key ≡ false → item_at key (if t then key_lasts xs else x ∷ key_lasts xs) ≡ item_at key (key_lasts xs)
    skip true e = refl
    skip false e = ap (λ b. cond b (Some x) (item_at key (key_lasts xs))) e

    by : (o : Option Change) (b t : Bool) → last_at xs key ≡ o → bytes_eq x.key key ≡ b → any ≡ t → item_at key (key_lasts xs) ≡ last_at xs key
        → item_at key (if any then key_lasts xs else x ∷ key_lasts xs) ≡ option_or (last_at xs key) (if bytes_eq x.key key then Some x else None)
    by (Some d) true t eo eb et ih = ap (λ b. item_at key (if b then key_lasts xs else x ∷ key_lasts xs)) (there d eo eb) ∙ ih ∙ eo ∙ sym (ap (λ o. option_or o (if bytes_eq x.key key then Some x else None)) eo)
    by (Some d) false t eo eb et ih = skip any eb ∙ ih ∙ eo ∙ sym (ap (λ o. option_or o (if bytes_eq x.key key then Some x else None)) eo)
    by None true t eo eb et ih =
        ap (λ b. item_at key (if b then key_lasts xs else x ∷ key_lasts xs)) (none eo eb) ∙ ap (λ b. cond b (Some x) (item_at key (key_lasts xs))) eb
        ∙ sym (ap (λ o. option_or o (if bytes_eq x.key key then Some x else None)) eo ∙ ap (λ b. if b then Some x else None) eb)
    by None false t eo eb et ih =
        skip any eb ∙ ih ∙ eo ∙ sym (ap (λ o. option_or o (if bytes_eq x.key key then Some x else None)) eo ∙ ap (λ b. if b then Some x else None) eb)

-- of changes of which no two share a key
alone_item : (ss se : ℕ) (key : List ℕ) (low high : ℕ) (xs : List Change) → Rises low high xs → Tidy (Received ss se) xs → item_at key xs ≡ last_at xs key
alone_item ss se key low high [] r t = refl
alone_item ss se key low high (x ∷ xs) r t = by (last_at xs key) (bytes_eq x.key key) refl refl (alone_item ss se key x.seq high xs r.1 (λ c d i j. t c d (inr i) (inr j)))
  where
    by : (o : Option Change) (b : Bool) → last_at xs key ≡ o → bytes_eq x.key key ≡ b → item_at key xs ≡ last_at xs key → cond b (Some x) (item_at key xs) ≡ option_or (last_at xs key) (if b then Some x else None)
    by (Some d) true eo eb ih =
        let i = last_in (touches (Slot.Pending key)) xs d eo in
        let k : x.key ≡ d.key = (bytes_eq-Decides x.key key).0 eb ∙ sym ((bytes_eq-Decides d.key key).0 i.1) in
        absurd (t x d (inl refl) (inr i.0) k (rises_in x.seq high xs d r.1 i.0).0)
    by (Some d) false eo eb ih = ih ∙ eo ∙ sym (ap (λ o. option_or o None) eo)
    by None true eo eb ih = sym (ap (λ o. option_or o (Some x)) eo)
    by None false eo eb ih = ih ∙ eo ∙ sym (ap (λ o. option_or o None) eo)

live_item : (o : Origin) (key : List ℕ) (low high : ℕ) (cs : List Change) → Rises low high cs → Tidy o cs → item_at key (live_of o cs) ≡ last_at cs key
live_item Own key low high cs r t = lasts_item key cs
live_item (Received ss se) key low high cs r t = alone_item ss se key low high cs r t

-- a key's last change, if it is in the span
abbrev pub within : Span → Option Change → Option Change
within w None = None
within w (Some d) = if nat_lt w.above d.seq then Some d else None

last_within : (at : ℕ) (h : List Change) (w : Span) (key : List ℕ) → Rises 0 at h → w.last ≡ at → last_at (stretch w.above w.last h) key ≡ within w (last_at h key)
last_within at h w key r l = by (last_at h key) refl
  where
    by : (o : Option Change) → last_at h key ≡ o → last_at (stretch w.above w.last h) key ≡ within w o
    by None e = none_there at h w key r (not_there h w key e)
    by (Some d) e = test (nat_lt w.above d.seq) refl
      where
        test : (b : Bool) → nat_lt w.above d.seq ≡ b → last_at (stretch w.above w.last h) key ≡ (if nat_lt w.above d.seq then Some d else None)
        test true q =
            let i = last_in (touches (Slot.Pending key)) h d e in
            let m = (rises_in 0 at h d r i.0).1 in
            let a = below_of w.above d.seq q in
            last_filtered (touches (Slot.Pending key)) (λ x. nat_lt w.above x.seq && nat_le x.seq w.last) h d e (between_tested w.above w.last d.seq a (omega arith)) ∙ sym (ap (λ b. if b then Some d else None) q)
        test false q = none_there at h w key r (not_in h w key d e q) ∙ sym (ap (λ b. if b then Some d else None) q)

pub span_item : (at : ℕ) (h : List Change) (w : Span) (key : List ℕ) → Rises 0 at h → Rises w.above w.last (stretch w.above w.last h) → w.last ≡ at → Tidy w.origin (stretch w.above w.last h)
    → item_at key (live_in w h) ≡ within w (last_at h key)
span_item at h w key r q l t = live_item w.origin key w.above w.last (stretch w.above w.last h) q t ∙ last_within at h w key r l

-- which change fits

not_most : (m n : ℕ) → nat_lt n m ≡ not (nat_le m n)
not_most m n = by (nat_le m n) refl
  where
    by : (b : Bool) → nat_le m n ≡ b → nat_lt n m ≡ not (nat_le m n)
    by true e = let z : nat_lt n m ≡ false = grind (arith, nat_tests) in z ∙ sym (ap not e)
    by false e = let z : nat_lt n m ≡ true = grind (arith, nat_tests) in z ∙ sym (ap not e)

not_less : (m n : ℕ) → nat_le n m ≡ not (nat_lt m n)
not_less m n = by (nat_lt m n) refl
  where
    by : (b : Bool) → nat_lt m n ≡ b → nat_le n m ≡ not (nat_lt m n)
    by true e = let z : nat_le n m ≡ false = grind (arith, nat_tests) in z ∙ sym (ap not e)
    by false e = let z : nat_le n m ≡ true = grind (arith, nat_tests) in z ∙ sym (ap not e)

either : {X : Type 0} (a b p q : Bool) (x : X) → p ≡ not a → q ≡ not b → (if a || b then None else Some x) ≡ (if p && q then Some x else None)
either true b p q x e f = ap (λ t. if t && q then Some x else None) (sym e)
either false true p q x e f = ap (λ t. if t then Some x else None) (sym f) ∙ ap (λ t. if t && q then Some x else None) (sym e)
either false false p q x e f = ap (λ t. if t then Some x else None) (sym f) ∙ ap (λ t. if t && q then Some x else None) (sym e)

other_fits : (h : List Change) (w : Span) (c : Change) → with_other h w c ≡ (if fits_other (live_in w h) c then Some (span_to w c) else None)
other_fits h w c =
    either (nat_le MAX_ITEMS (live_count w h)) (nat_lt MAX_WEIGHT (live_weight w h + change_weight c)) (nat_lt (live_count w h) MAX_ITEMS) (nat_le (live_weight w h + change_weight c) MAX_WEIGHT) (span_to w c)
    (not_most MAX_ITEMS (live_count w h)) (not_less MAX_WEIGHT (live_weight w h + change_weight c))

three : {X : Type 0} (a b m p : Bool) (x : X) → p ≡ not m → (if a || b || m then None else Some x) ≡ (if not a && not b && p then Some x else None)
three true b m p x e = refl
three false true m p x e = refl
three false false true p x e = ap (λ t. if t then Some x else None) (sym e)
three false false false p x e = ap (λ t. if t then Some x else None) (sym e)

newer_fits : (h : List Change) (w : Span) (d c : Change) → with_newer h w d c ≡ (if fits_newer (live_in w h) d c then Some (span_to w c) else None)
newer_fits h w d c =
    three (is_durable d.act) (is_durable c.act) (nat_lt MAX_WEIGHT (live_weight w h + change_weight c - change_weight d)) (nat_le (live_weight w h + change_weight c - change_weight d) MAX_WEIGHT) (span_to w c)
    (not_less MAX_WEIGHT (live_weight w h + change_weight c - change_weight d))

own_fits : (h : List Change) (w : Span) (o : Option Change) (c : Change) → with_own h w o c ≡ (if fits_by true (live_in w h) (within w o) c then Some (span_to w c) else None)
own_fits h w None c = other_fits h w c
own_fits h w (Some d) c = by (nat_lt w.above d.seq)
  where
    by : (b : Bool) → (if b then with_newer h w d c else with_other h w c) ≡ (if fits_by true (live_in w h) (if b then Some d else None) c then Some (span_to w c) else None)
    by true = newer_fits h w d c
    by false = other_fits h w c

received_fits : (h : List Change) (w : Span) (o : Option Change) (c : Change) → with_received h w o c ≡ (if fits_by false (live_in w h) (within w o) c then Some (span_to w c) else None)
received_fits h w None c = other_fits h w c
received_fits h w (Some d) c = by (nat_lt w.above d.seq)
  where
    by : (b : Bool) → (if b then None else with_other h w c) ≡ (if fits_by false (live_in w h) (if b then Some d else None) c then Some (span_to w c) else None)
    by true = refl
    by false = other_fits h w c

-- the open span with a change of this origin, if there is one that takes it
abbrev pub joins : Origin → List Change → Option Span → Option Change → Change → Option Span
joins Own h current earlier c = own_joined h current earlier c
joins (Received ss se) h current earlier c = received_joined h current earlier c

pub joins_fits : (origin : Origin) (h : List Change) (w : Span) (o : Option Change) (c : Change) → item_at c.key (live_in w h) ≡ within w o
    → joins origin h (Some w) o c ≡ (if fits_in (is_own origin) (live_in w h) c then Some (span_to w c) else None)
joins_fits Own h w o c e = own_fits h w o c ∙ sym (ap (λ i. if fits_by true (live_in w h) i c then Some (span_to w c) else None) e)
joins_fits (Received ss se) h w o c e = received_fits h w o c ∙ sym (ap (λ i. if fits_by false (live_in w h) i c then Some (span_to w c) else None) e)
