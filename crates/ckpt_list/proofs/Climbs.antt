-- lists whose numbers rise, and where they are cut
use Rattle.std.proofs.Common.{◌≡◌, ℕ, zero, suc, ◌+◌, ◌<◌, ◌≤◌, Bool, true, false, cond, not, ◌&&◌, leb, ltb, List, [], ◌∷◌, length, get_or, take, drop, map, refl, ap, sym, ◌∙◌, subst, ⊎_elim, arith}
use Rattle.std.specs.Prelude.{Some, slice_get}
use Rattle.std.specs.List.{filter, find, All}
use Rattle.std.proofs.lemmas.List.Elements.{All-get_or}
use Rattle.std.specs.List.Sorted.{IsNonDecreasingBy, IsPartitionPoint}
use Rattle.std.proofs.lemmas.Bool.{leb-true, leb-false, lt-ltb, le-ltb, cond-true, cond-false, cases_Bool, and_right}
use Rattle.std.proofs.Math.Seq.{take-length}
use Rattle.vb_types.specs.declared.change.Change.{Change}
use Rattle.vb_types.specs.Histories.{Rises}
use Rattle.vb_calls.specs.declared.span.Span.{Span}
use Rattle.vb_calls.specs.declared.span.Origin.{Origin}
use Rattle.vb_calls.specs.declared.span.Origin.TheVariants.{Own, Received}
use Rattle.vb_calls.specs.Spans.{starts_below}
use Rattle.ckpt_list.specs.Sound.{Follow}

-- the numbers rise above `low`
abbrev pub Climbs : {X : Type 0} → (X → ℕ) → ℕ → List X → Type 0
Climbs n low [] = Unit {0}
Climbs n low (x ∷ xs) = (low < n x) × Climbs n (n x) xs

pub climbs_lower : {X : Type 0} (n : X → ℕ) (a b : ℕ) (xs : List X) → a ≤ b → Climbs n b xs → Climbs n a xs
climbs_lower n a b [] l c = tt
climbs_lower n a b (x ∷ xs) l c = (let k : b < n x = c.0 in omega arith, c.1)

pub climbs_at : {X : Type 0} (n : X → ℕ) (low : ℕ) (xs : List X) → Climbs n low xs → (i : ℕ) (d : X) → i < length xs → low < n (get_or xs i d)
climbs_at n low [] c i d l = absurd (omega arith)
climbs_at n low (x ∷ xs) c zero d l = c.0
climbs_at n low (x ∷ xs) c (suc i) d l = let a : low < n x = c.0 in let b : n x < n (get_or xs i d) = climbs_at n (n x) xs c.1 i d (omega arith) in omega arith

pub climbs_sorted : {X : Type 0} (n : X → ℕ) (low : ℕ) (xs : List X) → Climbs n low xs → IsNonDecreasingBy n xs
climbs_sorted n low [] c i j d l m = absurd (omega arith)
climbs_sorted n low (x ∷ xs) c zero zero d l m = omega arith
climbs_sorted n low (x ∷ xs) c zero (suc j) d l m = let b : n x < n (get_or xs j d) = climbs_at n (n x) xs c.1 j d (omega arith) in omega arith
climbs_sorted n low (x ∷ xs) c (suc i) zero d l m = absurd (omega arith)
climbs_sorted n low (x ∷ xs) c (suc i) (suc j) d l m = climbs_sorted n (n x) xs c.1 i j d (omega arith) (omega arith)

pub climbs_map : {X : Type 0} (n : X → ℕ) (low : ℕ) (xs : List X) → Climbs n low xs → Climbs (λ e. e) low (map n xs)
climbs_map n low [] c = tt
climbs_map n low (x ∷ xs) c = (c.0, climbs_map n (n x) xs c.1)

pub climbs_filter : {X : Type 0} (n : X → ℕ) (p : X → Bool) (low : ℕ) (xs : List X) → Climbs n low xs → Climbs n low (filter p xs)
climbs_filter n p low [] c = tt
climbs_filter n p low (x ∷ xs) c = ⊎_elim
    (λ t. subst (λ b. Climbs n low (cond b (x ∷ filter p xs) (filter p xs))) (sym t) (c.0, climbs_filter n p (n x) xs c.1))
    (λ f. subst (λ b. Climbs n low (cond b (x ∷ filter p xs) (filter p xs))) (sym f) (climbs_lower n low (n x) (filter p xs) (let k : low < n x = c.0 in omega arith) (climbs_filter n p (n x) xs c.1)))
    (cases_Bool (p x))

pub climbs_rises : (low high : ℕ) (cs : List Change) → Rises low high cs → Climbs (λ (c : Change). c.seq) low cs
climbs_rises low high [] r = tt
climbs_rises low high (c ∷ cs) r = (r.0, climbs_rises c.seq high cs r.1)

pub climbs_follow : (low high : ℕ) (ws : List Span) → Follow low ws high → Climbs (λ (w : Span). w.last) low ws
climbs_follow low high [] f = tt
climbs_follow low high (w ∷ ws) f = (f.1, climbs_follow w.last high ws f.2)

-- where a test of numbers cuts a list

not_not : (b : Bool) → not (not b) ≡ b
not_not true = refl
not_not false = refl

pub at_most : (t n : ℕ) → ltb t n ≡ not (leb n t)
at_most t n = ⊎_elim (λ y. le-ltb t n (leb-true n t y) ∙ sym (ap not y)) (λ f. lt-ltb t n (leb-false n t f) ∙ sym (ap not f)) (cases_Bool (leb n t))

pub none_kept : {X : Type 0} (p : X → Bool) (xs : List X) → ((i : ℕ) (d : X) → i < length xs → p (get_or xs i d) ≡ false) → filter p xs ≡ []
none_kept p [] h = refl
none_kept p (x ∷ xs) h = cond-false (p x) _ _ (h 0 x (omega arith)) ∙ none_kept p xs (λ i d l. h (suc i) d (omega arith))

pub all_kept : {X : Type 0} (p : X → Bool) (xs : List X) → ((i : ℕ) (d : X) → i < length xs → p (get_or xs i d) ≡ true) → filter p xs ≡ xs
all_kept p [] h = refl
all_kept p (x ∷ xs) h = cond-true (p x) _ _ (h 0 x (omega arith)) ∙ ap (λ l. x ∷ l) (all_kept p xs (λ i d l. h (suc i) d (omega arith)))

pub cut : {X : Type 0} (p q : X → Bool) (other : (x : X) → q x ≡ not (p x)) (xs : List X) (k : ℕ) → IsPartitionPoint (λ y. p y ≡ true) (λ y. p y ≡ false) xs k
    → (take k xs ≡ filter p xs) × (drop k xs ≡ filter q xs) × (slice_get xs k ≡ find q xs)
cut {X} p q other [] zero h = (refl, refl, refl)
cut {X} p q other [] (suc k) h = (refl, refl, refl)
cut {X} p q other (x ∷ xs) zero h =
    let no : (i : ℕ) (d : X) → i < length (x ∷ xs) → p (get_or (x ∷ xs) i d) ≡ false = λ i d l. h.1 i d (omega arith) l in
    let yes : (i : ℕ) (d : X) → i < length (x ∷ xs) → q (get_or (x ∷ xs) i d) ≡ true = λ i d l. other _ ∙ ap not (no i d l) in
    (sym (none_kept p (x ∷ xs) no), sym (all_kept q (x ∷ xs) yes), sym (cond-true (q x) _ _ (yes 0 x (omega arith))))
cut {X} p q other (x ∷ xs) (suc k) h =
    let here : p x ≡ true = h.0 0 x (omega arith) (omega arith) in
    let not_here : q x ≡ false = other x ∙ ap not here in
    let rest = cut p q other xs k ((λ i d l m. h.0 (suc i) d (omega arith) (omega arith)), (λ i d l m. h.1 (suc i) d (omega arith) (omega arith))) in
    (ap (λ l. x ∷ l) rest.0 ∙ sym (cond-true (p x) _ _ here), rest.1 ∙ sym (cond-false (q x) _ _ not_here), rest.2 ∙ sym (cond-false (q x) _ _ not_here))

-- the same at numbers, by what `partition_point` ensures
pub cut_at : {X : Type 0} (n : X → ℕ) (t : ℕ) (xs : List X) (k : ℕ) → IsPartitionPoint (λ y. leb (n y) t ≡ true) (λ y. leb (n y) t ≡ false) xs k
    → (take k xs ≡ filter (λ y. leb (n y) t) xs) × (drop k xs ≡ filter (λ y. ltb t (n y)) xs) × (slice_get xs k ≡ find (λ y. ltb t (n y)) xs)
cut_at n t xs k h = cut (λ y. leb (n y) t) (λ y. ltb t (n y)) (λ y. at_most t (n y)) xs k h

pub filter_both : {X : Type 0} (p q : X → Bool) (xs : List X) → filter q (filter p xs) ≡ filter (λ x. p x && q x) xs
filter_both p q [] = refl
filter_both p q (x ∷ xs) = ⊎_elim
    (λ t. subst (λ b. filter q (cond b (x ∷ filter p xs) (filter p xs)) ≡ cond (b && q x) (x ∷ filter (λ y. p y && q y) xs) (filter (λ y. p y && q y) xs)) (sym t) (ap (λ l. cond (q x) (x ∷ l) l) (filter_both p q xs)))
    (λ f. subst (λ b. filter q (cond b (x ∷ filter p xs) (filter p xs)) ≡ cond (b && q x) (x ∷ filter (λ y. p y && q y) xs) (filter (λ y. p y && q y) xs)) (sym f) (filter_both p q xs))
    (cases_Bool (p x))

pub find_filter : {X : Type 0} (p q : X → Bool) (xs : List X) → find q (filter p xs) ≡ find (λ x. p x && q x) xs
find_filter p q [] = refl
find_filter p q (x ∷ xs) = ⊎_elim
    (λ t. subst (λ b. find q (cond b (x ∷ filter p xs) (filter p xs)) ≡ cond (b && q x) (Some x) (find (λ y. p y && q y) xs)) (sym t) (ap (λ o. cond (q x) (Some x) o) (find_filter p q xs)))
    (λ f. subst (λ b. find q (cond b (x ∷ filter p xs) (filter p xs)) ≡ cond (b && q x) (Some x) (find (λ y. p y && q y) xs)) (sym f) (find_filter p q xs))
    (cases_Bool (p x))

pub filter_alike : {X : Type 0} (p q : X → Bool) (xs : List X) → ((i : ℕ) (d : X) → i < length xs → p (get_or xs i d) ≡ q (get_or xs i d)) → filter p xs ≡ filter q xs
filter_alike p q [] h = refl
filter_alike p q (x ∷ xs) h = ap (λ b. cond b (x ∷ filter p xs) (filter p xs)) (h 0 x (omega arith)) ∙ ap (λ l. cond (q x) (x ∷ l) l) (filter_alike p q xs (λ i d l. h (suc i) d (omega arith)))

-- which whole ends a span leaves

pub kept_own : (last : ℕ) (o : Origin) (ends : List ℕ) → o ≡ Own → take (length ends) ends ≡ filter (λ e. not (ltb e last && starts_below e o)) ends
kept_own last o ends own = take-length ends ∙ sym (all_kept (λ e. not (ltb e last && starts_below e o)) ends (λ i d l. ap not (and_right (ltb (get_or ends i d) last) _ (ap (starts_below (get_or ends i d)) own))))

pub kept_received : (last ss se : ℕ) (o : Origin) (ends : List ℕ) (k : ℕ) → o ≡ Received ss se → All (λ e. e < last) ends → IsPartitionPoint (λ e. leb e ss ≡ true) (λ e. leb e ss ≡ false) ends k
    → take k ends ≡ filter (λ e. not (ltb e last && starts_below e o)) ends
kept_received last ss se o ends k received below point =
    (cut_at (λ e. e) ss ends k point).0
    ∙ filter_alike (λ e. leb e ss) (λ e. not (ltb e last && starts_below e o)) ends
    (λ i d l. let e : ℕ = get_or ends i d in
    let low : e < last = All-get_or (λ e. e < last) ends i d l below in
    sym (not_not (leb e ss)) ∙ ap not (sym (at_most ss e) ∙ sym (ap (starts_below e) received) ∙ sym (ap (λ b. b && starts_below e o) (lt-ltb e last low))))

-- no more changes than numbers
pub rises_count : (low high : ℕ) (xs : List Change) → Rises low high xs → low + length xs ≤ high
rises_count low high [] r = let l : low ≤ high = r in omega arith
rises_count low high (x ∷ xs) r = let l : low < x.seq = r.0 in let m = rises_count x.seq high xs r.1 in omega arith
