-- whose a key is, and what the writes of all clients have at a key
use Rattle.std.proofs.Common.{◌≡◌, ◌≢◌, ℕ, zero, suc, ◌+◌, ◌/◌, ◌%◌, ◌^◌, ◌<◌, ◌≤◌, ◌⊎◌, Bool, true, false, cond, List, [], ◌∷◌, ◌++◌, map, drop, length, refl, ap, sym, ◌∙◌, subst, inl, inr, append-nil, arith}
use Rattle.std.specs.Prelude.{◌==◌, if◌then◌else◌, decimal}
use Rattle.std.specs.List.{filter, flat_map, range_with_len, AllByRecursion}
use Rattle.std.specs.Fmt.{digits, digits_onto, digit_glyph}
use Rattle.std.specs.Str.{bytes_eq}
use Rattle.std.proofs.lemmas.Bool.{false_from_ne_true}
use Rattle.std.proofs.lemmas.Fmt.{decimal_injective}
use Rattle.std.proofs.lemmas.List.Elements.{filter-append}
use Rattle.std.proofs.lemmas.Map.Text.{is_eq-slice_cmp}
use Rattle.std.proofs.lemmas.Slice.Eq.{bytes_eq-Decides}
use mathlib.Core.Logic.{dite}
use native.Mathlib.Decide.{ℕ_discrete}
use Rattle.vb_types.specs.declared.write.Write.{Write}
use Rattle.storm_model.specs.declared.writes.Aimed.{Aimed}
use Rattle.storm_model.specs.Ledgers.{is_at}
use Rattle.storm_model.specs.Writes.{aimed, all_writes, client_key, client_name, word_at, writes_of}
use Rattle.storm_model.specs.Histories.{HasOwner, IsPut, is_by, owner, put_in}

-- ---- the owner of a client's key

glyph_other : (d : ℕ) → (digit_glyph false (d % 10) == 107) ≡ false
glyph_other d = grind (arith)

owner_by : (t : Bool) (d : ℕ) (more longer rest : List ℕ) → owner (d ∷ more ++ 107 ∷ rest) ≡ d ∷ more → owner (longer ++ 107 ∷ rest) ≡ longer
    → owner ((if t then d ∷ more else longer) ++ 107 ∷ rest) ≡ (if t then d ∷ more else longer)
owner_by true d more longer rest h k = h
owner_by false d more longer rest h k = k

owner_digits : (k n : ℕ) (more rest : List ℕ) → owner (more ++ 107 ∷ rest) ≡ more → owner (digits_onto k 10 false n more ++ 107 ∷ rest) ≡ digits_onto k 10 false n more
owner_digits zero n more rest h = h
owner_digits (suc k) n more rest h =
    let d = digit_glyph false (n % 10) in
    let one : owner (d ∷ more ++ 107 ∷ rest) ≡ d ∷ more = ap (λ t. if t then [] else d ∷ owner (more ++ 107 ∷ rest)) (glyph_other n) ∙ ap (λ t. d ∷ t) h in
    owner_by (n / 10 == 0) d more (digits_onto k 10 false (n / 10) (d ∷ more)) rest one (owner_digits k (n / 10) (d ∷ more) rest one)

pub owner_key : (c n : ℕ) → owner (client_key c n) ≡ client_name c
unfolding digits
owner_key c n = ap (λ t. 99 ∷ t) (owner_digits 64 c [] (decimal n) refl)

-- ---- tests

same_bytes : (a b : List ℕ) → bytes_eq a b ≡ true → a ≡ b
same_bytes a b e = (bytes_eq-Decides a b).0 e

eq_bytes : (a b : List ℕ) → a ≡ b → bytes_eq a b ≡ true
eq_bytes a b e = (bytes_eq-Decides a b).1 e

no : {A : Type 0} → false ≡ true → A
no e = absurd (cc e)

other_decimal : (c d : ℕ) → c < 2 ^ 64 → d < 2 ^ 64 → d ≢ c → bytes_eq (client_name d) (client_name c) ≡ false
other_decimal c d small low ne = false_from_ne_true _ (λ e. ne (decimal_injective d c low small (ap (drop 1) (same_bytes (client_name d) (client_name c) e))))

-- these writes have this client's keys
abbrev pub AreBy : ℕ → List Write → Type 0
AreBy c ws = AllByRecursion (λ w. owner w.key ≡ client_name c) ws

pub by_own : (c : ℕ) (ws : List Write) → AreBy c ws → filter (is_by c) ws ≡ ws
by_own c [] a = refl
by_own c (w ∷ ws) a = ap (λ b. cond b (w ∷ filter (is_by c) ws) (filter (is_by c) ws)) (eq_bytes (owner w.key) (client_name c) a.0) ∙ ap (λ t. w ∷ t) (by_own c ws a.1)

by_other : (c d : ℕ) (ws : List Write) → c < 2 ^ 64 → d < 2 ^ 64 → d ≢ c → AreBy d ws → filter (is_by c) ws ≡ []
by_other c d [] small low ne a = refl
by_other c d (w ∷ ws) small low ne a =
    ap (λ b. cond b (w ∷ filter (is_by c) ws) (filter (is_by c) ws)) (ap (λ o. bytes_eq o (client_name c)) a.0 ∙ other_decimal c d small low ne) ∙ by_other c d ws small low ne a.1

-- ---- all clients, one after the other

module _ (W : ℕ → List Write) (own : (c : ℕ) → AreBy c (W c)) where
  turns_before : (from n c : ℕ) → from + n ≤ 2 ^ 64 → c < from → filter (is_by c) (flat_map W (range_with_len from n)) ≡ []
  turns_before from zero c l b = refl
  turns_before from (suc n) c l b = filter-append (is_by c) (W from) (flat_map W (range_with_len (from + 1) n))
      ∙ (λ i. by_other c from (W from) (omega arith) (omega arith) (omega arith) (own from) i ++ turns_before (from + 1) n c (omega arith) (omega arith) i)

  pub turns_at : (from n c : ℕ) → from + n ≤ 2 ^ 64 → from ≤ c → c < from + n → filter (is_by c) (flat_map W (range_with_len from n)) ≡ W c
  turns_at from zero c l b e = absurd (omega arith)
  turns_at from (suc n) c l b e = filter-append (is_by c) (W from) (flat_map W (range_with_len (from + 1) n)) ∙ dite (ℕ_discrete from c)
      (λ here. subst (λ (k : ℕ). filter (is_by k) (W from) ++ filter (is_by k) (flat_map W (range_with_len (from + 1) n)) ≡ W k) here
      ((λ i. by_own from (W from) (own from) i ++ turns_before (from + 1) n from (omega arith) (omega arith) i) ∙ append-nil (W from)))
      (λ other. (λ i. by_other c from (W from) (omega arith) (omega arith) other (own from) i ++ turns_at (from + 1) n c (omega arith) (omega (arith, other)) (omega arith) i))

pub all_both : {X : Type 0} (P : X → Type 0) (xs ys : List X) → AllByRecursion P xs → AllByRecursion P ys → AllByRecursion P (xs ++ ys)
all_both P [] ys a b = b
all_both P (x ∷ xs) ys a b = (a.0, all_both P xs ys a.1 b)

owned_by : (clients c : ℕ) (ws : List Write) → c < clients → AreBy c ws → AllByRecursion (HasOwner clients) ws
owned_by clients c [] l a = tt
owned_by clients c (w ∷ ws) l a = ((c, l, eq_bytes (owner w.key) (client_name c) a.0), owned_by clients c ws l a.1)

pub turns_owned : (W : ℕ → List Write) (own : (c : ℕ) → AreBy c (W c)) (clients from n : ℕ) → from + n ≤ clients → AllByRecursion (HasOwner clients) (flat_map W (range_with_len from n))
turns_owned W own clients from zero l = tt
turns_owned W own clients from (suc n) l = all_both (HasOwner clients) (W from) (flat_map W (range_with_len (from + 1) n))
    (owned_by clients from (W from) (omega arith) (own from)) (turns_owned W own clients (from + 1) n (omega arith))

-- ---- the writes of a key

at_own : (q : List ℕ) (c : ℕ) (w : Write) → bytes_eq (owner q) (client_name c) ≡ true → is_at q (put_in w) ≡ true → is_by c w ≡ true
at_own q c w mine at = ap (λ k. bytes_eq (owner k) (client_name c)) (sym (same_bytes q w.key (sym (is_eq-slice_cmp q w.key) ∙ at))) ∙ mine

kept_by : (q : List ℕ) (c : ℕ) (w : Write) (ws : List Write) (a b : Bool) → is_at q (put_in w) ≡ a → is_by c w ≡ b → bytes_eq (owner q) (client_name c) ≡ true
    → filter (is_at q) (map put_in ws) ≡ filter (is_at q) (map put_in (filter (is_by c) ws))
    → cond a (put_in w ∷ filter (is_at q) (map put_in ws)) (filter (is_at q) (map put_in ws)) ≡ filter (is_at q) (map put_in (cond b (w ∷ filter (is_by c) ws) (filter (is_by c) ws)))
kept_by q c w ws true true at mine own more =
    sym (ap (λ t. cond t (put_in w ∷ filter (is_at q) (map put_in (filter (is_by c) ws))) (filter (is_at q) (map put_in (filter (is_by c) ws)))) at ∙ ap (λ t. put_in w ∷ t) (sym more))
kept_by q c w ws true false at mine own more = no (sym mine ∙ at_own q c w own at)
kept_by q c w ws false true at mine own more =
    more ∙ sym (ap (λ t. cond t (put_in w ∷ filter (is_at q) (map put_in (filter (is_by c) ws))) (filter (is_at q) (map put_in (filter (is_by c) ws)))) at)
kept_by q c w ws false false at mine own more = more

-- those of a client's key are that client's
at_client : (q : List ℕ) (c : ℕ) (ws : List Write) → bytes_eq (owner q) (client_name c) ≡ true → filter (is_at q) (map put_in ws) ≡ filter (is_at q) (map put_in (filter (is_by c) ws))
at_client q c [] own = refl
at_client q c (w ∷ ws) own = kept_by q c w ws (is_at q (put_in w)) (is_by c w) refl refl own (at_client q c ws own)

abbrev Strange : List ℕ → ℕ → Type 0
Strange q n = (c : ℕ) → c < n → bytes_eq (owner q) (client_name c) ≡ false

none_here : (q : List ℕ) (w : Write) (ws : List (List ℕ × List ℕ)) (b : Bool) → is_at q (put_in w) ≡ b → (is_at q (put_in w) ≡ true → ⊥) → ws ≡ [] → cond b (put_in w ∷ ws) ws ≡ []
none_here q w ws true at not e = absurd (not at)
none_here q w ws false at not e = e

none_at : (q : List ℕ) (n : ℕ) (ws : List Write) → AllByRecursion (HasOwner n) ws → Strange q n → filter (is_at q) (map put_in ws) ≡ []
none_at q n [] a s = refl
none_at q n (w ∷ ws) a s = none_here q w (filter (is_at q) (map put_in ws)) (is_at q (put_in w)) refl
    (λ at. no (sym (s a.0.0 a.0.1) ∙ ap (λ k. bytes_eq (owner k) (client_name a.0.0)) (same_bytes q w.key (sym (is_eq-slice_cmp q w.key) ∙ at)) ∙ a.0.2))
    (none_at q n ws a.1 s)

-- what the writes of these clients have at a key
abbrev pub found : (ℕ → List Write) → List ℕ → ℕ → List (List ℕ × List ℕ)
found W q zero = []
found W q (suc n) = cond (bytes_eq (owner q) (client_name n)) (filter (is_at q) (map put_in (W n))) (found W q n)

module _ (W : ℕ → List Write) (q : List ℕ) (ws : List Write) (clients : ℕ) (order : (c : ℕ) → c < clients → filter (is_by c) ws ≡ W c) where
  abbrev Found : ℕ → Type 0
  Found n = (found W q n ≡ filter (is_at q) (map put_in ws)) ⊎ (Strange q n × (found W q n ≡ []))

  more_strange : (n : ℕ) → bytes_eq (owner q) (client_name n) ≡ false → Strange q n → Strange q (suc n)
  more_strange n e s c l = dite (ℕ_discrete c n) (λ here. subst (λ (k : ℕ). bytes_eq (owner q) (client_name k) ≡ false) (sym here) e) (λ other. s c (omega (arith, other)))

  found_by : (n : ℕ) (b : Bool) → bytes_eq (owner q) (client_name n) ≡ b → n < clients → Found n → Found (suc n)
  found_by n true e l f = inl (
      ap (λ t. cond t (filter (is_at q) (map put_in (W n))) (found W q n)) e
      ∙ ap (λ xs. filter (is_at q) (map put_in xs)) (sym (order n l)) ∙ sym (at_client q n ws e))
  found_by n false e l (inl f) = inl (ap (λ t. cond t (filter (is_at q) (map put_in (W n))) (found W q n)) e ∙ f)
  found_by n false e l (inr s) = inr (more_strange n e s.0, ap (λ t. cond t (filter (is_at q) (map put_in (W n))) (found W q n)) e ∙ s.1)

  found_to : (n : ℕ) → n ≤ clients → Found n
  found_to zero l = inr (λ c b. absurd (omega arith), refl)
  found_to (suc n) l = found_by n (bytes_eq (owner q) (client_name n)) refl (omega arith) (found_to n (omega arith))

  found_end : AllByRecursion (HasOwner clients) ws → Found clients → filter (is_at q) (map put_in ws) ≡ found W q clients
  found_end a (inl f) = sym f
  found_end a (inr s) = none_at q clients ws a s.0 ∙ sym s.1

  pub keyed : AllByRecursion (HasOwner clients) ws → filter (is_at q) (map put_in ws) ≡ found W q clients
  keyed a = found_end a (found_to clients (omega arith))

-- writes in which each client's stand in the client's order are the same at each key
pub same_at_keys : (W : ℕ → List Write) (clients : ℕ) (xs ys : List Write)
    → AllByRecursion (HasOwner clients) xs → ((c : ℕ) → c < clients → filter (is_by c) xs ≡ W c)
    → AllByRecursion (HasOwner clients) ys → ((c : ℕ) → c < clients → filter (is_by c) ys ≡ W c)
    → (q : List ℕ) → filter (is_at q) (map put_in xs) ≡ filter (is_at q) (map put_in ys)
same_at_keys W clients xs ys a f b g q = keyed W q xs clients f a ∙ sym (keyed W q ys clients g b)

-- ---- how many they are

abbrev total : (ℕ → List Write) → ℕ → ℕ
total W zero = 0
total W (suc n) = length (W n) + total W n

abbrev hits : ℕ → Write → ℕ
hits zero w = 0
hits (suc n) w = (if is_by n w then 1 else 0) + hits n w

hits_none : (n : ℕ) (w : Write) → ((c : ℕ) → c < n → is_by c w ≡ false) → hits n w ≡ 0
hits_none zero w s = refl
hits_none (suc n) w s =
    let here : ◌≡◌ {A = ℕ} (if is_by n w then 1 else 0) 0 = ap (λ b. if b then 1 else 0) (s n (omega arith)) in
    let more = hits_none n w (λ c l. s c (omega arith)) in
    omega (arith, here, more)

hits_one : (n c : ℕ) (w : Write) → n ≤ 2 ^ 64 → c < n → is_by c w ≡ true → hits n w ≡ 1
hits_one zero c w small l e = absurd (omega arith)
hits_one (suc n) c w small l e =
    let o : owner w.key ≡ client_name c = same_bytes (owner w.key) (client_name c) e in
    dite (ℕ_discrete n c)
    (λ here.
    let this : is_by n w ≡ true = ap (λ (k : ℕ). is_by k w) here ∙ e in
    let none : hits n w ≡ 0 = hits_none n w (λ d b. ap (λ k. bytes_eq k (client_name d)) o ∙ other_decimal d c (omega arith) (omega arith) (omega (arith, here))) in
    let one : ◌≡◌ {A = ℕ} (if is_by n w then 1 else 0) 1 = ap (λ b. if b then 1 else 0) this in
    omega (arith, one, none))
    (λ other.
    let that : is_by n w ≡ false = ap (λ k. bytes_eq k (client_name n)) o ∙ other_decimal n c (omega arith) (omega arith) (λ k. other (sym k)) in
    let zero_here : ◌≡◌ {A = ℕ} (if is_by n w then 1 else 0) 0 = ap (λ b. if b then 1 else 0) that in
    let more = hits_one n c w (omega arith) (omega (arith, other)) e in
    omega (arith, zero_here, more))

one_longer : (b : Bool) (w : Write) (ws : List Write) → length (cond b (w ∷ ws) ws) ≡ (if b then 1 else 0) + length ws
one_longer true w ws = omega arith
one_longer false w ws = omega arith

total_more : (n : ℕ) (w : Write) (ws : List Write) → total (λ c. filter (is_by c) (w ∷ ws)) n ≡ hits n w + total (λ c. filter (is_by c) ws) n
total_more zero w ws = omega arith
total_more (suc n) w ws = omega (arith, one_longer (is_by n w) w (filter (is_by n) ws), total_more n w ws)

total_none : (n : ℕ) → total (λ c. []) n ≡ 0
total_none zero = refl
total_none (suc n) = let more = total_none n in omega (arith, more)

counted : (n : ℕ) (ws : List Write) → n ≤ 2 ^ 64 → AllByRecursion (HasOwner n) ws → length ws ≡ total (λ c. filter (is_by c) ws) n
counted n [] small a = sym (total_none n)
counted n (w ∷ ws) small a = omega (arith, total_more n w ws, hits_one n a.0.0 w small a.0.1 a.0.2, counted n ws small a.1)

total_same : (W V : ℕ → List Write) (n : ℕ) → ((c : ℕ) → c < n → W c ≡ V c) → total W n ≡ total V n
total_same W V zero s = refl
total_same W V (suc n) s = (λ i. length (s n (let l : n < suc n = omega arith in l) i) + total_same W V n (λ c l. s c (omega arith)) i)

pub same_length : (W : ℕ → List Write) (clients : ℕ) (xs ys : List Write) → clients ≤ 2 ^ 64
    → AllByRecursion (HasOwner clients) xs → ((c : ℕ) → c < clients → filter (is_by c) xs ≡ W c)
    → AllByRecursion (HasOwner clients) ys → ((c : ℕ) → c < clients → filter (is_by c) ys ≡ W c)
    → length xs ≡ length ys
same_length W clients xs ys small a f b g =
    counted clients xs small a ∙ total_same (λ c. filter (is_by c) xs) W clients f
    ∙ sym (counted clients ys small b ∙ total_same (λ c. filter (is_by c) ys) W clients g)

-- ---- a client's writes

pub each_write : (P : Write → Type 0) (c : ℕ) (t : Aimed → Bool) (word : ℕ → ℕ) → ((x i : ℕ) → P (aimed c x i).write) → (is : List ℕ)
    → AllByRecursion P (map (λ a. a.write) (filter t (map (λ i. aimed c (word i) i) is)))
each_write P c t word p [] = tt
each_write P c t word p (i ∷ is) = by (t (aimed c (word i) i)) (each_write P c t word p is)
  where
    by : (b : Bool) → AllByRecursion P (map (λ a. a.write) (filter t (map (λ i. aimed c (word i) i) is))) → AllByRecursion P (map (λ a. a.write) (cond b (aimed c (word i) i ∷ filter t (map (λ i. aimed c (word i) i) is)) (filter t (map (λ i. aimed c (word i) i) is))))
    by true more = (p (word i) i, more)
    by false more = more

pub writes_put : (seed c writes v : ℕ) → AllByRecursion IsPut (writes_of seed c writes v)
unfolding all_writes
writes_put seed c writes v = each_write IsPut c (λ a. a.vb == v) (word_at seed c) (λ x i. refl) (range_with_len 1 writes)

pub writes_by : (seed c writes v : ℕ) → AreBy c (writes_of seed c writes v)
unfolding all_writes
writes_by seed c writes v = each_write (λ w. owner w.key ≡ client_name c) c (λ a. a.vb == v) (word_at seed c) (λ x i. owner_key c (x / 2 ^ 40 % 100)) (range_with_len 1 writes)

head_put : (P : Write → Type 0) (p : Write → Bool) (w : Write) (ws : List Write) → p w ≡ true → AllByRecursion P (filter p (w ∷ ws)) → P w
head_put P p w ws e a = let b : AllByRecursion P (w ∷ filter p ws) = subst (λ t. AllByRecursion P (cond t (w ∷ filter p ws) (filter p ws))) e a in b.0

tail_put : (P : Write → Type 0) (p : Write → Bool) (w : Write) (ws : List Write) (b : Bool) → AllByRecursion P (cond b (w ∷ filter p ws) (filter p ws)) → AllByRecursion P (filter p ws)
tail_put P p w ws true a = a.1
tail_put P p w ws false a = a

-- what holds of the writes of each client holds of all
pub all_owned : (P : Write → Type 0) (clients : ℕ) (ws : List Write) → AllByRecursion (HasOwner clients) ws → ((c : ℕ) → c < clients → AllByRecursion P (filter (is_by c) ws)) → AllByRecursion P ws
all_owned P clients [] a f = tt
all_owned P clients (w ∷ ws) a f = (head_put P (is_by a.0.0) w ws a.0.2 (f a.0.0 a.0.1), all_owned P clients ws a.1 (λ c l. tail_put P (is_by c) w ws (is_by c w) (f c l)))
