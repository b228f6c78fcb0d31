-- what the four lines add up to
use Rattle.std.proofs.Common.{◌≡◌, ℕ, zero, suc, ◌+◌, ◌*◌, ◌/◌, ◌%◌, ◌^◌, ◌<◌, ◌≤◌, ◌==◌, ◌||◌, Bool, true, false, cond, is_some, List, [], ◌∷◌, ◌++◌, map, drop, length, Some, refl, ap, sym, ◌∙◌, subst, length-append, arith}
use Rattle.std.proofs.lemmas.List.{length-map}
use Rattle.std.specs.Prelude.{Option, decimal}
use Rattle.std.specs.List.{filter, flat_map, fold, list_any, range_with_len, AllByRecursion}
use Rattle.std.specs.FinMap as finite
use Rattle.std.specs.FinMap.{entries, get-entries}
use Rattle.std.specs.FinMap.Entries.{is_some-find}
use Rattle.std.specs.Ordering.{eq_by_cmp}
use Rattle.std.specs.Set.{is_member}
use Rattle.std.specs.Str.{bytes_eq}
use Rattle.std.specs.Cmp.{eq_by_cmp_equiv}
use Rattle.std.specs.Cmp.Lexicographic.{nat_list_cmp_total}
use Rattle.std.proofs.lemmas.Fmt.{decimal_injective}
use Rattle.std.proofs.lemmas.List.FromFn.{length-map-range_with_len}
use Rattle.std.proofs.lemmas.Map.Made.{length-le_from_is_member, IsDistinct-keys_filter}
use Rattle.std.proofs.lemmas.Map.Text.{is_eq-slice_cmp}
use Rattle.std.proofs.lemmas.Slice.Eq.{bytes_eq-Decides}
use mathlib.Core.Logic.{dite}
use native.Mathlib.Decide.{ℕ_discrete}
use Rattle.vb_types.specs.Keys.{key_cmp}
use Rattle.vb_types.specs.declared.write.Write.{Write}
use Rattle.vb_calls.specs.State.{image_in}
use Rattle.storm_model.specs.Histories.{owner, put_in}
use Rattle.storm_model.specs.Ledgers.{is_at, ledger, with_write}
use Rattle.storm_model.specs.Limits.{is_storm}
use Rattle.storm_model.specs.Sums.{contents, in_turn, storm_vb}
use Rattle.storm_model.specs.Writes.{all_writes, client_key, client_name, word_at, writes_of}
use Rattle.storm_model.specs.Laws.{LinesAddUp, docs_by}
use Rattle.storm_model.proofs.Agreeing.{in_limits, turn_calm, turn_shown}
use Rattle.storm_model.proofs.Owners.{each_write, owner_key, all_both}
use Rattle.storm_model.proofs.Shown.{contents_sorted, keys_apart}
use Rattle.storm_model.proofs.Sizes.{turns_add_up}

abbrev key_eq : List ℕ → List ℕ → Bool
key_eq = eq_by_cmp key_cmp

same_key : (a b : List ℕ) → key_eq a b ≡ true → a ≡ b
same_key a b e = (bytes_eq-Decides a b).0 (sym (is_eq-slice_cmp a b) ∙ e)

tied_key : (a b : List ℕ) → a ≡ b → key_eq a b ≡ true
tied_key a b e = is_eq-slice_cmp a b ∙ (bytes_eq-Decides a b).1 e

no : {A : Type 0} → false ≡ true → A
no e = absurd (cc e)

-- ---- a key that a ledger has was written

stays_by : (b : Bool) (v : List ℕ) (o : Option (List ℕ)) → b ≡ false → cond b (Some v) o ≡ o
stays_by true v o e = no (sym e)
stays_by false v o e = refl

front_false : (a b : Bool) → (a || b) ≡ false → a ≡ false
front_false true b e = e
front_false false b e = refl

rest_false : (a b : Bool) → (a || b) ≡ false → b ≡ false
rest_false true b e = no (sym e)
rest_false false b e = e

unwritten : (es : List (List ℕ × List ℕ)) (m : finite.FinMap key_cmp (List ℕ)) (q : List ℕ) → list_any (is_at q) es ≡ false → finite.get (fold with_write m es) q ≡ finite.get m q
unwritten [] m q e = refl
unwritten (w ∷ es) m q e =
    unwritten es (with_write m w) q (rest_false (is_at q w) (list_any (is_at q) es) e)
    ∙ finite.get-insert nat_list_cmp_total m w.0 w.1 q
    ∙ stays_by (key_eq q w.0) w.1 (finite.get m q) (front_false (is_at q w) (list_any (is_at q) es) e)

written_by : (es : List (List ℕ × List ℕ)) (q : List ℕ) (b : Bool) → list_any (is_at q) es ≡ b → is_some (finite.get (ledger es) q) ≡ true → b ≡ true
written_by es q true e is = refl
written_by es q false e is = no (sym (ap is_some (unwritten es finite.empty q e ∙ finite.get-empty key_cmp q)) ∙ is)

written : (es : List (List ℕ × List ℕ)) (q : List ℕ) → is_some (finite.get (ledger es) q) ≡ true → list_any (is_at q) es ≡ true
written es q is = written_by es q (list_any (is_at q) es) refl is

-- ---- keys of clients

-- the write has one of the 100 keys of one of the clients
abbrev pub HasKey : ℕ → Write → Type 0
HasKey clients w = (c : ℕ) × (n : ℕ) × (c < clients) × (n < 100) × (w.key ≡ client_key c n)

writes_have : (seed clients c writes v : ℕ) → c < clients → AllByRecursion (HasKey clients) (writes_of seed c writes v)
unfolding all_writes
writes_have seed clients c writes v l = each_write (HasKey clients) c (λ a. a.vb == v) (word_at seed c) (λ x i. (c, x / 2 ^ 40 % 100, l, omega arith, refl)) (range_with_len 1 writes)

turns_have : (seed clients writes v from n : ℕ) → from + n ≤ clients → AllByRecursion (HasKey clients) (flat_map (λ c. writes_of seed c writes v) (range_with_len from n))
turns_have seed clients writes v from zero l = tt
turns_have seed clients writes v from (suc n) l = all_both (HasKey clients) (writes_of seed from writes v) (flat_map (λ c. writes_of seed c writes v) (range_with_len (from + 1) n))
    (writes_have seed clients from writes v (omega arith)) (turns_have seed clients writes v (from + 1) n (omega arith))

-- a key of a client
abbrev IsKeyOf : ℕ → List ℕ → Type 0
IsKeyOf clients q = (c : ℕ) × (n : ℕ) × (c < clients) × (n < 100) × (q ≡ client_key c n)

key_by : (clients : ℕ) (w : Write) (ws : List Write) (q : List ℕ) (b : Bool) → is_at q (put_in w) ≡ b → HasKey clients w → (b || list_any (is_at q) (map put_in ws)) ≡ true
    → (list_any (is_at q) (map put_in ws) ≡ true → IsKeyOf clients q) → IsKeyOf clients q
key_by clients w ws q true at k e more = (k.0, k.1, k.2, k.3, same_key q w.key at ∙ k.4)
key_by clients w ws q false at k e more = more e

key_of_any : (clients : ℕ) (ws : List Write) (q : List ℕ) → AllByRecursion (HasKey clients) ws → list_any (is_at q) (map put_in ws) ≡ true → IsKeyOf clients q
key_of_any clients [] q a e = no e
key_of_any clients (w ∷ ws) q a e = key_by clients w ws q (is_at q (put_in w)) refl a.0 e (key_of_any clients ws q a.1)

-- the 100 keys of a client
abbrev keys_of_client : ℕ → List (List ℕ)
keys_of_client c = map (client_key c) (range_with_len 0 100)

any_true : (b : Bool) → (b || true) ≡ true
any_true true = refl
any_true false = refl

member_from : (c from m n : ℕ) → from ≤ n → n < from + m → is_member key_eq (map (client_key c) (range_with_len from m)) (client_key c n) ≡ true
member_from c from zero n l h = absurd (omega arith)
member_from c from (suc m) n l h = dite (ℕ_discrete from n)
    (λ here. ap (λ b. (b || is_member key_eq (map (client_key c) (range_with_len (from + 1) m)) (client_key c n))) (tied_key (client_key c n) (client_key c from) (ap (client_key c) (sym here))))
    (λ other. ap (λ b. (key_eq (client_key c n) (client_key c from) || b)) (member_from c (from + 1) m n (omega (arith, other)) (omega arith)) ∙ any_true (key_eq (client_key c n) (client_key c from)))

member_append : (xs ys : List (List ℕ)) (q : List ℕ) → is_member key_eq ys q ≡ true → is_member key_eq (xs ++ ys) q ≡ true
member_append [] ys q e = e
member_append (x ∷ xs) ys q e = ap (λ b. (key_eq q x || b)) (member_append xs ys q e) ∙ any_true (key_eq q x)

member_front : (xs ys : List (List ℕ)) (q : List ℕ) → is_member key_eq xs q ≡ true → is_member key_eq (xs ++ ys) q ≡ true
member_front [] ys q e = no e
member_front (x ∷ xs) ys q e = by (key_eq q x) e (member_front xs ys q)
  where
    by : (b : Bool) → (b || is_member key_eq xs q) ≡ true → (is_member key_eq xs q ≡ true → is_member key_eq (xs ++ ys) q ≡ true) → (b || is_member key_eq (xs ++ ys) q) ≡ true
    by true h more = refl
    by false h more = more h

-- the keys of all clients
abbrev keys_of_clients : ℕ → ℕ → List (List ℕ)
keys_of_clients from m = flat_map keys_of_client (range_with_len from m)

member_of_all : (from m c n : ℕ) → from ≤ c → c < from + m → n < 100 → is_member key_eq (keys_of_clients from m) (client_key c n) ≡ true
member_of_all from zero c n l h k = absurd (omega arith)
member_of_all from (suc m) c n l h k = dite (ℕ_discrete from c)
    (λ here. member_front (keys_of_client from) (keys_of_clients (from + 1) m) (client_key c n)
    (subst (λ (d : ℕ). is_member key_eq (keys_of_client d) (client_key c n) ≡ true) (sym here) (member_from c 0 100 n (omega arith) (omega arith))))
    (λ other. member_append (keys_of_client from) (keys_of_clients (from + 1) m) (client_key c n) (member_of_all (from + 1) m c n (omega (arith, other)) (omega arith) k))

all_keys_long : (from m : ℕ) → length (keys_of_clients from m) ≡ 100 * m
all_keys_long from zero = omega arith
all_keys_long from (suc m) =
    let one = length-append (keys_of_client from) (keys_of_clients (from + 1) m) in
    let here = length-map-range_with_len (client_key from) 0 100 in
    omega (arith, one, here, all_keys_long (from + 1) m)

-- ---- the documents

abbrev keys : List (List ℕ × List ℕ) → List (List ℕ)
keys es = map (λ e. e.0) es

length_of_keys : (es : List (List ℕ × List ℕ)) → length (keys es) ≡ length es
length_of_keys es = length-map es (λ e. e.0)

-- what a filter by keys has
pub record Kept (test : List ℕ → Bool) (es : List (List ℕ × List ℕ)) (q : List ℕ) : Type 0 where
  pub passes : test q ≡ true
  pub there : is_member key_eq (keys es) q ≡ true

kept_more : (test : List ℕ → Bool) (e : List ℕ × List ℕ) (es : List (List ℕ × List ℕ)) (q : List ℕ) → Kept test es q → Kept test (e ∷ es) q
kept_more test e es q k = record { passes = k.passes; there = ap (λ b. (key_eq q e.0 || b)) k.there ∙ any_true (key_eq q e.0) }

kept_by : (test : List ℕ → Bool) (e : List ℕ × List ℕ) (es : List (List ℕ × List ℕ)) (q : List ℕ) (t b : Bool) → test e.0 ≡ t → key_eq q e.0 ≡ b
    → is_member key_eq (keys (cond t (e ∷ filter (λ d. test d.0) es) (filter (λ d. test d.0) es))) q ≡ true
    → (is_member key_eq (keys (filter (λ d. test d.0) es)) q ≡ true → Kept test es q) → Kept test (e ∷ es) q
kept_by test e es q true true p same m more = record {
  passes = ap test (same_key q e.0 same) ∙ p;
  there = ap (λ b. (b || is_member key_eq (keys es) q)) same;
}
kept_by test e es q true false p same m more = kept_more test e es q (more (sym (ap (λ b. (b || is_member key_eq (keys (filter (λ d. test d.0) es)) q)) same) ∙ m))
kept_by test e es q false b p same m more = kept_more test e es q (more m)

kept : (test : List ℕ → Bool) (es : List (List ℕ × List ℕ)) (q : List ℕ) → is_member key_eq (keys (filter (λ d. test d.0) es)) q ≡ true → Kept test es q
kept test [] q m = no m
kept test (e ∷ es) q m = kept_by test e es q (test e.0) (key_eq q e.0) refl refl m (kept test es q)

module _ (seed clients writes v : ℕ) (fits : is_storm clients writes ≡ true) where
  abbrev shown : List (List ℕ × List ℕ)
  shown = contents (image_in (storm_vb v (in_turn seed clients writes v)))

  known : (q : List ℕ) → is_member key_eq (keys shown) q ≡ true → IsKeyOf clients q
  known q m =
      let ws : List Write = in_turn seed clients writes v in
      let es = turn_shown seed clients writes v fits in
      let there : is_some (finite.get (ledger (map put_in ws)) q) ≡ true =
      ap is_some (get-entries (ledger (map put_in ws)) q) ∙ is_some-find key_cmp q (entries (ledger (map put_in ws))) ∙ sym (ap (λ xs. is_member key_eq (keys xs) q) es) ∙ m in
      key_of_any clients ws q (turns_have seed clients writes v 0 clients (omega arith)) (written (map put_in ws) q there)

  of_all : (q : List ℕ) → is_member key_eq (keys shown) q ≡ true → is_member key_eq (keys_of_clients 0 clients) q ≡ true
  of_all q m = let k = known q m in subst (λ x. is_member key_eq (keys_of_clients 0 clients) x ≡ true) (sym k.4) (member_of_all 0 clients k.0 k.1 (omega arith) (let l = k.2 in omega (arith, l)) k.3)

  of_one : (c : ℕ) → c < clients → (q : List ℕ) → is_member key_eq (keys (docs_by seed clients writes v c)) q ≡ true → is_member key_eq (keys_of_client c) q ≡ true
  of_one c l q m =
      let p = kept (λ k. bytes_eq (owner k) (client_name c)) shown q m in
      let k = known q p.there in
      let small = (in_limits clients writes fits).clients_high in
      let low = k.2 in
      let text : decimal k.0 ≡ decimal c = ap (drop 1) (sym (owner_key k.0 k.1) ∙ sym (ap owner k.4) ∙ (bytes_eq-Decides (owner q) (client_name c)).0 p.passes) in
      let is : k.0 ≡ c = decimal_injective k.0 c (omega (arith, small, low)) (omega (arith, small, l)) text in
      subst (λ x. is_member key_eq (keys_of_client c) x ≡ true) (sym (k.4 ∙ ap (λ (d : ℕ). client_key d k.1) is)) (member_from c 0 100 k.1 (omega arith) k.3)

  pub few_of_one : (c : ℕ) → c < clients → length (docs_by seed clients writes v c) ≤ 100
  few_of_one c l =
      let a = length-le_from_is_member (eq_by_cmp_equiv nat_list_cmp_total) (keys (docs_by seed clients writes v c)) (keys_of_client c)
      (IsDistinct-keys_filter key_eq (λ d. bytes_eq (owner d.0) (client_name c)) shown (keys_apart shown (contents_sorted (image_in (storm_vb v (in_turn seed clients writes v)))))) (of_one c l) in
      let b = length-map-range_with_len (client_key c) 0 100 in
      let n = length_of_keys (docs_by seed clients writes v c) in
      omega (arith, a, b, n)

  pub few_of_all : length shown ≤ 100 * clients
  few_of_all =
      let a = length-le_from_is_member (eq_by_cmp_equiv nat_list_cmp_total) (keys shown) (keys_of_clients 0 clients)
      (keys_apart shown (contents_sorted (image_in (storm_vb v (in_turn seed clients writes v))))) of_all in
      let n = length_of_keys shown in
      omega (arith, a, n, all_keys_long 0 clients)

pub lines_add_up : (seed clients writes : ℕ) → is_storm clients writes ≡ true → LinesAddUp seed clients writes
lines_add_up seed clients writes fits =
    let high = λ (v : ℕ). (turn_calm seed clients writes v fits).high in
    let all = turns_add_up seed writes clients in
    record {
      four = refl;
      highs = omega (arith, high 0, high 1, high 2, high 3, all);
      docs_of_one = λ v c k l. few_of_one seed clients writes v fits c l;
      docs = (few_of_all seed clients writes 0 fits, (few_of_all seed clients writes 1 fits, (few_of_all seed clients writes 2 fits, (few_of_all seed clients writes 3 fits, tt))));
    }
