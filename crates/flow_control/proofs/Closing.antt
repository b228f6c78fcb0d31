-- what is left of a ring where a stream is closed
use Rattle.std.proofs.Common.{◌≡◌, ◌≢◌, ℕ, suc, ◌+◌, ◌-◌, ◌<◌, ◌≤◌, Bool, true, false, List, [], ◌∷◌, ◌++◌, length, get_or, refl, ap, sym, ◌∙◌, cond, subst, arith}
use Rattle.std.specs.Prelude.{◌==◌, nat_lt, take, drop, not, if◌then◌else◌, Some, None}
use Rattle.std.specs.List.{All, position_or_len}
use Rattle.std.proofs.Math.Seq.{take-append-add, drop-append-add}
use Rattle.std.proofs.lemmas.List.{take-append-drop, take-append-le, drop-append-le, drop_more, get_or-take, length-append, length-take-le}
use Rattle.std.proofs.lemmas.List.Elements.{All-head, All-tail, All-take, All-drop, All-from_get_or, filter-append}
use Rattle.std.proofs.lemmas.List.Sums.{fails_before_first, passes_at_first}
use Rattle.std.proofs.lemmas.Bool.Decides.{nat_tests}
use Rattle.flow_control.specs.Rings.{PlainRing, IsRing, without, closed}
use Rattle.flow_control.specs.Laws.{ahead, behind, others, AreApart, Closes}

-- this stream is none of these
abbrev IsNone : ℕ → List ℕ → Type 0
IsNone id ids = All (λ other. other ≢ id) ids

unequal : (x id : ℕ) → x ≢ id → (x == id) ≡ false
unequal x id h = grind (arith, nat_tests)

-- where it is not, all are left
all_left : (id : ℕ) (ids : List ℕ) → IsNone id ids → others id ids ≡ ids
all_left id [] h = refl
all_left id (x ∷ ids) h =
    ap (λ b. cond (not b) (x ∷ others id ids) (others id ids)) (unequal x id (All-head (λ o. o ≢ id) x ids h))
    ∙ ap (λ xs. x ∷ xs) (all_left id ids (All-tail (λ o. o ≢ id) x ids h))

same : (id : ℕ) → (id == id) ≡ true
same id = grind (arith, nat_tests)

-- where it stands between others that are none of it, these are left
gone : (id : ℕ) (xs ys : List ℕ) → IsNone id xs → IsNone id ys → others id (xs ++ id ∷ ys) ≡ xs ++ ys
gone id xs ys p q =
    filter-append (λ o. not (o == id)) xs (id ∷ ys)
    ∙ ap (λ l. l ++ others id (id ∷ ys)) (all_left id xs p)
    ∙ ap (λ l. xs ++ l) (ap (λ b. cond (not b) (id ∷ others id ys) (others id ys)) (same id) ∙ all_left id ys q)

-- the place behind the last turn, where the stream at a place is closed
abbrev place : Bool → ℕ → ℕ
place b turn = if b then turn - 1 else turn

record Left (id turn to : ℕ) (xs ys : List ℕ) : Type 0 where
  front : drop to (xs ++ ys) ≡ others id (drop turn (xs ++ id ∷ ys))
  back : take to (xs ++ ys) ≡ others id (take turn (xs ++ id ∷ ys))
  within : to ≤ length (xs ++ ys)

parts : (id turn : ℕ) (xs ys : List ℕ) (b : Bool) → nat_lt (length xs) turn ≡ b → IsNone id xs → IsNone id ys
    → turn ≤ length (xs ++ id ∷ ys) → Left id turn (place b turn) xs ys
parts id turn xs ys true e p q l =
    let more : length xs < turn = grind (arith, nat_tests) in
    let k : ℕ = turn - 1 - length xs in
    let to : turn - 1 ≡ length xs + k = omega arith in
    let at : turn ≡ length xs + suc k = omega arith in
    let long : length (xs ++ id ∷ ys) ≡ length xs + suc (length ys) = length-append xs (id ∷ ys) in
    let short : length (xs ++ ys) ≡ length xs + length ys = length-append xs ys in
    record {
      front =
          ap (λ n. drop n (xs ++ ys)) to ∙ drop-append-add xs ys k
          ∙ sym (ap (λ n. others id (drop n (xs ++ id ∷ ys))) at ∙ ap (others id) (drop-append-add xs (id ∷ ys) (suc k))
          ∙ all_left id (drop k ys) (All-drop (λ o. o ≢ id) k ys q));
      back =
          ap (λ n. take n (xs ++ ys)) to ∙ take-append-add xs ys k
          ∙ sym (ap (λ n. others id (take n (xs ++ id ∷ ys))) at ∙ ap (others id) (take-append-add xs (id ∷ ys) (suc k))
          ∙ gone id xs (take k ys) p (All-take (λ o. o ≢ id) k ys q));
      within = omega arith;
    }
parts id turn xs ys false e p q l =
    let few : turn ≤ length xs = grind (arith, nat_tests) in
    let short : length (xs ++ ys) ≡ length xs + length ys = length-append xs ys in
    record {
      front =
          drop-append-le turn xs ys few
          ∙ sym (ap (others id) (drop-append-le turn xs (id ∷ ys) few) ∙ gone id (drop turn xs) ys (All-drop (λ o. o ≢ id) turn xs p) q);
      back =
          take-append-le turn xs ys few
          ∙ sym (ap (others id) (take-append-le turn xs (id ∷ ys) few) ∙ all_left id (take turn xs) (All-take (λ o. o ≢ id) turn xs p));
      within = omega arith;
    }

-- those behind it are others
apart_behind : (id : ℕ) (xs ys : List ℕ) → AreApart (xs ++ id ∷ ys) → IsNone id ys
apart_behind id [] ys d = d.0
apart_behind id (x ∷ xs) ys d = apart_behind id xs ys d.1

-- the first place of a stream, or the end
abbrev first : ℕ → List ℕ → ℕ
first id ids = position_or_len (λ other. other == id) ids

-- it is none of those before
none_before : (id : ℕ) (ids : List ℕ) (n : ℕ) → n ≤ first id ids → n ≤ length ids → IsNone id (take n ids)
none_before id ids n h l =
    All-from_get_or (λ o. o ≢ id) (take n ids) 0 (λ i i_low.
    let long : length (take n ids) ≡ n = length-take-le n ids l in
    let low : i < n = omega (arith, i_low, long) in
    let fails : (get_or ids i 0 == id) ≡ false = fails_before_first (λ other. other == id) ids i 0 (omega (arith, low, h)) in
    let other : get_or ids i 0 ≢ id = grind (arith, nat_tests) in
    subst (λ o. o ≢ id) (sym (get_or-take n ids i 0 low)) other)

by_place : (r : PlainRing) (id : ℕ) → IsRing r → AreApart r.ids → (b : Bool) → nat_lt (first id r.ids) (length r.ids) ≡ b → Closes r id
by_place r id i d true e =
    let at : ℕ = first id r.ids in
    let low : at < length r.ids = grind (arith, nat_tests) in
    let xs : List ℕ = take at r.ids in
    let ys : List ℕ = drop (at + 1) r.ids in
    let found : (get_or r.ids at 0 == id) ≡ true = passes_at_first (λ other. other == id) r.ids 0 low in
    let here : get_or r.ids at 0 ≡ id = grind (arith, nat_tests) in
    let all : r.ids ≡ xs ++ id ∷ ys =
    sym (take-append-drop at r.ids) ∙ ap (λ l. xs ++ l) (drop_more r.ids at 0 low ∙ ap (λ x. x ∷ ys) here) in
    let long : length xs ≡ at = length-take-le at r.ids (omega arith) in
    let moved : closed id r ≡ record { ids = xs ++ ys; turn = place (nat_lt (length xs) r.turn) r.turn } =
    ap (λ t. without (cond t (Some at) None) r) e ∙ ap (λ n. record { ids = xs ++ ys; turn = place (nat_lt n r.turn) r.turn }) (sym long) in
    let left = parts id r.turn xs ys (nat_lt (length xs) r.turn) refl
    (none_before id r.ids at (omega arith) (omega arith))
    (apart_behind id xs ys (subst AreApart all d))
    (subst (λ ids. r.turn ≤ length ids) all i) in
    record {
      ahead = ap ahead moved ∙ left.front ∙ ap (λ ids. others id (drop r.turn ids)) (sym all);
      behind = ap behind moved ∙ left.back ∙ ap (λ ids. others id (take r.turn ids)) (sym all);
      ring = subst IsRing (sym moved) left.within;
    }
by_place r id i d false e =
    let stays : closed id r ≡ r = ap (λ t. without (cond t (Some (first id r.ids)) None) r) e in
    let high : length r.ids ≤ first id r.ids = grind (arith, nat_tests) in
    let none : IsNone id r.ids =
    All-from_get_or (λ o. o ≢ id) r.ids 0 (λ i low.
    let fails : (get_or r.ids i 0 == id) ≡ false = fails_before_first (λ other. other == id) r.ids i 0 (omega arith) in
    grind (arith, nat_tests)) in
    record {
      ahead = ap ahead stays ∙ sym (all_left id (ahead r) (All-drop (λ o. o ≢ id) r.turn r.ids none));
      behind = ap behind stays ∙ sym (all_left id (behind r) (All-take (λ o. o ≢ id) r.turn r.ids none));
      ring = subst IsRing (sym stays) i;
    }

pub closes : (r : PlainRing) (id : ℕ) → IsRing r → AreApart r.ids → Closes r id
closes r id i d = by_place r id i d (nat_lt (first id r.ids) (length r.ids)) refl
