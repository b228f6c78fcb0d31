-- what a seat learns by a call, by the number that it is told, by a join and by a close
use Rattle.std.proofs.Common.{◌≡◌, ℕ, ◌+◌, ◌<◌, ◌≤◌, Bool, true, false, List, [], ◌∷◌, ◌++◌, length, Some, slice_get, if◌then◌else◌, refl, sym, ap, ◌∙◌, subst, arith, length-append, inl, inr, ◌⊎◌}
use Rattle.std.specs.Prelude.{nat_lt, Contains}
use mathlib.Core.List.{IsPrefix}
use Rattle.vb_turn.specs.declared.view.View.{View}
use Rattle.vb_turn.specs.History.{after, top}
use Rattle.vb_turn.specs.Turning.{all_parts, times, places, Whole, longer}
use Rattle.vb_turn.specs.Seats.{Called, Published, Gathered, ClosesWith}
use Rattle.vb_turn.specs.Laws.{behind, EachAnswers, AreOwn, FromOpening, TurnsAreLegal, Moves, Leads, NumbersHold, SeatsSplitAndJoin, ClosingsNameTheHistory}
use Rattle.vb_turn.proofs.Fronts.{prefix_self, prefix_trans, prefix_get, get_last}
use Rattle.vb_turn.proofs.Totals.{places_append}
use Rattle.vb_turn.proofs.Saying.{each_answers, high, met}
use Rattle.vb_turn.proofs.Owning.{contained, contains_left, stands_at, get_below, named, seen_whole, stand_apart, are_own}

pub prefix_long : {A : Type 0} (xs ys : List A) → IsPrefix xs ys → length xs ≤ length ys
prefix_long xs ys p = let l = length-append xs p.0 in let e : length (xs ++ p.0) ≡ length ys = ap length p.1 in omega arith

front_more : {A : Type 0} (xs more : List A) → IsPrefix xs (xs ++ more)
front_more xs more = (more, refl)

one_of : {A : Type 0} (xs ys : List A) (b : Bool) → ((if b then ys else xs) ≡ xs) ⊎ ((if b then ys else xs) ≡ ys)
one_of xs ys true = inr refl
one_of xs ys false = inl refl

both_front : {A : Type 0} (xs ys : List A) (b : Bool) → IsPrefix (if b then xs else ys) (if b then ys else xs) → IsPrefix xs (if b then ys else xs) × IsPrefix ys (if b then ys else xs)
both_front xs ys true p = (p, prefix_self ys)
both_front xs ys false p = (prefix_self xs, p)

module _ {M P C R : Type 0} (stands : M → P → Type 0) (next : P → C → P × R) (number : P → ℕ) where
  abbrev W : Type 0
  W = View M (C × R)

  abbrev Call : W → C × R → W → Type 0
  Call v e w = Called stands next number v e w

  abbrev Number : W → ℕ → W → Type 0
  Number v n w = Published stands next number v n w

  seen_is : (v w : W) (e : C × R) (c : Call v e w) → w.seen ≡ c.base ++ e ∷ []
  seen_is v w e c = ap (λ (x : W). x.seen) c.new

  pub mine_is : (v w : W) (e : C × R) (c : Call v e w) → w.mine ≡ v.mine ++ (length c.base, e) ∷ []
  mine_is v w e c = ap (λ (x : W). x.mine) c.new

  pub long_is : (v w : W) (e : C × R) (c : Call v e w) → length w.seen ≡ length c.base + 1
  long_is v w e c = ap length (seen_is v w e c) ∙ length-append c.base (e ∷ [])

  answers : (v w : W) (e : C × R) → Call v e w → FromOpening stands v (λ s. EachAnswers next s w.seen)
  answers v w e c o is s st = subst (λ (l : List (C × R)). EachAnswers next s l) (sym (seen_is v w e c)) (each_answers next s (c.base ++ e ∷ []) (c.legal o is s st).0)

  last : (v w : W) (e : C × R) → Call v e w
      → (n : ℕ) × (length v.seen ≤ n) × (length w.seen ≡ n + 1) × (slice_get w.seen n ≡ Some e) × (w.mine ≡ v.mine ++ (n, e) ∷ [])
  last v w e c = (
    length c.base,
    prefix_long v.seen c.base c.front,
    long_is v w e c,
    ap (λ (l : List (C × R)). slice_get l (length c.base)) (seen_is v w e c) ∙ get_last c.base e,
    mine_is v w e c,
  )

  -- an earlier place is none that the new call has
  earlier : (v w : W) (e : C × R) (c : Call v e w) (t : ℕ × (C × R)) → Contains v.mine t → t.0 ≡ length c.base → ⊥
  earlier v w e c t has same =
      let n : ℕ = length c.base in
      let old : 0 < times n (places v.mine) = subst (λ (k : ℕ). 0 < times k (places v.mine)) same (contained v.mine t has) in
      let new : 0 < times n (places ((n, e) ∷ [])) = named ((n, e) ∷ []) 0 (n, e) refl in
      let sum = places_append n v.mine ((n, e) ∷ []) in
      let once : times n (places w.mine) ≤ 1 = c.orderly.1 n in
      let all : times n (places w.mine) ≡ times n (places (v.mine ++ (n, e) ∷ [])) = ap (λ (l : List (ℕ × (C × R))). times n (places l)) (mine_is v w e c) in
      omega arith

  later : (v w : W) (e : C × R) → Call v e w → (t : ℕ × (C × R)) → Contains v.mine t → t.0 + 1 < length w.seen
  later v w e c t has =
      let here : Contains w.mine t = subst (λ (l : List (ℕ × (C × R))). Contains l t) (sym (mine_is v w e c)) (contains_left v.mine ((length c.base, e) ∷ []) t has) in
      let below = get_below w.seen t.0 t.1 (stands_at w.seen w.mine t c.orderly.0 here) in
      let long = long_is v w e c in let other = earlier v w e c t has in omega (arith, other)

  kept : (v w : W) (e : C × R) → Call v e w → (k : ℕ) (x : C × R) → slice_get v.seen k ≡ Some x → slice_get w.seen k ≡ Some x
  kept v w e c k x h = prefix_get v.seen w.seen k x
      (subst (λ (l : List (C × R)). IsPrefix v.seen l) (sym (seen_is v w e c)) (prefix_trans v.seen c.base (c.base ++ e ∷ []) c.front (front_more c.base (e ∷ [])))) h

  pub turns_are_legal : TurnsAreLegal stands next number
  turns_are_legal = record {
    answers = answers;
    last = last;
    later = later;
    kept = kept;
    apart = λ v w e c. stand_apart w c.orderly.0 c.orderly.1;
    alone = λ v w e c all. are_own w c.orderly.0 (c.orderly.2 (ap (λ (x : W). x.parts) c.new ∙ all));
    same = λ v w e c. (ap (λ (x : W). x.opening) c.new, ap (λ (x : W). x.parts) c.new, ap (λ (x : W). x.known) c.new);
  }

  told_is : (v w : W) (n : ℕ) → Number v n w → w.known ≡ n
  told_is v w n t = ap (λ (x : W). x.known) t.0

  told_high : (v w : W) (n : ℕ) → Number v n w → FromOpening stands v (λ s. (k : ℕ) → number (behind next s v.seen k) ≤ n)
  told_high v w n t o is s st k = let h = high next number s v.seen k in let l = t.2 o is s st in
      let a : ℕ = number (behind next s v.seen k) in let b : ℕ = top next number s v.seen in let i : a ≤ b = h in let j : b ≤ n = l in let goal : a ≤ n = omega arith in goal

  told_shown : (v w : W) (n : ℕ) → Number v n w → (log : List (C × R)) × IsPrefix v.seen log
      × FromOpening stands v (λ s. EachAnswers next s log × ((k : ℕ) → number (behind next s log k) ≤ n) × ((k : ℕ) × (k ≤ length log) × (n ≡ number (behind next s log k))))
  told_shown v w n (now, known, least, (log, front, orderly, good)) = (
    log,
    front,
    λ o is s st. let g = good o is s st in let m = met next number s log in (
      each_answers next s log g.0,
      (λ k. subst (λ (x : ℕ). number (behind next s log k) ≤ x) g.1 (high next number s log k)),
      (m.0, m.1, sym g.1 ∙ m.2),
    ),
  )

  told_alone : (v w : W) (n : ℕ) → Number v n w → v.parts ≡ all_parts → FromOpening stands v (λ s. top next number s v.seen ≡ n)
  told_alone v w n (now, known, least, (log, front, orderly, good)) all o is s st =
      subst (λ (l : List (C × R)). top next number s l ≡ n) (sym (seen_whole v.seen log v.mine front orderly.0 (orderly.2 all))) (good o is s st).1

  told_seen : (v w x : W) (n : ℕ) (e : C × R) → Number v n w → Call w e x → FromOpening stands v (λ s. (k : ℕ) × (k ≤ length x.seen) × (n ≤ number (behind next s x.seen k)))
  told_seen v w x n e t c o is s st =
      let is' : w.opening ≡ Some o = ap (λ (y : W). y.opening) t.0 ∙ is in let l = (c.legal o is' s st).1 in let m = met next number s (c.base ++ e ∷ []) in let same = told_is v w n t in
      let a : ℕ = top next number s (c.base ++ e ∷ []) in let b : ℕ = number (behind next s (c.base ++ e ∷ []) m.0) in
      let i : w.known ≤ a = l in let j : a ≡ b = m.2 in let goal : n ≤ b = omega arith in
      subst (λ (log : List (C × R)). (k : ℕ) × (k ≤ length log) × (n ≤ number (behind next s log k))) (sym (seen_is w x e c)) (m.0, m.1, goal)

  moved : (v w : W) → Moves stands next number v w → v.known ≤ w.known
  moved v w (inl (e, c)) = let k = ap (λ (x : W). x.known) c.new in omega arith
  moved v w (inr (inl (n, t))) = let k = told_is v w n t in let l = t.1 in omega arith
  moved v w (inr (inr (inl (n, is)))) = let k = ap (λ (x : W). x.known) is in omega arith
  moved v w (inr (inr (inr (u, g)))) = let k : w.known ≡ g.1.0 = ap (λ (x : W). x.known) g.1.3 in let l = g.1.1 in omega arith

  led : (v w : W) (between : List W) → Leads stands next number v between w → v.known ≤ w.known
  led v w [] e = let k = ap (λ (x : W). x.known) e in omega arith
  led v w (x ∷ between) p = let a = moved v x p.0 in let b = led x w between p.1 in omega arith

  again : (v w x y : W) (between : List W) (n m : ℕ) → Number v n w → Leads stands next number w between x → Number x m y → n ≤ m
  again v w x y between n m t p u = let a = told_is v w n t in let b = led w x between p in let c = u.1 in omega arith

  pub numbers_hold : NumbersHold stands next number
  numbers_hold = record { high = told_high; alone = told_alone; shown = told_shown; seen = told_seen; again = again }

module _ {M P C R : Type 0} (stands : M → P → Type 0) (next : P → C → P × R) where
  abbrev Seat : Type 0
  Seat = View M (C × R)

  joined_seen : (v u w : Seat) → Gathered v u w → IsPrefix v.seen w.seen × IsPrefix u.seen w.seen × ((w.seen ≡ v.seen) ⊎ (w.seen ≡ u.seen))
  joined_seen v u w (front, (n, a, b, is), placed, apart, whole) =
      let same : w.seen ≡ longer v.seen u.seen = ap (λ (x : Seat). x.seen) is in let f = both_front v.seen u.seen (nat_lt (length v.seen) (length u.seen)) front in
      subst (λ (l : List (C × R)). IsPrefix v.seen l × IsPrefix u.seen l × ((l ≡ v.seen) ⊎ (l ≡ u.seen))) (sym same) (f.0, f.1, one_of v.seen u.seen (nat_lt (length v.seen) (length u.seen)))

  joined_told : (v u w : Seat) → Gathered v u w → (v.known ≤ w.known) × (u.known ≤ w.known)
  joined_told v u w (front, (n, a, b, is), placed, apart, whole) = let k : w.known ≡ n = ap (λ (x : Seat). x.known) is in (omega arith, omega arith)

  pub seats_split_and_join : SeatsSplitAndJoin stands next
  seats_split_and_join = record {
    kept = λ v n. (refl, refl, refl, refl);
    given = λ v n. (refl, refl, refl, refl);
    shared = λ v n l. (omega arith, refl);
    joined = λ v u w g. (ap (λ (x : Seat). x.opening) g.1.3, ap (λ (x : Seat). x.mine) g.1.3, ap (λ (x : Seat). x.parts) g.1.3);
    seen = joined_seen;
    told = joined_told;
    apart = λ v u w g. stand_apart w g.2 g.3;
    alone = λ v u w g all. are_own w g.2 (g.4 all);
  }

  closed_seen : (v : Seat) (object : M) → ClosesWith stands next v object
      → AreOwn v × FromOpening stands v (λ s. EachAnswers next s v.seen) × FromOpening stands v (λ s. stands object (after next s v.seen))
  closed_seen v object (all, (log, front, placed, whole, tells)) =
      let same : v.seen ≡ log = seen_whole v.seen log v.mine front placed whole in (
        are_own v placed (subst (λ (l : List (C × R)). Whole v.mine l) (sym same) whole),
        (λ o is s st. subst (λ (l : List (C × R)). EachAnswers next s l) (sym same) (each_answers next s log (tells o is s st).0)),
        (λ o is s st. subst (λ (l : List (C × R)). stands object (after next s l)) (sym same) (tells o is s st).1),
      )

  pub closings_name_the_history : ClosingsNameTheHistory stands next
  closings_name_the_history = record {
    all = λ v object c. c.0;
    own = λ v object c. (closed_seen v object c).0;
    answers = λ v object c. (closed_seen v object c).1;
    ends = λ v object c. (closed_seen v object c).2;
  }
