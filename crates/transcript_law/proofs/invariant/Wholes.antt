-- where a snapshot of a vBucket may end, by its spans
use Rattle.std.specs.Prelude.{◌≡◌, ◌<◌, ◌≤◌, ◌∷◌, ◌++◌, ◌⊎◌, ◌&&◌, ◌+◌, length, nat_le}
use Rattle.transcript_law.proofs.Words.{ℕ, Bool, true, false, cond, filter, List, [], refl, ap, sym, ◌∙◌, subst, inl, inr, ⊎_elim, arith, is_some, Option, Some, None, not, nat_lt, and_parts}
use Rattle.transcript_law.proofs.Words.{ltb-false, ltb-true, Position, Role, fork_of, start_cases, Own, Received, Span, is_active, complete_position, Spans, no_spans, all_spans, with_seal, with_change, is_whole}
use Rattle.transcript_law.proofs.Words.{Grown}
use Rattle.{std.proofs.lemmas.Bool.{false_from_ne_true, and_from, le-leb, leb-true, lt-ltb}, std.specs.Prelude.{option_to_list}, vb_calls.specs.Spans.{starts_below}, vb_calls.specs.Trims.{end_of, ended_by}, vb_calls.specs.declared.span.Origin.{Origin}}
use Rattle.vbucket.specs.Laws.{Follow}

-- a snapshot of these spans, which begin at the floor, may end at n, at a seqno that the position does not rely on another branch for
abbrev pub WholeTo : ℕ → Spans → Position → ℕ → Type 0
WholeTo floor ws p n = (is_whole n (all_spans ws) ≡ true) × (n ≤ fork_of p) × (floor ≤ n)

-- a span of a received snapshot that starts there
abbrev pub IsFrom : ℕ → Origin → Type 0
IsFrom ss Own = ⊥
IsFrom ss (Received from to) = from ≡ ss

-- one of the spans
abbrev pub IsSpanIn : Span → List Span → Type 0
IsSpanIn w [] = ⊥
IsSpanIn w (x ∷ xs) = (w ≡ x) ⊎ IsSpanIn w xs

-- the spans that go on above the position's start are of the position's snapshot, and so is the open one unless the vBucket is active
pub record Spanned (role : Role) (ws : Spans) (p : Position) : Type 0 where
  pub inside : (w : Span) → IsSpanIn w (all_spans ws) → p.ss < w.last → IsFrom p.ss w.origin
  pub current : (w : Span) → is_active role ≡ false → ws.current ≡ Some w → w.origin ≡ Received p.ss p.se

pub from_is : (o : Origin) (ss se : ℕ) → o ≡ Received ss se → IsFrom ss o
from_is o ss se e = subst (IsFrom ss) (sym e) refl

-- spans in a list

pub in_part : (w : Span) (xs ys : List Span) → IsSpanIn w (xs ++ ys) → IsSpanIn w xs ⊎ IsSpanIn w ys
in_part w [] ys i = inr i
in_part w (x ∷ xs) ys i = ⊎_elim (λ e. inl (inl e)) (λ j. ⊎_elim (λ k. inl (inr k)) (λ k. inr k) (in_part w xs ys j)) i

pub in_first : (w : Span) (xs ys : List Span) → IsSpanIn w xs → IsSpanIn w (xs ++ ys)
in_first w [] ys i = absurd i
in_first w (x ∷ xs) ys i = ⊎_elim (λ e. inl e) (λ j. inr (in_first w xs ys j)) i

pub in_last : (w : Span) (xs ys : List Span) → IsSpanIn w ys → IsSpanIn w (xs ++ ys)
in_last w [] ys i = i
in_last w (x ∷ xs) ys i = inr (in_last w xs ys i)

follow_le : (low high : ℕ) (ws : List Span) → Follow low ws high → low ≤ high
follow_le low high [] f = let e : low ≡ high = f in omega arith
follow_le low high (w ∷ ws) f = let l : low < w.last = f.1 in let m : w.last ≤ high = follow_le w.last high ws f.2 in omega arith

-- none goes on above the last seqno
pub follow_last : (low high : ℕ) (ws : List Span) (w : Span) → Follow low ws high → IsSpanIn w ws → w.last ≤ high
follow_last low high [] w f i = absurd i
follow_last low high (x ∷ xs) w f i = ⊎_elim (λ e. subst (λ (y : Span). y.last ≤ high) (sym e) (follow_le x.last high xs f.2)) (λ j. follow_last x.last high xs w f.2 j) i

-- no span goes on above n in a snapshot that starts below n

abbrev Cuts : ℕ → Span → Bool
Cuts n w = nat_lt n w.last && starts_below n w.origin

whole_from : (n : ℕ) (ws : List Span) → ((w : Span) → IsSpanIn w ws → Cuts n w ≡ false) → is_whole n ws ≡ true
whole_from n [] f = refl
whole_from n (w ∷ ws) f = and_from (not (Cuts n w)) (is_whole n ws) (ap not (f w (inl refl))) (whole_from n ws (λ x i. f x (inr i)))

whole_at : (n : ℕ) (ws : List Span) (w : Span) → is_whole n ws ≡ true → IsSpanIn w ws → Cuts n w ≡ false
whole_at n [] w e i = absurd i
whole_at n (x ∷ xs) w e i =
    let p = and_parts (not (Cuts n x)) (is_whole n xs) e in
    ⊎_elim (λ s. subst (λ y. Cuts n y ≡ false) (sym s) (false_from_ne_true (Cuts n x) (λ q. let z : false ≡ true = sym (ap not q) ∙ p.0 in cc))) (λ j. whole_at n xs w p.1 j) i

no_cut : (a b : Bool) → (a ≡ true → b ≡ false) → (a && b) ≡ false
no_cut true b f = f refl
no_cut false b f = refl

starts_before : (ss n : ℕ) (o : Origin) → IsFrom ss o → ss < n → starts_below n o ≡ true
starts_before ss n Own f l = absurd f
starts_before ss n (Received from to) f l = lt-ltb from n (let e : from ≡ ss = f in omega arith)

-- the spans before a change go on no further than those after it, in the same snapshots

old_in : (n : ℕ) (ws : Spans) (joined : Option Span) (alone : Span) (seq : ℕ) → Grown ws.current joined seq → (v : Span) → IsSpanIn v (all_spans ws) → v.last ≤ seq
    → is_whole n (all_spans (with_change ws joined alone)) ≡ true → Cuts n v ≡ false
old_in n ws None alone seq g v i l e = whole_at n (all_spans ws ++ option_to_list (Some alone)) v e (in_first v (all_spans ws) (option_to_list (Some alone)) i)
old_in n ws (Some j) alone seq g v i l e = ⊎_elim (λ k. whole_at n (ws.sealed ++ option_to_list (Some j)) v e (in_first v ws.sealed (option_to_list (Some j)) k))
    (λ k.
    let opens : IsSpanIn v (option_to_list (Some g.0)) = subst (λ o. IsSpanIn v (option_to_list o)) g.1 k in
    let same : v ≡ g.0 = ⊎_elim (λ s. s) (λ none. absurd none) opens in
    let cut : Cuts n j ≡ false = whole_at n (ws.sealed ++ option_to_list (Some j)) j e (in_last j ws.sealed (option_to_list (Some j)) (inl refl)) in
    no_cut (nat_lt n v.last) (starts_below n v.origin) (λ above.
    let up : n < v.last = ltb-true n v.last above in let on : n < j.last = (let s : j.last ≡ seq = g.3 in omega arith) in
    let there : starts_below n j.origin ≡ false = sym (ap (λ b. b && starts_below n j.origin) (lt-ltb n j.last on)) ∙ cut in
    ap (λ (x : Span). starts_below n x.origin) same ∙ ap (starts_below n) (sym g.4) ∙ there))
    (in_part v ws.sealed (option_to_list ws.current) i)

-- where a snapshot may end after a change, it could before
pub whole_before : (low n at seq : ℕ) (ws : Spans) (joined : Option Span) (alone : Span) → Follow low (all_spans ws) at → at < seq → Grown ws.current joined seq
    → is_whole n (all_spans (with_change ws joined alone)) ≡ true → is_whole n (all_spans ws) ≡ true
whole_before floor n at seq ws joined alone f l g e = whole_from n (all_spans ws) (λ v i.
    let low : v.last ≤ at = follow_last floor at (all_spans ws) v f i in
    old_in n ws joined alone seq g v i (omega arith) e)

-- the span that a change entered, which is of the snapshot at ss

entered : (ws : Spans) (joined : Option Span) (alone : Span) (seq ss : ℕ) → Grown ws.current joined seq → alone.last ≡ seq → IsFrom ss alone.origin → ((w : Span) → ws.current ≡ Some w → IsFrom ss w.origin)
    → (j : Span) × ((with_change ws joined alone).current ≡ Some j) × (j.last ≡ seq) × IsFrom ss j.origin
entered ws None alone seq ss g e from current = (alone, refl, e, from)
entered ws (Some j) alone seq ss g e from current = (j, refl, g.3, subst (IsFrom ss) (sym g.4) (current g.0 g.1))

-- inside the snapshot that a received change goes on with, none may end
pub not_inside : (n seq ss : ℕ) (ws : Spans) (joined : Option Span) (alone : Span) → Grown ws.current joined seq → alone.last ≡ seq → IsFrom ss alone.origin → ((w : Span) → ws.current ≡ Some w → IsFrom ss w.origin)
    → ss < n → n < seq → is_whole n (all_spans (with_change ws joined alone)) ≡ true → ⊥
not_inside n seq ss ws joined alone g e from current above below whole =
    let after : Spans = with_change ws joined alone in let (j, is, last, starts) = entered ws joined alone seq ss g e from current in
    let there : IsSpanIn j (all_spans after) = in_last j after.sealed (option_to_list after.current) (subst (λ o. IsSpanIn j (option_to_list o)) (sym is) (inl refl)) in
    let cut : Cuts n j ≡ false = whole_at n (all_spans after) j whole there in
    let on : nat_lt n j.last ≡ true = lt-ltb n j.last (let s : j.last ≡ seq = last in omega arith) in
    let both : Cuts n j ≡ true = and_from (nat_lt n j.last) (starts_below n j.origin) on (starts_before ss n j.origin starts above) in
    let z : true ≡ false = sym both ∙ cut in cc

-- how spans and position go on together

-- no span goes on above a complete position
pub spanned_complete : (role : Role) (floor : ℕ) (ws : Spans) (at : ℕ) → Follow floor (all_spans ws) at → ((w : Span) → is_active role ≡ false → ws.current ≡ Some w → ⊥) → Spanned role ws (complete_position at)
spanned_complete role floor ws at f none = record {
  inside = λ w i above. let low : w.last ≤ at = follow_last floor at (all_spans ws) w f i in absurd (omega arith);
  current = λ w q e. absurd (none w q e);
}

-- an active vBucket's spans at its complete position
pub spanned_active : (role : Role) (floor : ℕ) (ws : Spans) (at : ℕ) → is_active role ≡ true → Follow floor (all_spans ws) at → Spanned role ws (complete_position at)
spanned_active role floor ws at active f = spanned_complete role floor ws at f (λ w q e. let z : true ≡ false = sym active ∙ q in cc)

pub all_sealed : (ws : Spans) (w : Span) → IsSpanIn w (all_spans (with_seal ws)) → IsSpanIn w (all_spans ws)
all_sealed ws w i = ⊎_elim (λ j. j) (λ none. absurd none) (in_part w (all_spans ws) [] i)

-- the open span is sealed, whatever the role is then
pub spanned_sealed : (role role' : Role) (ws : Spans) (p : Position) → Spanned role ws p → Spanned role' (with_seal ws) p
spanned_sealed role role' ws p i = record { inside = λ w j above. i.inside w (all_sealed ws w j) above; current = λ w q e. cc }

-- and a snapshot may end where it could before
pub whole_sealed : (ws : Spans) (n : ℕ) → is_whole n (all_spans (with_seal ws)) ≡ true → is_whole n (all_spans ws) ≡ true
whole_sealed ws n e = whole_from n (all_spans ws) (λ w i. whole_at n (all_spans (with_seal ws)) w e (in_first w (all_spans ws) [] i))

-- a marker's snapshot starts where the position's fork was
pub spanned_marked : (role : Role) (floor : ℕ) (ws : Spans) (p q : Position) → Spanned role ws p → Follow floor (all_spans ws) p.at → q.ss ≡ fork_of p → Spanned role (with_seal ws) q
spanned_marked role floor ws p q i f start = record {
  inside = λ w j above.
      let old : IsSpanIn w (all_spans ws) = all_sealed ws w j in let low : w.last ≤ p.at = follow_last floor p.at (all_spans ws) w f old in
      ⊎_elim
      (λ c. let e : fork_of p ≡ p.at = c.1 in absurd (omega arith))
      (λ c. let e : fork_of p ≡ p.ss = c.1 in subst (λ n. IsFrom n w.origin) (sym (start ∙ e)) (i.inside w old (omega arith)))
      (start_cases p.ss p.se p.at);
  current = λ w z e. cc;
}

-- a received change enters a span of the position's snapshot
pub spanned_received : (role : Role) (ws : Spans) (p q : Position) (joined : Option Span) (alone : Span) → is_active role ≡ false → Spanned role ws p → q.ss ≡ p.ss → q.se ≡ p.se → Grown ws.current joined alone.last → alone.origin ≡ Received p.ss p.se
    → Spanned role (with_change ws joined alone) q
spanned_received role ws p q None alone rests i same end g from = record {
  inside = λ w j above. subst (λ n. IsFrom n w.origin) (sym same) (⊎_elim (λ k. i.inside w k (subst (λ n. n < w.last) same above))
      (λ k. ⊎_elim (λ s. subst (λ (y : Span). IsFrom p.ss y.origin) (sym s) (from_is alone.origin p.ss p.se from)) (λ none. absurd none) k)
      (in_part w (all_spans ws) (option_to_list (Some alone)) j));
  current = λ w z e. let s : alone ≡ w = cc in subst (λ (y : Span). y.origin ≡ Received q.ss q.se) s (from ∙ (λ i. Received (sym same i) (sym end i)));
}
spanned_received role ws p q (Some j) alone rests i same end g from =
    let starts : j.origin ≡ Received p.ss p.se = g.4 ∙ i.current g.0 rests g.1 in
    record {
      inside = λ w k above. subst (λ n. IsFrom n w.origin) (sym same) (⊎_elim
          (λ m. i.inside w (in_first w ws.sealed (option_to_list ws.current) m) (subst (λ n. n < w.last) same above))
          (λ m. ⊎_elim (λ s. subst (λ (y : Span). IsFrom p.ss y.origin) (sym s) (from_is j.origin p.ss p.se starts)) (λ none. absurd none) m)
          (in_part w ws.sealed (option_to_list (Some j)) k));
      current = λ w z e. let s : j ≡ w = cc in subst (λ (y : Span). y.origin ≡ Received q.ss q.se) s (starts ∙ (λ i. Received (sym same i) (sym end i)));
    }

-- no span at all
pub spanned_none : (role : Role) (p : Position) → Spanned role no_spans p
spanned_none role p = record { inside = λ w i above. absurd i; current = λ w q e. cc }

-- behind a change there is an open span
pub joined_opens : (ws : Spans) (joined : Option Span) (alone : Span) → is_some (with_change ws joined alone).current ≡ true
joined_opens ws None alone = refl
joined_opens ws (Some w) alone = refl

-- spans of which the sealed ones are given up that end at n at most
abbrev pub trimmed_spans : ℕ → Spans → Spans
trimmed_spans n ws = record { sealed = filter (λ w. nat_lt n w.last) ws.sealed; current = ws.current }

in_kept : (n : ℕ) (ws : List Span) (w : Span) → IsSpanIn w (filter (λ x. nat_lt n x.last) ws) → IsSpanIn w ws
in_kept n [] w i = absurd i
in_kept n (x ∷ xs) w i = by (nat_lt n x.last) i (in_kept n xs w)
  where
    by : (b : Bool) → IsSpanIn w (cond b (x ∷ filter (λ y. nat_lt n y.last) xs) (filter (λ y. nat_lt n y.last) xs)) → (IsSpanIn w (filter (λ y. nat_lt n y.last) xs) → IsSpanIn w xs) → IsSpanIn w (x ∷ xs)
    by true j old = ⊎_elim (λ e. inl e) (λ k. inr (old k)) j
    by false j old = inr (old j)

kept_in : (n : ℕ) (ws : List Span) (w : Span) → IsSpanIn w ws → nat_lt n w.last ≡ true → IsSpanIn w (filter (λ x. nat_lt n x.last) ws)
kept_in n [] w i e = absurd i
kept_in n (x ∷ xs) w i e = ⊎_elim
    (λ s. subst (λ b. IsSpanIn w (cond b (x ∷ filter (λ y. nat_lt n y.last) xs) (filter (λ y. nat_lt n y.last) xs))) (sym (subst (λ (y : Span). nat_lt n y.last ≡ true) s e)) (inl s))
    (λ j. by (nat_lt n x.last) (kept_in n xs w j e)) i
  where
    by : (b : Bool) → IsSpanIn w (filter (λ y. nat_lt n y.last) xs) → IsSpanIn w (cond b (x ∷ filter (λ y. nat_lt n y.last) xs) (filter (λ y. nat_lt n y.last) xs))
    by true j = inr j
    by false j = j

pub all_trimmed : (n : ℕ) (ws : Spans) (w : Span) → IsSpanIn w (all_spans (trimmed_spans n ws)) → IsSpanIn w (all_spans ws)
all_trimmed n ws w i = ⊎_elim
    (λ j. in_first w ws.sealed (option_to_list ws.current) (in_kept n ws.sealed w j))
    (λ j. in_last w ws.sealed (option_to_list ws.current) j)
    (in_part w (trimmed_spans n ws).sealed (option_to_list ws.current) i)

-- what is given up ends at or above where it began, and each of its spans ends there at most
end_above : (n low from high : ℕ) (ws more : List Span) → low ≤ from → Follow from (ws ++ more) high → low ≤ end_of low (ended_by n ws)
end_above n low from high [] more l f = omega arith
end_above n low from high (x ∷ xs) more l f =
    let up : from < x.last = f.1 in
    by (nat_le x.last n) (end_above n x.last x.last high xs more (omega arith) f.2) (end_above n low x.last high xs more (omega arith) f.2)
  where
    by : (b : Bool) → x.last ≤ end_of x.last (ended_by n xs) → low ≤ end_of low (ended_by n xs) → low ≤ end_of low (cond b (x ∷ ended_by n xs) (ended_by n xs))
    by true a b = let up : from < x.last = f.1 in omega (arith, a, l, up)
    by false a b = b

gone_low : (n low from high : ℕ) (ws more : List Span) (w : Span) → low ≤ from → Follow from (ws ++ more) high → IsSpanIn w ws → w.last ≤ n → w.last ≤ end_of low (ended_by n ws)
gone_low n low from high [] more w l f i m = absurd i
gone_low n low from high (x ∷ xs) more w l f i m =
    let up : from < x.last = f.1 in
    ⊎_elim
    (λ (s : w ≡ x).
    let same : w.last ≡ x.last = ap (λ (y : Span). y.last) s in
    subst (λ b. w.last ≤ end_of low (cond b (x ∷ ended_by n xs) (ended_by n xs))) (sym (le-leb x.last n (omega arith)))
    (let e : x.last ≤ end_of x.last (ended_by n xs) = end_above n x.last x.last high xs more (omega arith) f.2 in omega (arith, e, same)))
    (λ j. by (nat_le x.last n) (gone_low n x.last x.last high xs more w (omega arith) f.2 j m) (gone_low n low x.last high xs more w (omega arith) f.2 j m)) i
  where
    by : (b : Bool) → w.last ≤ end_of x.last (ended_by n xs) → w.last ≤ end_of low (ended_by n xs) → w.last ≤ end_of low (cond b (x ∷ ended_by n xs) (ended_by n xs))
    by true a b = a
    by false a b = b

-- none of them is empty, so there are at most so many as the seqno up to which they may go
few_ended : (n low high : ℕ) (ws more : List Span) → Follow low (ws ++ more) high → (length (ended_by n ws) ≡ 0) ⊎ (low + length (ended_by n ws) ≤ n)
few_ended n low high [] more f = inl refl
few_ended n low high (x ∷ xs) more f = by (nat_le x.last n) refl (few_ended n x.last high xs more f.2)
  where
    by : (b : Bool) → nat_le x.last n ≡ b → (length (ended_by n xs) ≡ 0) ⊎ (x.last + length (ended_by n xs) ≤ n) → (length (cond b (x ∷ ended_by n xs) (ended_by n xs)) ≡ 0) ⊎ (low + length (cond b (x ∷ ended_by n xs) (ended_by n xs)) ≤ n)
    by true e old =
        let up : low < x.last = f.1 in
        let ends : x.last ≤ n = leb-true x.last n e in
        inr (⊎_elim (λ none. omega (arith, none, up, ends)) (λ more. omega (arith, more, up)) old)
    by false e old = let up : low < x.last = f.1 in ⊎_elim (λ none. inl none) (λ more. inr (omega (arith, more, up))) old

pub few_trimmed : (n low high : ℕ) (ws : Spans) → Follow low (all_spans ws) high → length (ended_by n ws.sealed) ≤ n
few_trimmed n low high ws f = ⊎_elim (λ none. omega (arith, none)) (λ some. omega (arith, some)) (few_ended n low high ws.sealed (option_to_list ws.current) f)

-- a snapshot may end above what is given up where it could before
pub whole_trimmed : (n low high : ℕ) (ws : Spans) (k : ℕ) → Follow low (all_spans ws) high → end_of low (ended_by n ws.sealed) ≤ k → is_whole k (all_spans (trimmed_spans n ws)) ≡ true → is_whole k (all_spans ws) ≡ true
whole_trimmed n low high ws k f above whole = whole_from k (all_spans ws) (λ w i. ⊎_elim
    (λ j. by w j (nat_lt n w.last) refl)
    (λ j. whole_at k (all_spans (trimmed_spans n ws)) w whole (in_last w (trimmed_spans n ws).sealed (option_to_list ws.current) j))
    (in_part w ws.sealed (option_to_list ws.current) i))
  where
    by : (w : Span) → IsSpanIn w ws.sealed → (b : Bool) → nat_lt n w.last ≡ b → Cuts k w ≡ false
    by w j true e = whole_at k (all_spans (trimmed_spans n ws)) w whole (in_first w (trimmed_spans n ws).sealed (option_to_list ws.current) (kept_in n ws.sealed w j e))
    by w j false e = no_cut (nat_lt k w.last) (starts_below k w.origin) (λ cut.
        let past : k < w.last = ltb-true k w.last cut in
        let ends : w.last ≤ n = ltb-false n w.last e in
        let stops : w.last ≤ end_of low (ended_by n ws.sealed) = gone_low n low low high ws.sealed (option_to_list ws.current) w (omega arith) f j ends in
        absurd (omega arith))

-- and they stand with the position as they did
pub spanned_trimmed : (role : Role) (n : ℕ) (ws : Spans) (p : Position) → Spanned role ws p → Spanned role (trimmed_spans n ws) p
spanned_trimmed role n ws p i = record { inside = λ w j above. i.inside w (all_trimmed n ws w j) above; current = i.current }
