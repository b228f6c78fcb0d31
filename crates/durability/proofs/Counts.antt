-- sets of members, and acknowledged numbers
use Rattle.std.proofs.Common.{◌≡◌, ℕ, ◌≤◌, ◌+◌, Bool, true, false, cond, not, max, List, [], ◌∷◌, ◌++◌, length, leb, eqb, zero, suc, refl, ap, sym, ◌∙◌, subst, inl, inr, ⊎_elim, arith}
use Rattle.std.specs.Prelude.{Some, None, replicate}
use Rattle.std.specs.List.{filter}
use Rattle.std.proofs.lemmas.Bool.{leb-true, le-leb, eqb-false, and_parts, and_from, cond_both, not-true}
use Rattle.vb_types.specs.declared.change.Level.{Level}
use Rattle.vb_types.specs.declared.change.Level.TheVariants.{Majority, MajorityPersistActive, PersistMajority}
use Rattle.durability.specs.declared.waiting.Waiting.{Waiting}
use Rattle.durability.specs.Chains.{Members, named, has_not, differ, holders, majority, chain_length, places, holds_here, is_saved_for, next_of, has_enough, committed_now}
use Rattle.durability.specs.Outstanding.{Rises, acked, with_ack}
use Rattle.durability.specs.Laws.{Waits, HasMajority, HasOne, Differ, Each, WantsSaved}

-- distinct numbers

pub filter_one : (test : ℕ → Bool) (m : ℕ) (xs : List ℕ) → HasOne m (filter test xs) → HasOne m xs × (test m ≡ true)
filter_one test m [] h = absurd h
filter_one test m (x ∷ xs) h = kept (test x) refl h (filter_one test m xs)
  where
    kept : (b : Bool) → test x ≡ b → HasOne m (cond b (x ∷ filter test xs) (filter test xs)) → (HasOne m (filter test xs) → HasOne m xs × (test m ≡ true)) → HasOne m (x ∷ xs) × (test m ≡ true)
    kept true e g more = ⊎_elim (λ i. (inl i, ap test i ∙ e)) (λ i. let r = more i in (inr r.0, r.1)) g
    kept false e g more = let r = more g in (inr r.0, r.1)

pub differ_filter : (test : ℕ → Bool) (xs : List ℕ) → Differ xs → Differ (filter test xs)
differ_filter test [] d = tt
differ_filter test (x ∷ xs) d = kept (test x) (differ_filter test xs d.1)
  where
    kept : (b : Bool) → Differ (filter test xs) → Differ (cond b (x ∷ filter test xs) (filter test xs))
    kept true g = (λ i. d.0 (filter_one test x xs i).0, g)
    kept false g = g

pub each_of : (P : ℕ → Type 0) (xs : List ℕ) → ((m : ℕ) → HasOne m xs → P m) → Each P xs
each_of P [] h = tt
each_of P (x ∷ xs) h = (h x (inl refl), each_of P xs (λ m i. h m (inr i)))

pub each_map : (P Q : ℕ → Type 0) (xs : List ℕ) → ((m : ℕ) → P m → Q m) → Each P xs → Each Q xs
each_map P Q [] h e = tt
each_map P Q (x ∷ xs) h e = (h x e.0, each_map P Q xs h e.1)

pub held_by : (acks : ℕ → ℕ) (others : Members) (saved : ℕ) (w : Waiting) → Differ (named others) → has_enough acks others saved w ≡ true → HasMajority others (λ m. w.seq ≤ acks m)
held_by acks others saved w d e =
    let l : majority (chain_length others) ≤ places acks others saved w = leb-true _ _ (and_parts (leb (majority (chain_length others)) (places acks others saved w)) (is_saved_for w.level saved w.seq) e).0 in
    let one : cond (holds_here w.level saved w.seq) 1 0 ≤ 1 = cond_both (holds_here w.level saved w.seq) 1 0 (λ x. x ≤ 1) (λ _. omega arith) (λ _. omega arith) in (
      holders acks others w.seq,
      differ_filter (λ m. leb w.seq (acks m)) (named others) d,
      each_of (λ m. HasOne m (named others) × (w.seq ≤ acks m)) (holders acks others w.seq) (λ m i. let r = filter_one (λ x. leb w.seq (acks x)) m (named others) i in (r.0, leb-true _ _ r.1)),
      omega arith,
    )

pub saved_for : (level : Level) (saved p : ℕ) → is_saved_for level saved p ≡ true → WantsSaved level → p ≤ saved
saved_for Majority saved p e v = absurd v
saved_for MajorityPersistActive saved p e v = leb-true _ _ e
saved_for PersistMajority saved p e v = leb-true _ _ e

pub enough_saved : (acks : ℕ → ℕ) (others : Members) (saved : ℕ) (w : Waiting) → has_enough acks others saved w ≡ true → WantsSaved w.level → w.seq ≤ saved
enough_saved acks others saved w e = saved_for w.level saved w.seq (and_parts (leb (majority (chain_length others)) (places acks others saved w)) (is_saved_for w.level saved w.seq) e).1

saved_for_tested : (level : Level) (saved p : ℕ) → (WantsSaved level → p ≤ saved) → (is_saved_for level saved p ≡ true) × (holds_here level saved p ≡ true)
saved_for_tested Majority saved p h = (refl, refl)
saved_for_tested MajorityPersistActive saved p h = (le-leb _ _ (h tt), refl)
saved_for_tested PersistMajority saved p h = (le-leb _ _ (h tt), le-leb _ _ (h tt))

pub enough_from : (acks : ℕ → ℕ) (others : Members) (saved : ℕ) (w : Waiting) → (WantsSaved w.level → w.seq ≤ saved) → majority (chain_length others) ≤ length (holders acks others w.seq) + 1 → has_enough acks others saved w ≡ true
enough_from acks others saved w h l =
    let r = saved_for_tested w.level saved w.seq h in
    and_from _ _ (subst (λ b. leb (majority (chain_length others)) (length (holders acks others w.seq) + cond b 1 0) ≡ true) (sym r.1) (le-leb _ _ l)) r.0

pub waits_above : (n : ℕ) (ws : List Waiting) (v : Waiting) → Rises n ws → Waits v ws → n ≤ v.seq
waits_above n [] v a i = absurd i
waits_above n (w ∷ ws) v a i =
    let l : n ≤ w.seq = a.0 in
    ⊎_elim (λ e. subst (λ (x : Waiting). n ≤ x.seq) (sym e) l) (λ j. let k = waits_above w.seq ws v a.1 j in omega arith) i

pub next_is : (acks : ℕ → ℕ) (others : Members) (saved n p : ℕ) (ws : List Waiting) → Rises n ws → next_of acks others saved ws ≡ Some p
    → (w : Waiting) × Waits w ws × (w.seq ≡ p) × ((v : Waiting) → Waits v ws → p ≤ v.seq) × (has_enough acks others saved w ≡ true)
next_is acks others saved n p [] a e = let z : None ≡ Some p = e in absurd (cc)
next_is acks others saved n p (w ∷ ws) a e = found (has_enough acks others saved w) refl e
  where
    found : (b : Bool) → has_enough acks others saved w ≡ b → cond b (Some w.seq) None ≡ Some p
        → (w' : Waiting) × Waits w' (w ∷ ws) × (w'.seq ≡ p) × ((v : Waiting) → Waits v (w ∷ ws) → p ≤ v.seq) × (has_enough acks others saved w' ≡ true)
    found true t f =
        let q : w.seq ≡ p = cc in
        (w, inl refl, q, λ v i. ⊎_elim (λ s. let z : v.seq ≡ w.seq = ap (λ (x : Waiting). x.seq) s in omega arith) (λ j. let k = waits_above w.seq ws v a.1 j in omega arith) i, t)
    found false t f = let z : None ≡ Some p = f in absurd (cc)

pub in_turn : (acks : ℕ → ℕ) (others : Members) (saved p : ℕ) (w : Waiting) (more : List Waiting) → next_of acks others saved (w ∷ more) ≡ Some p → (w.seq ≡ p) × (committed_now acks others saved (w ∷ more) ≡ w ∷ committed_now acks others saved more)
in_turn acks others saved p w more e = side (has_enough acks others saved w) e
  where
    side : (b : Bool) → cond b (Some w.seq) None ≡ Some p → (w.seq ≡ p) × (cond b (w ∷ committed_now acks others saved more) [] ≡ w ∷ committed_now acks others saved more)
    side true f = let q : w.seq ≡ p = cc in (q, refl)
    side false f = let z : None ≡ Some p = f in absurd (cc)

pub turns_end : (acks : ℕ → ℕ) (others : Members) (saved : ℕ) (ws : List Waiting) → (more : List Waiting) × (ws ≡ committed_now acks others saved ws ++ more) × (next_of acks others saved more ≡ None)
turns_end acks others saved [] = ([], refl, refl)
turns_end acks others saved (w ∷ ws) = side (has_enough acks others saved w) refl (turns_end acks others saved ws)
  where
    side : (b : Bool) → has_enough acks others saved w ≡ b → (more : List Waiting) × (ws ≡ committed_now acks others saved ws ++ more) × (next_of acks others saved more ≡ None)
        → (more : List Waiting) × (w ∷ ws ≡ cond b (w ∷ committed_now acks others saved ws) [] ++ more) × (next_of acks others saved more ≡ None)
    side true t r = (r.0, ap (λ (xs : List Waiting). w ∷ xs) r.1, r.2)
    side false t r = (w ∷ ws, refl, ap (λ b. cond b (Some w.seq) None) t)

-- what the tests of a chain say

lacks_one : (m : ℕ) (xs : List ℕ) → has_not m xs ≡ true → HasOne m xs → ⊥
lacks_one m [] t i = i
lacks_one m (x ∷ xs) t i =
    let r = and_parts (not (eqb x m)) (has_not m xs) t in
    ⊎_elim (λ s. eqb-false x m (not-true (eqb x m) r.0) (sym s)) (lacks_one m xs r.1) i

pub differ_true : (xs : List ℕ) → differ xs ≡ true → Differ xs
differ_true [] t = tt
differ_true (x ∷ xs) t = let r = and_parts (has_not x xs) (differ xs) t in (lacks_one x xs r.0, differ_true xs r.1)

-- acknowledged numbers

pub ack_again : (acks : List ℕ) (m p q : ℕ) → p ≤ q → with_ack (with_ack acks m q) m p ≡ with_ack acks m q
ack_again [] m p q l = refl
ack_again (a ∷ acks) zero p q l = ap (λ x. x ∷ acks) (let z : max (max a q) p ≡ max a q = omega arith in z)
ack_again (a ∷ acks) (suc m) p q l = ap (λ xs. a ∷ xs) (ack_again acks m p q l)

pub none_acked : (n m : ℕ) → acked (replicate n 0) m ≡ 0
none_acked zero m = refl
none_acked (suc n) zero = refl
none_acked (suc n) (suc m) = none_acked n m
