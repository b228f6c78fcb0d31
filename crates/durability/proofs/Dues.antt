-- pending prepares, and the greatest number that may be acknowledged
use Rattle.std.proofs.Common.{◌≡◌, ℕ, ◌<◌, ◌≤◌, Bool, true, false, cond, not, ◌&&◌, max, List, [], ◌∷◌, leb, ltb, refl, ap, sym, ◌∙◌, inl, inr, ⊎_elim, arith}
use Rattle.std.specs.Prelude.{◌⊎◌}
use Rattle.std.specs.List.{filter}
use Rattle.std.proofs.lemmas.Bool.{leb-true, le-leb, ltb-false, le-ltb, and_parts, and_from, not-true, cases_lt}
use Rattle.vb_types.specs.Levels.{is_third}
use Rattle.vb_types.specs.declared.change.Level.{Level}
use Rattle.vb_types.specs.declared.change.Level.TheVariants.{Majority, MajorityPersistActive, PersistMajority}
use Rattle.vb_types.specs.declared.change.Pend.{Pend}
use Rattle.durability.specs.Pending.{is_bar, has_none, may_ack, greatest, due}
use Rattle.durability.specs.Laws.{IsPending, ThirdsSaved}

pub pending_filter : (test : Pend → Bool) (e : Pend) (xs : List Pend) → IsPending e (filter test xs) → IsPending e xs × (test e ≡ true)
pending_filter test e [] h = absurd h
pending_filter test e (x ∷ xs) h = kept (test x) refl h (pending_filter test e xs)
  where
    kept : (b : Bool) → test x ≡ b → IsPending e (cond b (x ∷ filter test xs) (filter test xs)) → (IsPending e (filter test xs) → IsPending e xs × (test e ≡ true)) → IsPending e (x ∷ xs) × (test e ≡ true)
    kept true t g more = ⊎_elim (λ i. (inl i, ap test i ∙ t)) (λ i. let r = more i in (inr r.0, r.1)) g
    kept false t g more = let r = more g in (inr r.0, r.1)

pub pending_in_filter : (test : Pend → Bool) (e : Pend) (xs : List Pend) → IsPending e xs → test e ≡ true → IsPending e (filter test xs)
pending_in_filter test e [] h t = absurd h
pending_in_filter test e (x ∷ xs) h t = kept (test x) refl (pending_in_filter test e xs)
  where
    kept : (b : Bool) → test x ≡ b → (IsPending e xs → test e ≡ true → IsPending e (filter test xs)) → IsPending e (cond b (x ∷ filter test xs) (filter test xs))
    kept true s more = ⊎_elim (λ i. inl i) (λ i. inr (more i t)) h
    kept false s more = ⊎_elim (λ i. let z : true ≡ false = sym t ∙ ap test i ∙ s in absurd (cc)) (λ i. more i t) h

pub none_of : (test : Pend → Bool) (e : Pend) (xs : List Pend) → has_none test xs ≡ true → IsPending e xs → test e ≡ false
none_of test e [] h i = absurd i
none_of test e (x ∷ xs) h i =
    let r = and_parts (not (test x)) (has_none test xs) h in
    ⊎_elim (λ s. ap test s ∙ not-true (test x) r.0) (none_of test e xs r.1) i

pub none_from : (test : Pend → Bool) (xs : List Pend) → ((e : Pend) → IsPending e xs → test e ≡ false) → has_none test xs ≡ true
none_from test [] h = refl
none_from test (x ∷ xs) h = and_from _ _ (ap not (h x (inl refl))) (none_from test xs (λ e i. h e (inr i)))

pub greatest_in : (xs : List Pend) → 0 < greatest xs → (e : Pend) × IsPending e xs × (e.seq ≡ greatest xs)
greatest_in [] l = absurd (let z : 0 < 0 = l in omega arith)
greatest_in (x ∷ xs) l = pick (cases_lt x.seq (greatest xs)) (greatest_in xs)
  where
    pick : (x.seq < greatest xs) ⊎ (greatest xs ≤ x.seq) → (0 < greatest xs → (e : Pend) × IsPending e xs × (e.seq ≡ greatest xs)) → (e : Pend) × IsPending e (x ∷ xs) × (e.seq ≡ max x.seq (greatest xs))
    pick c more = ⊎_elim (λ k. let r = more (omega arith) in let q : r.0.seq ≡ greatest xs = r.2 in (r.0, inr r.1, omega arith)) (λ k. (x, inl refl, omega arith)) c

pub greatest_above : (xs : List Pend) (e : Pend) → IsPending e xs → e.seq ≤ greatest xs
greatest_above [] e i = absurd i
greatest_above (x ∷ xs) e i = ⊎_elim (λ s. let z : e.seq ≡ x.seq = ap (λ (y : Pend). y.seq) s in omega arith) (λ j. let k = greatest_above xs e j in omega arith) i

pub greatest_within : (xs : List Pend) (n : ℕ) → ((e : Pend) → IsPending e xs → e.seq ≤ n) → greatest xs ≤ n
greatest_within [] n h = omega arith
greatest_within (x ∷ xs) n h = let a = h x (inl refl) in let b = greatest_within xs n (λ e i. h e (inr i)) in omega arith

pub due_of : (pending : List Pend) (complete saved : ℕ) → 0 < due pending complete saved → (e : Pend) × IsPending e pending × (e.seq ≡ due pending complete saved)
due_of pending complete saved l =
    let r = greatest_in (filter (may_ack pending complete saved) pending) l in
    (r.0, (pending_filter (may_ack pending complete saved) r.0 pending r.1).0, r.2)

ack_parts : (pending : List Pend) (complete saved : ℕ) (e : Pend) → may_ack pending complete saved e ≡ true → (e.seq ≤ complete) × (has_none (is_bar saved e.seq) pending ≡ true)
ack_parts pending complete saved e t = let r = and_parts (leb e.seq complete) (has_none (is_bar saved e.seq) pending) t in (leb-true _ _ r.0, r.1)

pub due_complete : (pending : List Pend) (complete saved : ℕ) → due pending complete saved ≤ complete
due_complete pending complete saved =
    greatest_within (filter (may_ack pending complete saved) pending) complete
    (λ e i. (ack_parts pending complete saved e (pending_filter (may_ack pending complete saved) e pending i).1).0)

no_bar : (saved q : ℕ) (e : Pend) → is_bar saved q e ≡ false → e.level ≡ PersistMajority → e.seq ≤ q → e.seq ≤ saved
no_bar saved q e t third l =
    let a : is_third e.level ≡ true = ap is_third third in
    let b : leb e.seq q ≡ true = le-leb _ _ l in
    ltb-false saved e.seq (sym (ap (λ x. x && leb e.seq q && ltb saved e.seq) a ∙ ap (λ x. true && x && ltb saved e.seq) b) ∙ t)

bar_none : (saved q : ℕ) (e : Pend) (level : Level) → e.level ≡ level → (level ≡ PersistMajority → e.seq ≤ q → e.seq ≤ saved) → is_bar saved q e ≡ false
bar_none saved q e Majority s h = ap (λ x. is_third x && leb e.seq q && ltb saved e.seq) s
bar_none saved q e MajorityPersistActive s h = ap (λ x. is_third x && leb e.seq q && ltb saved e.seq) s
bar_none saved q e PersistMajority s h = ap (λ x. is_third x && leb e.seq q && ltb saved e.seq) s ∙ rest (leb e.seq q) refl
  where
    rest : (b : Bool) → leb e.seq q ≡ b → (true && b && ltb saved e.seq) ≡ false
    rest true t = le-ltb saved e.seq (h refl (leb-true _ _ t))
    rest false t = refl

pub due_thirds : (pending : List Pend) (complete saved : ℕ) → ThirdsSaved pending (due pending complete saved) saved
due_thirds pending complete saved e i third l = ⊎_elim some none (cases_lt 0 (due pending complete saved))
  where
    some : 0 < due pending complete saved → e.seq ≤ saved
    some g =
        let r = greatest_in (filter (may_ack pending complete saved) pending) g in
        let t = ack_parts pending complete saved r.0 (pending_filter (may_ack pending complete saved) r.0 pending r.1).1 in
        let q : r.0.seq ≡ due pending complete saved = r.2 in
        no_bar saved r.0.seq e (none_of (is_bar saved r.0.seq) e pending t.1 i) third (omega arith)

    none : due pending complete saved ≤ 0 → e.seq ≤ saved
    none g = omega arith

pub due_greatest : (pending : List Pend) (complete saved : ℕ) (e : Pend) → IsPending e pending → e.seq ≤ complete → ThirdsSaved pending e.seq saved → e.seq ≤ due pending complete saved
due_greatest pending complete saved e i l t =
    greatest_above (filter (may_ack pending complete saved) pending) e
    (pending_in_filter (may_ack pending complete saved) e pending i
    (and_from _ _ (le-leb _ _ l) (none_from (is_bar saved e.seq) pending (λ d j. bar_none saved e.seq d d.level refl (t d j)))))
