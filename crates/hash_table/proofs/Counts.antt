-- how often a seqno is among the prepares that wait, and in a list
use Rattle.std.proofs.Common.{◌≡◌, ℕ, zero, suc, ◌+◌, ◌<◌, Bool, true, false, cond, List, [], ◌∷◌, ◌++◌, refl, ap, sym, ◌∙◌, subst, arith}
use Rattle.std.specs.Prelude.{◌&&◌, Option, Some, None, nat_eq}
use Rattle.std.specs.FinMap as finite
use Rattle.std.specs.FinMap.{entries, entries-insert, get, get-entries, get-insert, get-remove, insert, len-empty, len-entries, remove, same_map, slice_cmp-IsAntisymmetric, nat_cmp-IsAntisymmetric}
use Rattle.std.specs.FinMap.Entries.{by_order, find, put}
use Rattle.std.specs.List.{Contains, count_by, sum_by}
use Rattle.std.specs.List.Sorted.{IsPermutation}
use Rattle.std.specs.Cmp.{eq_by_cmp_equiv}
use Rattle.std.specs.Cmp.Lexicographic.{nat_list_cmp_total}
use Rattle.std.specs.Ordering.{eq_by_cmp, is_eq}
use Rattle.std.specs.declared.cmp.Ordering.TheVariants.{Less, Equal, Greater}
use Rattle.std.proofs.lemmas.Bool.{and_parts, and_from}
use Rattle.std.proofs.lemmas.Bool.Decides.{nat_tests}
use Rattle.std.proofs.lemmas.List.Sorted.{sum_by-IsPermutation}
use Rattle.std.proofs.lemmas.List.Sums.{count_by-le-length, sum_by-append, sum_by-cons}
use Rattle.vb_types.specs.declared.change.Level.{Level}
use Rattle.vb_types.specs.declared.change.Level.TheVariants.{Majority, MajorityPersistActive, PersistMajority}
use Rattle.vb_types.specs.declared.change.Pend.{Pend}
use Rattle.vb_types.specs.Keys.{key_cmp}
use Rattle.hash_table.specs.Seqnos.{AreSeqnos, IsFirstAbove, IsLastUpTo, ThirdWaitsAt, WaitsAt, one_if}
use Rattle.vb_types.specs.Levels.{is_third}
use Rattle.hash_table.proofs.Finds.{ties}
use Rattle.hash_table.proofs.Listed.{entry_at, found_at}
use Rattle.hash_table.proofs.Orders.{same_key}

same : (a b : ℕ) → nat_eq a b ≡ true → b ≡ a
same a b e = grind (arith, nat_tests)

itself : (a : ℕ) → nat_eq a a ≡ true
itself a = grind (arith, nat_tests)

-- counts

module _ {X : Type 0} (p : X → Bool) where
  pub counted : (xs : List X) → 0 < count_by p xs → (x : X) × Contains xs x × (p x ≡ true)
  counted [] l = absurd (omega arith)
  counted (x ∷ xs) l = elim (p x) as (λ b. p x ≡ b → 0 < cond b 1 0 + count_by p xs → (y : X) × Contains (x ∷ xs) y × (p y ≡ true)) [
    | true ↦ λ t _. (x, (0, omega arith, refl), t)
    | false ↦ λ t more. let r = counted xs (omega arith) in (r.0, (suc r.1.0, omega (arith, r.1.1), r.1.2), r.2)
  ] refl (subst (λ n. 0 < n) (sum_by-cons (λ y. cond (p y) 1 0) x xs) l)

  pub counts : (xs : List X) (x : X) → Contains xs x → p x ≡ true → 0 < count_by p xs
  counts [] x c t = absurd (omega (arith, c.1))
  counts (y ∷ xs) x (zero, l, e) t =
      let one : ◌≡◌ {A = ℕ} (cond (p y) 1 0) 1 = ap (λ z. cond (p z) 1 0) e ∙ ap (λ b. cond b 1 0) t in
      omega (arith, one, sum_by-cons (λ z. cond (p z) 1 0) y xs)
  counts (y ∷ xs) x (suc k, l, e) t = omega (arith, counts xs x (k, omega arith, e) t, sum_by-cons (λ z. cond (p z) 1 0) y xs)

-- one that counts, or none
count_one : (q s : ℕ) (b : Bool) → count_by (nat_eq q) (one_if b s) ≡ cond (b && nat_eq q s) 1 0
count_one q s true = sum_by-cons (λ x. cond (nat_eq q x) 1 0) s [] ∙ omega arith
count_one q s false = refl

-- maps

key_itself : (k : List ℕ) → eq_by_cmp key_cmp k k ≡ true
key_itself k = (eq_by_cmp_equiv nat_list_cmp_total).refl k

tied : (q k : List ℕ) → eq_by_cmp key_cmp q k ≡ true → q ≡ k
tied q k e = same_key q k (ap (λ (E : List ℕ → List ℕ → Bool). E q k) ties ∙ e)

module _ {X : Type 0} where
  sum_put : (f : List ℕ × X → ℕ) (k : List ℕ) (v : X) (es : List (List ℕ × X)) → find key_cmp k es ≡ None → sum_by f (put key_cmp k v es) ≡ f (k, v) + sum_by f es
  sum_put f k v [] h = sum_by-cons f (k, v) []
  sum_put f k v (e ∷ es) h =
      elim (key_cmp k e.0) as (λ o. cond (is_eq o) (Some e.1) (find key_cmp k es) ≡ None → sum_by f (by_order o ((k, v) ∷ e ∷ es) ((e.0, v) ∷ es) (e ∷ put key_cmp k v es)) ≡ f (k, v) + sum_by f (e ∷ es)) [
        | Less ↦ λ n. sum_by-cons f (k, v) (e ∷ es)
        | Equal ↦ λ n. absurd (cc)
        | Greater ↦ λ n. omega (arith, sum_by-cons f e (put key_cmp k v es), sum_put f k v es n, sum_by-cons f e es)
      ] h

  -- an entry of a new key is one more
  sum_insert : (f : List ℕ × X → ℕ) (m : finite.FinMap key_cmp X) (k : List ℕ) (v : X) → get m k ≡ None → sum_by f (entries (insert m k v)) ≡ f (k, v) + sum_by f (entries m)
  sum_insert f m k v h = ap (sum_by f) (entries-insert nat_list_cmp_total m k v) ∙ sum_put f k v (entries m) (sym (get-entries m k) ∙ h)

  maps : (m n : finite.FinMap key_cmp X) → ((q : List ℕ) → get m q ≡ get n q) → m ≡ n
  maps = same_map nat_list_cmp_total (slice_cmp-IsAntisymmetric nat_cmp-IsAntisymmetric)

  -- behind a removal nothing is at the key
  pub none_left : (m : finite.FinMap key_cmp X) (k : List ℕ) → get (remove m k) k ≡ None
  none_left m k = get-remove nat_list_cmp_total m k k ∙ ap (λ b. cond b None (get m k)) (key_itself k)

  twice : (b : Bool) (x y z : Option X) → cond b x (cond b y z) ≡ cond b x z
  twice true x y z = refl
  twice false x y z = refl

  pub put_over : (m : finite.FinMap key_cmp X) (k : List ℕ) (v : X) → insert (remove m k) k v ≡ insert m k v
  put_over m k v = maps _ _ (λ q. get-insert nat_list_cmp_total (remove m k) k v q ∙ ap (cond (eq_by_cmp key_cmp q k) (Some v)) (get-remove nat_list_cmp_total m k q)
      ∙ twice (eq_by_cmp key_cmp q k) (Some v) None (get m q) ∙ sym (get-insert nat_list_cmp_total m k v q))

  pub put_same : (m : finite.FinMap key_cmp X) (k : List ℕ) (v : X) → get m k ≡ Some v → insert m k v ≡ m
  put_same m k v e = maps _ _ (λ q. get-insert nat_list_cmp_total m k v q ∙ elim (eq_by_cmp key_cmp q k) as (λ b. eq_by_cmp key_cmp q k ≡ b → cond b (Some v) (get m q) ≡ get m q) [
    | true ↦ λ t. sym e ∙ ap (get m) (sym (tied q k t))
    | false ↦ λ t. refl
  ] refl)

  pub take_none : (m : finite.FinMap key_cmp X) (k : List ℕ) → get m k ≡ None → remove m k ≡ m
  take_none m k e = maps _ _ (λ q. get-remove nat_list_cmp_total m k q ∙ elim (eq_by_cmp key_cmp q k) as (λ b. eq_by_cmp key_cmp q k ≡ b → cond b None (get m q) ≡ get m q) [
    | true ↦ λ t. sym e ∙ ap (get m) (sym (tied q k t))
    | false ↦ λ t. refl
  ] refl)

-- prepares that pass a test, and their seqnos

module _ (test : Pend → Bool) where
  -- of the same map, in the same list
  pub are_along : {m n : finite.FinMap key_cmp Pend} {xs ys : List ℕ} → m ≡ n → xs ≡ ys → AreSeqnos test m xs → AreSeqnos test n ys
  are_along {m} {n} {xs} {ys} e f are = subst (λ zs. AreSeqnos test n zs) f (subst (λ p. AreSeqnos test p xs) e are)

  pub none_yet : AreSeqnos test finite.empty []
  none_yet q = omega (arith, count_by-le-length (λ e. test e.1 && nat_eq q e.1.seq) (entries (finite.empty {R = key_cmp})), len-entries (finite.empty {X = Pend} {R = key_cmp}), len-empty key_cmp Pend)

  -- one waits at a new key, and its seqno is put in if it passes
  pub one_more : (m : finite.FinMap key_cmp Pend) (k : List ℕ) (v : Pend) (xs ys : List ℕ) → get m k ≡ None → AreSeqnos test m xs → IsPermutation (one_if (test v) v.seq ++ xs) ys → AreSeqnos test (insert m k v) ys
  one_more m k v xs ys none are moved q =
      let f : ℕ → ℕ = λ x. cond (nat_eq q x) 1 0 in
      omega (
        arith,
        sum_by-IsPermutation f (one_if (test v) v.seq ++ xs) ys moved,
        sum_by-append f (one_if (test v) v.seq) xs,
        count_one q v.seq (test v),
        are q,
        sum_insert (λ e. cond (test e.1 && nat_eq q e.1.seq) 1 0) m k v none,
      )

  -- the one of a key waits no more, and its seqno is taken out if it passes
  pub one_less : (m : finite.FinMap key_cmp Pend) (k : List ℕ) (v : Pend) (xs ys : List ℕ) → get m k ≡ Some v → AreSeqnos test m xs → IsPermutation xs (one_if (test v) v.seq ++ ys) → AreSeqnos test (remove m k) ys
  one_less m k v xs ys some are moved q =
      let f : ℕ → ℕ = λ x. cond (nat_eq q x) 1 0 in
      let g : List ℕ × Pend → ℕ = λ e. cond (test e.1 && nat_eq q e.1.seq) 1 0 in
      omega (
        arith,
        sum_by-IsPermutation f xs (one_if (test v) v.seq ++ ys) moved,
        sum_by-append f (one_if (test v) v.seq) ys,
        count_one q v.seq (test v),
        are q,
        sum_insert g (remove m k) k v (none_left m k),
        ap (λ (n : finite.FinMap key_cmp Pend). sum_by g (entries n)) (put_over m k v ∙ put_same m k v some),
      )

  -- the same, where it is another map, and told by another word whether it passes
  pub gone_from : (m n : finite.FinMap key_cmp Pend) (xs ys : List ℕ) (b : Bool) (k : List ℕ) (v : Pend) → b ≡ test v → Some v ≡ get m k → n ≡ remove m k → AreSeqnos test m xs → IsPermutation xs (one_if b v.seq ++ ys) → AreSeqnos test n ys
  gone_from m n xs ys b k v passes some gone are moved =
      are_along (sym gone) (refl {a = ys}) (one_less m k v xs ys (sym some) are (subst (λ c. IsPermutation xs (one_if c v.seq ++ ys)) passes moved))

  -- one that passes waits at this seqno
  abbrev pub WaitsIf : finite.FinMap key_cmp Pend → ℕ → Type 0
  WaitsIf m q = (key : List ℕ) × (pend : Pend) × (get m key ≡ Some pend) × (test pend ≡ true) × (pend.seq ≡ q)

  pub waits_there : (m : finite.FinMap key_cmp Pend) (xs : List ℕ) → AreSeqnos test m xs → (q : ℕ) → Contains xs q → WaitsIf m q
  waits_there m xs are q c =
      let r = counted (λ e. test e.1 && nat_eq q e.1.seq) (entries m) (subst (λ n. 0 < n) (are q) (counts (nat_eq q) xs q c (itself q))) in
      let t = and_parts (test r.0.1) (nat_eq q r.0.1.seq) r.2 in
      (r.0.0, r.0.1, found_at m r.0.0 r.0.1 r.1, t.0, same q r.0.1.seq t.1)

  pub stands_there : (m : finite.FinMap key_cmp Pend) (xs : List ℕ) → AreSeqnos test m xs → (q : ℕ) → WaitsIf m q → Contains xs q
  stands_there m xs are q w =
      let pass = and_from (test w.1) (nat_eq q w.1.seq) w.3 (subst (λ s. nat_eq q s ≡ true) (sym w.4) (itself q)) in
      let r = counted (nat_eq q) xs (subst (λ n. 0 < n) (sym (are q)) (counts (λ e. test e.1 && nat_eq q e.1.seq) (entries m) (w.0, w.1) (entry_at m w.0 w.1 w.2) pass)) in
      subst (Contains xs) (same q r.0 r.2) r.1

  pub stands_at : (m : finite.FinMap key_cmp Pend) (xs : List ℕ) → AreSeqnos test m xs → (k : List ℕ) (v : Pend) → get m k ≡ Some v → test v ≡ true → Contains xs v.seq
  stands_at m xs are k v e t = stands_there m xs are v.seq (k, v, e, t, refl)

-- what is found by one of two equal properties

pub last_alike : (P Q : ℕ → Type 0) → ((q : ℕ) → P q → Q q) → ((q : ℕ) → Q q → P q) → (upto : ℕ) (r : Option ℕ) → IsLastUpTo P upto r → IsLastUpTo Q upto r
last_alike P Q to back upto None h = λ q i. h q (back q i)
last_alike P Q to back upto (Some r) h = (to r h.0, h.1, λ q i. h.2 q (back q i))

pub first_alike : (P Q : ℕ → Type 0) → ((q : ℕ) → P q → Q q) → ((q : ℕ) → Q q → P q) → (above : ℕ) (r : Option ℕ) → IsFirstAbove P above r → IsFirstAbove Q above r
first_alike P Q to back above None h = λ q i. h q (back q i)
first_alike P Q to back above (Some r) h = (to r h.0, h.1, λ q i. h.2 q (back q i))

third : (level : Level) → is_third level ≡ true → level ≡ PersistMajority
third Majority e = absurd (cc)
third MajorityPersistActive e = absurd (cc)
third PersistMajority e = refl

pub last_waits : (m : finite.FinMap key_cmp Pend) (xs : List ℕ) → AreSeqnos (λ _. true) m xs → (upto : ℕ) (r : Option ℕ) → IsLastUpTo (Contains xs) upto r → IsLastUpTo (WaitsAt m) upto r
last_waits m xs are = last_alike (Contains xs) (WaitsAt m) (λ q c. let w = waits_there (λ _. true) m xs are q c in (w.0, w.1, w.2, w.4)) (λ q w. stands_there (λ _. true) m xs are q (w.0, w.1, w.2, refl, w.3))

pub first_third : (m : finite.FinMap key_cmp Pend) (xs : List ℕ) → AreSeqnos (λ pend. is_third pend.level) m xs → (above : ℕ) (r : Option ℕ) → IsFirstAbove (Contains xs) above r → IsFirstAbove (ThirdWaitsAt m) above r
first_third m xs are =
    first_alike (Contains xs) (ThirdWaitsAt m)
    (λ q c. let w = waits_there (λ pend. is_third pend.level) m xs are q c in (w.0, w.1, w.2, third w.1.level w.3, w.4))
    (λ q w. stands_there (λ pend. is_third pend.level) m xs are q (w.0, w.1, w.2, ap is_third w.3, w.4))
