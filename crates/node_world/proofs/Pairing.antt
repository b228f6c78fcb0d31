-- lists that stand for lists: one more member, another one in a place, and one less
use Rattle.std.proofs.Common.{◌≡◌, ℕ, zero, suc, ◌<◌, List, [], ◌∷◌, ◌++◌, length, map, get_or, set, remove, refl, ap, arith}
use Rattle.node_world.specs.Pairing.{Pairs, Each, Differ}

module _ {X P : Type 0} (R : X → P → Type 0) where
  -- both have as many members
  pub pairs_len : (xs : List X) (ps : List P) → Pairs R xs ps → length xs ≡ length ps
  pairs_len [] [] h = refl
  pairs_len [] (p ∷ ps) h = absurd h
  pairs_len (x ∷ xs) [] h = absurd h
  pairs_len (x ∷ xs) (p ∷ ps) h = ap suc (pairs_len xs ps h.1)

  -- the member at a place stands for the one there
  pub pairs_at : (xs : List X) (ps : List P) (i : ℕ) (d : X) (e : P) → i < length xs → Pairs R xs ps → R (get_or xs i d) (get_or ps i e)
  pairs_at [] ps i d e lt h = absurd (omega arith)
  pairs_at (x ∷ xs) [] i d e lt h = absurd h
  pairs_at (x ∷ xs) (p ∷ ps) zero d e lt h = h.0
  pairs_at (x ∷ xs) (p ∷ ps) (suc i) d e lt h = pairs_at xs ps i d e (omega arith) h.1

  -- one more at the end
  pub pairs_snoc : (xs : List X) (ps : List P) (x : X) (p : P) → R x p → Pairs R xs ps → Pairs R (xs ++ x ∷ []) (ps ++ p ∷ [])
  pairs_snoc [] [] x p one h = (one, tt)
  pairs_snoc [] (q ∷ ps) x p one h = absurd h
  pairs_snoc (y ∷ xs) [] x p one h = absurd h
  pairs_snoc (y ∷ xs) (q ∷ ps) x p one h = (h.0, pairs_snoc xs ps x p one h.1)

  module _ (S : X → P → Type 0) where
    -- in another sense, of all members
    pub pairs_each : (xs : List X) (ps : List P) → ((x : X) (p : P) → R x p → S x p) → Pairs R xs ps → Pairs S xs ps
    pairs_each [] [] more h = tt
    pairs_each [] (p ∷ ps) more h = absurd h
    pairs_each (x ∷ xs) [] more h = absurd h
    pairs_each (x ∷ xs) (p ∷ ps) more h = (more x p h.0, pairs_each xs ps more h.1)

    -- after all of the others are changed
    pub pairs_map : (f : P → P) (xs : List X) (ps : List P) → ((x : X) (p : P) → R x p → S x (f p)) → Pairs R xs ps → Pairs S xs (map f ps)
    pairs_map f [] [] more h = tt
    pairs_map f [] (p ∷ ps) more h = absurd h
    pairs_map f (x ∷ xs) [] more h = absurd h
    pairs_map f (x ∷ xs) (p ∷ ps) more h = (more x p h.0, pairs_map f xs ps more h.1)

    module _ (A : X → X → Type 0) (turn : (x y : X) → A x y → A y x) where
      -- members that are apart from one stand as before
      rest_kept : (here : X) (xs : List X) (ps : List P) → ((y : X) (q : P) → A here y → R y q → S y q) → Each (A here) xs → Pairs R xs ps → Pairs S xs ps
      rest_kept here [] [] keep apart h = tt
      rest_kept here [] (p ∷ ps) keep apart h = absurd h
      rest_kept here (x ∷ xs) [] keep apart h = absurd h
      rest_kept here (x ∷ xs) (p ∷ ps) keep apart h = (keep x p apart.0 h.0, rest_kept here xs ps keep apart.1 h.1)

      apart_at : (x : X) (xs : List X) (i : ℕ) (d : X) → i < length xs → Each (A x) xs → A x (get_or xs i d)
      apart_at x [] i d lt h = absurd (omega arith)
      apart_at x (y ∷ xs) zero d lt h = h.0
      apart_at x (y ∷ xs) (suc i) d lt h = apart_at x xs i d (omega arith) h.1

      -- another member in a place, and the others as before
      pub pairs_set : (xs : List X) (ps : List P) (i : ℕ) (d x : X) (p : P) → i < length xs → ((y : X) (q : P) → A (get_or xs i d) y → R y q → S y q) → S x p → Differ A xs → Pairs R xs ps → Pairs S (set xs i x) (set ps i p)
      pairs_set [] ps i d x p lt keep one apart h = absurd (omega arith)
      pairs_set (y ∷ xs) [] i d x p lt keep one apart h = absurd h
      pairs_set (y ∷ xs) (q ∷ ps) zero d x p lt keep one apart h = (one, rest_kept y xs ps keep apart.0 h.1)
      pairs_set (y ∷ xs) (q ∷ ps) (suc i) d x p lt keep one apart h =
          (keep y q (turn y (get_or xs i d) (apart_at y xs i d (omega arith) apart.0)) h.0, pairs_set xs ps i d x p (omega arith) keep one apart.1 h.1)

      -- one member less, and the others as before
      pub pairs_out : (xs : List X) (ps : List P) (i : ℕ) (d : X) → i < length xs → ((y : X) (q : P) → A (get_or xs i d) y → R y q → S y q) → Differ A xs → Pairs R xs ps → Pairs S (remove xs i) (remove ps i)
      pairs_out [] ps i d lt keep apart h = absurd (omega arith)
      pairs_out (y ∷ xs) [] i d lt keep apart h = absurd h
      pairs_out (y ∷ xs) (q ∷ ps) zero d lt keep apart h = rest_kept y xs ps keep apart.0 h.1
      pairs_out (y ∷ xs) (q ∷ ps) (suc i) d lt keep apart h =
          (keep y q (turn y (get_or xs i d) (apart_at y xs i d (omega arith) apart.0)) h.0, pairs_out xs ps i d (omega arith) keep apart.1 h.1)

module _ {X : Type 0} where
  -- each member but one, and one more
  each_set : (Q : X → Type 0) (xs : List X) (i : ℕ) (x : X) → Q x → Each Q xs → Each Q (set xs i x)
  each_set Q [] i x one h = tt
  each_set Q (y ∷ xs) zero x one h = (one, h.1)
  each_set Q (y ∷ xs) (suc i) x one h = (h.0, each_set Q xs i x one h.1)

  each_out : (Q : X → Type 0) (xs : List X) (i : ℕ) → Each Q xs → Each Q (remove xs i)
  each_out Q [] zero h = tt
  each_out Q [] (suc i) h = tt
  each_out Q (y ∷ xs) zero h = h.1
  each_out Q (y ∷ xs) (suc i) h = (h.0, each_out Q xs i h.1)

  each_snoc : (Q : X → Type 0) (xs : List X) (x : X) → Q x → Each Q xs → Each Q (xs ++ x ∷ [])
  each_snoc Q [] x one h = (one, tt)
  each_snoc Q (y ∷ xs) x one h = (h.0, each_snoc Q xs x one h.1)

  each_more : (Q S : X → Type 0) (xs : List X) → ((x : X) → Q x → S x) → Each Q xs → Each S xs
  each_more Q S [] more h = tt
  each_more Q S (x ∷ xs) more h = (more x h.0, each_more Q S xs more h.1)

  module _ (A : X → X → Type 0) where
    -- members that are apart, with one less
    pub differ_out : (xs : List X) (i : ℕ) → Differ A xs → Differ A (remove xs i)
    differ_out [] zero h = tt
    differ_out [] (suc i) h = tt
    differ_out (y ∷ xs) zero h = h.1
    differ_out (y ∷ xs) (suc i) h = (each_out (A y) xs i h.0, differ_out xs i h.1)

    -- with one more
    pub differ_snoc : (xs : List X) (x : X) → Each (λ y. A y x) xs → Differ A xs → Differ A (xs ++ x ∷ [])
    differ_snoc [] x apart h = (tt, tt)
    differ_snoc (y ∷ xs) x apart h = (each_snoc (A y) xs x apart.0 h.0, differ_snoc xs x apart.1 h.1)

    -- with another one in a place, which is apart from whatever the old one was
    pub differ_set : (xs : List X) (i : ℕ) (d x : X) → i < length xs → ((y : X) → A (get_or xs i d) y → A x y) → ((y : X) → A y (get_or xs i d) → A y x) → Differ A xs → Differ A (set xs i x)
    differ_set [] i d x lt from to h = tt
    differ_set (y ∷ xs) zero d x lt from to h = (each_more (A y) (A x) xs from h.0, h.1)
    differ_set (y ∷ xs) (suc i) d x lt from to h = (by xs i h.0 (omega arith) (λ q. q), differ_set xs i d x (omega arith) from to h.1)
      where
        by : (zs : List X) (k : ℕ) → Each (A y) zs → k < length zs → (A y (get_or zs k d) → A y (get_or xs i d)) → Each (A y) (set zs k x)
        by [] k each lt same = tt
        by (z ∷ zs) zero each lt same = (to y (same each.0), each.1)
        by (z ∷ zs) (suc k) each lt same = (each.0, by zs k each.1 (omega arith) same)

-- the member that stands at a place for the one there
module _ {X P : Type 0} (R : X → P → Type 0) where
  pub pairs_pick : (xs : List X) (ps : List P) (i : ℕ) (d : X) → i < length xs → Pairs R xs ps → (p : P) × R (get_or xs i d) p × ((e : P) → get_or ps i e ≡ p)
  pairs_pick [] ps i d lt h = absurd (omega arith)
  pairs_pick (x ∷ xs) [] i d lt h = absurd h
  pairs_pick (x ∷ xs) (p ∷ ps) zero d lt h = (p, h.0, λ e. refl)
  pairs_pick (x ∷ xs) (p ∷ ps) (suc i) d lt h = pairs_pick xs ps i d (omega arith) h.1

-- two members that are apart, by their places
module _ {X : Type 0} (A : X → X → Type 0) where
  each_at : (Q : X → Type 0) (xs : List X) (i : ℕ) (d : X) → i < length xs → Each Q xs → Q (get_or xs i d)
  each_at Q [] i d lt h = absurd (omega arith)
  each_at Q (x ∷ xs) zero d lt h = h.0
  each_at Q (x ∷ xs) (suc i) d lt h = each_at Q xs i d (omega arith) h.1

  pub differ_at : (xs : List X) (i j : ℕ) (d : X) → i < j → j < length xs → Differ A xs → A (get_or xs i d) (get_or xs j d)
  differ_at [] i j d before lt h = absurd (omega arith)
  differ_at (x ∷ xs) i zero d before lt h = absurd (omega arith)
  differ_at (x ∷ xs) zero (suc j) d before lt h = each_at (A x) xs j d (omega arith) h.0
  differ_at (x ∷ xs) (suc i) (suc j) d before lt h = differ_at xs i j d (omega arith) (omega arith) h.1
