-- the tree that the lines tell, beside the cluster's
use Rattle.transcript_law.proofs.Words.{ℕ, Bool, true, false, List, [], refl, ap, sym, ◌∙◌, subst, Some, eq-eqb, ne_eqb, eqb-true, Change, Branch, branch, grow, longer, IsNew, ForksBelow}
use Rattle.transcript_law.proofs.Words.{branch_grow}
use Rattle.std.specs.Prelude.{◌≡◌, ◌<◌, ◌^◌, ◌∷◌, ◌==◌, if◌then◌else◌, option_map}

-- the branches ds that the lines tell are those of the cluster, bs, made in the same order at the same forks; a parent that the lines tell is the cluster's, which
-- names one for each branch, and has more branches behind them
abbrev pub AreTold : List Branch → List Branch → Type 0
AreTold bs [] = Unit {0}
AreTold [] (d ∷ ds) = ⊥
AreTold (b ∷ bs) (d ∷ ds) = (b.id ≡ d.id) × (b.fork ≡ d.fork) × ((p : ℕ) → d.parent ≡ Some p → b.parent ≡ Some p) × AreTold bs ds

pub told_grow : (bs ds : List Branch) (u : ℕ) (c : Change) → AreTold bs ds → AreTold (grow bs u c) (grow ds u c)
told_grow [] (d ∷ ds) u c t = absurd t
told_grow (b ∷ bs) (d ∷ ds) u c t = (t.0, t.1, t.2, told_grow bs ds u c t.3)
told_grow bs [] u c t = tt

-- where no branch of the cluster leaves u at or above n, none that the lines tell does
pub told_below : (bs ds : List Branch) (u n : ℕ) → AreTold bs ds → ForksBelow u n bs → ForksBelow u n ds
told_below [] (d ∷ ds) u n t f = absurd t
told_below (b ∷ bs) (d ∷ ds) u n t f = (λ e. subst (λ k. k < n) t.1 (f.0 (t.2 u e)), told_below bs ds u n t.3 f.1)
told_below bs [] u n t f = tt

-- a branch that the lines tell is one of the cluster's, with the same fork
pub told_found : (bs ds : List Branch) (u : ℕ) (d : Branch) → AreTold bs ds → branch ds u ≡ Some d → (b : Branch) × (branch bs u ≡ Some b) × (b.fork ≡ d.fork)
told_found bs [] u d t e = cc
told_found [] (x ∷ ds) u d t e = absurd t
told_found (b ∷ bs) (x ∷ ds) u d t e = by (told_found bs ds u d t.3) (x.id == u) refl e
  where
    here : (k : Bool) → (x.id == u) ≡ k → (b.id == u) ≡ k
    here k q = ap (λ i. i == u) t.0 ∙ q

    by : (branch ds u ≡ Some d → (y : Branch) × (branch bs u ≡ Some y) × (y.fork ≡ d.fork)) → (k : Bool) → (x.id == u) ≡ k → (if k then Some x else branch ds u) ≡ Some d → (y : Branch) × (branch (b ∷ bs) u ≡ Some y) × (y.fork ≡ d.fork)
    by older true q f = let same : x ≡ d = cc in (b, ap (λ k. if k then Some b else branch bs u) (here true q), t.1 ∙ ap (λ (y : Branch). y.fork) same)
    by older false q f = let (y, is, fork) = older f in (y, ap (λ k. if k then Some b else branch bs u) (here false q) ∙ is, fork)

pub new_grow : (x : ℕ) (tree : List Branch) (u : ℕ) (c : Change) → IsNew x tree → IsNew x (grow tree u c)
new_grow x [] u c n = tt
new_grow x (b ∷ older) u c n = (n.0, new_grow x older u c n.1)

-- the tree has a branch of this id
abbrev pub IsTold : List Branch → ℕ → Type 0
IsTold tree u = (b : Branch) × (branch tree u ≡ Some b)

pub is_told_grow : (tree : List Branch) (x : ℕ) (c : Change) (u : ℕ) → IsTold tree u → IsTold (grow tree x c) u
is_told_grow tree x c u (b, e) = (longer x c b, branch_grow tree x c u ∙ ap (option_map (longer x c)) e)

pub is_told_here : (b : Branch) (older : List Branch) → IsTold (b ∷ older) b.id
is_told_here b older = (b, ap (λ t. if t then Some b else branch older b.id) (eq-eqb b.id b.id refl))

pub is_told_there : (b : Branch) (older : List Branch) (u : ℕ) → (b.id ≡ u → ⊥) → IsTold older u → IsTold (b ∷ older) u
is_told_there b older u ne (d, e) = (d, ap (λ t. if t then Some b else branch older u) (ne_eqb b.id u ne) ∙ e)

-- a new id is no branch's of the tree
pub new_untold : (u : ℕ) (tree : List Branch) → IsNew u tree → IsTold tree u → ⊥
new_untold u [] n (b, e) = cc
new_untold u (x ∷ older) n (b, e) = new_untold u older n.1 (b, sym (ap (λ t. if t then Some x else branch older u) (ne_eqb x.id u n.0)) ∙ e)

-- all ids of branches have room in their fields
abbrev pub IdsFit : List Branch → Type 0
IdsFit [] = Unit {0}
IdsFit (b ∷ older) = (b.id < 2 ^ 64) × IdsFit older

pub ids_grow : (tree : List Branch) (u : ℕ) (c : Change) → IdsFit tree → IdsFit (grow tree u c)
ids_grow [] u c f = tt
ids_grow (b ∷ older) u c f = (f.0, ids_grow older u c f.1)

-- so has that of each branch of the tree
pub id_fits : (tree : List Branch) (u : ℕ) → IdsFit tree → IsTold tree u → u < 2 ^ 64
id_fits [] u f (b, e) = cc
id_fits (x ∷ older) u f (b, e) = by (id_fits older u f.1) (x.id == u) refl e
  where
    by : (IsTold older u → u < 2 ^ 64) → (k : Bool) → (x.id == u) ≡ k → (if k then Some x else branch older u) ≡ Some b → u < 2 ^ 64
    by more true t q = subst (λ i. i < 2 ^ 64) (eqb-true x.id u t) f.0
    by more false t q = more (b, q)
