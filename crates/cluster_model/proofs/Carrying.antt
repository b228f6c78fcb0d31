-- what is said of a node stays true while the ground extends
use Rattle.std.proofs.Common.{◌≡◌, ℕ, ◌<◌, ◌≤◌, Bool, true, false, cond, List, [], ◌∷◌, ◌++◌, ltb, eqb, refl, ap, sym, ◌∙◌, subst, inl, inr, ⊎_elim, arith}
use Rattle.std.specs.Prelude.{Option, Some, None, ◌⊎◌, option_map}
use Rattle.std.proofs.lemmas.List.{append-nil}
use Rattle.std.proofs.lemmas.List.Sums.{fold-append}
use Rattle.std.proofs.lemmas.List.Elements.{filter-append}
use Rattle.std.proofs.lemmas.Bool.{eqb-true, eqb-false, ltb-true, lt-ltb, le-ltb}
use Rattle.vb_types.specs.Images.{applied, nothing, image_of}
use Rattle.vb_types.specs.declared.change.Change.{Change}
use Rattle.vb_types.specs.declared.position.Position.{Position}
use Rattle.branch_model.specs.Histories.{HasPrepares}
use Rattle.vb_types.specs.Histories.{upto, Rises, IsIn}
use Rattle.branch_model.specs.Trees.{hist, branch, Shared}
use Rattle.vb_types.specs.declared.role.LogEntry.{LogEntry}
use Rattle.branch_model.specs.Logs.{AncestryBy, Traces, AtForks, IsFront}
use Rattle.branch_model.specs.Requests.{effective_ss, fork_of, reach_of}
use Rattle.cluster_model.specs.Clusters.{Ground, Feed, flight_from, Joined, Linked, Member, above, member_reach, member_fork, Settled, Fixed, Kin, Comes, Stands, Flight}
use Rattle.branch_model.proofs.Lists.{upto-append, upto_none, rises_le}
use Rattle.branch_model.proofs.Lasts.{in_filter, kept_in_filter}
use Rattle.branch_model.proofs.Following.{follows_grow, remains_same, covers_same}
use Rattle.branch_model.proofs.Branches.{shared_down}
use Rattle.cluster_model.proofs.Having.{all_below}

-- what lies above a number

pub above_none : (a b n : ℕ) (h : List Change) → Rises a b h → b ≤ n → above h n ≡ []
above_none a b n [] r l = refl
above_none a b n (c ∷ cs) r l = let k = rises_le c.seq b cs r.1 in ap (λ q. cond q (c ∷ above cs n) (above cs n)) (le-ltb n c.seq (omega arith)) ∙ above_none c.seq b n cs r.1 l

pub above_push : (h : List Change) (c : Change) (n : ℕ) → n < c.seq → above (h ++ c ∷ []) n ≡ above h n ++ c ∷ []
above_push h c n l = filter-append (λ x. ltb n x.seq) h (c ∷ []) ∙ ap (λ q. above h n ++ cond q (c ∷ []) []) (lt-ltb n c.seq l)

pub upto_push : (h : List Change) (c : Change) (n : ℕ) → n < c.seq → upto (h ++ c ∷ []) n ≡ upto h n
upto_push h c n l = upto-append h (c ∷ []) n ∙ ap (λ x. upto h n ++ x) (upto_none n c.seq n (c ∷ []) (l, omega arith) (omega arith)) ∙ append-nil (upto h n)

pub image_push : (h : List Change) (c : Change) → image_of (h ++ c ∷ []) ≡ applied (image_of h) c
image_push h c = fold-append applied nothing h (c ∷ [])

pub in_above : (c : Change) (h : List Change) (n : ℕ) → IsIn c (above h n) → IsIn c h × (n < c.seq)
in_above c h n i = let k = in_filter (λ x. ltb n x.seq) c h i in (k.0, ltb-true n c.seq k.1)

pub still_above : (c : Change) (h : List Change) (n : ℕ) → IsIn c h → n < c.seq → IsIn c (above h n)
still_above c h n i l = kept_in_filter (λ x. ltb n x.seq) c h i (lt-ltb n c.seq l)

-- what is settled, and who is kin

pub settled_down : (g : Ground) (u m n : ℕ) → m ≤ n → Settled g u n → Settled g u m
settled_down g u m n l s = (s.0, let q : n ≤ g.tips u = s.1 in omega arith)

pub fixed_down : (g : Ground) (u v m n : ℕ) → m ≤ n → Fixed g u v n → Fixed g u v m
fixed_down g u v m n l f = (shared_down g.tree u v m n l f.0, settled_down g u m n l f.1, settled_down g v m n l f.2)

pub kin_down : (g : Ground) (u v m n : ℕ) → m ≤ n → Kin g u v n → Kin g u v m
kin_down g u v m n l k = ⊎_elim (λ e. inl e) (λ f. inr (fixed_down g u v m n l f)) k

pub kin_trans : (g : Ground) (u v x n : ℕ) → Kin g u v n → Kin g v x n → Kin g u x n
kin_trans g u v x n a b = ⊎_elim
    (λ e. subst (λ y. Kin g y x n) (sym e.0) b)
    (λ f. ⊎_elim (λ e. inr (subst (λ y. Fixed g u y n) e.0 f)) (λ h. inr (f.0 ∙ h.0, f.1, h.2)) b) a

pub kin_refl : (g : Ground) (u n m : ℕ) → Settled g u m → Kin g u u n
kin_refl g u n m s = inl (refl, settled_down g u 0 m (omega arith) s)

pub kin_sym : (g : Ground) (u v n : ℕ) → Kin g u v n → Kin g v u n
kin_sym g u v n k = ⊎_elim (λ e. inl (sym e.0, subst (λ x. Settled g x 0) e.0 e.1)) (λ f. inr (sym f.0, f.2, f.1)) k

pub kin_shared : (g : Ground) (u v n : ℕ) → Kin g u v n → Shared g.tree u v n
kin_shared g u v n k = ⊎_elim (λ e. ap (λ x. upto (hist g.tree x) n) e.0) (λ f. f.0) k

pub kin_settled : (g : Ground) (u v m n : ℕ) → m ≤ n → Settled g v m → Kin g u v n → Settled g u m
kin_settled g u v m n l s k = ⊎_elim (λ e. subst (λ x. Settled g x m) (sym e.0) s) (λ f. settled_down g u m n l f.1) k

pub kin_known : (g : Ground) (u v n : ℕ) → Kin g u v n → Settled g u 0
kin_known g u v n k = ⊎_elim (λ e. e.1) (λ f. settled_down g u 0 n (omega arith) f.1) k

pub traces_map : (R S : ℕ → ℕ → ℕ → Type 0) → ((u v n : ℕ) → R u v n → S u v n) → (log : List LogEntry) (u n : ℕ) → Traces R log u n → Traces S log u n
traces_map R S h [] u n t = tt
traces_map R S h (e ∷ older) u n t = (h e.uuid u n t.0, traces_map R S h older e.uuid e.seq t.1)

-- a log whose front is u tells as much as R has of u and itself
pub traces_front : (R : ℕ → ℕ → ℕ → Type 0) (log : List LogEntry) (u m n : ℕ) → IsFront log u → R u u n → Traces R log u m → Traces R log u n
traces_front R [] u m n f r t = tt
traces_front R (e ∷ older) u m n f r t = (subst (λ x. R x u n) (sym f) r, t.1)

-- a log tells of another end
pub ancestry_at : (g : Ground) (log : List LogEntry) (u m n : ℕ) → AncestryBy (Kin g) g.tree log u m → Traces (Kin g) log u n → AncestryBy (Kin g) g.tree log u n
ancestry_at g log u m n a t = record { short = a.short; distinct = a.distinct; falls = a.falls; at_forks = a.at_forks; traces = t }

pub ancestry_front : (g : Ground) (log : List LogEntry) (u m n s : ℕ) → IsFront log u → Settled g u s → AncestryBy (Kin g) g.tree log u m → AncestryBy (Kin g) g.tree log u n
ancestry_front g log u m n s f st a = ancestry_at g log u m n a (traces_front (Kin g) log u m n f (kin_refl g u n s st) a.traces)

-- one ground after another: what is settled stays, with its changes
pub record Extends (top : ℕ) (g v : Ground) : Type 0 where
  pub settled : (u n : ℕ) → Settled g u n → Settled v u n
  pub fronts : (u n : ℕ) → Settled g u n → upto (hist v.tree u) n ≡ upto (hist g.tree u) n
  pub grown : (u n : ℕ) (c : Change) → Settled g u n → IsIn c (hist g.tree u) → IsIn c (hist v.tree u)
  pub forks : (u f : ℕ) → option_map (λ b. b.fork) (branch g.tree u) ≡ Some f → option_map (λ b. b.fork) (branch v.tree u) ≡ Some f
  pub low : (u : ℕ) → Rises 0 top (hist g.tree u)
  pub high : (u : ℕ) → Rises 0 top (hist v.tree u)

pub fixed_carried : (top : ℕ) (g v : Ground) → Extends top g v → (x y n : ℕ) → Fixed g x y n → Fixed v x y n
fixed_carried top g v e x y n f = (e.fronts x n f.1 ∙ f.0 ∙ sym (e.fronts y n f.2), e.settled x n f.1, e.settled y n f.2)

pub kin_carried : (top : ℕ) (g v : Ground) → Extends top g v → (x y n : ℕ) → Kin g x y n → Kin v x y n
kin_carried top g v e x y n k = ⊎_elim (λ q. inl (q.0, e.settled x 0 q.1)) (λ f. inr (fixed_carried top g v e x y n f)) k

pub at_forks_carried : (top : ℕ) (g v : Ground) → Extends top g v → (log : List LogEntry) → AtForks g.tree log → AtForks v.tree log
at_forks_carried top g v e [] a = tt
at_forks_carried top g v e (x ∷ older) a = (e.forks x.uuid x.seq a.0, at_forks_carried top g v e older a.1)

pub ancestry_carried : (top : ℕ) (g v : Ground) → Extends top g v → (log : List LogEntry) (u n : ℕ) → AncestryBy (Kin g) g.tree log u n → AncestryBy (Kin v) v.tree log u n
ancestry_carried top g v e log u n a =
    record {
      short = a.short;
      distinct = a.distinct;
      falls = a.falls;
      at_forks = at_forks_carried top g v e log a.at_forks;
      traces = traces_map (Kin g) (Kin v) (kin_carried top g v e) log u n a.traces;
    }

-- positions

-- the start that a position keeps at a new marker
pub start_cases : (ss se at : ℕ) → ((at ≡ se) × (effective_ss at ss se ≡ at)) ⊎ ((at ≡ se → ⊥) × (effective_ss at ss se ≡ ss))
start_cases ss se at = start_case (eqb at se) refl
  where
    start_case : (q : Bool) → eqb at se ≡ q → ((at ≡ se) × (cond q at ss ≡ at)) ⊎ ((at ≡ se → ⊥) × (cond q at ss ≡ ss))
    start_case true e = inl (eqb-true at se e, refl)
    start_case false e = inr (eqb-false at se e, refl)

-- the end that it means: where it would fork at `at`, that, and its end else
pub end_cases : (p : Position) → ((fork_of p ≡ p.at) × (reach_of p ≡ p.at)) ⊎ ((fork_of p ≡ p.at → ⊥) × (fork_of p ≡ p.ss) × (reach_of p ≡ p.se))
end_cases p = end_case (eqb p.at (fork_of p)) refl
  where
    end_case : (q : Bool) → eqb p.at (fork_of p) ≡ q → ((fork_of p ≡ p.at) × (cond q p.at p.se ≡ p.at)) ⊎ ((fork_of p ≡ p.at → ⊥) × (fork_of p ≡ p.ss) × (cond q p.at p.se ≡ p.se))
    end_case true e = inl (sym (eqb-true p.at (fork_of p) e), refl)
    end_case false e =
        let n = eqb-false p.at (fork_of p) e in
        inr ((λ z. n (sym z)), ⊎_elim (λ c. absurd (n (sym c.1))) (λ c. c.1) (start_cases p.ss p.se p.at), refl)

pub at_reach : (p : Position) → p.at ≤ p.se → p.at ≤ reach_of p
at_reach p l = ⊎_elim (λ c. let e : reach_of p ≡ p.at = c.1 in omega arith) (λ c. let e : reach_of p ≡ p.se = c.2 in omega arith) (end_cases p)

pub fork_at : (p : Position) → p.ss ≤ p.at → fork_of p ≤ p.at
fork_at p l = ⊎_elim (λ c. let e : fork_of p ≡ p.at = c.1 in omega arith) (λ c. let e : fork_of p ≡ p.ss = c.1 in omega arith) (start_cases p.ss p.se p.at)

pub ss_fork : (p : Position) → p.ss ≤ p.at → p.ss ≤ fork_of p
ss_fork p l = ⊎_elim (λ c. let e : fork_of p ≡ p.at = c.1 in omega arith) (λ c. let e : fork_of p ≡ p.ss = c.1 in omega arith) (start_cases p.ss p.se p.at)

pub at_le : (n : Member) → n.position.at ≤ n.position.se → n.position.at ≤ member_reach n
at_le n l = at_reach n.position l

pub fork_le : (n : Member) → n.position.ss ≤ n.position.at → member_fork n ≤ n.position.at
fork_le n l = fork_at n.position l

pub ss_le : (n : Member) → n.position.ss ≤ n.position.at → n.position.ss ≤ member_fork n
ss_le n l = ss_fork n.position l

-- a complete position means its number alone
pub whole_fork : (p : Position) → p.at ≡ p.se → fork_of p ≡ p.at
whole_fork p e = ⊎_elim (λ c. c.1) (λ c. absurd (c.0 e)) (start_cases p.ss p.se p.at)

pub whole_reach : (p : Position) → p.at ≡ p.se → reach_of p ≡ p.at
whole_reach p e = ⊎_elim (λ c. c.1) (λ c. c.2 ∙ sym e) (end_cases p)

-- a node stands on

pub comes_carried : (top : ℕ) (g v : Ground) → Extends top g v → (n : Member) (o : Option (List Change)) → Comes g n o → Comes v n o
comes_carried top g v e n None c = tt
comes_carried top g v e n (Some xs) c = (c.0, ⊎_elim (λ z. inl z) (λ r. inr (remains_same (hist g.tree n.br) (hist v.tree n.br) xs n.position.at n.position.se (sym (e.fronts n.br n.position.se r.1)) r.0, e.settled n.br n.position.se r.1, r.2)) c.1)

-- snapshots on their way stay good
pub flight_carried : (top : ℕ) (g v : Ground) → Extends top g v → (u from : ℕ) (xs : List (ℕ × List Change)) → Flight g u from xs → Flight v u from xs
flight_carried top g v e u from [] f = tt
flight_carried top g v e u from (x ∷ more) f = (
  covers_same (hist g.tree u) (hist v.tree u) x.1 from x.0 (sym (e.fronts u x.0 f.1)) f.0,
  e.settled u x.0 f.1,
  flight_carried top g v e u x.0 more f.2,
)

joined_carried : (top : ℕ) (g v : Ground) → Extends top g v → (n : Member) (l : Feed) (o : Option (List Change)) → Joined g n l o → Joined v n l o
joined_carried top g v e n l None j = (kin_carried top g v e n.br l.u (member_reach n) j.0, j.1, ancestry_carried top g v e l.log l.u (member_reach n) j.2, e.settled l.u n.position.at j.3)
joined_carried top g v e n l (Some xs) j = j

pub linked_carried : (top : ℕ) (g v : Ground) → Extends top g v → (n : Member) (o : Option (List Change)) (k : Option Feed) → Linked g n o k → Linked v n o k
linked_carried top g v e n o None j = tt
linked_carried top g v e n o (Some l) j = (joined_carried top g v e n l o j.0, flight_carried top g v e l.u (flight_from n o) l.flight j.1, j.2)

-- a node that is left alone stands as before
pub stands_carried : (top : ℕ) (g v : Ground) → Extends top g v → (n : Member) → Stands g n → Stands v n
stands_carried top g v e n s =
    let b : n.position.ss ≤ n.position.at = rises_le n.position.ss n.position.at (above n.held n.position.ss) s.follows.rises in
    record {
      rises = s.rises;
      follows = follows_grow top (hist g.tree n.br) (hist v.tree n.br) (above n.held n.position.ss) n.position.ss n.position.se n.position.at (image_of n.held) (e.low n.br) (e.high n.br)
          (sym (e.fronts n.br n.position.at s.settled)) (λ c i. e.grown n.br n.position.at c s.settled i) s.follows;
      settled = e.settled n.br n.position.at s.settled;
      ancestry = ancestry_carried top g v e n.log n.br (member_reach n) s.ancestry;
      comes = comes_carried top g v e n n.coming s.comes;
      linked = linked_carried top g v e n n.coming n.link s.linked;
      named = subst (λ x. HasPrepares (x ++ above n.held n.position.ss)) (sym (e.fronts n.br n.position.ss (settled_down g n.br n.position.ss n.position.at b s.settled))) s.named;
      forked = all_below (hist g.tree n.br) (hist v.tree n.br) n.held (member_fork n) n.position.at (fork_le n b) (sym (e.fronts n.br n.position.at s.settled)) s.forked;
      points = λ p i. let k = s.points p i in let f = fork_le n b in let o : p ≤ member_fork n = k.0 in
          (k.0, all_below (hist g.tree n.br) (hist v.tree n.br) n.held p n.position.at (omega arith) (sym (e.fronts n.br n.position.at s.settled)) k.1);
    }

-- a node with other links, or none
pub stands_unlinked : (g : Ground) (n : Member) (active : Bool) → Stands g n → Stands g (record n { active = active; coming = None; link = None })
stands_unlinked g n active t = record { rises = t.rises; follows = t.follows; settled = t.settled; ancestry = t.ancestry; comes = tt; linked = tt; named = t.named; forked = t.forked; points = t.points }
