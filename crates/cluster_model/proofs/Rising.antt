-- a branch that is given up, and taken over, keeps a cluster sound
use Rattle.std.proofs.Common.{◌≡◌, ℕ, ◌≤◌, Bool, true, false, cond, List, [], ◌∷◌, eqb, refl, ap, sym, ◌∙◌, subst, inl, inr, ⊎_elim, arith}
use Rattle.std.specs.Prelude.{Option, Some, None, ◌⊎◌, option_map}
use Rattle.std.proofs.lemmas.Bool.{eqb-true, eqb-false}
use Rattle.vb_types.specs.Images.{image_of}
use Rattle.vb_types.specs.declared.change.Change.{Change}
use Rattle.vb_types.specs.Histories.{upto}
use Rattle.branch_model.specs.Trees.{Branch, hist, branch}
use Rattle.vb_types.specs.declared.role.LogEntry.{LogEntry}
use Rattle.branch_model.specs.Logs.{Falls, FallsByAge, AtForks, IsFront}
use Rattle.cluster_model.specs.Clusters.{Ground, Feed, Member, Disk, Cluster, ground, put, above, member_reach, member_fork, yielded, risen, ceded, Move, happens, May, IsFedOf, IsGiven, Writes, Joined, Linked, HasAll, Stands, Kept, Leads, SoundCluster}
use Rattle.branch_model.proofs.Lists.{rises_le}
use Rattle.branch_model.proofs.Following.{follows_complete, same_start}
use Rattle.branch_model.proofs.Branches.{hist_rises}
use Rattle.cluster_model.proofs.Carrying.{above_none, ancestry_front, fork_le, whole_fork, whole_reach, stands_unlinked}
use Rattle.cluster_model.proofs.Fitting.{fits_moved, kept_on, kept_unlinked, stays}
use Rattle.cluster_model.proofs.Keeping.{put_all, node_sound, all_rise}
use Rattle.cluster_model.proofs.Receiving.{complete_named, open_front}

-- the producer gives its branch up

ceded_stands : (g : Ground) (n : Member) (k : Option Feed) (high : ℕ) → n.link ≡ k → Stands g n → Stands g (ceded n k high)
ceded_stands g n None high e t = t
ceded_stands g n (Some l) high e t =
    record {
      rises = t.rises;
      follows = t.follows;
      settled = t.settled;
      ancestry = t.ancestry;
      comes = t.comes;
      linked = let lk : Linked g n n.coming (Some l) = subst (λ k. Linked g n n.coming k) e t.linked in (joined n.coming lk.0, lk.1, lk.2);
      named = t.named;
      forked = t.forked;
      points = t.points;
    }
  where
    joined : (o : Option (List Change)) → Joined g n l o → Joined g (ceded n (Some l) high) (record l { given = Some high }) o
    joined None j = j
    joined (Some xs) j = j

ceded_kept : (g : Ground) (n : Member) (d : Disk) (k : Option Feed) (high : ℕ) → Kept g n d → Kept g (ceded n k high) d
ceded_kept g n d None high kp = kp
ceded_kept g n d (Some l) high kp = kept_unlinked g n d n.active n.coming (ceded n (Some l) high).link kp

ceded_active : (n : Member) (k : Option Feed) (high : ℕ) → (ceded n k high).active ≡ n.active
ceded_active n None high = refl
ceded_active n (Some l) high = refl

-- what it lets the consumer write on is its branch
ceded_right : (n : Member) (k : Option Feed) (high br u m : ℕ) → IsFedOf br k → n.link ≡ k → IsGiven u m (ceded n k high).link → (u ≡ br) × (m ≡ high)
ceded_right n None high br u m f e r = absurd f
ceded_right n (Some l) high br u m f e r = (sym r.1 ∙ f, let z : Some high ≡ Some m = r.0 in let y : high ≡ m = cc in sym y)

put_kept : (g : Ground) (nodes : ℕ → Member) (disks : ℕ → Disk) (k : ℕ) (n : Member) → Kept g n (disks k) → ((j : ℕ) → Kept g (nodes j) (disks j)) → (j : ℕ) → Kept g (put nodes k n j) (disks j)
put_kept g nodes disks k n p h j = kept_case (eqb j k) refl
  where
    kept_case : (q : Bool) → eqb j k ≡ q → Kept g (cond q n (nodes j)) (disks j)
    kept_case true e = subst (λ i. Kept g n (disks i)) (sym (eqb-true j k e)) p
    kept_case false e = h j

module _ (top : ℕ) (w : Cluster) (k p : ℕ) (s : SoundCluster top w) (m : May top w (Move.Cede k p)) where
  pub ceded_who : (j u : ℕ) → Writes u (put (put w.nodes p (yielded (w.nodes p))) k (ceded (w.nodes k) (w.nodes k).link (w.nodes p).position.at) j) → ((j ≡ k) × (u ≡ (w.nodes p).br)) ⊎ (Writes u (w.nodes j) × (u ≡ (w.nodes p).br → ⊥))
  ceded_who j u = who_case (eqb j k) (eqb j p) refl refl
    where
      who_case : (q r : Bool) → eqb j k ≡ q → eqb j p ≡ r → Writes u (cond q (ceded (w.nodes k) (w.nodes k).link (w.nodes p).position.at) (cond r (yielded (w.nodes p)) (w.nodes j))) → ((j ≡ k) × (u ≡ (w.nodes p).br)) ⊎ (Writes u (w.nodes j) × (u ≡ (w.nodes p).br → ⊥))
      who_case true r e f x = inl (
        eqb-true j k e,
        ⊎_elim
            (λ a. let z : false ≡ true = sym (ceded_active (w.nodes k) (w.nodes k).link (w.nodes p).position.at ∙ m.0) ∙ a.0 in cc)
            (λ h. (ceded_right (w.nodes k) (w.nodes k).link (w.nodes p).position.at (w.nodes p).br u h.0 m.2 refl h.1).0) x,
      )
      who_case false true e f x = ⊎_elim (λ a. let z : false ≡ true = a.0 in cc) (λ h. absurd h.1) x
      who_case false false e f x = inr (x, λ i. eqb-false j p f (s.alone j p u x (inl (m.1, sym i))))

  pub cede_keeps : SoundCluster top (happens w (Move.Cede k p))
  cede_keeps =
      let g = ground w in
      let n = w.nodes k in
      let b = w.nodes p in
      record {
        grows = s.grows;
        differ = s.differ;
        forks = s.forks;
        root = s.root;
        tops = s.tops;
        floors = s.floors;
        prepared = s.prepared;
        stands = put_all (Stands g) (put w.nodes p (yielded b)) k (ceded n n.link b.position.at) (ceded_stands g n n.link b.position.at refl (s.stands k)) (put_all (Stands g) w.nodes p (yielded b) (stands_unlinked g b false (s.stands p)) s.stands);
        kept = put_kept g (put w.nodes p (yielded b)) w.disks k (ceded n n.link b.position.at) (ceded_kept g n (w.disks k) n.link b.position.at (s.kept k)) (put_kept g w.nodes w.disks p (yielded b) (kept_unlinked g b (w.disks p) false None None (s.kept p)) s.kept);
        leads = put_all (λ (x : Member). x.active ≡ true → Leads g x) (put w.nodes p (yielded b)) k (ceded n n.link b.position.at) (λ a. let z : false ≡ true = sym (ceded_active n n.link b.position.at ∙ m.0) ∙ a in cc)
            (put_all (λ (x : Member). x.active ≡ true → Leads g x) w.nodes p (yielded b) (λ a. let z : false ≡ true = a in cc) s.leads);
        alone = λ i j u a c. ⊎_elim
            (λ x. ⊎_elim (λ y. x.0 ∙ sym y.0) (λ y. absurd (y.1 x.1)) (ceded_who j u c))
            (λ x. ⊎_elim (λ y. absurd (x.1 y.1)) (λ y. s.alone i j u x.0 y.0) (ceded_who j u c))
            (ceded_who i u a);
        given = put_all (λ (x : Member). (u x_at : ℕ) → IsGiven u x_at x.link → x_at ≡ w.tips u) (put w.nodes p (yielded b)) k (ceded n n.link b.position.at)
            (λ u x r. let h = ceded_right n n.link b.position.at b.br u x m.2 refl r in h.1 ∙ (s.leads p m.1).tip ∙ ap w.tips (sym h.0))
            (put_all (λ (x : Member). (u x_at : ℕ) → IsGiven u x_at x.link → x_at ≡ w.tips u) w.nodes p (yielded b) (λ u x r. absurd r) s.given);
      }

-- the consumer takes it over

risen_stands : (top : ℕ) (w : Cluster) (n : Member) → SoundCluster top w → Stands (ground w) n → IsFront n.log n.br → n.position.at ≡ n.position.se → Stands (ground w) (risen n)
risen_stands top w n s t f e =
    let g = ground w in
    let v = risen n in
    let h = hist w.tree n.br in
    let fv : member_fork v ≡ n.position.at = whole_fork v.position refl in
    record {
      rises = t.rises;
      follows = same_start h (above n.held n.position.at) n.position.at n.position.at n.position.at (image_of n.held) (omega arith) refl (above_none 0 n.position.at n.position.at n.held t.rises (omega arith))
          (follows_complete top h (above n.held n.position.ss) n.position.ss n.position.se n.position.at (image_of n.held) (hist_rises top w.tree n.br s.grows) t.follows e ∙ ap (λ x. image_of (upto h x)) (sym e));
      settled = t.settled;
      ancestry = ancestry_front g n.log n.br (member_reach n) (member_reach v) n.position.at f t.settled t.ancestry;
      comes = tt;
      linked = tt;
      named = complete_named g n n.position.at t (s.prepared n.br) (omega arith);
      forked = subst (HasAll h n.held) (whole_fork n.position e ∙ sym fv) t.forked;
      points = λ x i. let q = t.points x i in let pl : x ≤ member_fork n = q.0 in let fl = fork_le n (rises_le n.position.ss n.position.at (above n.held n.position.ss) t.follows.rises) in (omega arith, q.1);
    }

front_falls : (g : Ground) (log : List LogEntry) (b : Branch) (u n : ℕ) → IsFront log u → AtForks g.tree log → FallsByAge log → branch g.tree u ≡ Some b → b.fork ≤ n → Falls log n
front_falls g [] b u n f a h e l = tt
front_falls g (x ∷ older) b u n f a h e l =
    let y : Some b.fork ≡ Some x.seq = ap (option_map (λ (z : Branch). z.fork)) (sym e ∙ ap (branch g.tree) (sym f)) ∙ a.0 in
    let z : b.fork ≡ x.seq = cc in (omega arith, h)

pub rise_keeps : (top : ℕ) (w : Cluster) (k : ℕ) → SoundCluster top w → May top w (Move.Rise k) → SoundCluster top (happens w (Move.Rise k))
rise_keeps top w k s m =
    let g = ground w in
    let n = w.nodes k in
    let v = risen n in
    let t = s.stands k in
    let f : IsFront n.log n.br = open_front g n n.coming m.1 t.comes in
    let tv = risen_stands top w n s t f m.2 in
    let fn : member_fork n ≡ n.position.at = whole_fork n.position m.2 in
    let rn : member_reach n ≡ n.position.at = whole_reach n.position m.2 in
    let fv : member_fork v ≡ n.position.at = whole_fork v.position refl in
    let rv : member_reach v ≡ n.position.at = whole_reach v.position refl in
    let b = t.settled.0 in
    let fl : b.0.fork ≤ w.tips n.br = s.floors n.br b.0 b.1 in
    let et : n.position.at ≡ w.tips n.br = s.given k n.br n.position.at m.3 in
    node_sound top w k v (w.disks k) s tv
    (kept_on top g g (stays top g (all_rise top w s)) n v t tv (λ x l. refl) (λ x i. i)
    (λ q. fits_moved g n.br n.held n.held n.position v.position n.points n.points q (λ x l. refl) (omega arith) (omega arith) (omega arith) (inr (omega arith)) (λ x i. i) (λ x i. inl i))
    (λ z. z) (w.disks k) (s.kept k))
    (λ a. record { ss_at = refl; se_at = refl; tip = et; front = f; falls = front_falls g n.log b.0 n.br n.position.at f t.ancestry.at_forks t.ancestry.falls b.1 (omega arith) })
    (λ u x. ⊎_elim (λ a. inr (n.position.at, subst (λ y. IsGiven y n.position.at n.link) a.1 m.3)) (λ r. absurd r.1) x) (λ u x r. absurd r)
