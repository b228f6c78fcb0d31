-- own changes keep a cluster sound
use Rattle.std.proofs.Common.{◌≡◌, ℕ, ◌<◌, ◌≤◌, ◌+◌, Bool, true, false, cond, List, [], ◌∷◌, ◌++◌, eqb, refl, ap, sym, ◌∙◌, subst, inl, inr, ⊎_elim, arith}
use Rattle.std.specs.Prelude.{Option, Some, None, option_map}
use Rattle.std.proofs.lemmas.List.{append-nil}
use Rattle.std.proofs.lemmas.Bool.{cases_eq, eqb-true, eqb-false, eq-eqb, ne_eqb}
use Rattle.vb_types.specs.Images.{applied, image_of}
use Rattle.vb_types.specs.declared.change.Change.{Change}
use Rattle.vb_types.specs.Histories.{upto, Rises, IsIn}
use Rattle.branch_model.specs.Histories.{HasPrepares}
use Rattle.branch_model.specs.Trees.{Branch, hist, longer, grow, Grows, ForksBelow, branch}
use Rattle.vb_types.specs.declared.role.LogEntry.{LogEntry}
use Rattle.branch_model.specs.Logs.{Falls}
use Rattle.cluster_model.specs.Clusters.{Ground, Member, Disk, Cluster, ground, put, above, member_reach, member_fork, owned, spanned, Move, happens, May, IsGiven, Writes, Settled, Fulfils, HasAll, Stands, Kept, Leads, Forks, SoundCluster}
use Rattle.branch_model.proofs.Lists.{in_left, upto_all, rises_le, rises_push, rises_end}
use Rattle.branch_model.proofs.Following.{follows_complete, same_start}
use Rattle.branch_model.proofs.Branches.{hist_rises, grow_below, hist_grow_own, hist_grow_other, branch_grow, grows_grow, differ_grown, hist_end, branch_rises}
use Rattle.cluster_model.proofs.Prepares.{prepared_push}
use Rattle.cluster_model.proofs.Having.{all_same, all_kept, all_push}
use Rattle.cluster_model.proofs.Carrying.{above_none, upto_push, image_push, ancestry_front, Extends, ancestry_carried, fork_le, whole_fork, whole_reach, stands_carried}
use Rattle.cluster_model.proofs.Fitting.{fits_carried, fits_moved, fits_self, kept_on, kept_spanned}
use Rattle.cluster_model.proofs.Keeping.{put_all, put_both, writes_put, all_rise}

pub put_here : {A : Type 0} → (xs : ℕ → A) (k : ℕ) (x : A) (j : ℕ) → j ≡ k → put xs k x j ≡ x
put_here xs k x j e = ap (λ q. cond q x (xs j)) (eq-eqb j k e)

pub put_there : {A : Type 0} → (xs : ℕ → A) (k : ℕ) (x : A) (j : ℕ) → (j ≡ k → ⊥) → put xs k x j ≡ xs j
put_there xs k x j ne = ap (λ q. cond q x (xs j)) (ne_eqb j k ne)

-- what stays as it was on the same ground stays on one that extends it
pub forks_carried : (g v : Ground) → ((u n : ℕ) → Settled g u n → Settled v u n) → (bs : List Branch) → Forks g bs → Forks v bs
forks_carried g v e [] f = tt
forks_carried g v e (b ∷ older) f = ((λ p q. e p b.fork (f.0 p q)), forks_carried g v e older f.1)

pub leads_carried : (g v : Ground) (n : Member) → v.tips n.br ≡ g.tips n.br → Leads g n → Leads v n
leads_carried g v n e l = record { ss_at = l.ss_at; se_at = l.se_at; tip = l.tip ∙ sym e; front = l.front; falls = l.falls }

pub kept_carried : (top : ℕ) (g v : Ground) → Extends top g v → (n : Member) (d : Disk) → Stands g n → Kept g n d → Kept v n d
kept_carried top g v e n d t kp = kept_on top g v e n n t (stands_carried top g v e n t) (λ x l. refl) (λ x i. i) (λ q f. fits_carried top g v e n.br n.held n.position n.points q t.settled f) (λ f. f) d kp

-- an own change

known_grow : (tree : List Branch) (u : ℕ) (c : Change) (x : ℕ) → (b : Branch) × (branch tree x ≡ Some b) → (b : Branch) × (branch (grow tree u c) x ≡ Some b)
known_grow tree u c x s = (longer u c s.0, branch_grow tree u c x ∙ ap (option_map (longer u c)) s.1)

fork_grown : (u : ℕ) (c : Change) (o : Option Branch) → option_map (λ b. b.fork) (option_map (longer u c) o) ≡ option_map (λ b. b.fork) o
fork_grown u c None = refl
fork_grown u c (Some b) = refl

fork_grow : (tree : List Branch) (u : ℕ) (c : Change) (x : ℕ) → option_map (λ b. b.fork) (branch (grow tree u c) x) ≡ option_map (λ b. b.fork) (branch tree x)
fork_grow tree u c x = ap (option_map (λ b. b.fork)) (branch_grow tree u c x) ∙ fork_grown u c (branch tree x)

grown_floor : (tree : List Branch) (u : ℕ) (c : Change) (x n : ℕ) (b : Branch) → ((a : Branch) → branch tree x ≡ Some a → a.fork ≤ n) → branch (grow tree u c) x ≡ Some b → b.fork ≤ n
grown_floor tree u c x n b h e = floor (branch tree x) refl
  where
    floor : (o : Option Branch) → branch tree x ≡ o → b.fork ≤ n
    floor None q = let z : None ≡ Some b = ap (option_map (longer u c)) (sym q) ∙ sym (branch_grow tree u c x) ∙ e in cc
    floor (Some a) q = let z : Some (longer u c a) ≡ Some b = ap (option_map (longer u c)) (sym q) ∙ sym (branch_grow tree u c x) ∙ e in
        let y : longer u c a ≡ b = cc in let x : a.fork ≡ b.fork = ap (λ (r : Branch). r.fork) y in let i = h a q in omega arith

module _ (top : ℕ) (w : Cluster) (k : ℕ) (c : Change) (s : SoundCluster top w) (m : May top w (Move.Own k c)) where
  own_world : Cluster
  own_world = happens w (Move.Own k c)

  lead : Leads (ground w) (w.nodes k)
  lead = s.leads k m.0

  next : (c.seq ≡ (w.nodes k).position.at + 1) × (w.tips (w.nodes k).br < c.seq) × ((w.nodes k).position.at ≡ w.tips (w.nodes k).br)
  next = let y : c.seq ≡ (w.nodes k).position.at + 1 = m.1 in let z : (w.nodes k).position.at ≡ w.tips (w.nodes k).br = lead.tip in (y, omega arith, z)

  own_tips : (u n : ℕ) → n ≤ w.tips u → n ≤ put w.tips (w.nodes k).br c.seq u
  own_tips u n l = tips_case (eqb u (w.nodes k).br) refl
    where
      tips_case : (q : Bool) → eqb u (w.nodes k).br ≡ q → n ≤ cond q c.seq (w.tips u)
      tips_case true e = let z : w.tips u ≡ w.tips (w.nodes k).br = ap w.tips (eqb-true u (w.nodes k).br e) in let y : w.tips (w.nodes k).br < c.seq = next.1 in omega arith
      tips_case false e = l

  own_settled : (u n : ℕ) → Settled (ground w) u n → Settled (ground own_world) u n
  unfolding own_world
  own_settled u n st = (known_grow w.tree (w.nodes k).br c u st.0, own_tips u n st.1)

  forks_below : (bs : List Branch) → Forks (ground w) bs → ForksBelow (w.nodes k).br c.seq bs
  forks_below [] f = tt
  forks_below (b ∷ older) f = ((λ e. let q : b.fork ≤ w.tips (w.nodes k).br = (f.0 (w.nodes k).br e).1 in let y : w.tips (w.nodes k).br < c.seq = next.1 in omega arith), forks_below older f.1)

  own_hist : (u : ℕ) → (u ≡ (w.nodes k).br → ⊥) → hist (grow w.tree (w.nodes k).br c) u ≡ hist w.tree u
  own_hist u ne = hist_grow_other w.tree (w.nodes k).br c u ne (forks_below w.tree s.forks)

  own_longer : hist (grow w.tree (w.nodes k).br c) (w.nodes k).br ≡ hist w.tree (w.nodes k).br ++ c ∷ []
  own_longer = let b = (s.stands k).settled.0 in let f = s.floors (w.nodes k).br b.0 b.1 in let y : w.tips (w.nodes k).br < c.seq = next.1 in
      hist_grow_own w.tree (w.nodes k).br c b.0 b.1 (omega arith)

  own_fronts : (u n : ℕ) → Settled (ground w) u n → upto (hist own_world.tree u) n ≡ upto (hist w.tree u) n
  unfolding own_world
  own_fronts u n st = ⊎_elim
      (λ e. let z : n ≤ w.tips u = st.1 in let x : w.tips u ≡ w.tips (w.nodes k).br = ap w.tips e in let y : w.tips (w.nodes k).br < c.seq = next.1 in grow_below w.tree (w.nodes k).br c u n (omega arith))
      (λ ne. ap (λ x. upto x n) (own_hist u ne))
      (cases_eq u (w.nodes k).br)

  own_grown : (u n : ℕ) (d : Change) → Settled (ground w) u n → IsIn d (hist w.tree u) → IsIn d (hist own_world.tree u)
  unfolding own_world
  own_grown u n d st i = ⊎_elim
      (λ e. subst (λ h. IsIn d h) (sym (ap (hist (grow w.tree (w.nodes k).br c)) e ∙ own_longer)) (in_left d (hist w.tree (w.nodes k).br) (c ∷ []) (subst (λ x. IsIn d (hist w.tree x)) e i)))
      (λ ne. subst (λ h. IsIn d h) (sym (own_hist u ne)) i)
      (cases_eq u (w.nodes k).br)

  own_high : Rises 0 c.seq (hist w.tree (w.nodes k).br ++ c ∷ [])
  own_high = rises_push 0 (w.tips (w.nodes k).br) (hist w.tree (w.nodes k).br) c (s.tops (w.nodes k).br) next.1

  own_grows : Grows top (grow w.tree (w.nodes k).br c)
  own_grows =
      let n = w.nodes k in
      let b = (s.stands k).settled.0 in
      let f = s.floors n.br b.0 b.1 in
      let he = hist_end w.tree n.br b.0 b.1 in
      grows_grow top (w.tips n.br) w.tree n.br c b.0 s.grows s.differ b.1
      (rises_end 0 (w.tips n.br) b.0.fork top he.0 b.0.own (subst (λ x. Rises 0 (w.tips n.br) x) he.1 (s.tops n.br)) (branch_rises top w.tree n.br b.0 s.grows b.1) f) next.1 m.2

  own_extends : Extends top (ground w) (ground own_world)
  unfolding own_world
  own_extends = record { settled = own_settled; fronts = own_fronts; grown = own_grown; forks = λ u f e. fork_grow w.tree (w.nodes k).br c u ∙ e; low = all_rise top w s; high = λ u. hist_rises top (grow w.tree (w.nodes k).br c) u own_grows }

  own_self : Settled (ground own_world) (w.nodes k).br c.seq
  unfolding own_world
  own_self = (known_grow w.tree (w.nodes k).br c (w.nodes k).br (s.stands k).settled.0, let e : put w.tips (w.nodes k).br c.seq (w.nodes k).br ≡ c.seq = put_here w.tips (w.nodes k).br c.seq (w.nodes k).br refl in omega arith)

  own_old : image_of (w.nodes k).held ≡ image_of (hist w.tree (w.nodes k).br)
  own_old =
      let n = w.nodes k in
      let t = s.stands k in
      let h = hist w.tree n.br in
      follows_complete top h (above n.held n.position.ss) n.position.ss n.position.se n.position.at (image_of n.held) (hist_rises top w.tree n.br s.grows) t.follows (sym lead.se_at)
      ∙ ap image_of (upto_all 0 (w.tips n.br) n.position.se h (s.tops n.br) (let q : n.position.se ≡ n.position.at = lead.se_at in let r : n.position.at ≡ w.tips n.br = lead.tip in omega arith))

  own_prepared : HasPrepares (hist w.tree (w.nodes k).br ++ c ∷ [])
  own_prepared =
      let n = w.nodes k in
      prepared_push (w.tips n.br) (hist w.tree n.br) c (s.tops n.br) next.1 (s.prepared n.br) (subst (λ p. Fulfils p c) own_old m.3)

  own_stands : Stands (ground own_world) (owned (w.nodes k) c)
  unfolding own_world
  own_stands =
      let n = w.nodes k in
      let t = s.stands k in
      let v = owned n c in
      let g = ground own_world in
      let y : c.seq ≡ n.position.at + 1 = next.0 in
      let h = hist w.tree n.br in
      let tree = grow w.tree n.br c in
      let fv : member_fork v ≡ c.seq = whole_fork v.position refl in
      let up : upto (hist tree n.br) c.seq ≡ h ++ c ∷ [] = ap (λ x. upto x c.seq) own_longer ∙ upto_all 0 c.seq c.seq (h ++ c ∷ []) own_high (omega arith) in
      let im : image_of (n.held ++ c ∷ []) ≡ image_of (upto (hist tree n.br) c.seq) =
      image_push n.held c ∙ ap (λ p. applied p c) own_old ∙ sym (image_push h c) ∙ ap image_of (sym up) in
      let rs = rises_push 0 n.position.at n.held c t.rises (omega arith) in
      let b : n.position.ss ≤ n.position.at = rises_le n.position.ss n.position.at (above n.held n.position.ss) t.follows.rises in
      let al : HasAll (hist tree n.br) (n.held ++ c ∷ []) c.seq = subst (λ x. HasAll x (n.held ++ c ∷ []) c.seq) (sym own_longer)
      (all_push n.position.at h n.held c (subst (λ x. Rises 0 x h) (sym lead.tip) (s.tops n.br)) t.rises (omega arith) (subst (HasAll h n.held) (whole_fork n.position (sym lead.se_at)) t.forked)) in
      record {
        rises = rs;
        follows = same_start (hist tree n.br) (above (n.held ++ c ∷ []) c.seq) c.seq c.seq c.seq (image_of (n.held ++ c ∷ [])) (omega arith) refl (above_none 0 c.seq c.seq (n.held ++ c ∷ []) rs (omega arith)) im;
        settled = own_self;
        ancestry = ancestry_front g n.log n.br (member_reach n) (member_reach v) c.seq lead.front own_self (ancestry_carried top (ground w) g own_extends n.log n.br (member_reach n) t.ancestry);
        comes = tt;
        linked = tt;
        named = subst (λ x. HasPrepares (upto (hist tree n.br) c.seq ++ x)) (sym (above_none 0 c.seq c.seq (n.held ++ c ∷ []) rs (omega arith)))
            (subst HasPrepares (sym (append-nil (upto (hist tree n.br) c.seq) ∙ up)) own_prepared);
        forked = subst (HasAll (hist tree n.br) (n.held ++ c ∷ [])) (sym fv) al;
        points = λ p i. ⊎_elim
            (λ e. (let x : p ≡ c.seq = e in omega arith, subst (HasAll (hist tree n.br) (n.held ++ c ∷ [])) (sym e) al))
            (λ j. let q = t.points p j in let pl : p ≤ member_fork n = q.0 in let fl = fork_le n b in
            (omega arith, all_kept (hist tree n.br) n.held (n.held ++ c ∷ []) p (sym (upto_push n.held c p (omega arith))) (all_same h (hist tree n.br) n.held p (sym (grow_below w.tree n.br c n.br p (omega arith))) q.1)))
            i;
      }

  own_kept : Kept (ground own_world) (owned (w.nodes k) c) (spanned (w.disks k) (owned (w.nodes k) c).position)
  unfolding own_world
  own_kept =
      let n = w.nodes k in
      let t = s.stands k in
      let v = owned n c in
      let g = ground own_world in
      let y : c.seq ≡ n.position.at + 1 = next.0 in
      let b : n.position.ss ≤ n.position.at = rises_le n.position.ss n.position.at (above n.held n.position.ss) t.follows.rises in
      let fn : member_fork n ≡ n.position.at = whole_fork n.position (sym lead.se_at) in
      let rn : member_reach n ≡ n.position.at = whole_reach n.position (sym lead.se_at) in
      let fv : member_fork v ≡ c.seq = whole_fork v.position refl in
      let rv : member_reach v ≡ c.seq = whole_reach v.position refl in
      let same : (x : ℕ) → x ≤ n.position.at → upto n.held x ≡ upto v.held x = λ x l. sym (upto_push n.held c x (omega arith)) in
      kept_spanned g v (w.disks k) v.position (fits_self g v own_stands (λ e. inl refl)) lead.front
      (kept_on top (ground w) g own_extends n v t own_stands same (λ x i. inr i)
      (λ q f. fits_moved g n.br n.held v.held n.position v.position n.points v.points q same (omega arith) (omega arith) (omega arith) (inr (omega arith)) (λ x i. inr i) (λ x i. ⊎_elim (λ e. let z : x ≡ c.seq = e in inr (omega arith)) (λ j. inl j) i)
      (fits_carried top (ground w) g own_extends n.br n.held n.position n.points q t.settled f))
      (λ z. z) (w.disks k) (s.kept k))

  own_falls : (log : List LogEntry) → Falls log (w.nodes k).position.at → Falls log c.seq
  own_falls [] f = tt
  own_falls (e ∷ older) f = (let q : e.seq ≤ (w.nodes k).position.at = f.0 in let y : c.seq ≡ (w.nodes k).position.at + 1 = next.0 in omega arith, f.1)

  own_leads : Leads (ground own_world) (owned (w.nodes k) c)
  unfolding own_world
  own_leads = record { ss_at = refl; se_at = refl; tip = sym (put_here w.tips (w.nodes k).br c.seq (w.nodes k).br refl); front = lead.front; falls = own_falls (w.nodes k).log lead.falls }

  own_all_leads : (j : ℕ) → (put w.nodes k (owned (w.nodes k) c) j).active ≡ true → Leads (ground own_world) (put w.nodes k (owned (w.nodes k) c) j)
  unfolding own_world
  own_all_leads j = leads_case (eqb j k) refl
    where
      leads_case : (q : Bool) → eqb j k ≡ q → (cond q (owned (w.nodes k) c) (w.nodes j)).active ≡ true → Leads (ground own_world) (cond q (owned (w.nodes k) c) (w.nodes j))
      leads_case true e a = own_leads
      leads_case false e a = leads_carried (ground w) (ground own_world) (w.nodes j)
          (put_there w.tips (w.nodes k).br c.seq (w.nodes j).br (λ x. eqb-false j k e (s.alone j k (w.nodes k).br (inl (a, x)) (inl (m.0, refl))))) (s.leads j a)

  grown_forks : (bs : List Branch) → Forks (ground own_world) bs → Forks (ground own_world) (grow bs (w.nodes k).br c)
  unfolding own_world
  grown_forks [] f = tt
  grown_forks (b ∷ older) f = (f.0, grown_forks older f.1)

  own_tops : (u : ℕ) → Rises 0 (put w.tips (w.nodes k).br c.seq u) (hist (grow w.tree (w.nodes k).br c) u)
  own_tops u = ⊎_elim
      (λ e. subst (λ x. Rises 0 x (hist (grow w.tree (w.nodes k).br c) u)) (sym (put_here w.tips (w.nodes k).br c.seq u e))
      (subst (λ h. Rises 0 c.seq h) (sym (ap (hist (grow w.tree (w.nodes k).br c)) e ∙ own_longer)) own_high))
      (λ ne. subst (λ x. Rises 0 x (hist (grow w.tree (w.nodes k).br c) u)) (sym (put_there w.tips (w.nodes k).br c.seq u ne))
      (subst (λ h. Rises 0 (w.tips u) h) (sym (own_hist u ne)) (s.tops u)))
      (cases_eq u (w.nodes k).br)

  own_writes : (u : ℕ) → Writes u (owned (w.nodes k) c) → Writes u (w.nodes k)
  own_writes u x = ⊎_elim (λ a. inl a) (λ r. absurd r.1) x

  own_given : (j u n : ℕ) → IsGiven u n (put w.nodes k (owned (w.nodes k) c) j).link → n ≡ put w.tips (w.nodes k).br c.seq u
  own_given j u n = given_case (eqb j k) refl
    where
      given_case : (q : Bool) → eqb j k ≡ q → IsGiven u n (cond q (owned (w.nodes k) c) (w.nodes j)).link → n ≡ put w.tips (w.nodes k).br c.seq u
      given_case true e x = absurd x
      given_case false e x = s.given j u n x ∙ sym (put_there w.tips (w.nodes k).br c.seq u (λ h. eqb-false j k e (s.alone j k u (inr (n, x)) (inl (m.0, sym h)))))

  pub own_keeps : SoundCluster top (happens w (Move.Own k c))
  unfolding own_world
  own_keeps =
      let n = w.nodes k in
      let e = own_extends in
      record {
        grows = own_grows;
        differ = differ_grown w.tree n.br c s.differ;
        root = own_settled 0 0 s.root;
        tops = own_tops;
        floors = λ u b q. own_tips u b.fork (grown_floor w.tree n.br c u (w.tips u) b (s.floors u) q);
        prepared = λ u. ⊎_elim
            (λ x. subst HasPrepares (sym (ap (hist (grow w.tree n.br c)) x ∙ own_longer)) own_prepared)
            (λ ne. subst HasPrepares (sym (own_hist u ne)) (s.prepared u))
            (cases_eq u n.br);
        forks = grown_forks w.tree (forks_carried (ground w) (ground own_world) own_settled w.tree s.forks);
        stands = put_all (Stands (ground own_world)) w.nodes k (owned n c) own_stands (λ j. stands_carried top (ground w) (ground own_world) e (w.nodes j) (s.stands j));
        kept = put_both (Kept (ground own_world)) w.nodes w.disks k (owned n c) (spanned (w.disks k) (owned n c).position) own_kept (λ j. kept_carried top (ground w) (ground own_world) e (w.nodes j) (w.disks j) (s.stands j) (s.kept j));
        leads = own_all_leads;
        alone = λ i j u a b. s.alone i j u (writes_put w.nodes k (owned n c) own_writes i u a) (writes_put w.nodes k (owned n c) own_writes j u b);
        given = own_given;
      }

  pub own_goes_on : Extends top (ground w) (ground (happens w (Move.Own k c)))
  unfolding own_world
  own_goes_on = own_extends
