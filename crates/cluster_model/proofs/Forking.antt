-- new branches keep a cluster sound
use Rattle.std.proofs.Common.{◌≡◌, ℕ, ◌<◌, ◌≤◌, Bool, true, false, cond, List, [], ◌∷◌, ◌++◌, leb, ltb, eqb, refl, ap, sym, ◌∙◌, subst, inl, inr, ⊎_elim, arith}
use Rattle.std.specs.Prelude.{Option, Some, None, ◌⊎◌, option_map}
use Rattle.std.proofs.lemmas.List.{append-nil, length-take}
use Rattle.std.proofs.lemmas.List.Sums.{fold-append}
use Rattle.std.proofs.lemmas.Bool.{cases_eq, cases_lt, eq-eqb, ne_eqb, eqb-true, ltb-true}
use Rattle.vb_types.specs.Images.{applied, nothing, image_of}
use Rattle.vb_types.specs.declared.change.Change.{Change}
use Rattle.vb_types.specs.declared.position.Position.{Position}
use Rattle.vb_types.specs.Histories.{upto, Rises, IsIn}
use Rattle.branch_model.specs.Histories.{HasPrepares}
use Rattle.branch_model.specs.Snapshots.{Follows, AllOf}
use Rattle.branch_model.specs.Trees.{Branch, hist, branch, Shared, Grows}
use Rattle.vb_types.specs.declared.role.LogEntry.{LogEntry}
use Rattle.branch_model.specs.Logs.{AncestryBy, Traces, kept_to, with_entry, Lacks}
use Rattle.branch_model.specs.Requests.{fork_of, reach_of}
use Rattle.cluster_model.specs.Clusters.{Ground, Feed, Member, Cluster, ground, put, above, member_reach, member_fork, promoted, made, front_or, Move, happens, May, IsGiven, HasRight, Writes, Settled, Kin, Linked, HasAll, Stands, Exact, Near, Fits, Kept, Leads, SoundCluster}
use Rattle.branch_model.proofs.Lists.{in_append, in_left, in_right, from_upto, upto_in, upto-upto, upto-append, upto_none, upto_all, rises_le, rises_higher, rises_upto, rises_append}
use Rattle.branch_model.proofs.Following.{follows_complete, follows_reach, same_start}
use Rattle.branch_model.proofs.Images.{plain_stands}
use Rattle.branch_model.proofs.Branches.{hist_rises, new_from_none, fork_shared, hist_here, hist_there}
use Rattle.cluster_model.proofs.Prepares.{prepared_upto}
use Rattle.cluster_model.proofs.Having.{all_same, all_forked, all_of}
use Rattle.branch_model.proofs.Ruling.{traces_base, traces_keep, reach_cases}
use Rattle.branch_model.proofs.Lasts.{rises_above}
use Rattle.cluster_model.proofs.Carrying.{above_none, in_above, still_above, settled_down, kin_down, kin_trans, kin_refl, kin_shared, kin_settled, kin_known, kin_carried, traces_map, Extends, at_forks_carried, at_le, fork_le, ss_le, whole_fork, whole_reach, start_cases, stands_carried}
use Rattle.cluster_model.proofs.Fitting.{follows_whole, fits_fork, kept_on}
use Rattle.cluster_model.proofs.Keeping.{put_all, put_both, all_rise}
use Rattle.cluster_model.proofs.Receiving.{marked_named}
use Rattle.cluster_model.proofs.Making.{put_here, put_there, forks_carried, leads_carried, kept_carried}
use Rattle.branch_model.proofs.Entries.{lacks_kept, distinct_kept, forks_kept, falls_kept_to, lacks_take, distinct_take, forks_take, falls_take, traces_take}

-- a branch of which a node may come to be the writer is there
right_known : (g : Ground) (n : Member) (u : ℕ) (o : Option (List Change)) (k : Option Feed) → Settled g n.br n.position.at → Linked g n o k → HasRight u k → Settled g u 0
right_known g n u o None st lk r = absurd r.1
right_known g n u None (Some l) st lk r = subst (λ x. Settled g x 0) r.1.1 (settled_down g l.u 0 n.position.at (omega arith) lk.0.3)
right_known g n u (Some xs) (Some l) st lk r = subst (λ x. Settled g x 0) (lk.0 ∙ r.1.1) (settled_down g n.br 0 n.position.at (omega arith) st)

pub writes_known : (g : Ground) (n : Member) (u : ℕ) → Stands g n → Writes u n → Settled g u 0
writes_known g n u t x = ⊎_elim
    (λ a. subst (λ y. Settled g y 0) a.1 (settled_down g n.br 0 n.position.at (omega arith) t.settled))
    (λ r. right_known g n u n.coming n.link t.settled t.linked r) x

-- where a node could stand, it still could on the branch that it made
module _ (h k held : List Change) (p : Position) (l : fork_of p ≤ p.at) (e : k ≡ upto h (fork_of p) ++ above held (fork_of p)) (rh : Rises (fork_of p) p.at (above held (fork_of p))) where
  new_front : (m : ℕ) → m ≤ fork_of p → upto h m ≡ upto k m
  new_front m a = sym (
      ap (λ x. upto x m) e
      ∙ upto-append (upto h (fork_of p)) (above held (fork_of p)) m
      ∙ ap (λ x. upto (upto h (fork_of p)) m ++ x) (upto_none (fork_of p) p.at m (above held (fork_of p)) rh a)
      ∙ append-nil (upto (upto h (fork_of p)) m)
      ∙ upto-upto h m (fork_of p) a)

  new_either : (c : Change) → IsIn c k → (IsIn c h × (c.seq ≤ fork_of p)) ⊎ (IsIn c held × (fork_of p < c.seq))
  new_either c i = ⊎_elim
      (λ j. inl (from_upto c h (fork_of p) j))
      (λ j. inr (in_above c held (fork_of p) j))
      (in_append c (upto h (fork_of p)) (above held (fork_of p)) (subst (λ x. IsIn c x) e i))

  new_exact : (q : Position) → q.ss ≡ fork_of p → Exact k held q
  new_exact q s c i a b = ⊎_elim (λ j. let z : c.seq ≤ fork_of p = j.1 in absurd (omega arith)) (λ j. j.0) (new_either c i)

  keep_exact : (q : Position) → Exact h held q → Exact k held q
  keep_exact q x c i a b = ⊎_elim (λ j. x c j.0 a b) (λ j. j.0) (new_either c i)

  new_of : (q : Position) → AllOf (above (upto held q.at) q.ss) h → AllOf (above (upto held q.at) q.ss) k
  new_of q of x i =
      let j = in_above x (upto held q.at) q.ss i in
      let y = from_upto x held q.at j.0 in
      ⊎_elim
      (λ (a : fork_of p < x.seq). (x, subst (λ z. IsIn x z) (sym e) (in_right x (upto h (fork_of p)) (above held (fork_of p)) (still_above x held (fork_of p) y.0 a)), inl refl))
      (λ (a : x.seq ≤ fork_of p).
      let o = of x i in
      let sq : x.seq ≡ o.0.seq = ap (λ (z : Change). z.seq) (plain_stands x o.0 o.2) in
      (o.0, subst (λ z. IsIn o.0 z) (sym e) (in_left o.0 (upto h (fork_of p)) (above held (fork_of p)) (upto_in o.0 h (fork_of p) o.1 (omega arith))), o.2))
      (cases_lt (fork_of p) x.seq)

  promoted_follows : (q : Position) → q.ss ≤ fork_of p → Near h held p q → Follows h q (above (upto held q.at) q.ss) (image_of (upto held q.at))
      → Follows k q (above (upto held q.at) q.ss) (image_of (upto held q.at)) × ((reach_of q ≤ fork_of p) ⊎ Exact k held q)
  promoted_follows q s (Near.Before a) f =
      (follows_reach h k (above (upto held q.at) q.ss) q.ss q.se q.at (reach_of q) (image_of (upto held q.at)) (reach_cases q.ss q.se q.at) (new_front (reach_of q) a) f, inl a)
  promoted_follows q s (Near.Inside a b) f = let x = new_exact q a in (follows_whole h k held q (image_of (upto held q.at)) f (new_front q.ss s) x (new_of q f.of), inr x)
  promoted_follows q s (Near.Whole y) f = let x = keep_exact q y in (follows_whole h k held q (image_of (upto held q.at)) f (new_front q.ss s) x (new_of q f.of), inr x)

pub fits_promoted : (g v : Ground) (br id : ℕ) (held : List Change) (p : Position) (points : List ℕ) (q : Position) → fork_of p ≤ p.at → hist v.tree id ≡ upto (hist g.tree br) (fork_of p) ++ above held (fork_of p) → Rises (fork_of p) p.at (above held (fork_of p)) → fork_of q ≤ fork_of p
    → Fits g br held p points q → Fits v id held (record { ss = p.at; se = p.at; at = p.at }) points q
fits_promoted g v br id held p points q l e rh lq f =
    let r : Position = record { ss = p.at; se = p.at; at = p.at } in
    let s : q.ss ≤ fork_of p = f.starts in
    let k = promoted_follows (hist g.tree br) (hist v.tree id) held p l e rh q s f.near f.follows in
    let fr : fork_of r ≡ p.at = whole_fork r refl in
    record {
      reached = f.reached;
      starts = omega arith;
      follows = k.0;
      named = subst (λ x. HasPrepares (x ++ above (upto held q.at) q.ss)) (new_front (hist g.tree br) (hist v.tree id) held p l e rh q.ss s) f.named;
      near = ⊎_elim (λ a. Near.Before (omega arith)) (λ x. Near.Whole x) k.1;
      forked = all_same (hist g.tree br) (hist v.tree id) held (fork_of q) (new_front (hist g.tree br) (hist v.tree id) held p l e rh (fork_of q) lq) f.forked;
      below = f.below;
      marked = f.marked;
    }

-- a new branch

module _ (top : ℕ) (w : Cluster) (k id : ℕ) (s : SoundCluster top w) (m : May top w (Move.Promote k id)) where
  new_world : Cluster
  new_world = happens w (Move.Promote k id)

  other_id : (u n : ℕ) → Settled (ground w) u n → id ≡ u → ⊥
  other_id u n st e = let q : None ≡ Some st.0.0 = sym m.1 ∙ ap (branch w.tree) e ∙ st.0.1 in cc

  there : (u : ℕ) → (id ≡ u → ⊥) → branch (made (w.nodes k) id ∷ w.tree) u ≡ branch w.tree u
  there u ne = ap (λ q. cond q (Some (made (w.nodes k) id)) (branch w.tree u)) (ne_eqb id u ne)

  here : branch (made (w.nodes k) id ∷ w.tree) id ≡ Some (made (w.nodes k) id)
  here = ap (λ q. cond q (Some (made (w.nodes k) id)) (branch w.tree id)) (eq-eqb id id refl)

  new_tip : (u : ℕ) → (id ≡ u → ⊥) → put w.tips id (w.nodes k).position.at u ≡ w.tips u
  new_tip u ne = put_there w.tips id (w.nodes k).position.at u (λ e. ne (sym e))

  new_settled : (u n : ℕ) → Settled (ground w) u n → Settled (ground new_world) u n
  unfolding new_world
  new_settled u n st = ((st.0.0, there u (other_id u n st) ∙ st.0.1), let e = new_tip u (other_id u n st) in let l : n ≤ w.tips u = st.1 in omega arith)

  fork_there : (q : Bool) (f : ℕ) (o : Option Branch) → o ≡ None → option_map (λ b. b.fork) o ≡ Some f → ⊥
  fork_there q f o e g = let z : option_map (λ (b : Branch). b.fork) o ≡ None = ap (option_map (λ (b : Branch). b.fork)) e in let y : None ≡ Some f = sym z ∙ g in cc

  new_forks : (u f : ℕ) → option_map (λ b. b.fork) (branch w.tree u) ≡ Some f → option_map (λ b. b.fork) (branch (made (w.nodes k) id ∷ w.tree) u) ≡ Some f
  new_forks u f g = ap (option_map (λ b. b.fork)) (there u (λ e. fork_there true f (branch w.tree u) (ap (branch w.tree) (sym e) ∙ m.1) g)) ∙ g

  fork_at : member_fork (w.nodes k) ≤ (w.nodes k).position.at
  fork_at = let n = w.nodes k in fork_le n (rises_le n.position.ss n.position.at (above n.held n.position.ss) (s.stands k).follows.rises)

  own_rises : Rises (member_fork (w.nodes k)) (w.nodes k).position.at (above (w.nodes k).held (member_fork (w.nodes k)))
  own_rises = let n = w.nodes k in rises_above (λ c. ltb (member_fork n) c.seq) 0 n.position.at (member_fork n) n.held (λ c t. ltb-true (member_fork n) c.seq t) fork_at (s.stands k).rises

  new_grows : Grows top (made (w.nodes k) id ∷ w.tree)
  new_grows = (rises_higher (member_fork (w.nodes k)) (w.nodes k).position.at top (above (w.nodes k).held (member_fork (w.nodes k))) m.2 own_rises, s.grows)

  new_extends : Extends top (ground w) (ground new_world)
  unfolding new_world
  new_extends = record {
    settled = new_settled;
    fronts = λ u n st. ap (λ x. upto x n) (hist_there (made (w.nodes k) id) w.tree u (other_id u n st));
    grown = λ u n c st i. subst (λ h. IsIn c h) (sym (hist_there (made (w.nodes k) id) w.tree u (other_id u n st))) i;
    forks = new_forks;
    low = all_rise top w s;
    high = λ u. hist_rises top (made (w.nodes k) id ∷ w.tree) u new_grows;
  }

  parent_kin : Kin (ground w) (front_or (w.nodes k).br (w.nodes k).log) (w.nodes k).br (member_reach (w.nodes k))
  parent_kin = kin (w.nodes k).log (s.stands k).ancestry.traces
    where
      kin : (log : List LogEntry) → Traces (Kin (ground w)) log (w.nodes k).br (member_reach (w.nodes k)) → Kin (ground w) (front_or (w.nodes k).br log) (w.nodes k).br (member_reach (w.nodes k))
      kin [] t = kin_refl (ground w) (w.nodes k).br (member_reach (w.nodes k)) (w.nodes k).position.at (s.stands k).settled
      kin (e ∷ older) t = t.0

  reach_at : (w.nodes k).position.at ≤ member_reach (w.nodes k)
  reach_at = at_le (w.nodes k) (s.stands k).follows.within

  parent_settled : Settled (ground w) (front_or (w.nodes k).br (w.nodes k).log) (w.nodes k).position.at
  parent_settled = kin_settled (ground w) (front_or (w.nodes k).br (w.nodes k).log) (w.nodes k).br (w.nodes k).position.at (member_reach (w.nodes k)) reach_at (s.stands k).settled parent_kin

  fork_shared_here : Shared w.tree (front_or (w.nodes k).br (w.nodes k).log) (w.nodes k).br (member_fork (w.nodes k))
  fork_shared_here = let n = w.nodes k in let a = reach_at in let b = fork_at in
      kin_shared (ground w) (front_or n.br n.log) n.br (member_fork n) (kin_down (ground w) (front_or n.br n.log) n.br (member_fork n) (member_reach n) (omega arith) parent_kin)

  new_hist : hist (made (w.nodes k) id ∷ w.tree) id ≡ upto (hist w.tree (w.nodes k).br) (member_fork (w.nodes k)) ++ above (w.nodes k).held (member_fork (w.nodes k))
  new_hist = hist_here (made (w.nodes k) id) w.tree id refl ∙ ap (λ x. x ++ above (w.nodes k).held (member_fork (w.nodes k))) fork_shared_here

  new_high : Rises 0 (w.nodes k).position.at (hist (made (w.nodes k) id ∷ w.tree) id)
  new_high = let n = w.nodes k in subst (λ x. Rises 0 n.position.at x) (sym new_hist)
      (rises_append 0 (member_fork n) n.position.at (upto (hist w.tree n.br) (member_fork n)) (above n.held (member_fork n)) (rises_upto 0 top (member_fork n) (hist w.tree n.br) (omega arith) (hist_rises top w.tree n.br s.grows)) own_rises)

  new_image : image_of (w.nodes k).held ≡ image_of (upto (hist w.tree (w.nodes k).br) (member_fork (w.nodes k)) ++ above (w.nodes k).held (member_fork (w.nodes k)))
  new_image =
      let n = w.nodes k in
      let t = s.stands k in
      let h = hist w.tree n.br in
      ⊎_elim
      (λ c. follows_complete top h (above n.held n.position.ss) n.position.ss n.position.se n.position.at (image_of n.held) (hist_rises top w.tree n.br s.grows) t.follows c.0
      ∙ ap (λ x. image_of (upto h x)) (sym c.0 ∙ sym c.1)
      ∙ ap image_of (sym (append-nil (upto h (member_fork n))))
      ∙ ap (λ x. image_of (upto h (member_fork n) ++ x)) (sym (above_none 0 n.position.at (member_fork n) n.held t.rises (let e : member_fork n ≡ n.position.at = c.1 in omega arith))))
      (λ c. t.follows.image_is ∙ sym (fold-append applied nothing (upto h n.position.ss) (above n.held n.position.ss)) ∙ ap (λ x. image_of (upto h x ++ above n.held x)) (sym c.1))
      (start_cases n.position.ss n.position.se n.position.at)

  new_self : Settled (ground new_world) id (w.nodes k).position.at
  unfolding new_world
  new_self = ((made (w.nodes k) id, here), let e = put_here w.tips id (w.nodes k).position.at id refl in omega arith)

  log_lacks : (log : List LogEntry) (u n : ℕ) → Traces (Kin (ground w)) log u n → Lacks log id
  log_lacks [] u n t = tt
  log_lacks (e ∷ older) u n t = ((λ q. other_id e.uuid 0 (kin_known (ground w) e.uuid u n t.0) (sym q)), log_lacks older e.uuid e.seq t.1)

  new_traces : Traces (Kin (ground new_world)) (kept_to (member_fork (w.nodes k)) (w.nodes k).log) id (member_fork (w.nodes k))
  unfolding new_world
  new_traces =
      let n = w.nodes k in
      let t = s.stands k in
      let v = ground new_world in
      let f = member_fork n in
      let fa = fork_at in
      let al = reach_at in
      let kept = traces_keep (Kin (ground w)) (kin_down (ground w)) (kin_trans (ground w)) n.log n.br (member_reach n) f t.ancestry.falls (omega arith) t.ancestry.traces in
      let carried = traces_map (Kin (ground w)) (Kin v) (kin_carried top (ground w) v new_extends) (kept_to f n.log) n.br f kept in
      let sb : Settled v n.br f = new_settled n.br f (settled_down (ground w) n.br f n.position.at fork_at t.settled) in
      let u = front_or n.br n.log in
      let su = parent_settled in
      let pf : Shared new_world.tree u n.br f = new_extends.fronts u f (settled_down (ground w) u f n.position.at fork_at su) ∙ fork_shared_here ∙ sym (new_extends.fronts n.br f (settled_down (ground w) n.br f n.position.at fork_at t.settled)) in
      let fs : Kin v n.br id f =
      inr (sym pf ∙ sym (fork_shared (made n id) w.tree u n.position.at refl (other_id u n.position.at su) own_rises), sb, settled_down v id f n.position.at fork_at new_self) in
      traces_base (Kin v) (kin_down v) (kin_trans v) (kept_to f n.log) n.br id f carried fs

  new_ancestry : AncestryBy (Kin (ground new_world)) (made (w.nodes k) id ∷ w.tree) (with_entry id (member_fork (w.nodes k)) (w.nodes k).log) id (w.nodes k).position.at
  unfolding new_world
  new_ancestry =
      let n = w.nodes k in
      let v = ground new_world in
      let f = member_fork n in
      let a = (s.stands k).ancestry in
      let kept = kept_to f n.log in
      let p = λ (e : LogEntry). leb e.seq f in
      record {
        short = simp length-take (omega arith);
        distinct = (lacks_take 24 kept id (lacks_kept p n.log id (log_lacks n.log n.br (member_reach n) a.traces)), distinct_take 24 kept (distinct_kept p n.log a.distinct));
        falls = falls_take 24 kept f (falls_kept_to n.log f a.falls);
        at_forks = (ap (option_map (λ b. b.fork)) here, forks_take 24 (made n id ∷ w.tree) kept (at_forks_carried top (ground w) v new_extends kept (forks_kept p w.tree n.log a.at_forks)));
        traces = (kin_refl v id n.position.at n.position.at new_self, traces_take (Kin v) 24 kept id f new_traces);
      }

  new_prepared : HasPrepares (hist (made (w.nodes k) id ∷ w.tree) id)
  new_prepared = subst HasPrepares (sym new_hist) (marked_named (ground w) (w.nodes k) (s.stands k) (s.prepared (w.nodes k).br) (member_fork (w.nodes k)) (start_cases (w.nodes k).position.ss (w.nodes k).position.se (w.nodes k).position.at))

  -- it holds all of its branch
  new_all : HasAll (hist (made (w.nodes k) id ∷ w.tree) id) (w.nodes k).held (w.nodes k).position.at
  new_all =
      let n = w.nodes k in
      let t = s.stands k in
      let h = hist w.tree n.br in
      let b : n.position.ss ≤ n.position.at = rises_le n.position.ss n.position.at (above n.held n.position.ss) t.follows.rises in
      subst (λ x. HasAll x n.held n.position.at) (sym new_hist)
      (all_forked top n.position.at (member_fork n) h n.held (hist_rises top w.tree n.br s.grows) t.rises fork_at (all_of (member_fork n) n.position.ss h n.held (ss_le n b) t.forked t.follows.of) t.forked)

  new_stands : Stands (ground new_world) (promoted (w.nodes k) id)
  unfolding new_world
  new_stands =
      let n = w.nodes k in
      let t = s.stands k in
      let v = promoted n id in
      let f = member_fork n in
      let tree = made n id ∷ w.tree in
      let r : member_reach v ≡ n.position.at = whole_reach v.position refl in
      let fv : member_fork v ≡ n.position.at = whole_fork v.position refl in
      let fa = fork_at in
      record {
        rises = t.rises;
        follows = same_start (hist tree id) (above n.held n.position.at) n.position.at n.position.at n.position.at (image_of n.held) (omega arith) refl (above_none 0 n.position.at n.position.at n.held t.rises (omega arith))
            (new_image ∙ ap image_of (sym new_hist ∙ sym (upto_all 0 n.position.at n.position.at (hist tree id) new_high (omega arith))));
        settled = new_self;
        ancestry = subst (λ x. AncestryBy (Kin (ground new_world)) tree (with_entry id f n.log) id x) (sym r) new_ancestry;
        comes = tt;
        linked = tt;
        named = subst (λ x. HasPrepares (upto (hist tree id) n.position.at ++ x)) (sym (above_none 0 n.position.at n.position.at n.held t.rises (omega arith)))
            (subst HasPrepares (sym (append-nil (upto (hist tree id) n.position.at))) (prepared_upto (hist tree id) n.position.at new_prepared));
        forked = subst (HasAll (hist tree id) n.held) (sym fv) new_all;
        points = λ p i. let q = t.points p i in let pl : p ≤ f = q.0 in (
          omega arith,
          all_same (hist w.tree n.br) (hist tree id) n.held p (new_front (hist w.tree n.br) (hist tree id) n.held n.position fork_at new_hist own_rises p pl) q.1,
        );
      }

  new_kept : Kept (ground new_world) (promoted (w.nodes k) id) (w.disks k)
  unfolding new_world
  new_kept =
      let n = w.nodes k in
      kept_on top (ground w) (ground new_world) new_extends n (promoted n id) (s.stands k) new_stands (λ x l. refl) (λ x i. i)
      (λ q f. fits_promoted (ground w) (ground new_world) n.br id n.held n.position n.points q fork_at new_hist own_rises (fits_fork (ground w) n q (s.stands k) f) f)
      (λ f. refl) (w.disks k) (s.kept k)

  new_leads : Leads (ground new_world) (promoted (w.nodes k) id)
  unfolding new_world
  new_leads =
      let n = w.nodes k in
      record {
        ss_at = refl;
        se_at = refl;
        tip = sym (put_here w.tips id n.position.at id refl);
        front = refl;
        falls = (fork_at, falls_take 24 (kept_to (member_fork n) n.log) (member_fork n) (falls_kept_to n.log (member_fork n) (s.stands k).ancestry.falls));
      }

  new_other_leads : (j : ℕ) → (w.nodes j).active ≡ true → Leads (ground new_world) (w.nodes j)
  unfolding new_world
  new_other_leads j a =
      let d = other_id (w.nodes j).br (w.nodes j).position.at (s.stands j).settled in
      leads_carried (ground w) (ground new_world) (w.nodes j) (new_tip (w.nodes j).br d) (s.leads j a)

  who : (j u : ℕ) → Writes u (put w.nodes k (promoted (w.nodes k) id) j) → ((j ≡ k) × (id ≡ u)) ⊎ (Writes u (w.nodes j) × (id ≡ u → ⊥))
  who j u = who_case (eqb j k) refl
    where
      who_case : (q : Bool) → eqb j k ≡ q → Writes u (cond q (promoted (w.nodes k) id) (w.nodes j)) → ((j ≡ k) × (id ≡ u)) ⊎ (Writes u (w.nodes j) × (id ≡ u → ⊥))
      who_case true e x = ⊎_elim (λ a. inl (eqb-true j k e, a.1)) (λ r. absurd r.1) x
      who_case false e x = inr (x, other_id u 0 (writes_known (ground w) (w.nodes j) u (s.stands j) x))

  new_alone : (i j u : ℕ) → Writes u (put w.nodes k (promoted (w.nodes k) id) i) → Writes u (put w.nodes k (promoted (w.nodes k) id) j) → i ≡ j
  new_alone i j u a b = ⊎_elim
      (λ x. ⊎_elim (λ y. x.0 ∙ sym y.0) (λ y. absurd (y.1 x.1)) (who j u b))
      (λ x. ⊎_elim (λ y. absurd (x.1 y.1)) (λ y. s.alone i j u x.0 y.0) (who j u b))
      (who i u a)

  new_given : (j u n : ℕ) → IsGiven u n (put w.nodes k (promoted (w.nodes k) id) j).link → n ≡ put w.tips id (w.nodes k).position.at u
  new_given j u n = given_case (eqb j k)
    where
      given_case : (q : Bool) → IsGiven u n (cond q (promoted (w.nodes k) id) (w.nodes j)).link → n ≡ put w.tips id (w.nodes k).position.at u
      given_case true x = absurd x
      given_case false x = s.given j u n x ∙ sym (new_tip u (other_id u 0 (writes_known (ground w) (w.nodes j) u (s.stands j) (inr (n, x)))))

  new_tops : (u : ℕ) → Rises 0 (put w.tips id (w.nodes k).position.at u) (hist (made (w.nodes k) id ∷ w.tree) u)
  new_tops u = ⊎_elim
      (λ e. subst (λ x. Rises 0 x (hist (made (w.nodes k) id ∷ w.tree) u)) (sym (put_here w.tips id (w.nodes k).position.at u (sym e)))
      (subst (λ x. Rises 0 (w.nodes k).position.at (hist (made (w.nodes k) id ∷ w.tree) x)) e new_high))
      (λ ne. subst (λ x. Rises 0 x (hist (made (w.nodes k) id ∷ w.tree) u)) (sym (new_tip u ne)) (subst (λ h. Rises 0 (w.tips u) h) (sym (hist_there (made (w.nodes k) id) w.tree u ne)) (s.tops u)))
      (cases_eq id u)

  new_floors : (u : ℕ) (b : Branch) → branch (made (w.nodes k) id ∷ w.tree) u ≡ Some b → b.fork ≤ put w.tips id (w.nodes k).position.at u
  new_floors u b q = ⊎_elim
      (λ e.
      let z : Some (made (w.nodes k) id) ≡ Some b = sym here ∙ ap (branch (made (w.nodes k) id ∷ w.tree)) e ∙ q in
      let y : made (w.nodes k) id ≡ b = cc in
      let x : member_fork (w.nodes k) ≡ b.fork = ap (λ (r : Branch). r.fork) y in
      let t = put_here w.tips id (w.nodes k).position.at u (sym e) in
      let l = fork_at in omega arith)
      (λ ne. let l = s.floors u b (sym (there u ne) ∙ q) in let t = new_tip u ne in omega arith)
      (cases_eq id u)

  pub promote_keeps : SoundCluster top (happens w (Move.Promote k id))
  unfolding new_world
  promote_keeps =
      let n = w.nodes k in
      let g = ground w in
      let v = ground new_world in
      record {
        grows = new_grows;
        differ = (new_from_none w.tree id m.1, s.differ);
        root = new_settled 0 0 s.root;
        tops = new_tops;
        floors = new_floors;
        prepared = λ u. ⊎_elim
            (λ e. subst (λ x. HasPrepares (hist (made n id ∷ w.tree) x)) (sym e) new_prepared)
            (λ ne. subst HasPrepares (sym (hist_there (made n id) w.tree u (λ e. ne (sym e)))) (s.prepared u))
            (cases_eq u id);
        forks = (
          (λ p e. let q : front_or n.br n.log ≡ p = (let z : Some (front_or n.br n.log) ≡ Some p = e in cc) in subst (λ x. Settled v x (member_fork n)) q (new_settled (front_or n.br n.log) (member_fork n) (settled_down g (front_or n.br n.log) (member_fork n) n.position.at fork_at parent_settled))),
          forks_carried g v new_settled w.tree s.forks,
        );
        stands = put_all (Stands v) w.nodes k (promoted n id) new_stands (λ j. stands_carried top g v new_extends (w.nodes j) (s.stands j));
        kept = put_both (Kept v) w.nodes w.disks k (promoted n id) (w.disks k) new_kept (λ j. kept_carried top g v new_extends (w.nodes j) (w.disks j) (s.stands j) (s.kept j));
        leads = put_all (λ (x : Member). x.active ≡ true → Leads v x) w.nodes k (promoted n id) (λ a. new_leads) new_other_leads;
        alone = new_alone;
        given = new_given;
      }

  pub new_goes_on : Extends top (ground w) (ground (happens w (Move.Promote k id)))
  unfolding new_world
  new_goes_on = new_extends

  -- the one more writer is that of the new branch
  pub new_who : (j u : ℕ) → Writes u ((happens w (Move.Promote k id)).nodes j) → ((j ≡ k) × (id ≡ u)) ⊎ (Writes u (w.nodes j) × (id ≡ u → ⊥))
  new_who j u x = who j u x
