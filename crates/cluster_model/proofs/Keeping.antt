-- what a change of one node keeps sound, and what a producer does for a consumer does
use Rattle.std.proofs.Common.{◌≡◌, ℕ, ◌<◌, ◌≤◌, Bool, true, false, cond, List, [], ◌∷◌, ◌++◌, eqb, refl, sym, ◌∙◌, subst, inl, inr, ⊎_elim, arith}
use Rattle.std.specs.Prelude.{Option, Some, None}
use Rattle.std.proofs.lemmas.Bool.{cases_lt, eqb-true}
use Rattle.vb_types.specs.Images.{image_of}
use Rattle.vb_types.specs.declared.change.Change.{Change}
use Rattle.vb_types.specs.declared.position.Position.{Position}
use Rattle.branch_model.specs.Histories.{HasPrepares}
use Rattle.vb_types.specs.Histories.{Rises}
use Rattle.branch_model.specs.Snapshots.{Covers}
use Rattle.branch_model.specs.Trees.{hist, Shared}
use Rattle.vb_types.specs.declared.role.LogEntry.{LogEntry}
use Rattle.vb_types.specs.declared.stream.Verdict.TheVariants.{Continue}
use Rattle.branch_model.specs.Logs.{AncestryBy, Falls}
use Rattle.branch_model.specs.Requests.{rule, request_of, reach_of}
use Rattle.cluster_model.specs.Clusters.{Ground, Feed, Disk, ground, put, answered, sent, flight_from, flight_end, MaySend, Joined, FirstReaches, Linked, Member, Cluster, above, member_reach, member_fork, adopted, cut, yielded, set_node, Move, happens, IsGiven, Writes, May, Settled, Kin, Stands, Kept, Leads, Flight, SoundCluster}
use Rattle.branch_model.proofs.Lists.{upto_down, rises_le}
use Rattle.branch_model.proofs.Following.{follows_reach}
use Rattle.branch_model.proofs.Branches.{hist_rises}
use Rattle.branch_model.proofs.Ruling.{reach_cases, reach_zero, upper_le, continue_top}
use Rattle.cluster_model.proofs.Carrying.{settled_down, kin_shared, ancestry_front, at_le, fork_le, stands_unlinked}
use Rattle.cluster_model.proofs.Fitting.{fits_turned, kept_on, kept_unlinked, stays}
use Rattle.cluster_model.proofs.Kinship.{kin_adopt}
use Rattle.cluster_model.proofs.Having.{all_below}

-- another node at k

put_case : {A : Type 0} → (P : A → Type 0) (q : Bool) (n m : A) → P n → P m → P (cond q n m)
put_case P true n m p r = p
put_case P false n m p r = r

pub put_all : {A : Type 0} → (P : A → Type 0) (nodes : ℕ → A) (k : ℕ) (n : A) → P n → ((j : ℕ) → P (nodes j)) → (j : ℕ) → P (put nodes k n j)
put_all P nodes k n p h j = put_case P (eqb j k) n (nodes j) p (h j)

both_case : {A B : Type 0} → (P : A → B → Type 0) (q : Bool) (n m : A) (d e : B) → P n d → P m e → P (cond q n m) (cond q d e)
both_case P true n m d e p r = p
both_case P false n m d e p r = r

pub put_both : {A B : Type 0} → (P : A → B → Type 0) (nodes : ℕ → A) (disks : ℕ → B) (k : ℕ) (n : A) (d : B) → P n d → ((j : ℕ) → P (nodes j) (disks j)) → (j : ℕ) → P (put nodes k n j) (put disks k d j)
put_both P nodes disks k n d p h j = both_case P (eqb j k) n (nodes j) d (disks j) p (h j)

-- a node writes on nothing new
pub writes_put : (nodes : ℕ → Member) (k : ℕ) (n : Member) → ((u : ℕ) → Writes u n → Writes u (nodes k)) → (j u : ℕ) → Writes u (put nodes k n j) → Writes u (nodes j)
writes_put nodes k n h j u = writes_case (eqb j k) refl
  where
    writes_case : (q : Bool) → eqb j k ≡ q → Writes u (cond q n (nodes j)) → Writes u (nodes j)
    writes_case true e x = subst (λ i. Writes u (nodes i)) (sym (eqb-true j k e)) (h u x)
    writes_case false e x = x

-- the whole world after a change of one node that writes on nothing new
pub node_sound : (top : ℕ) (w : Cluster) (k : ℕ) (n : Member) (d : Disk) → SoundCluster top w → Stands (ground w) n → Kept (ground w) n d → (n.active ≡ true → Leads (ground w) n) → ((u : ℕ) → Writes u n → Writes u (w.nodes k)) → ((u m : ℕ) → IsGiven u m n.link → IsGiven u m (w.nodes k).link) → SoundCluster top (set_node w k n d)
node_sound top w k n d s t kp l wr gv =
    record {
      grows = s.grows;
      differ = s.differ;
      forks = s.forks;
      root = s.root;
      tops = s.tops;
      floors = s.floors;
      prepared = s.prepared;
      stands = put_all (Stands (ground w)) w.nodes k n t s.stands;
      kept = put_both (Kept (ground w)) w.nodes w.disks k n d kp s.kept;
      leads = put_all (λ (m : Member). m.active ≡ true → Leads (ground w) m) w.nodes k n l s.leads;
      alone = λ i j u a b. s.alone i j u (writes_put w.nodes k n wr i u a) (writes_put w.nodes k n wr j u b);
      given = put_all (λ (x : Member). (u m : ℕ) → IsGiven u m x.link → m ≡ w.tips u) w.nodes k n (λ u m x. s.given k u m (gv u m x)) s.given;
    }

pub idle : (g : Ground) (n : Member) → n.active ≡ false → n.active ≡ true → Leads g n
idle g n f a = let z : false ≡ true = sym f ∙ a in cc

pub writes_less : (n m : Member) → m.active ≡ false → ((u x : ℕ) → IsGiven u x m.link → IsGiven u x n.link) → (u : ℕ) → Writes u m → Writes u n
writes_less n m f h u x = ⊎_elim (λ a. let z : false ≡ true = sym f ∙ a.0 in cc) (λ r. inr (r.0, h u r.0 r.1)) x

-- an idle node
pub idle_sound : (top : ℕ) (w : Cluster) (k : ℕ) (n : Member) (d : Disk) → SoundCluster top w → Stands (ground w) n → Kept (ground w) n d → n.active ≡ false → ((u m : ℕ) → IsGiven u m n.link → IsGiven u m (w.nodes k).link) → SoundCluster top (set_node w k n d)
idle_sound top w k n d s t kp f gv = node_sound top w k n d s t kp (idle (ground w) n f) (writes_less (w.nodes k) n f gv) gv

pub all_rise : (top : ℕ) (w : Cluster) → SoundCluster top w → (u : ℕ) → Rises 0 top (hist w.tree u)
all_rise top w s u = hist_rises top w.tree u s.grows

-- cut

pub no_right : (u m : ℕ) (k : Option Feed) → IsGiven u m None → IsGiven u m k
no_right u m k r = absurd r

pub cut_keeps : (top : ℕ) (w : Cluster) (k : ℕ) → SoundCluster top w → May top w (Move.Cut k) → SoundCluster top (happens w (Move.Cut k))
cut_keeps top w k s m =
    let n = w.nodes k in
    idle_sound top w k (cut n) (w.disks k) s (stands_unlinked (ground w) n n.active (s.stands k)) (kept_unlinked (ground w) n (w.disks k) n.active None None (s.kept k)) m (λ u x r. no_right u x n.link r)

-- yield

pub yield_keeps : (top : ℕ) (w : Cluster) (k : ℕ) → SoundCluster top w → May top w (Move.Yield k) → SoundCluster top (happens w (Move.Yield k))
yield_keeps top w k s m =
    let n = w.nodes k in
    idle_sound top w k (yielded n) (w.disks k) s (stands_unlinked (ground w) n false (s.stands k)) (kept_unlinked (ground w) n (w.disks k) false None None (s.kept k)) refl (λ u x r. no_right u x n.link r)

-- grant

-- what a request that continues means is at most the producer's high
reach_below : (p : Position) (high : ℕ) (log mine : List LogEntry) → p.ss ≤ p.at → Falls log high → rule log high (request_of mine p) ≡ Continue → reach_of p ≤ high
reach_below p high log mine l f e = ⊎_elim
    (λ (q : 0 < p.at).
    let j = continue_top log high (request_of mine p) q e in
    let t = upper_le high log (request_of mine p).uuid j.0 f j.1 in let u : reach_of p ≤ j.0 = j.2 in omega arith)
    (λ (q : p.at ≤ 0). let z = reach_zero p.ss p.se p.at l (omega arith) in let y : reach_of p ≡ 0 = z in omega arith)
    (cases_lt 0 p.at)

-- a producer lets a consumer continue
pub grant_keeps : (top : ℕ) (w : Cluster) (k p : ℕ) → SoundCluster top w → May top w (Move.Grant k p) → SoundCluster top (happens w (Move.Grant k p))
grant_keeps top w k p s m =
    let g = ground w in
    let n = w.nodes k in
    let b = w.nodes p in
    let v = answered n b in
    let t = s.stands k in
    let tp = s.stands p in
    let lp = s.leads p m.1 in
    let l : n.position.ss ≤ n.position.at = rises_le n.position.ss n.position.at (above n.held n.position.ss) t.follows.rises in
    let le = at_le n t.follows.within in
    let q : member_reach n ≤ b.position.at = reach_below n.position b.position.at b.log n.log l lp.falls m.2 in
    let an : AncestryBy (Kin g) w.tree b.log b.br b.position.at = ancestry_front g b.log b.br (member_reach b) b.position.at b.position.at lp.front tp.settled tp.ancestry in
    let kin : Kin g n.br b.br (member_reach n) = kin_adopt g b.log n.log n.br b.br b.position.at top b.position.at n.position.at n.position (all_rise top w s) t.settled tp.settled t.ancestry.traces l an lp.front m.2 in
    idle_sound top w k v (w.disks k) s
    (record {
      rises = t.rises;
      follows = t.follows;
      settled = t.settled;
      ancestry = t.ancestry;
      comes = tt;
      linked = ((kin, lp.front, ancestry_front g b.log b.br b.position.at (member_reach n) b.position.at lp.front tp.settled an, settled_down g b.br n.position.at b.position.at (omega arith) tp.settled), tt, tt);
      named = t.named;
      forked = t.forked;
      points = t.points;
    })
    (kept_unlinked g n (w.disks k) n.active None v.link (s.kept k)) m.0 (λ u x r. let z : None ≡ Some x = r.0 in cc)

-- send

flight_push : (g : Ground) (u from end : ℕ) (items : List Change) (xs : List (ℕ × List Change)) → Flight g u from xs → Covers items (hist g.tree u) (flight_end from xs) end → Settled g u end → Flight g u from (xs ++ (end, items) ∷ [])
flight_push g u from end items [] f c st = (c, st, tt)
flight_push g u from end items (x ∷ more) f c st = (f.0, f.1, flight_push g u x.0 end items more f.2 c st)

first_push : (n end : ℕ) (items : List Change) (xs : List (ℕ × List Change)) → FirstReaches n xs → n ≤ end → FirstReaches n (xs ++ (end, items) ∷ [])
first_push n end items [] f l = l
first_push n end items (x ∷ more) f l = f

sent_linked : (w : Cluster) (n p : Member) (k : Option Feed) (items : List Change) (end : ℕ) → Stands (ground w) p → Linked (ground w) n n.coming k → MaySend w n p k items end → Linked (ground w) (sent n k items end) (sent n k items end).coming (sent n k items end).link
sent_linked w n p None items end tp lk m = absurd m
sent_linked w n p (Some l) items end tp lk m = (
  joined n.coming lk.0,
  flight_push (ground w) l.u (flight_from n n.coming) end items l.flight lk.1 (subst (λ u. Covers items (hist w.tree u) (flight_end (flight_from n n.coming) l.flight) end) (sym m.0) m.1)
      (subst (λ u. Settled (ground w) u end) (sym m.0) (settled_down (ground w) p.br end p.position.at m.3 tp.settled)),
  first_push (member_reach n) end items l.flight lk.2 m.2,
)
  where
    joined : (o : Option (List Change)) → Joined (ground w) n l o → Joined (ground w) (sent n (Some l) items end) (record l { flight = l.flight ++ (end, items) ∷ [] }) o
    joined None j = j
    joined (Some xs) j = j

sent_stands : (w : Cluster) (n p : Member) (k : Option Feed) (items : List Change) (end : ℕ) → n.link ≡ k → Stands (ground w) p → Stands (ground w) n → MaySend w n p k items end → Stands (ground w) (sent n k items end)
sent_stands w n p None items end e tp t m = absurd m
sent_stands w n p (Some l) items end e tp t m =
    record {
      rises = t.rises;
      follows = t.follows;
      settled = t.settled;
      ancestry = t.ancestry;
      comes = t.comes;
      linked = sent_linked w n p (Some l) items end tp (subst (λ k. Linked (ground w) n n.coming k) e t.linked) m;
      named = t.named;
      forked = t.forked;
      points = t.points;
    }

sent_kept : (g : Ground) (n : Member) (d : Disk) (k : Option Feed) (items : List Change) (end : ℕ) → Kept g n d → Kept g (sent n k items end) d
sent_kept g n d None items end kp = kp
sent_kept g n d (Some l) items end kp = kept_unlinked g n d n.active n.coming (sent n (Some l) items end).link kp

pub sent_active : (n : Member) (k : Option Feed) (items : List Change) (end : ℕ) → (sent n k items end).active ≡ n.active
sent_active n None items end = refl
sent_active n (Some l) items end = refl

pub sent_right : (n : Member) (k : Option Feed) (items : List Change) (end u m : ℕ) → n.link ≡ k → IsGiven u m (sent n k items end).link → IsGiven u m n.link
sent_right n None items end u m e r = r
sent_right n (Some l) items end u m e r = subst (λ k. IsGiven u m k) (sym e) r

pub send_keeps : (top : ℕ) (w : Cluster) (k p : ℕ) (items : List Change) (end : ℕ) → SoundCluster top w → May top w (Move.Send k p items end) → SoundCluster top (happens w (Move.Send k p items end))
send_keeps top w k p items end s m =
    let n = w.nodes k in
    let v = sent n n.link items end in
    let a : v.active ≡ false = sent_active n n.link items end ∙ m.0 in
    idle_sound top w k v (w.disks k) s (sent_stands w n (w.nodes p) n.link items end refl (s.stands p) (s.stands k) m.1) (sent_kept (ground w) n (w.disks k) n.link items end (s.kept k)) a (λ u x r. sent_right n n.link items end u x refl r)

-- adopt

-- a consumer adopts the log that it was told
pub adopted_stands : (g : Ground) (n : Member) (k : Option Feed) → Stands g n → Linked g n None k → Stands g (adopted n k)
adopted_stands g n None t lk = t
adopted_stands g n (Some l) t lk =
    let j = lk.0 in
    let h = hist g.tree l.u in
    let b : n.position.ss ≤ n.position.at = rises_le n.position.ss n.position.at (above n.held n.position.ss) t.follows.rises in
    let al = at_le n t.follows.within in
    let sh : Shared g.tree n.br l.u (member_reach n) = kin_shared g n.br l.u (member_reach n) j.0 in
    record {
      rises = t.rises;
      follows = follows_reach (hist g.tree n.br) h (above n.held n.position.ss) n.position.ss n.position.se n.position.at (member_reach n) (image_of n.held) (reach_cases n.position.ss n.position.se n.position.at) sh t.follows;
      settled = j.3;
      ancestry = j.2;
      comes = (j.1, inl refl);
      linked = (refl, lk.1, lk.2);
      named = subst (λ x. HasPrepares (x ++ above n.held n.position.ss)) (upto_down (hist g.tree n.br) h n.position.ss (member_reach n) (omega arith) sh) t.named;
      forked = all_below (hist g.tree n.br) h n.held (member_fork n) (member_reach n) (let zf = fork_le n b in omega arith) sh t.forked;
      points = λ x i. let y = t.points x i in let z : x ≤ member_fork n = y.0 in let zf = fork_le n b in (y.0, all_below (hist g.tree n.br) h n.held x (member_reach n) (omega arith) sh y.1);
    }

adopted_kept : (top : ℕ) (g : Ground) (n : Member) (d : Disk) (k : Option Feed) → ((u : ℕ) → Rises 0 top (hist g.tree u)) → Stands g n → Kept g n d → Linked g n None k → Stands g (adopted n k) → Kept g (adopted n k) d
adopted_kept top g n d None r t kp lk tv = kp
adopted_kept top g n d (Some l) r t kp lk tv =
    let b : n.position.ss ≤ n.position.at = rises_le n.position.ss n.position.at (above n.held n.position.ss) t.follows.rises in
    kept_on top g g (stays top g r) n (adopted n (Some l)) t tv (λ y q. refl) (λ y i. i)
    (λ q. fits_turned g n.br l.u n.held n.position n.points q (kin_shared g n.br l.u (member_reach n) lk.0.0) (fork_le n b) (at_le n t.follows.within))
    (λ z. lk.0.1) d kp

pub adopted_active : (n : Member) (k : Option Feed) → (adopted n k).active ≡ n.active
adopted_active n None = refl
adopted_active n (Some l) = refl

pub adopted_right : (n : Member) (k : Option Feed) (u m : ℕ) → n.link ≡ k → IsGiven u m (adopted n k).link → IsGiven u m n.link
adopted_right n None u m e r = r
adopted_right n (Some l) u m e r = subst (λ k. IsGiven u m k) (sym e) r

pub adopt_keeps : (top : ℕ) (w : Cluster) (k : ℕ) → SoundCluster top w → May top w (Move.Adopt k) → SoundCluster top (happens w (Move.Adopt k))
adopt_keeps top w k s m =
    let g = ground w in
    let n = w.nodes k in
    let v = adopted n n.link in
    let a : v.active ≡ false = adopted_active n n.link ∙ m.0 in
    let lk : Linked g n None n.link = subst (λ o. Linked g n o n.link) m.1 (s.stands k).linked in
    let tv = adopted_stands g n n.link (s.stands k) lk in
    idle_sound top w k v (w.disks k) s tv (adopted_kept top g n (w.disks k) n.link (all_rise top w s) (s.stands k) (s.kept k) lk tv) a (λ u x r. adopted_right n n.link u x refl r)
