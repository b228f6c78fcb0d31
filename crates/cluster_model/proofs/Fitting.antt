-- where a node could stand, it still could after each move, and a journal that tells it tells it still
use Rattle.std.proofs.Common.{◌≡◌, ℕ, ◌<◌, ◌≤◌, Bool, List, [], ◌∷◌, ◌++◌, refl, ap, sym, ◌∙◌, subst, inl, ⊎_elim, arith}
use Rattle.std.specs.Prelude.{Option, ◌⊎◌}
use Rattle.std.specs.List.{fold}
use Rattle.vb_types.specs.Images.{Picture, applied, image_of}
use Rattle.vb_types.specs.declared.change.Change.{Change}
use Rattle.vb_types.specs.declared.position.Position.{Position}
use Rattle.vb_types.specs.declared.role.LogEntry.{LogEntry}
use Rattle.branch_model.specs.Histories.{HasPrepares}
use Rattle.vb_types.specs.Histories.{upto, Rises, IsIn, touches}
use Rattle.branch_model.specs.Snapshots.{Follows, AllOf, IsComplete}
use Rattle.branch_model.specs.Trees.{hist}
use Rattle.branch_model.specs.Logs.{AncestryBy, IsFront}
use Rattle.branch_model.specs.Requests.{fork_of, reach_of}
use Rattle.branch_model.specs.Journals.{batches, last_log, log_of, place_of, end_of, complete_points, IsPoint}
use Rattle.cluster_model.specs.Clusters.{Ground, Feed, Member, Disk, above, seated, loaded, front_or, spanned, Settled, Kin, Stands, Exact, Near, Fits, Told, Kept}
use Rattle.branch_model.proofs.Lists.{upto_down, upto_all, rises_le, rises_upto, from_upto, upto_in, last_in}
use Rattle.branch_model.proofs.Following.{follows_grow, follows_reach, of_same}
use Rattle.branch_model.proofs.Journaling.{covered_same, ends_below, no_log}
use Rattle.cluster_model.proofs.Carrying.{in_above, still_above, settled_down, Extends, stands_carried, start_cases, fork_at, ss_fork, whole_reach}
use Rattle.cluster_model.proofs.Having.{all_below, all_kept, all_front}
use Rattle.branch_model.proofs.Ruling.{reach_cases}
use Rattle.vb_types.specs.declared.journal.Record.{Record}
use Rattle.vb_types.specs.declared.journal.Record.TheVariants as noted

-- where nothing of a branch is missing, a position follows it whatever comes above
pub follows_whole : (h k held : List Change) (q : Position) (image : Picture) → Follows h q (above (upto held q.at) q.ss) image → upto h q.ss ≡ upto k q.ss → Exact k held q → AllOf (above (upto held q.at) q.ss) k → Follows k q (above (upto held q.at) q.ss) image
follows_whole h k held q image f e x of =
    record {
      image_is = subst (λ l. image ≡ fold applied (image_of l) (above (upto held q.at) q.ss)) e f.image_is;
      rises = f.rises;
      within = f.within;
      of = of;
      has = λ s c last a b.
          let i = from_upto c k q.se (last_in (touches s) (upto k q.se) c last).0 in
          (c, still_above c (upto held q.at) q.ss (upto_in c held q.at (x c i.0 a b) b) a, inl refl);
    }

-- the ground extends
pub exact_carried : (top : ℕ) (g v : Ground) → Extends top g v → (br : ℕ) (held : List Change) (q : Position) → Settled g br q.at → Exact (hist g.tree br) held q → Exact (hist v.tree br) held q
exact_carried top g v e br held q st x c i a b =
    x c (from_upto c (hist g.tree br) q.at (subst (λ l. IsIn c l) (e.fronts br q.at st) (upto_in c (hist v.tree br) q.at i b))).0 a b

near_carried : (top : ℕ) (g v : Ground) → Extends top g v → (br : ℕ) (held : List Change) (p q : Position) → Settled g br q.at → Near (hist g.tree br) held p q → Near (hist v.tree br) held p q
near_carried top g v e br held p q st (Near.Before l) = Near.Before l
near_carried top g v e br held p q st (Near.Inside s l) = Near.Inside s l
near_carried top g v e br held p q st (Near.Whole x) = Near.Whole (exact_carried top g v e br held q st x)

pub fits_carried : (top : ℕ) (g v : Ground) → Extends top g v → (br : ℕ) (held : List Change) (p : Position) (points : List ℕ) (q : Position) → Settled g br p.at → Fits g br held p points q → Fits v br held p points q
fits_carried top g v e br held p points q st f =
    let r : q.at ≤ p.at = f.reached in
    let sq = settled_down g br q.at p.at r st in
    let b : q.ss ≤ q.at = rises_le q.ss q.at (above (upto held q.at) q.ss) f.follows.rises in
    record {
      reached = f.reached;
      starts = f.starts;
      follows = follows_grow top (hist g.tree br) (hist v.tree br) (above (upto held q.at) q.ss) q.ss q.se q.at (image_of (upto held q.at)) (e.low br) (e.high br) (sym (e.fronts br q.at sq)) (λ c i. e.grown br q.at c sq i) f.follows;
      named = subst (λ x. HasPrepares (x ++ above (upto held q.at) q.ss)) (sym (e.fronts br q.ss (settled_down g br q.ss q.at b sq))) f.named;
      near = near_carried top g v e br held p q sq f.near;
      forked = all_below (hist g.tree br) (hist v.tree br) held (fork_of q) q.at (fork_at q b) (sym (e.fronts br q.at sq)) f.forked;
      below = f.below;
      marked = f.marked;
    }

-- the node goes on
exact_held : (h held more : List Change) (q : Position) → upto held q.at ≡ upto more q.at → Exact h held q → Exact h more q
exact_held h held more q e x c i a b = (from_upto c more q.at (subst (λ l. IsIn c l) e (upto_in c held q.at (x c i a b) b))).0

near_moved : (h held more : List Change) (p r q : Position) → upto held q.at ≡ upto more q.at → fork_of p ≤ fork_of r → reach_of p ≤ reach_of r → (fork_of r ≡ fork_of p) ⊎ (reach_of p ≤ fork_of r) → Near h held p q → Near h more r q
near_moved h held more p r q e lf lr cases (Near.Before l) = Near.Before (omega arith)
near_moved h held more p r q e lf lr cases (Near.Inside s l) = ⊎_elim (λ c. Near.Inside (s ∙ sym c) (omega arith)) (λ c. Near.Before (omega arith)) cases
near_moved h held more p r q e lf lr cases (Near.Whole x) = Near.Whole (exact_held h held more q e x)

pub fits_moved : (g : Ground) (br : ℕ) (held more : List Change) (p r : Position) (points marks : List ℕ) (q : Position) → ((m : ℕ) → m ≤ p.at → upto held m ≡ upto more m)
    → p.at ≤ r.at → fork_of p ≤ fork_of r → reach_of p ≤ reach_of r → (fork_of r ≡ fork_of p) ⊎ (reach_of p ≤ fork_of r)
    → ((x : ℕ) → IsPoint x points → IsPoint x marks) → ((x : ℕ) → IsPoint x marks → IsPoint x points ⊎ (p.at < x))
    → Fits g br held p points q → Fits g br more r marks q
fits_moved g br held more p r points marks q same la lf lr cases old new f =
    let l : q.at ≤ p.at = f.reached in
    let s : q.ss ≤ fork_of p = f.starts in
    let b : q.ss ≤ q.at = rises_le q.ss q.at (above (upto held q.at) q.ss) f.follows.rises in
    let e = same q.at l in
    record {
      reached = omega arith;
      starts = omega arith;
      follows = subst (λ x. Follows (hist g.tree br) q (above x q.ss) (image_of x)) e f.follows;
      named = subst (λ x. HasPrepares (upto (hist g.tree br) q.ss ++ above x q.ss)) e f.named;
      near = near_moved (hist g.tree br) held more p r q e lf lr cases f.near;
      forked = all_kept (hist g.tree br) held more (fork_of q) (same (fork_of q) (let y = fork_at q b in omega arith)) f.forked;
      below = λ x i m. ⊎_elim (λ j. f.below x j m) (λ j. absurd (omega arith)) (new x i);
      marked = λ c. old q.at (f.marked c);
    }

-- on another branch that is the same as far as the node's position means
turned_follows : (g : Ground) (br u : ℕ) (held : List Change) (p q : Position) → upto (hist g.tree br) (reach_of p) ≡ upto (hist g.tree u) (reach_of p) → fork_of p ≤ p.at → p.at ≤ reach_of p → q.at ≤ p.at → q.ss ≤ fork_of p
    → Near (hist g.tree br) held p q → Follows (hist g.tree br) q (above (upto held q.at) q.ss) (image_of (upto held q.at))
    → Follows (hist g.tree u) q (above (upto held q.at) q.ss) (image_of (upto held q.at)) × Near (hist g.tree u) held p q
turned_follows g br u held p q e lf la lq ls (Near.Before l) f = (
  follows_reach (hist g.tree br) (hist g.tree u) (above (upto held q.at) q.ss) q.ss q.se q.at (reach_of q) (image_of (upto held q.at)) (reach_cases q.ss q.se q.at)
      (upto_down (hist g.tree br) (hist g.tree u) (reach_of q) (reach_of p) (omega arith) e) f,
  Near.Before l,
)
turned_follows g br u held p q e lf la lq ls (Near.Inside s l) f = (
  follows_reach (hist g.tree br) (hist g.tree u) (above (upto held q.at) q.ss) q.ss q.se q.at (reach_of q) (image_of (upto held q.at)) (reach_cases q.ss q.se q.at)
      (upto_down (hist g.tree br) (hist g.tree u) (reach_of q) (reach_of p) l e) f,
  Near.Inside s l,
)
turned_follows g br u held p q e lf la lq ls (Near.Whole x) f =
    let ea = upto_down (hist g.tree br) (hist g.tree u) q.at (reach_of p) (omega arith) e in
    let b : q.ss ≤ q.at = rises_le q.ss q.at (above (upto held q.at) q.ss) f.rises in
    let y : Exact (hist g.tree u) held q = λ c i a m. x c (from_upto c (hist g.tree br) q.at (subst (λ l. IsIn c l) (sym ea) (upto_in c (hist g.tree u) q.at i m))).0 a m in (
      follows_whole (hist g.tree br) (hist g.tree u) held q (image_of (upto held q.at)) f (upto_down (hist g.tree br) (hist g.tree u) q.ss q.at b ea) y
          (λ z i. of_same (hist g.tree br) (hist g.tree u) q.at z ea (f.of z i) (from_upto z held q.at (in_above z (upto held q.at) q.ss i).0).1),
      Near.Whole y,
    )

pub fits_turned : (g : Ground) (br u : ℕ) (held : List Change) (p : Position) (points : List ℕ) (q : Position) → upto (hist g.tree br) (reach_of p) ≡ upto (hist g.tree u) (reach_of p) → fork_of p ≤ p.at → p.at ≤ reach_of p
    → Fits g br held p points q → Fits g u held p points q
fits_turned g br u held p points q e lf la f =
    let s : q.ss ≤ fork_of p = f.starts in
    let l : q.at ≤ p.at = f.reached in
    let b : q.ss ≤ q.at = rises_le q.ss q.at (above (upto held q.at) q.ss) f.follows.rises in
    let k = turned_follows g br u held p q e lf la f.reached f.starts f.near f.follows in
    record {
      reached = f.reached;
      starts = f.starts;
      follows = k.0;
      named = subst (λ x. HasPrepares (x ++ above (upto held q.at) q.ss)) (upto_down (hist g.tree br) (hist g.tree u) q.ss (reach_of p) (omega arith) e) f.named;
      near = k.1;
      forked = all_below (hist g.tree br) (hist g.tree u) held (fork_of q) (reach_of p) (let y = fork_at q b in omega arith) e f.forked;
      below = f.below;
      marked = f.marked;
    }

-- a node could stand where it does
pub fits_self : (g : Ground) (n : Member) → Stands g n → (IsComplete n.position → IsPoint n.position.at n.points) → Fits g n.br n.held n.position n.points n.position
fits_self g n t m =
    let p = n.position in
    let b : p.ss ≤ p.at = rises_le p.ss p.at (above n.held p.ss) t.follows.rises in
    let e : upto n.held p.at ≡ n.held = upto_all 0 p.at p.at n.held t.rises (omega arith) in
    record {
      reached = omega arith;
      starts = ss_fork p b;
      follows = subst (λ x. Follows (hist g.tree n.br) p (above x p.ss) (image_of x)) (sym e) t.follows;
      named = subst (λ x. HasPrepares (upto (hist g.tree n.br) p.ss ++ above x p.ss)) (sym e) t.named;
      near = ⊎_elim
          (λ c. Near.Before (let k = whole_reach p c.0 in let i : fork_of p ≡ p.at = c.1 in omega arith))
          (λ c. Near.Inside (sym c.1) (omega arith))
          (start_cases p.ss p.se p.at);
      forked = t.forked;
      below = λ x i l. (t.points x i).0;
      marked = m;
    }

-- one that is less far leaves its branch no later
pub fits_fork : (g : Ground) (n : Member) (q : Position) → Stands g n → Fits g n.br n.held n.position n.points q → fork_of q ≤ fork_of n.position
fits_fork g n q t f = ⊎_elim
    (λ c. let e : fork_of q ≡ q.at = c.1 in let l : q.at ≤ fork_of n.position = (t.points q.at (f.marked c.0)).0 in omega arith)
    (λ c. let e : fork_of q ≡ q.ss = c.1 in let s : q.ss ≤ fork_of n.position = f.starts in omega arith)
    (start_cases q.ss q.se q.at)

-- a node stands where it could
pub seat_stands : (g : Ground) (n : Member) (js : List Record) → Stands g n → Fits g n.br n.held n.position n.points (place_of js) → ((x : ℕ) → IsPoint x (complete_points js) → IsPoint x n.points × (x ≤ (place_of js).at))
    → AncestryBy (Kin g) g.tree (log_of js) n.br (reach_of (place_of js)) → Stands g (seated n.br (upto n.held (place_of js).at) js)
seat_stands g n js t f ps a =
    let q = place_of js in
    let l : q.at ≤ n.position.at = f.reached in
    let b : q.ss ≤ q.at = rises_le q.ss q.at (above (upto n.held q.at) q.ss) f.follows.rises in
    record {
      rises = rises_upto 0 n.position.at q.at n.held (omega arith) t.rises;
      follows = f.follows;
      settled = settled_down g n.br q.at n.position.at l t.settled;
      ancestry = a;
      comes = tt;
      linked = tt;
      named = f.named;
      forked = all_front (hist g.tree n.br) n.held (fork_of q) q.at (fork_at q b) f.forked;
      points = λ x i. let k = ps x i in (f.below x k.0 k.1, all_front (hist g.tree n.br) n.held x q.at k.1 (t.points x k.0).1);
    }

-- a journal goes on to tell a node

module _ (top : ℕ) (g v : Ground) (e : Extends top g v) (n m : Member) (t : Stands g n) (s : Stands v m) (same : (x : ℕ) → x ≤ n.position.at → upto n.held x ≡ upto m.held x)
    (old : (x : ℕ) → IsPoint x n.points → IsPoint x m.points) (fits : (q : Position) → Fits g n.br n.held n.position n.points q → Fits v m.br m.held m.position m.points q) where
  pub points_within : (js : List Record) → Told g n.br n.held n.position n.points js → (x : ℕ) → IsPoint x (complete_points js) → IsPoint x m.points × (x ≤ (place_of js).at)
  points_within js d x i = (old x (d.among x i), let k = ends_below n.held (batches js) x d.covered i in let y : (place_of js).at ≡ end_of (batches js) = d.ends in omega arith)

  loads_on : (js : List Record) → Told g n.br n.held n.position n.points js → (l : List LogEntry) → last_log js ≡ l → Stands v (loaded m.br m.held js)
  loads_on js d [] q = subst (λ b. Stands v (seated b (upto m.held (place_of js).at) js)) (sym (ap (front_or m.br) q))
      (seat_stands v m js s (fits (place_of js) d.spot) (points_within js d)
      (subst (λ z. AncestryBy (Kin v) v.tree z m.br (reach_of (place_of js))) (sym (no_log js q)) (record { short = omega arith; distinct = tt; falls = tt; at_forks = tt; traces = tt })))
  loads_on js d (x ∷ xs) q =
      subst (λ h. Stands v (seated (front_or m.br (last_log js)) h js)) (same (place_of js).at d.spot.reached)
      (subst (λ b. Stands v (seated b (upto n.held (place_of js).at) js)) (ap (front_or n.br) q ∙ sym (ap (front_or m.br) q))
      (stands_carried top g v e (loaded n.br n.held js) d.loads))

  pub told_on : (js : List Record) → Told g n.br n.held n.position n.points js → Told v m.br m.held m.position m.points js
  told_on js d =
      let l : (place_of js).at ≤ n.position.at = d.spot.reached in
      let y : (place_of js).at ≡ end_of (batches js) = d.ends in
      record {
        covered = covered_same n.held m.held (batches js) n.position.at same (omega arith) d.covered;
        ends = d.ends;
        spot = fits (place_of js) d.spot;
        loads = loads_on js d (last_log js) refl;
        among = λ x i. old x (d.among x i);
        whole = d.whole;
      }

  pub kept_on : (IsFront n.log n.br → IsFront m.log m.br) → (d : Disk) → Kept g n d → Kept v m d
  kept_on fr d k =
      record {
        book = told_on d.book k.book;
        late = λ r q. told_on (r ∷ d.book) (k.late r q);
        batch = λ b q. told_on (noted.Rows b ∷ d.book) (k.batch b q);
        stood = λ q i. fits q (k.stood q i);
        front = λ q i. fr (k.front q i);
      }

-- a span ends at one more position
pub kept_spanned : (g : Ground) (n : Member) (d : Disk) (q : Position) → Fits g n.br n.held n.position n.points q → IsFront n.log n.br → Kept g n d → Kept g n (spanned d q)
kept_spanned g n d q f fr k =
    record {
      book = k.book;
      late = k.late;
      batch = k.batch;
      stood = λ x i. ⊎_elim (λ e. subst (λ y. Fits g n.br n.held n.position n.points y) (sym e) f) (λ j. k.stood x j) i;
      front = λ x i. fr;
    }

-- other links
pub kept_unlinked : (g : Ground) (n : Member) (d : Disk) (active : Bool) (coming : Option (List Change)) (link : Option Feed) → Kept g n d → Kept g (record n { active = active; coming = coming; link = link }) d
kept_unlinked g n d active coming link k = record { book = k.book; late = k.late; batch = k.batch; stood = k.stood; front = k.front }

-- the same ground
pub stays : (top : ℕ) (g : Ground) → ((u : ℕ) → Rises 0 top (hist g.tree u)) → Extends top g g
stays top g r = record { settled = λ u n s. s; fronts = λ u n s. refl; grown = λ u n c s i. i; forks = λ u f e. e; low = r; high = r }
