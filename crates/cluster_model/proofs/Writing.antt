-- batches, records, rollbacks and crashes keep a cluster sound
use Rattle.std.proofs.Common.{◌≡◌, ℕ, ◌≤◌, Bool, true, false, cond, List, [], ◌∷◌, ◌++◌, leb, eqb, refl, ap, sym, subst, inl, ⊎_elim, arith}
use Rattle.std.specs.Prelude.{Option, Some, None}
use Rattle.std.specs.List.{filter}
use Rattle.std.proofs.lemmas.List.{append-nil}
use Rattle.std.proofs.lemmas.Bool.{eq-eqb, eqb-true}
use Rattle.vb_types.specs.Images.{image_of}
use Rattle.vb_types.specs.declared.change.Change.{Change}
use Rattle.vb_types.specs.declared.position.Position.{Position}
use Rattle.vb_types.specs.declared.role.LogEntry.{LogEntry}
use Rattle.vb_types.specs.declared.role.Role.{Role}
use Rattle.vb_types.specs.Histories.{upto, Rises}
use Rattle.branch_model.specs.Histories.{HasPrepares}
use Rattle.branch_model.specs.Snapshots.{Covers}
use Rattle.branch_model.specs.Trees.{hist}
use Rattle.branch_model.specs.Logs.{AncestryBy, Traces, IsFront, kept_to}
use Rattle.branch_model.specs.Requests.{fork_of, reach_of}
use Rattle.branch_model.specs.Journals.{batches, last_log, place_of, end_of, complete_points, IsPoint, Covered}
use Rattle.cluster_model.specs.Clusters.{Ground, Feed, Member, Disk, Cluster, ground, above, member_reach, member_fork, rolled, seated, loaded, opened, appended, front_or, set_node, Move, happens, MayAppend, MayStand, May, Settled, Kin, Linked, HasAll, Stands, Near, Fits, Told, Kept, SoundCluster}
use Rattle.branch_model.specs.Journals.{found}
use Rattle.branch_model.proofs.Lists.{upto-upto, rises_le, rises_upto}
use Rattle.branch_model.proofs.Following.{place, same_start}
use Rattle.branch_model.proofs.Entries.{length_kept, distinct_kept, forks_kept, age_kept}
use Rattle.branch_model.proofs.Ruling.{traces_keep}
use Rattle.branch_model.proofs.Journaling.{covered_same, covered_cut, cut_below, ends_below, ends_cut, ends_uncut, cut_end, point_in, in_points}
use Rattle.cluster_model.proofs.Prepares.{prepared_upto}
use Rattle.cluster_model.proofs.Having.{all_front, all_image}
use Rattle.cluster_model.proofs.Carrying.{above_none, settled_down, kin_down, kin_trans, kin_refl, kin_sym, kin_shared, kin_settled, ancestry_front, at_le, fork_le, whole_fork, whole_reach, stands_unlinked}
use Rattle.cluster_model.proofs.Fitting.{fits_self, fits_turned, seat_stands, points_within, stays}
use Rattle.cluster_model.proofs.Keeping.{node_sound, idle_sound, all_rise, adopted_stands, no_right}
use Rattle.vb_types.specs.declared.journal.Batch.{Batch}
use Rattle.vb_types.specs.declared.journal.Record.{Record}
use Rattle.vb_types.specs.declared.journal.Record.TheVariants as noted

-- fewer numbers
stands_fewer : (g : Ground) (n : Member) (ps : List ℕ) → ((x : ℕ) → IsPoint x ps → IsPoint x n.points) → Stands g n → Stands g (record n { points = ps })
stands_fewer g n ps h t = record { rises = t.rises; follows = t.follows; settled = t.settled; ancestry = t.ancestry; comes = t.comes; linked = t.linked; named = t.named; forked = t.forked; points = λ x i. t.points x (h x i) }

-- where a node rolls back to

fits_point : (top : ℕ) (g : Ground) (n : Member) (to : ℕ) → ((u : ℕ) → HasPrepares (hist g.tree u)) → ((u : ℕ) → Rises 0 top (hist g.tree u)) → Stands g n → IsPoint to n.points → Fits g n.br n.held n.position n.points (place to to to)
fits_point top g n to pr r t i =
    let k = t.points to i in
    let l : to ≤ member_fork n = k.0 in
    let b : n.position.ss ≤ n.position.at = rises_le n.position.ss n.position.at (above n.held n.position.ss) t.follows.rises in
    let fa = fork_le n b in
    let rs = rises_upto 0 n.position.at to n.held (omega arith) t.rises in
    let none : above (upto n.held to) to ≡ [] = above_none 0 to to (upto n.held to) rs (omega arith) in
    let fk : fork_of (place to to to) ≡ to = whole_fork (place to to to) refl in
    let re : reach_of (place to to to) ≡ to = whole_reach (place to to to) refl in
    record {
      reached = omega arith;
      starts = l;
      follows = same_start (hist g.tree n.br) (above (upto n.held to) to) to to to (image_of (upto n.held to)) (omega arith) refl none (all_image top (hist g.tree n.br) n.held to (r n.br) k.1);
      named = subst (λ x. HasPrepares (upto (hist g.tree n.br) to ++ x)) (sym none) (subst HasPrepares (sym (append-nil (upto (hist g.tree n.br) to))) (prepared_upto (hist g.tree n.br) to (pr n.br)));
      near = Near.Before (omega arith);
      forked = subst (HasAll (hist g.tree n.br) n.held) (sym fk) k.1;
      below = λ x j m. omega arith;
      marked = λ c. i;
    }

pub rolled_stands : (top : ℕ) (g : Ground) (n : Member) (to : ℕ) → ((u : ℕ) → HasPrepares (hist g.tree u)) → ((u : ℕ) → Rises 0 top (hist g.tree u)) → Stands g n → IsPoint to n.points → Stands g (rolled n to)
rolled_stands top g n to pr rs t i =
    let v = rolled n to in
    let f = fits_point top g n to pr rs t i in
    let l : to ≤ n.position.at = f.reached in
    let al = at_le n t.follows.within in
    let r : member_reach v ≡ to = whole_reach v.position refl in
    let fv : member_fork v ≡ to = whole_fork v.position refl in
    let a = t.ancestry in
    record {
      rises = rises_upto 0 n.position.at to n.held (omega arith) t.rises;
      follows = f.follows;
      settled = settled_down g n.br to n.position.at l t.settled;
      ancestry = record {
        short = let z = length_kept (λ e. leb e.seq to) n.log in let y = a.short in omega arith;
        distinct = distinct_kept (λ e. leb e.seq to) n.log a.distinct;
        falls = age_kept (λ e. leb e.seq to) n.log a.falls;
        at_forks = forks_kept (λ e. leb e.seq to) g.tree n.log a.at_forks;
        traces = subst (λ x. Traces (Kin g) (kept_to to n.log) n.br x) (sym r) (traces_keep (Kin g) (kin_down g) (kin_trans g) n.log n.br (member_reach n) to a.falls (omega arith) a.traces);
      };
      comes = tt;
      linked = tt;
      named = f.named;
      forked = subst (HasAll (hist g.tree n.br) (upto n.held to)) (sym fv) (all_front (hist g.tree n.br) n.held to to (omega arith) (t.points to i).1);
      points = λ x j. let y = point_in to x n.points j in let yl : x ≤ to = y.1 in
          (omega arith, all_front (hist g.tree n.br) n.held x to yl (t.points x y.0).1);
    }

module _ (top : ℕ) (g : Ground) (pr : (u : ℕ) → HasPrepares (hist g.tree u)) (r : (u : ℕ) → Rises 0 top (hist g.tree u)) (n : Member) (t : Stands g n) (js : List Record) (d : Told g n.br n.held n.position n.points js) where
  bound : (x : ℕ) → IsPoint x (complete_points js) → x ≤ (place_of js).at
  bound x i = (points_within top g g (stays top g r) n n t t (λ y q. refl) (λ y j. j) (λ q f. f) js d x i).1

  -- a rollback that is written down
  pub told_rolled : (to : ℕ) → IsPoint to (complete_points js) → Told g n.br n.held n.position n.points (noted.Roll to ∷ js)
  told_rolled to i =
      let l : to ≤ (place_of js).at = bound to i in
      let le : (x : ℕ) → IsPoint x (complete_points (noted.Roll to ∷ js)) → x ≤ to =
      λ x j. let e = ends_below n.held (batches (noted.Roll to ∷ js)) x (covered_cut n.held to (batches js) d.covered).0 j in let c = cut_below to (batches js) in omega arith in
      let b = front_or n.br (last_log js) in
      record {
        covered = (covered_cut n.held to (batches js) d.covered).0;
        ends = sym (cut_end n.held to (batches js) d.covered i);
        spot = fits_point top g n to pr r t (d.among to i);
        loads = subst (λ h. Stands g (seated b h (noted.Roll to ∷ js))) (upto-upto n.held to (place_of js).at l)
            (stands_fewer g (rolled (loaded n.br n.held js) to) (complete_points (noted.Roll to ∷ js))
            (λ x j. in_points to x (complete_points js) (ends_uncut to x (batches js) j) (le x j))
            (rolled_stands top g (loaded n.br n.held js) to pr r d.loads i));
        among = λ x j. d.among x (ends_uncut to x (batches js) j);
        whole = λ c. ends_cut to to (batches js) i (omega arith);
      }

  -- and done
  pub told_after : (to : ℕ) → IsPoint to (complete_points js) → Told g n.br (upto n.held to) (place to to to) (filter (λ p. leb p to) n.points) (noted.Roll to ∷ js)
  told_after to i =
      let w = told_rolled to i in
      let m = rolled n to in
      let p = d.among to i in
      let tv = rolled_stands top g n to pr r t p in
      record {
        covered = covered_same n.held (upto n.held to) (batches (noted.Roll to ∷ js)) to (λ x q. sym (upto-upto n.held x to q)) (cut_below to (batches js)) w.covered;
        ends = w.ends;
        spot = fits_self g m tv (λ c. in_points to to n.points p (omega arith));
        loads = subst (λ h. Stands g (seated (front_or n.br (last_log js)) h (noted.Roll to ∷ js))) (sym (upto-upto n.held to to (omega arith))) w.loads;
        among = λ x j. in_points to x n.points (w.among x j)
            (let e = ends_below n.held (batches (noted.Roll to ∷ js)) x w.covered j in let c = cut_below to (batches js) in omega arith);
        whole = w.whole;
      }

  -- a role that is written down with the log of now
  noted_loads : (role : Role) (l : List LogEntry) → n.log ≡ l → Stands g (loaded n.br n.held (noted.State role n.log ∷ js))
  noted_loads role [] e =
      subst (λ b. Stands g (seated b (upto n.held (place_of js).at) (noted.State role n.log ∷ js))) (sym (ap (front_or n.br) e))
      (seat_stands g n (noted.State role n.log ∷ js) t d.spot (λ x i. (d.among x i, bound x i))
      (subst (λ z. AncestryBy (Kin g) g.tree z n.br (reach_of (place_of js))) (sym e) (record { short = omega arith; distinct = tt; falls = tt; at_forks = tt; traces = tt })))
  noted_loads role (x ∷ xs) e =
      let u = x.uuid in
      let b : n.position.ss ≤ n.position.at = rises_le n.position.ss n.position.at (above n.held n.position.ss) t.follows.rises in
      let al = at_le n t.follows.within in
      let a = t.ancestry in
      let k : Kin g u n.br (member_reach n) = (subst (λ z. Traces (Kin g) z n.br (member_reach n)) e a.traces).0 in
      let st : Settled g u n.position.at = kin_settled g u n.br n.position.at (member_reach n) al t.settled k in
      let f : IsFront n.log u = subst (λ z. IsFront z u) (sym e) refl in
      let tr : Traces (Kin g) n.log u (member_reach n) = subst (λ z. Traces (Kin g) z u (member_reach n)) (sym e) (kin_refl g u (member_reach n) n.position.at st, (subst (λ z. Traces (Kin g) z n.br (member_reach n)) e a.traces).1) in
      let au : AncestryBy (Kin g) g.tree n.log u (member_reach n) = record { short = a.short; distinct = a.distinct; falls = a.falls; at_forks = a.at_forks; traces = tr } in
      let l : Feed = record { u = u; log = n.log; flight = []; given = None } in
      let lk : Linked g n None (Some l) = ((kin_sym g u n.br (member_reach n) k, f, au, st), tt, tt) in
      let m : Member = record n { active = false; br = u; coming = None; link = None } in
      let tm : Stands g m = stands_unlinked g (record n { br = u; coming = Some []; link = Some l }) false (adopted_stands g n (Some l) t lk) in
      let sh : upto (hist g.tree n.br) (member_reach n) ≡ upto (hist g.tree u) (member_reach n) = kin_shared g n.br u (member_reach n) (kin_sym g u n.br (member_reach n) k) in
      subst (λ z. Stands g (seated z (upto n.held (place_of js).at) (noted.State role n.log ∷ js))) (sym (ap (front_or n.br) e))
      (seat_stands g m (noted.State role n.log ∷ js) tm (fits_turned g n.br u n.held n.position n.points (place_of js) sh (fork_le n b) al d.spot) (λ y i. (d.among y i, bound y i))
      (ancestry_front g n.log u (member_reach n) (reach_of (place_of js)) n.position.at f st au))

  pub told_noted : (role : Role) → Told g n.br n.held n.position n.points (noted.State role n.log ∷ js)
  told_noted role = record { covered = d.covered; ends = d.ends; spot = d.spot; loads = noted_loads role n.log refl; among = d.among; whole = d.whole }

  -- a batch that ends where a span does
  pub told_taken : (q : Position) (cas : ℕ) (items : List Change) → Fits g n.br n.held n.position n.points q → IsFront n.log n.br → Covers items n.held (place_of js).at q.at
      → Told g n.br n.held n.position n.points (noted.Rows (record { position = q; cas = cas; log = n.log; items = items }) ∷ js)
  told_taken q cas items f fr c =
      let b : Batch = record { position = q; cas = cas; log = n.log; items = items } in
      let ks = noted.Rows b ∷ js in
      let y : (place_of js).at ≡ end_of (batches js) = d.ends in
      let cv : Covered n.held (batches ks) = (subst (λ x. Covers items n.held x q.at) y c, d.covered) in
      let am : (x : ℕ) → IsPoint x (complete_points ks) → IsPoint x n.points = λ x i. taken_among b f (eqb q.at q.se) refl x i in
      record {
        covered = cv;
        ends = refl;
        spot = f;
        loads = subst (λ z. Stands g (seated z (upto n.held q.at) ks)) (front_is n.log fr)
            (seat_stands g n ks t f (λ x i. (am x i, ends_below n.held (batches ks) x cv i)) (ancestry_front g n.log n.br (member_reach n) (reach_of q) n.position.at fr t.settled t.ancestry));
        among = am;
        whole = λ e. subst (λ z. IsPoint q.at (cond z (q.at ∷ complete_points js) (complete_points js))) (sym (eq-eqb q.at q.se e)) (inl refl);
      }
    where
      front_is : (l : List LogEntry) → IsFront l n.br → n.br ≡ front_or n.br l
      front_is [] i = refl
      front_is (x ∷ xs) i = sym i

      taken_among : (b : Batch) → Fits g n.br n.held n.position n.points b.position → (z : Bool) → eqb b.position.at b.position.se ≡ z → (x : ℕ) → IsPoint x (cond z (b.position.at ∷ complete_points js) (complete_points js)) → IsPoint x n.points
      taken_among b f true e x i = ⊎_elim (λ h. subst (λ w. IsPoint w n.points) (sym h) (f.marked (eqb-true b.position.at b.position.se e))) (λ h. d.among x h) i
      taken_among b f false e x i = d.among x i

  -- a node that loaded it has it
  pub told_loaded : Told g (loaded n.br n.held js).br (loaded n.br n.held js).held (loaded n.br n.held js).position (loaded n.br n.held js).points js
  told_loaded =
      let m = loaded n.br n.held js in
      let q = place_of js in
      let y : q.at ≡ end_of (batches js) = d.ends in
      record {
        covered = covered_same n.held m.held (batches js) q.at (λ x l. sym (upto-upto n.held x q.at l)) (omega arith) d.covered;
        ends = d.ends;
        spot = fits_self g m d.loads d.whole;
        loads = subst (λ b. Stands g (seated b (upto m.held q.at) js)) (twice (last_log js))
            (subst (λ h. Stands g (seated m.br h js)) (sym (upto-upto n.held q.at q.at (omega arith))) d.loads);
        among = λ x i. i;
        whole = d.whole;
      }
    where
      twice : (l : List LogEntry) → front_or n.br l ≡ front_or (front_or n.br l) l
      twice [] = refl
      twice (x ∷ xs) = refl

-- what may be written, once it stands

told_next : (top : ℕ) (w : Cluster) (k : ℕ) (r : Record) → SoundCluster top w → MayAppend (w.nodes k) (w.disks k) r → Told (ground w) (w.nodes k).br (w.nodes k).held (w.nodes k).position (w.nodes k).points (r ∷ (w.disks k).book)
told_next top w k (noted.State role log) s m =
    subst (λ l. Told (ground w) (w.nodes k).br (w.nodes k).held (w.nodes k).position (w.nodes k).points (noted.State role l ∷ (w.disks k).book)) (sym m)
    (told_noted top (ground w) s.prepared (all_rise top w s) (w.nodes k) (s.stands k) (w.disks k).book (s.kept k).book role)
told_next top w k (noted.Rows b) s m = (s.kept k).batch b m
told_next top w k (noted.Roll to) s m = told_rolled top (ground w) s.prepared (all_rise top w s) (w.nodes k) (s.stands k) (w.disks k).book (s.kept k).book to m

nothing_late : (g : Ground) (n : Member) (js : List Record) (r : Record) → None ≡ Some r → Told g n.br n.held n.position n.points (r ∷ js)
nothing_late g n js r q = cc

-- the node stays as it is
disk_sound : (top : ℕ) (w : Cluster) (k : ℕ) (d : Disk) → SoundCluster top w → Kept (ground w) (w.nodes k) d → SoundCluster top (set_node w k (w.nodes k) d)
disk_sound top w k d s kp = node_sound top w k (w.nodes k) d s (s.stands k) kp (s.leads k) (λ u x. x) (λ u m x. x)

pub take_keeps : (top : ℕ) (w : Cluster) (k : ℕ) (position : Position) (cas : ℕ) (items : List Change) → SoundCluster top w → May top w (Move.Take k position cas items) → SoundCluster top (happens w (Move.Take k position cas items))
take_keeps top w k position cas items s m =
    let n = w.nodes k in
    let d = w.disks k in
    let kp = s.kept k in
    let b : Batch = record { position = position; cas = cas; log = n.log; items = items } in
    let told = told_taken top (ground w) s.prepared (all_rise top w s) n (s.stands k) d.book kp.book position cas items (kp.stood position m.0) (kp.front position m.0) m.1 in
    disk_sound top w k (record d { batch = Some b }) s
    (record {
      book = kp.book;
      late = kp.late;
      batch = λ c q. let z : b ≡ c = cc in subst (λ x. Told (ground w) n.br n.held n.position n.points (noted.Rows x ∷ d.book)) z told;
      stood = kp.stood;
      front = kp.front;
    })

-- an out batch stays good when a role is written down before it
batch_after : (g : Ground) (n : Member) (js : List Record) (role : Role) (log : List LogEntry) (b : Batch) → Told g n.br n.held n.position n.points (noted.Rows b ∷ js) → Told g n.br n.held n.position n.points (noted.Rows b ∷ noted.State role log ∷ js)
batch_after g n js role log b d = record { covered = d.covered; ends = d.ends; spot = d.spot; loads = d.loads; among = d.among; whole = d.whole }

appended_kept : (top : ℕ) (w : Cluster) (k : ℕ) (r : Record) → SoundCluster top w → MayStand (w.nodes k) (w.disks k) r → Kept (ground w) (w.nodes k) (appended (w.disks k) r)
appended_kept top w k (noted.State role log) s m =
    let kp = s.kept k in
    record {
      book = told_next top w k (noted.State role log) s m;
      late = nothing_late (ground w) (w.nodes k) (noted.State role log ∷ (w.disks k).book);
      batch = λ b q. batch_after (ground w) (w.nodes k) (w.disks k).book role log b (kp.batch b q);
      stood = kp.stood;
      front = kp.front;
    }
appended_kept top w k (noted.Rows b) s m =
    let kp = s.kept k in
    record {
      book = kp.batch b m;
      late = nothing_late (ground w) (w.nodes k) (noted.Rows b ∷ (w.disks k).book);
      batch = λ c q. let z : None ≡ Some c = q in cc;
      stood = kp.stood;
      front = kp.front;
    }
appended_kept top w k (noted.Roll to) s m = absurd m

pub append_keeps : (top : ℕ) (w : Cluster) (k : ℕ) (r : Record) → SoundCluster top w → May top w (Move.Append k r) → SoundCluster top (happens w (Move.Append k r))
append_keeps top w k r s m = disk_sound top w k (appended (w.disks k) r) s (appended_kept top w k r s m)

pub break_keeps : (top : ℕ) (w : Cluster) (k : ℕ) (r : Record) → SoundCluster top w → May top w (Move.Break k r) → SoundCluster top (happens w (Move.Break k r))
break_keeps top w k r s m =
    let kp = s.kept k in
    let n = w.nodes k in
    let d = w.disks k in
    let told = told_next top w k r s m in
    disk_sound top w k (record d { late = Some r }) s
    (record {
      book = kp.book;
      late = λ c q. let z : r ≡ c = cc in subst (λ x. Told (ground w) n.br n.held n.position n.points (x ∷ d.book)) z told;
      batch = kp.batch;
      stood = kp.stood;
      front = kp.front;
    })

pub roll_keeps : (top : ℕ) (w : Cluster) (k to : ℕ) → SoundCluster top w → May top w (Move.Roll k to) → SoundCluster top (happens w (Move.Roll k to))
roll_keeps top w k to s m =
    let g = ground w in
    let n = w.nodes k in
    let d = w.disks k in
    let kp = s.kept k in
    let v = rolled n to in
    let r = all_rise top w s in
    idle_sound top w k v (appended d (noted.Roll to)) s (rolled_stands top g n to s.prepared r (s.stands k) (kp.book.among to m.1))
    (record {
      book = told_after top g s.prepared r n (s.stands k) d.book kp.book to m.1;
      late = nothing_late g v (noted.Roll to ∷ d.book);
      batch = λ b q. let z : None ≡ Some b = q in cc;
      stood = λ q i. absurd i;
      front = λ q i. absurd i;
    })
    m.0 (λ u x r. no_right u x n.link r)

-- crash

pub opened_kept : (top : ℕ) (w : Cluster) (n : Member) (js : List Record) → SoundCluster top w → Stands (ground w) n → Told (ground w) n.br n.held n.position n.points js → Kept (ground w) (loaded n.br n.held js) (opened js)
opened_kept top w n js s t d =
    record {
      book = told_loaded top (ground w) s.prepared (all_rise top w s) n t js d;
      late = λ r q. let z : None ≡ Some r = q in cc;
      batch = λ b q. let z : None ≡ Some b = q in cc;
      stood = λ q i. absurd i;
      front = λ q i. absurd i;
    }

found_told : (g : Ground) (n : Member) (d : Disk) (o : Option Record) (stood : Bool) → d.late ≡ o → Kept g n d → Told g n.br n.held n.position n.points (found d.book o stood)
found_told g n d None stood e kp = kp.book
found_told g n d (Some r) true e kp = kp.late r e
found_told g n d (Some r) false e kp = kp.book

pub crash_keeps : (top : ℕ) (w : Cluster) (k : ℕ) (stood : Bool) → SoundCluster top w → May top w (Move.Crash k stood) → SoundCluster top (happens w (Move.Crash k stood))
crash_keeps top w k stood s m =
    let g = ground w in
    let n = w.nodes k in
    let d = w.disks k in
    let js = found d.book d.late stood in
    let t = found_told g n d d.late stood refl (s.kept k) in
    let v = loaded n.br n.held js in
    idle_sound top w k v (opened js) s t.loads (opened_kept top w n js s (s.stands k) t) refl (λ u x r. no_right u x n.link r)
