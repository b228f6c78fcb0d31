-- what a sound cluster has besides: what its members wrote down has no greater CAS than it tells, and no number is above the greatest one
use Rattle.std.proofs.Common.{◌≡◌, ℕ, ◌≤◌, List, [], ◌∷◌, ◌++◌, ap, sym, subst, ⊎_elim, arith}
use Rattle.std.specs.Prelude.{Some, None}
use Rattle.vb_types.specs.declared.change.Change.{Change}
use Rattle.vb_types.specs.declared.position.Position.{Position}
use Rattle.vb_types.specs.declared.journal.Batch.{Batch}
use Rattle.vb_types.specs.declared.journal.Record.{Record}
use Rattle.vb_types.specs.declared.journal.Record.TheVariants as noted
use Rattle.vb_types.specs.Histories.{IsIn, upto}
use Rattle.branch_model.specs.Journals.{IsPoint, cas_of_last, complete_points, end_of, batches, place_of}
use Rattle.branch_model.proofs.Journaling.{ends_below}
use Rattle.branch_model.proofs.Lists.{in_append, from_upto, rises_le, upto_in}
use Rattle.cluster_model.specs.Clusters.{Cluster, Disk, IsSpot, May, MayAppend, MayStand, Member, Move, above, appended, member_fork, put}
use Rattle.cluster_model.specs.Clusters as cluster
use Rattle.cluster_model.proofs.Carrying.{fork_le}
use Rattle.cluster_model.proofs.Keeping.{put_both}
use Rattle.vb_calls.specs.Following.{cas_of}

-- none of the changes has a CAS above n
abbrev pub Weighs : ℕ → List Change → Type 0
Weighs n xs = (x : Change) → IsIn x xs → cas_of x.act ≤ n

pub weighs_upto : (n at : ℕ) (xs : List Change) → Weighs n xs → Weighs n (upto xs at)
weighs_upto n at xs w = λ x i. w x (from_upto x xs at i).0

pub weighs_push : (n m : ℕ) (xs : List Change) (c : Change) → n ≤ m → cas_of c.act ≤ m → Weighs n xs → Weighs m (xs ++ c ∷ [])
weighs_push n m xs c l k w x i = ⊎_elim
    (λ j. let z : cas_of x.act ≤ n = w x j in omega arith)
    (λ j. ⊎_elim (λ q. subst (λ (y : Change). cas_of y.act ≤ m) (sym q) k) (λ none. absurd none) j)
    (in_append x xs (c ∷ []) i)

-- of what a node that loads these records holds none has a CAS above the last one that they tell, and the node ends its snapshot at `top` or below
pub record Reads (top : ℕ) (n : Member) (js : List Record) : Type 0 where
  pub capped : (place_of js).se ≤ top
  pub weighs : Weighs (cas_of_last js) (upto n.held (place_of js).at)

-- a node ends its snapshot at `top` or below, and so do its spans, and one that loads what it wrote down or may come to write
pub record Bounded (top : ℕ) (n : Member) (d : Disk) : Type 0 where
  pub capped : n.position.se ≤ top
  pub book : Reads top n d.book
  pub late : (r : Record) → d.late ≡ Some r → Reads top n (r ∷ d.book)
  pub batch : (b : Batch) → d.batch ≡ Some b → Reads top n (noted.Rows b ∷ d.book)
  pub stood : (q : Position) → IsSpot q d.stood → q.se ≤ top

-- what a move needs: a batch is taken with a CAS that none of the changes up to its end has a greater one
abbrev pub Allows : ℕ → Cluster → Move → Type 0
Allows top w (Move.Take k position cas items) = May top w (Move.Take k position cas items) × Weighs cas (upto (w.nodes k).held position.at)
Allows top w other = May top w other

pub may_of : (top : ℕ) (w : Cluster) (e : Move) → Allows top w e → May top w e
may_of top w (Move.Take k position cas items) m = m.0
may_of top w other m = m

pub record SoundCluster (top : ℕ) (w : Cluster) : Type 0 where
  pub still : cluster.SoundCluster top w
  pub open still use *
  pub bounded : (k : ℕ) → Bounded top (w.nodes k) (w.disks k)
  pub tips_capped : (u : ℕ) → w.tips u ≤ top

-- what would be loaded, once the node holds more
pub reads_moved : (top : ℕ) (n m : Member) (js : List Record) → upto m.held (place_of js).at ≡ upto n.held (place_of js).at → Reads top n js → Reads top m js
reads_moved top n m js same r = record { capped = r.capped; weighs = subst (Weighs (cas_of_last js)) (sym same) r.weighs }

module _ (top : ℕ) (w : Cluster) (k : ℕ) (s : SoundCluster top w) where
  abbrev n : Member
  n = w.nodes k

  abbrev d : Disk
  d = w.disks k

  pub within : (n.position.ss ≤ n.position.at) × (n.position.at ≤ n.position.se)
  within = (rises_le n.position.ss n.position.at (above n.held n.position.ss) (s.stands k).follows.rises, (s.stands k).follows.within)

  pub at_capped : n.position.at ≤ top
  at_capped = let x = within.1 in let y = (s.bounded k).capped in omega arith

  pub fork_low : member_fork n ≤ n.position.at
  fork_low = fork_le n within.0

  -- a rollback to one of the journal's complete points
  pub point_low : (to : ℕ) → IsPoint to (complete_points d.book) → (to ≤ (place_of d.book).at) × (to ≤ top)
  point_low to i =
      let told = (s.kept k).book in
      let low : to ≤ end_of (batches d.book) = ends_below n.held (batches d.book) to told.covered i in
      let ends : (place_of d.book).at ≡ end_of (batches d.book) = told.ends in
      let fork : to ≤ member_fork n = ((s.stands k).points to (told.among to i)).0 in
      let x = fork_low in let y = at_capped in (omega arith, omega arith)

  pub rolled_reads : (to : ℕ) → IsPoint to (complete_points d.book) → Reads top n (noted.Roll to ∷ d.book)
  rolled_reads to i =
      let l = point_low to i in
      let among : (x : Change) → IsIn x (upto n.held to) → IsIn x (upto n.held (place_of d.book).at) =
      λ x j. let p = from_upto x n.held to j in let a : to ≤ (place_of d.book).at = l.0 in let b : x.seq ≤ to = p.1 in upto_in x n.held (place_of d.book).at p.0 (omega arith) in
      record {
        capped = l.1;
        weighs = λ x j. (s.bounded k).book.weighs x (among x j);
      }

  -- what may be appended
  next_reads : (r : Record) → MayAppend n d r → Reads top n (r ∷ d.book)
  next_reads (noted.State role log) m = record { capped = (s.bounded k).book.capped; weighs = (s.bounded k).book.weighs }
  next_reads (noted.Rows b) m = (s.bounded k).batch b m
  next_reads (noted.Roll to) m = rolled_reads to m

  no_late : (js : List Record) (r : Record) → None ≡ Some r → Reads top n (r ∷ js)
  no_late js r q = cc

  no_batch : (js : List Record) (b : Batch) → None ≡ Some b → Reads top n (noted.Rows b ∷ js)
  no_batch js b q = cc

  -- after an append
  pub appended_bounded : (r : Record) → MayStand n d r → Bounded top n (appended d r)
  appended_bounded (noted.State role log) m = let b = s.bounded k in record {
    capped = b.capped;
    book = next_reads (noted.State role log) m;
    late = no_late (noted.State role log ∷ d.book);
    batch = λ x q. let r = b.batch x q in record { capped = r.capped; weighs = r.weighs };
    stood = b.stood;
  }
  appended_bounded (noted.Rows x) m = let b = s.bounded k in record { capped = b.capped; book = b.batch x m; late = no_late (noted.Rows x ∷ d.book); batch = no_batch (noted.Rows x ∷ d.book); stood = b.stood }
  appended_bounded (noted.Roll to) m = absurd m

  -- a batch that is taken, with a CAS that none of what it is of has a greater one
  pub taken_bounded : (q : Position) (cas : ℕ) (items : List Change) → IsSpot q d.stood → Weighs cas (upto n.held q.at) → Bounded top n (record d { batch = Some (record { position = q; cas = cas; log = n.log; items = items }) })
  taken_bounded q cas items i heavy = let b = s.bounded k in let x : Batch = record { position = q; cas = cas; log = n.log; items = items } in record {
    capped = b.capped;
    book = b.book;
    late = b.late;
    batch = λ y e. let z : x ≡ y = cc in subst (λ t. Reads top n (noted.Rows t ∷ d.book)) z (record { capped = b.stood q i; weighs = heavy });
    stood = b.stood;
  }

  pub broken_bounded : (r : Record) → MayAppend n d r → Bounded top n (record d { late = Some r })
  broken_bounded r m = let b = s.bounded k in record { capped = b.capped; book = b.book; late = λ x q. let z : r ≡ x = cc in subst (λ t. Reads top n (t ∷ d.book)) z (next_reads r m); batch = b.batch; stood = b.stood }

  -- one that turns to other links, or stands elsewhere with what it holds
  pub turned_bounded : (m : Member) → m.held ≡ n.held → m.position.se ≤ top → Bounded top m d
  turned_bounded m held l =
      let b = s.bounded k in
      let same : (js : List Record) → Reads top n js → Reads top m js = λ js r. reads_moved top n m js (ap (λ h. upto h (place_of js).at) held) r in
      record { capped = l; book = same d.book b.book; late = λ r q. same (r ∷ d.book) (b.late r q); batch = λ x q. same (noted.Rows x ∷ d.book) (b.batch x q); stood = b.stood }

  pub put_here : (m : Member) (e : Disk) → Bounded top m e → (j : ℕ) → Bounded top (put w.nodes k m j) (put w.disks k e j)
  put_here m e b = put_both (Bounded top) w.nodes w.disks k m e b s.bounded
