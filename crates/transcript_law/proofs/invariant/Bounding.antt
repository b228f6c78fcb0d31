-- what holds besides in a sound cluster holds at its start and after each move
use Rattle.std.proofs.Common.{◌≡◌, inl, ℕ, ◌<◌, ◌≤◌, ◌+◌, Bool, true, false, cond, List, [], ◌∷◌, eqb, refl, sym, subst, ⊎_elim, arith}
use Rattle.std.specs.Prelude.{Option, Some, None}
use Rattle.std.proofs.lemmas.Bool.{eqb-true}
use Rattle.vb_types.specs.declared.change.Change.{Change}
use Rattle.vb_types.specs.declared.journal.Record.{Record}
use Rattle.vb_types.specs.declared.journal.Record.TheVariants as noted
use Rattle.vb_types.specs.declared.position.Position.{Position}
use Rattle.vb_types.specs.declared.stream.StreamAsk.{StreamAsk}
use Rattle.vb_types.specs.declared.stream.Verdict.TheVariants.{Continue, Roll}
use Rattle.vb_types.specs.Histories.{upto}
use Rattle.vb_types.specs.Images.{image_of}
use Rattle.branch_model.specs.Journals.{IsPoint, cas_of_last, complete_points, found, place_of}
use Rattle.branch_model.specs.Logs.{Ancestry}
use Rattle.branch_model.specs.Requests.{effective_se, rule}
use Rattle.branch_model.specs.Snapshots.{IsComplete}
use Rattle.branch_model.specs.Trees.{Shared, hist}
use Rattle.cluster_model.specs.Clusters.{Cluster, Comes, Disk, Feed, Ground, Linked, May, Member, Move, Told, adopted, appended, ceded, ground, happens, loaded, marked_by, marked_member, member_reach, opened, owned, promoted, put, received, rolled, spanned, spanned_by, start, yielded}
use Rattle.cluster_model.specs.Clusters as cluster
use Rattle.cluster_model.proofs.Carrying.{stands_unlinked, upto_push}
use Rattle.cluster_model.proofs.Fitting.{kept_unlinked}
use Rattle.cluster_model.proofs.Keeping.{node_sound, put_all}
use Rattle.cluster_model.proofs.Runs as runs
use Rattle.transcript_law.proofs.invariant.Bounded.{Allows, Bounded, Reads, SoundCluster, appended_bounded, at_capped, broken_bounded, put_here, reads_moved, rolled_reads, taken_bounded, turned_bounded, may_of, weighs_upto}

module _ (top : ℕ) (w : Cluster) (k : ℕ) (s : SoundCluster top w) where
  abbrev n : Member
  n = w.nodes k

  abbrev d : Disk
  d = w.disks k

  abbrev g : Ground
  g = ground w

  -- it holds more
  moved_bounded : (m : Member) → m.position.se ≤ top → ((p : ℕ) → p ≤ n.position.at → upto m.held p ≡ upto n.held p) → Bounded top m d
  moved_bounded m capped below =
      let kept = s.kept k in let b = s.bounded k in
      let reads : (js : List Record) → Told g n.br n.held n.position n.points js → Reads top n js → Reads top m js =
      λ js t r. reads_moved top n m js (below (place_of js).at t.spot.reached) r in record {
        capped = capped;
        book = reads d.book kept.book b.book;
        late = λ r q. reads (r ∷ d.book) (kept.late r q) (b.late r q);
        batch = λ x q. reads (noted.Rows x ∷ d.book) (kept.batch x q) (b.batch x q);
        stood = b.stood;
      }

  spanned_bounded : (m : Member) (q : Position) → q.se ≤ top → Bounded top m d → Bounded top m (spanned d q)
  spanned_bounded m q l b = record { capped = b.capped; book = b.book; late = b.late; batch = b.batch; stood = λ p i. ⊎_elim (λ e. subst (λ (x : Position). x.se ≤ top) (sym e) l) (λ j. b.stood p j) i }

  received_bounded : (o : Option (List Change)) → Comes g n o → Bounded top (received n o) (spanned_by d n o)
  received_bounded None t = s.bounded k
  received_bounded (Some []) t = s.bounded k
  received_bounded (Some (c ∷ rest)) t = ⊎_elim (λ q. let z : c ∷ rest ≡ [] = q in cc) (λ x.
      let up : n.position.at < c.seq = x.0.rises.0 in
      spanned_bounded (received n (Some (c ∷ rest))) (record n.position { at = c.seq }) (s.bounded k).capped
      (moved_bounded (received n (Some (c ∷ rest))) (s.bounded k).capped (λ p l. upto_push n.held c p (omega arith)))) t.1

  marked_bounded : (o : Option Feed) → n.link ≡ o → Bounded top (marked_member n o) d
  marked_bounded None e = s.bounded k
  marked_bounded (Some l) e = by l.flight refl
    where
      by : (xs : List (ℕ × List Change)) → l.flight ≡ xs → Bounded top (marked_by n l xs) d
      by [] q = s.bounded k
      by (x ∷ more) q =
          let linked : Linked g n n.coming (Some l) = subst (Linked g n n.coming) e (s.stands k).linked in
          let flown = subst (cluster.Flight g l.u (cluster.flight_from n n.coming)) q linked.1 in
          let low : x.0 ≤ w.tips l.u = flown.1.1 in let high = s.tips_capped l.u in
          turned_bounded top w k s (marked_by n l (x ∷ more)) refl (omega arith)

  adopted_bounded : (o : Option Feed) → Bounded top (adopted n o) d
  adopted_bounded None = s.bounded k
  adopted_bounded (Some l) = turned_bounded top w k s (adopted n (Some l)) refl (s.bounded k).capped

  ceded_bounded : (o : Option Feed) (high : ℕ) → Bounded top (ceded n o high) d
  ceded_bounded None high = s.bounded k
  ceded_bounded (Some l) high = turned_bounded top w k s (ceded n (Some l) high) refl (s.bounded k).capped

  sent_bounded : (o : Option Feed) (items : List Change) (end : ℕ) → Bounded top (cluster.sent n o items end) d
  sent_bounded None items end = s.bounded k
  sent_bounded (Some l) items end = turned_bounded top w k s (cluster.sent n (Some l) items end) refl (s.bounded k).capped

  rolled_bounded : (to : ℕ) → IsPoint to (complete_points d.book) → Bounded top (rolled n to) (appended d (noted.Roll to))
  rolled_bounded to i =
      let reads = rolled_reads top w k s to i in record {
        capped = reads.capped;
        book = record { capped = reads.capped; weighs = weighs_upto (cas_of_last d.book) to (upto n.held to) reads.weighs };
        late = λ r q. cc;
        batch = λ x q. cc;
        stood = λ q j. absurd j;
      }

  loaded_bounded : (js : List Record) → Reads top n js → Bounded top (loaded n.br n.held js) (opened js)
  loaded_bounded js r = record {
    capped = r.capped;
    book = record { capped = r.capped; weighs = weighs_upto (cas_of_last js) (place_of js).at (upto n.held (place_of js).at) r.weighs };
    late = λ x q. cc;
    batch = λ x q. cc;
    stood = λ q j. absurd j;
  }

  found_reads : (o : Option Record) → d.late ≡ o → (stood : Bool) → Reads top n (found d.book o stood)
  found_reads None e stood = (s.bounded k).book
  found_reads (Some r) e true = (s.bounded k).late r e
  found_reads (Some r) e false = (s.bounded k).book

  tips_put : (u m : ℕ) → m ≤ top → (x : ℕ) → put w.tips u m x ≤ top
  tips_put u m l = put_all (λ t. t ≤ top) w.tips u m l s.tips_capped

-- what a move makes of them
moves : (top : ℕ) (w : Cluster) (e : Move) → (s : SoundCluster top w) → Allows top w e → (j : ℕ) → Bounded top ((happens w e).nodes j) ((happens w e).disks j)
moves top w (Move.Own k c) s m =
    let n = w.nodes k in
    let next : c.seq ≡ n.position.at + 1 = m.1 in
    put_here top w k s (owned n c) (spanned (w.disks k) (owned n c).position)
    (spanned_bounded top w k s (owned n c) (owned n c).position m.2 (moved_bounded top w k s (owned n c) m.2 (λ p l. upto_push n.held c p (omega arith))))
moves top w (Move.Grant k p) s m = put_here top w k s (cluster.answered (w.nodes k) (w.nodes p)) (w.disks k) (turned_bounded top w k s (cluster.answered (w.nodes k) (w.nodes p)) refl (s.bounded k).capped)
moves top w (Move.Send k p items end) s m = put_here top w k s (cluster.sent (w.nodes k) (w.nodes k).link items end) (w.disks k) (sent_bounded top w k s (w.nodes k).link items end)
moves top w (Move.Adopt k) s m = put_here top w k s (adopted (w.nodes k) (w.nodes k).link) (w.disks k) (adopted_bounded top w k s (w.nodes k).link)
moves top w (Move.Marker k) s m = put_here top w k s (marked_member (w.nodes k) (w.nodes k).link) (w.disks k) (marked_bounded top w k s (w.nodes k).link refl)
moves top w (Move.Receive k) s m = put_here top w k s (received (w.nodes k) (w.nodes k).coming) (spanned_by (w.disks k) (w.nodes k) (w.nodes k).coming) (received_bounded top w k s (w.nodes k).coming (s.stands k).comes)
moves top w (Move.Cut k) s m = put_here top w k s (cluster.cut (w.nodes k)) (w.disks k) (turned_bounded top w k s (cluster.cut (w.nodes k)) refl (s.bounded k).capped)
moves top w (Move.Take k position cas items) s m =
    put_here top w k s (w.nodes k) (record (w.disks k) { batch = Some (record { position = position; cas = cas; log = (w.nodes k).log; items = items }) }) (taken_bounded top w k s position cas items m.0.0 m.1)
moves top w (Move.Append k r) s m = put_here top w k s (w.nodes k) (appended (w.disks k) r) (appended_bounded top w k s r m)
moves top w (Move.Roll k to) s m = put_here top w k s (rolled (w.nodes k) to) (appended (w.disks k) (noted.Roll to)) (rolled_bounded top w k s to m.1)
moves top w (Move.Break k r) s m = put_here top w k s (w.nodes k) (record (w.disks k) { late = Some r }) (broken_bounded top w k s r m)
moves top w (Move.Crash k stood) s m =
    let js = found (w.disks k).book (w.disks k).late stood in
    put_here top w k s (loaded (w.nodes k).br (w.nodes k).held js) (opened js) (loaded_bounded top w k s js (found_reads top w k s (w.disks k).late refl stood))
moves top w (Move.Promote k id) s m = put_here top w k s (promoted (w.nodes k) id) (w.disks k) (turned_bounded top w k s (promoted (w.nodes k) id) refl m.2)
moves top w (Move.Yield k) s m = put_here top w k s (yielded (w.nodes k)) (w.disks k) (turned_bounded top w k s (yielded (w.nodes k)) refl (s.bounded k).capped)
moves top w (Move.Cede k p) s m = λ j. ceded_case j
  where
    -- the producer rests, and the consumer is given its branch
    rests : (j : ℕ) → Bounded top (put w.nodes p (yielded (w.nodes p)) j) (w.disks j)
    rests j = elim (eqb j p) as (λ b. eqb j p ≡ b → Bounded top (cond b (yielded (w.nodes p)) (w.nodes j)) (w.disks j)) [
      | true ↦ λ e. subst (λ x. Bounded top (yielded (w.nodes p)) (w.disks x)) (sym (eqb-true j p e)) (turned_bounded top w p s (yielded (w.nodes p)) refl (s.bounded p).capped)
      | false ↦ λ e. s.bounded j
    ] refl

    ceded_case : (j : ℕ) → Bounded top (put (put w.nodes p (yielded (w.nodes p))) k (ceded (w.nodes k) (w.nodes k).link (w.nodes p).position.at) j) (w.disks j)
    ceded_case j = elim (eqb j k) as (λ b. eqb j k ≡ b → Bounded top (cond b (ceded (w.nodes k) (w.nodes k).link (w.nodes p).position.at) (put w.nodes p (yielded (w.nodes p)) j)) (w.disks j)) [
      | true ↦ λ e. subst (λ x. Bounded top (ceded (w.nodes k) (w.nodes k).link (w.nodes p).position.at) (w.disks x)) (sym (eqb-true j k e)) (ceded_bounded top w k s (w.nodes k).link (w.nodes p).position.at)
      | false ↦ λ e. rests j
    ] refl
moves top w (Move.Rise k) s m = put_here top w k s (cluster.risen (w.nodes k)) (w.disks k) (turned_bounded top w k s (cluster.risen (w.nodes k)) refl (at_capped top w k s))

tips_moved : (top : ℕ) (w : Cluster) (e : Move) → (s : SoundCluster top w) → May top w e → (u : ℕ) → (happens w e).tips u ≤ top
tips_moved top w (Move.Own k c) s m = tips_put top w k s (w.nodes k).br c.seq m.2
tips_moved top w (Move.Promote k id) s m = tips_put top w k s id (w.nodes k).position.at m.2
tips_moved top w (Move.Grant k p) s m = s.tips_capped
tips_moved top w (Move.Send k p items end) s m = s.tips_capped
tips_moved top w (Move.Adopt k) s m = s.tips_capped
tips_moved top w (Move.Marker k) s m = s.tips_capped
tips_moved top w (Move.Receive k) s m = s.tips_capped
tips_moved top w (Move.Cut k) s m = s.tips_capped
tips_moved top w (Move.Take k position cas items) s m = s.tips_capped
tips_moved top w (Move.Append k r) s m = s.tips_capped
tips_moved top w (Move.Roll k to) s m = s.tips_capped
tips_moved top w (Move.Break k r) s m = s.tips_capped
tips_moved top w (Move.Crash k stood) s m = s.tips_capped
tips_moved top w (Move.Yield k) s m = s.tips_capped
tips_moved top w (Move.Cede k p) s m = s.tips_capped
tips_moved top w (Move.Rise k) s m = s.tips_capped

pub keeps : (top : ℕ) (w : Cluster) (e : Move) → SoundCluster top w → Allows top w e → SoundCluster top (happens w e)
keeps top w e s m = let may = may_of top w e m in record { still = runs.keeps top w e s.still may; bounded = moves top w e s m; tips_capped = tips_moved top w e s may }

-- also an active member may be cut off
pub cut_sound : (top : ℕ) (w : Cluster) (k : ℕ) → SoundCluster top w → SoundCluster top (happens w (Move.Cut k))
cut_sound top w k s =
    let n = w.nodes k in
    record {
      still = node_sound top w k (cluster.cut n) (w.disks k) s.still (stands_unlinked (ground w) n n.active (s.stands k)) (kept_unlinked (ground w) n (w.disks k) n.active None None (s.kept k))
          (λ active. let x = s.leads k active in record { ss_at = x.ss_at; se_at = x.se_at; tip = x.tip; front = x.front; falls = x.falls })
          (λ u x. ⊎_elim (λ writes. inl writes) (λ right. absurd right.1) x)
          (λ u m none. absurd none);
      bounded = put_here top w k s (cluster.cut n) (w.disks k) (turned_bounded top w k s (cluster.cut n) refl (s.bounded k).capped);
      tips_capped = s.tips_capped;
    }

-- as it starts
start_reads : (top : ℕ) → Reads top cluster.fresh []
start_reads top = record { capped = omega arith; weighs = λ x i. absurd i }

pub start_sound : (top : ℕ) → SoundCluster top start
start_sound top = record {
  still = runs.start_sound top;
  bounded = λ k. record { capped = omega arith; book = start_reads top; late = λ r q. cc; batch = λ x q. cc; stood = λ q i. absurd i };
  tips_capped = λ u. omega arith;
}

-- what a sound cluster gives
pub shows : (top : ℕ) (w : Cluster) (s : SoundCluster top w) (k : ℕ) → IsComplete (w.nodes k).position → image_of (w.nodes k).held ≡ image_of (upto (hist w.tree (w.nodes k).br) (w.nodes k).position.at)
shows top w s k e = runs.shows top w s.still k e

pub tells : (top : ℕ) (w : Cluster) (s : SoundCluster top w) (k : ℕ) → Ancestry w.tree (w.nodes k).log (w.nodes k).br (member_reach (w.nodes k))
tells top w s k = runs.tells top w s.still k

pub continues : (top : ℕ) (w : Cluster) (s : SoundCluster top w) (p : ℕ) (ask : StreamAsk) → (w.nodes p).active ≡ true → 0 < ask.start → rule (w.nodes p).log (w.nodes p).position.at ask ≡ Continue → Shared w.tree ask.uuid (w.nodes p).br (effective_se ask.start ask.ss ask.se)
continues top w s p ask a l e = runs.continues top w s.still p ask a l e

pub rolls : (top : ℕ) (w : Cluster) (s : SoundCluster top w) (p : ℕ) (ask : StreamAsk) (r : ℕ) → (w.nodes p).active ≡ true → 0 < r → rule (w.nodes p).log (w.nodes p).position.at ask ≡ Roll r → Shared w.tree ask.uuid (w.nodes p).br r
rolls top w s p ask r a l e = runs.rolls top w s.still p ask r a l e
