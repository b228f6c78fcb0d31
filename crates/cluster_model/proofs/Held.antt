-- what the nodes of a sound cluster hold of their branches, and what they give of it
use Rattle.std.proofs.Common.{◌≡◌, ℕ, ◌≤◌, ◌+◌, List, true, ltb, refl, ap, sym, ◌∙◌, subst, inr, ⊎_elim, arith}
use Rattle.std.specs.Prelude.{Option, Some, None, ◌⊎◌, option_map}
use Rattle.std.specs.List.{filter}
use Rattle.vb_types.specs.declared.change.Change.{Change}
use Rattle.vb_types.specs.Histories.{upto, Rises, IsIn, Slot, touches, last_of, plain}
use Rattle.branch_model.specs.Histories.{StandsAs}
use Rattle.branch_model.specs.Snapshots.{AllOf, Remains, Covers, IsComplete}
use Rattle.branch_model.specs.Trees.{hist}
use Rattle.branch_model.specs.Journals.{batches, end_of, items_of, complete_points, points, IsPoint}
use Rattle.branch_model.proofs.Lists.{from_upto, upto_in, upto_all, rises_le, rises_in, rises_higher, rises_upto, same_seq, last_in, last_above}
use Rattle.branch_model.proofs.Images.{plain_stands, touches_same}
use Rattle.branch_model.proofs.Branches.{hist_rises}
use Rattle.branch_model.proofs.Holding.{HoldsAt, holds_covers}
use Rattle.cluster_model.specs.Clusters.{Cluster, HasAll, IsBatchEnd, SoundCluster, above, member_fork}
use Rattle.cluster_model.proofs.Having.{all_holds, all_of}
use Rattle.cluster_model.proofs.Backfilling.{end_low, items_held, items_hold, items_remain, items_rise}
use Rattle.cluster_model.proofs.Carrying.{ss_le, whole_fork}

stands_twice : (x y c : Change) → StandsAs x y → StandsAs y c → StandsAs x c
stands_twice x y c a b = ⊎_elim (λ e. subst (λ z. StandsAs z c) (sym e) b) (λ e. inr (e ∙ plain_stands y c b)) a

module _ (top n : ℕ) (h xs : List Change) (r : Rises 0 top h) (a : Remains xs h 0 n) where
  -- of a slot that one of xs touches, h has a last change, no lower
  there : (s : Slot) (x : Change) → IsIn x xs → touches s x ≡ true → (c : Change) × (last_of s (upto h n) ≡ Some c) × (x.seq ≤ c.seq)
  there s x i t =
      let o = a.of x i in
      let e : plain x ≡ plain o.0 = plain_stands x o.0 o.2 in
      let level : x.seq ≡ o.0.seq = ap (λ (y : Change). y.seq) e in
      let low : x.seq ≤ n = (rises_in 0 n xs x a.rises i).1 in
      let c = last_above (touches s) 0 n (upto h n) o.0 (rises_upto 0 top n h (omega arith) r) (upto_in o.0 h n o.1 (omega arith)) (sym (touches_same s x o.0 e) ∙ t) in
      (c.0, c.1, let l : o.0.seq ≤ c.0.seq = c.2 in omega arith)

  -- a slot's last change of h is its last one in xs
  kept_last : (s : Slot) (c : Change) → last_of s (upto h n) ≡ Some c → (y : Change) × (last_of s xs ≡ Some y) × StandsAs y c
  kept_last s c e =
      let i = last_in (touches s) (upto h n) c e in
      let y = a.has s c e (rises_in 0 top h c r (from_upto c h n i.0).0).0 (from_upto c h n i.0).1 in
      let p : plain y.0 ≡ plain c = plain_stands y.0 c y.2 in
      let level : y.0.seq ≡ c.seq = ap (λ (x : Change). x.seq) p in
      let z = last_above (touches s) 0 n xs y.0 a.rises y.1 (touches_same s y.0 c p ∙ i.1) in
      let j = last_in (touches s) xs z.0 z.1 in
      let d = there s z.0 j.0 j.1 in
      let one : c ≡ d.0 = (let q : Some c ≡ Some d.0 = sym e ∙ d.1 in cc) in
      let same : c.seq ≡ d.0.seq = ap (λ (x : Change). x.seq) one in
      let up : y.0.seq ≤ z.0.seq = z.2 in
      let down : z.0.seq ≤ d.0.seq = d.2 in
      (y.0, subst (λ x. last_of s xs ≡ Some x) (same_seq 0 n xs z.0 y.0 a.rises j.0 y.1 (omega arith)) z.1, y.2)

  -- each slot's last change is that of h, and there is none where h has none
  pub same_lasts : (s : Slot) → option_map plain (last_of s xs) ≡ option_map plain (last_of s (upto h n))
  same_lasts s = by (last_of s xs) (last_of s (upto h n)) refl refl
    where
      by : (o p : Option Change) → last_of s xs ≡ o → last_of s (upto h n) ≡ p → option_map plain o ≡ option_map plain p
      by o (Some c) eo ep =
          let y = kept_last s c ep in
          let q : o ≡ Some y.0 = sym eo ∙ y.1 in
          let p : plain y.0 ≡ plain c = plain_stands y.0 c y.2 in
          subst (λ x. option_map plain x ≡ Some (plain c)) (sym q) (ap Some p)
      by None None eo ep = refl
      by (Some x) None eo ep = let i = last_in (touches s) xs x eo in let c = there s x i.0 i.1 in let z : None ≡ Some c.0 = sym ep ∙ c.1 in cc

-- what has to come of what is held has to come of the history
pub all_remains : (top n from : ℕ) (h held items : List Change) → Rises 0 top h → AllOf held h → HasAll h held n → Remains items held from n → Remains items h from n
all_remains top n from h held items r of a m =
    record {
      rises = m.rises;
      of = λ x i. let o = m.of x i in let p = of o.0 o.1 in (p.0, p.1, stands_twice x o.0 p.0 o.2 p.2);
      has = λ s c e l u.
          let y = kept_last top n h (upto held n) r a s c e in
          let level : y.0.seq ≡ c.seq = ap (λ (x : Change). x.seq) (plain_stands y.0 c y.2) in
          let x = m.has s y.0 y.1 (omega arith) (omega arith) in
          (x.0, x.1, stands_twice x.0 y.0 c x.2 y.2);
    }

module _ (top : ℕ) (w : Cluster) (s : SoundCluster top w) (k : ℕ) where
  branch_rises : Rises 0 top (hist w.tree (w.nodes k).br)
  branch_rises = hist_rises top w.tree (w.nodes k).br s.grows

  -- all that a node holds is of its branch
  pub held_of : AllOf (w.nodes k).held (hist w.tree (w.nodes k).br)
  held_of =
      let n = w.nodes k in
      let t = s.stands k in
      all_of (member_fork n) n.position.ss (hist w.tree n.br) n.held (ss_le n (rises_le n.position.ss n.position.at (above n.held n.position.ss) t.follows.rises)) t.forked t.follows.of

  pub held_at : (p : ℕ) → IsPoint p (complete_points (w.disks k).book) ⊎ (p ≡ member_fork (w.nodes k)) → HasAll (hist w.tree (w.nodes k).br) (w.nodes k).held p
  held_at p i = ⊎_elim (λ j. ((s.stands k).points p ((s.kept k).book.among p j)).1) (λ e. subst (HasAll (hist w.tree (w.nodes k).br) (w.nodes k).held) (sym e) (s.stands k).forked) i

  pub lasts_at : (p : ℕ) (slot : Slot) → IsPoint p (complete_points (w.disks k).book) ⊎ (p ≡ member_fork (w.nodes k)) → option_map plain (last_of slot (upto (w.nodes k).held p)) ≡ option_map plain (last_of slot (upto (hist w.tree (w.nodes k).br) p))
  lasts_at p slot i = same_lasts top p (hist w.tree (w.nodes k).br) (upto (w.nodes k).held p) branch_rises (held_at p i) slot

  pub lasts_now : (slot : Slot) → IsComplete (w.nodes k).position → option_map plain (last_of slot (w.nodes k).held) ≡ option_map plain (last_of slot (upto (hist w.tree (w.nodes k).br) (w.nodes k).position.at))
  lasts_now slot e =
      let n = w.nodes k in
      ap (λ x. option_map plain (last_of slot x)) (sym (upto_all 0 n.position.at n.position.at n.held (s.stands k).rises (omega arith)))
      ∙ lasts_at n.position.at slot (inr (sym (whole_fork n.position e)))

  -- a whole snapshot of what a node holds is one of its branch
  pub sends : (items : List Change) (from end : ℕ) → IsPoint end (complete_points (w.disks k).book) ⊎ (end ≡ member_fork (w.nodes k)) → Covers items (w.nodes k).held from end → Covers items (hist w.tree (w.nodes k).br) from end
  sends items from end i c =
      let n = w.nodes k in
      let h = hist w.tree n.br in
      let most = n.position.at + top in
      holds_covers 0 (λ m. m ≡ end) most n.held h items from end (rises_higher 0 n.position.at most n.held (omega arith) (s.stands k).rises) (rises_higher 0 top most h (omega arith) branch_rises)
      (all_holds h n.held end held_of (held_at end i)) refl (omega arith) c

  -- and what its journal keeps above a place is what has to come of its branch
  pub journal_sends : (place : ℕ) → IsPoint (end_of (batches (w.disks k).book)) (complete_points (w.disks k).book) ⊎ (end_of (batches (w.disks k).book) ≡ member_fork (w.nodes k)) → place ≤ end_of (batches (w.disks k).book)
      → Remains (filter (λ x. ltb place x.seq) (items_of (batches (w.disks k).book))) (hist w.tree (w.nodes k).br) place (end_of (batches (w.disks k).book))
  journal_sends place i l =
      let n = w.nodes k in
      let bs = batches (w.disks k).book in
      all_remains top (end_of bs) place (hist w.tree n.br) n.held (filter (λ x. ltb place x.seq) (items_of bs)) branch_rises held_of (held_at (end_of bs) i)
      (items_remain n.position.at place n.held bs (s.stands k).rises (s.kept k).book.covered l)

  -- where a batch of its journal ends, no further than the journal goes
  pub batch_low : (n : ℕ) → IsBatchEnd n (points (w.disks k).book) → n ≤ end_of (batches (w.disks k).book)
  batch_low n i = end_low (w.nodes k).held (batches (w.disks k).book) n (s.kept k).book.covered i

  -- what its journal keeps up to there is a snapshot of its branch, where what it holds up to there is one
  pub journal_has : (n : ℕ) → IsBatchEnd n (points (w.disks k).book) → HasAll (hist w.tree (w.nodes k).br) (w.nodes k).held n → HasAll (hist w.tree (w.nodes k).br) (items_of (batches (w.disks k).book)) n
  journal_has n i a =
      let m = w.nodes k in
      let bs = batches (w.disks k).book in
      all_remains top n 0 (hist w.tree m.br) m.held (upto (items_of bs) n) branch_rises held_of a (items_hold m.position.at m.held bs n (s.stands k).rises (s.kept k).book.covered i)

  -- so each slot's last change there is the branch's
  pub book_lasts : (n : ℕ) (slot : Slot) → IsBatchEnd n (points (w.disks k).book) → HasAll (hist w.tree (w.nodes k).br) (w.nodes k).held n
      → option_map plain (last_of slot (upto (items_of (batches (w.disks k).book)) n)) ≡ option_map plain (last_of slot (upto (hist w.tree (w.nodes k).br) n))
  book_lasts n slot i a = same_lasts top n (hist w.tree (w.nodes k).br) (upto (items_of (batches (w.disks k).book)) n) branch_rises (journal_has n i a) slot

  -- all that its journal keeps is of its branch, which is held there in all
  pub book_holds : (n : ℕ) → IsBatchEnd n (points (w.disks k).book) → HasAll (hist w.tree (w.nodes k).br) (w.nodes k).held n → HoldsAt 0 (λ m. m ≡ n) (items_of (batches (w.disks k).book)) (hist w.tree (w.nodes k).br)
  book_holds n i a =
      let bs = batches (w.disks k).book in
      all_holds (hist w.tree (w.nodes k).br) (items_of bs) n
      (λ x j. let o = items_held (w.nodes k).held bs x (s.kept k).book.covered j in let p = held_of o.0 o.1 in (p.0, p.1, stands_twice x o.0 p.0 o.2 p.2))
      (journal_has n i a)

  -- so a whole snapshot of what its journal keeps up to there is one of its branch
  pub book_sends : (items : List Change) (from n : ℕ) → IsBatchEnd n (points (w.disks k).book) → HasAll (hist w.tree (w.nodes k).br) (w.nodes k).held n → Covers items (items_of (batches (w.disks k).book)) from n → Covers items (hist w.tree (w.nodes k).br) from n
  book_sends items from n i a c =
      let bs = batches (w.disks k).book in
      let h = hist w.tree (w.nodes k).br in
      let most = end_of bs + top in
      holds_covers 0 (λ m. m ≡ n) most (items_of bs) h items from n
      (rises_higher 0 (end_of bs) most (items_of bs) (omega arith) (items_rise (w.nodes k).held bs (s.kept k).book.covered)) (rises_higher 0 top most h (omega arith) branch_rises)
      (book_holds n i a) refl (omega arith) c
