-- what a journal gives a stream up to the end of a batch, where what its vBucket holds up to there is a whole snapshot of its branch
use Rattle.std.proofs.Common.{◌≡◌, ℕ, ◌<◌, ◌≤◌, ◌+◌, Bool, true, false, List, [], ◌∷◌, refl, ap, sym, ◌∙◌, subst, inl, inr, ⊎_elim, arith}
use Rattle.std.specs.Prelude.{Some, None, map}
use Rattle.std.proofs.lemmas.Bool.{cases_lt}
use Rattle.std.proofs.lemmas.Slice.Eq.{bytes_eq-Decides}
use Rattle.vb_types.specs.Histories.{IsIn, Rises, Slot, is_visible, last_of, plain, plain_act, touches, upto}
use Rattle.vb_types.specs.declared.change.Act.{Act}
use Rattle.vb_types.specs.declared.change.Act.TheVariants as act
use Rattle.vb_types.specs.declared.change.Change.{Change}
use Rattle.vb_types.specs.declared.journal.Batch.{Batch}
use Rattle.vb_types.specs.declared.journal.Record.{Record}
use Rattle.vb_types.specs.declared.position.Position.{Position}
use Rattle.vb_types.specs.declared.stream.Snapshot.{Snapshot}
use Rattle.branch_model.specs.Histories.{last_seq}
use Rattle.branch_model.specs.Journals.{Covered, batches, end_of, items_of, points}
use Rattle.branch_model.specs.Snapshots.{Covers}
use Rattle.branch_model.specs.Trees.{hist}
use Rattle.branch_model.proofs.Branches.{hist_rises}
use Rattle.branch_model.proofs.Holding.{HoldsAt, holds_covers}
use Rattle.branch_model.proofs.Images.{plain_stands, plain_twice, touches_plain, touches_same}
use Rattle.branch_model.proofs.Lists.{from_upto, in_left, in_right, last_above, last_in, rises_higher, rises_in, rises_upto, same_seq, upto_in}
use Rattle.cluster_model.specs.Clusters.{Cluster, HasAll, IsBatchEnd, SoundCluster}
use Rattle.cluster_model.proofs.Backfilling.{items_held, items_rise}
use Rattle.cluster_model.proofs.Held.{book_holds}
use Rattle.backfill.specs.Backfills.{disk_snapshot_of}
use Rattle.backfill.specs.Laws.{Gives, IsDiskSnapshot, IsSentFor, IsWrittenOut, Sees}
use Rattle.backfill.proofs.Disks.{gives_what_is_due}
use Rattle.backfill.proofs.Lasts.{last_there}
use Rattle.transcript_law.specs.{ClientStreams.{view}, Fronts.{FindsAll, IsFound}, LawfulClients.{NoneWithin}, StreamLaws.{IsUnreplaced}}
use Rattle.transcript_law.proofs.indexers.{Shown.{plain_in, plain_of_view}, Snapped.{upto_same}, Views.{view_holds, view_rises}}

-- ---- written out

written_plain : (a b : Act) → IsWrittenOut a b → b ≡ plain_act a
written_plain (act.Set doc) b e = e
written_plain (act.Remove cas rev) b e = e
written_plain (act.Prepare level doc deleted) b e = e
written_plain (act.Commit prepared doc true) b e = e
written_plain (act.Commit prepared doc false) b e = e
written_plain (act.Abort prepared) b e = e

sent_plain : (c x : Change) → IsSentFor c x → x ≡ plain c
sent_plain c x f = λ i. record { seq = f.seq i; key = f.key i; act = written_plain c.act x.act f.act i }

-- ---- the change at which a batch ends

abbrev spots : List Batch → List Position
spots bs = map (λ (b : Batch). b.position) bs

pub last_found : (m : ℕ) (xs : List Change) → m < last_seq m xs → (x : Change) × IsIn x xs × (x.seq ≡ last_seq m xs)
last_found m [] l = absurd (omega arith)
last_found m (x ∷ xs) l = last_there m x xs

end_change : (held : List Change) (bs : List Batch) (n : ℕ) → Covered held bs → IsBatchEnd n (spots bs) → 0 < n → (c : Change) × IsIn c (items_of bs) × (c.seq ≡ n)
end_change held [] n t e above = let none : n ≡ 0 = e in absurd (omega arith)
end_change held (b ∷ older) n t e above = ⊎_elim
    (λ (q : n ≡ b.position.at).
    let goes : end_of older < b.position.at = t.0.goes_on in
    let reaches : last_seq (end_of older) b.items ≡ b.position.at = t.0.reaches in
    let x = last_found (end_of older) b.items (omega arith) in (x.0, in_right x.0 (items_of older) b.items x.1, x.2 ∙ reaches ∙ sym q))
    (λ j. let x = end_change held older n t.1 j above in (x.0, in_left x.0 (items_of older) b.items x.1, x.2)) e

-- ---- what holds a history at a seqno

seq_same : (x y : Change) → plain x ≡ plain y → x.seq ≡ y.seq
seq_same x y e = ap (λ (c : Change). c.seq) e

one_of : (x y : Change) → Some x ≡ Some y → x ≡ y
one_of x y e = cc

module _ (top n : ℕ) (xs h : List Change) (rx : Rises 0 top xs) (rh : Rises 0 top h) (holds : HoldsAt 0 (λ m. m ≡ n) xs h) where
  -- nothing of the history is where nothing is held
  none_held : (low : ℕ) → NoneWithin xs low n → NoneWithin h low n
  none_held low none x i above within =
      let t : Slot = Slot.Pending x.key in
      let z = last_above (touches t) 0 n (upto h n) x (rises_upto 0 top n h (omega arith) rh) (upto_in x h n i within) ((bytes_eq-Decides x.key x.key).1 refl) in
      let there = from_upto z.0 h n (last_in (touches t) (upto h n) z.0 z.1).0 in
      let up : x.seq ≤ z.0.seq = z.2 in
      let y = holds.has n refl t z.0 z.1 (omega (arith, above, up)) there.1 in
      let level : y.0.seq ≡ z.0.seq = seq_same y.0 z.0 (plain_stands y.0 z.0 y.2) in
      let most : z.0.seq ≤ n = there.1 in
      none y.0 y.1 (omega (arith, above, up, level)) (omega (arith, level, most))

  -- a slot's last change that is held is the history's
  last_held : (slot : Slot) (y : Change) → last_of slot (upto xs n) ≡ Some y → (c : Change) × (last_of slot (upto h n) ≡ Some c) × (plain y ≡ plain c)
  last_held slot y e =
      let i = last_in (touches slot) (upto xs n) y e in
      let at = from_upto y xs n i.0 in
      let low : y.seq ≤ n = at.1 in
      let o = holds.of y at.0 in
      let same : plain y ≡ plain o.0 = plain_stands y o.0 o.2 in
      let level : y.seq ≡ o.0.seq = seq_same y o.0 same in
      let z = last_above (touches slot) 0 n (upto h n) o.0 (rises_upto 0 top n h (omega arith) rh) (upto_in o.0 h n o.1 (omega (arith, low, level))) (sym (touches_same slot y o.0 same) ∙ i.1) in
      let k = last_in (touches slot) (upto h n) z.0 z.1 in
      let there = from_upto z.0 h n k.0 in
      let most : z.0.seq ≤ n = there.1 in
      let y' = holds.has n refl slot z.0 z.1 (rises_in 0 top h z.0 rh there.0).0 there.1 in
      let same' : plain y'.0 ≡ plain z.0 = plain_stands y'.0 z.0 y'.2 in
      let level' : y'.0.seq ≡ z.0.seq = seq_same y'.0 z.0 same' in
      let m = last_above (touches slot) 0 n (upto xs n) y'.0 (rises_upto 0 top n xs (omega arith) rx) (upto_in y'.0 xs n y'.1 (omega (arith, most, level'))) (touches_same slot y'.0 z.0 same' ∙ k.1) in
      let level'' : y.seq ≡ m.0.seq = ap (λ (c : Change). c.seq) (one_of y m.0 (sym e ∙ m.1)) in
      let up : y'.0.seq ≤ m.0.seq = m.2 in
      let up' : o.0.seq ≤ z.0.seq = z.2 in
      (o.0, subst (λ c. last_of slot (upto h n) ≡ Some c) (same_seq 0 top h z.0 o.0 rh there.0 o.1 (omega (arith, level, level', level'', up, up'))) z.1, same)

  -- and it is held at a lower one, where none of it is between both
  holds_lower : (end : ℕ) → end ≤ n → NoneWithin h end n → HoldsAt 0 (λ m. m ≡ end) xs h
  holds_lower end low none = record {
    of = holds.of;
    has = λ m is slot c e above below.
        let last : last_of slot (upto h n) ≡ Some c = ap (last_of slot) (sym (upto_same h end n low none)) ∙ ap (λ k. last_of slot (upto h k)) (sym is) ∙ e in
        holds.has n refl slot c last above (omega (arith, is, below, low));
  }

-- a slot's last change that a stream sees is the last one of what it is shown
view_last : (sync : Bool) (top n : ℕ) (h : List Change) (slot : Slot) (c : Change) → Rises 0 top h → last_of slot (upto h n) ≡ Some c → Sees sync c → (y : Change) × (last_of slot (upto (view sync h) n) ≡ Some y) × (plain y ≡ plain c)
view_last true top n h slot c r e sees = (c, e, refl)
view_last false top n h slot c r e sees =
    let i = last_in (touches slot) (upto h n) c e in
    let at = from_upto c h n i.0 in
    let seen : is_visible c.act ≡ true = ⊎_elim (λ t. cc) (λ v. v) sees in
    let shown : IsIn (plain c) (view false h) = plain_in h c at.0 seen in
    let rises : Rises 0 top (view false h) = view_rises false 0 top h r in
    let y = last_above (touches slot) 0 n (upto (view false h) n) (plain c) (rises_upto 0 top n (view false h) (omega arith) rises) (upto_in (plain c) (view false h) n shown at.1) (touches_plain slot c ∙ i.1) in
    let k = last_in (touches slot) (upto (view false h) n) y.0 y.1 in
    let there = from_upto y.0 (view false h) n k.0 in
    let d = plain_of_view h y.0 there.0 in
    let level : y.0.seq ≡ d.0.seq = ap (λ (x : Change). x.seq) d.3 in
    let most : y.0.seq ≤ n = there.1 in
    let z = last_above (touches slot) 0 n (upto h n) d.0 (rises_upto 0 top n h (omega arith) r) (upto_in d.0 h n d.1 (omega (arith, level, most))) (sym (touches_plain slot d.0) ∙ ap (touches slot) (sym d.3) ∙ k.1) in
    let level' : c.seq ≡ z.0.seq = ap (λ (x : Change). x.seq) (one_of c z.0 (sym e ∙ z.1)) in
    let up : d.0.seq ≤ z.0.seq = z.2 in
    let up' : c.seq ≤ y.0.seq = y.2 in
    let same : y.0 ≡ plain c = same_seq 0 top (view false h) y.0 (plain c) rises there.0 shown (omega (arith, level, level', up, up')) in
    (plain c, subst (λ x. last_of slot (upto (view false h) n) ≡ Some x) same y.1, plain_twice c)

-- what no stream sees of a list is not in what it is shown
view_none : (sync : Bool) (h : List Change) (low high : ℕ) → ((c : Change) → IsIn c h → Sees sync c → low < c.seq → c.seq ≤ high → ⊥) → NoneWithin (view sync h) low high
view_none true h low high none x i above within = none x i (inl refl) above within
view_none false h low high none x i above within =
    let c = plain_of_view h x i in
    let level : x.seq ≡ c.0.seq = ap (λ (y : Change). y.seq) c.3 in
    none c.0 c.1 (inr c.2) (omega (arith, level, above)) (omega (arith, level, within))

-- ---- a node's journal

module _ (top : ℕ) (w : Cluster) (s : SoundCluster top w) (k n : ℕ) (i : IsBatchEnd n (points (w.disks k).book)) (a : HasAll (hist w.tree (w.nodes k).br) (w.nodes k).held n) where
  abbrev js : List Record
  js = (w.disks k).book

  abbrev h : List Change
  h = hist w.tree (w.nodes k).br

  abbrev all : List Change
  all = items_of (batches js)

  abbrev most : ℕ
  most = end_of (batches js) + top

  rises_all : Rises 0 most all
  rises_all = rises_higher 0 (end_of (batches js)) most all (omega arith) (items_rise (w.nodes k).held (batches js) (s.kept k).book.covered)

  rises_h : Rises 0 most h
  rises_h = rises_higher 0 top most h (omega arith) (hist_rises top w.tree (w.nodes k).br s.grows)

  gives : (start : ℕ) (sync : Bool) → Gives js start n sync
  gives start sync = gives_what_is_due js most start n sync rises_all

  -- the front's change
  at_end : 0 < n → (c : Change) × IsIn c all × (c.seq ≡ n)
  at_end above = end_change (w.nodes k).held (batches js) n (s.kept k).book.covered i above

  module _ (sync : Bool) where
    abbrev xs : List Change
    xs = view sync all

    abbrev hv : List Change
    hv = view sync h

    rx : Rises 0 most xs
    rx = view_rises sync 0 most all rises_all

    rh : Rises 0 most hv
    rh = view_rises sync 0 most h rises_h

    holds : HoldsAt 0 (λ m. m ≡ n) xs hv
    holds = view_holds sync 0 (λ m. m ≡ n) most all h rises_h (book_holds top w s k n i a)

    -- a stream at the place `start`
    module _ (start : ℕ) (below : start < n) where
      pub disk_none : disk_snapshot_of js start n sync ≡ None → NoneWithin hv start n
      disk_none e = none_held most n xs hv rx rh holds start (view_none sync all start n ((gives start sync).nothing.0 e))

      -- one that is shown everything is given something
      pub disk_some : disk_snapshot_of js start n sync ≡ None → sync ≡ true → ⊥
      disk_some e is = let c = at_end (omega arith) in let level : c.0.seq ≡ n = c.2 in (gives start sync).nothing.0 e c.0 c.1 (inl is) (omega arith) (omega arith)

      module _ (snapshot : Snapshot) (d : IsDiskSnapshot js start n sync snapshot) where
        open snapshot use {end, items}

        between : NoneWithin hv end n
        between = none_held most n xs hv rx rh holds end (view_none sync all end n d.nothing_left)

        shown : (b : Bool) → sync ≡ b → Covers items (view sync all) start end
        shown true e = subst (λ b. Covers items (view b all) start end) (sym e) (d.covers e)
        shown false e = subst (λ b. Covers items (view b all) start end) (sym e) (d.covers_plain e)

        pub disk_covers : Covers items hv start end
        disk_covers = holds_covers 0 (λ m. m ≡ end) most xs hv items start end rx rh (holds_lower most n xs hv rx rh holds end d.within between) refl (omega arith) (shown sync refl)

        full : sync ≡ true → end ≡ n
        full is = ⊎_elim
            (λ (l : end < n). let c = at_end (omega arith) in let level : c.0.seq ≡ n = c.2 in absurd (d.nothing_left c.0 c.1 (inl is) (omega arith) (omega arith)))
            (λ (l : n ≤ end). let m : end ≤ n = d.within in omega arith)
            (cases_lt end n)

        pub disk_lasts : (x : Change) → IsIn x items → IsUnreplaced hv end x
        disk_lasts x j =
            let (c, due, sent) = d.each x j in
            let y = view_last sync most n all due.slot c rises_all due.last due.seen in
            let c' = last_held most n xs hv rx rh holds due.slot y.0 y.1 in
            record {
              slot = due.slot;
              change = c'.0;
              last = ap (last_of due.slot) (upto_same hv end n d.within between) ∙ c'.1;
              written = sent_plain c x sent ∙ sym {a = plain y.0} y.2 ∙ c'.2;
            }

        disk_sent : (x : Change) → IsIn x items → (c : Change) × IsIn c (w.nodes k).held × (x ≡ plain c)
        disk_sent x j =
            let (c, due, sent) = d.each x j in
            let there = from_upto c all n (last_in (touches due.slot) (upto all n) c due.last).0 in
            let o = items_held (w.nodes k).held (batches js) c (s.kept k).book.covered there.0 in
            (o.0, o.1, sent_plain c x sent ∙ plain_stands c o.0 o.2)

        pub disk_found : IsFound h (w.nodes k).held start n sync snapshot
        disk_found = record { starts = d.starts; covers = disk_covers; within = d.within; full = full; between = between; unreplaced = disk_lasts; sent = disk_sent }

  -- what it has up to there
  pub finds_all : FindsAll h (w.nodes k).held js n
  finds_all = record {
    some = λ start sync snapshot below e. disk_found sync start below snapshot ((gives start sync).some snapshot e);
    none = λ start sync below e. (disk_none sync start below e, disk_some sync start below e);
  }
