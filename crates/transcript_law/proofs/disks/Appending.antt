-- a journal that is kept, after one more append under its node's arm
use Rattle.std.specs.Prelude.{◌≡◌, ◌<◌, ◌≤◌, ◌^◌, ◌∷◌, if◌then◌else◌}
use Rattle.transcript_law.proofs.Words.{ℕ, Bool, true, false, List, refl, ap, sym, ◌∙◌, subst, arith, inl, inr, ⊎_elim, Option, Some, None, Answer, Cause, Chronicle, Cluster, Move, Plain, PlainNode, PlainWorld, Role, LogEntry, SoundCluster, with_id}
use Rattle.transcript_law.proofs.Words.{Member, consumer_node, eq-eqb, eqb-true, happens, is_some, keeps, link_number, ne_eqb, not, producer_node, shelf_in, vb_in, with_node_at}
use Rattle.std.specs.Prelude.{◌==◌}
use Rattle.transcript_law.proofs.{invariant.{Carried.{all_there}, Carrying.{SameClients}, Owed.{fewer_same}, ClientsKept.{ConnsKept, Every, clients_kept, every_owed, goes_same, spot_at}, LinkFeeds.{feeds_same}}, verbs.NodeLines.{clients_again}}
use Rattle.transcript_law.proofs.{invariant.Agreement.{clock_of, AgreesAt, AgreesIn, Agrees, Busy, DiskIsIf, IsArm, IsLink, LinksDiffer, Power, PowerIs, PowerIsIf, RestsIn, VbAgrees, VbIsIf, consumer_seat, idle, power_of, producer_seat, shelf_of, top, vb_of, vb_row}, disks.ArmedLines.{ArmedCame}}
use Rattle.transcript_law.proofs.{disks.Burning.{BreaksUnder, breaks_under, late_bare, quiet_same, stands_under}, invariant.Carried.{as_far, branches_again, ids_same, kept_same, link_carried, numbers, places}, invariant.Carrying.{SameOffs, off_of}}
use Rattle.transcript_law.proofs.{disks.Disks.{FlushIs, Parts, SameParts, ShelfIs, bare, disk_same, parts_of, power_in, same_parts}, invariant.OneLink.{disk_here, disk_there}, invariant.Resting.{ends_off, rests_with}, invariant.Seats.{seat, seats_apart}, invariant.Tables.{at_here, at_there, id_here, id_there}, links.Turning.{put_itself}}
use Rattle.{branch_model.specs.Journals.{cas_of_last, place_of}, cluster_model.specs.Clusters.{Disk, MayAppend, MayStand, appended}, disk_journals.specs.Arms.{under}, node_core.specs.Admin.{noted_answer}}
use Rattle.{node_world.specs.Arms.{fired_by}, node_world.specs.Worlds.{is_up}, vb_calls.specs.Flushes.{wrote_of}}
use Rattle.transcript_law.specs.Chronicles.{Appending, ArmKnown, DiskKnown, Flushing, after_append, after_noted, appending, batch_gone, batch_record, batch_stands, broken_by, calls_of_append, known_log, late_record, saving, spent, with_disk, with_record}
use Rattle.vb_calls.specs.Shelves.{Append, DiskFailed, Fate, Flush, Idle, Out, Shelf, Stood, WasClosed, Written, after_fate, shelf_step, late_of, with_shelf_at}
use Rattle.vb_disk.specs.declared.fuse.Fuse.{Fuse}
use Rattle.vb_disk.specs.declared.fuse.Fuse.TheVariants.{Off}
use Rattle.vb_disk.specs.declared.made.Outcome.TheVariants.{New}
use Rattle.vb_journal.specs.UnderArms.{all_pass, burnt_noting, stands}
use Rattle.vb_types.specs.declared.journal.Batch.{Batch}
use Rattle.vb_types.specs.declared.journal.Record.{Record}
use Rattle.vb_types.specs.declared.journal.Record.TheVariants as noted
use Rattle.transcript_law.proofs.invariant.Owing.{later_same}

-- ---- the journal

-- once it is closed, no batch that is taken is ever appended
closes : (was : Bool) (f : Flush) (told : Flushing) (batch : Option Batch) (taken place : ℕ) → FlushIs was f told batch taken place → FlushIs true f told batch taken place
closes was Idle told batch taken place x = (x.0, (λ e. cc), x.2)
closes was (Out b) told batch taken place x = (x.0, (λ e. cc), x.2, x.3, x.4)
closes was (Written seq) told batch taken place x = (x.0, (λ e. cc), x.2)

-- a record that may be found late is the one whose append was broken off
late_is : (f : Fuse) (r q : Record) → late_of f r ≡ Some q → r ≡ q
late_is f r q = elim (stands f New) as (λ b. (if b then Some r else None) ≡ Some q → r ≡ q) [ true ↦ λ e. cc | false ↦ λ e. cc ]

module _ {told : DiskKnown} {d : Disk} {shelf : Shelf} {x : Parts} (a : ShelfIs told d shelf x) where
  -- a role stands
  pub state_stood : (role : Role) (log : List LogEntry) → shelf.is_closed ≡ false
      → ShelfIs (with_record (noted.State role log) told) (appended d (noted.State role log)) (record shelf { book = noted.State role log ∷ shelf.book }) x
  state_stood role log opens = record {
    book = ap (λ js. noted.State role log ∷ js) a.book;
    told_book = ap (λ js. noted.State role log ∷ js) a.told_book;
    late = sym (a.none_late opens);
    told_late = a.told_late;
    none_late = a.none_late;
    unarmed = a.unarmed;
    there = a.there;
    closed = a.closed;
    flush = a.flush;
    saved = a.saved;
    taken = a.taken;
    spots = a.spots;
    floor = a.floor;
    cas = a.cas;
    late_cas = λ r e. cc;
    ended = a.ended;
    written = a.written;
  }

  -- a batch that was taken
  pub out_is : (b : Batch) → shelf.flush ≡ Out b → FlushIs shelf.is_closed (Out b) told.flushing d.batch x.flushed (place_of d.book).at
  out_is b out = subst (λ f. FlushIs shelf.is_closed f told.flushing d.batch x.flushed (place_of d.book).at) out a.flush

  -- it stands
  pub rows_stood : (b : Batch) → shelf.is_closed ≡ false → shelf.flush ≡ Out b
      → ShelfIs (batch_stands told.flushing told) (appended d (noted.Rows b)) (record shelf { book = noted.Rows b ∷ shelf.book; flush = Written b.position.at }) x
  rows_stood b opens out =
      let o = out_is b out in let low : (place_of d.book).at ≤ b.position.at = o.3 in
      subst (λ t. ShelfIs (batch_stands t told) (appended d (noted.Rows b)) (record shelf { book = noted.Rows b ∷ shelf.book; flush = Written b.position.at }) x) (sym o.0) (record {
        book = ap (λ js. noted.Rows b ∷ js) a.book;
        told_book = ap (λ js. bare (noted.Rows b) ∷ js) a.told_book;
        late = sym (a.none_late opens);
        told_late = a.told_late;
        none_late = a.none_late;
        unarmed = a.unarmed;
        there = a.there;
        closed = a.closed;
        flush = (refl, (λ e. o.2), (let e : x.flushed ≡ b.position.at = o.2 in omega arith));
        saved = a.saved;
        taken = a.taken;
        spots = λ s i l. a.spots s i (let up : b.position.at < s.last = l in omega arith);
        floor = let f : x.floor ≤ (place_of d.book).at = a.floor in omega arith;
        cas = o.4;
        late_cas = λ r e. cc;
        ended = inr a.ended;
        written = λ seq e. inl (let z : Written b.position.at ≡ Written seq = e in let same : b.position.at ≡ seq = cc in sym same);
      })

  -- an append that was broken off closes it
  pub broken : (f : Fuse) (r : Record) → shelf.is_closed ≡ false → cas_of_last (r ∷ d.book) < 2 ^ 64
      → ShelfIs (record told { late = late_of f (bare r); closed = true }) (record d { late = late_of f r }) (record shelf { is_closed = true; late = late_of f r }) x
  broken f r opens small = record {
    book = a.book;
    told_book = a.told_book;
    late = refl;
    told_late = sym (late_bare f r);
    none_late = λ e. cc;
    unarmed = a.unarmed;
    there = a.there;
    closed = refl;
    flush = closes shelf.is_closed shelf.flush told.flushing d.batch x.flushed (place_of d.book).at a.flush;
    saved = a.saved;
    taken = a.taken;
    spots = a.spots;
    floor = a.floor;
    cas = a.cas;
    late_cas = λ q e. subst (λ y. cas_of_last (y ∷ d.book) < 2 ^ 64) (late_is f r q e) small;
    ended = a.ended;
    written = a.written;
  }

  -- and a batch that could not be appended is gone
  pub gone : (b : Batch) → shelf.is_closed ≡ true → shelf.flush ≡ Out b → ShelfIs (batch_gone told) d (record shelf { flush = Idle }) x
  gone b closed out =
      let o = out_is b out in let low : (place_of d.book).at ≤ b.position.at = o.3 in
      record {
        book = a.book;
        told_book = a.told_book;
        late = a.late;
        told_late = a.told_late;
        none_late = a.none_late;
        unarmed = a.unarmed;
        there = a.there;
        closed = a.closed;
        flush = (refl, (λ e. let z : true ≡ false = sym closed ∙ e in cc), (let e : x.flushed ≡ b.position.at = o.2 in omega arith));
        saved = a.saved;
        taken = a.taken;
        spots = a.spots;
        floor = a.floor;
        cas = a.cas;
        late_cas = a.late_cas;
        ended = a.ended;
        written = λ seq e. let z : Idle ≡ Written seq = e in cc;
      }

-- a batch once it was appended, or once it could not be
abbrev pub flush_after : Batch → Fate → Flush
flush_after b Stood = Written b.position.at
flush_after b WasClosed = Idle
flush_after b DiskFailed = Idle

-- ---- the cluster

-- a cluster in which what the node k wrote down is this, and all else as it was
pub record Rewritten (c : Cluster) (k : ℕ) (d : Disk) : Type 0 where
  pub now : Cluster
  pub sound : SoundCluster top now
  pub nodes : (j : ℕ) → now.nodes j ≡ c.nodes j
  pub tree : now.tree ≡ c.tree
  pub here : now.disks k ≡ d
  pub there : (j : ℕ) → (j ≡ k → ⊥) → now.disks j ≡ c.disks j

module _ (c : Cluster) (k : ℕ) (sound : SoundCluster top c) where
  -- nothing was written down
  pub unwritten : Rewritten c k (c.disks k)
  unwritten = record { now = c; sound = sound; nodes = λ j. refl; tree = refl; here = refl; there = λ j ne. refl }

  -- a record stands
  pub appends : (r : Record) → MayStand (c.nodes k) (c.disks k) r → Rewritten c k (appended (c.disks k) r)
  appends r may = record {
    now = happens c (Move.Append k r);
    sound = keeps top c (Move.Append k r) sound may;
    nodes = λ j. put_itself c.nodes k j;
    tree = refl;
    here = disk_here c.disks k (appended (c.disks k) r);
    there = λ j ne. disk_there c.disks k (appended (c.disks k) r) j ne;
  }

  -- its append was broken off: a crash may find it, if the arm is such
  pub breaks : (f : Fuse) (r : Record) → (c.disks k).late ≡ None → MayAppend (c.nodes k) (c.disks k) r → Rewritten c k (record (c.disks k) { late = late_of f r })
  breaks f r none may = by (stands f New)
    where
      by : (b : Bool) → Rewritten c k (record (c.disks k) { late = if b then Some r else None })
      by false = subst (λ o. Rewritten c k (record (c.disks k) { late = o })) none unwritten
      by true = record {
        now = happens c (Move.Break k r);
        sound = keeps top c (Move.Break k r) sound may;
        nodes = λ j. put_itself c.nodes k j;
        tree = refl;
        here = disk_here c.disks k (record (c.disks k) { late = Some r });
        there = λ j ne. disk_there c.disks k (record (c.disks k) { late = Some r }) j ne;
      }

-- ---- the world

-- what the lines tell of another vBucket
pub row_there : (r : Chronicle) (n v : ℕ) (told : DiskKnown) (m q : ℕ) → (m ≡ n → q ≡ v → ⊥) → vb_row (with_disk r n v told) m q ≡ vb_row r m q
row_there r n v told m q o i = record (vb_row r m q) { disk = at_there r.disk_at n v told m q o i }

-- what was written down of a vBucket that is there is no part of what it holds
pub told_disk : (r : Chronicle) (n v : ℕ) (told : DiskKnown) (m q : ℕ) (k : Member) (o : Option Plain) → (o ≡ None → m ≡ n → q ≡ v → ⊥) → AgreesAt r m q k o → AgreesAt (with_disk r n v told) m q k o
told_disk r n v told m q k None apart x = subst (λ t. VbIsIf r.tree r.writer_of t m q k None) (sym (row_there r n v told m q (apart refl))) x
told_disk r n v told m q k (Some y) apart x = record { kept = x.kept; role = x.role; opened = x.opened; writes = x.writes; counts = x.counts; lefts = x.lefts; times = x.times }

-- the journal of the vBucket v of the node n is another, and all else as it was, but for arms
pub record Renoted (w w' : PlainWorld) (n v : ℕ) (shelf : Shelf) : Type 0 where
  pub offs : SameOffs w w'
  pub clocks : (m : ℕ) → clock_of (power_of w' m) ≡ clock_of (power_of w m)
  pub clients : SameClients w w'
  pub vbs : (m q : ℕ) → vb_of w' m q ≡ vb_of w m q
  pub stands : shelf_of w' n v ≡ Some shelf
  pub shelves : (m q : ℕ) → (m ≡ n → q ≡ v → ⊥) → shelf_of w' m q ≡ shelf_of w m q
  pub uuids : w'.uuids ≡ w.uuids
  pub linked : w'.links ≡ w.links

module _ (busy : Busy) (w w' : PlainWorld) (r : Chronicle) (arms : ℕ → ArmKnown) (c : Cluster) (n v : ℕ) (vb : Plain) (shelf : Shelf) (told : DiskKnown) (d : Disk) (a : AgreesIn busy w r c)
    (known : vb_of w n v ≡ Some vb) (there : (r.disk_at n v).there ≡ true) (same : Renoted w w' n v shelf) (powers : (m : ℕ) → PowerIsIf (arms m) (power_of w' m)) (kept : Rewritten c (seat n v) d) (is : ShelfIs told d shelf (parts_of vb)) where
  abbrev r' : Chronicle
  r' = record (with_disk r n v told) { arm_at = arms }

  vb_here : (m q : ℕ) (o : Option Plain) → AgreesAt r m q (c.nodes (seat m q)) o → (o ≡ None → m ≡ n → q ≡ v → ⊥) → AgreesAt r' m q (kept.now.nodes (seat m q)) o
  vb_here m q o x apart = subst (λ k. AgreesAt r' m q k o) (sym (kept.nodes (seat m q))) (told_disk r n v told m q (c.nodes (seat m q)) o apart x)

  one_there : (m q : ℕ) → vb_of w m q ≡ None → m ≡ n → q ≡ v → ⊥
  one_there m q none s t = let z : Some vb ≡ None = sym known ∙ ap (vb_of w n) (sym t) ∙ ap (λ k. vb_of w k q) (sym s) ∙ none in cc

  vbs : (m q : ℕ) → AgreesAt r' m q (kept.now.nodes (seat m q)) (vb_of w' m q)
  vbs m q = subst (AgreesAt r' m q (kept.now.nodes (seat m q))) (sym (same.vbs m q)) (vb_here m q (vb_of w m q) (a.vbs m q) (one_there m q))

  abbrev DiskAt : ℕ → ℕ → Type 0
  DiskAt m q = DiskIsIf (r'.disk_at m q) (kept.now.disks (seat m q)) (shelf_of w' m q) (vb_of w' m q)

  disk_now : DiskAt n v
  disk_now = subst (λ t. DiskIsIf t (kept.now.disks (seat n v)) (shelf_of w' n v) (vb_of w' n v)) (sym (at_here r.disk_at n v told))
      (subst (λ y. DiskIsIf told y (shelf_of w' n v) (vb_of w' n v)) (sym kept.here)
      (subst (λ s. DiskIsIf told d s (vb_of w' n v)) (sym same.stands) (subst (DiskIsIf told d (Some shelf)) (sym (same.vbs n v ∙ known)) is)))

  disks : (m q : ℕ) → DiskAt m q
  disks m q = ⊎_elim
      (λ s. subst (λ k. DiskAt k q) (sym s.0) (subst (DiskAt n) (sym s.1) disk_now))
      (λ o. disk_same (vb_of w m q) (vb_of w' m q) (at_there r.disk_at n v told m q o) (kept.there (seat m q) (seats_apart m q n v o)) (same.shelves m q o)
      (subst (SameParts (vb_of w m q)) (sym (same.vbs m q)) (same_parts (vb_of w m q))) (a.disks m q))
      (places n v m q)

  rests : RestsIn w' r' kept.now
  rests = rests_with w w' r r' c kept.now a.rests same.offs powers (λ m. a.clocks m ∙ sym (same.clocks m))
      (λ m q none. let o = one_there m q (sym (same.vbs m q) ∙ none) in record {
        vb = sym (same.vbs m q) ∙ none;
        shelf = same.shelves m q o;
        row = row_there r n v told m q o;
        member = kept.nodes (seat m q);
        disk = kept.there (seat m q) (seats_apart m q n v o);
      })
      (λ m q down. let none = (a.downs m q).vb_none down in (same.vbs m q ∙ none, same.shelves m q (one_there m q none) ∙ (a.downs m q).shelf_none down))
      (λ m q e. ⊎_elim (λ s. ap (λ k. (r.disk_at k q).there) s.0 ∙ ap (λ k. (r.disk_at n k).there) s.1 ∙ there) (λ o. ap (λ (t : DiskKnown). t.there) (sym (at_there r.disk_at n v told m q o)) ∙ e) (places n v m q))
      (λ x i. ends_off w w' x x same.offs (record { dialed = refl; desk = refl }) (a.ends x (subst (IsLink x) same.linked i)))

  -- clients speak of none of it
  conns : ConnsKept Every w w' r r'
  conns = record {
    conns = λ m d left. same.clients m d;
    known = λ m d left. refl;
    opens = λ m d q id left has. goes_same (spot_at w r m q) (spot_at w' r' m q) id (λ i. record { tree = r.tree; on = r.branch_at m q; held = r.held m q; pv = same.vbs m q i });
  }

  -- all agrees, once it is written down
  pub noted_agrees : AgreesIn busy w' r' kept.now
  noted_agrees = record {
    sound = kept.sound;
    vbs = vbs;
    disks = disks;
    branches = branches_again kept.tree refl (ids_same same.uuids) a.branches;
    links = λ x i. link_carried w w' r r' c kept.now x (busy (link_number x)).0 (busy (link_number x)).1 (λ fv e. (fv, same.vbs (consumer_node x) x.consumer.dialed.vb ∙ e, kept_same fv)) refl refl refl refl
        (kept.nodes (consumer_seat x)) (λ p k s e feeds opened has. (p, same.vbs (producer_node x) x.consumer.dialed.vb ∙ e, refl, opened, ap (λ (m : Member). m.br) (kept.nodes (producer_seat x)), λ dead. ap (λ (m : Member). m.position) (kept.nodes (producer_seat x)), as_far (ap (λ (m : Member). m.position) (kept.nodes (producer_seat x)))))
        (a.links x (subst (IsLink x) same.linked i));
    differ = subst LinksDiffer (sym same.linked) a.differ;
    clients = clients_kept w w' r r' 0 a.clients (all_there busy w r c a) conns (λ l m q id has. inl (feeds_same w w' same.linked l m q id has))
        (every_owed w w' r r' conns (later_same _ _ refl refl) (λ m q. fewer_same (vb_of w m q) (vb_of w' m q) (same.vbs m q)) a.clients.owed);
    rests = rests;
  }

-- ---- under an arm

-- the journal of the vBucket v of the node n is another, and the node's arm is this
pub record Noted (w w' : PlainWorld) (n v : ℕ) (power : Power) (shelf : Shelf) (left : Fuse) : Type 0 where
  pub before : power_of w n ≡ Some power
  pub after : power_of w' n ≡ Some (record power { arm = record power.arm { fuse = left } })
  pub others : (m : ℕ) → (m ≡ n → ⊥) → power_of w' m ≡ power_of w m
  pub clients : SameClients w w'
  pub vbs : (m q : ℕ) → vb_of w' m q ≡ vb_of w m q
  pub stands : shelf_of w' n v ≡ Some shelf
  pub shelves : (m q : ℕ) → (m ≡ n → q ≡ v → ⊥) → shelf_of w' m q ≡ shelf_of w m q
  pub uuids : w'.uuids ≡ w.uuids
  pub linked : w'.links ≡ w.links

-- an append under an arm: its journal is closed; it stands; or it is broken off
pub by_fate : (f : Fuse) (shelf : Shelf) (r : Record) (P : Shelf × Fate → Type 0) → (shelf.is_closed ≡ true → P (under f shelf, WasClosed))
    → (shelf.is_closed ≡ false → all_pass f ≡ true → P (record (under f shelf) { book = r ∷ shelf.book; fuse = burnt_noting f }, Stood))
    → (shelf.is_closed ≡ false → all_pass f ≡ false → P (record (under f shelf) { is_closed = true; late = late_of f r; fuse = burnt_noting f }, DiskFailed))
    → P (shelf_step (under f shelf) (Append r))
by_fate f shelf r P closed stood failed = elim shelf.is_closed as (λ b. shelf.is_closed ≡ b → P (came (if b then WasClosed else if all_pass f then Stood else DiskFailed))) [
  | true ↦ λ e. closed e
  | false ↦ λ e. elim (all_pass f) as (λ b. all_pass f ≡ b → P (came (if b then Stood else DiskFailed))) [ true ↦ stood e | false ↦ failed e ] refl
] refl
  where
    came : Fate → Shelf × Fate
    came fate = (after_fate (under f shelf) r fate, fate)

-- it leaves the batch on its way alone
pub flush_kept : (f : Fuse) (shelf : Shelf) (r : Record) → (shelf_step (under f shelf) (Append r)).0.flush ≡ shelf.flush
flush_kept f shelf r = by_fate f shelf r (λ y. y.0.flush ≡ shelf.flush) (λ e. refl) (λ e h. refl) (λ e h. refl)

-- a node that is running
up_is : (o : Option PlainNode) (p : Power) → power_in o ≡ Some p → p.off ≡ None → is_up o ≡ true
up_is None p e off = cc
up_is (Some node) p e off = let q : record { arm = node.arm; off = node.off; clock = node.clock } ≡ p = cc in ap (λ o. not (is_some o)) (ap (λ (x : Power). x.off) q ∙ off)

module _ (w w' : PlainWorld) (r : Chronicle) (n v : ℕ) (power : Power) (vb : Plain) (shelf : Shelf) (c : Cluster) (a : AgreesIn idle w r c) (known : vb_of w n v ≡ Some vb) (kept : shelf_of w n v ≡ Some shelf) (runs : power.off ≡ None) where
  abbrev k : ℕ
  k = seat n v

  abbrev f : Fuse
  f = power.arm.fuse

  pub disk : ShelfIs (r.disk_at n v) (c.disks k) shelf (parts_of vb)
  disk = subst (λ s. DiskIsIf (r.disk_at n v) (c.disks k) s (Some vb)) kept (subst (DiskIsIf (r.disk_at n v) (c.disks k) (shelf_of w n v)) known (a.disks n v))

  pub mine : VbAgrees r n v (c.nodes k) vb
  mine = subst (AgreesAt r n v (c.nodes k)) known (a.vbs n v)

  -- what is to be appended: whether it may be, and how the journal stands then, by what becomes of it
  pub record May (x : Appending) (rec : Record) (flush : Fate → Flush) : Type 0 where
    pub what : x.what ≡ Some (bare rec)
    pub stands : shelf.is_closed ≡ false → MayStand (c.nodes k) (c.disks k) rec
    pub breaks : shelf.is_closed ≡ false → MayAppend (c.nodes k) (c.disks k) rec
    pub closed : shelf.is_closed ≡ true → ShelfIs (x.fails (r.disk_at n v)) (c.disks k) (record shelf { flush = flush WasClosed }) (parts_of vb)
    pub stood : shelf.is_closed ≡ false → ShelfIs (x.stands (r.disk_at n v)) (appended (c.disks k) rec) (record shelf { book = rec ∷ shelf.book; flush = flush Stood }) (parts_of vb)
    pub failed : shelf.is_closed ≡ false → ShelfIs (record (x.fails (r.disk_at n v)) { late = late_of f (bare rec); closed = true }) (record (c.disks k) { late = late_of f rec })
        (record shelf { is_closed = true; late = late_of f rec; flush = flush DiskFailed }) (parts_of vb)

  module _ (x : Appending) (rec : Record) (flush : Fate → Flush) (may : May x rec flush) (told : Answer → Chronicle → Chronicle) (tells : (said : Answer) → told said r ≡ after_append r n v x said) where
    -- the world after it, where its journal is this, and it came to this
    abbrev pub Came : Shelf × Fate → Type 0
    Came y = Noted w w' n v power (record (under Off y.0) { flush = flush y.1 }) y.0.fuse → ArmedCame n told (fired_by f y.0.fuse) r w' (noted_answer (wrote_of y.1) Answer.Ok)

    module _ {shelf' : Shelf} {left : Fuse} (noted : Noted w w' n v power shelf' left) where
      offs : SameOffs w w'
      offs m = ⊎_elim (λ e. ap (λ j. off_of (power_of w' j)) e ∙ ap off_of noted.after ∙ ap off_of (sym noted.before) ∙ ap (λ j. off_of (power_of w j)) (sym e)) (λ ne. ap off_of (noted.others m ne)) (numbers m n)

      clocks_same : (m : ℕ) → clock_of (power_of w' m) ≡ clock_of (power_of w m)
      clocks_same m = ⊎_elim (λ e. ap (λ j. clock_of (power_of w' j)) e ∙ ap clock_of noted.after ∙ ap clock_of (sym noted.before) ∙ ap (λ j. clock_of (power_of w j)) (sym e)) (λ ne. ap clock_of (noted.others m ne)) (numbers m n)

      same : Renoted w w' n v shelf'
      same = record { offs = offs; clocks = clocks_same; clients = noted.clients; vbs = noted.vbs; stands = noted.stands; shelves = noted.shelves; uuids = noted.uuids; linked = noted.linked }

      was : PowerIs (r.arm_at n) power
      was = subst (PowerIsIf (r.arm_at n)) noted.before (a.powers n)

      -- an arm that is told so
      powers : (arm : ArmKnown) → PowerIs arm (record power { arm = record power.arm { fuse = left } }) → (m : ℕ) → PowerIsIf (with_id r.arm_at n arm m) (power_of w' m)
      powers arm is m = ⊎_elim
          (λ e. subst (λ j. PowerIsIf (with_id r.arm_at n arm j) (power_of w' j)) (sym e) (subst (λ t. PowerIsIf t (power_of w' n)) (sym (id_here r.arm_at n arm)) (subst (PowerIsIf arm) (sym noted.after) is)))
          (λ ne. subst (λ t. PowerIsIf t (power_of w' m)) (sym (id_there r.arm_at n arm m (λ e. ne (sym e)))) (subst (PowerIsIf (r.arm_at m)) (sym (noted.others m ne)) (a.powers m)))
          (numbers m n)

      abbrev spent_arm : ArmKnown
      spent_arm = record (r.arm_at n) { fuse = spent calls_of_append (r.arm_at n).fuse }

      -- the arm behind the calls of an append
      spent_powers : left ≡ spent calls_of_append f → IsArm left → (m : ℕ) → PowerIsIf (with_id r.arm_at n spent_arm m) (power_of w' m)
      spent_powers is fires = powers spent_arm (record { fuse = ap (spent calls_of_append) was.fuse ∙ sym is; out = was.out; down = was.down; zero = was.zero; may_fire = fires; listed_so = was.listed_so })

      -- the arm as it was
      same_powers : left ≡ f → (m : ℕ) → PowerIsIf (r.arm_at m) (power_of w' m)
      same_powers is m = ⊎_elim
          (λ e. subst (λ j. PowerIsIf (r.arm_at j) (power_of w' j)) (sym e)
          (subst (PowerIsIf (r.arm_at n)) (sym (noted.after ∙ ap (λ g. Some (record power { arm = record power.arm { fuse = g } })) is)) was))
          (λ ne. subst (PowerIsIf (r.arm_at m)) (sym (noted.others m ne)) (a.powers m))
          (numbers m n)

      -- what was written down then
      agrees : (d : DiskKnown) (y : Disk) (arms : ℕ → ArmKnown) → ((m : ℕ) → PowerIsIf (arms m) (power_of w' m)) → Rewritten c k y → ShelfIs d y shelf' (parts_of vb) → Agrees w' (record (with_disk r n v d) { arm_at = arms })
      agrees d y arms powers written is = (written.now, noted_agrees idle w w' r arms c n v vb shelf' d y a known disk.there same powers written is)

    was_closed : shelf.is_closed ≡ true → Came (under f shelf, WasClosed)
    was_closed e noted = subst (λ y. ArmedCame n told y r w' (Answer.No Cause.Closed)) (sym (quiet_same f)) (subst (Agrees w') (sym (tells (Answer.No Cause.Closed)))
        (agrees noted (x.fails (r.disk_at n v)) (c.disks k) r.arm_at (same_powers noted refl) (unwritten c k a.sound)
        (subst (λ g. ShelfIs (x.fails (r.disk_at n v)) (c.disks k) (record shelf { flush = flush WasClosed; fuse = g }) (parts_of vb)) disk.unarmed (may.closed e))))

    stood : shelf.is_closed ≡ false → all_pass f ≡ true → Came (record (under f shelf) { book = rec ∷ shelf.book; fuse = burnt_noting f }, Stood)
    stood opens pass noted =
        let s = stands_under f (was noted).may_fire pass in
        subst (λ y. ArmedCame n told y r w' Answer.Ok) (sym (ap (fired_by f) s.left ∙ s.quiet)) (subst (Agrees w') (sym (tells Answer.Ok))
        (agrees noted (x.stands (r.disk_at n v)) (appended (c.disks k) rec) (with_id r.arm_at n (spent_arm noted)) (spent_powers noted s.left (subst IsArm (sym s.left) s.arm)) (appends c k a.sound rec (may.stands opens))
        (subst (λ g. ShelfIs (x.stands (r.disk_at n v)) (appended (c.disks k) rec) (record shelf { book = rec ∷ shelf.book; flush = flush Stood; fuse = g }) (parts_of vb)) disk.unarmed (may.stood opens))))

    failed : shelf.is_closed ≡ false → all_pass f ≡ false → Came (record (under f shelf) { is_closed = true; late = late_of f rec; fuse = burnt_noting f }, DiskFailed)
    failed opens hit noted = ⊎_elim
        (λ h. subst (λ y. ArmedCame n told y r w' (Answer.No Cause.Disk)) (sym (ap (fired_by f) s.left ∙ h.1)) (refl, broken_agrees))
        (λ h. subst (λ y. ArmedCame n told y r w' (Answer.No Cause.Disk)) (sym (ap (fired_by f) s.left ∙ h.1)) (refl, up_is (w'.nodes n) (record power { arm = record power.arm { fuse = burnt_noting f } }) noted.after runs, broken_agrees))
        s.how
      where
        s : BreaksUnder f
        s = breaks_under f (was noted).may_fire hit

        fails : DiskKnown
        fails = x.fails (r.disk_at n v)

        told_is : broken_by (r.arm_at n).fuse x.what fails ≡ record fails { late = late_of f (bare rec); closed = true }
        told_is = ap (λ o. broken_by (r.arm_at n).fuse o fails) may.what ∙ ap (λ g. record fails { late = late_record g (bare rec); closed = true }) (was noted).fuse ∙ ap (λ o. record fails { late = o; closed = true }) (sym (s.late (bare rec)))

        broken_agrees : Agrees w' (told (Answer.No Cause.Disk) r)
        broken_agrees = subst (Agrees w') (sym (tells (Answer.No Cause.Disk) ∙ ap (λ d. record (with_disk r n v d) { arm_at = with_id r.arm_at n (spent_arm noted) }) told_is))
            (agrees noted (record fails { late = late_of f (bare rec); closed = true }) (record (c.disks k) { late = late_of f rec }) (with_id r.arm_at n (spent_arm noted))
            (spent_powers noted (s.left ∙ sym s.spent_off) (subst IsArm (sym s.left) tt)) (breaks c k a.sound f rec (disk.late ∙ disk.none_late opens) (may.breaks opens))
            (subst (λ g. ShelfIs (record fails { late = late_of f (bare rec); closed = true }) (record (c.disks k) { late = late_of f rec }) (record shelf { is_closed = true; late = late_of f rec; flush = flush DiskFailed; fuse = g }) (parts_of vb)) disk.unarmed (may.failed opens)))

    -- what it comes to
    pub append_came : Came (shelf_step (under f shelf) (Append rec))
    append_came = by_fate f shelf rec Came was_closed stood failed

  -- a role
  may_state : (role : Role) → May (appending (noted.State role vb.log)) (noted.State role vb.log) (λ fate. shelf.flush)
  may_state role = record {
    what = refl;
    stands = λ e. sym mine.member.log;
    breaks = λ e. sym mine.member.log;
    closed = λ e. disk;
    stood = λ e. state_stood disk role vb.log e;
    failed = λ e. broken disk f (noted.State role vb.log) e disk.cas;
  }

  pub state_came : (role : Role) → let y = shelf_step (under f shelf) (Append (noted.State role vb.log)) in
      Noted w w' n v power (under Off y.0) y.0.fuse → ArmedCame n (λ said told. after_noted told n v role said) (fired_by f y.0.fuse) r w' (noted_answer (wrote_of y.1) Answer.Ok)
  state_came role now =
      let y = shelf_step (under f shelf) (Append (noted.State role vb.log)) in
      append_came (appending (noted.State role vb.log)) (noted.State role vb.log) (λ fate. shelf.flush) (may_state role) (λ said told. after_noted told n v role said)
      (λ said. ap (λ l. after_append r n v (appending (noted.State role (known_log l))) said) mine.log)
      (subst (λ g. Noted w w' n v power (record (under Off y.0) { flush = g }) y.0.fuse) (flush_kept f shelf (noted.State role vb.log)) now)

  -- the batch that was taken
  may_rows : (b : Batch) → shelf.flush ≡ Out b → May (saving (r.disk_at n v)) (noted.Rows b) (flush_after b)
  may_rows b out =
      let o = out_is disk b out in
      record {
        what = ap batch_record o.0;
        stands = o.1;
        breaks = o.1;
        closed = λ e. gone disk b e out;
        stood = λ e. rows_stood disk b e out;
        failed = λ e. gone (broken disk f (noted.Rows b) e o.4) b refl out;
      }

  pub batch_came : (b : Batch) → shelf.flush ≡ Out b → let y = shelf_step (under f shelf) (Append (noted.Rows b)) in
      Noted w w' n v power (record (under Off y.0) { flush = flush_after b y.1 }) y.0.fuse → ArmedCame n (λ said told. after_append told n v (saving (told.disk_at n v)) said) (fired_by f y.0.fuse) r w' (noted_answer (wrote_of y.1) Answer.Ok)
  batch_came b out = append_came (saving (r.disk_at n v)) (noted.Rows b) (flush_after b) (may_rows b out) (λ said told. after_append told n v (saving (told.disk_at n v)) said) (λ said. refl)

-- a node whose journal of v is another, under another arm
pub noted_node : (w : PlainWorld) (n v : ℕ) (node : PlainNode) (shelf : Shelf) (left : Fuse) → w.nodes n ≡ Some node
    → Noted w (with_node_at w n (record node { shelves = with_shelf_at node.shelves v shelf; arm = record node.arm { fuse = left } })) n v (record { arm = node.arm; off = node.off; clock = node.clock }) shelf left
noted_node w n v node shelf left known = record {
  before = ap power_in known;
  after = ap (λ b. power_in (if b then Some node' else w.nodes n)) (eq-eqb n n refl);
  others = λ m ne. ap (λ b. power_in (if b then Some node' else w.nodes m)) (ne_eqb m n ne);
  clients = clients_again w n node node' known (λ c. refl);
  vbs = λ m q. elim (m == n) as (λ b. (m == n) ≡ b → vb_in (if b then Some node' else w.nodes m) q ≡ vb_in (w.nodes m) q) [ true ↦ λ e. ap (λ o. vb_in o q) (sym (ap w.nodes (eqb-true m n e) ∙ known)) | false ↦ λ e. refl ] refl;
  stands = ap (λ b. shelf_in (if b then Some node' else w.nodes n) v) (eq-eqb n n refl) ∙ ap (λ b. if b then Some shelf else node.shelves v) (eq-eqb v v refl);
  shelves = λ m q o. elim (m == n) as (λ b. (m == n) ≡ b → shelf_in (if b then Some node' else w.nodes m) q ≡ shelf_in (w.nodes m) q) [
    | true ↦ λ e. ap (λ b. if b then Some shelf else node.shelves q) (ne_eqb q v (o (eqb-true m n e))) ∙ ap (λ o. shelf_in o q) (sym (ap w.nodes (eqb-true m n e) ∙ known))
    | false ↦ λ e. refl
  ] refl;
  uuids = refl;
  linked = refl;
}
  where
    node' : PlainNode
    node' = record node { shelves = with_shelf_at node.shelves v shelf; arm = record node.arm { fuse = left } }
