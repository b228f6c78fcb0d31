-- the members of a node that stops load what a crash finds of their disks
use Rattle.std.specs.Prelude.{◌≡◌, ◌<◌, ◌≤◌, ◌^◌, ◌∷◌, if◌then◌else◌, option_map}
use Rattle.std.proofs.lemmas.List.Elements.{All-cons, All-nil}
use Rattle.transcript_law.proofs.Words.{ℕ, zero, suc, Bool, true, false, List, [], map, refl, ap, sym, ◌∙◌, subst, inl, inr, ⊎_elim, arith, Option, Some, None, is_some, All, Change, LogEntry, Position, last_seq, upto, IsIn, Rises, Branch, branch}
use Rattle.transcript_law.proofs.Words.{kept_to, in_filter, nat_le, Cluster, Member, Move, SoundCluster, happens, keeps}
use Rattle.{branch_model.proofs.Branches.{branch_rises}, branch_model.proofs.Journaling.{no_log}, branch_model.proofs.Lists.{last_seq_at, rises_le, rises_upto, upto_in, upto_none}}
use Rattle.branch_model.specs.{Histories.{StandsAs}, Journals.{Covered, cas_of_last, end_of, found, last_log, log_of, place_of, role_of}, Logs.{AtForks}}
use Rattle.cluster_model.specs.Clusters.{Disk, front_or, loaded, opened}
use Rattle.{disk_journals.specs.Books.{Book}, vb_calls.specs.Shelves.{Shelf, left_book}, vb_disk.specs.declared.made.Outcome.{Outcome}, vb_journal.specs.UnderArms.{leaves_open}, vb_types.specs.declared.journal.Batch.{Batch}, vb_types.specs.declared.journal.Record.{Record}}
use Rattle.vb_disk.specs.declared.made.Outcome.TheVariants.{Old, New, Fill}
use Rattle.vb_types.specs.declared.journal.Record.TheVariants as noted
use Rattle.transcript_law.specs.Chronicles.{DiskKnown, Flushing, alone, crashed_disk, finds, newest_or, rested, resting}
use Rattle.transcript_law.proofs.{invariant.Agreement.{AwayAt, BookBy, Power, top}, disks.Disks.{AwayAgrees, DiskIsIf, bare, book_in}, invariant.Holdings.{BranchAgrees, ChangeFits, EntryFits, IsAway, VbContents, VbIsIf, VbRow}}
use Rattle.transcript_law.proofs.{Words.{Plain}, invariant.Carried.{numbers}, invariant.OneLink.{disk_here, disk_there, put_here, put_there}, invariant.Seats.{seat, seat_one}, links.Sent.{all_in, all_by_each}, invariant.Trees.{IdsFit, id_fits}}

-- records as lines tell them tell the same

-- where a crash finds the record of a broken append, it leaves its gate open
pub same_found : (out : Outcome) → leaves_open out ≡ finds out
same_found Old = refl
same_found New = refl
same_found (Fill byte) = refl

pub bare_found : (book : List Record) (late : Option Record) (stood : Bool) → found (map bare book) (option_map bare late) stood ≡ map bare (found book late stood)
bare_found book None stood = refl
bare_found book (Some r) true = refl
bare_found book (Some r) false = refl

pub bare_place : (js : List Record) → place_of (map bare js) ≡ place_of js
bare_place [] = refl
bare_place (noted.State role log ∷ older) = bare_place older
bare_place (noted.Rows b ∷ older) = refl
bare_place (noted.Roll to ∷ older) = refl

pub bare_log : (js : List Record) → log_of (map bare js) ≡ log_of js
bare_log [] = refl
bare_log (noted.State role log ∷ older) = refl
bare_log (noted.Rows b ∷ older) = refl
bare_log (noted.Roll to ∷ older) = ap (kept_to to) (bare_log older)

pub bare_last : (js : List Record) → last_log (map bare js) ≡ last_log js
bare_last [] = refl
bare_last (noted.State role log ∷ older) = refl
bare_last (noted.Rows b ∷ older) = refl
bare_last (noted.Roll to ∷ older) = bare_last older

pub bare_role : (js : List Record) → role_of (map bare js) ≡ role_of js
bare_role [] = refl
bare_role (noted.State role log ∷ older) = refl
bare_role (noted.Rows b ∷ older) = bare_role older
bare_role (noted.Roll to ∷ older) = bare_role older

pub bare_resting : (js : List Record) → resting (map bare js) ≡ resting js
bare_resting [] = refl
bare_resting (noted.State role log ∷ older) = refl
bare_resting (noted.Rows b ∷ older) = ap (λ o. Some (rested o)) (bare_role older)
bare_resting (noted.Roll to ∷ older) = ap (λ o. Some (rested o)) (bare_role older)

-- what stands of a vBucket at a running node, whether it is there or not: the lines tell its records as its member has them, and whether it has a disk
pub record Written (told : DiskKnown) (contents : VbContents) (m : Member) (d : Disk) (shelf : Option Shelf) : Type 0 where
  pub book : told.book ≡ map bare d.book
  pub late : told.late ≡ option_map bare d.late
  pub cas : cas_of_last d.book < 2 ^ 64
  pub late_cas : (r : Record) → d.late ≡ Some r → cas_of_last (r ∷ d.book) < 2 ^ 64
  pub held : contents.held ≡ m.held
  pub branch : BranchAgrees contents.branch m.br
  pub fits : All ChangeFits m.held
  pub left : (out : Outcome) → option_map (left_book out) shelf ≡ (if told.there then Some (found d.book d.late (finds out)) else None)
  pub none : told.there ≡ false → (d.book ≡ []) × (d.late ≡ None)

-- where it is not there, its node tells whether it has a disk
abbrev pub UnmadeIf : Option Plain → DiskKnown → Disk → Option Shelf → Type 0
UnmadeIf None told d shelf = (d.book ≡ []) × (told.there ≡ is_some shelf)
UnmadeIf (Some vb) told d shelf = Unit {0}

pub away_late : (told : DiskKnown) (d : Disk) → AwayAgrees told d → (told.late ≡ None) × (d.late ≡ None)
away_late told d a = (ap (λ (t : DiskKnown). t.late) a.told_is, ap (λ (x : Disk). x.late) a.disk)

away_written : (row : VbRow) (m : Member) (d : Disk) (shelf : Option Shelf) → IsAway row m → AwayAgrees row.disk d → d.book ≡ [] → ((out : Outcome) → option_map (left_book out) shelf ≡ (if row.disk.there then Some (found d.book d.late (finds out)) else None)) → Written row.disk row.contents m d shelf
away_written row m d shelf a x empty left =
    let late = away_late row.disk d x in
    record {
      book = ap (λ (t : DiskKnown). t.book) x.told_is;
      late = late.0 ∙ ap (option_map bare) (sym late.1);
      cas = x.cas;
      late_cas = λ r e. let z : None ≡ Some r = sym late.1 ∙ e in cc;
      held = a.told.held;
      branch = a.branch;
      fits = a.fits;
      left = left;
      none = λ e. (empty, late.1);
    }

pub are_written : (tree : List Branch) (writer_of : ℕ → Option (ℕ × ℕ)) (row : VbRow) (n v : ℕ) (m : Member) (d : Disk) (shelf : Option Shelf) (vb : Option Plain) → VbIsIf tree writer_of row n v m vb → DiskIsIf row.disk d shelf vb → UnmadeIf vb row.disk d shelf → Written row.disk row.contents m d shelf
are_written tree writer_of row n v m d None (Some vb) a x u = absurd x
are_written tree writer_of row n v m d (Some shelf) (Some vb) a x u = record {
  book = x.told_book ∙ ap (map bare) (sym x.book);
  late = x.told_late ∙ ap (option_map bare) (sym x.late);
  cas = x.cas;
  late_cas = x.late_cas;
  held = a.told.held;
  branch = a.branch;
  fits = a.fits;
  left = λ out. (λ i. Some (found (sym x.book i) (sym x.late i) (same_found out i))) ∙ sym (ap (λ b. if b then Some (found d.book d.late (finds out)) else None) x.there);
  none = λ e. let z : true ≡ false = sym x.there ∙ e in cc;
}
are_written tree writer_of row n v m d None None a x u = away_written row m d None a x u.0 (λ out. sym (ap (λ b. if b then Some (found d.book d.late (finds out)) else None) u.1))
are_written tree writer_of row n v m d (Some shelf) None a x u = away_written row m d (Some shelf) a x.0 u.0 (λ out.
    let late = away_late row.disk d x.0 in
    (λ i. Some (left_book out (x.2 i))) ∙ (λ i. Some (found (sym u.0 i) (sym late.1 i) (finds out))) ∙ sym (ap (λ b. if b then Some (found d.book d.late (finds out)) else None) u.1))

-- logs of the records of a sound cluster have room in their fields
pub logs_fit : (c : Cluster) → SoundCluster top c → IdsFit c.tree → (log : List LogEntry) → AtForks c.tree log → All EntryFits log
logs_fit c s f [] x = All-nil EntryFits
logs_fit c s f (e ∷ older) x = All-cons EntryFits e older (by (branch c.tree e.uuid) refl x.0) (logs_fit c s f older x.1)
  where
    by : (o : Option Branch) → branch c.tree e.uuid ≡ o → option_map (λ (b : Branch). b.fork) o ≡ Some e.seq → EntryFits e
    by None q y = let z : None ≡ Some e.seq = y in cc
    by (Some b) q y =
        let same : b.fork ≡ e.seq = cc in
        let low : b.fork ≤ 2 ^ 48 = rises_le b.fork top b.own (branch_rises top c.tree e.uuid b s.grows q) in
        (id_fits c.tree e.uuid f (b, q), omega arith)

-- what is held ends where the last batch does

last_of_more : (y : Change) (xs : List Change) (end : ℕ) → last_seq y.seq xs ≡ end → (z : Change) × IsIn z (y ∷ xs) × (z.seq ≡ end)
last_of_more y [] end e = (y, inl refl, e)
last_of_more y (w ∷ ws) end e = let (z, i, q) = last_of_more w ws end e in (z, inr i, q)

last_there : (n end : ℕ) (xs : List Change) → last_seq n xs ≡ end → n < end → (x : Change) × IsIn x xs × (x.seq ≡ end)
last_there n end [] e l = absurd (omega arith)
last_there n end (x ∷ xs) e l = last_of_more x xs end e

stood_seq : (x c : Change) → StandsAs x c → x.seq ≡ c.seq
stood_seq x c s = ⊎_elim (λ e. ap (λ (y : Change). y.seq) e) (λ e. ap (λ (y : Change). y.seq) e) s

pub stood_end : (at : ℕ) (held : List Change) (bs : List Batch) → Rises 0 at held → Covered held bs → last_seq 0 (upto held (end_of bs)) ≡ end_of bs
stood_end at held [] r t = ap (last_seq 0) (upto_none 0 at 0 held r (omega arith))
stood_end at held (b ∷ older) r t =
    let (x, in_items, s) = last_there (end_of older) b.position.at b.items t.0.reaches t.0.goes_on in
    let (c, in_held, same) = t.0.remains.of x in_items in
    let e : c.seq ≡ b.position.at = sym (stood_seq x c same) ∙ s in
    last_seq_at 0 b.position.at (upto held b.position.at) c (rises_upto 0 at b.position.at held (omega arith) r) (upto_in c held b.position.at in_held (omega arith)) e

-- a member and its disk once it loaded what a crash found
pub record Loads (stood : Bool) (m : Member) (d : Disk) (m' : Member) (d' : Disk) : Type 0 where
  pub active : m'.active ≡ false
  pub br : m'.br ≡ front_or m.br (last_log (found d.book d.late stood))
  pub held : m'.held ≡ upto m.held (place_of (found d.book d.late stood)).at
  pub position : m'.position ≡ place_of (found d.book d.late stood)
  pub log : m'.log ≡ log_of (found d.book d.late stood)
  pub disk : d' ≡ opened (found d.book d.late stood)

-- what lines tell of a vBucket after a crash
abbrev pub crashed_row : Outcome → VbRow → VbRow
crashed_row out row = record {
  role = Some (resting (crashed_disk out row.disk).book);
  opened = false;
  contents = record {
    held = upto row.contents.held (place_of (crashed_disk out row.disk).book).at;
    branch = newest_or row.contents.branch (last_log (crashed_disk out row.disk).book);
    log = Some (log_of (crashed_disk out row.disk).book);
    snap = Some ((place_of (crashed_disk out row.disk).book).ss, (place_of (crashed_disk out row.disk).book).se);
  };
  disk = crashed_disk out row.disk;
  counts = alone 0;
}

module _ (out : Outcome) (row : VbRow) (m m' : Member) (d d' : Disk) (shelf : Option Shelf) (x : Written row.disk row.contents m d shelf) (l : Loads (finds out) m d m' d') where
  abbrev js : List Record
  js = found d.book d.late (finds out)

  abbrev told : DiskKnown
  told = crashed_disk out row.disk

  book_is : told.book ≡ map bare js
  book_is = (λ i. found (x.book i) (x.late i) (finds out)) ∙ bare_found d.book d.late (finds out)

  place_is : place_of told.book ≡ place_of js
  place_is = ap place_of book_is ∙ bare_place js

  last_is : last_log told.book ≡ last_log js
  last_is = ap last_log book_is ∙ bare_last js

  cas_is : (o : Option Record) → d.late ≡ o → (stood : Bool) → cas_of_last (found d.book o stood) < 2 ^ 64
  cas_is None e stood = x.cas
  cas_is (Some r) e true = x.late_cas r e
  cas_is (Some r) e false = x.cas

  pub crashed_disk_is : AwayAgrees told d'
  crashed_disk_is = subst (AwayAgrees told) (sym l.disk) (record {
    told_is = λ i. record { flushing = Flushing.Idle; book = book_is i; late = None; saved = (place_is i).at; taken = (place_is i).at; there = row.disk.there; closed = false };
    disk = refl;
    cas = cas_is d.late refl (finds out);
  })

  branch_by : (log : List LogEntry) → BranchAgrees (newest_or row.contents.branch log) (front_or m.br log)
  branch_by [] = x.branch
  branch_by (e ∷ older) = refl

  unlogged_by : (log : List LogEntry) → last_log js ≡ log → newest_or row.contents.branch log ≡ None → m'.log ≡ []
  unlogged_by [] e n = l.log ∙ no_log js e
  unlogged_by (f ∷ older) e n = let z : Some f.uuid ≡ None = n in cc

  pub crashed_away : All EntryFits m'.log → last_seq 0 m'.held ≡ m'.position.at → IsAway (crashed_row out row) m'
  crashed_away entries high = record {
    opened = refl;
    told = record {
      held = (λ i. upto (x.held i) (place_is i).at) ∙ sym l.held;
      log = ap Some (ap log_of book_is ∙ bare_log js ∙ sym l.log);
      snap = ap (λ (p : Position). Some (p.ss, p.se)) (place_is ∙ sym l.position);
      unlogged = λ e. unlogged_by (last_log js) refl (ap (newest_or row.contents.branch) (sym last_is) ∙ e);
    };
    branch = subst (λ b. BranchAgrees (newest_or row.contents.branch (last_log told.book)) b) (sym l.br) (subst (λ log. BranchAgrees (newest_or row.contents.branch log) (front_or m.br (last_log js))) (sym last_is) (branch_by (last_log js)));
    active = l.active;
    fits = subst (All ChangeFits) (sym l.held) (all_by_each ChangeFits (upto m.held (place_of js).at) (λ c i. all_in ChangeFits m.held c x.fits (in_filter (λ y. nat_le y.seq (place_of js).at) c m.held i).0));
    entries = entries;
    high = high;
  }

  pub crashed_rests : (power : Power) (v : ℕ) (books : List Book) → power.off ≡ Some books → book_in books v ≡ option_map (left_book out) shelf → AwayAt (Some power) v None (crashed_row out row).role told m' d'
  crashed_rests power v books off listed = record {
    position = l.position ∙ ap (λ (y : Disk). place_of y.book) (sym l.disk);
    log = l.log ∙ ap (λ (y : Disk). log_of y.book) (sym l.disk);
    role = ap (λ b. Some (resting b)) book_is ∙ ap Some (bare_resting js) ∙ ap (λ (y : Disk). Some (resting y.book)) (sym l.disk);
    book = subst (λ o. BookBy o v None told d') (sym off) (
      listed ∙ x.left out ∙ ap (λ (y : Disk). if row.disk.there then Some y.book else None) (sym l.disk),
      λ e. let p = x.none e in ap (λ (y : Disk). y.book) l.disk ∙ (λ i. found (p.0 i) (p.1 i) (finds out)),
    );
  }

-- the members of a node, one after another

-- the cluster in which the members of so many vBuckets of the node n crashed
unfoldable pub crash_all : ℕ → Bool → ℕ → Cluster → Cluster
crash_all n stood zero c = c
crash_all n stood (suc k) c = happens (crash_all n stood k c) (Move.Crash (seat n k) stood)

pub crash_sound : (n : ℕ) (stood : Bool) (k : ℕ) (c : Cluster) → SoundCluster top c → SoundCluster top (crash_all n stood k c)
unfolding crash_all
crash_sound n stood zero c s = s
crash_sound n stood (suc k) c s = keeps top (crash_all n stood k c) (Move.Crash (seat n k) stood) (crash_sound n stood k c s) tt

pub crash_tree : (n : ℕ) (stood : Bool) (k : ℕ) (c : Cluster) → (crash_all n stood k c).tree ≡ c.tree
unfolding crash_all
crash_tree n stood zero c = refl
crash_tree n stood (suc k) c = crash_tree n stood k c

-- another member, with its disk
pub crash_there : (n : ℕ) (stood : Bool) (k : ℕ) (c : Cluster) (j : ℕ) → ((v : ℕ) → v < k → j ≡ seat n v → ⊥) → ((crash_all n stood k c).nodes j ≡ c.nodes j) × ((crash_all n stood k c).disks j ≡ c.disks j)
unfolding crash_all
crash_there n stood zero c j ne = (refl, refl)
crash_there n stood (suc k) c j ne =
    let b : Cluster = crash_all n stood k c in
    let more = crash_there n stood k c j (λ v l. ne v (omega arith)) in
    let js : List Record = found (b.disks (seat n k)).book (b.disks (seat n k)).late stood in
    let apart : j ≡ seat n k → ⊥ = ne k (omega arith) in (
      put_there b.nodes (seat n k) (loaded (b.nodes (seat n k)).br (b.nodes (seat n k)).held js) j apart ∙ more.0,
      disk_there b.disks (seat n k) (opened js) j apart ∙ more.1,
    )

-- and one of these
abbrev pub Crashes : Bool → Cluster → Cluster → ℕ → Type 0
Crashes stood c c' j = (c'.nodes j ≡ loaded (c.nodes j).br (c.nodes j).held (found (c.disks j).book (c.disks j).late stood)) × (c'.disks j ≡ opened (found (c.disks j).book (c.disks j).late stood))

pub crash_here : (n : ℕ) (stood : Bool) (k : ℕ) (c : Cluster) (v : ℕ) → v < k → Crashes stood c (crash_all n stood k c) (seat n v)
unfolding crash_all
crash_here n stood zero c v l = absurd (omega arith)
crash_here n stood (suc k) c v l =
    let b : Cluster = crash_all n stood k c in
    let at : ℕ = seat n k in
    let js : List Record = found (b.disks at).book (b.disks at).late stood in
    let same = crash_there n stood k c at (λ q m e. let p : k ≡ q = (seat_one n k n q e).1 in absurd (omega arith)) in
    let last : Crashes stood c (crash_all n stood (suc k) c) at = (
      put_here b.nodes at (loaded (b.nodes at).br (b.nodes at).held js) ∙ (λ i. loaded (same.0 i).br (same.0 i).held (found (same.1 i).book (same.1 i).late stood)),
      disk_here b.disks at (opened js) ∙ (λ i. opened (found (same.1 i).book (same.1 i).late stood)),
    ) in
    ⊎_elim (λ e. subst (λ x. Crashes stood c (crash_all n stood (suc k) c) (seat n x)) (sym e) last)
    (λ ne.
    let more = crash_here n stood k c v (omega (arith, ne, l)) in
    let apart : seat n v ≡ at → ⊥ = λ e. ne (seat_one n v n k e).1 in (
      put_there b.nodes at (loaded (b.nodes at).br (b.nodes at).held js) (seat n v) apart ∙ more.0,
      disk_there b.disks at (opened js) (seat n v) apart ∙ more.1,
    ))
    (numbers v k)
