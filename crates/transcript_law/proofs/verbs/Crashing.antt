-- a node that stops: its links end, and its vBuckets are what a crash leaves of their disks
use Rattle.std.specs.Prelude.{◌≡◌, ◌<◌, ◌≤◌, ◌∷◌, ◌++◌, ◌==◌, ◌||◌, if◌then◌else◌, nat_lt, option_map, option_to_list}
use Rattle.std.proofs.lemmas.Bool.{ltb-false, ltb-true}
use Rattle.std.proofs.lemmas.Grind.{flat_map-append}
use Rattle.transcript_law.proofs.Words.{ℕ, zero, suc, Bool, true, false, List, [], refl, ap, sym, ◌∙◌, subst, ⊎_elim, arith, Option, Some, None, not, is_some, eq-eqb, ne_eqb, flat_map, last_seq, upto, Position, Rises}
use Rattle.transcript_law.proofs.Words.{Cluster, Member, SoundCluster, StreamName, link_number, StaysSound, Plain, PlainLink, producer_node, consumer_node, PlainNode, PlainWorld, with_node_at, vb_in, shelf_in, first_cause, refused_or, done, Cause, Chronicle, Dial, after_lines}
use Rattle.{branch_model.proofs.Lists.{upto_all}, branch_model.specs.Journals.{batches, end_of, found, last_log, log_of, place_of}, cluster_model.specs.Clusters.{Disk, front_or, opened}}
use Rattle.{disk_journals.specs.Books.{Book, below, book_at, listed, listed_below}, disk_journals.proofs.Numbers.{lists_all}, disk_journals.specs.declared.crash.TheConstants.{NUMBERS}, vb_types.specs.declared.journal.Record.{Record}}
use Rattle.{node_world.specs.Arms.{no_arm as unarmed}, node_world.specs.Power.{all_cut, books_left, crash_causes, crash_step, down_lines, dropped, is_this_number, stopped_node, touches}, node_world.specs.Worlds.{is_up, node_if}}
use Rattle.{vb_calls.specs.Shelves.{Shelf, left_book}, vb_disk.specs.declared.made.Outcome.{Outcome}}
use Rattle.transcript_law.specs.Chronicles.{after_crash, after_crashed, alone, crashed_disk, known_down, finds, is_dial_at, newest_or, resting, after_ending}
use Rattle.transcript_law.proofs.{invariant.Agreement.{clock_of, Agrees, AgreesAt, AgreesIn, AwayAt, BookAgrees, DiskIsIf, DownHolds, GoesOn, IsAway, IsLink, LinkAgrees, Power, PowerIsIf, VbIsIf, VbRow, book_in, idle, is_down, is_running, power_of, shelf_of, top, vb_contents, vb_of, vb_row}, disks.ArmedLines.{AreEnds}}
use Rattle.transcript_law.proofs.{invariant.Carried.{as_far, branches_again, kept_same, link_carried, numbers}, disks.Crashed.{Loads, UnmadeIf, Written, are_written, away_late, crash_all, crash_here, crash_sound, crash_there, crash_tree, crashed_away, crashed_disk_is, crashed_rests, crashed_row, logs_fit, stood_end}}
use Rattle.transcript_law.proofs.{disks.Disks.{AwayAgrees, power_in}, disks.Downed.{AreDialed, Downed, IsFree, down_closes, down_dialed, down_ends, downed, ends_lawful, none_free, with_known}, invariant.Seats.{seat, seat_one}, invariant.Tables.{id_here, id_there, none_hold}, invariant.Trees.{IdsFit}}
use Rattle.transcript_law.proofs.invariant.{Carried.{all_there}, Carrying.{same_arms}, ClientsKept.{ConnsKept, OfOthers, clients_gone, goes_same, others_owed, spot_at, spot_same}, Owed.{Fewer, fewer_none, fewer_same}}
use Rattle.transcript_law.specs.{Feeding.{client_in}, StreamsTold.{ClientsKnown}}
use Rattle.transcript_law.proofs.{indexers.Beside.{beside}, invariant.Owing.{later_same}}
use Rattle.transcript_law.specs.LinesTold.{without_node}

-- the books that a crash leaves

same_below : (f g : ℕ → Option (List Record)) (k : ℕ) → ((v : ℕ) → v < k → f v ≡ g v) → listed_below k f ≡ listed_below k g
same_below f g zero e = refl
same_below f g (suc k) e =
    let older : flat_map (book_at f) (below k) ≡ flat_map (book_at g) (below k) = same_below f g k (λ v l. e v (omega arith)) in
    let last : f k ≡ g k = e k (omega arith) in
    flat_map-append (book_at f) (below k) (k ∷ []) ∙ (λ i. older i ++ (option_to_list (option_map (λ js. (k, js)) (last i)) ++ [])) ∙ sym (flat_map-append (book_at g) (below k) (k ∷ []))

same_listed : (f g : ℕ → Option (List Record)) → ((v : ℕ) → v < NUMBERS → f v ≡ g v) → listed f ≡ listed g
unfolding listed
same_listed f g e = same_below f g NUMBERS e

second : (v : ℕ) (o : Option (List Record)) → option_map (λ (b : Book). b.1) (option_map (λ js. (v, js)) o) ≡ o
second v None = refl
second v (Some js) = refl

listed_in : (f : ℕ → Option (List Record)) (v : ℕ) → v < NUMBERS → book_in (listed f) v ≡ f v
listed_in f v l = ap (option_map (λ (b : Book). b.1)) (lists_all.there f v l) ∙ second v (f v)

listed_out : (f : ℕ → Option (List Record)) (v : ℕ) → NUMBERS ≤ v → book_in (listed f) v ≡ None
listed_out f v l = ap (option_map (λ (b : Book). b.1)) (lists_all.no_other f v l)

listed_again : (f : ℕ → Option (List Record)) → listed f ≡ listed (book_in (listed f))
listed_again f = same_listed f (book_in (listed f)) (λ v l. sym (listed_in f v l))

-- tables with another row

-- what lines tell of a vBucket, by whether its node crashed
abbrev row_if : Bool → Outcome → VbRow → VbRow
row_if b out row = record {
  role = if b then (crashed_row out row).role else row.role;
  opened = if b then false else row.opened;
  contents = record {
    held = if b then (crashed_row out row).contents.held else row.contents.held;
    branch = if b then (crashed_row out row).contents.branch else row.contents.branch;
    log = if b then (crashed_row out row).contents.log else row.contents.log;
    snap = if b then (crashed_row out row).contents.snap else row.contents.snap;
  };
  disk = if b then (crashed_row out row).disk else row.disk;
  counts = if b then alone 0 else row.counts;
}

row_here : (r : Chronicle) (n : ℕ) (out : Outcome) (v : ℕ) → vb_row (after_crash r n out) n v ≡ crashed_row out (vb_row r n v)
row_here r n out v = ap (λ b. row_if b out (vb_row r n v)) (eq-eqb n n refl)

row_there : (r : Chronicle) (n : ℕ) (out : Outcome) (m v : ℕ) → (m ≡ n → ⊥) → vb_row (after_crash r n out) m v ≡ vb_row r m v
row_there r n out m v ne =
    ap (λ b. record {
      role = if b then Some (resting (crashed_disk out (r.disk_at n v)).book) else r.role_at m v;
      opened = if b then false else r.open_at m v;
      contents = record {
        held = if b then upto (r.held n v) (place_of (crashed_disk out (r.disk_at n v)).book).at else r.held m v;
        branch = if b then newest_or (r.branch_at n v) (last_log (crashed_disk out (r.disk_at n v)).book) else r.branch_at m v;
        log = if b then Some (log_of (crashed_disk out (r.disk_at n v)).book) else r.log_at m v;
        snap = if b then Some ((place_of (crashed_disk out (r.disk_at n v)).book).ss, (place_of (crashed_disk out (r.disk_at n v)).book).se) else r.snap_at m v;
      };
      disk = if b then crashed_disk out (r.disk_at n v) else r.disk_at m v;
      counts = if b then alone 0 else r.counts_at m v;
    }) (ne_eqb m n ne)

-- what holds of one node and of the others
by_node : (P : ℕ → Type 0) (n : ℕ) → P n → ((m : ℕ) → (m ≡ n → ⊥) → P m) → (m : ℕ) → P m
by_node P n here there m = ⊎_elim (λ e. subst P (sym e) here) (λ ne. there m ne) (numbers m n)

module _ (w : PlainWorld) (r : Chronicle) (c : Cluster) (n : ℕ) (node : PlainNode) (out : Outcome) (a : AgreesIn idle w r c) (at : w.nodes n ≡ Some node) (on : node.off ≡ None) (apart : (x : PlainLink) → IsLink x w.links → touches n x ≡ false)
    (known : ClientsKnown) (known_there : (m d : ℕ) → (m ≡ n → ⊥) → known m d ≡ r.clients_at m d) where
  -- its clients are told closed before
  abbrev r' : Chronicle
  r' = after_crash (with_known r known) n out

  abbrev c' : Cluster
  c' = crash_all n (finds out) 1024 c

  abbrev w' : PlainWorld
  w' = with_node_at w n (stopped_node out node)

  abbrev books : List Book
  books = books_left out node

  here : w'.nodes n ≡ Some (stopped_node out node)
  here = ap (λ b. if b then Some (stopped_node out node) else w.nodes n) (eq-eqb n n refl)

  there : (m : ℕ) → (m ≡ n → ⊥) → w'.nodes m ≡ w.nodes m
  there m ne = ap (λ b. if b then Some (stopped_node out node) else w.nodes m) (ne_eqb m n ne)

  sound : SoundCluster top c'
  sound = crash_sound n (finds out) 1024 c a.sound

  others : (m v : ℕ) → (m ≡ n → ⊥) → (c'.nodes (seat m v) ≡ c.nodes (seat m v)) × (c'.disks (seat m v) ≡ c.disks (seat m v))
  others m v ne = crash_there n (finds out) 1024 c (seat m v) (λ q l e. ne (seat_one m v n q e).0)

  -- what stands of the node's vBuckets

  unmade : (v : ℕ) (o : Option Plain) → vb_of w n v ≡ o → UnmadeIf o (r.disk_at n v) (c.disks (seat n v)) (shelf_of w n v)
  unmade v None e = subst (λ p. BookAgrees p v (shelf_of w n v) (r.disk_at n v) (c.disks (seat n v))) (ap power_in at ∙ ap (λ o. Some (record { arm = node.arm; off = o; clock = node.clock })) on) (a.aways n v e).book
  unmade v (Some vb) e = tt

  written : (v : ℕ) → Written (r.disk_at n v) (vb_contents r n v) (c.nodes (seat n v)) (c.disks (seat n v)) (shelf_of w n v)
  written v = are_written r.tree r.writer_of (vb_row r n v) n v (c.nodes (seat n v)) (c.disks (seat n v)) (shelf_of w n v) (vb_of w n v) (a.vbs n v) (a.disks n v) (unmade v (vb_of w n v) refl)

  not_there : (v : ℕ) → 1024 ≤ v → (r.disk_at n v).there ≡ false
  not_there v l = by (r.disk_at n v).there refl
    where
      by : (b : Bool) → (r.disk_at n v).there ≡ b → b ≡ false
      by false e = refl
      by true e = let k : v < 1024 = a.small n v e in absurd (omega arith)

  none_made : (v : ℕ) → (r.disk_at n v).there ≡ false → vb_of w n v ≡ None
  none_made v e = by (vb_of w n v) refl (a.disks n v)
    where
      by : (o : Option Plain) → vb_of w n v ≡ o → DiskIsIf (r.disk_at n v) (c.disks (seat n v)) (shelf_of w n v) o → o ≡ None
      by None q x = refl
      by (Some vb) q x = shelved (shelf_of w n v) x
        where
          shelved : (s : Option Shelf) → DiskIsIf (r.disk_at n v) (c.disks (seat n v)) s (Some vb) → Some vb ≡ None
          shelved None y = absurd y
          shelved (Some shelf) y = let z : true ≡ false = sym y.there ∙ e in cc

  -- they load what was found

  module _ (v : ℕ) (high : 1024 ≤ v) where
    abbrev m : Member
    m = c.nodes (seat n v)

    abbrev d : Disk
    d = c.disks (seat n v)

    none : vb_of w n v ≡ None
    none = none_made v (not_there v high)

    away : IsAway (vb_row r n v) m
    away = subst (AgreesAt r n v m) none (a.vbs n v)

    stays_away : AwayAt (power_of w n) v (shelf_of w n v) (r.role_at n v) (r.disk_at n v) m d
    stays_away = a.aways n v none

    disk_by : (s : Option Shelf) → DiskIsIf (r.disk_at n v) d s None → AwayAgrees (r.disk_at n v) d
    disk_by None x = x
    disk_by (Some shelf) x = x.0

    disk : AwayAgrees (r.disk_at n v) d
    disk = disk_by (shelf_of w n v) (subst (DiskIsIf (r.disk_at n v) d (shelf_of w n v)) none (a.disks n v))

    found_is : found d.book d.late (finds out) ≡ d.book
    found_is = ap (λ o. found d.book o (finds out)) (away_late (r.disk_at n v) d disk).1

    empty : d.book ≡ []
    empty = (subst (λ o. UnmadeIf o (r.disk_at n v) d (shelf_of w n v)) none (unmade v (vb_of w n v) refl)).0

    position_is : m.position ≡ place_of (found d.book d.late (finds out))
    position_is = stays_away.position ∙ ap place_of (sym found_is)

    loads_still : Loads (finds out) m d m d
    loads_still = record {
      active = away.active;
      br = sym (ap (λ b. front_or m.br (last_log b)) (found_is ∙ empty));
      held = sym (upto_all 0 m.position.at (place_of (found d.book d.late (finds out))).at m.held (a.sound.stands (seat n v)).rises (subst (λ (k : ℕ). m.position.at ≤ k) (ap (λ (p : Position). p.at) position_is) (omega arith)));
      position = position_is;
      log = stays_away.log ∙ ap log_of (sym found_is);
      disk = disk.disk ∙ ap opened (sym found_is);
    }

  loads : (v : ℕ) → Loads (finds out) (c.nodes (seat n v)) (c.disks (seat n v)) (c'.nodes (seat n v)) (c'.disks (seat n v))
  loads v = by (nat_lt v 1024) refl
    where
      by : (b : Bool) → nat_lt v 1024 ≡ b → Loads (finds out) (c.nodes (seat n v)) (c.disks (seat n v)) (c'.nodes (seat n v)) (c'.disks (seat n v))
      by true e =
          let p = crash_here n (finds out) 1024 c v (ltb-true v 1024 e) in record {
            active = ap (λ (m : Member). m.active) p.0;
            br = ap (λ (m : Member). m.br) p.0;
            held = ap (λ (m : Member). m.held) p.0;
            position = ap (λ (m : Member). m.position) p.0;
            log = ap (λ (m : Member). m.log) p.0;
            disk = p.1;
          }
      by false e =
          let high : 1024 ≤ v = ltb-false v 1024 e in
          let p = crash_there n (finds out) 1024 c (seat n v) (λ q l s. let same : v ≡ q = (seat_one n v n q s).1 in absurd (omega arith)) in
          subst (λ m. Loads (finds out) (c.nodes (seat n v)) (c.disks (seat n v)) m (c'.disks (seat n v))) (sym p.0)
          (subst (λ d. Loads (finds out) (c.nodes (seat n v)) (c.disks (seat n v)) (c.nodes (seat n v)) d) (sym p.1) (loads_still v high))

  module _ (v : ℕ) where
    abbrev m' : Member
    m' = c'.nodes (seat n v)

    abbrev d' : Disk
    d' = c'.disks (seat n v)

    ends_there : m'.position.at ≡ end_of (batches d'.book)
    ends_there = ap (λ (p : Position). p.at) ((loads v).position ∙ ap (λ (y : Disk). place_of y.book) (sym (loads v).disk)) ∙ (sound.kept (seat n v)).book.ends

    high_is : last_seq 0 m'.held ≡ m'.position.at
    high_is =
        let rises : Rises 0 m'.position.at m'.held = (sound.stands (seat n v)).rises in
        ap (last_seq 0) (sym (upto_all 0 m'.position.at (end_of (batches d'.book)) m'.held rises (subst (λ (k : ℕ). m'.position.at ≤ k) ends_there (omega arith))))
        ∙ stood_end m'.position.at m'.held (batches d'.book) rises (sound.kept (seat n v)).book.covered ∙ sym ends_there

    away_now : IsAway (crashed_row out (vb_row r n v)) m'
    away_now = crashed_away out (vb_row r n v) (c.nodes (seat n v)) m' (c.disks (seat n v)) d' (shelf_of w n v) (written v) (loads v)
        (logs_fit c' sound (subst IdsFit (sym (crash_tree n (finds out) 1024 c)) a.ids) m'.log (sound.stands (seat n v)).ancestry.at_forks) high_is

  disk_now : (v : ℕ) → AwayAgrees (crashed_disk out (r.disk_at n v)) (c'.disks (seat n v))
  disk_now v = crashed_disk_is out (vb_row r n v) (c.nodes (seat n v)) (c'.nodes (seat n v)) (c.disks (seat n v)) (c'.disks (seat n v)) (shelf_of w n v) (written v) (loads v)

  -- the books that are left
  left_in : (v : ℕ) → book_in books v ≡ option_map (left_book out) (shelf_of w n v)
  left_in v = by (nat_lt v 1024) refl
    where
      by : (b : Bool) → nat_lt v 1024 ≡ b → book_in books v ≡ option_map (left_book out) (shelf_of w n v)
      by true e = listed_in (λ q. option_map (left_book out) (node.shelves q)) v (subst (λ k. v < k) (sym lists_all.numbers) (ltb-true v 1024 e)) ∙ ap (λ o. option_map (left_book out) (shelf_in o v)) (sym at)
      by false e =
          let high : 1024 ≤ v = ltb-false v 1024 e in
          listed_out (λ q. option_map (left_book out) (node.shelves q)) v (subst (λ k. k ≤ v) (sym lists_all.numbers) high)
          ∙ sym ((written v).left out ∙ ap (λ b. if b then Some (found (c.disks (seat n v)).book (c.disks (seat n v)).late (finds out)) else None) (not_there v high))

  power_here : power_of w' n ≡ Some (record { arm = unarmed; off = Some books; clock = 0 })
  power_here = ap power_in here

  abbrev down : Power
  down = record { arm = unarmed; off = Some books; clock = 0 }

  rests_now : (v : ℕ) → AwayAt (power_of w' n) v (shelf_of w' n v) (r'.role_at n v) (r'.disk_at n v) (c'.nodes (seat n v)) (c'.disks (seat n v))
  rests_now v =
      subst (λ p. AwayAt p v (shelf_of w' n v) (r'.role_at n v) (r'.disk_at n v) (c'.nodes (seat n v)) (c'.disks (seat n v))) (sym power_here)
      (subst (λ s. AwayAt (Some down) v s (r'.role_at n v) (r'.disk_at n v) (c'.nodes (seat n v)) (c'.disks (seat n v))) (sym (ap (λ o. shelf_in o v) here))
      (subst (λ (t : VbRow). AwayAt (Some down) v None t.role t.disk (c'.nodes (seat n v)) (c'.disks (seat n v))) (sym (row_here r n out v))
      (crashed_rests out (vb_row r n v) (c.nodes (seat n v)) (c'.nodes (seat n v)) (c.disks (seat n v)) (c'.disks (seat n v)) (shelf_of w n v) (written v) (loads v) down v books refl (left_in v))))

  -- other nodes are as they were

  vbs_are : (m v : ℕ) → AgreesAt r' m v (c'.nodes (seat m v)) (vb_of w' m v)
  vbs_are = by_node (λ m. (v : ℕ) → AgreesAt r' m v (c'.nodes (seat m v)) (vb_of w' m v)) n
      (λ v. subst (AgreesAt r' n v (c'.nodes (seat n v))) (sym (ap (λ o. vb_in o v) here)) (subst (λ t. IsAway t (c'.nodes (seat n v))) (sym (row_here r n out v)) (away_now v)))
      (λ m ne v. subst (λ o. AgreesAt r' m v (c'.nodes (seat m v)) (vb_in o v)) (sym (there m ne)) (subst (λ k. AgreesAt r' m v k (vb_of w m v)) (sym (others m v ne).0)
      (subst (λ t. VbIsIf r.tree r.writer_of t m v (c.nodes (seat m v)) (vb_of w m v)) (sym (row_there r n out m v ne)) (a.vbs m v))))

  disks_are : (m v : ℕ) → DiskIsIf (r'.disk_at m v) (c'.disks (seat m v)) (shelf_of w' m v) (vb_of w' m v)
  disks_are = by_node (λ m. (v : ℕ) → DiskIsIf (r'.disk_at m v) (c'.disks (seat m v)) (shelf_of w' m v) (vb_of w' m v)) n
      (λ v. subst (λ o. DiskIsIf (r'.disk_at n v) (c'.disks (seat n v)) (shelf_in o v) (vb_in o v)) (sym here) (subst (λ (t : VbRow). AwayAgrees t.disk (c'.disks (seat n v))) (sym (row_here r n out v)) (disk_now v)))
      (λ m ne v. subst (λ o. DiskIsIf (r'.disk_at m v) (c'.disks (seat m v)) (shelf_in o v) (vb_in o v)) (sym (there m ne)) (subst (λ k. DiskIsIf (r'.disk_at m v) k (shelf_of w m v) (vb_of w m v)) (sym (others m v ne).1)
      (subst (λ (t : VbRow). DiskIsIf t.disk (c.disks (seat m v)) (shelf_of w m v) (vb_of w m v)) (sym (row_there r n out m v ne)) (a.disks m v))))

  -- no link has an end at the node
  both_apart : (x : PlainLink) → IsLink x w.links → (producer_node x ≡ n → ⊥) × (consumer_node x ≡ n → ⊥)
  both_apart x i = (
    λ e. let z : true ≡ false = sym (ap (λ b. b || consumer_node x == n) (eq-eqb (producer_node x) n e)) ∙ apart x i in cc,
    λ e. let z : true ≡ false = sym (either (producer_node x == n) (consumer_node x == n) (eq-eqb (consumer_node x) n e)) ∙ apart x i in cc,
  )
    where
      either : (p q : Bool) → q ≡ true → (p || q) ≡ true
      either true q e = refl
      either false q e = e

  links_are : (x : PlainLink) → IsLink x w.links → LinkAgrees w' r' c' x [] []
  links_are x i =
      let ne = both_apart x i in
      let away : is_dial_at n (r.dial_of (link_number x)) ≡ false = ap (is_dial_at n) (a.links x i).dialed ∙ apart x i in
      link_carried w w' r r' c c' x [] [] (λ f e. (f, ap (λ o. vb_in o x.consumer.dialed.vb) (there (consumer_node x) ne.1) ∙ e, kept_same f))
      (ap (λ b. if b then None else r.dial_of (link_number x)) away) (ap (λ b. if b then None else r.stream_of (StreamName.Link (link_number x)) x.consumer.dialed.vb) away) (ap (λ b. if b then None else r.stated_of (link_number x)) away) (ap (λ b. if b then None else r.point_of (link_number x)) away) (others (consumer_node x) x.consumer.dialed.vb ne.1).0
      (λ p k s e feeds opens has. let far = (others (producer_node x) x.consumer.dialed.vb ne.0).0 in (p, ap (λ o. vb_in o x.consumer.dialed.vb) (there (producer_node x) ne.0) ∙ e, refl, opens, ap (λ (m : Member). m.br) far, λ dead. ap (λ (m : Member). m.position) far, as_far (ap (λ (m : Member). m.position) far))) (a.links x i)

  powers_are : (m : ℕ) → PowerIsIf (r'.arm_at m) (power_of w' m)
  powers_are = by_node (λ m. PowerIsIf (r'.arm_at m) (power_of w' m)) n
      (subst (PowerIsIf (r'.arm_at n)) (sym power_here) (subst (λ t. PowerIsIf t (Some (record { arm = unarmed; off = Some books; clock = 0 }))) (sym (id_here r.arm_at n known_down))
      (record { fuse = refl; out = refl; down = refl; zero = λ b e. refl; may_fire = tt; listed_so = λ b e. let same : books ≡ b = cc in subst (λ x. x ≡ listed (book_in x)) same (listed_again (λ v. option_map (left_book out) (node.shelves v))) })))
      (λ m ne. subst (λ o. PowerIsIf (r'.arm_at m) (power_in o)) (sym (there m ne)) (subst (λ t. PowerIsIf t (power_of w m)) (sym (id_there r.arm_at n known_down m (λ e. ne (sym e)))) (a.powers m)))

  aways_are : (m v : ℕ) → vb_of w' m v ≡ None → AwayAt (power_of w' m) v (shelf_of w' m v) (r'.role_at m v) (r'.disk_at m v) (c'.nodes (seat m v)) (c'.disks (seat m v))
  aways_are = by_node (λ m. (v : ℕ) → vb_of w' m v ≡ None → AwayAt (power_of w' m) v (shelf_of w' m v) (r'.role_at m v) (r'.disk_at m v) (c'.nodes (seat m v)) (c'.disks (seat m v))) n
      (λ v none. rests_now v)
      (λ m ne v none. subst (λ o. AwayAt (power_in o) v (shelf_in o v) (r'.role_at m v) (r'.disk_at m v) (c'.nodes (seat m v)) (c'.disks (seat m v))) (sym (there m ne))
      (subst (λ (t : VbRow). AwayAt (power_of w m) v (shelf_of w m v) t.role t.disk (c'.nodes (seat m v)) (c'.disks (seat m v))) (sym (row_there r n out m v ne))
      (subst (λ k. AwayAt (power_of w m) v (shelf_of w m v) (r.role_at m v) (r.disk_at m v) k (c'.disks (seat m v))) (sym (others m v ne).0)
      (subst (λ k. AwayAt (power_of w m) v (shelf_of w m v) (r.role_at m v) (r.disk_at m v) (c.nodes (seat m v)) k) (sym (others m v ne).1)
      (a.aways m v (sym (ap (λ o. vb_in o v) (there m ne)) ∙ none))))))

  downs_are : (m v : ℕ) → DownHolds (power_of w' m) (vb_of w' m v) (shelf_of w' m v)
  downs_are = by_node (λ m. (v : ℕ) → DownHolds (power_of w' m) (vb_of w' m v) (shelf_of w' m v)) n
      (λ v. subst (λ o. DownHolds (power_in o) (vb_in o v) (shelf_in o v)) (sym here) (record { vb_none = λ e. refl; shelf_none = λ e. refl }))
      (λ m ne v. subst (λ o. DownHolds (power_in o) (vb_in o v) (shelf_in o v)) (sym (there m ne)) (a.downs m v))

  small_are : (m v : ℕ) → (r'.disk_at m v).there ≡ true → v < 1024
  small_are = by_node (λ m. (v : ℕ) → (r'.disk_at m v).there ≡ true → v < 1024) n
      (λ v e. a.small n v (ap (λ (t : VbRow). t.disk.there) (sym (row_here r n out v)) ∙ e))
      (λ m ne v e. a.small m v (ap (λ (t : VbRow). t.disk.there) (sym (row_there r n out m v ne)) ∙ e))

  -- it has no clients any more
  conns : ConnsKept (OfOthers n) w w' r r'
  conns = record {
    conns = λ m d ne. ap (λ o. client_in o d) (there m ne);
    known = known_there;
    opens = λ m d v id ne has. goes_same (spot_at w r m v) (spot_at w' r' m v) id (spot_same w w' r r' m v refl (row_there r n out m v ne) (ap (λ o. vb_in o v) (there m ne)));
  }

  -- and none of its vBuckets is there
  fewer : (m v : ℕ) → Fewer (vb_of w m v) (vb_of w' m v)
  fewer = by_node (λ m. (v : ℕ) → Fewer (vb_of w m v) (vb_of w' m v)) n (λ v. fewer_none (vb_of w n v) (vb_of w' n v) (ap (λ o. vb_in o v) here)) (λ m ne v. fewer_same (vb_of w m v) (vb_of w' m v) (ap (λ o. vb_in o v) (there m ne)))

  pub stopped_agrees : AgreesIn idle w' r' c'
  stopped_agrees = record {
    sound = sound;
    vbs = vbs_are;
    disks = disks_are;
    branches = branches_again (crash_tree n (finds out) 1024 c) refl (λ u e. e) a.branches;
    links = links_are;
    differ = a.differ;
    clients = clients_gone w w' r r' n a.clients (all_there idle w r c a) conns (λ d. ap (λ o. client_in o d) here) (λ l m v id has. has)
        (others_owed w w' r r' n conns (λ d. ap (λ o. client_in o d) here) (later_same _ _ refl refl) fewer a.clients.owed);
    rests = record {
      powers = powers_are;
      clocks = by_node (λ m. r'.clock_at m ≡ clock_of (power_of w' m)) n (id_here r.clock_at n 0 ∙ sym (ap clock_of power_here)) (λ m ne. id_there r.clock_at n 0 m (λ e. ne (sym e)) ∙ a.clocks m ∙ sym (ap (λ o. clock_of (power_in o)) (there m ne)));
      aways = aways_are;
      downs = downs_are;
      ends = λ x i. let ne = both_apart x i in let e = a.ends x i in record {
        producer = ap (λ o. is_running (power_in o)) (there (producer_node x) ne.0) ∙ e.producer;
        consumer = ap (λ o. is_down (power_in o)) (there (consumer_node x) ne.1) ∙ e.consumer;
        number = e.number;
      };
      small = small_are;
    };
  }

-- a node that is running
pub running : (o : Option PlainNode) → is_up o ≡ true → (node : PlainNode) × (o ≡ Some node) × (node.off ≡ None)
running None e = cc
running (Some node) e = (node, refl, by node.off e)
  where
    by : (o : Option (List Book)) → not (is_some o) ≡ true → o ≡ None
    by None q = refl
    by (Some books) q = cc

-- it is running where its power says so
abbrev is_on : Option Power → Bool
is_on None = false
is_on (Some power) = not (is_some power.off)

up_is : (o : Option PlainNode) → is_up o ≡ is_on (power_in o)
up_is None = refl
up_is (Some node) = refl

-- what a stop comes to: its lines tell of what ends alone, which was there, and all agrees once the node is down
pub record Drops (w : PlainWorld) (r : Chronicle) (n : ℕ) (out : Outcome) (also : Option ℕ) : Type 0 where
  pub ends : AreEnds (down_lines n also w)
  pub dialed : AreDialed r.dial_of (down_lines n also w)
  pub agrees : Agrees (dropped n out w) (after_crash (after_lines r (down_lines n also w)) n out)

pub drops : StaysSound → (w : PlainWorld) (r : Chronicle) (n : ℕ) (out : Outcome) (also : Option ℕ) → Agrees w r → is_up (w.nodes n) ≡ true → IsFree also w.links → ((l : ℕ) → is_this_number l also ≡ true → (dial : Dial) × (r.dial_of l ≡ Some dial)) → Drops w r n out also
drops stays w r n out also (c, a) up free besides =
    let d : Downed w r (after_lines r (down_lines n also w)) n = downed stays w r c n also a free in
    let still : is_up ((all_cut n w).nodes n) ≡ true = up_is ((all_cut n w).nodes n) ∙ ap is_on (same_arms w (all_cut n w) d.powers n) ∙ sym (up_is (w.nodes n)) ∙ up in
    let (node, at, on) = running ((all_cut n w).nodes n) still in
    record {
      ends = down_ends n also w;
      dialed = down_dialed w r c n also a besides;
      agrees = (
        crash_all n (finds out) 1024 d.cluster,
        subst (λ x. AgreesIn idle x (after_crash (after_lines r (down_lines n also w)) n out) (crash_all n (finds out) 1024 d.cluster)) (sym (ap (node_if n (stopped_node out) (all_cut n w)) at))
            (stopped_agrees (all_cut n w) (with_known (after_lines r (down_lines n also w)) r.clients_at) d.cluster n node out d.agrees at on d.apart (after_lines r (down_lines n also w)).clients_at d.others),
      );
    }

-- `crash N OUT`
pub crash_goes : StaysSound → (w : PlainWorld) (r : Chronicle) (n : ℕ) (out : Outcome) → Agrees w r → GoesOn (after_ending r n (crash_step w n out).1.answer) (λ told. after_crashed told n out (crash_step w n out).1.answer) (crash_step w n out)
crash_goes stays w r n out a = by (first_cause (crash_causes w n)) refl
  where
    up : (b : Bool) → not b ≡ false → b ≡ true
    up true e = refl
    up false e = cc

    by : (why : Option Cause) → first_cause (crash_causes w n) ≡ why → (let x = refused_or why w (dropped n out w, done (down_lines n None w)) in GoesOn (after_ending r n x.1.answer) (λ told. after_crashed told n out x.1.answer) x)
    by (Some why) e = (tt, a)
    by None e =
        let clear = none_hold (crash_causes w n) e in let gone : Chronicle = record r { conn_at = without_node r.conn_at n } in
        let d = drops stays w gone n out None (a.0, beside w r gone.conn_at r.made r.ticks r.changed a.0 (λ one durable i. i) a.1) (up (is_up (w.nodes n)) clear.1.0) (none_free w.links) (λ l e. cc) in
        (ends_lawful n gone (down_lines n None w) d.ends (down_closes n None w) (λ c. ap (λ b. if b then false else r.conn_at n c) (eq-eqb n n refl)) d.dialed, d.agrees)
