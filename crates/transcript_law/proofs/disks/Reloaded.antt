-- a node that is loaded: what agreed while it was down agrees
use Rattle.std.specs.Prelude.{◌≡◌, ◌∷◌, if◌then◌else◌, option_map}
use Rattle.transcript_law.proofs.Words.{ℕ, Bool, true, false, List, [], refl, ap, sym, ◌∙◌, subst, ⊎_elim, Option, Some, None, eq-eqb, ne_eqb, is_some, length, Cluster, Plain, PlainLink, PlainNode, PlainWorld, consumer_node, producer_node, shelf_in, vb_in, with_node_at, Chronicle}
use Rattle.transcript_law.proofs.{invariant.Agreement.{clock_of, AgreesAt, AgreesIn, AwayAt, BookBy, BookAgrees, DiskIsIf, DownHolds, IsArm, IsLink, LinkAgrees, PowerIs, PowerIsIf, RestsIn, book_in, idle, is_down, is_running, power_of, shelf_of, vb_of}, disks.Burning.{burns, opened_all}, invariant.Carried.{as_near, kept_same, link_carried, numbers}}
use Rattle.transcript_law.proofs.{disks.Disks.{AwayAgrees, power_in}, disks.Reloading.{loaded_is, loaded_shelf}, invariant.Seats.{seat}, disks.Shelving.{count_listed, loaded_at, loaded_of, opened_at_number}, invariant.Tables.{id_here, id_there}}
use Rattle.cluster_model.specs.Clusters.{Disk}
use Rattle.disk_journals.specs.Arms.{opens_all}
use Rattle.disk_journals.specs.Books.{Book, listed, opened_shelves}
use Rattle.node_core.specs.Loading.{loaded_states}
use Rattle.node_world.specs.Power.{burnt_arm, loaded_node}
use Rattle.node_world.specs.declared.arm.Arm.{Arm}
use Rattle.transcript_law.specs.Chronicles.{ArmKnown, after_calls, after_up, disks_of, spent}
use Rattle.vb_calls.specs.Shelves.{Shelf, blank_shelf, open_shelf}
use Rattle.vb_types.specs.declared.journal.Record.{Record}
use Rattle.transcript_law.proofs.invariant.{Carried.{all_there as all_fed}, ClientsKept.{ConnsKept, OfOthers, clients_gone, goes_same, others_owed, spot_at, spot_same}, Owed.{Fewer}}
use Rattle.transcript_law.specs.Feeding.{client_in}
use Rattle.transcript_law.proofs.invariant.Owing.{later_same}

module _ (w : PlainWorld) (r : Chronicle) (c : Cluster) (n : ℕ) (node : PlainNode) (books : List Book) (a : AgreesIn idle w r c) (known : w.nodes n ≡ Some node) (down : node.off ≡ Some books) where
  abbrev count : ℕ
  count = length books

  abbrev arm : Arm
  arm = burnt_arm count node.arm

  abbrev node' : PlainNode
  node' = loaded_node n books arm

  abbrev w' : PlainWorld
  w' = with_node_at w n node'

  abbrev r' : Chronicle
  r' = after_up n (after_calls count n r)

  here : w'.nodes n ≡ Some node'
  here = ap (λ b. if b then Some node' else w.nodes n) (eq-eqb n n refl)

  there : (m : ℕ) → (m ≡ n → ⊥) → w'.nodes m ≡ w.nodes m
  there m ne = ap (λ b. if b then Some node' else w.nodes m) (ne_eqb m n ne)

  -- what holds of the node, and of the others
  by_node : (P : ℕ → Option PlainNode → Type 0) → P n (Some node') → ((m : ℕ) → (m ≡ n → ⊥) → P m (w.nodes m)) → (m : ℕ) → P m (w'.nodes m)
  by_node P at others m = ⊎_elim (λ e. subst (λ k. P k (w'.nodes k)) (sym e) (subst (P n) (sym here) at)) (λ ne. subst (P m) (sym (there m ne)) (others m ne)) (numbers m n)

  power : power_of w n ≡ Some (record { arm = node.arm; off = Some books; clock = node.clock })
  power = ap power_in known ∙ ap (λ o. Some (record { arm = node.arm; off = o; clock = node.clock })) down

  pub was_down : is_down (power_of w n) ≡ true
  was_down = ap is_down power

  was_off : is_running (power_of w n) ≡ false
  was_off = ap is_running power

  pub arm_is : PowerIs (r.arm_at n) (record { arm = node.arm; off = Some books; clock = node.clock })
  arm_is = subst (PowerIsIf (r.arm_at n)) power (a.powers n)

  pub so : books ≡ listed (book_in books)
  so = arm_is.listed_so books refl

  none : (v : ℕ) → vb_of w n v ≡ None
  none v = (a.downs n v).vb_none was_down

  no_shelf : (v : ℕ) → shelf_of w n v ≡ None
  no_shelf v = (a.downs n v).shelf_none was_down

  pub book : (v : ℕ) → BookBy (Some books) v (shelf_of w n v) (r.disk_at n v) (c.disks (seat n v))
  book v = subst (λ p. BookAgrees p v (shelf_of w n v) (r.disk_at n v) (c.disks (seat n v))) power (a.aways n v (none v)).book

  -- each disk is opened by one call
  pub all_there : disks_of r n ≡ count
  all_there = sym (ap length so ∙ count_listed (book_in books) (λ v. (r.disk_at n v).there) (λ v. ap is_some (book v).0 ∙ told_there (r.disk_at n v).there (c.disks (seat n v)).book))
    where
      told_there : (b : Bool) (js : List Record) → is_some (if b then Some js else None) ≡ b
      told_there true js = refl
      told_there false js = refl

  module _ (opens : opens_all node.arm.fuse (length books) ≡ true) where
    -- ---- its vBuckets

    -- a vBucket that is loaded, or is not there, and its journal
    record LoadsAt (v : ℕ) (o : Option Plain) (s : Option Shelf) : Type 0 where
      pub vb : AgreesAt r n v (c.nodes (seat n v)) o
      pub disk : DiskIsIf (r.disk_at n v) (c.disks (seat n v)) s o
      pub away : o ≡ None → AwayAt (power_in (Some node')) v s (r.role_at n v) (r.disk_at n v) (c.nodes (seat n v)) (c.disks (seat n v))

    module _ (v : ℕ) where
      abbrev d : Disk
      d = c.disks (seat n v)

      pub away_disk : AwayAgrees (r.disk_at n v) d
      away_disk = subst (λ s. DiskIsIf (r.disk_at n v) d s None) (no_shelf v) (subst (DiskIsIf (r.disk_at n v) d (shelf_of w n v)) (none v) (a.disks n v))

      -- where no record stands
      unmade : (s : Option Shelf) → d.book ≡ [] → (r.disk_at n v).there ≡ is_some s → DiskIsIf (r.disk_at n v) d s None → LoadsAt v None s
      unmade s empty is disk = let x = a.aways n v (none v) in record {
        vb = subst (AgreesAt r n v (c.nodes (seat n v))) (none v) (a.vbs n v);
        disk = disk;
        away = λ e. record { position = x.position; log = x.log; role = x.role; book = (empty, is) };
      }

      by : (b : Bool) (js : List Record) → (r.disk_at n v).there ≡ b → d.book ≡ js → LoadsAt v (loaded_of n (if b then Some js else None)) (option_map open_shelf (if b then Some js else None))
      by false js e is = unmade None ((book v).1 e) e away_disk
      by true [] e is = unmade (Some blank_shelf) is e (away_disk, is, refl)
      by true (last ∷ older) e is = record {
        vb = loaded_is w r c n v a (none v) (no_shelf v) last older is;
        disk = loaded_shelf w r c n v a (none v) (no_shelf v) last older is e;
        away = λ q. cc;
      }

      loads : LoadsAt v (loaded_states n books v) (opened_shelves books v)
      loads = subst (λ o. LoadsAt v o (opened_shelves books v)) (sym (loaded_at n books so v))
          (subst (λ s. LoadsAt v (loaded_of n (book_in books v)) s) (sym (opened_at_number books v))
          (subst (λ o. LoadsAt v (loaded_of n o) (option_map open_shelf o)) (sym (book v).0) (by (r.disk_at n v).there d.book refl refl)))

    -- ---- all else

    apart : (x : PlainLink) → IsLink x w.links → (producer_node x ≡ n → ⊥) × (consumer_node x ≡ n → ⊥)
    apart x i =
        let e = a.ends x i in (
          (λ s. let z : false ≡ true = sym was_off ∙ ap (λ k. is_running (power_of w k)) (sym s) ∙ e.producer in cc),
          (λ s. let z : true ≡ false = sym was_down ∙ ap (λ k. is_down (power_of w k)) (sym s) ∙ e.consumer in cc),
        )

    vb_there : (m v : ℕ) → (m ≡ n → ⊥) → vb_of w' m v ≡ vb_of w m v
    vb_there m v ne = ap (λ o. vb_in o v) (there m ne)

    linked : (x : PlainLink) → IsLink x w.links → LinkAgrees w' r' c x [] []
    linked x i = let p = apart x i in link_carried w w' r r' c c x [] [] (λ fv e. (fv, vb_there (consumer_node x) x.consumer.dialed.vb p.1 ∙ e, kept_same fv)) refl refl refl refl refl
        (λ q k s e feeds opened has. (q, vb_there (producer_node x) x.consumer.dialed.vb p.0 ∙ e, refl, opened, refl, λ dead. refl, as_near)) (a.links x i)

    abbrev burnt : ArmKnown
    burnt = record (r.arm_at n) { fuse = spent count (r.arm_at n).fuse }

    abbrev counted : ℕ → ArmKnown
    counted = (after_calls count n r).arm_at

    pub arm_here : r'.arm_at n ≡ record burnt { down = false }
    arm_here = id_here counted n (record (counted n) { down = false }) ∙ ap (λ (t : ArmKnown). record t { down = false }) (id_here r.arm_at n burnt)

    arm_there : (m : ℕ) → (m ≡ n → ⊥) → r'.arm_at m ≡ r.arm_at m
    arm_there m ne = id_there counted n (record (counted n) { down = false }) m (λ e. ne (sym e)) ∙ id_there r.arm_at n burnt m (λ e. ne (sym e))

    power_now : PowerIsIf (r'.arm_at n) (power_in (Some node'))
    power_now = subst (λ t. PowerIsIf t (power_in (Some node'))) (sym arm_here) (record {
      fuse = ap (spent count) arm_is.fuse ∙ sym (burns count node.arm.fuse arm_is.may_fire);
      out = arm_is.out;
      down = refl;
      zero = λ bs e. refl;
      may_fire = subst IsArm (sym (burns count node.arm.fuse arm_is.may_fire)) (opened_all count node.arm.fuse arm_is.may_fire opens).arm;
      listed_so = λ bs e. cc;
    })

    rests : RestsIn w' r' c
    rests = record {
      powers = by_node (λ m o. PowerIsIf (r'.arm_at m) (power_in o)) power_now
          (λ m ne. subst (λ t. PowerIsIf t (power_of w m)) (sym (arm_there m ne)) (a.powers m));
      clocks = by_node (λ m o. r'.clock_at m ≡ clock_of (power_in o)) (a.clocks n ∙ ap clock_of power ∙ arm_is.zero books refl) (λ m ne. a.clocks m);
      aways = λ m v. by_node (λ m o. vb_in o v ≡ None → AwayAt (power_in o) v (shelf_in o v) (r.role_at m v) (r.disk_at m v) (c.nodes (seat m v)) (c.disks (seat m v))) (loads v).away (λ m ne. a.aways m v) m;
      downs = λ m v. by_node (λ m o. DownHolds (power_in o) (vb_in o v) (shelf_in o v)) (record { vb_none = λ e. cc; shelf_none = λ e. cc }) (λ m ne. a.downs m v) m;
      ends = λ x i. let e = a.ends x i in let p = apart x i in
          record { producer = ap (λ o. is_running (power_in o)) (there (producer_node x) p.0) ∙ e.producer; consumer = ap (λ o. is_down (power_in o)) (there (consumer_node x) p.1) ∙ e.consumer; number = e.number };
      small = a.small;
    }

    -- it has no clients
    conns : ConnsKept (OfOthers n) w w' r r'
    conns = record {
      conns = λ m d ne. ap (λ o. client_in o d) (there m ne);
      known = λ m d ne. refl;
      opens = λ m d v id ne has. goes_same (spot_at w r m v) (spot_at w' r' m v) id (spot_same w w' r r' m v refl refl (vb_there m v ne));
    }

    -- and nothing waits at what is loaded
    loaded_fewer : (o : Option Plain) (b : Option (List Record)) → Fewer o (loaded_of n b)
    loaded_fewer o None x p owing = absurd owing
    loaded_fewer o (Some []) x p owing = absurd owing
    loaded_fewer o (Some (last ∷ older)) x p owing = absurd owing.1.among

    fewer : (m v : ℕ) → Fewer (vb_of w m v) (vb_of w' m v)
    fewer m v = by_node (λ k o. Fewer (vb_of w k v) (vb_in o v)) (subst (Fewer (vb_of w n v)) (sym (loaded_at n books so v)) (loaded_fewer (vb_of w n v) (book_in books v))) (λ k ne x p o. o) m

    -- the node runs again, and no link has an end at it
    pub reloaded : AgreesIn idle w' r' c
    reloaded = record {
      sound = a.sound;
      vbs = λ m v. by_node (λ m o. AgreesAt r m v (c.nodes (seat m v)) (vb_in o v)) (loads v).vb (λ m ne. a.vbs m v) m;
      disks = λ m v. by_node (λ m o. DiskIsIf (r.disk_at m v) (c.disks (seat m v)) (shelf_in o v) (vb_in o v)) (loads v).disk (λ m ne. a.disks m v) m;
      branches = a.branches;
      links = linked;
      differ = a.differ;
      clients = clients_gone w w' r r' n a.clients (all_fed idle w r c a) conns (λ d. ap (λ o. client_in o d) here) (λ l m v id has. has)
          (others_owed w w' r r' n conns (λ d. ap (λ o. client_in o d) here) (later_same _ _ refl refl) fewer a.clients.owed);
      rests = rests;
    }

    pub no_ends : (x : PlainLink) → IsLink x w.links → (producer_node x ≡ n → ⊥) × (consumer_node x ≡ n → ⊥)
    no_ends = apart
