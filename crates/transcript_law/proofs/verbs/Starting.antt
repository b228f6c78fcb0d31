-- the line `start`: a node that is down opens its disks, loads, and each vBucket that was active takes a new branch
use Rattle.std.specs.Prelude.{◌≡◌, ◌+◌, ◌*◌, ◌<◌, ◌≤◌, ◌∷◌, ◌==◌, ◌&&◌, ◌^◌, if◌then◌else◌, nat_lt, option_map}
use Rattle.transcript_law.proofs.Words.{ℕ, Bool, true, false, List, [], refl, ap, sym, ◌∙◌, subst, arith, inl, ⊎_elim, All, Option, Some, None, not, is_some, length, map, filter, ltb-false, Answer, Role, Cause, Chronicle, Cluster, Event, PlainNode, PlainWorld, Outcome, LawfulFrom}
use Rattle.transcript_law.proofs.Words.{after_line, after_lines, first_cause, is_active, is_one_of, done, refusal, refused_or, with_branches, with_id, with_node_at, node_outcome}
use Rattle.transcript_law.proofs.{invariant.Agreement.{Agrees, AgreesIn, IsArm, LineGoes, PowerIs, PowerIsIf, book_in, idle}, disks.Burning.{Fires, Passes, burns, fails_more, opened_all, opened_hit, stops_more}, verbs.NodeLines.{more_used}, invariant.Rearming.{rearmed, told_arm, with_arm_told}, disks.Crashed.{crash_all}, verbs.Crashing.{stopped_agrees}, disks.Disks.{bare, power_in}, disks.Reloaded.{all_there, arm_here, arm_is, away_disk, book, no_ends, reloaded, so}, invariant.Seats.{seat}, verbs.Settling.{Steady}}
use Rattle.transcript_law.proofs.{disks.Reloading.{loaded_rests, loaded_unpended}, verbs.Restarting.{fails_to, stops_to}, disks.Shelving.{loaded_at, loaded_of, opened_at_number}, verbs.StartIds.{active_at, active_listed, apart_zip, differ_active, each_active, free_zip, made_zip, ready_zip, was_active_in, zip_long, Each, AllDiffer}}
use Rattle.transcript_law.proofs.{verbs.StartRuns.{AllMake, Crashes, Ended, Ready, Started, all_start, behind_is, calls_behind}, verbs.StartTold.{AreStarts, calls_before, arms_behind_starts, same_disks, told_by, up_each}, invariant.Tables.{id_here}}
use Rattle.transcript_law.proofs.indexers.Beside.{beside}
use Rattle.branch_model.specs.Journals.{role_of}
use Rattle.disk_journals.specs.Arms.{opens_all}
use Rattle.cluster_model.specs.Clusters.{Disk}
use Rattle.disk_journals.proofs.Numbers.{lists_all}
use Rattle.disk_journals.specs.Books.{Book, below, listed}
use Rattle.std.proofs.lemmas.Bool.{ltb-true}
use Rattle.journal_points.specs.Points.{or_dead, saved}
use Rattle.node_core.specs.Loading.{active_ones, are_short, loaded_by, starts_of}
use Rattle.node_world.specs.Arms.{fired_by, no_arm as unarmed}
use Rattle.node_world.specs.Power.{Starting, any_used, burnt_arm, loaded_node, not_opened, opened_at, opening_told, start_at, start_books, start_if, start_step, starts_from}
use Rattle.node_world.specs.Worlds.{is_up, on_made}
use Rattle.node_world.specs.declared.arm.Arm.{Arm}
use Rattle.node_world.specs.declared.arm.Fired.{Fired}
use Rattle.node_world.specs.declared.arm.Fired.TheVariants as fired
use Rattle.node_world.specs.declared.told.Told.{Told}
use Rattle.transcript_law.specs.Chronicles.{ArmKnown, DiskKnown, after_calls, after_openings, after_restarts, after_start, after_stop, after_up, disks_of, known_down, finds, is_off, spent}
use Rattle.transcript_law.specs.Firings.{FiresAsSaid}
use Rattle.transcript_law.specs.Lawfulness.{IsToFail, IsToStop}
use Rattle.transcript_law.specs.LineAnswers.{AllBranch, FailsIn, IsStarted, PassesIn, StopsIn, MakesBranch, calls_of_start, is_role_active, was_active, were_active}
use Rattle.vb_calls.specs.Shelves.{open_shelf}
use Rattle.vb_disk.specs.declared.fuse.Fuse.{Fuse}
use Rattle.vb_disk.specs.declared.fuse.Fuse.TheVariants.{Off}
use Rattle.vb_events.specs.declared.event.Answer.TheVariants as answer
use Rattle.vb_events.specs.declared.event.Cause.TheVariants as cause
use Rattle.vb_types.specs.declared.journal.Record.{Record}
use Rattle.vb_types.specs.declared.journal.Record.TheVariants as noted
use Rattle.vb_types.specs.declared.role.Role.TheVariants as role

-- a table in which one number is put twice
id_twice : {A : Type 0} (table : ℕ → A) (n : ℕ) (x y : A) → with_id (with_id table n x) n y ≡ with_id table n y
id_twice table n x y = λ i m. (elim (m == n) as (λ b. (if b then y else (if b then x else table m)) ≡ (if b then y else table m)) [ true ↦ refl | false ↦ refl ]) i

module _ (r : Chronicle) (n : ℕ) (lines : List Event) (are : AreStarts lines) where
  abbrev opened : Chronicle
  opened = after_calls (disks_of r n) n r

  abbrev f : Fuse
  f = (r.arm_at n).fuse

  -- what the line tells beside its lines, where it touched a disk
  openings_told : (said : Answer) → after_openings ((after_lines r lines).arm_at n).fuse (after_calls (disks_of (after_lines r lines) n) n (after_lines r lines)) n lines said ≡ after_openings f (after_lines opened lines) n lines said
  openings_told said =
      (λ i. after_openings (arms_behind_starts r lines are i n).fuse (after_calls (length (filter (λ v. (same_disks r lines are i n v).there) (below 1024))) n (after_lines r lines)) n lines said)
      ∙ ap (λ x. after_openings f x n lines said) (calls_before (disks_of r n) n r lines are)

  fuse_is : ((after_lines opened lines).arm_at n).fuse ≡ spent (disks_of r n) f
  fuse_is = ap (λ (t : ℕ → ArmKnown). (t n).fuse) (arms_behind_starts opened lines are) ∙ ap (λ (t : ArmKnown). t.fuse) (id_here r.arm_at n (record (r.arm_at n) { fuse = spent (disks_of r n) f }))

  -- all were opened
  not_off : (is_off (spent (disks_of r n) f) && not (is_off f)) ≡ false → (is_off ((after_lines opened lines).arm_at n).fuse && not (is_off f)) ≡ false
  not_off e = ap (λ g. is_off g && not (is_off f)) fuse_is ∙ e

  abbrev hit : Chronicle
  hit = record (after_lines opened lines) { arm_at = with_id (after_lines opened lines).arm_at n known_down }

  -- the node runs before its branches are told, or after
  run_each : after_restarts (after_up n (after_lines opened lines)) lines ≡ told_by (after_up n opened) lines
  run_each = up_each n opened lines are

  pub ran_told : (is_off (spent (disks_of r n) f) && not (is_off f)) ≡ false → after_start (after_lines r lines) n lines answer.Ok ≡ told_by (after_up n opened) lines
  ran_told e = openings_told answer.Ok ∙ ap (λ b. if b then hit else after_restarts (after_up n (after_lines opened lines)) lines) (not_off e) ∙ run_each

  pub failed_told : (is_off (spent (disks_of r n) f) && not (is_off f)) ≡ false → after_start (after_lines r lines) n lines (answer.No cause.Disk) ≡ told_by (after_up n opened) lines
  failed_told e = openings_told (answer.No cause.Disk) ∙ ap (λ b. if b then hit else after_restarts (after_up n (after_lines opened lines)) lines) (not_off e) ∙ run_each

  pub stopped_told : (is_off (spent (disks_of r n) f) && not (is_off f)) ≡ false → after_start (after_lines r lines) n lines (answer.No cause.Stopped) ≡ after_stop (told_by (after_up n opened) lines) n
  stopped_told e = openings_told (answer.No cause.Stopped) ∙ ap (λ b. if b then hit else after_stop (after_restarts (after_up n (after_lines opened lines)) lines) n) (not_off e) ∙ ap (λ x. after_stop x n) run_each

-- a node that is made and is not running has disks
at_made : (P : Outcome → Type 0) (w : PlainWorld) (n : ℕ) (uuids : List ℕ)
    → ((node : PlainNode) (books : List Book) → w.nodes n ≡ Some node → node.off ≡ Some books → P (with_node_at w n (start_books n uuids books node).0, (start_books n uuids books node).1))
    → (o : Option PlainNode) → w.nodes n ≡ o → not (is_some o) ≡ false → is_up o ≡ false → P (node_outcome w n (refusal cause.UnknownNode) o (start_at n uuids))
at_made P w n uuids goes None known there down = let z : true ≡ false = there in cc
at_made P w n uuids goes (Some node) known there down = by node.off refl down
  where
    by : (o : Option (List Book)) → node.off ≡ o → not (is_some o) ≡ false → P (with_node_at w n (start_if n uuids node o).0, (start_if n uuids node o).1)
    by None e off = let z : true ≡ false = off in cc
    by (Some books) e off = goes node books known e

-- a node that is not made is not told down, nor is one that runs
absent_told : (told : ArmKnown) (o : Option PlainNode) → PowerIsIf told (power_in o) → not (is_some o) ≡ true → told.down ≡ false
absent_told told None p e = ap (λ (t : ArmKnown). t.down) p
absent_told told (Some node) p e = let z : false ≡ true = e in cc

running_told : (told : ArmKnown) (o : Option PlainNode) → PowerIsIf told (power_in o) → is_up o ≡ true → told.down ≡ false
running_told told None p e = ap (λ (t : ArmKnown). t.down) p
running_told told (Some node) p e = p.down ∙ by (is_some node.off) e
  where
    by : (b : Bool) → not b ≡ true → b ≡ false
    by true x = let z : false ≡ true = x in cc
    by false x = refl

-- the last role of records as lines tell them
bare_role_of : (js : List Record) → role_of (map bare js) ≡ role_of js
bare_role_of [] = refl
bare_role_of (noted.State said log ∷ older) = refl
bare_role_of (noted.Rows b ∷ older) = bare_role_of older
bare_role_of (noted.Roll to ∷ older) = bare_role_of older

-- a vBucket of which a role is told is active by the same words
role_active : (o : Option Role) → is_active (or_dead o) ≡ is_role_active o
role_active None = refl
role_active (Some role.Active) = refl
role_active (Some role.Replica) = refl
role_active (Some role.Pending) = refl
role_active (Some role.Dead) = refl

module _ (steady : Steady) (crashes : Crashes) (w : PlainWorld) (r : Chronicle) (n : ℕ) (uuids : List ℕ) (small : All (λ u. u < 2 ^ 64) uuids) (c : Cluster) (a : AgreesIn idle w r c) where
  -- what the line comes to, and that its answer is lawful, and says what it tells of arms
  abbrev pub Goes : Outcome → Type 0
  Goes o = LineGoes r (λ told. after_start told n o.1.events o.1.answer) o × IsStarted r n uuids o.1.events o.1.answer × FiresAsSaid (Some n) o.1.events o.1.answer

  module _ (node : PlainNode) (books : List Book) (known : w.nodes n ≡ Some node) (down : node.off ≡ Some books) where
    abbrev count : ℕ
    count = length books

    abbrev fuse : Fuse
    fuse = node.arm.fuse

    power : PowerIs (r.arm_at n) (record { arm = node.arm; off = Some books; clock = node.clock })
    power = arm_is w r c n node books a known down

    disks : disks_of r n ≡ count
    disks = all_there w r c n node books a known down

    -- the first calls of the start
    first_calls : count ≤ calls_of_start r n
    first_calls = omega (arith, disks)

    -- an arm fired, or not, while the disks were opened
    fired_so : (b : Bool) → (is_off (spent count fuse) && not (is_off fuse)) ≡ b → (is_off (spent (disks_of r n) (r.arm_at n).fuse) && not (is_off (r.arm_at n).fuse)) ≡ b
    fired_so b e = (λ i. is_off (spent (disks i) (power.fuse i)) && not (is_off (power.fuse i))) ∙ e

    abbrev at : PlainNode × Told → Outcome
    at x = (with_node_at w n x.0, x.1)

    -- ---- one is hit

    abbrev hit_all : Chronicle
    hit_all = record (after_calls (disks_of r n) n r) { arm_at = with_id (after_calls (disks_of r n) n r).arm_at n known_down }

    abbrev still_down : PlainNode
    still_down = record node { arm = unarmed }

    down_again : Agrees (with_node_at w n still_down) hit_all
    down_again = subst (Agrees (with_node_at w n still_down)) (ap (λ t. record r { arm_at = t }) ((λ i. with_id r.arm_at n (record known_down { down = power.down i })) ∙ sym (id_twice r.arm_at n (record (r.arm_at n) { fuse = spent (disks_of r n) (r.arm_at n).fuse }) known_down))) (rearmed w r n node unarmed known tt (c, a))

    module _ (x : Fires count fuse) where
      off_now : (is_off ((after_calls (disks_of r n) n r).arm_at n).fuse && not (is_off (r.arm_at n).fuse)) ≡ true
      off_now = ap (λ g. is_off g && not (is_off (r.arm_at n).fuse)) (fuse_is r n [] tt) ∙ fired_so true x.off_now

      abbrev Missed : Fired → Type 0
      Missed k = Goes (at (still_down, opening_told n k))

      failed_so : after_start r n (Event.CallFailed n ∷ []) (answer.No cause.Disk) ≡ hit_all
      failed_so = ap (λ b. if b then hit_all else after_restarts (after_up n (after_calls (disks_of r n) n r)) (Event.CallFailed n ∷ [])) off_now

      -- its connections end with it
      abbrev ends : Chronicle
      ends = after_line r (Event.NodeStopped n)

      abbrev hit_ends : Chronicle
      hit_ends = record hit_all { conn_at = ends.conn_at }

      stopped_so : after_start ends n (Event.NodeStopped n ∷ []) (answer.No cause.Stopped) ≡ hit_ends
      stopped_so = ap (λ b. if b then hit_ends else after_stop (after_restarts (after_up n (after_calls (disks_of r n) n ends)) (Event.NodeStopped n ∷ [])) n) off_now

      missed_failed : FailsIn count fuse → Missed fired.Failed
      missed_failed h = (
        (
          (subst IsToFail (sym power.fuse) (fails_to count fuse h), tt),
          more_used (with_node_at w n still_down) (after_start r n (Event.CallFailed n ∷ []) (answer.No cause.Disk)) [] (subst (Agrees (with_node_at w n still_down)) (sym failed_so) down_again),
        ),
        fails_more count (calls_of_start r n) (r.arm_at n).fuse first_calls (subst (FailsIn count) (sym power.fuse) h),
        refl,
      )

      missed_stopped : StopsIn count fuse → Missed fired.Stopped
      missed_stopped h = (
        (
          (subst IsToStop (sym power.fuse) (stops_to count fuse h), tt),
          more_used (with_node_at w n still_down) (after_start ends n (Event.NodeStopped n ∷ []) (answer.No cause.Stopped)) []
              (subst (Agrees (with_node_at w n still_down)) (sym stopped_so) (down_again.0, beside (with_node_at w n still_down) hit_all ends.conn_at hit_all.made hit_all.ticks hit_all.changed down_again.0 (λ one durable i. i) down_again.1)),
        ),
        stops_more count (calls_of_start r n) (r.arm_at n).fuse first_calls (subst (StopsIn count) (sym power.fuse) h),
        refl,
      )

      not_opened_goes : Missed (fired_by fuse Off)
      not_opened_goes = ⊎_elim {C = Missed (fired_by fuse Off)} (λ h. subst Missed (sym h.1) (missed_failed h.0)) (λ h. subst Missed (sym h.1) (missed_stopped h.0)) x.how

    -- ---- all are opened
    module _ (opens : opens_all fuse count ≡ true) where
      abbrev arm : Arm
      arm = burnt_arm count node.arm

      passes : Passes count fuse
      passes = opened_all count fuse power.may_fire opens

      quiet : (is_off (spent (disks_of r n) (r.arm_at n).fuse) && not (is_off (r.arm_at n).fuse)) ≡ false
      quiet = fired_so false passes.off_before

      spent_is : with_arm_told r n (told_arm arm) ≡ after_calls (disks_of r n) n r
      spent_is = λ i. record r { arm_at = with_id r.arm_at n (record { fuse = (burns count fuse power.may_fire ∙ (λ j. spent (sym disks j) (sym power.fuse j))) i; out = sym power.out i; down = (r.arm_at n).down }) }

      books_so : books ≡ listed (book_in books)
      books_so = so w r c n node books a known down

      -- those that were active are told
      abbrev d_at : ℕ → Disk
      d_at v = c.disks (seat n v)

      role_same : (v : ℕ) → role_of (r.disk_at n v).book ≡ role_of (d_at v).book
      role_same v = ap (λ (x : DiskKnown). role_of x.book) (away_disk w r c n node books a known down opens v).told_is ∙ bare_role_of (d_at v).book

      active_same : (v : ℕ) → was_active_in (book_in books v) ≡ was_active (r.disk_at n v)
      active_same v = by (r.disk_at n v).there refl
        where
          by : (b : Bool) → (r.disk_at n v).there ≡ b → was_active_in (book_in books v) ≡ was_active (r.disk_at n v)
          by b e = ap was_active_in ((book w r c n node books a known down v).0 ∙ ap (λ x. if x then Some (d_at v).book else None) e) ∙ in_book b e ∙ sym (ap is_role_active (role_same v))
            where
              in_book : (x : Bool) → (r.disk_at n v).there ≡ x → was_active_in (if x then Some (d_at v).book else None) ≡ is_role_active (role_of (d_at v).book)
              in_book true y = role_active (role_of (d_at v).book)
              in_book false y = sym (ap (λ js. is_role_active (role_of js)) ((book w r c n node books a known down v).1 y))

      active_all : length (active_ones books) ≡ were_active r n
      active_all = ap (λ bs. length (active_ones bs)) books_so ∙ ap length (active_listed (book_in books)) ∙ ap (λ k. length (filter (λ v. was_active_in (book_in books v)) (below k))) lists_all.numbers
          ∙ (λ i. length (filter (λ v. active_same v i) (below 1024)))

      -- the arm passes the openings
      opened_past : PassesIn count (r.arm_at n).fuse
      opened_past = subst (PassesIn count) (sym power.fuse) passes.beyond

      -- there are too few ids
      short_goes : nat_lt (length uuids) (length (active_ones books)) ≡ true → Goes (at (record node { arm = arm }, refusal cause.IdsShort))
      short_goes short = (
        (
          tt,
          more_used (with_node_at w n (record node { arm = arm })) (after_start r n [] (answer.No cause.IdsShort)) []
              (subst (Agrees (with_node_at w n (record node { arm = arm }))) (spent_is ∙ sym (ap (λ b. if b then record (after_calls (disks_of r n) n r) { arm_at = with_id (after_calls (disks_of r n) n r).arm_at n known_down } else after_calls (disks_of r n) n r) still))
              (rearmed w r n node arm known (subst IsArm (sym (burns count fuse power.may_fire)) passes.arm) (c, a))),
        ),
        (
          refl,
          subst (λ k. length uuids < k) active_all (ltb-true (length uuids) (length (active_ones books)) short),
          subst (λ k. PassesIn k (r.arm_at n).fuse) (sym disks) opened_past,
        ),
        refl,
      )
        where
          still : (is_off ((after_calls (disks_of r n) n r).arm_at n).fuse && not (is_off (r.arm_at n).fuse)) ≡ false
          still = ap (λ g. is_off g && not (is_off (r.arm_at n).fuse)) (fuse_is r n [] tt) ∙ quiet

      -- ---- the node is loaded

      abbrev loaded : PlainNode
      loaded = loaded_node n books arm

      abbrev starts : List (ℕ × ℕ)
      starts = starts_of books uuids

      ready : (v : ℕ) → was_active_in (book_in books v) ≡ true → Ready loaded v
      ready v = by (book_in books v) refl
        where
          by : (o : Option (List Record)) → book_in books v ≡ o → was_active_in o ≡ true → Ready loaded v
          by None e x = let z : false ≡ true = x in cc
          by (Some []) e x = let z : false ≡ true = x in cc
          by (Some (last ∷ older)) e x = record {
            vb = loaded_by n (saved (last ∷ older));
            there = loaded_at n books books_so v ∙ ap (loaded_of n) e;
            rests = loaded_rests (or_dead (role_of (last ∷ older)));
            sealed = (refl, loaded_unpended (or_dead (role_of (last ∷ older))) x);
            shelf = open_shelf (last ∷ older);
            kept = opened_at_number books v ∙ ap (option_map open_shelf) e;
            opens = refl;
          }

      started : any_used w.uuids uuids ≡ false → is_one_of 0 uuids ≡ false → Started steady crashes w n (no_ends w r c n node books a known down opens) starts w.uuids (done []) count r (after_up n (after_calls count n r)) (starts_from n starts (loaded, done []))
      started free nonzero = all_start steady crashes w n (no_ends w r c n node books a known down opens) starts loaded w.uuids (done []) count r (after_up n (after_calls count n r)) (c, reloaded w r c n node books a known down opens) (refl, λ d. refl)
          (ready_zip loaded (active_ones books) uuids (subst (λ bs. Each (Ready loaded) (active_ones bs)) (sym books_so) (each_active (book_in books) (Ready loaded) ready)))
          (apart_zip (active_ones books) uuids (subst (λ bs. AllDiffer (active_ones bs)) (sym books_so) (differ_active (book_in books))))
          (free_zip w.uuids (active_ones books) uuids free nonzero small)
          (record {
            reads = record { last = refl; tree = refl; branch = refl; held = refl; writer = refl; role = refl; counts = refl; log = refl; snap = refl; saved = λ m q. refl; clients = refl; made = refl; clock = refl; ticks = refl; conns = refl; changed = refl };
            down = power.down;
            spends = ap (λ (t : ArmKnown). t.fuse) (arm_here w r c n node books a known down opens);
          })
          (inl (refl, refl, opened_past))

      -- all calls: of each vBucket that was active the record is appended
      all_calls : nat_lt (length uuids) (length (active_ones books)) ≡ false → calls_behind count starts ≡ calls_of_start r n
      all_calls enough =
          behind_is count starts ∙ (λ i. sym disks i + 4 * (zip_long (active_ones books) uuids (ltb-false (length uuids) (length (active_ones books)) enough) ∙ active_all) i)

      -- ---- and it starts

      abbrev came : Starting
      came = starts_from n starts (loaded, done [])

      -- each of those that were active is among the starts
      all_branch : (lines : List Event) → nat_lt (length uuids) (length (active_ones books)) ≡ false → AllMake n starts lines → AllBranch r n lines
      all_branch lines enough make v active =
          active_at (book_in books) (λ u. MakesBranch n u lines) v (there_is.0) there_is.1
          (subst (λ bs. Each (λ u. MakesBranch n u lines) (active_ones bs)) books_so (made_zip n (active_ones books) uuids lines (ltb-false (length uuids) (length (active_ones books)) enough) make))
        where
          told_role : role_of (map bare (c.disks (seat n v)).book) ≡ Some role.Active
          told_role = ap (λ (d : DiskKnown). role_of d.book) (sym (away_disk w r c n node books a known down opens v).told_is) ∙ active

          by : (b : Bool) → (r.disk_at n v).there ≡ b → (v < 1024) × (was_active_in (book_in books v) ≡ true)
          by false e = let z : None ≡ Some role.Active = ap (λ js. role_of (map bare js)) (sym ((book w r c n node books a known down v).1 e)) ∙ told_role in cc
          by true e = (a.small n v e, ap was_active_in ((book w r c n node books a known down v).0 ∙ ap (λ b. if b then Some (c.disks (seat n v)).book else None) e) ∙ ap (λ o. is_active (or_dead o)) (sym (bare_role_of (c.disks (seat n v)).book) ∙ told_role))

          there_is : (v < 1024) × (was_active_in (book_in books v) ≡ true)
          there_is = by (r.disk_at n v).there refl

      -- what was told, by how it came out
      abbrev Out : List Event → Answer → Type 0
      Out lines said = Agrees (with_branches lines (with_node_at w n came.0)) (after_start (after_lines r lines) n lines said) × IsStarted r n uuids lines said

      out_is : (lines : List Event) (said : Answer) → AreStarts lines → nat_lt (length uuids) (length (active_ones books)) ≡ false → (said ≡ answer.Ok → AllMake n starts lines)
          → Ended r n (calls_behind count starts) said (with_branches lines (with_node_at w n came.0)) (told_by (after_up n (after_calls count n r)) lines) → Out lines said
      out_is lines said are enough make (Ended.Runs e p y) = subst (Out lines) (sym e) (
        subst (Agrees (with_branches lines (with_node_at w n came.0))) (sym (ran_told r n lines are quiet ∙ ap (λ d. told_by (after_up n (after_calls d n r)) lines) disks)) y,
        (all_branch lines enough (make e), subst (λ k. PassesIn k (r.arm_at n).fuse) (all_calls enough) p),
      )
      out_is lines said are enough make (Ended.Fails e f y) = subst (Out lines) (sym e) (
        subst (Agrees (with_branches lines (with_node_at w n came.0))) (sym (failed_told r n lines are quiet ∙ ap (λ d. told_by (after_up n (after_calls d n r)) lines) disks)) y,
        subst (λ k. FailsIn k (r.arm_at n).fuse) (all_calls enough) f,
      )
      out_is lines said are enough make (Ended.Stops e f y) = subst (Out lines) (sym e) (
        subst (Agrees (with_branches lines (with_node_at w n came.0))) (sym (stopped_told r n lines are quiet ∙ ap (λ d. after_stop (told_by (after_up n (after_calls d n r)) lines) n) disks)) y,
        subst (λ k. StopsIn k (r.arm_at n).fuse) (all_calls enough) f,
      )

      loaded_goes : any_used w.uuids uuids ≡ false → is_one_of 0 uuids ≡ false → nat_lt (length uuids) (length (active_ones books)) ≡ false → Goes (at came)
      loaded_goes free nonzero enough =
          let x = started free nonzero in
          let on = subst (λ (lines : List Event). (LawfulFrom r lines × Agrees (with_branches lines (with_node_at w n came.0)) (after_start (after_lines r lines) n lines came.1.answer)) × IsStarted r n uuids lines came.1.answer) (sym x.events)
          (let y = out_is x.lines came.1.answer x.are enough x.make x.ended in ((x.lawful, y.0), y.1)) in
          (on.0, on.1, x.fires)

    by_opens : (b : Bool) → opens_all fuse count ≡ b → any_used w.uuids uuids ≡ false → is_one_of 0 uuids ≡ false → Goes (at (if b then opened_at n uuids books node else not_opened n node))
    by_opens false e free nonzero = not_opened_goes (opened_hit count fuse power.may_fire e)
    by_opens true e free nonzero = elim (are_short books uuids) as (λ b. are_short books uuids ≡ b → Goes (at (if b then (record node { arm = arm e }, refusal cause.IdsShort) else came e))) [
      | true ↦ λ q. short_goes e q
      | false ↦ λ q. loaded_goes e free nonzero q
    ] refl

  -- ---- the causes to refuse it

  refused : (why : Cause) → after_start r n [] (answer.No why) ≡ r → IsStarted r n uuids [] (answer.No why) → FiresAsSaid (Some n) [] (answer.No why) → Goes (w, refusal why)
  refused why e said fires = ((tt, more_used w (after_start r n [] (answer.No why)) [] (subst (Agrees w) (sym e) (c, a))), said, fires)

  unless : (o : Outcome) (none up zero used : Bool) → (none ≡ true → (r.arm_at n).down ≡ false) → (up ≡ true → (r.arm_at n).down ≡ false) → (zero ≡ true → is_one_of 0 uuids ≡ true) → (none ≡ false → up ≡ false → zero ≡ false → used ≡ false → Goes o)
      → Goes (refused_or (first_cause ((none, cause.UnknownNode) ∷ (up, cause.NodeUp) ∷ (zero, cause.UuidZero) ∷ (used, cause.UuidUsed) ∷ [])) w o)
  unless o true up zero used absent runs none_named goes = refused cause.UnknownNode refl (refl, absent refl) refl
  unless o false true zero used absent runs none_named goes = refused cause.NodeUp refl (refl, runs refl) refl
  unless o false false true used absent runs none_named goes = refused cause.UuidZero refl (refl, none_named refl) refl
  unless o false false false true absent runs none_named goes = refused cause.UuidUsed refl refl refl
  unless o false false false false absent runs none_named goes = goes refl refl refl refl

  pub line_goes : Goes (start_step w n uuids)
  line_goes = unless (on_made w n (start_at n uuids)) (not (is_some (w.nodes n))) (is_up (w.nodes n)) (is_one_of 0 uuids) (any_used w.uuids uuids) (absent_told (r.arm_at n) (w.nodes n) (a.powers n)) (running_told (r.arm_at n) (w.nodes n) (a.powers n)) (λ e. e)
      (λ none up zero used. at_made Goes w n uuids (λ node books known down. by_opens node books known down (opens_all node.arm.fuse (length books)) refl used zero) (w.nodes n) refl none up)

-- a node at which no link has an end stops
crashes : Crashes
crashes w r n node out (c, a) at on apart = (crash_all n (finds out) 1024 c, stopped_agrees w r c n node out a at on apart r.clients_at (λ m d ne. refl))

-- what it tells is lawful, and all agrees after it
pub start_goes : Steady → (w : PlainWorld) (r : Chronicle) (n : ℕ) (uuids : List ℕ) → All (λ u. u < 2 ^ 64) uuids → Agrees w r
    → LineGoes r (λ told. after_start told n (start_step w n uuids).1.events (start_step w n uuids).1.answer) (start_step w n uuids)
start_goes steady w r n uuids small (c, a) = (line_goes steady crashes w r n uuids small c a).0

-- and its answer is lawful
pub start_answered : Steady → (w : PlainWorld) (r : Chronicle) (n : ℕ) (uuids : List ℕ) → All (λ u. u < 2 ^ 64) uuids → Agrees w r → IsStarted r n uuids (start_step w n uuids).1.events (start_step w n uuids).1.answer
start_answered steady w r n uuids small (c, a) = (line_goes steady crashes w r n uuids small c a).1

-- and it tells of arms that fired as it is answered
pub start_fires : Steady → (w : PlainWorld) (r : Chronicle) (n : ℕ) (uuids : List ℕ) → All (λ u. u < 2 ^ 64) uuids → Agrees w r → FiresAsSaid (Some n) (start_step w n uuids).1.events (start_step w n uuids).1.answer
start_fires steady w r n uuids small (c, a) = (line_goes steady crashes w r n uuids small c a).2
