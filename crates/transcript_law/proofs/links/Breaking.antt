-- a consumer that is sent back, and whose vBucket can't write that down: the link is over, and the vBucket stays
use Rattle.std.specs.Prelude.{◌≡◌, ◌∷◌, ◌==◌, if◌then◌else◌}
use Rattle.transcript_law.proofs.links.Retreating.{none_yet}
use Rattle.transcript_law.proofs.Words.{ℕ, true, false, List, [], refl, ap, sym, ◌∙◌, subst, ⊎_elim, is_some, not, PlainNode, Option, Some, None, vb_in}
use Rattle.transcript_law.proofs.Words.{ne_eqb}
use Rattle.transcript_law.proofs.{disks.Disks.{beside_by}, invariant.Carrying.{SamePowers, same_arms, same_clients}, invariant.Resting.{offs_same}}
use Rattle.transcript_law.proofs.Words.{Cluster, Move, happens, after_job, after_job_bind, lift}
use Rattle.transcript_law.proofs.Words.{DialResult, roll_back, unlinked}
use Rattle.transcript_law.proofs.{Words.{Chronicle, after_lines}, invariant.Agreement.{clock_of, vb_of, IsArm, PowerIsIf, Power, power_of}}
use Rattle.transcript_law.proofs.invariant.Agreement.{Agrees, LinkAgrees, consumer_seat, AgreesIn, idle}
use Rattle.transcript_law.proofs.{invariant.OneLink.{disk_here, carries_same}}
use Rattle.transcript_law.proofs.{links.Downing.{Line, put_kept, so_far, link_now}}
use Rattle.transcript_law.proofs.{links.Downing.{Phase, there, now, gone, lifted_at, Reached, same_powers, shelf_now, shelves_but, found_now, vb_put}, disks.Disks.{ShelfIs, parts_of, power_in}}
use Rattle.transcript_law.proofs.{links.Onward.{Kept, onward_all, onward_beside, onward_level, onward_none, unarmed}}
use Rattle.branch_model.specs.Journals.{IsPoint, complete_points, roll_point}
use Rattle.{disk_journals.specs.Arms.{under}, node_world.specs.Arms.{lifted}, node_world.specs.Nodes.{with_kept}}
use Rattle.{node_core.specs.Dials.{rolled_back}}
use Rattle.{transcript_law.specs.Chronicles.{DiskKnown, after_calls, calls_of_append}}
use Rattle.vb_calls.specs.Flushes.{roll_job}
use Rattle.vb_calls.specs.Shelves.{Shelf, with_shelf_at}
use Rattle.vb_journal.specs.UnderArms.{all_pass, burnt_noting}
use Rattle.vb_disk.specs.declared.fuse.Fuse.{Fuse}
use Rattle.vb_disk.specs.declared.fuse.Fuse.TheVariants.{Off}
use Rattle.transcript_law.proofs.invariant.JobSteps.{shelf_found}
use Rattle.vb_types.specs.declared.journal.Record.TheVariants as noted
use Rattle.transcript_law.proofs.{disks.ArmedLines.{ArmedCame}, disks.Appending.{Renoted, Rewritten, breaks, broken, noted_agrees, unwritten}, disks.Burning.{BreaksUnder, breaks_under, quiet_same}, invariant.Carried.{numbers, told_of_same}, links.Downing.{EndsSo, FiredIn, broken_answer, ended_agrees, vb_moved}, invariant.LinkRows.{found_is_link}, invariant.Agreement.{is_down}, links.Rolling.{closed_came, failed_came}}
use Rattle.{transcript_law.specs.Chronicles.{after_append, appending, late_record, with_disk}, vb_calls.specs.Shelves.{late_of}, vb_types.specs.declared.journal.Record.{Record}, vb_events.specs.declared.event.EndReason.TheVariants.{Disk}, vb_calls.specs.declared.journals.Rolled.{Rolled as RolledJob}}
use Rattle.{cluster_model.specs.Clusters.{Disk as DiskOf}, node_world.specs.Arms.{fired_by}, node_world.specs.Worlds.{arm_in, is_up}, node_world.specs.declared.arm.Arm.{Arm}, node_world.specs.declared.arm.Fired.{Fired}, disk_journals.specs.Books.{Book}}
use Rattle.vb_calls.specs.declared.journals.Rolled.TheVariants as rolled_as
use Rattle.vb_events.specs.declared.event.Answer.TheVariants as answer
use Rattle.vb_events.specs.declared.event.Cause.TheVariants as cause
use Rattle.transcript_law.proofs.links.Retreating.{Back, none_left, power_here, was, unlinks, over_lifts, left_of, burnt, journal, written, rolls, point_there, known, back_stood, told_closed, none_pended, none_told}
use Rattle.transcript_law.proofs.links.Retreating as retreat

module _ (line : Line) (back : Back line) where
  open line use {w, r, link, node}
  open line.link.consumer.dialed use {node as n, vb as v, link as l}
  open back use {before.{stays, f, rest, states, at, events, going, going.{cluster as c}}, named}

  abbrev k : ℕ
  k = consumer_seat link

  abbrev told : Chronicle
  told = after_lines r events

  abbrev mine : LinkAgrees (now line states at) told going.cluster (link_now line at) [] (f ∷ rest)
  mine = retreat.mine line back

  open mine use {follower as fv}

  abbrev fuse : Fuse
  fuse = node.arm.fuse

  abbrev power : Power
  power = record { arm = node.arm; off = node.off; clock = node.clock }

  abbrev shelf : Shelf
  shelf = retreat.shelf line back

  abbrev to : ℕ
  to = roll_point shelf.book named

  abbrev s : DialResult
  s = so_far line at None events

  abbrev left : Kept → Fuse
  left states = (lifted v (with_kept node states)).arm.fuse

  -- the rollback can't be written down: the link is over, and the vBucket stays

  abbrev what : Record
  what = noted.Roll to

  abbrev asked_kept : Kept
  asked_kept = put_kept states states.1 v fv

  -- with another journal
  abbrev shut_kept : Shelf → Kept
  shut_kept x = put_kept states (with_shelf_at states.1 v x) v fv

  abbrev cut_off : Cluster
  cut_off = happens c (Move.Cut k)

  cut_agrees : AgreesIn idle (gone line asked_kept) told cut_off
  cut_agrees = ended_agrees line stays (f ∷ rest) states asked_kept at events told going (λ m q. vb_moved line states states.1 at at fv m q (λ e t. sym (known line back) ∙ ap states.0 (sym t))) refl (told_of_same l told)

  gone_vb : (kept : Kept) (m q : ℕ) → vb_of (gone line kept) m q ≡ vb_of (there line kept) m q
  gone_vb kept m q = (unlinks line back (there line kept)).vbs m q

  asked_known : vb_of (gone line asked_kept) n v ≡ Some fv
  asked_known = gone_vb asked_kept n v ∙ vb_put line states states.1 at fv

  same_beside : (x : Shelf) → SamePowers (gone line asked_kept) (gone line (shut_kept x))
  same_beside x m = (unlinks line back (there line (shut_kept x))).powers m ∙ same_powers line asked_kept (shut_kept x) m ∙ sym ((unlinks line back (there line asked_kept)).powers m)

  same_kept : (x : Shelf) → Renoted (gone line asked_kept) (gone line (shut_kept x)) n v (under Off x)
  same_kept x =
      let a = unlinks line back (there line asked_kept) in let b = unlinks line back (there line (shut_kept x)) in
      record {
        offs = offs_same (gone line asked_kept) (gone line (shut_kept x)) (same_beside x);
        clocks = λ m. ap clock_of (same_arms (gone line asked_kept) (gone line (shut_kept x)) (same_beside x) m);
        clients = same_clients (gone line asked_kept) (gone line (shut_kept x)) (same_beside x);
        vbs = λ m q. b.vbs m q ∙ elim (m == n) as (λ t. vb_in (if t then Some (with_kept node (unarmed v (shut_kept x))) else w.nodes m) q ≡ vb_in (if t then Some (with_kept node (unarmed v asked_kept)) else w.nodes m) q) [ true ↦ refl | false ↦ refl ] ∙ sym (a.vbs m q);
        stands = b.shelves n v ∙ shelf_now line (shut_kept x) x (shelf_found states.1 v x);
        shelves = λ m q o. b.shelves m q ∙ shelves_but line asked_kept (shut_kept x) (λ p ne. ap (λ t. if t then Some x else states.1 p) (ne_eqb p v ne)) m q o ∙ sym (a.shelves m q);
        uuids = b.uuids ∙ sym a.uuids;
        linked = b.linked ∙ sym a.linked;
      }

  powers_kept : (x : Shelf) (m : ℕ) → PowerIsIf (told.arm_at m) (power_of (gone line (shut_kept x)) m)
  powers_kept x m = subst (PowerIsIf (told.arm_at m)) (sym (same_arms (gone line asked_kept) (gone line (shut_kept x)) (same_beside x) m)) (cut_agrees.powers m)

  -- its journal, where the link was cut
  cut_disk : cut_off.disks k ≡ c.disks k
  cut_disk = disk_here c.disks k (c.disks k)

  cut_written : ShelfIs (told.disk_at n v) (cut_off.disks k) (under Off shelf) (parts_of fv)
  cut_written = subst (λ d. ShelfIs (told.disk_at n v) d (under Off shelf) (parts_of fv)) (sym cut_disk) (written line back)

  -- all agrees then, where the journal became this
  shut_agrees : (x : Shelf) (t : DiskKnown) (d : DiskOf) (b : Rewritten cut_off k d) → ShelfIs t d (under Off x) (parts_of fv) → AgreesIn idle (gone line (shut_kept x)) (with_disk told n v t) b.now
  shut_agrees x t d b is = noted_agrees idle (gone line asked_kept) (gone line (shut_kept x)) told told.arm_at cut_off n v fv (under Off x) t d cut_agrees asked_known (written line back).there (same_kept x) (powers_kept x) b is

  -- what the line comes to then
  abbrev Came : Kept → Fired → Type 0
  Came kept how = ArmedCame n (λ said x. after_append x n v (appending what) said) how told (unlinked link (lifted_at line kept)) (broken_answer how) × FiredIn how (r.disk_at n v).closed fuse

  arm_by : (o : Option PlainNode) (p : Power) → power_in o ≡ Some p → arm_in o ≡ p.arm
  arm_by None p e = cc
  arm_by (Some node) p e = cc

  shut_reached : (x : Shelf) → after_job (roll_back named s) states.0 states.1 ≡ (shut_kept x, so_far line at (Some Disk) events) → Came (shut_kept x) (fired_by fuse (left (shut_kept x))) → Reached line rest (after_job (roll_back named s) states.0 states.1)
  shut_reached x same came =
      let arms : left (shut_kept x) ≡ (arm_in ((unlinked link (lifted_at line (shut_kept x))).nodes n)).fuse = sym (ap (λ (m : Arm). m.fuse) (arm_by ((unlinked link (lifted_at line (shut_kept x))).nodes n) (record power { arm = (lifted v (with_kept node (shut_kept x))).arm }) (over_lifts line back (shut_kept x)).armed)) in
      let how : Came (shut_kept x) (fired_by fuse (arm_in ((unlinked link (lifted_at line (shut_kept x))).nodes n)).fuse) = subst (λ g. Came (shut_kept x) (fired_by fuse g)) arms came in
      record {
        states = shut_kept x;
        at = at;
        over = Some Disk;
        events = events;
        same = same;
        phase = Phase.Rolled;
        stage = (none_left line back, record { lawful = going.lawful; quiet = going.quiet; what = what; rolls = rolls line back; dials = (onward_all r events going.onward.lines).dials; none_taken = none_yet line back; untold = none_told line back; took = none_pended line back; uncut = λ e. cc; beside = onward_beside events going.onward.lines; ending = λ why q. subst (λ k. EndsSo line k events) (let z : Some Disk ≡ Some why = q in let y : Disk ≡ why = cc in y) tt; level = onward_level events going.onward.lines; came = (how.0, how.1, onward_none events going.onward.lines) });
      }

  roll_shut : (x : Shelf) (came : RolledJob) → after_job (roll_job v named) states.0 states.1 ≡ (shut_kept x, came) → after_job (lift (rolled_back named s came)) (shut_kept x).0 (shut_kept x).1 ≡ (shut_kept x, so_far line at (Some Disk) events)
      → after_job (roll_back named s) states.0 states.1 ≡ (shut_kept x, so_far line at (Some Disk) events)
  unfolding roll_back
  roll_shut x came e q = after_job_bind (roll_job v named) (λ came. lift (rolled_back named s came)) states.0 states.1 ∙ ap (λ y. after_job (lift (rolled_back named s y.1)) y.0.0 y.0.1) e ∙ q

  -- the journal was closed before
  back_closed : shelf.is_closed ≡ true → Reached line rest (after_job (roll_back named s) states.0 states.1)
  back_closed shut =
      let same : left (shut_kept shelf) ≡ fuse = left_of line back (shut_kept shelf) shelf (shelf_found states.1 v shelf) ∙ (journal line back).2 in
      let x = over_lifts line back (shut_kept shelf) in
      shut_reached shelf (roll_shut shelf rolled_as.Closed (closed_came states.0 states.1 v named fv shelf (known line back) (retreat.follows line back) (journal line back).1 shut) refl)
      (subst (Came (shut_kept shelf)) (sym (ap (fired_by fuse) same ∙ quiet_same fuse)) (
        (
          (unwritten cut_off k cut_agrees.sound).now,
          carries_same idle idle (gone line (shut_kept shelf)) (unlinked link (lifted_at line (shut_kept shelf))) (with_disk told n v (told.disk_at n v)) (unwritten cut_off k cut_agrees.sound).now
              (shut_agrees shelf (told.disk_at n v) (cut_off.disks k) (unwritten cut_off k cut_agrees.sound) cut_written)
              (record {
                powers = λ m. beside_by ((gone line (shut_kept shelf)).nodes m) ((unlinked link (lifted_at line (shut_kept shelf))).nodes m) (⊎_elim
                    (λ e. ap (λ j. power_of (unlinked link (lifted_at line (shut_kept shelf))) j) e ∙ x.armed ∙ ap (λ g. Some (record power { arm = record power.arm { fuse = g } })) same ∙ sym x.before ∙ ap (λ j. power_of (gone line (shut_kept shelf)) j) (sym e))
                    (λ ne. x.others m ne)
                    (numbers m n)) (x.clients m);
                vbs = x.vbs;
                shelves = x.shelves;
                uuids = x.uuids;
                linked = x.linked;
              }) (λ j. refl),
        ),
        told_closed line back ∙ shut,
      ))

  -- the append is broken off
  module _ (opens : shelf.is_closed ≡ false) (hit : all_pass fuse ≡ false) where
    abbrev broken_off : Shelf
    broken_off = record shelf { is_closed = true; late = late_of shelf.fuse what; fuse = burnt_noting shelf.fuse }

    breaks_so : BreaksUnder fuse
    breaks_so = breaks_under fuse (was line back).may_fire hit

    left_none : left (shut_kept broken_off) ≡ Off
    left_none = left_of line back (shut_kept broken_off) broken_off (shelf_found states.1 v broken_off) ∙ ap burnt_noting (journal line back).2 ∙ breaks_so.left

    late_is : late_of shelf.fuse what ≡ late_record (told.arm_at n).fuse what
    late_is = ap (λ g. late_of g what) (journal line back).2 ∙ breaks_so.late what ∙ ap (λ g. late_record g what) (sym (was line back).fuse)

    rewritten : Rewritten cut_off k (record (cut_off.disks k) { late = late_of shelf.fuse what })
    rewritten = breaks cut_off k cut_agrees.sound shelf.fuse what (cut_written.late ∙ cut_written.none_late opens) (subst (λ (d : DiskOf). IsPoint to (complete_points d.book)) (sym cut_disk) (point_there line back))

    broken_agrees : Agrees (unlinked link (lifted_at line (shut_kept broken_off))) (after_append told n v (appending what) (answer.No cause.Disk))
    broken_agrees = subst (λ o. Agrees (unlinked link (lifted_at line (shut_kept broken_off))) (after_calls calls_of_append n (with_disk told n v (record (told.disk_at n v) { late = o; closed = true })))) late_is
        (burnt line back (shut_kept broken_off) (left_none ∙ sym breaks_so.spent_off) (subst IsArm (sym left_none) tt) idle (gone line (shut_kept broken_off)) (unlinked link (lifted_at line (shut_kept broken_off)))
        (with_disk told n v (record (told.disk_at n v) { late = late_of shelf.fuse what; closed = true })) rewritten.now (over_lifts line back (shut_kept broken_off)) refl
        (shut_agrees broken_off (record (told.disk_at n v) { late = late_of shelf.fuse what; closed = true }) (record (cut_off.disks k) { late = late_of shelf.fuse what }) rewritten (broken cut_written shelf.fuse what opens cut_written.cas)) (λ j. refl))

    -- the node runs
    runs : is_some node.off ≡ false
    runs = sym (ap is_down (power_here line back states)) ∙ (going.agrees.ends (link_now line at) (found_is_link l (now line states at).links (link_now line at) (found_now line states at)).0).consumer

    up_by : (o : Option PlainNode) (p : Power) → power_in o ≡ Some p → is_some p.off ≡ false → is_up o ≡ true
    up_by None p e up = cc
    up_by (Some node) p e up = let same : node.off ≡ p.off = ap (λ (x : Option Power). off_in x) e in ap (λ o. not (is_some o)) same ∙ ap not up
      where
        off_in : Option Power → Option (List Book)
        off_in None = None
        off_in (Some x) = x.off

    back_broken : Reached line rest (after_job (roll_back named s) states.0 states.1)
    back_broken = shut_reached broken_off (roll_shut broken_off rolled_as.DiskFailed (failed_came states.0 states.1 v named fv shelf (known line back) (retreat.follows line back) (journal line back).1 opens (ap all_pass (journal line back).2 ∙ hit)) refl)
        (subst (λ g. Came (shut_kept broken_off) (fired_by fuse g)) (sym left_none) (⊎_elim
        (λ h. subst (Came (shut_kept broken_off)) (sym h.1) ((refl, broken_agrees), (told_closed line back ∙ opens, h.0)))
        (λ h. subst (Came (shut_kept broken_off)) (sym h.1) ((refl, up_by ((unlinked link (lifted_at line (shut_kept broken_off))).nodes n) (record power { arm = (lifted v (with_kept node (shut_kept broken_off))).arm }) (over_lifts line back (shut_kept broken_off)).armed runs, broken_agrees), (told_closed line back ∙ opens, h.0)))
        breaks_so.how))

  -- the consumer is sent back
  pub back_reached : Reached line rest (after_job (roll_back named s) states.0 states.1)
  back_reached = elim shelf.is_closed as (λ b. shelf.is_closed ≡ b → Reached line rest (after_job (roll_back named s) states.0 states.1)) [
    | true ↦ back_closed
    | false ↦ λ opens. elim (all_pass fuse) as (λ b. all_pass fuse ≡ b → Reached line rest (after_job (roll_back named s) states.0 states.1)) [ true ↦ back_stood line back opens | false ↦ back_broken opens ] refl
  ] refl
