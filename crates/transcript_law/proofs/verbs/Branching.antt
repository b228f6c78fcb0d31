-- lines that make a vBucket
use Rattle.std.specs.Prelude.{◌≡◌, ◌<◌, ◌≤◌, ◌∷◌, ◌++◌, ◌==◌, ◌^◌, if◌then◌else◌}
use Rattle.transcript_law.proofs.Words.{ℕ, Bool, true, false, List, [], refl, ap, sym, ◌∙◌, subst, arith, inl, ⊎_elim, Option, Some, None, All, option_map, is_some, eqb-true, eqb-false, eq-eqb, ne_eqb, All-nil, All-cons, Answer, Cause, Event, Role, upto}
use Rattle.transcript_law.proofs.Words.{IsIn, IsNew, with_entry, fork_of, last_seq, map, Position, Branch, branch, hist, hist_here, hist_there, HoldsAt, complete_position, no_spans, Cluster, Member, Move, SoundCluster, happens, made, above, keeps, StartsSound, Plain, new_vb, branch_lines}
use Rattle.transcript_law.proofs.Words.{Outcome, PlainLink, PlainNode, PlainWorld, with_node_at, on_node, first_cause, refused_or, is_one_of, vb_causes, with_vb, vb_at, replica_causes, replica_at, vb_in, shelf_in, with_branches}
use Rattle.transcript_law.proofs.Words.{Chronicle, changes_between, after_branch, after_lines, after_role, LawfulFrom, LawfulRole, StaysSound, StreamName, upto_none, vb_step}
use Rattle.transcript_law.proofs.{disks.Absent.{NothingHere, nothing_here}, disks.Appending.{noted_node, state_came, told_disk}, disks.ArmedLines.{ArmedCame}, invariant.JobSteps.{put_found, shelf_found, shelf_over}, lines.Lines.{AreQuiet}, disks.Firing.{made_noting}, disks.Noting.{LineCame, came_as, came_goes, caused, kept_came, refused_came}}
use Rattle.transcript_law.proofs.invariant.Agreement.{node_known, AgreesAt, AgreesIn, Agrees, AwayAt, BranchAgrees, LinkAgrees, ChangeFits, DiskIsIf, EntryFits, IsLink, LineGoes, PowerIsIf, RestsIn, VbAgrees, VbHolds, Writes, idle, is_down, own_history, power_of, shelf_of, top, vb_of, vb_row}
use Rattle.transcript_law.proofs.{invariant.Carried.{all_vbs, places}, invariant.Carrying.{Changed}, disks.Disks.{AwayAgrees, ShelfIs, bare as bare_record, disk_same, no_spots, parts_of, power_in, same_parts}, invariant.OneLink.{put_here, put_there}, invariant.Resting.{ends_again, rests_by}, invariant.Seats.{seat, seats_apart}, links.Turning.{put_itself}}
use Rattle.transcript_law.proofs.invariant.{Agreement.{ClientsTold}, Carried.{all_there}, Carrying.{same_clients}, ClientsKept.{fewer_at, goes_agreed_at}, ClientsTurned.{RoleTold, clients_turned, none_opened}, Owed.{Fewer}}
use Rattle.transcript_law.specs.{ClientStreams.{past_turn, with_clients_of}, Feeding.{client_in}}
use Rattle.transcript_law.proofs.lines.Telling.{branch_line}
use Rattle.transcript_law.proofs.{invariant.Lefts.{left_none}, invariant.Majorities.{alone_counts}, verbs.NodeLines.{node_changed, on_node_by, risen_anew, more_used, new_links, role_row, role_there, writers_branched, writers_rest, role_here}}
use Rattle.transcript_law.specs.{Chronicles.{alone}, Lawfulness.{LawfulBranch, fork_in, newest_of}}
use Rattle.transcript_law.proofs.{invariant.Tables.{at_here, at_there, if_known, id_here, unused, none_there, none_hold}, invariant.Trees.{IsTold, is_told_here, new_untold}, invariant.Wholes.{WholeTo, spanned_none}}
use Rattle.{branch_model.proofs.Holding.{holds_none}, branch_model.specs.Journals.{place_of}, cluster_model.specs.Clusters.{Disk, blank, front_or, member_fork, opened, promoted}, disk_journals.specs.Arms.{armed_at, under}, node_core.specs.Admin.{noted_answer}}
use Rattle.node_world.specs.{Arms.{fired_by, fuse_or, lifted, under_arm}, Nodes.{shelf_or_blank, vb_made, vb_noted}, Power.{with_arm}, Worlds.{arm_in}}
use Rattle.{vb_calls.specs.Flushes.{wrote_of}, vb_calls.specs.State.{first_log}, vb_disk.specs.declared.fuse.Fuse.TheVariants.{Off}, vb_types.specs.declared.journal.Record.{Record}}
use Rattle.node_world.specs.Nodes.{vb_told as said_of_vb}
use Rattle.transcript_law.specs.Chronicles.{DiskKnown, after_made, after_noted, blank_disk}
use Rattle.transcript_law.specs.Chronicles.{with_disk as told_disk_at}
use Rattle.vb_calls.specs.Shelves.{Append, DiskFailed, Fate, Idle, Shelf, Stood, WasClosed, Written, ask_at, shelf_step, blank_shelf, with_shelf_at}
use Rattle.vb_types.specs.declared.journal.Record.TheVariants as noted
use Rattle.transcript_law.proofs.invariant.Bounded.{Weighs}
pub use Rattle.transcript_law.proofs.verbs.Branched.{branch_row, branch_there, new_fits}
use Rattle.transcript_law.proofs.invariant.Owing.{Later}
use Rattle.transcript_law.proofs.invariant.Owing.{later_same}

-- ---- a vBucket that was just made, before its role is written down

-- the node with it, and with a blank journal
abbrev bare : PlainNode → ℕ → ℕ → Role → ℕ → PlainNode
bare node n v role uuid = with_vb node n v role uuid (with_shelf_at node.shelves v blank_shelf)

-- nothing is written down of it
new_disk : (n : ℕ) (role : Role) (uuid : ℕ) → ShelfIs (record blank_disk { there = true }) blank blank_shelf (parts_of (new_vb n role uuid))
new_disk n role uuid = record {
  book = refl;
  told_book = refl;
  late = refl;
  told_late = refl;
  none_late = λ e. refl;
  unarmed = refl;
  there = refl;
  closed = refl;
  flush = (refl, (λ e. refl), omega arith);
  saved = refl;
  taken = refl;
  spots = no_spots 0 [];
  floor = omega arith;
  cas = omega arith;
  late_cas = λ r e. cc;
  ended = refl;
  written = λ seq e. let z : Idle ≡ Written seq = e in cc;
}

-- a disk that may be there, and is blank
blank_there : (told : DiskKnown) (d : Disk) (s : Option Shelf) → DiskIsIf told d s None → (shelf_or_blank s ≡ blank_shelf) × AwayAgrees told d
blank_there told d None x = (refl, x)
blank_there told d (Some s) x = (x.2, x.0)

-- where no record stands, there is nothing at all
away_blank : (told : DiskKnown) (d : Disk) → d.book ≡ [] → AwayAgrees told d → (record told { there = true } ≡ record blank_disk { there = true }) × (d ≡ blank)
away_blank told d none x = (
  ap (λ (t : DiskKnown). record t { there = true }) x.told_is ∙ ap (λ js. record blank_disk { book = map bare_record js; saved = (place_of js).at; taken = (place_of js).at; there = true }) none,
  x.disk ∙ ap opened none,
)

module _ (w : PlainWorld) (r : Chronicle) (c : Cluster) (n v uuid : ℕ) (role : Role) (node : PlainNode) (a : AgreesIn idle w r c) (known : w.nodes n ≡ Some node) (runs : is_some node.off ≡ false) (none : node.vbs v ≡ None) (small : v < 1024) where
  not_made : vb_of w n v ≡ None
  not_made = ap (λ o. vb_in o v) known ∙ none

  up : is_down (power_of w n) ≡ false
  up = ap (λ o. is_down (power_in o)) known ∙ runs

  nothing : NothingHere r n v (c.nodes (seat n v)) (c.disks (seat n v))
  nothing = nothing_here w r c n v a not_made up

  blank_now : (shelf_or_blank (node.shelves v) ≡ blank_shelf) × AwayAgrees (r.disk_at n v) (c.disks (seat n v))
  blank_now = blank_there (r.disk_at n v) (c.disks (seat n v)) (node.shelves v)
      (subst (λ s. DiskIsIf (r.disk_at n v) (c.disks (seat n v)) s None) (ap (λ o. shelf_in o v) known) (subst (DiskIsIf (r.disk_at n v) (c.disks (seat n v)) (shelf_of w n v)) not_made (a.disks n v)))

  abbrev first : PlainNode
  first = bare node n v role uuid

  abbrev vb : Plain
  vb = new_vb n role uuid

  -- the world with that node, in which these ids were used; what the lines tell, and the cluster, may have changed at this place alone
  module _ (uuids : List ℕ) (q : Chronicle) (c' : Cluster) (disks_told : (m p : ℕ) → q.disk_at m p ≡ r.disk_at m p) (arms : (m : ℕ) → node_known q m ≡ node_known r m) (rows : (m p : ℕ) → (m ≡ n → p ≡ v → ⊥) → vb_row q m p ≡ vb_row r m p)
      (nodes : (j : ℕ) → (j ≡ seat n v → ⊥) → c'.nodes j ≡ c.nodes j) (disks : (j : ℕ) → c'.disks j ≡ c.disks j) where
    abbrev world : PlainWorld
    world = record { nodes = (with_node_at w n first).nodes; uuids = uuids; links = w.links }

    -- it has a disk now
    abbrev there_now : DiskKnown
    there_now = record (q.disk_at n v) { there = true }

    abbrev told : Chronicle
    told = told_disk_at q n v there_now

    changed : Changed w (with_node_at w n first) n v vb w.links
    changed = node_changed w n v node first vb known (λ p. refl) (λ p o. ap (λ b. if b then Some blank_shelf else node.shelves p) (ne_eqb p v o)) refl

    shelf_first : shelf_of world n v ≡ Some blank_shelf
    shelf_first = ap (λ b. shelf_in (if b then Some first else w.nodes n) v) (eq-eqb n n refl) ∙ ap (λ b. if b then Some blank_shelf else node.shelves v) (eq-eqb v v refl)

    new_disks : (m p : ℕ) → DiskIsIf (told.disk_at m p) (c'.disks (seat m p)) (shelf_of world m p) (vb_of world m p)
    new_disks =
        let blanks = away_blank (r.disk_at n v) (c.disks (seat n v)) nothing.book blank_now.1 in
        all_vbs w world n v vb (λ m p o. DiskIsIf (told.disk_at m p) (c'.disks (seat m p)) (shelf_of world m p) o) changed.here changed.there
        (disk_same (Some vb) (Some vb) (at_here q.disk_at n v there_now ∙ ap (λ (t : DiskKnown). record t { there = true }) (disks_told n v) ∙ blanks.0) (disks (seat n v) ∙ blanks.1) shelf_first refl (new_disk n role uuid))
        (λ m p o. disk_same (vb_of w m p) (vb_of w m p) (at_there q.disk_at n v there_now m p o ∙ disks_told m p) (disks (seat m p)) (changed.shelves m p o) (same_parts (vb_of w m p)) (a.disks m p))

    -- before that is told
    rests_bare : RestsIn world q c'
    rests_bare = rests_by w world r q c c' a.rests changed.powers arms
        (λ m p e. ⊎_elim (λ s. let z : Some vb ≡ None = sym (ap (λ k. vb_of world k p) s.0 ∙ ap (vb_of world n) s.1 ∙ changed.here) ∙ e in cc)
        (λ o. record { vb = sym (changed.there m p o) ∙ e; shelf = changed.shelves m p o; row = rows m p o; member = nodes (seat m p) (seats_apart m p n v o); disk = disks (seat m p) })
        (places n v m p))
        (λ m p down. ⊎_elim (λ s. let z : true ≡ false = sym down ∙ ap (λ k. is_down (power_of w k)) s.0 ∙ up in cc)
        (λ o. (changed.there m p o ∙ (a.downs m p).vb_none down, changed.shelves m p o ∙ (a.downs m p).shelf_none down)) (places n v m p))
        (λ m p e. ap (λ (t : DiskKnown). t.there) (sym (disks_told m p)) ∙ e)
        (λ x i. ends_again w world x changed.powers (a.ends x i))

    new_rests : RestsIn world told c'
    new_rests = record {
      powers = rests_bare.powers;
      clocks = rests_bare.clocks;
      aways = λ m p e. ⊎_elim (λ s. let z : Some vb ≡ None = sym (ap (λ k. vb_of world k p) s.0 ∙ ap (vb_of world n) s.1 ∙ changed.here) ∙ e in cc)
          (λ o. subst (λ t. AwayAt (power_of world m) p (shelf_of world m p) (q.role_at m p) t (c'.nodes (seat m p)) (c'.disks (seat m p))) (sym (at_there q.disk_at n v there_now m p o)) (rests_bare.aways m p e))
          (places n v m p);
      downs = rests_bare.downs;
      ends = rests_bare.ends;
      small = λ m p e. ⊎_elim (λ s. subst (λ k. k < 1024) (sym s.1) small) (λ o. rests_bare.small m p (ap (λ (t : DiskKnown). t.there) (sym (at_there q.disk_at n v there_now m p o)) ∙ e)) (places n v m p);
    }

    -- what the vBucket agrees with, all do
    made_vbs : VbAgrees q n v (c'.nodes (seat n v)) vb → ((m p : ℕ) → (m ≡ n → p ≡ v → ⊥) → AgreesAt q m p (c'.nodes (seat m p)) (vb_of w m p)) → (m p : ℕ) → AgreesAt told m p (c'.nodes (seat m p)) (vb_of world m p)
    made_vbs here there = all_vbs w world n v vb (λ m p o. AgreesAt told m p (c'.nodes (seat m p)) o) changed.here changed.there
        (told_disk q n v there_now n v (c'.nodes (seat n v)) (Some vb) (λ e. cc) here)
        (λ m p o. told_disk q n v there_now m p (c'.nodes (seat m p)) (vb_of w m p) (λ e. o) (there m p o))

    made_links : ((k : ℕ) → q.dial_of k ≡ r.dial_of k) → ((k p : ℕ) → q.stream_of (StreamName.Link k) p ≡ r.stream_of (StreamName.Link k) p) → ((k : ℕ) → q.stated_of k ≡ r.stated_of k) → ((k : ℕ) → q.point_of k ≡ r.point_of k)
        → (x : PlainLink) → IsLink x w.links → LinkAgrees world told c' x [] []
    made_links dials streams states points x i = new_links w world r told c c' n v x [] [] not_made changed.there dials streams states points nodes (a.links x i)

    -- clients have no open stream of it
    made_clients : ((m d : ℕ) → q.clients_at m d ≡ with_clients_of r.clients_at n (past_turn v (r.held n v)) m d) → ((m p : ℕ) → (m ≡ n → p ≡ v → ⊥) → AgreesAt q m p (c'.nodes (seat m p)) (vb_of w m p)) → ((u : ℕ) → IsTold r.tree u → hist q.tree u ≡ hist r.tree u) → Later r q
        → ClientsTold world told
    made_clients clients there same last = clients_turned w world r told n v a.clients turned (all_there idle w r c a) (λ l m p id has. has) (record { last = last.last; grows = last.grows })
        (fewer_at w world n v changed.there (subst (Fewer (vb_of w n v)) (sym changed.here) (λ x p o. absurd o.1.among)))
      where
        turned : RoleTold w world r told n v
        turned = record {
          here = λ d client is.
              let was : client_in (w.nodes n) d ≡ Some client = sym (same_clients w world changed.powers n d) ∙ is in
              (client, was, none_opened w r n v d client (λ x e. let z : Some x ≡ None = sym e ∙ not_made in cc) (a.clients.each n d client was));
          there = λ m d ne. same_clients w world changed.powers m d;
          known = clients;
          goes = λ m p o d id has.
              let member = nodes (seat m p) (seats_apart m p n v o) in
              goes_agreed_at w world r told m p id (c.nodes (seat m p)) (c'.nodes (seat m p)) (vb_of w m p) refl (changed.there m p o) (a.vbs m p) (told_disk q n v there_now m p (c'.nodes (seat m p)) (vb_of w m p) (λ e. o) (there m p o))
              (ap (λ (x : Member). x.br) member) (λ x i. subst (λ (y : Member). IsIn x y.held) (sym member) i) (λ x. same (c.nodes (seat m p)).br x.is_told);
        }

-- ---- its role is written down, under the node's arm

module _ (n v uuid : ℕ) (role : Role) (node : PlainNode) where
  abbrev what : Record
  what = noted.State role (first_log role uuid)

  -- what the append comes to
  abbrev wrote : Shelf × Fate
  wrote = shelf_step (under node.arm.fuse blank_shelf) (Append what)

  abbrev bare_node : PlainNode
  bare_node = bare node n v role uuid

  -- the node with the journal and the arm that are left
  abbrev noted_with : PlainNode
  noted_with = record bare_node { shelves = with_shelf_at bare_node.shelves v (under Off wrote.0); arm = record node.arm { fuse = wrote.0.fuse } }

  made_is : shelf_or_blank (node.shelves v) ≡ blank_shelf → vb_made n v role uuid node ≡ (noted_with, said_of_vb n v role uuid wrote.1)
  made_is blanks =
      ap (λ s. under_arm v (vb_noted n v role uuid) (record node { shelves = with_shelf_at node.shelves v s })) blanks
      ∙ ap (λ o. let x = vb_noted n v role uuid (record base { shelves = armed_at base.shelves v node.arm.fuse o }) in (lifted v x.0, x.1)) (shelf_found node.shelves v blank_shelf)
      ∙ ap (λ o. let x = ask_at over.shelves v (Append what) o in (lifted v (with_vb over n v role uuid x.0), said_of_vb n v role uuid x.1)) (shelf_found base.shelves v (under node.arm.fuse blank_shelf))
      ∙ ap (λ o. (record after { shelves = armed_at after.shelves v Off o; arm = record node.arm { fuse = fuse_or node.arm.fuse (option_map (λ (s : Shelf). s.fuse) o) } }, said_of_vb n v role uuid wrote.1)) (shelf_found over.shelves v wrote.0)
      ∙ ap (λ s. (record after { shelves = s; arm = record node.arm { fuse = wrote.0.fuse } }, said_of_vb n v role uuid wrote.1))
      (shelf_over over.shelves v wrote.0 (under Off wrote.0) ∙ shelf_over base.shelves v (under node.arm.fuse blank_shelf) (under Off wrote.0))
    where
      base : PlainNode
      base = record node { shelves = with_shelf_at node.shelves v blank_shelf }

      over : PlainNode
      over = record base { shelves = with_shelf_at base.shelves v (under node.arm.fuse blank_shelf) }

      after : PlainNode
      after = with_vb over n v role uuid (with_shelf_at over.shelves v wrote.0)

  -- all agree then, where they did before its role was written down: the vBucket is made all the same where that may not stand
  written_came : (w : PlainWorld) (uuids : List ℕ) (q : Chronicle) → let there_now : DiskKnown = record (q.disk_at n v) { there = true } in
      Agrees (record { nodes = (with_node_at w n bare_node).nodes; uuids = uuids; links = w.links }) (told_disk_at q n v there_now) → is_some node.off ≡ false
      → ArmedCame n (λ said t. after_made t n v role said) (fired_by node.arm.fuse wrote.0.fuse) q (record { nodes = (with_node_at w n noted_with).nodes; uuids = uuids; links = w.links }) (noted_answer (wrote_of wrote.1) Answer.Ok)
  written_came w uuids q (c, a) runs =
      let w1 : PlainWorld = record { nodes = (with_node_at w n bare_node).nodes; uuids = uuids; links = w.links } in
      let told : Chronicle = told_disk_at q n v (record (q.disk_at n v) { there = true }) in
      let is : w1.nodes n ≡ Some bare_node = ap (λ b. if b then Some bare_node else w.nodes n) (eq-eqb n n refl) in
      let made : vb_of w1 n v ≡ Some (new_vb n role uuid) = ap (λ o. vb_in o v) is ∙ put_found node.vbs v (new_vb n role uuid) in
      let kept : shelf_of w1 n v ≡ Some blank_shelf = ap (λ o. shelf_in o v) is ∙ shelf_found node.shelves v blank_shelf in
      let came = state_came w1 (with_node_at w1 n noted_with) told n v (record { arm = node.arm; off = node.off; clock = node.clock }) (new_vb n role uuid) blank_shelf c a made kept (none_there node.off runs) role
      (noted_node w1 n v bare_node (under Off wrote.0) wrote.0.fuse is) in
      subst (λ nodes. ArmedCame n (λ said t. after_made t n v role said) (fired_by node.arm.fuse wrote.0.fuse) q (record { nodes = nodes; uuids = uuids; links = w.links }) (noted_answer (wrote_of wrote.1) Answer.Ok)) twice
      (came_as n (λ said t. after_noted t n v role said) (λ said t. after_made t n v role said) (fired_by node.arm.fuse wrote.0.fuse) told q (with_node_at w1 n noted_with) (noted_answer (wrote_of wrote.1) Answer.Ok) (same wrote.1) came)
    where
      same : (fate : Fate) → after_noted (told_disk_at q n v (record (q.disk_at n v) { there = true })) n v role (noted_answer (wrote_of fate) Answer.Ok) ≡ after_made q n v role (noted_answer (wrote_of fate) Answer.Ok)
      same Stood = refl
      same WasClosed = refl
      same DiskFailed = refl

      one : (m : ℕ) → (with_node_at (with_node_at w n bare_node) n noted_with).nodes m ≡ (with_node_at w n noted_with).nodes m
      one m = elim (m == n) as (λ b. (if b then Some noted_with else (if b then Some bare_node else w.nodes m)) ≡ (if b then Some noted_with else w.nodes m)) [ true ↦ refl | false ↦ refl ]

      twice : (with_node_at (with_node_at w n bare_node) n noted_with).nodes ≡ (with_node_at w n noted_with).nodes
      twice i m = one m i

-- ---- a vBucket without a branch

module _ (starts : StartsSound) (w : PlainWorld) (r : Chronicle) (c : Cluster) (n v : ℕ) (node : PlainNode) (a : AgreesIn idle w r c) (known : w.nodes n ≡ Some node) (runs : is_some node.off ≡ false) (none : node.vbs v ≡ None) (small : v < 1024) where
  here_is : NothingHere r n v (c.nodes (seat n v)) (c.disks (seat n v))
  here_is = nothing w r c n v 0 Role.Replica node a known runs none small

  replica_holds : VbHolds r n v (c.nodes (seat n v)) (new_vb n Role.Replica 0)
  replica_holds =
      let x = here_is in
      record {
        sound = starts n Role.Replica 0;
        spanned = spanned_none Role.Replica (complete_position 0);
        keeps = record { below = []; parts = x.changes; base = refl; low = omega arith; fits = x.away.fits; weighs = subst (Weighs 0) (sym x.changes) (λ y i. absurd i); entries = All-nil EntryFits; high = ap (last_seq 0) x.changes };
        told = record { held = x.away.told.held; log = x.log; snap = x.away.told.snap ∙ ap (λ (p : Position). Some (p.ss, p.se)) x.position; unlogged = λ e. refl };
        member = record { active = x.away.active; position = x.position; log = x.names };
        branch = x.away.branch;
        holds = subst (λ h. HoldsAt 0 (WholeTo 0 no_spans (complete_position 0)) h (own_history r n v)) (sym x.changes) (holds_none 0 (WholeTo 0 no_spans (complete_position 0)) (own_history r n v) (λ i y. y.1));
      }

  abbrev replica_told : Chronicle
  replica_told = told_disk_at (after_role r n v Role.Replica) n v (record (r.disk_at n v) { there = true })

  replica_bare : AgreesIn idle (with_node_at w n (bare node n v Role.Replica 0)) replica_told c
  replica_bare =
      let q : Chronicle = after_role r n v Role.Replica in
      let rows : (m p : ℕ) → (m ≡ n → p ≡ v → ⊥) → vb_row q m p ≡ vb_row r m p = role_row r n v Role.Replica in
      record {
        sound = a.sound;
        vbs = made_vbs w r c n v 0 Role.Replica node a known runs none small w.uuids q c (λ m p. refl) (λ m. refl) rows (λ j ne. refl) (λ j. refl)
            (role_here r n v Role.Replica (c.nodes (seat n v)) (new_vb n Role.Replica 0) refl refl (λ e. cc) replica_holds)
            (λ m p o. role_there r n v Role.Replica m p (c.nodes (seat m p)) (vb_of w m p) o (writers_rest r n v Role.Replica refl) (a.vbs m p));
        disks = new_disks w r c n v 0 Role.Replica node a known runs none small w.uuids q c (λ m p. refl) (λ m. refl) rows (λ j ne. refl) (λ j. refl);
        branches = a.branches;
        links = made_links w r c n v 0 Role.Replica node a known runs none small w.uuids q c (λ m p. refl) (λ m. refl) rows (λ j ne. refl) (λ j. refl) (λ k. refl) (λ k p. refl) (λ k. refl) (λ k. refl);
        differ = a.differ;
        clients = made_clients w r c n v 0 Role.Replica node a known runs none small w.uuids q c (λ m p. refl) (λ m. refl) rows (λ j ne. refl) (λ j. refl) (λ m d. refl)
            (λ m p o. role_there r n v Role.Replica m p (c.nodes (seat m p)) (vb_of w m p) o (writers_rest r n v Role.Replica refl) (a.vbs m p)) (λ u t. refl) (later_same _ _ refl refl);
        rests = new_rests w r c n v 0 Role.Replica node a known runs none small w.uuids q c (λ m p. refl) (λ m. refl) rows (λ j ne. refl) (λ j. refl);
      }

-- its branch is told for the first time
first_branch : (r : Chronicle) (n v uuid : ℕ) (m : Member) (d : Disk) → IsNew uuid r.tree → NothingHere r n v m d → LawfulBranch r n v uuid None 0 0
first_branch r n v uuid m d new here = record {
  new = new;
  newest = if_known (option_map newest_of (r.log_at n v)) None (ap (option_map newest_of) here.log);
  last = sym (ap (last_seq 0) here.held);
  leaves = if_known (option_map (fork_in 0) (r.snap_at n v)) 0 (ap (option_map (fork_in 0)) (here.away.told.snap ∙ ap (λ (p : Position). Some (p.ss, p.se)) here.position));
}

-- and so is its role
role_new : (r : Chronicle) (n v : ℕ) (said : Role) → r.role_at n v ≡ Some None → r.role_at n v ≡ Some (Some said) → ⊥
role_new r n v said none e = let q : Some (Some said) ≡ Some None = sym e ∙ none in let z : Some said ≡ None = cc in cc

-- ---- an active vBucket on a branch of its own

module _ (starts : StartsSound) (w : PlainWorld) (r : Chronicle) (c : Cluster) (n v uuid : ℕ) (node : PlainNode) (a : AgreesIn idle w r c) (known : w.nodes n ≡ Some node) (runs : is_some node.off ≡ false) (none : node.vbs v ≡ None) (small : v < 1024)
    (unused_yet : is_one_of uuid w.uuids ≡ false) (named : uuid ≡ 0 → ⊥) (fits : uuid < 2 ^ 64) where
  abbrev k : ℕ
  k = seat n v

  abbrev m : Member
  m = c.nodes k

  abbrev branched : Chronicle
  branched = after_branch r n v uuid None 0 0

  abbrev after : Chronicle
  after = after_role branched n v Role.Active

  abbrev risen : Cluster
  risen = happens c (Move.Promote k uuid)

  abbrev told_branch : Branch
  told_branch = record { id = uuid; parent = None; fork = 0; own = changes_between 0 0 (r.held n v) }

  abbrev uuids : List ℕ
  uuids = w.uuids ++ uuid ∷ []

  unmade : NothingHere r n v m (c.disks k)
  unmade = nothing w r c n v uuid Role.Active node a known runs none small

  promoted_is : risen.nodes k ≡ promoted m uuid
  promoted_is = put_here c.nodes k (promoted m uuid)

  no_fork : member_fork m ≡ 0
  no_fork = ap fork_of unmade.position

  is_sound : SoundCluster top risen
  is_sound = keeps top c (Move.Promote k uuid) a.sound (unmade.away.active, a.used uuid unused_yet named, subst (λ (p : Position). p.at ≤ top) (sym unmade.position) (omega arith))

  no_changes : changes_between 0 0 (r.held n v) ≡ []
  no_changes = ap (changes_between 0 0) unmade.held

  branch_here : branched.branch_at n v ≡ Some uuid
  branch_here = at_here r.branch_at n v (Some uuid)

  empty_branch : hist branched.tree uuid ≡ []
  empty_branch = hist_here told_branch r.tree uuid refl ∙ no_changes

  active_holds : VbHolds branched n v (promoted m uuid) (new_vb n Role.Active uuid)
  active_holds = record {
    sound = starts n Role.Active uuid;
    spanned = spanned_none Role.Active (complete_position 0);
    keeps = record {
      below = [];
      parts = unmade.changes;
      base = refl;
      low = omega arith;
      fits = unmade.away.fits;
      weighs = subst (Weighs 0) (sym unmade.changes) (λ y i. absurd i);
      entries = All-cons EntryFits (record { uuid = uuid; seq = 0 }) [] (fits, omega arith) (All-nil EntryFits);
      high = ap (last_seq 0) unmade.changes;
    };
    told = record {
      held = unmade.away.told.held;
      log = at_here r.log_at n v (option_map (with_entry uuid 0) (r.log_at n v)) ∙ ap (option_map (with_entry uuid 0)) unmade.log;
      snap = at_here r.snap_at n v (Some (0, 0));
      unlogged = λ e. let z : Some uuid ≡ None = sym branch_here ∙ e in cc;
    };
    member = record { active = refl; position = ap (λ (p : Position). complete_position p.at) unmade.position; log = λ i. with_entry uuid (no_fork i) (unmade.names i) };
    branch = subst (λ o. BranchAgrees o uuid) (sym branch_here) refl;
    holds = subst (λ h. HoldsAt 0 (WholeTo 0 no_spans (complete_position 0)) h (own_history branched n v)) (sym unmade.changes) (holds_none 0 (WholeTo 0 no_spans (complete_position 0)) (own_history branched n v) (λ i y. y.1));
  }

  writes_here : Writes branched n v uuid
  writes_here = record { branch = branch_here; is_told = is_told_here told_branch r.tree; writer = id_here r.writer_of uuid (Some (n, v)); named = named }

  -- it has nothing of the branch that its member was on
  same_hist : (u : ℕ) (b : Bool) → (uuid == u) ≡ b → hist risen.tree u ≡ hist after.tree u
  same_hist u true e =
      let same : uuid ≡ u = eqb-true uuid u e in
      hist_here (made m uuid) c.tree u same
      ∙ (λ i. upto (hist c.tree (front_or m.br m.log)) (no_fork i) ++ above (unmade.changes i) (no_fork i))
      ∙ ap (λ h. h ++ []) (upto_none 0 (c.tips (front_or m.br m.log)) 0 (hist c.tree (front_or m.br m.log)) (a.sound.tops (front_or m.br m.log)) (omega arith))
      ∙ sym no_changes ∙ sym (hist_here told_branch r.tree u same)
  same_hist u false e = let apart : uuid ≡ u → ⊥ = eqb-false uuid u e in hist_there (made m uuid) c.tree u apart ∙ a.hists u ∙ sym (hist_there told_branch r.tree u apart)

  rows : (j p : ℕ) → (j ≡ n → p ≡ v → ⊥) → vb_row after j p ≡ vb_row r j p
  rows j p o = role_row branched n v Role.Active j p o ∙ branch_row w r c n v uuid None 0 0 a unused_yet named j p o

  others : (j : ℕ) → (j ≡ k → ⊥) → risen.nodes j ≡ c.nodes j
  others = put_there c.nodes k (promoted m uuid)

  same_disks : (j : ℕ) → risen.disks j ≡ c.disks j
  same_disks j = put_itself c.disks k j

  abbrev active_world : PlainWorld
  active_world = record { nodes = (with_node_at w n (bare node n v Role.Active uuid)).nodes; uuids = uuids; links = w.links }

  active_there : (j p : ℕ) → (j ≡ n → p ≡ v → ⊥) → AgreesAt after j p (risen.nodes (seat j p)) (vb_of w j p)
  active_there j p o = subst (λ x. AgreesAt after j p x (vb_of w j p)) (sym (others (seat j p) (seats_apart j p n v o)))
      (role_there branched n v Role.Active j p (c.nodes (seat j p)) (vb_of w j p) o (writers_branched r n v uuid None 0 0 Role.Active) (branch_there w r c n v uuid None 0 0 a unused_yet named j p (vb_of w j p) o (a.vbs j p)))

  active_bare : AgreesIn idle active_world (told_disk_at after n v (record (r.disk_at n v) { there = true })) risen
  active_bare = record {
    sound = is_sound;
    vbs = made_vbs w r c n v uuid Role.Active node a known runs none small uuids after risen (λ j p. refl) (λ j. refl) rows others same_disks
        (subst (λ x. VbAgrees after n v x (new_vb n Role.Active uuid)) (sym promoted_is) (role_here branched n v Role.Active (promoted m uuid) (new_vb n Role.Active uuid) refl refl (λ e. (writes_here, alone_counts branched n v, refl, left_none 0, record { each = λ x i. absurd i })) active_holds))
        active_there;
    disks = new_disks w r c n v uuid Role.Active node a known runs none small uuids after risen (λ j p. refl) (λ j. refl) rows others same_disks;
    branches = record {
      hists = λ u. same_hist u (uuid == u) refl;
      are_told = (refl, no_fork, (λ p e. let z : None ≡ Some p = e in cc), a.are_told);
      fits = λ u. new_fits told_branch r.tree u a.fits (subst (All ChangeFits) (sym empty_branch) (All-nil ChangeFits)) (uuid == u) refl;
      rootless = hist_there (made m uuid) c.tree 0 named ∙ a.rootless;
      ids = (fits, a.ids);
      used = λ u e ne. let p = unused u uuid w.uuids e in ap (λ t. if t then Some (made m uuid) else branch c.tree u) (ne_eqb uuid u p.1) ∙ a.used u p.0 ne;
      fresh = λ u e. let p = unused u uuid w.uuids e in (p.1, a.fresh u p.0);
    };
    links = made_links w r c n v uuid Role.Active node a known runs none small uuids after risen (λ j p. refl) (λ j. refl) rows others same_disks (λ j. refl) (λ j p. refl) (λ j. refl) (λ j. refl);
    differ = a.differ;
    clients = made_clients w r c n v uuid Role.Active node a known runs none small uuids after risen (λ j p. refl) (λ j. refl) rows others same_disks (λ j p. refl) active_there
        (λ u t. hist_there told_branch r.tree u (λ e. new_untold uuid r.tree (a.fresh uuid unused_yet) (subst (IsTold r.tree) (sym e) t))) (later_same _ _ refl refl);
    rests = new_rests w r c n v uuid Role.Active node a known runs none small uuids after risen (λ j p. refl) (λ j. refl) rows others same_disks;
  }

-- ---- the lines

module _ (starts : StartsSound) (w : PlainWorld) (r : Chronicle) (n v : ℕ) (small : v < 1024) (agrees : Agrees w r) where
  abbrev MadeCame : Role → Outcome → Type 0
  MadeCame role x = LineCame n (λ said t. after_made t n v role said) w r x

  -- a line that is refused for such a cause makes nothing
  abbrev Spares : Role → Cause → Type 0
  Spares role why = after_made r n v role (Answer.No why) ≡ r

  -- the arm of a node, before it and after it
  arms_are : (node node' : PlainNode) → w.nodes n ≡ Some node → fired_by (arm_in (w.nodes n)).fuse (arm_in ((with_node_at w n node').nodes n)).fuse ≡ fired_by node.arm.fuse node'.arm.fuse
  arms_are node node' known i = fired_by (arm_in (known i)).fuse (arm_in (if eq-eqb n n refl i then Some node' else w.nodes n)).fuse

  module _ (role : Role) (uuid : ℕ) (node : PlainNode) (known : w.nodes n ≡ Some node) (runs : is_some node.off ≡ false) (none : node.vbs v ≡ None) where
    abbrev lines : List Event
    lines = branch_lines n v role uuid

    -- a vBucket is made, and what its first record comes to is told
    made_came : LawfulFrom r lines → AreQuiet lines
        → Agrees (with_branches lines (with_node_at w n (bare node n v role uuid))) (told_disk_at (after_lines r lines) n v (record ((after_lines r lines).disk_at n v) { there = true }))
        → MadeCame role (with_node_at w n (vb_made n v role uuid node).0, (vb_made n v role uuid node).1)
    made_came lawful quiet bare_agrees =
        subst (λ x. MadeCame role (with_node_at w n x.0, x.1)) (sym (made_is n v uuid role node (blank_now w r agrees.0 n v uuid role node agrees.1 known runs none small).0)) (
          lawful,
          quiet,
          subst (λ how. ArmedCame n (λ said t. after_made t n v role said) how (after_lines r lines) (with_branches lines (with_node_at w n (noted_with n v uuid role node))) (noted_answer (wrote_of (wrote n v uuid role node).1) Answer.Ok))
              (sym (arms_are node (noted_with n v uuid role node) known))
              (written_came n v uuid role node w (with_branches lines w).uuids (after_lines r lines) bare_agrees runs),
        )

  pub replica_came : MadeCame Role.Replica (on_node w n (replica_at n v))
  replica_came = on_node_by (MadeCame Role.Replica) w n (replica_at n v) (refused_came n (λ said t. after_made t n v Role.Replica said) w r Cause.UnknownNode refl agrees)
      (λ node known. kept_came n (λ said t. after_made t n v Role.Replica said) w r node Cause.NodeDown known refl agrees) (λ node known runs. by node known runs (first_cause (replica_causes node v)) refl)
    where
      by : (node : PlainNode) → w.nodes n ≡ Some node → is_some node.off ≡ false → (why : Option Cause) → first_cause (replica_causes node v) ≡ why
          → (let x = refused_or why node (vb_made n v Role.Replica 0 node) in MadeCame Role.Replica (with_node_at w n x.0, x.1))
      by node known runs (Some why) e = kept_came n (λ said t. after_made t n v Role.Replica said) w r node why known (caused (Spares Role.Replica) (replica_causes node v) why e (refl, (refl, tt))) agrees
      by node known runs None e =
          let free = none_there (node.vbs v) (none_hold (replica_causes node v) e).0 in
          let here = here_is starts w r agrees.0 n v node agrees.1 known runs free small in
          made_came Role.Replica 0 node known runs free (record { another = role_new r n v Role.Replica here.role; anew = λ is. cc; pending = λ is. cc }, tt) (tt, tt)
          (more_used (with_node_at w n (bare node n v Role.Replica 0)) (replica_told starts w r agrees.0 n v node agrees.1 known runs free small) [] (agrees.0, replica_bare starts w r agrees.0 n v node agrees.1 known runs free small))

  pub vb_came : (uuid : ℕ) → uuid < 2 ^ 64 → MadeCame Role.Active (on_node w n (vb_at w.uuids n v uuid))
  vb_came uuid fits = on_node_by (MadeCame Role.Active) w n (vb_at w.uuids n v uuid) (refused_came n (λ said t. after_made t n v Role.Active said) w r Cause.UnknownNode refl agrees)
      (λ node known. kept_came n (λ said t. after_made t n v Role.Active said) w r node Cause.NodeDown known refl agrees) (λ node known runs. by node known runs (first_cause (vb_causes w.uuids node v uuid)) refl)
    where
      by : (node : PlainNode) → w.nodes n ≡ Some node → is_some node.off ≡ false → (why : Option Cause) → first_cause (vb_causes w.uuids node v uuid) ≡ why
          → (let x = refused_or why node (vb_made n v Role.Active uuid node) in MadeCame Role.Active (with_node_at w n x.0, x.1))
      by node known runs (Some why) e = kept_came n (λ said t. after_made t n v Role.Active said) w r node why known (caused (Spares Role.Active) (vb_causes w.uuids node v uuid) why e (refl, (refl, (refl, (refl, tt))))) agrees
      by node known runs None e =
          let p = none_hold (vb_causes w.uuids node v uuid) e in
          let free = none_there (node.vbs v) p.0 in let named = eqb-false uuid 0 p.1.1.0 in
          let here = unmade starts w r agrees.0 n v uuid node agrees.1 known runs free small p.1.1.1.0 named fits in
          let up : (r.arm_at n).down ≡ false = (subst (PowerIsIf (r.arm_at n)) (ap power_in known) (agrees.1.powers n)).down ∙ runs in
          let read = branch_line r n v uuid None 0 0 up in
          made_came Role.Active uuid node known runs free (first_branch r n v uuid (agrees.0.nodes (seat n v)) (agrees.0.disks (seat n v)) (agrees.1.fresh uuid p.1.1.1.0) here, (subst (λ b. LawfulRole b n v Role.Active) (sym read) (record { another = role_new (after_branch r n v uuid None 0 0) n v Role.Active here.role; anew = λ is. inl (risen_anew r n v uuid None 0 0); pending = λ is. cc }), tt)) (tt, (tt, tt))
          (subst (λ b. Agrees (with_branches (Event.Branch n v uuid None 0 0 ∷ Event.Role n v Role.Active ∷ []) (with_node_at w n (bare node n v Role.Active uuid))) (told_disk_at (after_role b n v Role.Active) n v (record ((after_role b n v Role.Active).disk_at n v) { there = true }))) (sym read)
          (risen starts w r agrees.0 n v uuid node agrees.1 known runs free small p.1.1.1.0 named fits, active_bare starts w r agrees.0 n v uuid node agrees.1 known runs free small p.1.1.1.0 named fits))

-- the lines under their node's arm
module _ (starts : StartsSound) (stays : StaysSound) (w : PlainWorld) (r : Chronicle) (n v : ℕ) (small : v < 1024) (a : Agrees w r) where
  pub vb_goes : (uuid : ℕ) → uuid < 2 ^ 64 → LineGoes r (λ told. after_made told n v Role.Active (vb_step w n v uuid).1.answer) (vb_step w n v uuid)
  vb_goes uuid fits = came_goes stays n (λ said told. after_made told n v Role.Active said) (made_noting n v Role.Active) w r (on_node w n (vb_at w.uuids n v uuid)) a (vb_came starts w r n v small a uuid fits)

  pub replica_goes : let x = with_arm n w (on_node w n (replica_at n v)) in LineGoes r (λ told. after_made told n v Role.Replica x.1.answer) x
  replica_goes = came_goes stays n (λ said told. after_made told n v Role.Replica said) (made_noting n v Role.Replica) w r (on_node w n (replica_at n v)) a (replica_came starts w r n v small a)
