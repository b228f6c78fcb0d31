-- a vBucket that was active takes its new branch, which is written down under the node's arm
use Rattle.std.specs.Prelude.{◌≡◌, ◌<◌, ◌∷◌, ◌++◌, ◌==◌, ◌^◌, ◌&&◌, if◌then◌else◌}
use Rattle.transcript_law.proofs.Words.{ℕ, Bool, true, false, List, [], refl, ap, sym, ◌∙◌, subst, inl, inr, ⊎_elim, Some, None, not, is_some, eq-eqb, eqb-true, ne_eqb, Answer, Cause, Chronicle, Cluster, Event, Move, Plain, PlainLink, PlainNode, PlainWorld, Change, States, after_lines, newest_branch}
use Rattle.transcript_law.proofs.Words.{VbAnswer, VbCall, ending_reply, plain_step, after_branch, after_role, consumer_node, fork_of, happens, is_active, is_one_of, led, links_ended, parent_of, producer_node, ended_by, shelf_in, last_seq, stream_ids, vb_in, with_at, with_node_at, with_vb_at}
use Rattle.transcript_law.proofs.{invariant.Agreement.{Agrees, AgreesAt, AgreesIn, IsLink, Power, PowerIs, PowerIsIf, VbAgrees, idle, shelf_of, vb_of}, disks.Appending.{Noted, noted_node, state_came}, disks.ArmedLines.{ArmedCame}, disks.Burning.{BreaksUnder, StandsUnder, breaks_under, stands_under}}
use Rattle.transcript_law.proofs.{disks.Disks.{power_in}, verbs.NodeLines.{node_grown, shelves_again, writers_branched}, verbs.RestartCalls.{fate, left, node', reply, what}, verbs.Rising.{promote_is, rose}, verbs.RoleCalls.{said_of}, invariant.Seats.{seat}, invariant.Tables.{at_here}, links.Turning.{NoneFeeds, Turned}}
use Rattle.transcript_law.proofs.invariant.{Carrying.{same_arms}, Clientless.{known_apart}}
use Rattle.{node_core.specs.Clients.{client_ended}, std.specs.Option.{option_map}, transcript_law.specs.{ClientStreams.{past_turn}, Feeding.{client_in}}}
use Rattle.disk_journals.specs.Arms.{under}
use Rattle.node_core.specs.Calls.{own_lines}
use Rattle.transcript_law.proofs.{invariant.Carrying.{Changed}, lines.Changes.{arms_same, roles_past, roles_same}, invariant.JobSteps.{put_found, put_over}, verbs.Settling.{SettlesOn, Steady, changes_told, settled_told, settles}}
use Rattle.vb_calls.specs.Settling.{and_settled, settled, unresolved}
use Rattle.node_world.specs.Arms.{fired_by}
use Rattle.node_world.specs.declared.arm.Fired.TheVariants as fired
use Rattle.transcript_law.specs.Chronicles.{ArmKnown, after_calls, after_noted, after_restart, alone, broken_by, calls_of_append, is_off, spent, state_of, with_disk, with_record}
use Rattle.transcript_law.specs.Lawfulness.{IsToFail, IsToStop}
use Rattle.transcript_law.specs.LineAnswers.{FailsIn, PassesAppend, StopsIn}
use Rattle.vb_calls.specs.Shelves.{Fate, Shelf, Stood, DiskFailed, WasClosed, after_fate}
use Rattle.vb_disk.specs.declared.fuse.Fuse.{Fuse}
use Rattle.vb_disk.specs.declared.fuse.Fuse.TheVariants.{Off, Stop, Fail}
use Rattle.vb_journal.specs.UnderArms.{all_pass, burnt_noting}
use Rattle.vb_types.specs.declared.role.Role.TheVariants as role
use Rattle.transcript_law.proofs.invariant.Holdings.{opened_is}

-- no link has an end at the node n
abbrev pub NoEnds : ℕ → List PlainLink → Type 0
NoEnds n links = (x : PlainLink) → IsLink x links → (producer_node x ≡ n → ⊥) × (consumer_node x ≡ n → ⊥)

-- so none is told of a change of role there
untold : (n v : ℕ) (ids : List ℕ) (links : List PlainLink) → NoEnds n links → links_ended n v ids links ≡ links
untold n v ids [] free = refl
untold n v ids (x ∷ xs) free = (λ i. ap (λ b. if b then record x { server = ended_by v ids x.server } else x) (ne_eqb (producer_node x) n (free x (inl refl)).0) i ∷ untold n v ids xs (λ y j. free y (inr j)) i)

-- a table with what it has
pub at_same : {A : Type 0} (table : ℕ → ℕ → A) (n v : ℕ) (x : A) → table n v ≡ x → with_at table n v x ≡ table
at_same table n v x e = λ i m q. (elim (m == n) as (λ b. (m == n) ≡ b → (if b && q == v then x else table m q) ≡ table m q) [
  | true ↦ λ s. elim (q == v) as (λ b. (q == v) ≡ b → (if b then x else table m q) ≡ table m q) [ true ↦ λ t. sym e ∙ (λ j. table (sym (eqb-true m n s) j) (sym (eqb-true q v t) j)) | false ↦ λ t. refl ] refl
  | false ↦ λ s. refl
] refl) i

pub fails_to : (calls : ℕ) (f : Fuse) → FailsIn calls f → IsToFail f
fails_to calls (Fail k) x = x.0
fails_to calls (Stop k) x = absurd x
fails_to calls Off x = absurd x

pub stops_to : (calls : ℕ) (f : Fuse) → StopsIn calls f → IsToStop f
stops_to calls (Stop k) x = x.0
stops_to calls (Fail k) x = absurd x
stops_to calls Off x = absurd x

-- a node that was loaded runs, and has no client
abbrev pub IsFresh : PlainNode → Type 0
IsFresh node = (node.off ≡ None) × ((d : ℕ) → node.clients d ≡ None)

module _ (steady : Steady) (w : PlainWorld) (n : ℕ) (free : NoEnds n w.links) where
  -- the world in which the node is this, and these ids are used
  abbrev pub world : PlainNode → List ℕ → PlainWorld
  world node used = record { nodes = (with_node_at w n node).nodes; uuids = used; links = w.links }

  pub twice : (a b : PlainNode) (used : List ℕ) → with_node_at (world a used) n b ≡ world b used
  twice a b used = λ i. record {
    nodes = λ m. (elim (m == n) as (λ k. (if k then Some b else (if k then Some a else w.nodes m)) ≡ (if k then Some b else w.nodes m)) [ true ↦ refl | false ↦ refl ]) i;
    uuids = used;
    links = w.links;
  }

  module _ (node : PlainNode) (used : List ℕ) (r : Chronicle) (c : Cluster) (a : AgreesIn idle (world node used) r c) (up : IsFresh node) (v uuid : ℕ) (vb : Plain) (there : node.vbs v ≡ Some vb) (rests : is_active vb.role ≡ false)
      (sealed : (vb.spans.current ≡ None) × (vb.role ≡ role.Pending → ⊥)) (shelf : Shelf) (kept : node.shelves v ≡ Some shelf) (opens : shelf.is_closed ≡ false) (unused : is_one_of uuid used ≡ false) (named : uuid ≡ 0 → ⊥) (small : uuid < 2 ^ 64) where
    abbrev f : Fuse
    f = node.arm.fuse

    abbrev pub line : Event
    line = Event.Branch n v uuid (parent_of vb.log) (fork_of vb.position) vb.position.at

    abbrev pub branched : Chronicle
    branched = after_branch r n v uuid (parent_of vb.log) (fork_of vb.position) vb.position.at

    -- what is read with its branch and its role, where no client is told of it
    abbrev turned_role : Chronicle
    turned_role = after_role branched n v role.Active

    abbrev pub active : Chronicle
    active = record turned_role { clients_at = branched.clients_at }

    here : (x : PlainNode) → (with_node_at w n x).nodes n ≡ Some x
    here x = ap (λ b. if b then Some x else w.nodes n) (eq-eqb n n refl)

    known : vb_of (world node used) n v ≡ Some vb
    known = ap (λ o. vb_in o v) (here node) ∙ there

    none_feeds : NoneFeeds n v w.links
    none_feeds x i s t = (free x i).1 s

    -- it is on its branch
    abbrev led_vb : Plain
    led_vb = led vb uuid

    abbrev led_node : PlainNode
    led_node = record node { vbs = with_vb_at node.vbs v led_vb }

    abbrev w0 : PlainWorld
    w0 = world led_node (used ++ uuid ∷ [])

    pub call_is : plain_step vb (VbCall.Promote uuid) ≡ and_settled (led_vb, ending_reply vb (VbAnswer.Branch uuid (parent_of vb.log) (fork_of vb.position) vb.position.at))
    call_is = promote_is steady (world node used) w0 r c n v uuid vb a known none_feeds rests unused named small

    became : Turned (world node used) w0 n v led_vb (stream_ids vb.streams)
    became = let one = node_grown w n v node led_node led_vb (λ q. refl) (λ q o. refl) refl in record {
      powers = same_arms (world node used) (with_node_at w n led_node) one.powers;
      clients = λ m d. elim (m == n) as (λ b. client_in (if b then Some led_node else w.nodes m) d ≡ (let o = client_in (if b then Some node else w.nodes m) d in if b then option_map (client_ended v (stream_ids vb.streams)) o else o))
          [ true ↦ up.1 d ∙ ap (option_map (client_ended v (stream_ids vb.streams))) (sym (up.1 d)) | false ↦ refl ];
      here = one.here;
      there = one.there;
      shelves = shelves_again w n node led_node (λ q. refl);
      linked = sym (untold n v (stream_ids vb.streams) w.links free);
    }

    led_agrees : AgreesIn idle w0 active (happens c (Move.Promote (seat n v) uuid))
    led_agrees = known_apart idle w0 turned_role (happens c (Move.Promote (seat n v) uuid)) n branched.clients_at (rose steady (world node used) w0 r c n v uuid vb a known none_feeds rests unused named small became refl)
        (λ d. ap (λ o. client_in o d) (here led_node) ∙ up.1 d) (λ m d ne. sym (ap (λ b. if b then past_turn v (branched.held n v) (branched.clients_at m d) else branched.clients_at m d) (ne_eqb m n ne)))

    -- and commits what may be committed
    pub settles_on : SettlesOn w0 active n v (unresolved led_vb) (settled led_vb)
    settles_on = settles steady.commits n v w0 active (happens c (Move.Promote (seat n v) uuid)) led_node led_vb led_agrees (here led_node) (put_found node.vbs v led_vb)

    abbrev pub cs : List Change
    cs = settles_on.cs

    pub told_is : own_lines n v (reply node n v uuid vb shelf there kept call_is) ≡ changes_told n v uuid cs
    told_is = settled_told n v (ending_reply vb (VbAnswer.Branch uuid (parent_of vb.log) (fork_of vb.position) vb.position.at)) led_vb uuid cs refl settles_on.changes (ap newest_branch settles_on.log)

    abbrev vb' : Plain
    vb' = (settled led_vb).vb

    abbrev node1 : PlainNode
    node1 = record node { vbs = with_vb_at node.vbs v vb' }

    abbrev w1 : PlainWorld
    w1 = world node1 (used ++ uuid ∷ [])

    changed : Changed w0 w1 n v vb' w0.links
    changed = let one = node_grown w n v led_node node1 vb' (λ q. sym (ap (λ (f : States). f q) (put_over node.vbs v led_vb vb'))) (λ q o. refl) refl in
        record { powers = one.powers; here = one.here; there = one.there; shelves = one.shelves; uuids = refl; linked = refl }

    abbrev active_on : Chronicle
    active_on = after_lines active (changes_told n v uuid cs)

    risen : Agrees w1 active_on
    risen = settles_on.agrees w1 changed (shelves_again w n led_node node1 (λ q. refl) n v)

    -- ---- it is written down

    abbrev pub node2 : PlainNode
    node2 = node' node n v uuid vb shelf there kept call_is

    abbrev pub left_shelf : Shelf
    left_shelf = left node n v uuid vb shelf there kept call_is

    abbrev pub came : Fate
    came = fate node n v uuid vb shelf there kept call_is

    abbrev w2 : PlainWorld
    w2 = world node2 (used ++ uuid ∷ [])

    abbrev power : Power
    power = record { arm = node.arm; off = node.off; clock = node.clock }

    known1 : vb_of w1 n v ≡ Some vb'
    known1 = changed.here

    kept1 : shelf_of w1 n v ≡ Some shelf
    kept1 = ap (λ o. shelf_in o v) (here node1) ∙ kept

    noted_so : Noted w1 w2 n v power (under Off left_shelf) left_shelf.fuse
    noted_so = subst (λ y. Noted w1 y n v power (under Off left_shelf) left_shelf.fuse) (twice node1 node2 (used ++ uuid ∷ [])) (noted_node w1 n v node1 (under Off left_shelf) left_shelf.fuse (here node1))

    armed_came : ArmedCame n (λ said told. after_noted told n v role.Active said) (fired_by f left_shelf.fuse) active_on w2 (said_of came)
    armed_came = state_came w1 w2 active_on n v power vb' shelf risen.0 risen.1 known1 kept1 up.0 role.Active noted_so

    -- ---- and so the lines tell

    pub mine : VbAgrees r n v (c.nodes (seat n v)) vb
    mine = subst (AgreesAt r n v (c.nodes (seat n v))) known (a.vbs n v)

    not_open : with_at branched.open_at n v false ≡ branched.open_at
    not_open = at_same branched.open_at n v false (opened_is vb.role (r.open_at n v) (is_some vb.spans.current) sealed.1 mine.opened ∙ ap is_some sealed.0)

    -- with its branch it was told to be at the end of what it holds, and to have counted nothing since
    abbrev last : ℕ
    last = last_seq 0 (r.held n v)

    same_snap : with_at branched.snap_at n v (Some (last, last)) ≡ branched.snap_at
    same_snap = at_same branched.snap_at n v (Some (last, last)) (at_here r.snap_at n v (Some (vb.position.at, vb.position.at)) ∙ ap (λ k. Some (k, k)) (sym (ap (last_seq 0) mine.held ∙ mine.high)))

    same_counts : with_at branched.counts_at n v (alone last) ≡ branched.counts_at
    same_counts = at_same branched.counts_at n v (alone last) (at_here r.counts_at n v (alone last))

    -- so its role tells no more than that
    pub active_as : active ≡ record branched { role_at = with_at branched.role_at n v (Some (Some role.Active)); open_at = with_at branched.open_at n v false }
    active_as = λ i. record branched { role_at = with_at branched.role_at n v (Some (Some role.Active)); open_at = with_at branched.open_at n v false; writer_of = λ u. writers_branched r n v uuid (parent_of vb.log) (fork_of vb.position) vb.position.at role.Active u i; snap_at = same_snap i; counts_at = same_counts i }

    pub arm_is : PowerIs (r.arm_at n) power
    arm_is = subst (PowerIsIf (r.arm_at n)) (ap power_in (here node)) (a.powers n)

    -- what is read with its branch and its changes
    abbrev changed_told : Chronicle
    changed_told = after_lines branched (changes_told n v uuid cs)

    -- with the branch the vBucket takes writes again, and that is written down
    abbrev pub told : Chronicle
    told = after_restart changed_told n v

    -- and with its role
    abbrev active_vb_lines : Chronicle
    active_vb_lines = record changed_told { role_at = with_at changed_told.role_at n v (Some (Some role.Active)) }

    active_is : active_on ≡ active_vb_lines
    active_is =
        ap (λ x. after_lines x (changes_told n v uuid cs)) active_as
        ∙ ap (λ o. after_lines (record branched { role_at = with_at branched.role_at n v (Some (Some role.Active)); open_at = o }) (changes_told n v uuid cs)) not_open
        ∙ roles_past (with_at branched.role_at n v (Some (Some role.Active))) branched n v uuid cs
        ∙ ap (λ t. record changed_told { role_at = with_at t n v (Some (Some role.Active)) }) (sym (roles_same branched n v uuid cs))

    came_so : ArmedCame n (λ said told. after_noted told n v role.Active said) (fired_by f left_shelf.fuse) active_vb_lines w2 (said_of came)
    came_so = subst (λ x. ArmedCame n (λ said told. after_noted told n v role.Active said) (fired_by f left_shelf.fuse) x w2 (said_of came)) active_is armed_came

    fuse_is : (changed_told.arm_at n).fuse ≡ f
    fuse_is = ap (λ (t : ℕ → ArmKnown). (t n).fuse) (arms_same branched n v uuid cs) ∙ arm_is.fuse

    -- by whether the append was hit
    abbrev told_if : Bool → Chronicle
    told_if hit =
        let d = changed_told.disk_at n v in let what = state_of changed_told n v role.Active in
        after_calls calls_of_append n (with_disk active_vb_lines n v (if hit then broken_by (changed_told.arm_at n).fuse (Some what) d else with_record what d))

    result_of_fate : (hit : Bool) → (is_off (spent calls_of_append f) && not (is_off f)) ≡ hit → told ≡ told_if hit
    result_of_fate hit e = ap told_if (ap (λ g. is_off (spent calls_of_append g) && not (is_off g)) fuse_is ∙ e)

    stood_is : told_if false ≡ after_noted active_vb_lines n v role.Active Answer.Ok
    stood_is = refl

    broken_is : told_if true ≡ after_noted active_vb_lines n v role.Active (Answer.No Cause.Disk)
    broken_is = refl

    -- what it comes to: the record stands; or the disk failed; or the node stopped
    pub data Restarted : Type 0 where
      Stands : fired_by f left_shelf.fuse ≡ fired.No → said_of came ≡ Answer.Ok → PassesAppend f → Agrees w2 told → Restarted
      Fails : fired_by f left_shelf.fuse ≡ fired.Failed → said_of came ≡ Answer.No Cause.Disk → FailsIn calls_of_append f → spent calls_of_append f ≡ Off → Agrees w2 told → Restarted
      Stops : fired_by f left_shelf.fuse ≡ fired.Stopped → said_of came ≡ Answer.No Cause.Disk → StopsIn calls_of_append f → Agrees w2 told → Restarted

    fate_is : (b : Bool) → all_pass f ≡ b → came ≡ (if b then Stood else DiskFailed)
    fate_is b e = ap (λ x. if x then WasClosed else if all_pass f then Stood else DiskFailed) opens ∙ ap (λ x. if x then Stood else DiskFailed) e

    left_is : (b : Bool) → all_pass f ≡ b → left_shelf.fuse ≡ burnt_noting f
    left_is true e = ap (λ y. (after_fate (under f shelf) (what node n v uuid vb shelf there kept call_is) y).fuse) (fate_is true e)
    left_is false e = ap (λ y. (after_fate (under f shelf) (what node n v uuid vb shelf there kept call_is) y).fuse) (fate_is false e)

    by : (b : Bool) → all_pass f ≡ b → Restarted
    by true e =
        let s : StandsUnder f = stands_under f arm_is.may_fire e in
        let quiet : fired_by f left_shelf.fuse ≡ fired.No = ap (fired_by f) (left_is true e ∙ s.left) ∙ s.quiet in
        let said : said_of came ≡ Answer.Ok = ap said_of (fate_is true e) in
        Restarted.Stands quiet said s.answers (subst (Agrees w2) (sym (result_of_fate false s.off_before ∙ stood_is)) (subst (λ y. Agrees w2 (after_noted active_vb_lines n v role.Active y)) said (subst (λ y. ArmedCame n (λ said told. after_noted told n v role.Active said) y active_vb_lines w2 (said_of came)) quiet came_so)))
    by false e =
        let s : BreaksUnder f = breaks_under f arm_is.may_fire e in
        let said : said_of came ≡ Answer.No Cause.Disk = ap said_of (fate_is false e) in
        let now : told ≡ after_noted active_vb_lines n v role.Active (Answer.No Cause.Disk) = result_of_fate true s.off_now ∙ broken_is in
        ⊎_elim
        (λ h.
        let failed : fired_by f left_shelf.fuse ≡ fired.Failed = ap (fired_by f) (left_is false e ∙ s.left) ∙ h.1 in
        let x = subst (λ y. ArmedCame n (λ said told. after_noted told n v role.Active said) y active_vb_lines w2 (said_of came)) failed came_so in
        Restarted.Fails failed said h.0 s.spent_off (subst (Agrees w2) (sym now) (subst (λ y. Agrees w2 (after_noted active_vb_lines n v role.Active y)) said x.1)))
        (λ h.
        let stopped : fired_by f left_shelf.fuse ≡ fired.Stopped = ap (fired_by f) (left_is false e ∙ s.left) ∙ h.1 in
        let x = subst (λ y. ArmedCame n (λ said told. after_noted told n v role.Active said) y active_vb_lines w2 (said_of came)) stopped came_so in
        Restarted.Stops stopped said h.0 (subst (Agrees w2) (sym now) (subst (λ y. Agrees w2 (after_noted active_vb_lines n v role.Active y)) said x.2)))
        s.how

    pub restarted : Restarted
    restarted = by (all_pass f) refl
