-- the vBuckets that were active start one after the other
use Rattle.std.specs.Prelude.{◌≡◌, ◌<◌, ◌∷◌, ◌++◌, ◌^◌, ◌⊎◌, ◌||◌, if◌then◌else◌, ◌+◌, ◌*◌, ◌≤◌}
use Rattle.transcript_law.proofs.Words.{ℕ, last_seq, true, false, List, [], refl, ap, sym, ◌∙◌, subst, arith, inl, inr, ⊎_elim, append-nil, append_assoc, filter-append, flat_map, Some, None, eq-eqb, ne_eqb, Answer, Chronicle, Cluster, Event, Plain, PlainLink, PlainNode, PlainWorld, LawfulFrom, Bool, Change, after_branch, after_lines, option_map, with_entry, with_id, length}
use Rattle.transcript_law.proofs.Words.{after_line, branch_of_line, consumer_node, fork_of, producer_node, is_active, is_one_of, parent_of, with_node_at, with_at, changes_between, ending_reply, led, parent_branch, plain_step, VbAnswer, VbCall}
use Rattle.transcript_law.proofs.{invariant.Agreement.{Agrees, AgreesIn, IsLink, PowerIs, idle}, lines.Calm.{Calm, calm_map, calm_more, fires_once}, lines.Changes.{Reads, arms_same, branch_read, changes_read, reads_changes, restart_past, restart_saved, roles_past, roles_same}, lines.Lines.{lawful_more}, verbs.NodeLines.{branch_of}, invariant.Seats.{seat}, verbs.Settling.{Steady, changes_quiet, changes_told}, verbs.RestartCalls.{fate, left, node', start_came}, verbs.RoleCalls.{said_of}, verbs.Restarting.{IsFresh, NoEnds, Restarted, active_as, arm_is, call_is, cs, mine, restarted, settles_on, told_is, twice, world, fails_to, stops_to}, verbs.StartTold.{Apart, AreStarts, apart_changes, starts_changes, told_by, told_each_change}, invariant.Tables.{id_here}}
use Rattle.node_world.specs.Power.{Starting, first_no, started_by, starts_from, stopped_node, touches}
use Rattle.disk_journals.specs.Arms.{under}
use Rattle.node_core.specs.Flushing.{FlushResult}
use Rattle.node_world.specs.Arms.{fired_by}
use Rattle.node_world.specs.declared.arm.Fired.{Fired}
use Rattle.node_world.specs.declared.told.Told.{Told}
use Rattle.transcript_law.specs.Chronicles.{ArmKnown, alone, after_crash, after_restart, after_stop, spent, calls_of_append}
use Rattle.transcript_law.proofs.disks.Burning.{fails_more, spent_fails, spent_passes, spent_stops, spent_twice, stops_more}
use Rattle.transcript_law.specs.Firings.{FiresAsSaid, mishaps, is_mishap}
use Rattle.transcript_law.specs.Lawfulness.{IsToFail, IsToStop, LawfulBranch}
use Rattle.transcript_law.specs.LineAnswers.{FailsIn, MakesBranch, PassesIn, StopsIn}
use Rattle.vb_calls.specs.Shelves.{Shelf}
use Rattle.vb_disk.specs.declared.fuse.Fuse.{Fuse}
use Rattle.vb_disk.specs.declared.fuse.Fuse.TheVariants.{Off}
use Rattle.vb_disk.specs.declared.made.Outcome.{Outcome}
use Rattle.transcript_law.proofs.indexers.Beside.{beside}
use Rattle.transcript_law.specs.LinesTold.{roles_from, without_node}
use Rattle.vb_calls.specs.Settling.{and_settled, settled}
use Rattle.vb_types.specs.declared.role.Role.TheVariants as role
use Rattle.vb_events.specs.declared.event.Answer.TheVariants as answer
use Rattle.vb_events.specs.declared.event.Cause.TheVariants as cause

-- a node at which no link has an end stops
abbrev pub Crashes : Type 0
Crashes = (w : PlainWorld) (r : Chronicle) (n : ℕ) (node : PlainNode) (out : Outcome) → Agrees w r → w.nodes n ≡ Some node → node.off ≡ None → ((x : PlainLink) → IsLink x w.links → touches n x ≡ false)
    → Agrees (with_node_at w n (stopped_node out node)) (after_crash r n out)

-- a vBucket that may take a new branch, with its journal open
pub record Ready (node : PlainNode) (v : ℕ) : Type 0 where
  pub vb : Plain
  pub there : node.vbs v ≡ Some vb
  pub rests : is_active vb.role ≡ false
  pub sealed : (vb.spans.current ≡ None) × (vb.role ≡ role.Pending → ⊥)
  pub shelf : Shelf
  pub kept : node.shelves v ≡ Some shelf
  pub opens : shelf.is_closed ≡ false

abbrev pub AllReady : PlainNode → List (ℕ × ℕ) → Type 0
AllReady node [] = Unit {0}
AllReady node (s ∷ starts) = Ready node s.0 × AllReady node starts

-- none of them is of this vBucket; they differ
abbrev pub NotAmong : ℕ → List (ℕ × ℕ) → Type 0
NotAmong v [] = Unit {0}
NotAmong v (s ∷ starts) = (s.0 ≡ v → ⊥) × NotAmong v starts

abbrev pub AreApart : List (ℕ × ℕ) → Type 0
AreApart [] = Unit {0}
AreApart (s ∷ starts) = NotAmong s.0 starts × AreApart starts

-- their ids are free, one after the other
abbrev pub AreFree : List ℕ → List (ℕ × ℕ) → Type 0
AreFree used [] = Unit {0}
AreFree used (s ∷ starts) = (is_one_of s.1 used ≡ false) × (s.1 ≡ 0 → ⊥) × (s.1 < 2 ^ 64) × AreFree (used ++ s.1 ∷ []) starts

-- each of them makes its branch
abbrev pub AllMake : ℕ → List (ℕ × ℕ) → List Event → Type 0
AllMake n [] lines = Unit {0}
AllMake n (s ∷ starts) lines = MakesBranch n s.0 lines × AllMake n starts lines

-- all device calls behind these starts, of which each makes those of an append
abbrev pub calls_behind : ℕ → List (ℕ × ℕ) → ℕ
calls_behind calls [] = calls
calls_behind calls (s ∷ starts) = calls_behind (calls + calls_of_append) starts

pub behind_is : (calls : ℕ) (starts : List (ℕ × ℕ)) → calls_behind calls starts ≡ calls + calls_of_append * length starts
behind_is calls [] = omega arith
behind_is calls (s ∷ starts) = let next = behind_is (calls + 4) starts in omega (arith, next)

behind_more : (calls : ℕ) (starts : List (ℕ × ℕ)) → calls ≤ calls_behind calls starts
behind_more calls starts = let is = behind_is calls starts in omega (arith, is)

-- what the lines alone tell, while the node is told down, and what is read with each: the same of branches, roles and what is held, and of the arm what so many device calls leave
pub record Alike (n calls : ℕ) (q r : Chronicle) : Type 0 where
  pub reads : Reads q r
  pub down : (q.arm_at n).down ≡ true
  pub spends : (r.arm_at n).fuse ≡ spent calls (q.arm_at n).fuse

-- what was told so far, behind so many calls: of no arm, as none of them was hit; or of one that failed, and the arm is off since
abbrev pub SoFar : Chronicle → Chronicle → ℕ → ℕ → Told → Type 0
SoFar q r n calls told = ((told.answer ≡ answer.Ok) × Calm told.events × PassesIn calls (q.arm_at n).fuse)
    ⊎ ((told.answer ≡ answer.No cause.Disk) × FailsIn calls (q.arm_at n).fuse × (mishaps told.events ≡ Event.CallFailed n ∷ []) × ((r.arm_at n).fuse ≡ Off))

-- how a node that starts comes out, which makes so many calls: it runs, whether an append failed or not; or it stopped
pub data Ended (q : Chronicle) (n calls : ℕ) (said : Answer) (w : PlainWorld) (r : Chronicle) : Type 0 where
  Runs : said ≡ answer.Ok → PassesIn calls (q.arm_at n).fuse → Agrees w r → Ended q n calls said w r
  Fails : said ≡ answer.No cause.Disk → FailsIn calls (q.arm_at n).fuse → Agrees w r → Ended q n calls said w r
  Stops : said ≡ answer.No cause.Stopped → StopsIn calls (q.arm_at n).fuse → Agrees w (after_stop r n) → Ended q n calls said w r

makes_more : (n v : ℕ) (line : Event) (lines : List Event) → MakesBranch n v lines → MakesBranch n v (line ∷ lines)
makes_more n v (Event.Branch m q uuid parent fork high) lines x = inr x
makes_more n v other lines x = x

all_more : (n : ℕ) (starts : List (ℕ × ℕ)) (line : Event) (lines : List Event) → AllMake n starts lines → AllMake n starts (line ∷ lines)
all_more n [] line lines x = tt
all_more n (s ∷ starts) line lines x = (makes_more n s.0 line lines x.0, all_more n starts line lines x.1)

-- changes stand in front
all_behind : (n : ℕ) (starts : List (ℕ × ℕ)) (m q uuid : ℕ) (cs : List Change) (lines : List Event) → AllMake n starts lines → AllMake n starts (changes_told m q uuid cs ++ lines)
all_behind n starts m q uuid [] lines x = x
all_behind n starts m q uuid (c ∷ cs) lines x = all_more n starts (Event.Changed m q uuid c) (changes_told m q uuid cs ++ lines) (all_behind n starts m q uuid cs lines x)

branched_more : (n v uuid : ℕ) (cs : List Change) (lines : List Event) → flat_map branch_of_line (changes_told n v uuid cs ++ lines) ≡ flat_map branch_of_line lines
branched_more n v uuid [] lines = refl
branched_more n v uuid (c ∷ cs) lines = branched_more n v uuid cs lines

module _ (steady : Steady) (crashes : Crashes) (w : PlainWorld) (n : ℕ) (free : NoEnds n w.links) where
  abbrev pub with_it : PlainNode → List ℕ → PlainWorld
  with_it node used = world steady w n free node used

  -- what the starts come to, behind what was told
  pub record Started (starts : List (ℕ × ℕ)) (used : List ℕ) (before : Told) (calls : ℕ) (q r : Chronicle) (came : Starting) : Type 0 where
    pub lines : List Event
    pub events : came.1.events ≡ before.events ++ lines
    pub lawful : LawfulFrom q lines
    pub are : AreStarts lines
    pub apart : (v : ℕ) → NotAmong v starts → Apart v lines
    pub make : came.1.answer ≡ answer.Ok → AllMake n starts lines
    pub fires : FiresAsSaid (Some n) came.1.events came.1.answer
    pub ended : Ended q n (calls_behind calls starts) came.1.answer (with_it came.0 (used ++ flat_map branch_of_line lines)) (told_by r lines)

  none_left : (node : PlainNode) (used : List ℕ) (before : Told) (calls : ℕ) (q r : Chronicle) → SoFar q r n calls before → Agrees (with_it node used) r → Started [] used before calls q r (node, before)
  none_left node used before calls q r so_far a = record {
    lines = [];
    events = sym (append-nil before.events);
    lawful = tt;
    are = tt;
    apart = λ v x. tt;
    make = λ e. tt;
    fires = ⊎_elim (λ p. subst (FiresAsSaid (Some n) before.events) (sym p.0) p.1) (λ p. subst (FiresAsSaid (Some n) before.events) (sym p.0) p.2) so_far;
    ended = subst (λ ids. Ended q n calls before.answer (with_it node ids) r) (sym (append-nil used)) (⊎_elim (λ p. Ended.Runs p.0 p.2 a) (λ p. Ended.Fails p.0 p.1 a) so_far);
  }

  -- the others are ready as before
  still_ready : (node after : PlainNode) (v : ℕ) (starts : List (ℕ × ℕ)) → ((u : ℕ) → (u ≡ v → ⊥) → (after.vbs u ≡ node.vbs u) × (after.shelves u ≡ node.shelves u)) → NotAmong v starts → AllReady node starts → AllReady after starts
  still_ready node after v [] same other x = tt
  still_ready node after v (s ∷ starts) same other x =
      let e = same s.0 other.0 in let y = x.0 in
      (record { vb = y.vb; there = e.0 ∙ y.there; rests = y.rests; sealed = y.sealed; shelf = y.shelf; kept = e.1 ∙ y.kept; opens = y.opens }, still_ready node after v starts same other.1 x.1)

  -- one start, and what the others come to behind it
  module _ (node : PlainNode) (used : List ℕ) (before : Told) (calls : ℕ) (q r : Chronicle) (c : Cluster) (a : AgreesIn idle (with_it node used) r c) (up : IsFresh node) (v uuid : ℕ) (ready : Ready node v)
      (unused : is_one_of uuid used ≡ false) (named : uuid ≡ 0 → ⊥) (small : uuid < 2 ^ 64) (alike : Alike n calls q r) (starts : List (ℕ × ℕ)) where
    abbrev vb : Plain
    vb = ready.vb

    pub is : plain_step vb (VbCall.Promote uuid) ≡ and_settled (led vb uuid, ending_reply vb (VbAnswer.Branch uuid (parent_of vb.log) (fork_of vb.position) vb.position.at))
    is = call_is steady w n free node used r c a up v uuid vb ready.there ready.rests ready.sealed ready.shelf ready.kept ready.opens unused named small

    abbrev after : PlainNode
    after = node' node n v uuid vb ready.shelf ready.there ready.kept is

    abbrev line : Event
    line = Event.Branch n v uuid (parent_of vb.log) (fork_of vb.position) vb.position.at

    -- what it commits
    abbrev changes : List Event
    changes = changes_told n v uuid (cs steady w n free node used r c a up v uuid vb ready.there ready.rests ready.sealed ready.shelf ready.kept ready.opens unused named small)

    abbrev all_lines : List Event
    all_lines = line ∷ changes

    -- what is read of the branch alone, and with what is told beside it
    abbrev q0 : Chronicle
    q0 = after_line q line

    abbrev r0 : Chronicle
    r0 = after_branch r n v uuid (parent_of vb.log) (fork_of vb.position) vb.position.at

    abbrev q1 : Chronicle
    q1 = after_lines q0 changes

    abbrev r1 : Chronicle
    r1 = after_restart (after_lines r0 changes) n v

    abbrev said : Answer
    said = said_of (fate node n v uuid vb ready.shelf ready.there ready.kept is)

    power : PowerIs (r.arm_at n) (record { arm = node.arm; off = node.off; clock = node.clock })
    power = arm_is steady w n free node used r c a up v uuid vb ready.there ready.rests ready.sealed ready.shelf ready.kept ready.opens unused named small

    -- its changes tell of no arm
    arms_q : (q1.arm_at n) ≡ (q.arm_at n)
    arms_q = ap (λ (t : ℕ → ArmKnown). t n) (arms_same q0 n v uuid (cs steady w n free node used r c a up v uuid vb ready.there ready.rests ready.sealed ready.shelf ready.kept ready.opens unused named small))

    arms_r : ((after_lines r0 changes).arm_at n) ≡ (r.arm_at n)
    arms_r = ap (λ (t : ℕ → ArmKnown). t n) (arms_same r0 n v uuid (cs steady w n free node used r c a up v uuid vb ready.there ready.rests ready.sealed ready.shelf ready.kept ready.opens unused named small))

    arm_now : (r1.arm_at n) ≡ record (r.arm_at n) { fuse = spent 4 (r.arm_at n).fuse }
    arm_now = id_here (after_lines r0 changes).arm_at n (record ((after_lines r0 changes).arm_at n) { fuse = spent 4 ((after_lines r0 changes).arm_at n).fuse }) ∙ ap (λ (t : ArmKnown). record t { fuse = spent 4 t.fuse }) arms_r

    spent_so : (r1.arm_at n).fuse ≡ spent 4 (r.arm_at n).fuse
    spent_so = ap (λ (t : ArmKnown). t.fuse) arm_now

    out_so : (r1.arm_at n).out ≡ node.arm.out
    out_so = ap (λ (t : ArmKnown). t.out) arm_now ∙ power.out

    -- with its role, what was read of the branch is read alike
    abbrev active_vb_lines : (ℕ → ℕ → Bool) → Chronicle
    active_vb_lines opened = record r0 { role_at = with_at r.role_at n v (Some (Some role.Active)); open_at = opened }

    reads_branch : (opened : ℕ → ℕ → Bool) → Reads q0 (active_vb_lines opened)
    reads_branch opened = record {
      last = alike.reads.last;
      tree = λ i. record { id = uuid; parent = parent_branch (parent_of vb.log) (fork_of vb.position) (alike.reads.branch i n v); fork = fork_of vb.position; own = changes_between (fork_of vb.position) vb.position.at (alike.reads.held i n v) } ∷ alike.reads.tree i;
      branch = λ i. with_at (alike.reads.branch i) n v (Some uuid);
      held = alike.reads.held;
      writer = λ i. with_id (alike.reads.writer i) uuid (Some (n, v));
      role = ap (λ t. with_at t n v (Some (Some role.Active))) alike.reads.role ∙ sym (ap (λ b. roles_from b q.role_at n v) alike.down);
      counts = λ i. with_at (alike.reads.counts i) n v (alone (last_seq 0 (alike.reads.held i n v)));
      log = λ i. with_at (alike.reads.log i) n v (option_map (with_entry uuid (fork_of vb.position)) (alike.reads.log i n v));
      snap = ap (λ t. with_at t n v (Some (vb.position.at, vb.position.at))) alike.reads.snap;
      saved = alike.reads.saved;
      clients = alike.reads.clients;
      made = alike.reads.made;
      clock = alike.reads.clock;
      ticks = alike.reads.ticks;
      conns = alike.reads.conns;
      changed = alike.reads.changed;
    }

    -- and so are its changes
    reads_on : Reads q1 r1
    reads_on =
        let there = reads_changes q0 (active_vb_lines r0.open_at) n v uuid (cs steady w n free node used r c a up v uuid vb ready.there ready.rests ready.sealed ready.shelf ready.kept ready.opens unused named small) (reads_branch r0.open_at) in
        let same : after_lines (active_vb_lines r0.open_at) changes ≡ record (after_lines r0 changes) { role_at = with_at r.role_at n v (Some (Some role.Active)) } = roles_past (with_at r.role_at n v (Some (Some role.Active))) r0 n v uuid (cs steady w n free node used r c a up v uuid vb ready.there ready.rests ready.sealed ready.shelf ready.kept ready.opens unused named small) in
        let found : Reads q1 (record (after_lines r0 changes) { role_at = with_at r.role_at n v (Some (Some role.Active)) }) = subst (Reads q1) same there in
        record { last = found.last; tree = found.tree; branch = found.branch; held = found.held; writer = found.writer; counts = found.counts; log = found.log; snap = found.snap; saved = λ m p. restart_saved (after_lines r0 changes) n v m p ∙ found.saved m p; clients = found.clients; made = found.made; clock = found.clock; ticks = found.ticks; conns = found.conns; changed = found.changed; role = ap (λ t. with_at t n v (Some (Some role.Active))) (roles_same r0 n v uuid (cs steady w n free node used r c a up v uuid vb ready.there ready.rests ready.sealed ready.shelf ready.kept ready.opens unused named small)) ∙ found.role }

    changes_lawful : LawfulFrom q0 changes
    changes_lawful = changes_read q0 (active_vb_lines (with_at r0.open_at n v false)) n v uuid (cs steady w n free node used r c a up v uuid vb ready.there ready.rests ready.sealed ready.shelf ready.kept ready.opens unused named small) (reads_branch (with_at r0.open_at n v false))
        (subst (λ x. LawfulFrom x changes) (active_as steady w n free node used r c a up v uuid vb ready.there ready.rests ready.sealed ready.shelf ready.kept ready.opens unused named small) (settles_on steady w n free node used r c a up v uuid vb ready.there ready.rests ready.sealed ready.shelf ready.kept ready.opens unused named small).lawful)

    arm_so : (r.arm_at n).fuse ≡ node.arm.fuse
    arm_so = power.fuse

    -- four calls more were made
    pub alike_on : Alike n (calls + 4) q1 r1
    alike_on = record {
      reads = reads_on;
      down = ap (λ (t : ArmKnown). t.down) arms_q ∙ alike.down;
      spends = spent_so ∙ ap (spent 4) alike.spends ∙ spent_twice calls 4 (q.arm_at n).fuse ∙ sym (ap (λ (t : ArmKnown). spent (calls + 4) t.fuse) arms_q);
    }

    lawful_line : LawfulBranch q n v uuid (parent_of vb.log) (fork_of vb.position) vb.position.at
    lawful_line = branch_read q r n v uuid (parent_of vb.log) (fork_of vb.position) vb.position.at alike.reads
        (branch_of r n v uuid (c.nodes (seat n v)) vb (a.fresh uuid unused) (mine steady w n free node used r c a up v uuid vb ready.there ready.rests ready.sealed ready.shelf ready.kept ready.opens unused named small).kept)

    fails_so : FailsIn 4 node.arm.fuse → FailsIn (calls + 4) (q.arm_at n).fuse
    fails_so x = spent_fails calls 4 (q.arm_at n).fuse (subst (FailsIn 4) (sym arm_so ∙ alike.spends) x)

    stops_so : StopsIn 4 node.arm.fuse → StopsIn (calls + 4) (q.arm_at n).fuse
    stops_so x = spent_stops calls 4 (q.arm_at n).fuse (subst (StopsIn 4) (sym arm_so ∙ alike.spends) x)

    passes_so : PassesIn calls (q.arm_at n).fuse → PassesIn 4 node.arm.fuse → PassesIn (calls + 4) (q.arm_at n).fuse
    passes_so x y = spent_passes calls 4 (q.arm_at n).fuse x (subst (PassesIn 4) (sym arm_so ∙ alike.spends) y)

    -- the same of what is read with its lines
    to_q1 : (P : Fuse → Type 0) → P (q.arm_at n).fuse → P (q1.arm_at n).fuse
    to_q1 P x = subst (λ (t : ArmKnown). P t.fuse) (sym arms_q) x

    -- the node's lines so far, by what the arm did
    abbrev one : FlushResult
    one = record { events = all_lines; answer = said; resolved = [] }

    abbrev ran : Told
    ran = record { events = before.events ++ one.events; answer = first_no before.answer said }

    abbrev failed : Told
    failed = record { events = before.events ++ one.events ++ Event.CallFailed n ∷ []; answer = first_no before.answer said }

    still_used : (lines : List Event) → (used ++ uuid ∷ []) ++ flat_map branch_of_line lines ≡ used ++ flat_map branch_of_line (all_lines ++ lines)
    still_used lines = append_assoc used (uuid ∷ []) (flat_map branch_of_line lines) ∙ ap (λ ids. used ++ uuid ∷ ids) (sym (branched_more n v uuid (cs steady w n free node used r c a up v uuid vb ready.there ready.rests ready.sealed ready.shelf ready.kept ready.opens unused named small) lines))

    lines_calm : Calm all_lines
    lines_calm = calm_map (Event.Changed n v uuid) (cs steady w n free node used r c a up v uuid vb ready.there ready.rests ready.sealed ready.shelf ready.kept ready.opens unused named small) (λ c. refl)

    -- what is told with its branch and its changes, and then with these
    told_on : (lines : List Event) → told_by r1 lines ≡ told_by r (all_lines ++ lines)
    told_on lines = ap (λ x. told_by x lines) (restart_past r0 n v n v uuid (cs steady w n free node used r c a up v uuid vb ready.there ready.rests ready.sealed ready.shelf ready.kept ready.opens unused named small)) ∙ sym (told_each_change (after_restart r0 n v) n v uuid (cs steady w n free node used r c a up v uuid vb ready.there ready.rests ready.sealed ready.shelf ready.kept ready.opens unused named small) lines)

    pub others_same : (u : ℕ) → (u ≡ v → ⊥) → (after.vbs u ≡ node.vbs u) × (after.shelves u ≡ node.shelves u)
    others_same u ne = (
      ap (λ b. if b then Some (settled (led vb uuid)).vb else node.vbs u) (ne_eqb u v ne),
      ap (λ b. if b then Some (under Off (left node n v uuid vb ready.shelf ready.there ready.kept is)) else node.shelves u) (ne_eqb u v ne),
    )

    -- the arm is told before or after the branch
    again : {count : ℕ} {answer_is : Answer} {w' : PlainWorld} {r' : Chronicle} → Ended q1 n count answer_is w' r' → Ended q n count answer_is w' r'
    again {count = count} (Ended.Runs e p y) = Ended.Runs e (subst (λ (t : ArmKnown). PassesIn count t.fuse) arms_q p) y
    again {count = count} (Ended.Fails e f y) = Ended.Fails e (subst (λ (t : ArmKnown). FailsIn count t.fuse) arms_q f) y
    again {count = count} (Ended.Stops e f y) = Ended.Stops e (subst (λ (t : ArmKnown). StopsIn count t.fuse) arms_q f) y

    -- an arm that is off does not fire
    none_fails : (r.arm_at n).fuse ≡ Off → FailsIn 4 node.arm.fuse → ⊥
    none_fails off x = subst (FailsIn 4) (sym arm_so ∙ off) x

    none_stops : (r.arm_at n).fuse ≡ Off → StopsIn 4 node.arm.fuse → ⊥
    none_stops off x = subst (StopsIn 4) (sym arm_so ∙ off) x

    -- what comes behind its lines
    abbrev Behind : List Event → Type 0
    Behind lines = LawfulFrom q1 lines × AreStarts lines × ((u : ℕ) → (u ≡ v → ⊥) → Apart u lines)

    behind_lawful : (lines : List Event) → LawfulFrom q1 lines → LawfulFrom q (all_lines ++ lines)
    behind_lawful lines l = (lawful_line, lawful_more q0 changes lines (changes_quiet n v uuid (cs steady w n free node used r c a up v uuid vb ready.there ready.rests ready.sealed ready.shelf ready.kept ready.opens unused named small)) changes_lawful l)

    behind_are : (lines : List Event) → Apart v lines → AreStarts lines → AreStarts (all_lines ++ lines)
    behind_are lines x y = (apart_changes v n v uuid (cs steady w n free node used r c a up v uuid vb ready.there ready.rests ready.sealed ready.shelf ready.kept ready.opens unused named small) lines x, starts_changes n v uuid (cs steady w n free node used r c a up v uuid vb ready.there ready.rests ready.sealed ready.shelf ready.kept ready.opens unused named small) lines y)

    behind_apart : (u : ℕ) (lines : List Event) → (v ≡ u → ⊥) → Apart u lines → Apart u (all_lines ++ lines)
    behind_apart u lines ne x = (ne, apart_changes u n v uuid (cs steady w n free node used r c a up v uuid vb ready.there ready.rests ready.sealed ready.shelf ready.kept ready.opens unused named small) lines x)

    behind_make : (lines : List Event) → AllMake n starts lines → AllMake n ((v, uuid) ∷ starts) (all_lines ++ lines)
    behind_make lines x = (inl (refl, refl), all_more n starts line (changes ++ lines) (all_behind n starts n v uuid (cs steady w n free node used r c a up v uuid vb ready.there ready.rests ready.sealed ready.shelf ready.kept ready.opens unused named small) lines x))

    -- it ran
    pub runs_on : SoFar q r n calls before → said ≡ answer.Ok → PassesIn 4 node.arm.fuse → (came : Starting) → (SoFar q1 r1 n (calls + 4) ran → Started starts (used ++ uuid ∷ []) ran (calls + 4) q1 r1 came) → NotAmong v starts
        → Started ((v, uuid) ∷ starts) used before calls q r came
    runs_on so_far ok passed came rest other =
        let x = rest (⊎_elim (λ p. inl (ap (λ y. first_no y said) p.0 ∙ ok, calm_more before.events all_lines p.1 lines_calm, to_q1 (PassesIn (calls + 4)) (passes_so p.2 passed)))
        (λ p. inr (ap (λ y. first_no y said) p.0, to_q1 (FailsIn (calls + 4)) (fails_more calls (calls + 4) (q.arm_at n).fuse (omega arith) p.1), filter-append is_mishap before.events all_lines ∙ (λ i. p.2 i ++ lines_calm i), spent_so ∙ ap (spent 4) p.3)) so_far) in record {
          lines = all_lines ++ x.lines;
          events = x.events ∙ append_assoc before.events all_lines x.lines;
          lawful = behind_lawful x.lines x.lawful;
          are = behind_are x.lines (x.apart v other) x.are;
          apart = λ u y. behind_apart u x.lines y.0 (x.apart u y.1);
          make = λ e. behind_make x.lines (x.make e);
          fires = x.fires;
          ended = subst (λ ids. Ended q n (calls_behind (calls + 4) starts) came.1.answer (with_it came.0 ids) (told_by r (all_lines ++ x.lines))) (still_used x.lines) (subst (Ended q n (calls_behind (calls + 4) starts) came.1.answer (with_it came.0 ((used ++ uuid ∷ []) ++ flat_map branch_of_line x.lines))) (told_on x.lines) (again x.ended));
        }

    -- the disk failed, and it goes on
    pub fails_on : SoFar q r n calls before → said ≡ answer.No cause.Disk → FailsIn 4 node.arm.fuse → spent 4 node.arm.fuse ≡ Off → (came : Starting) → (SoFar q1 r1 n (calls + 4) failed → Started starts (used ++ uuid ∷ []) failed (calls + 4) q1 r1 came)
        → NotAmong v starts → Started ((v, uuid) ∷ starts) used before calls q r came
    fails_on so_far broke to_fail off came rest other =
        let hit : FailsIn (calls + 4) (q1.arm_at n).fuse = to_q1 (FailsIn (calls + 4)) (fails_so to_fail) in
        let to : IsToFail (q1.arm_at n).fuse = fails_to (calls + 4) (q1.arm_at n).fuse hit in
        let x = rest (⊎_elim (λ p. inr (ap (λ y. first_no y said) p.0 ∙ broke, hit, fires_once (before.events ++ all_lines) (Event.CallFailed n) [] (calm_more before.events all_lines p.1 lines_calm) refl refl, spent_so ∙ ap (spent 4) power.fuse ∙ off))
        (λ p. absurd (none_fails p.3 to_fail)) so_far) in let more : List Event = Event.CallFailed n ∷ x.lines in record {
          lines = all_lines ++ more;
          events = x.events ∙ append_assoc (before.events ++ all_lines) (Event.CallFailed n ∷ []) x.lines ∙ append_assoc before.events all_lines more;
          lawful = behind_lawful more (to, x.lawful);
          are = behind_are more (x.apart v other) x.are;
          apart = λ u y. behind_apart u more y.0 (x.apart u y.1);
          make = λ e. behind_make more (all_more n starts (Event.CallFailed n) x.lines (x.make e));
          fires = x.fires;
          ended = subst (λ ids. Ended q n (calls_behind (calls + 4) starts) came.1.answer (with_it came.0 ids) (told_by r (all_lines ++ more))) (still_used more) (subst (Ended q n (calls_behind (calls + 4) starts) came.1.answer (with_it came.0 ((used ++ uuid ∷ []) ++ flat_map branch_of_line more))) (told_on more) (again x.ended));
        }

    -- the node stopped
    abbrev stopped : Starting
    stopped = (stopped_node node.arm.out after, record { events = before.events ++ one.events ++ Event.NodeStopped n ∷ []; answer = answer.No cause.Stopped })

    pub stops_here : SoFar q r n calls before → StopsIn 4 node.arm.fuse → Agrees (with_it after (used ++ uuid ∷ [])) r1 → Started ((v, uuid) ∷ starts) used before calls q r stopped
    stops_here so_far to_stop now = let more : List Event = Event.NodeStopped n ∷ [] in let ends : Chronicle = after_line r1 (Event.NodeStopped n) in record {
      lines = all_lines ++ more;
      events = append_assoc before.events all_lines more;
      lawful = behind_lawful more (to_q1 IsToStop (stops_to (calls + 4) (q.arm_at n).fuse (stops_so to_stop)), tt);
      are = behind_are more tt tt;
      apart = λ u y. behind_apart u more y.0 tt;
      make = λ e. cc;
      fires = ⊎_elim (λ p. fires_once (before.events ++ all_lines) (Event.NodeStopped n) [] (calm_more before.events all_lines p.1 lines_calm) refl refl) (λ p. absurd (none_stops p.3 to_stop)) so_far;
      ended = subst (λ ids. Ended q n (calls_behind (calls + 4) starts) (answer.No cause.Stopped) (with_it stopped.0 ids) (told_by r (all_lines ++ more))) (still_used more)
          (subst (Ended q n (calls_behind (calls + 4) starts) (answer.No cause.Stopped) (with_it stopped.0 ((used ++ uuid ∷ []) ++ []))) (told_on more)
          (subst (λ ids. Ended q n (calls_behind (calls + 4) starts) (answer.No cause.Stopped) (with_it stopped.0 ids) ends) (sym (append-nil (used ++ uuid ∷ [])))
          (Ended.Stops refl (stops_more (calls + 4) (calls_behind (calls + 4) starts) (q.arm_at n).fuse (behind_more (calls + 4) starts) (stops_so to_stop)) (subst (λ o. Agrees (with_it (stopped_node node.arm.out after) (used ++ uuid ∷ [])) (after_crash ends n o)) (sym out_so)
          (subst (λ x. Agrees x (after_crash ends n node.arm.out)) (twice steady w n free after (stopped_node node.arm.out after) (used ++ uuid ∷ []))
          (crashes (with_it after (used ++ uuid ∷ [])) ends n after node.arm.out (now.0, beside (with_it after (used ++ uuid ∷ [])) r1 (without_node r1.conn_at n) r1.made r1.ticks r1.changed now.0 (λ one durable i. i) now.1) (ap (λ b. if b then Some after else w.nodes n) (eq-eqb n n refl)) up.0
          (λ x i. (λ j. (ne_eqb (producer_node x) n (free x i).0 j) || (ne_eqb (consumer_node x) n (free x i).1 j)))))))));
    }

    came_is : starts_from n ((v, uuid) ∷ starts) (node, before) ≡ started_by n node.arm (fired_by node.arm.fuse after.arm.fuse) one before after (starts_from n starts)
    came_is = ap (λ x. started_by n node.arm (fired_by node.arm.fuse x.0.arm.fuse) x.1 before x.0 (starts_from n starts)) (start_came node n v uuid vb ready.shelf ready.there ready.kept is
        ∙ ap (λ (ls : List Event). (after, record { events = line ∷ ls; answer = said; resolved = [] })) (told_is steady w n free node used r c a up v uuid vb ready.there ready.rests ready.sealed ready.shelf ready.kept ready.opens unused named small))

    pub starts_on : NotAmong v starts → SoFar q r n calls before
        → ((so_far : Told) → Agrees (with_it after (used ++ uuid ∷ [])) r1 → SoFar q1 r1 n (calls + 4) so_far → Started starts (used ++ uuid ∷ []) so_far (calls + 4) q1 r1 (starts_from n starts (after, so_far)))
        → Started ((v, uuid) ∷ starts) used before calls q r (starts_from n ((v, uuid) ∷ starts) (node, before))
    starts_on other so_far rest =
        subst (Started ((v, uuid) ∷ starts) used before calls q r) (sym came_is) (by (restarted steady w n free node used r c a up v uuid vb ready.there ready.rests ready.sealed ready.shelf ready.kept ready.opens unused named small))
      where
        Came : Fired → Type 0
        Came x = Started ((v, uuid) ∷ starts) used before calls q r (started_by n node.arm x one before after (starts_from n starts))

        by : Restarted steady w n free node used r c a up v uuid vb ready.there ready.rests ready.sealed ready.shelf ready.kept ready.opens unused named small → Came (fired_by node.arm.fuse after.arm.fuse)
        by (Restarted.Stands quiet ok passed now) = subst Came (sym quiet) (runs_on so_far ok passed (starts_from n starts (after, ran)) (λ s. rest ran now s) other)
        by (Restarted.Fails hit broke to_fail off now) = subst Came (sym hit) (fails_on so_far broke to_fail off (starts_from n starts (after, failed)) (λ s. rest failed now s) other)
        by (Restarted.Stops hit broke to_stop now) = subst Came (sym hit) (stops_here so_far to_stop now)

  -- all of them
  pub all_start : (starts : List (ℕ × ℕ)) (node : PlainNode) (used : List ℕ) (before : Told) (calls : ℕ) (q r : Chronicle) → Agrees (with_it node used) r → IsFresh node → AllReady node starts → AreApart starts → AreFree used starts
      → Alike n calls q r → SoFar q r n calls before → Started starts used before calls q r (starts_from n starts (node, before))
  all_start [] node used before calls q r a up ready apart ids alike so_far = none_left node used before calls q r so_far a
  all_start (s ∷ starts) node used before calls q r (c, a) up ready apart ids alike so_far =
      let next = after node used before calls q r c a up s.0 s.1 ready.0 ids.0 ids.1 ids.2 alike starts in
      let on : AllReady next starts = still_ready node next s.0 starts (others_same node used before calls q r c a up s.0 s.1 ready.0 ids.0 ids.1 ids.2 alike starts) apart.0 ready.1 in
      starts_on node used before calls q r c a up s.0 s.1 ready.0 ids.0 ids.1 ids.2 alike starts apart.0 so_far
      (λ so_far' now said_so. all_start starts next (used ++ s.1 ∷ []) so_far' (calls + 4) (q1 node used before calls q r c a up s.0 s.1 ready.0 ids.0 ids.1 ids.2 alike starts) (r1 node used before calls q r c a up s.0 s.1 ready.0 ids.0 ids.1 ids.2 alike starts)
      now up on apart.1 ids.3 (alike_on node used before calls q r c a up s.0 s.1 ready.0 ids.0 ids.1 ids.2 alike starts) said_so)
