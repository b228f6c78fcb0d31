-- each line of a script answers the sets and removals that it tells of where it tells of them
use Rattle.std.specs.Prelude.{◌≡◌, ◌∷◌, ◌++◌, ◌==◌, ◌&&◌, ◌||◌, if◌then◌else◌}
use Rattle.std.specs.List.{flat_map}
use Rattle.transcript_law.proofs.Words.{ℕ, Bool, true, false, List, [], refl, sym, subst, and_parts, ⊎_elim, map, take, length, All, Option, Some, None, is_some, Cause, Chronicle, Event, Frame, Role, Verb, VbVerb, NodeVerb, LinkVerb, ClientVerb, AdminCall, AdminResult, PlainLink, PlainNode, PlainWorld, Outcome, Told, VbAnswer, VbCall, VbReply, States, after, after_job, with_states}
use Rattle.transcript_law.proofs.Words.{admin_call, admin_result, call_at, called_at, cut_off, done, first_cause, moved_len, no_node, node_outcome, link_number, on_link, on_node, own_link, peer_of, producer_node, pump_at, refusal, row_at, refused_or, role_outcome, turned_after, turned_if, up_at, verb_step, with_ended, with_node_at}
use Rattle.disk_journals.specs.{Arms.{opens_all}, Books.{Book}}
use Rattle.{durability.specs.Chains.{Links, Members}, vb_calls.specs.States.{states_step}}
use Rattle.node_core.specs.{Admin.{admin_refused, promote_result, role_at, role_noted, role_result}, Calls.{own_lines_if}, Dials.{DialResult, acknowledged_line, dial_due, untold}, Flushing.{FlushResult, flush_at, flush_result, settled_by, settled_result}, GivingUp.{dead_line, peer_gives_up, resolved_in}, Loading.{are_short, branch_in, branch_lines_of_reply, start_job, start_result, starts_of}, Peers.{PeerResult, PlainPeer, peer_answered, peer_frames, peer_heard}}
use Rattle.node_world.specs.{Arms.{fired_by, no_arm, placed, under_arm}, Dues.{due_at, due_in, due_of, is_counted}, Links.{dial_of, frame_posted, frame_up, frames_up, untold_peer}, Nodes.{flush_here, all_posted, bytes_at, chain_causes, chain_line, chain_made, flush_line, tick_line, with_kept, with_posts}}
use Rattle.node_world.specs.{Power.{Starting, after_fire, burnt_arm, down_lines, first_no, loaded_node, not_opened, opened_at, opening_told, start_at, start_causes, start_if, start_one, start_step, started_by, starts_from, with_arm}, Pumps.{gives_at, with_given, with_gone}, Turns.{posted_at, posted_in, promote_causes, role_called, turn_causes}, World.{pump_outcome, pump_step}, Worlds.{arm_in, on_made}}
use Rattle.dcp_producer.specs.declared.yields.Yielded.{Yielded}
use Rattle.vb_types.specs.declared.change.Act.{Act}
use Rattle.node_world.specs.declared.arm.Fired.{Fired}
use Rattle.node_world.specs.declared.arm.Fired.TheVariants as fired
use Rattle.transcript_law.proofs.{lines.Calm.{due_keeps}, lines.LinkTold.{pump_so}, lines.Stored.{Gives, durable_settled_lines, gives, is_no_change, is_settled, next_behind, settled_next, unchanged_next}, lines.StoredSessions.{bytes_next, peer_calm, posts_next}, verbs.NodeLines.{on_made_by, on_node_by}, verbs.Tellings.{Are, are_also, are_down, are_map, each_told}, verbs.Untaken.{ToldBy}}
use Rattle.transcript_law.proofs.{answers.Calm.{OfDurable}, verbs.NodeLines.{on_link_by}}
use Rattle.transcript_law.specs.{AnsweredWrites.{AllToldNext}, LinesTold.{Dial, is_durable}, Takeovers.{IsAboutTo, MovesAt, TakesOver, TellsOnly, is_commit, is_of_over, is_own_commit}, Tellings.{TellsOf, at_link, at_vb, is_none, is_of_disk, is_of_down, is_of_end, is_of_pull, may_tell}}
use Rattle.vb_calls.proofs.{Conduct.{after_always}, JobConduct.{always_bind_job}}
use Rattle.vb_calls.specs.Flushes.{flush_job, is_refusal, note_role_job, part_job, role_job, role_of_call, role_told_job}
use Rattle.vb_calls.specs.Jobs.{AlwaysJob, Ended, Job, Call as AsksCall, Request}
use Rattle.vb_calls.specs.Programs.{AnyCall}
use Rattle.vb_calls.specs.Shelves.{Ask, Flush, Got, Idle, Out, Shelves, Written, shelves_step}
use Rattle.vb_calls.specs.declared.calls.Resolved.{Resolved}
use Rattle.vb_calls.specs.declared.calls.VbAnswer.TheVariants as answer
use Rattle.vb_calls.specs.declared.journals.{Flushed.{Flushed}}
use Rattle.vb_calls.specs.declared.journals.Flushed.TheVariants as flushed
use Rattle.vb_calls.specs.declared.journals.Wrote.TheVariants.{NotAsked}
use Rattle.vb_types.specs.declared.journal.FlushPart.TheVariants as part

-- ---- lines that tell of no change

-- of an arm that fired
armed : (n : ℕ) (w : PlainWorld) (came : Outcome) → AllToldNext came.1.events → AllToldNext (with_arm n w came).1.events
armed n w came t = by (fired_by (arm_in (w.nodes n)).fuse (arm_in (came.0.nodes n)).fuse)
  where
    by : (f : Fired) → AllToldNext (after_fire n (arm_in (w.nodes n)).out f came).1.events
    by fired.No = t
    by fired.Failed = next_behind came.1.events (Event.CallFailed n ∷ []) t tt
    by fired.Stopped = next_behind came.1.events (Event.NodeStopped n ∷ down_lines n None came.0) t (unchanged_next (down_lines n None came.0) (are_down is_no_change n None came.0 (λ l touched. refl) (λ c. refl)))

-- a line that is refused tells of nothing
unless_next : {A : Type 0} (why : Option Cause) (before : A) (x : A × Told) → AllToldNext x.1.events → AllToldNext (refused_or why before x).1.events
unless_next (Some why) before x t = tt
unless_next None before x t = t

-- a line for a running node
on_next : (w : PlainWorld) (n : ℕ) (f : PlainNode → PlainNode × Told) → ((node : PlainNode) → AllToldNext (f node).1.events) → AllToldNext (on_node w n f).1.events
on_next w n f each = on_node_by (λ o. AllToldNext o.1.events) w n f tt (λ node known. tt) (λ node known up. each node)

-- ---- changes that a vBucket makes of its own

-- those of a reply, if there is one, are durable writes'
abbrev AreDurable : Option VbReply → Type 0
AreDurable None = Unit {0}
AreDurable (Some reply) = All OfDurable reply.changes

own_next : (n v : ℕ) (o : Option VbReply) → AreDurable o → AllToldNext (own_lines_if n v o)
own_next n v None d = tt
own_next n v (Some reply) d = settled_next (map (Event.Changed n v reply.branch) reply.changes) (durable_settled_lines n v reply.branch reply.changes d)

-- what is told, and behind it what is posted
posted_next : (told : FlushResult) (node : PlainNode) → AllToldNext told.events → AllToldNext (with_posts told node).1.events
posted_next told node t = next_behind told.events (all_posted told.resolved node).1 t (posts_next told.resolved node)

settled_is : (n v : ℕ) (o : Option VbReply) → AreDurable o → AllToldNext (settled_result n v o).events
settled_is n v None d = tt
settled_is n v (Some reply) d = by reply.answer
  where
    by : (a : VbAnswer) → AllToldNext (settled_by n v reply a).events
    by answer.Done = own_next n v (Some reply) d
    by other = tt

-- a call of a chain
settles_next : (n v : ℕ) (c : VbCall) (node : PlainNode) → (let x = call_at node.vbs v c (node.vbs v) in AreDurable x.1 → AllToldNext (with_posts (settled_result n v x.1) (with_states node x.0)).1.events)
settles_next n v c node d = let x = call_at node.vbs v c (node.vbs v) in posted_next (settled_result n v x.1) (with_states node x.0) (settled_is n v x.1 d)

-- a call that makes no write of a client gives no other changes
chain_gives : (links : Links) (o : Option VbReply) → Gives (VbCall.Chain links) o → AreDurable o
chain_gives links None g = tt
chain_gives links (Some reply) g = g

tick_gives : (clock : ℕ) (o : Option VbReply) → Gives (VbCall.Tick clock) o → AreDurable o
tick_gives clock None g = tt
tick_gives clock (Some reply) g = g

done_gives : (seq : ℕ) (o : Option VbReply) → Gives (VbCall.FlushDone seq) o → AreDurable o
done_gives seq None g = tt
done_gives seq (Some reply) g = g

promote_gives : (uuid : ℕ) (o : Option VbReply) → Gives (VbCall.Promote uuid) o → AreDurable o
promote_gives uuid None g = tt
promote_gives uuid (Some reply) g = g

chain_next : (n v : ℕ) (others : Members) (node : PlainNode) → AllToldNext (chain_line n v others node).1.events
chain_next n v others node =
    let links : Links = record { active = n; others = others } in let c : VbCall = VbCall.Chain links in
    unless_next (first_cause (chain_causes n v others node)) node (chain_made n v others node) (settles_next n v c node (chain_gives links (call_at node.vbs v c (node.vbs v)).1 (gives node.vbs v c)))

tick_next : (n v : ℕ) (node : PlainNode) → AllToldNext (tick_line n v node).1.events
tick_next n v node = settles_next n v (VbCall.Tick node.clock) node (tick_gives node.clock (call_at node.vbs v (VbCall.Tick node.clock) (node.vbs v)).1 (gives node.vbs v (VbCall.Tick node.clock)))

-- ---- jobs

abbrev AnyRequest : ℕ → Ask → Type 0
AnyRequest v ask = Unit {0}

abbrev Comes : {A : Type 0} → (A → Type 0) → Job A → Type 0
Comes P job = AlwaysJob Gives AnyCall AnyRequest P job

it_comes : {A : Type 0} (P : A → Type 0) (job : Job A) (states : States) (shelves : Shelves) → Comes P job → P (after_job job states shelves).1
it_comes P (Ended a) states shelves comes = comes
it_comes P (AsksCall v c next) states shelves comes =
    let step : States × Option VbReply = states_step states v c in it_comes P (next step.1) step.0 shelves (comes.1 step.1 (gives states v c))
it_comes P (Request v ask next) states shelves comes = let step : Shelves × Got ask = shelves_step shelves v ask in it_comes P (next step.1) states step.0 (comes.1 step.1)

-- `done`: its vBucket may commit
abbrev DoneSo : Flushed → Type 0
DoneSo (flushed.Done reply) = AreDurable reply
DoneSo flushed.NothingTaken = Unit {0}
DoneSo other = ⊥

done_steps : (v : ℕ) (flush : Flush) → Comes DoneSo (part_job v part.Done flush)
done_steps v Idle = tt
done_steps v (Out batch) = tt
done_steps v (Written seq) = (tt, λ kept. (tt, λ reply may. done_gives seq reply may))

flush_next : (n v : ℕ) (node : PlainNode) → AllToldNext (flush_line n v part.Done node).1.events
unfolding flush_job
flush_next n v node =
    let y = after_job (flush_here n v part.Done node) node.vbs node.shelves in
    posted_next y.1 (with_kept node y.0) (it_comes (λ (told : FlushResult). AllToldNext told.events) (flush_here n v part.Done node) node.vbs node.shelves (by (is_some (node.vbs v))))
  where
    came : (x : Flushed) → DoneSo x → AllToldNext (flush_result n v x).events
    came (flushed.Done reply) d = own_next n v reply d
    came flushed.NothingTaken d = tt
    came other d = absurd d

    by : (b : Bool) → Comes (λ (told : FlushResult). AllToldNext told.events) (flush_at n v part.Done b)
    by true = always_bind_job Gives AnyCall AnyRequest DoneSo (λ (told : FlushResult). AllToldNext told.events) (flush_job v part.Done) (λ x. Ended (flush_result n v x)) (tt, done_steps v) came
    by false = tt

-- and then acknowledge
due_next : (n v : ℕ) (came : Outcome) → AllToldNext came.1.events → AllToldNext (due_in n v came).1.events
due_next n v came t = by (is_counted came.1.answer)
  where
    acks : (link : PlainLink) (node : PlainNode) → AllToldNext (after (dial_due (dial_of link)) node.vbs).1.events
    acks link node = after_always AnyCall (λ (x : DialResult). AllToldNext x.events) (dial_due (dial_of link)) node.vbs
        (due_keeps AllToldNext (λ lines d seq saved so. next_behind lines (acknowledged_line d seq saved ∷ []) so tt) (untold (dial_of link)) tt)

    at : (link : PlainLink) (o : Option PlainNode) → AllToldNext (due_at n link came.0 came.1 o).1.events
    at link None = t
    at link (Some node) = next_behind came.1.events (after (dial_due (dial_of link)) node.vbs).1.events t (acks link node)

    of : (o : Option PlainLink) → AllToldNext (due_of n came.0 came.1 o).1.events
    of None = t
    of (Some link) = at link (came.0.nodes n)

    by : (b : Bool) → AllToldNext (let x : Outcome = if b then due_of n came.0 came.1 (own_link n v came.0.links) else came in x.1.events)
    by true = of (own_link n v came.0.links)
    by false = t

-- a change of role, which is written down
role_comes : (v : ℕ) (c : VbCall) → Comes (λ made. Gives c made.0) (role_job v c)
unfolding role_job
role_comes v c = (tt, told)
  where
    noted : (b : Bool) (reply : VbReply) → Gives c (Some reply) → Comes (λ made. Gives c made.0) (if b then Ended (Some reply, NotAsked) else AsksCall v VbCall.Log (note_role_job v (role_of_call c) reply))
    noted true reply may = may
    noted false reply may = (tt, λ logged any. (tt, λ fate. may))

    told : (o : Option VbReply) → Gives c o → Comes (λ made. Gives c made.0) (role_told_job v c o)
    told None may = tt
    told (Some reply) may = noted (is_refusal reply.answer) reply may

module _ (n v : ℕ) (asked : AdminCall) (calls : (o : Option VbReply) → Gives (admin_call asked) o → AllToldNext (admin_result n v asked o).events) where
  at_once : (node : PlainNode) → AllToldNext (after_job (role_at n v asked) node.vbs node.shelves).1.events
  at_once node = it_comes (λ (told : AdminResult). AllToldNext told.events) (role_at n v asked) node.vbs node.shelves
      (always_bind_job Gives AnyCall AnyRequest (λ made. Gives (admin_call asked) made.0) (λ (told : AdminResult). AllToldNext told.events) (role_job v (admin_call asked)) (λ made. Ended (role_noted n v asked made)) (role_comes v (admin_call asked)) (λ made may. calls made.0 may))

  cut_next : (o : Option PlainLink) (w1 : PlainWorld) → AllToldNext (cut_off o w1).1
  cut_next None w1 = tt
  cut_next (Some link) w1 = tt

  posts_in : (w3 : PlainWorld) (t : Told) (rs : List Resolved) → AllToldNext t.events → AllToldNext (posted_in n rs (w3, t)).1.events
  posts_in w3 t rs so = by (w3.nodes n)
    where
      by : (o : Option PlainNode) → AllToldNext (posted_at n rs w3 t o).1.events
      by None = so
      by (Some node) = next_behind t.events (all_posted rs node).1 so (posts_next rs node)

  by_ended : (w : PlainWorld) (o : Option (List ℕ)) (w1 : PlainWorld) (told : AdminResult) → AllToldNext told.events → AllToldNext (turned_if n v w o (w1, told)).1.events
  by_ended w None w1 told so = so
  by_ended w (Some ids) w1 told so =
      let w2 : PlainWorld = with_ended n v ids w1 in let own = own_link n v w2.links in
      posts_in (cut_off own w2).0 (record { events = (cut_off own w2).1 ++ told.events; answer = told.answer }) told.resolved (next_behind (cut_off own w2).1 told.events (cut_next own w2) so)

  module _ (called : (node : PlainNode) → AllToldNext (called_at n v asked node).1.events) where
    called_next : (node : PlainNode) → AllToldNext (role_called n v asked node).1.events
    called_next node = by (is_some node.off)
      where
        by : (b : Bool) → AllToldNext (let x : PlainNode × AdminResult = if b then (node, admin_refused Cause.NodeDown) else under_arm v (called_at n v asked) node in x.1.events)
        by true = tt
        by false = called (placed v node)

    role_next : (w : PlainWorld) (why : Option Cause) → AllToldNext (with_arm n w (refused_or why w (role_outcome n v asked w))).1.events
    role_next w why = armed n w (refused_or why w (role_outcome n v asked w)) (unless_next why w (role_outcome n v asked w) (by (w.nodes n)))
      where
        by : (o : Option PlainNode) → AllToldNext (turned_after n v w (node_outcome w n no_node o (role_called n v asked))).1.events
        by None = tt
        by (Some node) = let x = role_called n v asked node in by_ended w x.1.ended (with_node_at w n x.0) x.1 (called_next node)

module _ (n v : ℕ) where
  rises : (uuid : ℕ) (o : Option VbReply) → AreDurable o → AllToldNext (admin_result n v (AdminCall.Promote uuid) o).events
  rises uuid None d = tt
  rises uuid (Some reply) d = by reply.answer
    where
      by : (a : VbAnswer) → AllToldNext (promote_result n v reply a).events
      by (answer.Branch u parent fork high) = own_next n v (Some reply) d
      by (answer.Status st) = tt
      by other = tt

  turned : (r : Role) (reply : VbReply) (a : VbAnswer) → AllToldNext (role_result n v r reply a).events
  turned r reply answer.Done = tt
  turned r reply other = tt

  follows : (o : Option VbReply) → AllToldNext (admin_result n v AdminCall.Follow o).events
  follows None = tt
  follows (Some reply) = turned Role.Replica reply reply.answer

  dies : (o : Option VbReply) → AllToldNext (admin_result n v AdminCall.Dead o).events
  dies None = tt
  dies (Some reply) = turned Role.Dead reply reply.answer

  promote_next : (w : PlainWorld) (uuid : ℕ) (why : Option Cause) → AllToldNext (with_arm n w (refused_or why w (role_outcome n v (AdminCall.Promote uuid) w))).1.events
  promote_next w uuid why = let call = λ (o : Option VbReply) (may : Gives (VbCall.Promote uuid) o). rises uuid o (promote_gives uuid o may) in
      role_next n v (AdminCall.Promote uuid) call (at_once n v (AdminCall.Promote uuid) call) w why

  follow_next : (w : PlainWorld) (why : Option Cause) → AllToldNext (with_arm n w (refused_or why w (role_outcome n v AdminCall.Follow w))).1.events
  follow_next w why = role_next n v AdminCall.Follow (λ o may. follows o) (at_once n v AdminCall.Follow (λ o may. follows o)) w why

  dead_next : (w : PlainWorld) (why : Option Cause) → AllToldNext (with_arm n w (refused_or why w (role_outcome n v AdminCall.Dead w))).1.events
  dead_next w why = role_next n v AdminCall.Dead (λ o may. dies o) (at_once n v AdminCall.Dead (λ o may. dies o)) w why

-- ---- a node that starts

starts_next : (n v uuid : ℕ) (node : PlainNode) → AllToldNext (after_job (start_job n v uuid) node.vbs node.shelves).1.events
starts_next n v uuid node = it_comes (λ (told : FlushResult). AllToldNext told.events) (start_job n v uuid) node.vbs node.shelves
    (always_bind_job Gives AnyCall AnyRequest (λ made. Gives (VbCall.Promote uuid) made.0) (λ (told : FlushResult). AllToldNext told.events) (role_job v (VbCall.Promote uuid)) (λ made. Ended (start_result n v made)) (role_comes v (VbCall.Promote uuid)) (λ made may. by made.0 (promote_gives uuid made.0 may)))
  where
    in_answer : (a : VbAnswer) → AllToldNext (branch_in n v a)
    in_answer (answer.Branch u parent fork high) = tt
    in_answer other = tt

    by : (o : Option VbReply) → AreDurable o → AllToldNext (branch_lines_of_reply n v o)
    by None d = tt
    by (Some reply) d = next_behind (branch_in n v reply.answer) (own_lines_if n v (Some reply)) (in_answer reply.answer) (own_next n v (Some reply) d)

module _ (n : ℕ) where
  starts_are : (starts : List (ℕ × ℕ)) (so_far : Starting) → AllToldNext so_far.1.events → AllToldNext (starts_from n starts so_far).1.events
  starts_are [] so_far t = t
  starts_are (start ∷ starts) so_far t = by (fired_by so_far.0.arm.fuse (start_one n start so_far.0).0.arm.fuse) (starts_are starts)
    where
      one : FlushResult
      one = (start_one n start so_far.0).1

      more : AllToldNext (so_far.1.events ++ one.events)
      more = next_behind so_far.1.events one.events t (starts_next n start.0 start.1 (placed start.0 so_far.0))

      behind : (line : Event) → AllToldNext (line ∷ []) → AllToldNext (so_far.1.events ++ one.events ++ line ∷ [])
      behind line e = next_behind (so_far.1.events ++ one.events) (line ∷ []) more e

      by : (f : Fired) → ((x : Starting) → AllToldNext x.1.events → AllToldNext (starts_from n starts x).1.events)
          → AllToldNext (started_by n so_far.0.arm f (start_one n start so_far.0).1 so_far.1 (start_one n start so_far.0).0 (starts_from n starts)).1.events
      by fired.No later = later ((start_one n start so_far.0).0, record { events = so_far.1.events ++ one.events; answer = first_no so_far.1.answer one.answer }) more
      by fired.Failed later = later ((start_one n start so_far.0).0, record { events = so_far.1.events ++ one.events ++ Event.CallFailed n ∷ []; answer = first_no so_far.1.answer one.answer }) (behind (Event.CallFailed n) tt)
      by fired.Stopped later = behind (Event.NodeStopped n) tt

  start_are : (uuids : List ℕ) (node : PlainNode) → AllToldNext (start_at n uuids node).1.events
  start_are uuids node = by node.off
    where
      opening : (f : Fired) → AllToldNext (opening_told n f).events
      opening fired.No = tt
      opening fired.Failed = tt
      opening fired.Stopped = tt

      shorts : (books : List Book) (b : Bool)
          → (let x : PlainNode × Told = if b then (record node { arm = burnt_arm (length books) node.arm }, refusal Cause.IdsShort) else starts_from n (starts_of books uuids) (loaded_node n books (burnt_arm (length books) node.arm), done []) in AllToldNext x.1.events)
      shorts books true = tt
      shorts books false = starts_are (starts_of books uuids) (loaded_node n books (burnt_arm (length books) node.arm), done []) tt

      opens : (books : List Book) (b : Bool) → (let x : PlainNode × Told = if b then opened_at n uuids books node else not_opened n node in AllToldNext x.1.events)
      opens books true = shorts books (are_short books uuids)
      opens books false = opening (fired_by node.arm.fuse no_arm.fuse)

      by : (o : Option (List Book)) → AllToldNext (start_if n uuids node o).1.events
      by None = tt
      by (Some books) = opens books (opens_all node.arm.fuse (length books))

start_next : (w : PlainWorld) (n : ℕ) (uuids : List ℕ) → AllToldNext (start_step w n uuids).1.events
start_next w n uuids = unless_next (first_cause (start_causes w n uuids)) w (on_made w n (start_at n uuids)) (on_made_by (λ o. AllToldNext o.1.events) w n (start_at n uuids) tt (λ node known. start_are n uuids node))

-- ---- what comes up a link

one_up : (f : Frame) (peer : PlainPeer) (node : PlainNode) → AllToldNext (frame_posted f peer node).1.events
one_up f peer node =
    let x = after (peer_answered f peer) node.vbs in
    next_behind x.1.events (all_posted x.1.resolved (with_states node x.0)).1 (settled_next x.1.events (peer_calm f peer node.vbs)) (posts_next x.1.resolved (with_states node x.0))

frames_next : (fs : List Frame) (came : PlainNode × PeerResult) → AllToldNext came.1.events → AllToldNext (frames_up fs came).1.events
frames_next [] came t = t
frames_next (f ∷ fs) came t = frames_next fs (frame_up f came) (next_behind came.1.events (frame_posted f came.1.peer came.0).1.events t (one_up f came.1.peer came.0))

up_next : (w : PlainWorld) (l wanted : ℕ) → AllToldNext (on_link w l producer_node (up_at wanted)).1.events
up_next w l wanted = on_link_by (λ o. AllToldNext o.1.events) w l producer_node (up_at wanted) tt (λ link found. tt) (λ link node found known. let piece : List ℕ = take (moved_len wanted link.up) link.up in
    frames_next (peer_frames piece (peer_of link)) (node, untold_peer (peer_heard piece (peer_of link))) tt)

-- ---- each line

-- where a line may tell of no change
no_change : (r : Chronicle) (asked : Verb) → ((line : Event) → may_tell r asked line ≡ true → is_no_change line ≡ true) → (lines : List Event) → TellsOf r asked lines → AllToldNext lines
no_change r asked none lines t = unchanged_next lines (each_told (may_tell r asked) (is_of_end r) is_no_change none (λ m stops line e. ended m line e) lines t)
  where
    ended : (m : ℕ) (line : Event) → is_of_end r m line ≡ true → is_no_change line ≡ true
    ended m (Event.Changed k u uuid change) e = e
    ended m other e = refl

-- none of these lines may
role_test : (r : Chronicle) (n v : ℕ) (line : Event) → at_vb r n v VbVerb.MakeReplica line ≡ true → is_no_change line ≡ true
role_test r n v (Event.Changed m u uuid change) e = e
role_test r n v other e = refl

save_test : (r : Chronicle) (n v : ℕ) (line : Event) → at_vb r n v VbVerb.Save line ≡ true → is_no_change line ≡ true
save_test r n v (Event.Changed m u uuid change) e = e
save_test r n v other e = refl

take_test : (r : Chronicle) (n v : ℕ) (line : Event) → at_vb r n v VbVerb.Take line ≡ true → is_no_change line ≡ true
take_test r n v (Event.Changed m u uuid change) e = e
take_test r n v other e = refl

stat_test : (r : Chronicle) (n v : ℕ) (line : Event) → at_vb r n v VbVerb.Stat line ≡ true → is_no_change line ≡ true
stat_test r n v (Event.Changed m u uuid change) e = e
stat_test r n v other e = refl

log_test : (r : Chronicle) (n v : ℕ) (line : Event) → at_vb r n v VbVerb.Log line ≡ true → is_no_change line ≡ true
log_test r n v (Event.Changed m u uuid change) e = e
log_test r n v other e = refl

show_test : (r : Chronicle) (n v : ℕ) (line : Event) → at_vb r n v VbVerb.Show line ≡ true → is_no_change line ≡ true
show_test r n v (Event.Changed m u uuid change) e = e
show_test r n v other e = refl

none_test : (line : Event) → is_none line ≡ true → is_no_change line ≡ true
none_test (Event.Changed m u uuid change) e = e
none_test other e = refl

end_test : (r : Chronicle) (n : ℕ) (line : Event) → is_of_end r n line ≡ true → is_no_change line ≡ true
end_test r n (Event.Changed m u uuid change) e = e
end_test r n other e = refl

pull_test : (n c : ℕ) (line : Event) → is_of_pull n c line ≡ true → is_no_change line ≡ true
pull_test n c (Event.Changed m u uuid change) e = e
pull_test n c other e = refl

-- nor may any line for a link but `up`
down_test : (dial : Option Dial) (l wanted : ℕ) (line : Event) → at_link dial l (LinkVerb.Down wanted) line ≡ true → is_no_change line ≡ true
down_test None l wanted line e = none_test line e
down_test (Some dial) l wanted (Event.Changed m u uuid change) e = e
down_test (Some dial) l wanted other e = refl

drop_test : (dial : Option Dial) (l : ℕ) (line : Event) → at_link dial l LinkVerb.Drop line ≡ true → is_no_change line ≡ true
drop_test None l line e = none_test line e
drop_test (Some dial) l line e = none_test line e

cut_test : (dial : Option Dial) (l : ℕ) (line : Event) → at_link dial l LinkVerb.Cut line ≡ true → is_no_change line ≡ true
cut_test None l line e = none_test line e
cut_test (Some dial) l (Event.Changed m u uuid change) e = e
cut_test (Some dial) l other e = refl

vb_next : (w : PlainWorld) (r : Chronicle) (number n v : ℕ) (what : VbVerb) → (let x = (verb_step w number (Verb.AtVb n v what)).1 in TellsOf r (Verb.AtVb n v what) x.events → AllToldNext x.events)
vb_next w r number n v (VbVerb.MakeActive uuid) t = no_change r (Verb.AtVb n v (VbVerb.MakeActive uuid)) (role_test r n v) (verb_step w number (Verb.AtVb n v (VbVerb.MakeActive uuid))).1.events t
vb_next w r number n v VbVerb.MakeReplica t = no_change r (Verb.AtVb n v VbVerb.MakeReplica) (role_test r n v) (verb_step w number (Verb.AtVb n v VbVerb.MakeReplica)).1.events t
vb_next w r number n v (VbVerb.Chain others) t = on_next w n (chain_line n v others) (chain_next n v others)
vb_next w r number n v (VbVerb.Promote uuid) t = promote_next n v w uuid (first_cause (promote_causes w n v uuid))
vb_next w r number n v VbVerb.Follow t = follow_next n v w (first_cause (turn_causes w n v Role.Replica))
vb_next w r number n v VbVerb.Dead t = dead_next n v w (first_cause (turn_causes w n v Role.Dead))
vb_next w r number n v VbVerb.Tick t = on_next w n (tick_line n v) (tick_next n v)
vb_next w r number n v VbVerb.Trim t = no_change r (Verb.AtVb n v VbVerb.Trim) none_test (verb_step w number (Verb.AtVb n v VbVerb.Trim)).1.events t
vb_next w r number n v VbVerb.Seal t = no_change r (Verb.AtVb n v VbVerb.Seal) none_test (verb_step w number (Verb.AtVb n v VbVerb.Seal)).1.events t
vb_next w r number n v VbVerb.Take t = no_change r (Verb.AtVb n v VbVerb.Take) (take_test r n v) (verb_step w number (Verb.AtVb n v VbVerb.Take)).1.events t
vb_next w r number n v VbVerb.Save t = no_change r (Verb.AtVb n v VbVerb.Save) (save_test r n v) (verb_step w number (Verb.AtVb n v VbVerb.Save)).1.events t
vb_next w r number n v VbVerb.Done t = due_next n v (on_node w n (flush_line n v part.Done)) (on_next w n (flush_line n v part.Done) (flush_next n v))
vb_next w r number n v VbVerb.Stat t = no_change r (Verb.AtVb n v VbVerb.Stat) (stat_test r n v) (verb_step w number (Verb.AtVb n v VbVerb.Stat)).1.events t
vb_next w r number n v VbVerb.Log t = no_change r (Verb.AtVb n v VbVerb.Log) (log_test r n v) (verb_step w number (Verb.AtVb n v VbVerb.Log)).1.events t
vb_next w r number n v VbVerb.Show t = no_change r (Verb.AtVb n v VbVerb.Show) (show_test r n v) (verb_step w number (Verb.AtVb n v VbVerb.Show)).1.events t

-- ---- vBuckets that are handed over

-- changes of one that takes over are commits
own_settled : (n v : ℕ) (line : Event) → is_own_commit n v line ≡ true → is_settled line ≡ true
own_settled n v (Event.Changed m u uuid change) e = commit_durable change.act (and_parts (is_commit change.act) (m == n && u == v) e).0
  where
    commit_durable : (act : Act) → is_commit act ≡ true → is_durable act ≡ true
    commit_durable (Act.Commit prepared doc deleted) e = refl
    commit_durable other e = cc
own_settled n v other e = cc

down_unchanged : (l n v : ℕ) (line : Event) → is_of_down l n v line ≡ true → is_no_change line ≡ true
down_unchanged l n v (Event.Changed m u uuid change) e = e
down_unchanged l n v other e = refl

over_unchanged : (l : ℕ) (line : Event) → is_of_over l line ≡ true → is_no_change line ≡ true
over_unchanged l (Event.Changed m u uuid change) e = e
over_unchanged l other e = refl

broken_unchanged : (l n : ℕ) (line : Event) → (is_of_over l line || is_of_disk n line) ≡ true → is_no_change line ≡ true
broken_unchanged l n (Event.Changed m u uuid change) e = e
broken_unchanged l n other e = refl

end_unchanged : (r : Chronicle) (m : ℕ) (line : Event) → is_of_end r m line ≡ true → is_no_change line ≡ true
end_unchanged r m (Event.Changed k u uuid change) e = e
end_unchanged r m other e = refl

module _ (r : Chronicle) (l n v : ℕ) where
  taking_next : (lines : List Event) → IsAboutTo r l n v lines → AllToldNext lines
  taking_next lines x = subst AllToldNext (sym x.together) (next_behind x.front (Event.Role n v Role.Pending ∷ x.behind)
      (unchanged_next x.front (are_also is_no_change (is_of_down l n v) (down_unchanged l n v) x.front x.taken)) (unchanged_next x.behind (are_also is_no_change (is_of_over l) (over_unchanged l) x.behind x.over)))

  owning_next : (lines : List Event) → TakesOver r l n v lines → AllToldNext lines
  owning_next lines x = subst AllToldNext (sym x.together) (next_behind x.front (Event.Role n v Role.Active ∷ (x.commits ++ x.behind))
      (unchanged_next x.front (are_also is_no_change (is_of_down l n v) (down_unchanged l n v) x.front x.taken))
      (next_behind x.commits x.behind (settled_next x.commits (are_also is_settled (is_own_commit n v) (own_settled n v) x.commits x.own))
      (unchanged_next x.behind (each_told (λ line. is_of_over l line || is_of_disk n line) (is_of_end r) is_no_change (broken_unchanged l n) (λ m stops line e. end_unchanged r m line e) x.behind x.over))))

down_next : (r : Chronicle) (l wanted : ℕ) (lines : List Event) → TellsOnly r (Verb.AtLink l (LinkVerb.Down wanted)) lines → AllToldNext lines
down_next r l wanted lines t = ⊎_elim (λ told. no_change r (Verb.AtLink l (LinkVerb.Down wanted)) (down_test (r.dial_of l) l wanted) lines told) (λ m. by (r.dial_of l) m) t
  where
    by : (dial : Option Dial) → MovesAt r dial l (LinkVerb.Down wanted) lines → AllToldNext lines
    by None m = absurd m
    by (Some dial) m = ⊎_elim (λ x. taking_next r l dial.node dial.vb lines x) (λ x. owning_next r l dial.node dial.vb lines x) m

-- one that is given up lets its clients go on, and its frames are no changes
dead_unchanged : (n : ℕ) (given : List Yielded) → Are is_no_change (map (dead_line n) given)
dead_unchanged n given = are_map is_no_change (dead_line n) given (λ one. refl)

gave_next : (w : PlainWorld) (frames : ℕ) (link : PlainLink) (o : Option PlainNode) → AllToldNext (gives_at frames link w o).1.events
gave_next w frames link None = tt
gave_next w frames link (Some node) =
    let n : ℕ = producer_node link in let came = after (peer_gives_up frames (peer_of link)) node.vbs in
    posted (map (dead_line n) came.1.given) (flat_map resolved_in came.1.given) (with_given n came.1.given (with_gone link node came.0 came.1.peer w)) n (unchanged_next (map (dead_line n) came.1.given) (dead_unchanged n came.1.given))
  where
    posted : (lines : List Event) (rs : List Resolved) (w3 : PlainWorld) (n : ℕ) → AllToldNext lines → AllToldNext (posted_in n rs (w3, done lines)).1.events
    posted lines rs w3 n t = by (w3.nodes n)
      where
        by : (o : Option PlainNode) → AllToldNext (posted_at n rs w3 (done lines) o).1.events
        by None = t
        by (Some node) = next_behind lines (all_posted rs node).1 t (posts_next rs node)

pump_next : (w : PlainWorld) (l frames : ℕ) → AllToldNext (pump_step w l frames).1.events
pump_next w l frames = by (row_at link_number l w.links)
  where
    put : (now : PlainWorld) → AllToldNext (on_link now l producer_node (pump_at frames)).1.events
    put now = on_link_by (λ o. AllToldNext o.1.events) now l producer_node (pump_at frames) tt (λ link found. tt)
        (λ link node found known. unchanged_next (pump_at frames link node).1.1.events (pump_so is_no_change link.server.desk (λ start end flags. refl) (λ c. refl) (λ reason. refl) (λ told. refl) frames link node refl))

    by : (o : Option PlainLink) → AllToldNext (pump_outcome w l frames o).1.events
    by None = tt
    by (Some link) = let gave = gives_at frames link w (w.nodes (producer_node link)) in next_behind gave.1.events (on_link gave.0 l producer_node (pump_at frames)).1.events (gave_next w frames link (w.nodes (producer_node link))) (put gave.0)

pub line_next : (w : PlainWorld) (r : Chronicle) (number : ℕ) (line : Verb) → (let x = (verb_step w number line).1 in ToldBy r line x.events → AllToldNext x.events)
line_next w r number (Verb.AtNode n (NodeVerb.Start uuids)) t = start_next w n uuids
line_next w r number (Verb.AtVb n v what) t = vb_next w r number n v what t
line_next w r number (Verb.AtClient n c (ClientVerb.Bytes bytes)) t = on_next w n (bytes_at c bytes) (bytes_next c bytes)
line_next w r number (Verb.AtLink l (LinkVerb.Up wanted)) t = up_next w l wanted
line_next w r number (Verb.Node n) t = no_change r (Verb.Node n) none_test (verb_step w number (Verb.Node n)).1.events t
line_next w r number (Verb.Link l m n v buffer takeover) t = no_change r (Verb.Link l m n v buffer takeover) none_test (verb_step w number (Verb.Link l m n v buffer takeover)).1.events t
line_next w r number (Verb.AtNode n (NodeVerb.Clock nanos)) t = no_change r (Verb.AtNode n (NodeVerb.Clock nanos)) none_test (verb_step w number (Verb.AtNode n (NodeVerb.Clock nanos))).1.events t
line_next w r number (Verb.AtNode n (NodeVerb.Stop k out)) t = no_change r (Verb.AtNode n (NodeVerb.Stop k out)) none_test (verb_step w number (Verb.AtNode n (NodeVerb.Stop k out))).1.events t
line_next w r number (Verb.AtNode n (NodeVerb.Fail k)) t = no_change r (Verb.AtNode n (NodeVerb.Fail k)) none_test (verb_step w number (Verb.AtNode n (NodeVerb.Fail k))).1.events t
line_next w r number (Verb.AtNode n (NodeVerb.Crash out)) t = no_change r (Verb.AtNode n (NodeVerb.Crash out)) (end_test r n) (verb_step w number (Verb.AtNode n (NodeVerb.Crash out))).1.events t
line_next w r number (Verb.AtClient n c ClientVerb.Open) t = no_change r (Verb.AtClient n c ClientVerb.Open) none_test (verb_step w number (Verb.AtClient n c ClientVerb.Open)).1.events t
line_next w r number (Verb.AtClient n c (ClientVerb.Pull wanted)) t = no_change r (Verb.AtClient n c (ClientVerb.Pull wanted)) (pull_test n c) (verb_step w number (Verb.AtClient n c (ClientVerb.Pull wanted))).1.events t
line_next w r number (Verb.AtClient n c ClientVerb.Hang) t = no_change r (Verb.AtClient n c ClientVerb.Hang) none_test (verb_step w number (Verb.AtClient n c ClientVerb.Hang)).1.events t
line_next w r number (Verb.AtLink l (LinkVerb.Down wanted)) t = down_next r l wanted (verb_step w number (Verb.AtLink l (LinkVerb.Down wanted))).1.events t
line_next w r number (Verb.AtLink l (LinkVerb.Pump frames)) t = pump_next w l frames
line_next w r number (Verb.AtLink l LinkVerb.Drop) t = no_change r (Verb.AtLink l LinkVerb.Drop) (drop_test (r.dial_of l) l) (verb_step w number (Verb.AtLink l LinkVerb.Drop)).1.events t
line_next w r number (Verb.AtLink l LinkVerb.Cut) t = no_change r (Verb.AtLink l LinkVerb.Cut) (cut_test (r.dial_of l) l) (verb_step w number (Verb.AtLink l LinkVerb.Cut)).1.events t
