-- nodes that go on running, and vBuckets that stay, through lines that stop no node and set no arm
use Rattle.std.specs.Prelude.{◌==◌, if◌then◌else◌}
use Rattle.std.proofs.Common.{◌≡◌, ℕ, Bool, true, false, List, [], ◌∷◌, take, refl, ap, sym, ◌∙◌, subst, Option, Some, None, is_some, option_map}
use Rattle.std.proofs.lemmas.Bool.{eqb-true}
use Rattle.dcp_producer.specs.{Ending.{end_closed}, declared.yields.Yielded.{Yielded}}
use Rattle.disk_journals.specs.Arms.{arm_over, armed_at, under}
use Rattle.mcbp_frame.specs.declared.frame.Frame.{Frame}
use Rattle.node_core.specs.Admin.{admin_job}
use Rattle.node_core.specs.Clients.{PlainClient, client_fed, client_posted, new_client}
use Rattle.node_core.specs.Dials.{dial_bytes, dial_due}
use Rattle.node_core.specs.{GivingUp.{dead_line, peer_gives_up, resolved_in}}
use Rattle.std.specs.List.{flat_map}
use Rattle.std.specs.Prelude.{map}
use Rattle.node_core.specs.Peers.{PeerResult, peer_answered, peer_frames, peer_heard, peer_pulled}
use Rattle.node_core.specs.declared.admin.AdminCall.{AdminCall}
use Rattle.node_world.proofs.AfterPosts.{posts_arm, posts_leave, posts_shelves}
use Rattle.node_world.proofs.Resting.{job_rests}
use Rattle.node_world.specs.Arms.{fired_by, fuse_or, placed, under_arm}
use Rattle.node_world.specs.Cuts.{closed_at, links_ended, own_link, unlinked}
use Rattle.node_world.specs.Dues.{due_at, due_in, due_of, is_counted}
use Rattle.node_world.specs.Links.{PlainLink, LinkResult, dial_of, down_at, frame_up, frames_up, link_number, moved_len, peer_of, producer_node, consumer_node, pump_at, untold_peer, up_at}
use Rattle.node_world.specs.Nodes.{flush_here, PlainNode, all_posted, awaiting, bytes_at, bytes_if, client_at, done, flush_line, if_up, posted, posted_if, posted_to, refusal, refused_or, save_line, with_client, with_kept, with_states}
use Rattle.node_world.specs.Power.{after_broken, after_fire, is_broken_answer, with_arm, with_broken}
use Rattle.node_world.specs.Rests.{RestsIf}
use Rattle.node_world.specs.{Nodes.{with_clients_ended}, Pumps.{gives_at, with_given, with_gone}, Turns.{admin_line, posted_at, posted_in, with_ended}}
use Rattle.node_world.specs.World.{down_in, down_outcome, down_step, link_outcome, on_link, pump_outcome, pump_step, relinked}
use Rattle.node_world.specs.Worlds.{PlainWorld, Outcome, arm_in, node_if, node_outcome, on_node, vb_in, with_links, with_node_at}
use Rattle.node_world.specs.declared.script_node.TheConstants.{MAX_CLIENTS}
use Rattle.node_world.specs.declared.told.Told.{Told}
use Rattle.vb_calls.specs.Jobs.{Job, after_job}
use Rattle.vb_calls.specs.Jobs as job
use Rattle.vb_calls.specs.Plain.{Plain, plain_step}
use Rattle.vb_calls.specs.Programs.{Prog, Call, Done, after}
use Rattle.vb_calls.specs.Shelves.{Shelf, Shelves, shelves_step}
use Rattle.vb_calls.specs.States.{States, call_at, states_step, with_vb_at}
use Rattle.vb_calls.specs.declared.calls.Resolved.{Resolved}
use Rattle.vb_calls.specs.declared.calls.VbCall.{VbCall}
use Rattle.vb_calls.specs.declared.calls.VbReply.{VbReply}
use Rattle.vb_disk.specs.declared.fuse.Fuse.{Fuse}
use Rattle.vb_disk.specs.declared.fuse.Fuse.TheVariants.{Off}
use Rattle.vb_events.specs.declared.event.Cause.{Cause}
use Rattle.vb_events.specs.declared.event.Cause.TheVariants as cause
use Rattle.vb_types.specs.declared.journal.FlushPart.{FlushPart}
use Rattle.vb_types.specs.declared.journal.FlushPart.TheVariants as part
use Rattle.vbucket.specs.Rows.{row_at}

-- ---- vBuckets

-- each that was there is there
abbrev pub Kept : States → States → Type 0
Kept old new = (u : ℕ) → is_some (old u) ≡ true → is_some (new u) ≡ true

put_keeps : (states : States) (v : ℕ) (vb : Plain) → Kept states (with_vb_at states v vb)
put_keeps states v vb u here = by (u == v)
  where
    by : (b : Bool) → is_some (if b then Some vb else states u) ≡ true
    by true = refl
    by false = here

step_keeps : (states : States) (v : ℕ) (made : VbCall) → Kept states (states_step states v made).0
step_keeps states v made u here = by (states v)
  where
    by : (o : Option Plain) → is_some ((call_at states v made o).0 u) ≡ true
    by None = here
    by (Some vb) = put_keeps states v (plain_step vb made).0 u here

ran_keeps : {A : Type 0} (prog : Prog A) (states : States) → Kept states (after prog states).0
ran_keeps (Done a) states u here = here
ran_keeps (Call v made next) states u here =
    let step : States × Option VbReply = states_step states v made in ran_keeps (next step.1) step.0 u (step_keeps states v made u here)

job_keeps : {A : Type 0} (one : Job A) (states : States) (shelves : Shelves) → Kept states (after_job one states shelves).0.0
job_keeps (job.Ended a) states shelves u here = here
job_keeps (job.Call v made next) states shelves u here =
    let step : States × Option VbReply = states_step states v made in job_keeps (next step.1) step.0 shelves u (step_keeps states v made u here)
job_keeps (job.Request v ask next) states shelves u here = let step = shelves_step shelves v ask in job_keeps (next step.1) states step.0 u here

-- ---- nodes

-- a node runs, and no arm is set there or over a disk
pub record Runs (node : PlainNode) : Type 0 where
  pub up : is_some node.off ≡ false
  pub unarmed : node.arm.fuse ≡ Off
  pub rests : (u : ℕ) → RestsIf (node.shelves u)

-- one that runs goes on running, and its vBuckets stay
pub record Stays (before now : PlainNode) : Type 0 where
  pub runs : Runs before → Runs now
  pub there : Kept before.vbs now.vbs

same : (node : PlainNode) → Stays node node
same node = record { runs = λ r. r; there = λ u here. here }

onward : (a b c : PlainNode) → Stays a b → Stays b c → Stays a c
onward a b c first next = record { runs = λ r. next.runs (first.runs r); there = λ u here. next.there u (first.there u here) }

-- where its vBuckets and connections alone become others
vbs_stay : (before now : PlainNode) → now.off ≡ before.off → now.arm ≡ before.arm → now.shelves ≡ before.shelves → Kept before.vbs now.vbs → Stays before now
vbs_stay before now off arm shelves kept = record {
  runs = λ r. record {
    up = ap (λ o. is_some o) off ∙ r.up;
    unarmed = ap (λ a. a.fuse) arm ∙ r.unarmed;
    rests = λ u. subst (λ (s : Shelves). RestsIf (s u)) (sym shelves) (r.rests u);
  };
  there = kept;
}

-- what a job makes of it
job_stays : {A : Type 0} (one : Job A) (node : PlainNode) → Stays node (with_kept node (after_job one node.vbs node.shelves).0)
job_stays one node = record {
  runs = λ r. record { up = r.up; unarmed = r.unarmed; rests = λ u. job_rests one node.vbs node.shelves u (r.rests u) };
  there = job_keeps one node.vbs node.shelves;
}

-- outcomes are told
if_keeps : (c : ℕ) (r : Resolved) (node : PlainNode) (o : Option PlainClient) → Kept node.vbs (posted_if c r node o).0.vbs
if_keeps c r node None u here = here
if_keeps c r node (Some client) u here = ran_keeps (client_posted node.clock r client) node.vbs u here

to_keeps : (r : Resolved) (node : PlainNode) (o : Option ℕ) → Kept node.vbs (posted_to r node o).0.vbs
to_keeps r node None u here = here
to_keeps r node (Some c) u here = if_keeps c r node (node.clients c) u here

posts_keep : (rs : List Resolved) (node : PlainNode) → Kept node.vbs (all_posted rs node).0.vbs
posts_keep [] node u here = here
posts_keep (r ∷ rs) node u here = posts_keep rs (posted r node).0 u (to_keeps r node (awaiting node.clients r.waiter MAX_CLIENTS) u here)

posts_stay : (rs : List Resolved) (node : PlainNode) → Stays node (all_posted rs node).0
posts_stay rs node =
    vbs_stay node (all_posted rs node).0 (ap (λ (x : PlainNode). x.off) (posts_leave rs node)) (posts_arm rs node) (posts_shelves rs node) (posts_keep rs node)

-- lines of a node
pub client_stays : (n base c : ℕ) (node : PlainNode) → Stays node (client_at n base c node).0
client_stays n base c node =
    let x : PlainNode × Told = (with_client node c (Some (new_client (record { node = n; client = c; base = base }))), done []) in
    by (is_some (node.clients c)) x (vbs_stay node x.0 refl refl refl (λ u here. here))
  where
    by : (b : Bool) (x : PlainNode × Told) → Stays node x.0 → Stays node (if b then (node, refusal cause.LinkOpen) else x).0
    by true x stays = same node
    by false x stays = stays

pub bytes_stay : (c : ℕ) (bytes : List ℕ) (node : PlainNode) → Stays node (bytes_at c bytes node).0
bytes_stay c bytes node = by (node.clients c)
  where
    by : (o : Option PlainClient) → Stays node (bytes_if c bytes node o).0
    by None = same node
    by (Some client) = vbs_stay node (bytes_if c bytes node (Some client)).0 refl refl refl (ran_keeps (client_fed node.clock bytes client) node.vbs)

pub admin_stays : (n v : ℕ) (asked : AdminCall) (node : PlainNode) → Stays node (admin_line n v asked node).0
admin_stays n v asked node = job_stays (admin_job n v asked) node

pub flush_stays : (n v : ℕ) (p : FlushPart) (node : PlainNode) → Stays node (flush_line n v p node).0
flush_stays n v p node =
    let came = after_job (flush_here n v p node) node.vbs node.shelves in
    onward node (with_kept node came.0) (flush_line n v p node).0 (job_stays (flush_here n v p node) node) (posts_stay came.1.resolved (with_kept node came.0))

-- the frames of a link, for its producer and for its consumer
frames_stay : (fs : List Frame) (came : PlainNode × PeerResult) → Stays came.0 (frames_up fs came).0
frames_stay [] came = same came.0
frames_stay (f ∷ fs) came =
    let said = after (peer_answered f came.1.peer) came.0.vbs in
    let mid : PlainNode = with_states came.0 said.0 in
    let next : PlainNode = (frame_up f came).0 in
    onward came.0 next (frames_up fs (frame_up f came)).0
    (onward came.0 mid next (vbs_stay came.0 mid refl refl refl (ran_keeps (peer_answered f came.1.peer) came.0.vbs)) (posts_stay said.1.resolved mid))
    (frames_stay fs (frame_up f came))

pub up_stays : (wanted : ℕ) (link : PlainLink) (node : PlainNode) → Stays node (up_at wanted link node).0
up_stays wanted link node =
    let piece = take (moved_len wanted link.up) link.up in frames_stay (peer_frames piece (peer_of link)) (node, untold_peer (peer_heard piece (peer_of link)))

pump_stays : (frames : ℕ) (link : PlainLink) (node : PlainNode) → Stays node (pump_at frames link node).0
pump_stays frames link node = job_stays (peer_pulled frames (peer_of link)) node

down_stays : (wanted : ℕ) (link : PlainLink) (node : PlainNode) → Stays node (down_at wanted link node).0
down_stays wanted link node = job_stays (dial_bytes (take (moved_len wanted link.down) link.down) (dial_of link)) node

closed_stays : (link : PlainLink) (node : PlainNode) → Stays node (closed_at link node)
closed_stays link node = vbs_stay node (closed_at link node) refl refl refl (ran_keeps (end_closed link.server) node.vbs)

-- where no arm is set, none is over a disk when it is put there, and none is left when it is taken off
off_rests : (shelves : Shelves) (v u : ℕ) → ((k : ℕ) → RestsIf (shelves k)) → RestsIf (arm_over shelves v Off u)
off_rests shelves v u rests = by (shelves v)
  where
    at : (x : Shelf) (b : Bool) → RestsIf (if b then Some (under Off x) else shelves u)
    at x true = refl
    at x false = rests u

    by : (o : Option Shelf) → RestsIf (armed_at shelves v Off o u)
    by None = rests u
    by (Some x) = at x (u == v)

left_off : (o : Option Shelf) (f : Fuse) → f ≡ Off → RestsIf o → fuse_or f (option_map (λ (s : Shelf). s.fuse) o) ≡ Off
left_off None f off rest = off
left_off (Some shelf) f off rest = rest

under_stays : {T : Type 0} (v : ℕ) (f : PlainNode → PlainNode × T) (node : PlainNode) → ((x : PlainNode) → Stays x (f x).0) → Stays node (under_arm v f node).0
under_stays v f node stays =
    let mid : PlainNode = placed v node in
    let next : PlainNode = (f mid).0 in
    record {
      runs = λ r.
          let ready : Runs mid =
          record { up = r.up; unarmed = r.unarmed; rests = λ u. subst (λ f. RestsIf (arm_over node.shelves v f u)) (sym r.unarmed) (off_rests node.shelves v u r.rests) } in
          let ran : Runs next = (stays mid).runs ready in
          record { up = ran.up; unarmed = left_off (next.shelves v) next.arm.fuse ran.unarmed (ran.rests v); rests = λ u. off_rests next.shelves v u ran.rests };
      there = (stays mid).there;
    }

pub save_stays : (n v : ℕ) (node : PlainNode) → Stays node (save_line n v node).0
save_stays n v node = under_stays v (flush_line n v part.Save) node (flush_stays n v part.Save)

down_in_stays : (wanted : ℕ) (link : PlainLink) (node : PlainNode) → Stays node (down_in wanted link node).0
down_in_stays wanted link node = under_stays link.consumer.dialed.vb (down_at wanted link) node (down_stays wanted link)

-- ---- and of the world

abbrev pub RunsIf : Option PlainNode → Type 0
RunsIf None = Unit {0}
RunsIf (Some node) = Runs node

-- all nodes that are made run, and the vBucket v of the node n is there
pub record Here (n v : ℕ) (w : PlainWorld) : Type 0 where
  pub runs : (m : ℕ) → RunsIf (w.nodes m)
  pub there : is_some (vb_in (w.nodes n) v) ≡ true

-- no arm is set at any node
off_in : (o : Option PlainNode) → RunsIf o → (arm_in o).fuse ≡ Off
off_in None runs = refl
off_in (Some node) runs = runs.unarmed

module _ (n v : ℕ) where
  put_here : (w : PlainWorld) (m : ℕ) (node now : PlainNode) → Here n v w → w.nodes m ≡ Some node → Stays node now → Here n v (with_node_at w m now)
  put_here w m node now here at stays = record { runs = λ k. all k (k == m); there = one (n == m) refl }
    where
      all : (k : ℕ) (b : Bool) → RunsIf (if b then Some now else w.nodes k)
      all k true = stays.runs (subst RunsIf at (here.runs m))
      all k false = here.runs k

      one : (b : Bool) → (n == m) ≡ b → is_some (vb_in (if b then Some now else w.nodes n) v) ≡ true
      one true e = stays.there v (subst (λ o. is_some (vb_in o v) ≡ true) (ap w.nodes (eqb-true n m e) ∙ at) here.there)
      one false e = here.there

  made_here : {T : Type 0} (w : PlainWorld) (m : ℕ) (absent : T) (f : PlainNode → PlainNode × T) → Here n v w → ((node : PlainNode) → Stays node (f node).0)
      → Here n v (node_outcome w m absent (w.nodes m) f).0
  made_here w m absent f here stays = by (w.nodes m) refl
    where
      by : (o : Option PlainNode) → w.nodes m ≡ o → Here n v (node_outcome w m absent o f).0
      by None at = here
      by (Some node) at = put_here w m node (f node).0 here at (stays node)

  pub node_here : (w : PlainWorld) (m : ℕ) (f : PlainNode → PlainNode × Told) → Here n v w → ((node : PlainNode) → Stays node (f node).0) → Here n v (on_node w m f).0
  node_here w m f here stays = made_here w m (refusal cause.UnknownNode) (if_up f) here (λ node. by node (is_some node.off))
    where
      by : (node : PlainNode) (b : Bool) → Stays node (if b then (node, refusal cause.NodeDown) else f node).0
      by node true = same node
      by node false = stays node

  -- a world of the same nodes
  pub nodes_here : (w now : PlainWorld) → now.nodes ≡ w.nodes → Here n v w → Here n v now
  nodes_here w now e here =
      record { runs = λ m. subst (λ (f : ℕ → Option PlainNode). RunsIf (f m)) (sym e) (here.runs m); there = subst (λ (f : ℕ → Option PlainNode). is_some (vb_in (f n) v) ≡ true) (sym e) here.there }

  unlinked_here : (w : PlainWorld) (link : PlainLink) → Here n v w → Here n v (unlinked link w)
  unlinked_here w link here = nodes_here (node_if m (closed_at link) w (w.nodes m)) (unlinked link w) refl (by (w.nodes m) refl)
    where
      m : ℕ
      m = producer_node link

      by : (o : Option PlainNode) → w.nodes m ≡ o → Here n v (node_if m (closed_at link) w o)
      by None at = here
      by (Some node) at = put_here w m node (closed_at link node) here at (closed_stays link node)

  pub link_here : (w : PlainWorld) (l : ℕ) (end : PlainLink → ℕ) (f : PlainLink → PlainNode → PlainNode × LinkResult) → Here n v w → ((link : PlainLink) (node : PlainNode) → Stays node (f link node).0)
      → Here n v (on_link w l end f).0
  link_here w l end f here stays = by (row_at link_number l w.links)
    where
      left : (link : PlainLink) (now : PlainWorld) (o : Option PlainLink) → Here n v now → Here n v (relinked link o now)
      left link now None there = unlinked_here now link there
      left link now (Some other) there = nodes_here now (relinked link (Some other) now) refl there

      by : (o : Option PlainLink) → Here n v (link_outcome w l end f o).0
      by None = here
      by (Some link) =
          let came = node_outcome w (end link) (Some link, refusal cause.UnknownNode) (w.nodes (end link)) (f link) in
          left link came.0 came.1.0 (made_here w (end link) (Some link, refusal cause.UnknownNode) (f link) here (stays link))

  -- vBuckets that are given up, and outcomes that are posted
  ended_here : (w : PlainWorld) (m q : ℕ) (ids : List ℕ) → Here n v w → Here n v (with_ended m q ids w)
  ended_here w m q ids here = by (w.nodes m) refl
    where
      by : (o : Option PlainNode) → w.nodes m ≡ o → Here n v (with_links (node_if m (with_clients_ended q ids) w o) (links_ended m q ids w.links))
      by None at = nodes_here w (with_links w (links_ended m q ids w.links)) refl here
      by (Some node) at =
          let now : PlainWorld = with_node_at w m (with_clients_ended q ids node) in
          nodes_here now (with_links now (links_ended m q ids w.links)) refl (put_here w m node (with_clients_ended q ids node) here at (vbs_stay node (with_clients_ended q ids node) refl refl refl (λ u there. there)))

  given_here : (m : ℕ) (given : List Yielded) (w : PlainWorld) → Here n v w → Here n v (with_given m given w)
  given_here m [] w here = here
  given_here m (one ∷ more) w here = given_here m more (with_ended m one.vb one.ended w) (ended_here w m one.vb one.ended here)

  posted_here : (m : ℕ) (rs : List Resolved) (o : Outcome) → Here n v o.0 → Here n v (posted_in m rs o).0
  posted_here m rs o here = by (o.0.nodes m) refl
    where
      by : (k : Option PlainNode) → o.0.nodes m ≡ k → Here n v (posted_at m rs o.0 o.1 k).0
      by None at = here
      by (Some node) at = put_here o.0 m node (all_posted rs node).0 here at (posts_stay rs node)

  pub pump_here : (w : PlainWorld) (l frames : ℕ) → Here n v w → Here n v (pump_step w l frames).0
  pump_here w l frames here = by (row_at link_number l w.links)
    where
      gave : (link : PlainLink) (o : Option PlainNode) → w.nodes (producer_node link) ≡ o → Here n v (gives_at frames link w o).0
      gave link None e = here
      gave link (Some node) e =
          let m = producer_node link in let x = after (peer_gives_up frames (peer_of link)) node.vbs in let given : List Yielded = x.1.given in
          posted_here m (flat_map resolved_in given) (with_given m given (with_gone link node x.0 x.1.peer w), done (map (dead_line m) given))
          (given_here m given (with_gone link node x.0 x.1.peer w) (nodes_here (with_node_at w m (with_states node x.0)) (with_gone link node x.0 x.1.peer w) refl
          (put_here w m node (with_states node x.0) here e (vbs_stay node (with_states node x.0) refl refl refl (ran_keeps (peer_gives_up frames (peer_of link)) node.vbs)))))

      by : (o : Option PlainLink) → Here n v (pump_outcome w l frames o).0
      by None = here
      by (Some link) = link_here (gives_at frames link w (w.nodes (producer_node link))).0 l producer_node (pump_at frames) (gave link (w.nodes (producer_node link)) refl) (pump_stays frames)

  -- no arm fires
  pub armed_here : (w : PlainWorld) (m : ℕ) (came : Outcome) → Here n v w → Here n v came.0 → Here n v (with_arm m w came).0
  armed_here w m came here now =
      subst (λ f. Here n v (after_fire m (arm_in (w.nodes m)).out (fired_by f (arm_in (came.0.nodes m)).fuse) came).0) (sym (off_in (w.nodes m) (here.runs m))) now

  broken_here : (w : PlainWorld) (m l : ℕ) (came : Outcome) → Here n v w → Here n v came.0 → Here n v (with_broken m l w came).0
  broken_here w m l came here now = by (is_broken_answer came.1.answer)
    where
      by : (b : Bool) → Here n v (if b then after_broken m l (arm_in (w.nodes m)).out (fired_by (arm_in (w.nodes m)).fuse (arm_in (came.0.nodes m)).fuse) came else came).0
      by true = subst (λ f. Here n v (after_broken m l (arm_in (w.nodes m)).out (fired_by f (arm_in (came.0.nodes m)).fuse) came).0) (sym (off_in (w.nodes m) (here.runs m))) now
      by false = now

  pub down_here : (w : PlainWorld) (l wanted : ℕ) → Here n v w → Here n v (down_step w l wanted).0
  down_here w l wanted here = by (row_at link_number l w.links)
    where
      came : Outcome
      came = on_link w l consumer_node (down_in wanted)

      now : Here n v came.0
      now = link_here w l consumer_node (down_in wanted) here (down_in_stays wanted)

      by : (o : Option PlainLink) → Here n v (down_outcome w l o came).0
      by None = now
      by (Some link) = broken_here w (consumer_node link) l came here now

  -- what the own link of a vBucket acknowledges
  pub due_here : (m q : ℕ) (came : Outcome) → Here n v came.0 → Here n v (due_in m q came).0
  due_here m q came here = by (is_counted came.1.answer)
    where
      at : (link : PlainLink) (o : Option PlainNode) → came.0.nodes m ≡ o → Here n v (due_at m link came.0 came.1 o).0
      at link None e = here
      at link (Some node) e =
          let states = (after (dial_due (dial_of link)) node.vbs).0 in
          nodes_here (with_node_at came.0 m (with_states node states)) (due_at m link came.0 came.1 (Some node)).0 refl
          (put_here came.0 m node (with_states node states) here e (vbs_stay node (with_states node states) refl refl refl (ran_keeps (dial_due (dial_of link)) node.vbs)))

      owned : (o : Option PlainLink) → Here n v (due_of m came.0 came.1 o).0
      owned None = here
      owned (Some link) = at link (came.0.nodes m) refl

      by : (b : Bool) → Here n v (if b then due_of m came.0 came.1 (own_link m q came.0.links) else came).0
      by true = owned (own_link m q came.0.links)
      by false = here

  pub unless_here : (why : Option Cause) (w : PlainWorld) (came : Outcome) → Here n v w → Here n v came.0 → Here n v (refused_or why w came).0
  unless_here None w came here now = now
  unless_here (Some why) w came here now = here
