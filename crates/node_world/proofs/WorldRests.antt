-- no arm is left over a disk behind a line
use Rattle.std.specs.Prelude.{◌==◌, if◌then◌else◌}
use Rattle.std.proofs.Common.{◌≡◌, ℕ, Bool, true, false, List, [], ◌∷◌, ◌++◌, filter, flat_map, length, map, take, refl, ap, sym, subst, Option, Some, None, is_some, find, option_map}
use Rattle.std.proofs.lemmas.Bool.{eqb-true}
use Rattle.disk_journals.specs.Arms.{opens_all}
use Rattle.disk_journals.specs.Books.{Book, opened_shelf}
use Rattle.durability.specs.Chains.{Members}
use Rattle.mcbp_frame.specs.declared.frame.Frame.{Frame}
use Rattle.script_text.specs.declared.verb.ScriptLine.{ScriptLine}
use Rattle.script_text.specs.declared.verb.Verb.{Verb}
use Rattle.script_text.specs.declared.verb.Verb.TheVariants as verb
use Rattle.script_text.specs.declared.verb.VbVerb.TheVariants as vb_verb
use Rattle.script_text.specs.declared.verb.NodeVerb.TheVariants as node_verb
use Rattle.script_text.specs.declared.verb.LinkVerb.TheVariants as link_verb
use Rattle.script_text.specs.declared.verb.ClientVerb.TheVariants as client_verb
use Rattle.vb_calls.specs.Programs.{after}
use Rattle.vb_calls.specs.States.{States}
use Rattle.vb_calls.specs.Jobs.{after_job}
use Rattle.vb_calls.specs.declared.calls.Resolved.{Resolved}
use Rattle.vb_calls.specs.Shelves.{Append, Shelf, Shelves}
use Rattle.vb_calls.specs.State.{first_log}
use Rattle.vb_disk.specs.declared.made.Outcome.{Outcome as Left}
use Rattle.vb_events.specs.declared.event.Cause.{Cause}
use Rattle.vb_events.specs.declared.event.Cause.TheVariants as cause
use Rattle.vb_types.specs.declared.journal.FlushPart.{FlushPart}
use Rattle.vb_types.specs.declared.journal.FlushPart.TheVariants as part
use Rattle.vb_types.specs.declared.journal.Record.TheVariants.{State}
use Rattle.vb_types.specs.declared.role.Role.{Role}
use Rattle.vb_types.specs.declared.role.Role.TheVariants as role
use Rattle.vbucket.specs.Rows.{row_at}
use Rattle.dcp_producer.specs.declared.yields.Yielded.{Yielded}
use Rattle.node_core.specs.Admin.{AdminResult, admin_job}
use Rattle.node_core.specs.GivingUp.{GiveResult, dead_line, peer_gives_up, resolved_in}
use Rattle.node_core.specs.Dials.{dial_due, dial_bytes}
use Rattle.node_core.specs.Flushing.{FlushResult, chain_changed, ticked}
use Rattle.node_core.specs.Peers.{PeerResult, peer_answered, peer_frames, peer_heard, peer_pulled}
use Rattle.node_core.specs.Loading.{are_short, start_job, starts_of}
use Rattle.node_core.specs.declared.admin.AdminCall.{AdminCall}
use Rattle.node_core.specs.declared.admin.AdminCall.TheVariants as admin
use Rattle.node_core.specs.Clients.{PlainClient, client_pulled}
use Rattle.node_world.specs.Arms.{fail_arm, fired_by, stop_arm, under_arm}
use Rattle.node_world.specs.Cuts.{closed_at, cut_off, links_ended, own_link, unlinked}
use Rattle.node_world.specs.Dues.{due_at, due_in, due_of, is_counted}
use Rattle.node_world.specs.Links.{PlainLink, LinkResult, dial_of, frame_up, frames_up, link_number, moved_len, peer_of, producer_node, consumer_node, down_at, drop_at, pump_at, untold_peer, up_at}
use Rattle.node_world.specs.Nodes.{PlainNode, all_posted, arm_at, bytes_at, chain_causes, chain_line, chain_made, client_at, clock_at, done, empty_node, flush_here, bytes_if, first_cause, flush_line, hang_at, hung_if, if_up, pull_at, pull_if, refusal, refused_or, replica_at, replica_causes, save_line, shelf_or_blank, tick_line, vb_at, vb_causes, vb_made, vb_noted, with_clients_ended, with_disk, with_kept, with_states}
use Rattle.node_world.specs.Power.{after_broken, after_fire, all_cut, all_unlinked, burnt_arm, crash_causes, down_lines, dropped, is_broken_answer, loaded_node, not_opened, opened_at, start_at, start_call, start_causes, start_if, start_one, started_by, starts_from, stopped_node, touches, with_arm, with_broken}
use Rattle.node_world.specs.Pumps.{gives_at, gone_told, with_given, with_gone, with_yielded}
use Rattle.node_world.specs.Rests.{Rests, RestsIf}
use Rattle.node_world.specs.Stands.{IdsStand, Kept, LinksStand, NodesStand, WorldStands, ends_of}
use Rattle.node_world.specs.Turns.{admin_line, called_at, no_node, posted_at, posted_in, promote_causes, promote_step, role_called, role_outcome, turn_causes, turn_step, turned, turned_if, with_ended}
use Rattle.node_world.specs.World.{ask_in, base_of, branch_of_line, cut_outcome, down_in, down_outcome, down_step, group_with, link_causes, link_outcome, node_causes, on_link, pump_outcome, pump_step, relinked, verb_step, with_dialed, world_step}
use Rattle.node_world.specs.Worlds.{PlainWorld, Outcome, arm_in, empty_world, node_if, node_outcome, on_made, on_node, shelf_in, with_links, with_node_at, with_node_if}
use Rattle.node_world.specs.declared.arm.Fired.{Fired}
use Rattle.node_world.specs.declared.arm.Fired.TheVariants as fired
use Rattle.node_world.specs.declared.link.Link.{Link}
use Rattle.node_world.specs.declared.script_node.ScriptNode.{ScriptNode}
use Rattle.node_world.specs.declared.told.Told.{Told}
use Rattle.node_world.proofs.AfterPosts.{posts_shelves}
use Rattle.node_world.proofs.Resting.{ask_rests, job_rests, under_rests}

-- ---- what a line makes of a node

-- no arm is over the disk of the vBucket v
abbrev At : ℕ → PlainNode → Type 0
At v node = RestsIf (node.shelves v)

-- outcomes are told
posts_keep : (v : ℕ) (rs : List Resolved) (node : PlainNode) → At v node → At v (all_posted rs node).0
posts_keep v rs node h = subst (λ (s : Shelves). RestsIf (s v)) (sym (posts_shelves rs node)) h

-- it is so after f, if it was before
abbrev Keeps : {T : Type 0} → (PlainNode → PlainNode × T) → Type 0
Keeps f = (v : ℕ) (node : PlainNode) → At v node → At v (f node).0

up_keeps : (f : PlainNode → PlainNode × Told) → Keeps f → Keeps (if_up f)
up_keeps f keeps v node h = by (is_some node.off)
  where
    by : (b : Bool) → At v (if b then (node, refusal cause.NodeDown) else f node).0
    by true = h
    by false = keeps v node h

unless : (v : ℕ) (why : Option Cause) (before : PlainNode) (came : PlainNode × Told) → At v before → At v came.0 → At v (refused_or why before came).0
unless v None before came h g = g
unless v (Some why) before came h g = h

disk_keeps : (v u : ℕ) (node : PlainNode) → At v node → At v (with_disk node u)
disk_keeps v u node h = by (v == u) refl
  where
    blank : (o : Option Shelf) → RestsIf o → RestsIf (Some (shelf_or_blank o))
    blank None h = refl
    blank (Some x) h = h

    by : (b : Bool) → (v == u) ≡ b → RestsIf (if b then Some (shelf_or_blank (node.shelves u)) else node.shelves v)
    by true e = blank (node.shelves u) (subst (λ k. RestsIf (node.shelves k)) (eqb-true v u e) h)
    by false e = h

new_keeps : (n u : ℕ) (r : Role) (uuid : ℕ) → Keeps (vb_noted n u r uuid)
new_keeps n u r uuid v node h = ask_rests node.shelves u v (Append (State r (first_log r uuid))) (node.shelves u) refl h

made_keeps : (n u : ℕ) (r : Role) (uuid : ℕ) → Keeps (vb_made n u r uuid)
made_keeps n u r uuid v node h = under_rests u (vb_noted n u r uuid) (with_disk node u) v (new_keeps n u r uuid v) (disk_keeps v u node h)

vb_keeps : (uuids : List ℕ) (n u uuid : ℕ) → Keeps (vb_at uuids n u uuid)
vb_keeps uuids n u uuid v node h = unless v (first_cause (vb_causes uuids node u uuid)) node (vb_made n u role.Active uuid node) h (made_keeps n u role.Active uuid v node h)

replica_keeps : (n u : ℕ) → Keeps (replica_at n u)
replica_keeps n u v node h = unless v (first_cause (replica_causes node u)) node (vb_made n u role.Replica 0 node) h (made_keeps n u role.Replica 0 v node h)

client_keeps : (n base c : ℕ) → Keeps (client_at n base c)
client_keeps n base c v node h = by (is_some (node.clients c)) _ h
  where
    by : (b : Bool) (x : PlainNode × Told) → At v x.0 → At v (if b then (node, refusal cause.LinkOpen) else x).0
    by true x g = h
    by false x g = g

bytes_keeps : (c : ℕ) (bytes : List ℕ) → Keeps (bytes_at c bytes)
bytes_keeps c bytes v node h = by (node.clients c)
  where
    by : (o : Option PlainClient) → At v (bytes_if c bytes node o).0
    by None = h
    by (Some client) = h

hang_keeps : (c : ℕ) → Keeps (hang_at c)
hang_keeps c v node h = by (node.clients c)
  where
    by : (o : Option PlainClient) → At v (hung_if c node o).0
    by None = h
    by (Some client) = h

pull_keeps : (c frames : ℕ) → Keeps (pull_at c frames)
pull_keeps c frames v node h = by (node.clients c)
  where
    by : (o : Option PlainClient) → At v (pull_if c frames node o).0
    by None = h
    by (Some client) = job_rests (client_pulled frames client) node.vbs node.shelves v h

admin_keeps : (n u : ℕ) (asked : AdminCall) → Keeps (admin_line n u asked)
admin_keeps n u asked v node h = job_rests (admin_job n u asked) node.vbs node.shelves v h

role_keeps : (n u : ℕ) (asked : AdminCall) → Keeps (role_called n u asked)
role_keeps n u asked v node h = by (is_some node.off) _ h
  where
    by : (b : Bool) (x : PlainNode × AdminResult) → At v x.0 → At v (if b then x else under_arm u (called_at n u asked) node).0
    by true x g = g
    by false x g = under_rests u (called_at n u asked) node v (λ y. job_rests (admin_job n u asked) y.vbs y.shelves v) h

flush_keeps : (n u : ℕ) (p : FlushPart) → Keeps (flush_line n u p)
flush_keeps n u p v node h =
    let came = after_job (flush_here n u p node) node.vbs node.shelves in posts_keep v came.1.resolved (with_kept node came.0) (job_rests (flush_here n u p node) node.vbs node.shelves v h)

chain_keeps : (n u : ℕ) (others : Members) → Keeps (chain_line n u others)
chain_keeps n u others v node h =
    let came = after (chain_changed n u (record { active = n; others = others })) node.vbs in
    unless v (first_cause (chain_causes n u others node)) node (chain_made n u others node) h (posts_keep v came.1.resolved (with_states node came.0) h)

tick_keeps : (n u : ℕ) → Keeps (tick_line n u)
tick_keeps n u v node h = let came = after (ticked n u node.clock) node.vbs in posts_keep v came.1.resolved (with_states node came.0) h

-- frames for a producer
frames_keep : (v : ℕ) (fs : List Frame) (came : PlainNode × PeerResult) → At v came.0 → At v (frames_up fs came).0
frames_keep v [] came h = h
frames_keep v (f ∷ fs) came h = let said = after (peer_answered f came.1.peer) came.0.vbs in frames_keep v fs (frame_up f came) (posts_keep v said.1.resolved (with_states came.0 said.0) h)

moved_keeps : (wanted : ℕ) (link : PlainLink) → Keeps (up_at wanted link)
moved_keeps wanted link v node h =
    let piece = take (moved_len wanted link.up) link.up in
    frames_keep v (peer_frames piece (peer_of link)) (node, untold_peer (peer_heard piece (peer_of link))) h

save_keeps : (n u : ℕ) → Keeps (save_line n u)
save_keeps n u v node h = under_rests u (flush_line n u part.Save) node v (flush_keeps n u part.Save v) h

down_keeps : (wanted : ℕ) (link : PlainLink) → Keeps (down_in wanted link)
down_keeps wanted link v node h =
    under_rests link.consumer.dialed.vb (down_at wanted link) node v (λ y. job_rests (dial_bytes (take (moved_len wanted link.down) link.down) (dial_of link)) y.vbs y.shelves v) h

-- a start
opened_rests : (o : Option Book) → RestsIf (option_map opened_shelf o)
opened_rests None = tt
opened_rests (Some book) = refl

starts_rest : (n v : ℕ) (starts : List (ℕ × ℕ)) (node : PlainNode) (told : Told) → At v node → At v (starts_from n starts (node, told)).0
starts_rest n v [] node told h = h
starts_rest n v (start ∷ starts) node told h =
    let x = start_one n start node in
    by (λ y said. starts_rest n v starts y said) (fired_by node.arm.fuse x.0.arm.fuse) x.1 x.0 (under_rests start.0 (start_call n start.0 start.1) node v (λ y. job_rests (start_job n start.0 start.1) y.vbs y.shelves v) h)
  where
    by : ((y : PlainNode) (said : Told) → At v y → At v (starts_from n starts (y, said)).0) → (f : Fired) (one : FlushResult) (x : PlainNode) → At v x → At v (started_by n node.arm f one told x (starts_from n starts)).0
    by later fired.No one x g = later x _ g
    by later fired.Failed one x g = later x _ g
    by later fired.Stopped one x g = tt

start_keeps : (n : ℕ) (uuids : List ℕ) → Keeps (start_at n uuids)
start_keeps n uuids v node h = by node.off
  where
    short : (books : List Book) (b : Bool) → At v (if b then (record node { arm = burnt_arm (length books) node.arm }, refusal cause.IdsShort) else starts_from n (starts_of books uuids) (loaded_node n books (burnt_arm (length books) node.arm), done [])).0
    short books true = h
    short books false = starts_rest n v (starts_of books uuids) (loaded_node n books (burnt_arm (length books) node.arm)) (done []) (opened_rests (find (λ (b : Book). b.0 == v) books))

    all : (books : List Book) (b : Bool) → At v (if b then opened_at n uuids books node else not_opened n node).0
    all books true = short books (are_short books uuids)
    all books false = h

    by : (o : Option (List Book)) → At v (start_if n uuids node o).0
    by None = h
    by (Some books) = all books (opens_all node.arm.fuse (length books))

-- ---- and of the world

node_rests : (w : PlainWorld) (n : ℕ) (node : PlainNode) → Rests w → ((v : ℕ) → At v node) → Rests (with_node_at w n node)
node_rests w n node rests here m v = by (m == n)
  where
    by : (b : Bool) → RestsIf (shelf_in (if b then Some node else w.nodes m) v)
    by true = here v
    by false = rests m v

made_rests : {T : Type 0} (w : PlainWorld) (n : ℕ) (absent : T) (f : PlainNode → PlainNode × T) → Rests w → Keeps f → Rests (node_outcome w n absent (w.nodes n) f).0
made_rests w n absent f rests keeps = by (w.nodes n) refl
  where
    by : (o : Option PlainNode) → w.nodes n ≡ o → Rests (node_outcome w n absent o f).0
    by None there = rests
    by (Some node) there = node_rests w n (f node).0 rests (λ v. keeps v node (subst (λ o. RestsIf (shelf_in o v)) there (rests n v)))

line_rests : (w : PlainWorld) (n : ℕ) (f : PlainNode → PlainNode × Told) → Rests w → Keeps f → Rests (on_node w n f).0
line_rests w n f rests keeps = made_rests w n (refusal cause.UnknownNode) (if_up f) rests (up_keeps f keeps)

refused_rests : (why : Option Cause) (w : PlainWorld) (came : Outcome) → Rests w → Rests came.0 → Rests (refused_or why w came).0
refused_rests None w came rests after = after
refused_rests (Some why) w came rests after = rests

-- where nodes become others
if_rests : (w : PlainWorld) (n : ℕ) (f : PlainNode → PlainNode) → Rests w → ((v : ℕ) (node : PlainNode) → At v node → At v (f node)) → Rests (with_node_if n f w)
if_rests w n f rests keeps = by (w.nodes n) refl
  where
    by : (o : Option PlainNode) → w.nodes n ≡ o → Rests (node_if n f w o)
    by None there = rests
    by (Some node) there = node_rests w n (f node) rests (λ v. keeps v node (subst (λ o. RestsIf (shelf_in o v)) there (rests n v)))

unlinked_rests : (link : PlainLink) (w : PlainWorld) → Rests w → Rests (unlinked link w)
unlinked_rests link w rests = if_rests w (producer_node link) (closed_at link) rests (λ v node h. h)

all_rests : (links : List PlainLink) (w : PlainWorld) → Rests w → Rests (all_unlinked links w)
all_rests [] w rests = rests
all_rests (link ∷ links) w rests = all_rests links (unlinked link w) (unlinked_rests link w rests)

dropped_rests : (n : ℕ) (out : Left) (w : PlainWorld) → Rests w → Rests (dropped n out w)
dropped_rests n out w rests = if_rests (all_cut n w) n (stopped_node out) (all_rests (filter (touches n) w.links) w rests) (λ v node h. tt)

-- an arm fired, or not
arm_rests : (w : PlainWorld) (n : ℕ) (came : Outcome) → Rests came.0 → Rests (with_arm n w came).0
arm_rests w n came rests = by (fired_by (arm_in (w.nodes n)).fuse (arm_in (came.0.nodes n)).fuse)
  where
    by : (f : Fired) → Rests (after_fire n (arm_in (w.nodes n)).out f came).0
    by fired.No = rests
    by fired.Failed = rests
    by fired.Stopped = dropped_rests n (arm_in (w.nodes n)).out came.0 rests

broken_rests : (w : PlainWorld) (n l : ℕ) (came : Outcome) → Rests came.0 → Rests (with_broken n l w came).0
broken_rests w n l came rests = by (is_broken_answer came.1.answer) (fired_by (arm_in (w.nodes n)).fuse (arm_in (came.0.nodes n)).fuse)
  where
    by : (b : Bool) (f : Fired) → Rests (if b then after_broken n l (arm_in (w.nodes n)).out f came else came).0
    by true fired.No = rests
    by true fired.Failed = rests
    by true fired.Stopped = dropped_rests n (arm_in (w.nodes n)).out came.0 rests
    by false f = rests

-- a line for a link
left_rests : (before : PlainLink) (w : PlainWorld) (left : Option PlainLink) → Rests w → Rests (relinked before left w)
left_rests before w None rests = unlinked_rests before w rests
left_rests before w (Some link) rests = rests

link_rests : (w : PlainWorld) (l : ℕ) (end : PlainLink → ℕ) (f : PlainLink → PlainNode → PlainNode × LinkResult) → Rests w → ((link : PlainLink) → Keeps (f link)) → Rests (on_link w l end f).0
link_rests w l end f rests keeps = by (row_at link_number l w.links)
  where
    by : (o : Option PlainLink) → Rests (link_outcome w l end f o).0
    by None = rests
    by (Some link) =
        let came = node_outcome w (end link) (Some link, refusal cause.UnknownNode) (w.nodes (end link)) (f link) in
        left_rests link came.0 came.1.0 (made_rests w (end link) (Some link, refusal cause.UnknownNode) (f link) rests (keeps link))

down_rests : (w : PlainWorld) (l wanted : ℕ) → Rests w → Rests (down_step w l wanted).0
down_rests w l wanted rests = by (row_at link_number l w.links)
  where
    came : Outcome
    came = on_link w l consumer_node (down_in wanted)

    known : Rests came.0
    known = link_rests w l consumer_node (down_in wanted) rests (down_keeps wanted)

    by : (o : Option PlainLink) → Rests (down_outcome w l o came).0
    by None = known
    by (Some link) = broken_rests w (consumer_node link) l came known

cut_rests : (w : PlainWorld) (o : Option PlainLink) → Rests w → Rests (cut_outcome w o).0
cut_rests w None rests = rests
cut_rests w (Some link) rests = unlinked_rests link w rests

-- what became of durable writes is told behind a change of role
posted_rests : (n : ℕ) (rs : List Resolved) (came : Outcome) → Rests came.0 → Rests (posted_in n rs came).0
posted_rests n rs came rests = by (came.0.nodes n) refl
  where
    by : (o : Option PlainNode) → came.0.nodes n ≡ o → Rests (posted_at n rs came.0 came.1 o).0
    by None there = rests
    by (Some node) there = node_rests came.0 n (all_posted rs node).0 rests (λ v. posts_keep v rs node (subst (λ o. RestsIf (shelf_in o v)) there (rests n v)))

-- producers are told which streams ended
told_rests : (n v : ℕ) (ids : List ℕ) (w : PlainWorld) → Rests w → Rests (with_ended n v ids w)
told_rests n v ids w known = at (w.nodes n) refl
  where
    at : (o : Option PlainNode) → w.nodes n ≡ o → Rests (with_links (node_if n (with_clients_ended v ids) w o) (links_ended n v ids w.links))
    at None there = known
    at (Some node) there = node_rests w n (with_clients_ended v ids node) known (λ u. subst (λ o. RestsIf (shelf_in o u)) there (known n u))

-- what a node gives up
yielded_rests : (n : ℕ) (given : List Yielded) (w : PlainWorld) → Rests w → Rests (with_given n given w)
yielded_rests n [] w rests = rests
yielded_rests n (one ∷ more) w rests = yielded_rests n more (with_yielded n w one) (told_rests n one.vb one.ended w rests)

pump_rests : (w : PlainWorld) (l frames : ℕ) → Rests w → Rests (pump_step w l frames).0
pump_rests w l frames rests = by (row_at link_number l w.links)
  where
    gone : (link : PlainLink) (node : PlainNode) (came : States × GiveResult) → w.nodes (producer_node link) ≡ Some node → Rests (gone_told link node w came).0
    gone link node came there =
        let n = producer_node link in
        let w' = with_gone link node came.0 came.1.peer w in
        posted_rests n (flat_map resolved_in came.1.given) (with_given n came.1.given w', done (map (dead_line n) came.1.given))
        (yielded_rests n came.1.given w' (node_rests w n (with_states node came.0) rests (λ v. subst (λ o. RestsIf (shelf_in o v)) there (rests n v))))

    gives : (link : PlainLink) (o : Option PlainNode) → w.nodes (producer_node link) ≡ o → Rests (gives_at frames link w o).0
    gives link None there = rests
    gives link (Some node) there = gone link node (after (peer_gives_up frames (peer_of link)) node.vbs) there

    by : (o : Option PlainLink) → Rests (pump_outcome w l frames o).0
    by None = rests
    by (Some link) = link_rests (gives_at frames link w (w.nodes (producer_node link))).0 l producer_node (pump_at frames) (gives link (w.nodes (producer_node link)) refl) (λ link v node h. job_rests (peer_pulled frames (peer_of link)) node.vbs node.shelves v h)

-- a change of role
role_rests : (w : PlainWorld) (n v : ℕ) (asked : AdminCall) → Rests w → Rests (role_outcome n v asked w).0
role_rests w n v asked rests = by came.1.ended
  where
    came : PlainWorld × AdminResult
    came = node_outcome w n no_node (w.nodes n) (role_called n v asked)

    known : Rests came.0
    known = made_rests w n no_node (role_called n v asked) rests (role_keeps n v asked)

    own : (w' : PlainWorld) → Rests w' → (o : Option PlainLink) → Rests (cut_off o w').0
    own w' h None = h
    own w' h (Some link) = unlinked_rests link w' h

    by : (o : Option (List ℕ)) → Rests (turned_if n v w o came).0
    by None = rests
    by (Some ids) = let w' = with_ended n v ids came.0 in posted_rests n came.1.resolved (turned n v came.1 w') (own w' (told_rests n v ids came.0 known) (own_link n v w'.links))

-- what its own link acknowledges
due_rests : (n v : ℕ) (came : Outcome) → Rests came.0 → Rests (due_in n v came).0
due_rests n v came rests = by (is_counted came.1.answer)
  where
    at : (link : PlainLink) (o : Option PlainNode) → came.0.nodes n ≡ o → Rests (due_at n link came.0 came.1 o).0
    at link None there = rests
    at link (Some node) there =
        node_rests came.0 n (with_states node (after (dial_due (dial_of link)) node.vbs).0) rests (λ v. subst (λ o. RestsIf (shelf_in o v)) there (rests n v))

    owned : (o : Option PlainLink) → Rests (due_of n came.0 came.1 o).0
    owned None = rests
    owned (Some link) = at link (came.0.nodes n) refl

    by : (b : Bool) → Rests (if b then due_of n came.0 came.1 (own_link n v came.0.links) else came).0
    by true = owned (own_link n v came.0.links)
    by false = rests

-- a line, by its verb
verb_rests : (w : PlainWorld) (line : ℕ) (said : Verb) → Rests w → Rests (verb_step w line said).0
verb_rests w line (verb.Node n) rests = refused_rests (first_cause (node_causes w n)) w (with_node_at w n empty_node, done []) rests (node_rests w n empty_node rests (λ v. tt))
verb_rests w line (verb.AtVb n v (vb_verb.MakeActive uuid)) rests = arm_rests w n (on_node w n (vb_at w.uuids n v uuid)) (line_rests w n (vb_at w.uuids n v uuid) rests (vb_keeps w.uuids n v uuid))
verb_rests w line (verb.AtVb n v vb_verb.MakeReplica) rests = arm_rests w n (on_node w n (replica_at n v)) (line_rests w n (replica_at n v) rests (replica_keeps n v))
verb_rests w line (verb.AtVb n v (vb_verb.Chain others)) rests = line_rests w n (chain_line n v others) rests (chain_keeps n v others)
verb_rests w line (verb.AtClient n c client_verb.Open) rests = line_rests w n (client_at n (base_of line) c) rests (client_keeps n (base_of line) c)
verb_rests w line (verb.AtClient n c (client_verb.Bytes bytes)) rests = line_rests w n (bytes_at c bytes) rests (bytes_keeps c bytes)
verb_rests w line (verb.AtClient n c client_verb.Hang) rests = line_rests w n (hang_at c) rests (hang_keeps c)
verb_rests w line (verb.AtClient n c (client_verb.Pull frames)) rests = line_rests w n (pull_at c frames) rests (pull_keeps c frames)
verb_rests w line (verb.AtNode n (node_verb.Clock nanos)) rests = line_rests w n (clock_at nanos) rests (λ v node h. h)
verb_rests w line (verb.Link l m n v buffer takeover) rests = refused_rests (first_cause (link_causes w l m n v)) w (with_links w (with_dialed line l m n v buffer takeover w.links (ask_in w n v)), done []) rests rests
verb_rests w line (verb.AtLink l (link_verb.Up wanted)) rests = link_rests w l producer_node (up_at wanted) rests (moved_keeps wanted)
verb_rests w line (verb.AtLink l (link_verb.Down wanted)) rests = down_rests w l wanted rests
verb_rests w line (verb.AtLink l (link_verb.Pump frames)) rests = pump_rests w l frames rests
verb_rests w line (verb.AtLink l link_verb.Drop) rests = link_rests w l producer_node drop_at rests (λ link v node h. h)
verb_rests w line (verb.AtLink l link_verb.Cut) rests = cut_rests w (row_at link_number l w.links) rests
verb_rests w line (verb.AtVb n v (vb_verb.Promote uuid)) rests =
    arm_rests w n (promote_step w n v uuid) (refused_rests (first_cause (promote_causes w n v uuid)) w (role_outcome n v (admin.Promote uuid) w) rests (role_rests w n v (admin.Promote uuid) rests))
verb_rests w line (verb.AtVb n v vb_verb.Follow) rests =
    arm_rests w n (turn_step w n v role.Replica admin.Follow) (refused_rests (first_cause (turn_causes w n v role.Replica)) w (role_outcome n v admin.Follow w) rests (role_rests w n v admin.Follow rests))
verb_rests w line (verb.AtVb n v vb_verb.Dead) rests =
    arm_rests w n (turn_step w n v role.Dead admin.Dead) (refused_rests (first_cause (turn_causes w n v role.Dead)) w (role_outcome n v admin.Dead w) rests (role_rests w n v admin.Dead rests))
verb_rests w line (verb.AtVb n v vb_verb.Seal) rests = line_rests w n (admin_line n v admin.Seal) rests (admin_keeps n v admin.Seal)
verb_rests w line (verb.AtVb n v vb_verb.Trim) rests = line_rests w n (admin_line n v admin.Trim) rests (admin_keeps n v admin.Trim)
verb_rests w line (verb.AtVb n v vb_verb.Take) rests = line_rests w n (flush_line n v part.Take) rests (flush_keeps n v part.Take)
verb_rests w line (verb.AtVb n v vb_verb.Save) rests = arm_rests w n (on_node w n (save_line n v)) (line_rests w n (save_line n v) rests (save_keeps n v))
verb_rests w line (verb.AtVb n v vb_verb.Done) rests = due_rests n v (on_node w n (flush_line n v part.Done)) (line_rests w n (flush_line n v part.Done) rests (flush_keeps n v part.Done))
verb_rests w line (verb.AtVb n v vb_verb.Tick) rests = line_rests w n (tick_line n v) rests (tick_keeps n v)
verb_rests w line (verb.AtVb n v vb_verb.Stat) rests = line_rests w n (admin_line n v admin.Stat) rests (admin_keeps n v admin.Stat)
verb_rests w line (verb.AtVb n v vb_verb.Log) rests = line_rests w n (admin_line n v admin.Log) rests (admin_keeps n v admin.Log)
verb_rests w line (verb.AtVb n v vb_verb.Show) rests = line_rests w n (admin_line n v admin.Show) rests (admin_keeps n v admin.Show)
verb_rests w line (verb.AtNode n (node_verb.Stop call out)) rests = made_rests w n (refusal cause.UnknownNode) (arm_at (stop_arm call out)) rests (λ v node h. h)
verb_rests w line (verb.AtNode n (node_verb.Fail call)) rests = made_rests w n (refusal cause.UnknownNode) (arm_at (fail_arm call)) rests (λ v node h. h)
verb_rests w line (verb.AtNode n (node_verb.Crash out)) rests = refused_rests (first_cause (crash_causes w n)) w (dropped n out w, done (down_lines n None w)) rests (dropped_rests n out w rests)
verb_rests w line (verb.AtNode n (node_verb.Start uuids)) rests =
    refused_rests (first_cause (start_causes w n uuids)) w (on_made w n (start_at n uuids)) rests (made_rests w n (refusal cause.UnknownNode) (start_at n uuids) rests (start_keeps n uuids))

pub world_rests : (w : PlainWorld) (line : ScriptLine) → Rests w → Rests (world_step w line).0
unfolding world_step
world_rests w line rests = verb_rests w line.line line.verb rests

-- the ids of the branches that a line tells of are given behind it
pub stepped : (kept after : Kept) (w : PlainWorld) (line : ScriptLine) (told : Told) → WorldStands kept (verb_step w line.line line.verb).0 → told ≡ (verb_step w line.line line.verb).1 → after.nodes ≡ kept.nodes → after.links ≡ kept.links
    → ((uuids : List ℕ) → IdsStand kept.ids uuids → IdsStand after.ids (uuids ++ flat_map branch_of_line told.events)) → Rests w
    → WorldStands after (world_step w line).0 × Rests (world_step w line).0 × (group_with line.line told ≡ (world_step w line).1)
unfolding world_step
stepped kept after w line told stands said nodes links given rests =
    let came = verb_step w line.line line.verb in (
      record {
        nodes = subst (λ (xs : List ScriptNode). NodesStand xs came.0) (sym nodes) stands.nodes;
        ids = subst (λ (t : Told). IdsStand after.ids (came.0.uuids ++ flat_map branch_of_line t.events)) said (given came.0.uuids stands.ids);
        links = subst (λ (xs : List ScriptNode). LinksStand (ends_of xs) after.links came.0.links) (sym nodes) (subst (λ (xs : List Link). LinksStand (ends_of kept.nodes) xs came.0.links) (sym links) stands.links);
      },
      verb_rests w line.line line.verb rests,
      ap (group_with line.line) said,
    )

-- nothing is there to be under an arm in an empty world
pub empty_rests : Rests empty_world
empty_rests = λ n v. tt
