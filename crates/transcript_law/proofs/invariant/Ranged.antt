-- that the clock of each node shows a number of 64 bits, and that each client's session is at its own node and has kept bytes
use Rattle.std.specs.Prelude.{◌<◌, ◌∷◌, ◌≡◌, ◌==◌, ◌^◌, if◌then◌else◌}
use Rattle.transcript_law.proofs.Words.{Outcome, ℕ, List, [], ap, subst, All-nil, Frame, AreBytes, Bool, true, false, refl, sym, arith, Option, Some, None, is_some, eqb-true, Cause, after, after_job, ◌∙◌}
use Rattle.transcript_law.proofs.Words.{States, row_at, PlainSession, left_open, Told, PlainLink, LinkResult, link_number, producer_node, consumer_node, up_at}
use Rattle.transcript_law.proofs.Words.{node_if, AdminCall, AdminResult, unlinked, own_link, cut_off, links_ended, called_at, admin_line, with_ended, turned_if, no_node, turned_after, role_outcome}
use Rattle.transcript_law.proofs.Words.{PlainNode, PlainWorld, empty_world, with_node_at, done, refusal, first_cause, refused_or}
use Rattle.transcript_law.proofs.Words.{node_outcome, on_node, with_client, client_at, with_links, with_states, bytes_if, bytes_at, hang_at}
use Rattle.transcript_law.proofs.{Words.{with_link, link_outcome, on_link}, invariant.Sessions.{SessionRanged, fed_ranged, outcome_ranged}, lines.{ClientLines.{AllKept}, SessionLines.{IsKept, fed_at, kept_left, posted_at as told_at}}}
use Rattle.dcp_producer.proofs.Desks.{PutAt, pulled_at}
use Rattle.dcp_producer.specs.{Ending.{end_closed}, Producers.{Served, begun}, Pulling.{frames_put}}
use Rattle.dcp_producer.specs.declared.{desk.Desk.{Desk}, halt.Halt.{Halt}}
use Rattle.client_session.proofs.Chunks.{nothing}
use Rattle.node_core.specs.Clients.{ClientPulled, Handling, PlainClient, client_ended, client_fed, client_posted, client_pull, client_pulled, new_client}
use Rattle.std.specs.Option.{option_map}
use Rattle.vb_calls.specs.Programs.{AnyCall}
use Rattle.{durability.specs.Chains.{Members}, node_world.specs.Cuts.{closed_at}, node_world.specs.declared.script_node.TheConstants.{MAX_CLIENTS}}
use Rattle.node_core.specs.{Admin.{admin_refused}, Dials.{dial_due}, Flushing.{chain_changed, ticked}, Loading.{are_short, starts_of}, Peers.{PeerResult, peer_answered, peer_frames, peer_heard}}
use Rattle.node_world.specs.{Arms.{fired_by, lifted, placed, under_arm}, Dues.{due_at, due_in, due_of, is_counted}, Links.{dial_of, frame_up, frames_up, moved_len, peer_of, untold_peer}, Turns.{posted_at, posted_in, role_called, turned}}
use Rattle.node_world.specs.Nodes.{flush_here, all_posted, awaiting, chain_causes, chain_line, chain_made, flush_line, hung_if, if_up, posted_if, posted_to, pull_at, pull_if, save_line, tick_line, with_clients_ended, with_kept}
use Rattle.node_world.specs.World.{down_outcome, relinked}
use Rattle.{disk_journals.specs.Arms.{opens_all}, disk_journals.specs.Books.{Book}, node_world.specs.Worlds.{arm_in, on_made}, vb_calls.specs.declared.calls.Resolved.{Resolved}, vb_types.specs.declared.journal.FlushPart.{FlushPart}}
use Rattle.node_world.specs.Power.{after_broken, after_fire, all_cut, all_unlinked, burnt_arm, dropped, is_broken_answer, loaded_node, not_opened, start_at, start_books, start_if, start_one, started_by, starts_from, stopped_node, touches, with_arm, with_broken}
use Rattle.{node_world.specs.declared.arm.Fired.{Fired}, transcript_law.proofs.Words.{filter, length, take}, vb_disk.specs.declared.made.Outcome.{Outcome as Left}}
use Rattle.node_world.specs.declared.arm.Fired.TheVariants as fired
use Rattle.vb_events.specs.declared.event.Cause.TheVariants as cause
use Rattle.vb_types.specs.declared.journal.FlushPart.TheVariants as part
use Rattle.transcript_law.proofs.lines.Reads.{pull_is}
use Rattle.vb_calls.proofs.JobReadings.{after_reads_bind, reads_always}
use Rattle.vb_calls.specs.Jobs.{Ended, IsRead, Job, after_reads}
use Rattle.vb_calls.specs.Shelves.{Shelves}

abbrev pub SessionRangedIf : ℕ → Option PlainClient → Type 0
SessionRangedIf n None = Unit {0}
SessionRangedIf n (Some client) = SessionRanged n client.session

-- the node n; one that is down has no client
pub record NodeRanged (n : ℕ) (node : PlainNode) : Type 0 where
  pub clock : node.clock < 2 ^ 64
  pub clients : (c : ℕ) → SessionRangedIf n (node.clients c)
  pub own : AllKept n node
  pub runs : is_some node.off ≡ true → (c : ℕ) → node.clients c ≡ None

abbrev pub NodeRangedIf : ℕ → Option PlainNode → Type 0
NodeRangedIf n None = Unit {0}
NodeRangedIf n (Some node) = NodeRanged n node

-- all nodes
abbrev pub IsRanged : PlainWorld → Type 0
IsRanged w = (n : ℕ) → NodeRangedIf n (w.nodes n)

pub start_ranged : IsRanged empty_world
start_ranged n = tt

-- a line of one node

pub with_node : (w : PlainWorld) (n : ℕ) (node : PlainNode) → IsRanged w → NodeRanged n node → IsRanged (with_node_at w n node)
with_node w n node ranged here m = by (m == n) refl
  where
    by : (b : Bool) → (m == n) ≡ b → NodeRangedIf m (if b then Some node else w.nodes m)
    by true e = subst (λ k. NodeRanged k node) (sym (eqb-true m n e)) here
    by false e = ranged m

pub on_made_ranged : (w : PlainWorld) (n : ℕ) (f : PlainNode → PlainNode × Told) → IsRanged w → ((node : PlainNode) → NodeRanged n node → NodeRanged n (f node).0) → IsRanged (on_made w n f).0
on_made_ranged w n f ranged keeps = by (w.nodes n) (ranged n)
  where
    by : (o : Option PlainNode) → NodeRangedIf n o → IsRanged (node_outcome w n (refusal cause.UnknownNode) o f).0
    by None there = ranged
    by (Some node) there = with_node w n (f node).0 ranged (keeps node there)

pub on_node_ranged : (w : PlainWorld) (n : ℕ) (f : PlainNode → PlainNode × Told) → IsRanged w → ((node : PlainNode) → is_some node.off ≡ false → NodeRanged n node → NodeRanged n (f node).0) → IsRanged (on_node w n f).0
on_node_ranged w n f ranged keeps = on_made_ranged w n (if_up f) ranged (λ node r.
    elim (is_some node.off) as (λ b. is_some node.off ≡ b → let x : PlainNode × Told = if b then (node, refusal cause.NodeDown) else f node in NodeRanged n x.0) [ true ↦ λ e. r | false ↦ λ e. keeps node e r ] refl)

-- what a table of causes keeps
pub kept_or : (n : ℕ) (node : PlainNode) (x : PlainNode × Told) (why : Option Cause) → NodeRanged n node → NodeRanged n x.0 → NodeRanged n (refused_or why node x).0
kept_or n node x (Some why) before after = before
kept_or n node x None before after = after

-- a node with the same clock and connections
pub kept_ranged : (n : ℕ) (node node' : PlainNode) → node'.clock ≡ node.clock → ((c : ℕ) → node'.clients c ≡ node.clients c) → node'.off ≡ node.off → NodeRanged n node → NodeRanged n node'
kept_ranged n node node' clock clients off ranged = record {
  clock = subst (λ t. t < 2 ^ 64) (sym clock) ranged.clock;
  clients = λ c. subst (SessionRangedIf n) (sym (clients c)) (ranged.clients c);
  own = λ c. subst (IsKept n c) (sym (clients c)) (ranged.own c);
  runs = λ e c. clients c ∙ ranged.runs (ap is_some (sym off) ∙ e) c;
}

-- one that has a client is not down
pub up_with : (n c : ℕ) (node : PlainNode) (client : PlainClient) → node.clients c ≡ Some client → NodeRanged n node → is_some node.off ≡ false
up_with n c node client there ranged = by (is_some node.off) refl
  where
    by : (b : Bool) → is_some node.off ≡ b → b ≡ false
    by true e = let z : Some client ≡ None = sym there ∙ ranged.runs e c in cc
    by false e = refl

pub same_ranged : (n : ℕ) (node : PlainNode) (states : States) (made : ℕ) → NodeRanged n node → NodeRanged n (record node { vbs = states; made = made })
same_ranged n node states made ranged = record { clock = ranged.clock; clients = ranged.clients; own = ranged.own; runs = ranged.runs }

-- a node with another connection, or none, under a number
pub with_client_ranged : (n c : ℕ) (node : PlainNode) (o : Option PlainClient) → is_some node.off ≡ false → NodeRanged n node → SessionRangedIf n o → IsKept n c o → NodeRanged n (with_client node c o)
with_client_ranged n c node o up ranged here kept = record {
  clock = ranged.clock;
  clients = λ d. elim (d == c) as (λ b. SessionRangedIf n (if b then o else node.clients d)) [ true ↦ here | false ↦ ranged.clients d ];
  own = λ d. by d (d == c) refl;
  runs = λ e d. let z : true ≡ false = sym e ∙ up in absurd (cc z);
}
  where
    by : (d : ℕ) (b : Bool) → (d == c) ≡ b → IsKept n d (if b then o else node.clients d)
    by d true e = subst (λ k. IsKept n k o) (sym (eqb-true d c e)) kept
    by d false e = ranged.own d

pub client_ranged : (n base c : ℕ) (node : PlainNode) → is_some node.off ≡ false → NodeRanged n node → NodeRanged n (client_at n base c node).0
client_ranged n base c node up ranged =
    let opened : PlainClient = new_client (record { node = n; client = c; base = base }) in
    let fresh = with_client_ranged n c node (Some opened) up ranged (record { node = refl; bytes = All-nil (λ b. b < 256); numbered = tt; rests = λ live free. nothing }) (record { node = refl; number = refl; stream = refl; desk = refl }, refl) in
    elim (is_some (node.clients c)) as (λ b. let x : PlainNode × Told = if b then (node, refusal cause.LinkOpen) else (with_client node c (Some opened), done []) in NodeRanged n x.0) [ true ↦ ranged | false ↦ fresh ]

-- with its streams closed at their vBuckets
pub hang_ranged : (n c : ℕ) (node : PlainNode) → NodeRanged n node → NodeRanged n (hang_at c node).0
hang_ranged n c node ranged = by (node.clients c) refl
  where
    by : (o : Option PlainClient) → node.clients c ≡ o → NodeRanged n (hung_if c node o).0
    by None e = ranged
    by (Some client) e = let states : States = (after (end_closed client.producer) node.vbs).0 in with_client_ranged n c (with_states node states) None (up_with n c node client e ranged) (same_ranged n node states node.made ranged) tt tt

-- one that may have closed
left_ranged : (n : ℕ) (client : PlainClient) → SessionRanged n client.session → SessionRangedIf n (left_open client)
left_ranged n client ranged = elim client.session.closed as (λ b. SessionRangedIf n (if b then None else Some client)) [ true ↦ tt | false ↦ ranged ]

pub bytes_ranged : (n c : ℕ) (bytes : List ℕ) (node : PlainNode) → AreBytes bytes → NodeRanged n node → NodeRanged n (bytes_at c bytes node).0
bytes_ranged n c bytes node are ranged = by (node.clients c) refl (ranged.clients c) (ranged.own c)
  where
    by : (o : Option PlainClient) → node.clients c ≡ o → SessionRangedIf n o → IsKept n c o → NodeRanged n (bytes_if c bytes node o).0
    by None e there kept = ranged
    by (Some client) e there kept =
        let y : States × Handling = after (client_fed node.clock bytes client) node.vbs in
        with_client_ranged n c (with_states node y.0) (left_open y.1.client) (up_with n c node client e ranged) (same_ranged n node y.0 node.made ranged) (left_ranged n y.1.client (fed_ranged n node.clock bytes client node.vbs are there))
        (kept_left n c y.1.client (fed_at n c node.clock client node.vbs kept bytes).0)

-- a pull leaves the session, and its producer at its desk
pub pull_same : (frames : ℕ) (client : PlainClient) (shelves : Shelves) (vbs : States) → let x = (after_reads (client_pulled frames client) shelves vbs).1.client in (x.session ≡ client.session) × (x.producer.desk ≡ client.producer.desk)
pull_same frames client shelves vbs =
    let put : Job (Served × Halt) = frames_put frames (begun client.producer) in
    subst (λ (y : States × ClientPulled). (y.1.client.session ≡ client.session) × (y.1.client.producer.desk ≡ client.producer.desk)) (sym (after_reads_bind put (λ p. Ended (client_pull client.session p)) shelves vbs))
    (refl, reads_always AnyCall IsRead (PutAt client.producer.desk) put shelves vbs (pulled_at client.producer.desk frames (begun client.producer) refl))

pub pull_kept : (n c frames : ℕ) (client : PlainClient) (shelves : Shelves) (vbs : States) → IsKept n c (Some client) → IsKept n c (Some (after_reads (client_pulled frames client) shelves vbs).1.client)
pull_kept n c frames client shelves vbs kept =
    let same = pull_same frames client shelves vbs in
    (record { node = ap (λ (s : PlainSession). s.who.node) same.0 ∙ kept.0.node; number = ap (λ (s : PlainSession). s.who.client) same.0 ∙ kept.0.number; stream = ap (λ (d : Desk). d.stream) same.1 ∙ kept.0.stream; desk = ap (λ (d : Desk). d.node) same.1 ∙ kept.0.desk }, ap (λ (s : PlainSession). s.closed) same.0 ∙ kept.1)

-- and frames of its streams
pub pull_ranged : (n c frames : ℕ) (node : PlainNode) → NodeRanged n node → NodeRanged n (pull_at c frames node).0
pull_ranged n c frames node ranged = by (node.clients c) refl (ranged.clients c) (ranged.own c)
  where
    by : (o : Option PlainClient) → node.clients c ≡ o → SessionRangedIf n o → IsKept n c o → NodeRanged n (pull_if c frames node o).0
    by None e there kept = ranged
    by (Some client) e there kept =
        let y : States × ClientPulled = after_reads (client_pulled frames client) node.shelves node.vbs in let same = pull_same frames client node.shelves node.vbs in
        subst (λ (x : PlainNode × Told). NodeRanged n x.0) (sym (pull_is c frames node (Some client)))
        (with_client_ranged n c (with_states node y.0) (Some y.1.client) (up_with n c node client e ranged) (same_ranged n node y.0 node.made ranged) (subst (SessionRanged n) (sym same.0) there)
        (pull_kept n c frames client node.shelves node.vbs kept))

-- outcomes that are posted

pub posted_ranged : (n : ℕ) (r : Resolved) (node : PlainNode) (o : Option ℕ) → NodeRanged n node → NodeRanged n (posted_to r node o).0
posted_ranged n r node None ranged = ranged
posted_ranged n r node (Some c) ranged = by (node.clients c) refl (ranged.clients c) (ranged.own c)
  where
    by : (o : Option PlainClient) → node.clients c ≡ o → SessionRangedIf n o → IsKept n c o → NodeRanged n (posted_if c r node o).0
    by None e there kept = ranged
    by (Some client) e there kept =
        let y : States × Handling = after (client_posted node.clock r client) node.vbs in
        with_client_ranged n c (with_states node y.0) (left_open y.1.client) (up_with n c node client e ranged) (same_ranged n node y.0 node.made ranged) (left_ranged n y.1.client (outcome_ranged n node.clock r client node.vbs there))
        (kept_left n c y.1.client (told_at n c node.clock client node.vbs kept r).0)

pub posts_ranged : (n : ℕ) (rs : List Resolved) (node : PlainNode) → NodeRanged n node → NodeRanged n (all_posted rs node).0
posts_ranged n [] node ranged = ranged
posts_ranged n (r ∷ rs) node ranged =
    let o : Option ℕ = awaiting node.clients r.waiter MAX_CLIENTS in posts_ranged n rs (posted_to r node o).0 (posted_ranged n r node o ranged)

-- and those of a call that left the clock and the connections
pub told_stays_ranged : (n : ℕ) (rs : List Resolved) (node node' : PlainNode) → node'.clock ≡ node.clock → ((c : ℕ) → node'.clients c ≡ node.clients c) → node'.off ≡ node.off → NodeRanged n node → NodeRanged n (all_posted rs node').0
told_stays_ranged n rs node node' clock clients off ranged = posts_ranged n rs node' (kept_ranged n node node' clock clients off ranged)

pub flush_ranged : (n v : ℕ) (p : FlushPart) (node : PlainNode) → NodeRanged n node → NodeRanged n (flush_line n v p node).0
flush_ranged n v p node ranged =
    let x = after_job (flush_here n v p node) node.vbs node.shelves in told_stays_ranged n x.1.resolved node (with_kept node x.0) refl (λ c. refl) refl ranged

-- under the node's arm
pub save_ranged : (n v : ℕ) (node : PlainNode) → NodeRanged n node → NodeRanged n (save_line n v node).0
save_ranged n v node ranged =
    let y = flush_line n v part.Save (placed v node) in
    kept_ranged n y.0 (lifted v y.0) refl (λ c. refl) refl (flush_ranged n v part.Save (placed v node) (kept_ranged n node (placed v node) refl (λ c. refl) refl ranged))

pub chain_ranged : (n v : ℕ) (others : Members) (node : PlainNode) → NodeRanged n node → NodeRanged n (chain_line n v others node).0
chain_ranged n v others node ranged =
    let x = after (chain_changed n v (record { active = n; others = others })) node.vbs in
    kept_or n node (chain_made n v others node) (first_cause (chain_causes n v others node)) ranged (told_stays_ranged n x.1.resolved node (with_states node x.0) refl (λ c. refl) refl ranged)

pub tick_ranged : (n v : ℕ) (node : PlainNode) → NodeRanged n node → NodeRanged n (tick_line n v node).0
tick_ranged n v node ranged = let x = after (ticked n v node.clock) node.vbs in told_stays_ranged n x.1.resolved node (with_states node x.0) refl (λ c. refl) refl ranged

pub admin_ranged : (n v : ℕ) (asked : AdminCall) (node : PlainNode) → NodeRanged n node → NodeRanged n (admin_line n v asked node).0
admin_ranged n v asked node ranged = kept_ranged n node (admin_line n v asked node).0 refl (λ c. refl) refl ranged

-- lines of links

-- a link that ends closes a stream at its producer's node
pub unlinked_ranged : (w : PlainWorld) (link : PlainLink) → IsRanged w → IsRanged (unlinked link w)
unlinked_ranged w link ranged =
    let n : ℕ = producer_node link in elim (w.nodes n) as (λ o. NodeRangedIf n o → IsRanged (node_if n (closed_at link) w o))
    [ None ↦ (λ there. ranged) | Some node ↦ (λ there. with_node w n (closed_at link node) ranged (same_ranged n node (closed_at link node).vbs node.made there)) ] (ranged n)

relinked_ranged : (w : PlainWorld) (before : PlainLink) (o : Option PlainLink) → IsRanged w → IsRanged (relinked before o w)
relinked_ranged w before None ranged = unlinked_ranged w before ranged
relinked_ranged w before (Some link) ranged = ranged

-- a line of an open link leaves the clock and the connections of the node of its end
pub on_link_ranged : (w : PlainWorld) (l : ℕ) (end : PlainLink → ℕ) (f : PlainLink → PlainNode → PlainNode × LinkResult) → IsRanged w → ((link : PlainLink) (n : ℕ) (node : PlainNode) → NodeRanged n node → NodeRanged n (f link node).0)
    → IsRanged (on_link w l end f).0
on_link_ranged w l end f ranged keeps = by (row_at link_number l w.links)
  where
    at : (link : PlainLink) (o : Option PlainNode) → NodeRangedIf (end link) o → IsRanged (with_link link (node_outcome w (end link) (Some link, refusal cause.UnknownNode) o (f link))).0
    at link None there = ranged
    at link (Some node) there = relinked_ranged (with_node_at w (end link) (f link node).0) link (f link node).1.0 (with_node w (end link) (f link node).0 ranged (keeps link (end link) node there))

    by : (o : Option PlainLink) → IsRanged (link_outcome w l end f o).0
    by None = ranged
    by (Some link) = at link (w.nodes (end link)) (ranged (end link))

-- frames for a producer, each with what came of it for the clients
frames_ranged : (n : ℕ) (frames : List Frame) (came : PlainNode × PeerResult) → NodeRanged n came.0 → NodeRanged n (frames_up frames came).0
frames_ranged n [] came ranged = ranged
frames_ranged n (f ∷ frames) came ranged =
    let x = after (peer_answered f came.1.peer) came.0.vbs in
    frames_ranged n frames (frame_up f came) (told_stays_ranged n x.1.resolved came.0 (with_states came.0 x.0) refl (λ c. refl) refl ranged)

pub up_ranged : (n wanted : ℕ) (link : PlainLink) (node : PlainNode) → NodeRanged n node → NodeRanged n (up_at wanted link node).0
up_ranged n wanted link node ranged =
    let piece : List ℕ = take (moved_len wanted link.up) link.up in
    frames_ranged n (peer_frames piece (peer_of link)) (node, untold_peer (peer_heard piece (peer_of link))) ranged

-- lines that change a role

-- outcomes that are posted at the node n
pub posts_in_ranged : (n : ℕ) (rs : List Resolved) (o : Outcome) → IsRanged o.0 → IsRanged (posted_in n rs o).0
posts_in_ranged n rs o ranged = by (o.0.nodes n) (ranged n)
  where
    by : (k : Option PlainNode) → NodeRangedIf n k → IsRanged (posted_at n rs o.0 o.1 k).0
    by None there = ranged
    by (Some node) there = with_node o.0 n (all_posted rs node).0 ranged (posts_ranged n rs node there)

-- the streams that a change of role ended are those of connections that stay what they are
pub ended_ranged : (n v : ℕ) (ids : List ℕ) (node : PlainNode) → NodeRanged n node → NodeRanged n (with_clients_ended v ids node)
ended_ranged n v ids node ranged = record { clock = ranged.clock; clients = λ c. session (node.clients c) (ranged.clients c); own = λ c. kept c (node.clients c) (ranged.own c); runs = λ e c. ap (option_map (client_ended v ids)) (ranged.runs e c) }
  where
    session : (o : Option PlainClient) → SessionRangedIf n o → SessionRangedIf n (option_map (client_ended v ids) o)
    session None x = x
    session (Some client) x = x

    kept : (c : ℕ) (o : Option PlainClient) → IsKept n c o → IsKept n c (option_map (client_ended v ids) o)
    kept c None x = x
    kept c (Some client) x = (record { node = x.0.node; number = x.0.number; stream = x.0.stream; desk = x.0.desk }, x.1)

pub with_ended_ranged : (n v : ℕ) (ids : List ℕ) (w : PlainWorld) → IsRanged w → IsRanged (with_ended n v ids w)
with_ended_ranged n v ids w ranged = by (w.nodes n) (ranged n)
  where
    by : (o : Option PlainNode) → NodeRangedIf n o → IsRanged (with_links (node_if n (with_clients_ended v ids) w o) (links_ended n v ids w.links))
    by None there = ranged
    by (Some node) there = with_node w n (with_clients_ended v ids node) ranged (ended_ranged n v ids node there)

-- the world whose streams of these numbers ended, without the vBucket's own link
pub cut_ended_ranged : (n v : ℕ) (ids : List ℕ) (w : PlainWorld) → IsRanged w → IsRanged (cut_off (own_link n v (links_ended n v ids w.links)) (with_ended n v ids w)).0
cut_ended_ranged n v ids w ranged = elim (own_link n v (links_ended n v ids w.links)) as (λ o. IsRanged (cut_off o (with_ended n v ids w)).0)
    [ None ↦ with_ended_ranged n v ids w ranged | Some link ↦ unlinked_ranged (with_ended n v ids w) link (with_ended_ranged n v ids w ranged) ]

-- the world after a call that changed a role or did not
turned_ranged : (n v : ℕ) (before w : PlainWorld) (told : AdminResult) (ended : Option (List ℕ)) → IsRanged before → IsRanged w → IsRanged (turned_if n v before ended (w, told)).0
turned_ranged n v before w told None ranged after = ranged
turned_ranged n v before w told (Some ids) ranged after = posts_in_ranged n told.resolved (turned n v told (with_ended n v ids w)) (cut_ended_ranged n v ids w after)

-- the node under its arm as it is called
called_ranged : (n v : ℕ) (asked : AdminCall) (node : PlainNode) → NodeRanged n node → NodeRanged n (role_called n v asked node).0
called_ranged n v asked node r = elim (is_some node.off) as (λ b. let x : PlainNode × AdminResult = if b then (node, admin_refused cause.NodeDown) else under_arm v (called_at n v asked) node in NodeRanged n x.0)
    [ true ↦ r | false ↦ kept_ranged n node (under_arm v (called_at n v asked) node).0 refl (λ c. refl) refl r ]

pub called_world : (w : PlainWorld) (n v : ℕ) (asked : AdminCall) (node : PlainNode) → w.nodes n ≡ Some node → IsRanged w → IsRanged (with_node_at w n (role_called n v asked node).0)
called_world w n v asked node e ranged = with_node w n (role_called n v asked node).0 ranged (called_ranged n v asked node (subst (NodeRangedIf n) e (ranged n)))

pub role_ranged : (w : PlainWorld) (n v : ℕ) (asked : AdminCall) → IsRanged w → IsRanged (role_outcome n v asked w).0
role_ranged w n v asked ranged = by (w.nodes n) refl
  where
    by : (o : Option PlainNode) → w.nodes n ≡ o → IsRanged (turned_after n v w (node_outcome w n no_node o (role_called n v asked))).0
    by None e = ranged
    by (Some node) e = let x = role_called n v asked node in turned_ranged n v w (with_node_at w n x.0) x.1 x.1.ended ranged (called_world w n v asked node e ranged)

-- a node that stops: it has no connection, and its clock stands at 0

stopped_ranged : (n : ℕ) (out : Left) (node : PlainNode) → NodeRanged n (stopped_node out node)
stopped_ranged n out node = record { clock = omega arith; clients = λ c. tt; own = λ c. tt; runs = λ e c. refl }

all_unlinked_ranged : (links : List PlainLink) (w : PlainWorld) → IsRanged w → IsRanged (all_unlinked links w)
all_unlinked_ranged [] w ranged = ranged
all_unlinked_ranged (link ∷ links) w ranged = all_unlinked_ranged links (unlinked link w) (unlinked_ranged w link ranged)

pub dropped_ranged : (n : ℕ) (out : Left) (w : PlainWorld) → IsRanged w → IsRanged (dropped n out w)
dropped_ranged n out w ranged =
    let cut : PlainWorld = all_cut n w in let r : IsRanged cut = all_unlinked_ranged (filter (touches n) w.links) w ranged in
    elim (cut.nodes n) as (λ o. IsRanged (node_if n (stopped_node out) cut o)) [ None ↦ r | Some node ↦ with_node cut n (stopped_node out node) r (stopped_ranged n out node) ]

fired_ranged : (n : ℕ) (out : Left) (f : Fired) (came : Outcome) → IsRanged came.0 → IsRanged (after_fire n out f came).0
fired_ranged n out fired.No came ranged = ranged
fired_ranged n out fired.Failed came ranged = ranged
fired_ranged n out fired.Stopped came ranged = dropped_ranged n out came.0 ranged

pub armed_ranged : (n : ℕ) (before : PlainWorld) (came : Outcome) → IsRanged came.0 → IsRanged (with_arm n before came).0
armed_ranged n before came ranged = fired_ranged n (arm_in (before.nodes n)).out (fired_by (arm_in (before.nodes n)).fuse (arm_in (came.0.nodes n)).fuse) came ranged

broken_ranged : (n l : ℕ) (before : PlainWorld) (came : Outcome) → IsRanged came.0 → IsRanged (with_broken n l before came).0
broken_ranged n l before came ranged = by (is_broken_answer came.1.answer)
  where
    at : (f : Fired) → IsRanged (after_broken n l (arm_in (before.nodes n)).out f came).0
    at fired.No = ranged
    at fired.Failed = ranged
    at fired.Stopped = dropped_ranged n (arm_in (before.nodes n)).out came.0 ranged

    by : (b : Bool) → IsRanged (if b then after_broken n l (arm_in (before.nodes n)).out (fired_by (arm_in (before.nodes n)).fuse (arm_in (came.0.nodes n)).fuse) came else came).0
    by true = at (fired_by (arm_in (before.nodes n)).fuse (arm_in (came.0.nodes n)).fuse)
    by false = ranged

pub down_ranged : (w : PlainWorld) (l : ℕ) (o : Option PlainLink) (came : Outcome) → IsRanged came.0 → IsRanged (down_outcome w l o came).0
down_ranged w l None came ranged = ranged
down_ranged w l (Some link) came ranged = broken_ranged (consumer_node link) l w came ranged

-- a node that starts

starts_ranged : (n : ℕ) (starts : List (ℕ × ℕ)) (node : PlainNode) (told : Told) → NodeRanged n node → NodeRanged n (starts_from n starts (node, told)).0
starts_ranged n [] node told ranged = ranged
starts_ranged n (start ∷ starts) node told ranged = by (λ t. starts_ranged n starts (start_one n start node).0 t (kept_ranged n node (start_one n start node).0 refl (λ c. refl) refl ranged)) (fired_by node.arm.fuse (start_one n start node).0.arm.fuse)
  where
    by : ((t : Told) → NodeRanged n (starts_from n starts ((start_one n start node).0, t)).0) → (f : Fired) → NodeRanged n (started_by n node.arm f (start_one n start node).1 told (start_one n start node).0 (starts_from n starts)).0
    by rest fired.No = rest _
    by rest fired.Failed = rest _
    by rest fired.Stopped = stopped_ranged n node.arm.out (start_one n start node).0

books_ranged : (n : ℕ) (uuids : List ℕ) (books : List Book) (node : PlainNode) → NodeRanged n node → NodeRanged n (start_books n uuids books node).0
books_ranged n uuids books node ranged = by (opens_all node.arm.fuse (length books)) (are_short books uuids)
  where
    loaded : NodeRanged n (starts_from n (starts_of books uuids) (loaded_node n books (burnt_arm (length books) node.arm), done [])).0
    loaded = starts_ranged n (starts_of books uuids) (loaded_node n books (burnt_arm (length books) node.arm)) (done []) (record { clock = omega arith; clients = λ c. tt; own = λ c. tt; runs = λ e c. refl })

    by : (opens short : Bool) → NodeRanged n (if opens then (if short then (record node { arm = burnt_arm (length books) node.arm }, refusal cause.IdsShort) else starts_from n (starts_of books uuids) (loaded_node n books (burnt_arm (length books) node.arm), done [])) else not_opened n node).0
    by true true = kept_ranged n node (record node { arm = burnt_arm (length books) node.arm }) refl (λ c. refl) refl ranged
    by true false = loaded
    by false short = kept_ranged n node (not_opened n node).0 refl (λ c. refl) refl ranged

pub start_at_ranged : (n : ℕ) (uuids : List ℕ) (node : PlainNode) → NodeRanged n node → NodeRanged n (start_at n uuids node).0
start_at_ranged n uuids node ranged = elim node.off as (λ o. NodeRanged n (start_if n uuids node o).0) [ None ↦ ranged | Some books ↦ books_ranged n uuids books node ranged ]

-- a line that may be refused
pub unless_ranged : (w : PlainWorld) (o : Outcome) (why : Option Cause) → IsRanged w → IsRanged o.0 → IsRanged (refused_or why w o).0
unless_ranged w o (Some why) ranged after = ranged
unless_ranged w o None ranged after = after

-- what is due behind a batch
pub due_ranged : (n v : ℕ) (o : Outcome) → IsRanged o.0 → IsRanged (due_in n v o).0
due_ranged n v o ranged = by (is_counted o.1.answer)
  where
    at : (link : PlainLink) (k : Option PlainNode) → NodeRangedIf n k → IsRanged (due_at n link o.0 o.1 k).0
    at link None there = ranged
    at link (Some node) there = let x = after (dial_due (dial_of link)) node.vbs in with_node o.0 n (with_states node x.0) ranged (same_ranged n node x.0 node.made there)

    of : (l : Option PlainLink) → IsRanged (due_of n o.0 o.1 l).0
    of None = ranged
    of (Some link) = at link (o.0.nodes n) (ranged n)

    by : (b : Bool) → IsRanged (let x : Outcome = if b then due_of n o.0 o.1 (own_link n v o.0.links) else o in x.0)
    by true = of (own_link n v o.0.links)
    by false = ranged
