-- what a line leaves of links, of connections, and of other nodes
use Rattle.std.proofs.Common.{◌≡◌, ℕ, Bool, true, false, List, [], ◌∷◌, filter, refl, ap, sym, ◌∙◌, subst, Option, Some, None, is_some}
use Rattle.std.specs.Prelude.{◌≢◌, ◌==◌, if◌then◌else◌}
use Rattle.std.proofs.lemmas.Bool.{eq-eqb, eqb-true, ne_eqb}
use Rattle.script_text.specs.declared.verb.ClientVerb.{ClientVerb}
use Rattle.script_text.specs.declared.verb.ClientVerb.TheVariants as client_verb
use Rattle.vb_disk.specs.declared.made.Outcome.{Outcome as Left}
use Rattle.vb_events.specs.declared.event.Cause.{Cause}
use Rattle.vb_events.specs.declared.event.Cause.TheVariants as cause
use Rattle.vb_events.specs.declared.event.EndReason.{EndReason}
use Rattle.vb_calls.specs.Jobs.{after_reads}
use Rattle.vb_calls.specs.Shelves.{Shelves}
use Rattle.vb_calls.specs.Programs.{after}
use Rattle.vb_calls.specs.declared.calls.Resolved.{Resolved}
use Rattle.vbucket.specs.Rows.{row_at, row_out, row_put}
use Rattle.dcp_consumer.specs.Machine.{over_why}
use Rattle.node_core.specs.Calls.{left_open}
use Rattle.node_core.specs.Clients.{PlainClient, ClientPulled, client_fed, client_posted, client_pulled, new_client}
use Rattle.client_session.specs.Serving.{PlainSession}
use Rattle.vb_calls.specs.States.{States}
use Rattle.node_world.specs.declared.script_node.TheConstants.{MAX_CLIENTS}
use Rattle.node_world.specs.declared.told.Told.{Told}
use Rattle.node_world.specs.BytesMoved.{given_down}
use Rattle.node_world.specs.Cuts.{closed_at, unlinked}
use Rattle.node_world.specs.Leavings.{CrashesOne, CutsOne, DialsQuietly, EndsOnceOver, KeepsBut, LetsClosedGo, NoneIsClosed}
use Rattle.node_world.specs.Links.{PlainLink, consumer_node, left_unless, link_number, moved_len, producer_node, with_down}
use Rattle.node_world.specs.Nodes.{PlainNode, all_posted, awaiting, done, bytes_if, first_cause, posted, posted_if, posted_to, refusal, refused_or, with_client, hung_if, pull_if}
use Rattle.node_world.specs.Power.{all_cut, all_unlinked, crash_causes, down_lines, dropped, stopped_node, touches}
use Rattle.node_world.specs.World.{ask_in, base_of, client_verb_at, cut_outcome, down_in, link_causes, relinked, with_dialed}
use Rattle.node_world.specs.Worlds.{PlainWorld, Outcome, node_if, with_links, with_node_at}
use Rattle.node_world.proofs.BytesMoved.{downs}
use Rattle.node_world.proofs.CallsMade.{line_is}
use Rattle.node_world.proofs.PullReads.{client_put, pull_is}

-- ---- links

module _ (w : PlainWorld) (l : ℕ) (link : PlainLink) (node : PlainNode) (add_link : row_at link_number l w.links ≡ Some link) (there : w.nodes (consumer_node link) ≡ Some node) where
  abbrev why_of : ℕ → Option EndReason
  why_of k = over_why (given_down k link node).1.dial.consumer.handshake

  -- it goes on, or it is gone
  abbrev Ends : ℕ → Outcome → Type 0
  Ends k x = (why_of k ≡ None → (now : PlainLink) × (x.0.links ≡ row_put link_number (link_number link) now w.links)) × ((why : EndReason) → why_of k ≡ Some why → x.0.links ≡ row_out link_number (link_number link) w.links)

  ends_by : (wanted k : ℕ) (o : Option EndReason) → why_of k ≡ o
      → Ends k (relinked link (left_unless o (with_down link k (given_down k link node).1)) (with_node_at w (consumer_node link) (down_in wanted link node).0), (down_in wanted link node).1.1)
  ends_by wanted k None is = (λ e. (with_down link k (given_down k link node).1, refl), λ why e. let z : None ≡ Some why = sym is ∙ e in cc)
  ends_by wanted k (Some why) is = (λ e. let z : Some why ≡ None = sym is ∙ e in cc, λ other e. refl)

  pub ends_once_over : EndsOnceOver w l link node
  ends_once_over = record {
    goes_on = λ number wanted k counted going. (downs w l link node add_link there wanted Ends (ends_by wanted (moved_len wanted link.down) (why_of (moved_len wanted link.down)) refl) k counted).0 going;
    over = λ number wanted k why counted is. (downs w l link node add_link there wanted Ends (ends_by wanted (moved_len wanted link.down) (why_of (moved_len wanted link.down)) refl) k counted).1 why is;
  }

-- all nodes but its producer's stay where a link ends
unlinked_others : (link : PlainLink) (w : PlainWorld) (m : ℕ) → m ≢ producer_node link → (unlinked link w).nodes m ≡ w.nodes m
unlinked_others link w m ne = by (w.nodes (producer_node link))
  where
    by : (o : Option PlainNode) → (node_if (producer_node link) (closed_at link) w o).nodes m ≡ w.nodes m
    by None = refl
    by (Some x) = ap (λ b. if b then Some (closed_at link x) else w.nodes m) (ne_eqb m (producer_node link) ne)

pub cuts_one : (w : PlainWorld) (l : ℕ) (link : PlainLink) → row_at link_number l w.links ≡ Some link → CutsOne w l link
cuts_one w l link add_link = record {
  tells = λ number. ap (λ o. (cut_outcome w o).1) add_link;
  links = λ number. ap (λ o. (cut_outcome w o).0.links) add_link;
  others = λ number m ne. ap (λ o. (cut_outcome w o).0.nodes m) add_link ∙ unlinked_others link w m ne;
}

pub dials_quietly : (w : PlainWorld) (l m n v buffer : ℕ) (takeover : Bool) → DialsQuietly w l m n v buffer takeover
dials_quietly w l m n v buffer takeover = record { silent = λ number. lines number (first_cause (link_causes w l m n v)); nodes = λ number k. stay number k (first_cause (link_causes w l m n v)) }
  where
    dialed : ℕ → Outcome
    dialed number = (with_links w (with_dialed number l m n v buffer takeover w.links (ask_in w n v)), done [])

    lines : (number : ℕ) (why : Option Cause) → (refused_or why w (dialed number)).1.events ≡ []
    lines number (Some why) = refl
    lines number None = refl

    stay : (number k : ℕ) (why : Option Cause) → (refused_or why w (dialed number)).0.nodes k ≡ w.nodes k
    stay number k (Some why) = refl
    stay number k None = refl

-- ---- connections

-- a connection that is left is not closed
left_is : (s t : PlainClient) → left_open s ≡ Some t → t.session.closed ≡ false
left_is s t e = by s.session.closed refl e
  where
    by : (b : Bool) → s.session.closed ≡ b → (if b then None else Some s) ≡ Some t → t.session.closed ≡ false
    by true is e = cc
    by false is e = let same : s ≡ t = cc in ap (λ (x : PlainClient). x.session.closed) (sym same) ∙ is

put_open : (node : PlainNode) (c : ℕ) (o : Option PlainClient) → NoneIsClosed node → ((s : PlainClient) → o ≡ Some s → s.session.closed ≡ false) → NoneIsClosed (with_client node c o)
put_open node c o none fine d client = by (d == c)
  where
    by : (b : Bool) → (if b then o else node.clients d) ≡ Some client → client.session.closed ≡ false
    by true e = fine client e
    by false e = none d client e

-- one of two
either_open : (b : Bool) (x y : PlainNode × Told) → NoneIsClosed x.0 → NoneIsClosed y.0 → NoneIsClosed (if b then x else y).0
either_open true x y left right = left
either_open false x y left right = right

none_there : (s : PlainClient) → None ≡ Some s → s.session.closed ≡ false
none_there s e = cc

new_is : (t s : PlainClient) → t.session.closed ≡ false → Some t ≡ Some s → s.session.closed ≡ false
new_is t s live e = let same : t ≡ s = cc in ap (λ (x : PlainClient). x.session.closed) (sym same) ∙ live

-- frames that are put leave the session
pulled_session : (frames : ℕ) (client : PlainClient) (shelves : Shelves) (states : States) → (after_reads (client_pulled frames client) shelves states).1.client.session ≡ client.session
pulled_session frames client shelves states = ap (λ (x : States × ClientPulled). x.1.client.session) (client_put frames client shelves states)

client_is_open : (n number c : ℕ) (what : ClientVerb) (node : PlainNode) → NoneIsClosed node → NoneIsClosed (client_verb_at n number c what node).0
client_is_open n number c client_verb.Open node none =
    let t : PlainClient = new_client (record { node = n; client = c; base = base_of number }) in
    either_open (is_some (node.clients c)) (node, refusal cause.LinkOpen) (with_client node c (Some t), done []) none (put_open node c (Some t) none (λ s e. new_is t s refl e))
client_is_open n number c (client_verb.Bytes bytes) node none = by (node.clients c)
  where
    by : (o : Option PlainClient) → NoneIsClosed (bytes_if c bytes node o).0
    by None = none
    by (Some client) = let h = (after (client_fed node.clock bytes client) node.vbs).1 in put_open node c (left_open h.client) none (λ t e. left_is h.client t e)
client_is_open n number c client_verb.Hang node none = by (node.clients c)
  where
    by : (o : Option PlainClient) → NoneIsClosed (hung_if c node o).0
    by None = none
    by (Some client) = put_open node c None none none_there
client_is_open n number c (client_verb.Pull frames) node none = by (node.clients c) refl
  where
    by : (o : Option PlainClient) → node.clients c ≡ o → NoneIsClosed (pull_if c frames node o).0
    by None e = none
    by (Some client) e =
        let left : PlainClient = (after_reads (client_pulled frames client) node.shelves node.vbs).1.client in
        subst (λ (x : PlainNode × Told). NoneIsClosed x.0) (sym (pull_is c frames client node))
        (put_open node c (Some left) none (λ s is. new_is left s (ap (λ (x : PlainSession). x.closed) (pulled_session frames client node.shelves node.vbs) ∙ none c client e) is))

posts_open : (rs : List Resolved) (node : PlainNode) → NoneIsClosed node → NoneIsClosed (all_posted rs node).0
posts_open [] node none = none
posts_open (r ∷ rs) node none = posts_open rs (posted r node).0 (to (awaiting node.clients r.waiter MAX_CLIENTS))
  where
    at : (c : ℕ) (o : Option PlainClient) → NoneIsClosed (posted_if c r node o).0
    at c None = none
    at c (Some client) = let h = (after (client_posted node.clock r client) node.vbs).1 in put_open node c (left_open h.client) none (λ t e. left_is h.client t e)

    to : (o : Option ℕ) → NoneIsClosed (posted_to r node o).0
    to None = none
    to (Some c) = at c (node.clients c)

pub lets_closed_go : (w : PlainWorld) (n : ℕ) (node : PlainNode) → w.nodes n ≡ Some node → node.off ≡ None → LetsClosedGo w n node
lets_closed_go w n node there up = record {
  lines = λ number c what none. (
    (client_verb_at n number c what node).0,
    ap (λ (o : Outcome). o.0.nodes n) (line_is w n node there up (client_verb_at n number c what)) ∙ ap (λ b. if b then Some (client_verb_at n number c what node).0 else w.nodes n) (eq-eqb n n refl),
    client_is_open n number c what node none,
  );
  outcomes = λ rs none. posts_open rs node none;
}

-- ---- a crash

-- a node of which all but the vBuckets is as it was
abbrev Keeps : PlainNode → Option PlainNode → Type 0
Keeps node o = (now : PlainNode) × (o ≡ Some now) × KeepsBut node now

closed_keeps : (link : PlainLink) (node x : PlainNode) → KeepsBut node x → KeepsBut node (closed_at link x)
closed_keeps link node x k = record { shelves = k.shelves; made = k.made; clock = k.clock; clients = k.clients; arm = k.arm; off = k.off }

unlinked_keeps : (link : PlainLink) (w : PlainWorld) (m : ℕ) (node now : PlainNode) → w.nodes m ≡ Some now → KeepsBut node now → Keeps node ((unlinked link w).nodes m)
unlinked_keeps link w m node now there kept = by (w.nodes (producer_node link)) refl
  where
    at : (x : PlainNode) → w.nodes (producer_node link) ≡ Some x → (b : Bool) → (m == producer_node link) ≡ b → Keeps node (if b then Some (closed_at link x) else w.nodes m)
    at x e true at_end =
        let one : Some x ≡ Some now = sym e ∙ ap w.nodes (sym (eqb-true m (producer_node link) at_end)) ∙ there in
        let is : x ≡ now = cc in (closed_at link x, refl, closed_keeps link node x (subst (KeepsBut node) (sym is) kept))
    at x e false other = (now, there, kept)

    by : (o : Option PlainNode) → w.nodes (producer_node link) ≡ o → Keeps node ((node_if (producer_node link) (closed_at link) w o).nodes m)
    by None e = (now, there, kept)
    by (Some x) e = at x e (m == producer_node link) refl

all_keep : (links : List PlainLink) (w : PlainWorld) (m : ℕ) (node now : PlainNode) → w.nodes m ≡ Some now → KeepsBut node now → Keeps node ((all_unlinked links w).nodes m)
all_keep [] w m node now there kept = (now, there, kept)
all_keep (link ∷ links) w m node now there kept = let (next, is, keeps) = unlinked_keeps link w m node now there kept in all_keep links (unlinked link w) m node next is keeps

pub crashes_one : (w : PlainWorld) (n : ℕ) (out : Left) → CrashesOne w n out
crashes_one w n out number m node ne there = by (first_cause (crash_causes w n))
  where
    same : KeepsBut node node
    same = record { shelves = refl; made = refl; clock = refl; clients = refl; arm = refl; off = refl }

    cut : Keeps node ((all_cut n w).nodes m)
    cut = all_keep (filter (touches n) w.links) w m node node there same

    stopped : (o : Option PlainNode) → Keeps node ((node_if n (stopped_node out) (all_cut n w) o).nodes m)
    stopped None = cut
    stopped (Some x) = subst (Keeps node) (sym (ap (λ b. if b then Some (stopped_node out x) else (all_cut n w).nodes m) (ne_eqb m n ne))) cut

    by : (why : Option Cause) → Keeps node ((refused_or why w (dropped n out w, done (down_lines n None w))).0.nodes m)
    by (Some why) = (node, there, same)
    by None = stopped ((all_cut n w).nodes n)
