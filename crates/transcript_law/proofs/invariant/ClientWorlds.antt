-- the connections of clients that the lines tell open are those of the nodes: what parts of lines do to them, and a node that stops
use Rattle.std.specs.Prelude.{◌≡◌, ◌<◌, ◌≤◌, ◌∷◌, ◌++◌, ◌==◌, ◌||◌, if◌then◌else◌}
use Rattle.transcript_law.proofs.Words.{ℕ, zero, suc, Bool, true, false, List, [], refl, ap, sym, ◌∙◌, subst, ⊎_elim, arith, filter, flat_map, take, eqb-true, eqb-false, cases_lt, Option, Some, None, is_some, Cause, Event, after, after_job}
use Rattle.transcript_law.proofs.Words.{AdminCall, AdminResult, Frame, LinkResult, PlainLink, PlainNode, PlainWorld, Outcome, Told, VbCall, call_at, called_at, consumer_node, cut_off, done, empty_world, link_number, moved_len}
use Rattle.transcript_law.proofs.Words.{no_node, node_if, node_outcome, on_link, on_node, own_link, peer_of, producer_node, refused_or, role_outcome, row_at, turned_after, turned_if, unlinked, up_at, links_ended, with_ended, with_links, with_node_at, with_states}
use Rattle.disk_journals.specs.{Books.{below}}
use Rattle.node_core.specs.{Admin.{admin_job, admin_refused, role_at}, Flushing.{settled_result}, Peers.{PeerResult, peer_answered, peer_frames, peer_heard}}
use Rattle.node_core.specs.Clients.{PlainClient, client_ended}
use Rattle.std.specs.Option.{option_map}
use Rattle.node_world.specs.Arms.{fired_by, placed, under_arm}
use Rattle.node_world.specs.{Cuts.{closed_at}, Links.{frame_up, frames_up, frame_posted, untold_peer}, Turns.{posted_at, posted_in, role_called, turned}, World.{down_outcome, relinked}, Worlds.{arm_in, on_made}}
use Rattle.node_world.specs.Nodes.{flush_here, all_posted, flush_line, save_line, with_clients_ended, with_kept, with_posts}
use Rattle.node_world.specs.Power.{after_broken, after_fire, all_cut, all_numbers, all_unlinked, closed_line, closed_lines, disk_end, down_lines, dropped, end_line, end_lines, has_client, is_broken_answer, is_this_number, is_touched, numbers, stopped_node, touches, with_arm, with_broken}
use Rattle.node_world.specs.declared.arm.Fired.{Fired}
use Rattle.node_world.specs.declared.arm.Fired.TheVariants as fired
use Rattle.std.proofs.lemmas.Grind.{flat_map-append}
use Rattle.transcript_law.proofs.invariant.ClientNodes.{NodeGoes, NodeTold, goes_more, mute_goes, none_told, same_told, told_goes}
use Rattle.transcript_law.proofs.invariant.Tables.{at_here, at_there}
use Rattle.transcript_law.proofs.lines.Heard.{AllSay, AreMute, HeardFrom, all_heard, conns_more, mute_each, mute_same, mute_say, row_there, say_heard, say_more}
use Rattle.transcript_law.proofs.lines.{Calm.{either}, LinkLines.{peer_mute}, SessionLines.{IsKept}}
use Rattle.transcript_law.proofs.verbs.AdminLines.{flush_mute, role_mute, settled_mute}
use Rattle.transcript_law.proofs.verbs.NodeLines.{on_link_by, on_made_by, on_node_by}
use Rattle.transcript_law.specs.Chronicles.{Conns, conns_lines, with_at}
use Rattle.transcript_law.specs.{Clients.{AllClosed}, Feeding.{client_in}}
use Rattle.vb_calls.specs.declared.calls.Resolved.{Resolved}
use Rattle.vb_disk.specs.declared.made.Outcome.{Outcome as Left}
use Rattle.vb_types.specs.declared.journal.FlushPart.{FlushPart}
use Rattle.vb_types.specs.declared.journal.FlushPart.TheVariants as part
use Rattle.std.proofs.lemmas.Bool.{cases_eq}

abbrev pub NodeToldIf : (ℕ → Bool) → ℕ → Option PlainNode → Type 0
NodeToldIf opened n None = (c : ℕ) → opened c ≡ false
NodeToldIf opened n (Some node) = NodeTold opened n node

-- all connections that are told open are those of the nodes
abbrev pub ConnsAre : PlainWorld → Conns → Type 0
ConnsAre w conns = (n : ℕ) → NodeToldIf (conns n) n (w.nodes n)

pub start_conns : ConnsAre empty_world (λ n c. false)
start_conns n = λ c. refl

-- a line whose lines say so, and where it came to, where no node stopped
abbrev pub Goes : Conns → Outcome → Type 0
Goes conns o = AllSay conns o.1.events × ConnsAre o.0 (conns_lines conns o.1.events)

-- the same where one may have
abbrev pub Came : Conns → Outcome → Type 0
Came conns o = HeardFrom conns o.1.events × ConnsAre o.0 (conns_lines conns o.1.events)

pub came : (conns : Conns) (o : Outcome) → Goes conns o → Came conns o
came conns o g = (all_heard conns o.1.events g.0, g.1)

-- ---- worlds

pub told_at : (w : PlainWorld) (conns : Conns) (n : ℕ) (node : PlainNode) → w.nodes n ≡ Some node → ConnsAre w conns → NodeTold (conns n) n node
told_at w conns n node e are = subst (NodeToldIf (conns n) n) e (are n)

-- one that is not there is not told open
pub shut_then : (w : PlainWorld) (conns : Conns) (n c : ℕ) → ConnsAre w conns → client_in (w.nodes n) c ≡ None → conns n c ≡ false
shut_then w conns n c are none = by (w.nodes n) (are n) none
  where
    by : (o : Option PlainNode) → NodeToldIf (conns n) n o → client_in o c ≡ None → conns n c ≡ false
    by None closed e = closed c
    by (Some node) told e = told.told c ∙ ap is_some e

-- and one that is there is
pub open_then : (w : PlainWorld) (conns : Conns) (n c : ℕ) → ConnsAre w conns → (client : PlainClient) → client_in (w.nodes n) c ≡ Some client → conns n c ≡ true
open_then w conns n c are client is = by (w.nodes n) (are n) is
  where
    by : (o : Option PlainNode) → NodeToldIf (conns n) n o → client_in o c ≡ Some client → conns n c ≡ true
    by None closed e = let z : None ≡ Some client = e in absurd cc
    by (Some node) told e = told.told c ∙ ap is_some e

-- a node is put
pub put_node : (w : PlainWorld) (conns conns' : Conns) (n : ℕ) (node : PlainNode) → ConnsAre w conns → NodeTold (conns' n) n node → ((m : ℕ) → (m ≡ n → ⊥) → conns' m ≡ conns m) → ConnsAre (with_node_at w n node) conns'
put_node w conns conns' n node are here others m = by (m == n) refl
  where
    by : (b : Bool) → (m == n) ≡ b → NodeToldIf (conns' m) m (if b then Some node else w.nodes m)
    by true e = subst (λ k. NodeTold (conns' k) k node) (sym (eqb-true m n e)) here
    by false e = subst (λ (u : ℕ → Bool). NodeToldIf u m (w.nodes m)) (sym (others m (λ s. eqb-false m n e s))) (are m)

pub put_goes : (w : PlainWorld) (conns : Conns) (n : ℕ) (node : PlainNode) (lines : List Event) → ConnsAre w conns → NodeGoes conns n node lines → ConnsAre (with_node_at w n node) (conns_lines conns lines)
put_goes w conns n node lines are g = put_node w conns (conns_lines conns lines) n node are g.here g.others

pub put_same : (w : PlainWorld) (conns : Conns) (n : ℕ) (node : PlainNode) → ConnsAre w conns → NodeTold (conns n) n node → ConnsAre (with_node_at w n node) conns
put_same w conns n node are here = put_node w conns conns n node are here (λ m ne. refl)

-- lines that tell of none
quiet : (conns : Conns) (o : Outcome) → AreMute o.1.events → ConnsAre o.0 conns → Goes conns o
quiet conns o mute are = (mute_say conns o.1.events mute, subst (ConnsAre o.0) (sym (mute_same conns o.1.events mute)) are)

-- a line that is refused, or not
pub unless : (conns : Conns) (w : PlainWorld) (o : Outcome) (why : Option Cause) → ConnsAre w conns → Goes conns o → Goes conns (refused_or why w o)
unless conns w o None are g = g
unless conns w o (Some why) are g = (tt, are)

-- a line of one node
pub on : (conns : Conns) (w : PlainWorld) (n : ℕ) (f : PlainNode → PlainNode × Told) → ConnsAre w conns → ((node : PlainNode) → NodeTold (conns n) n node → NodeGoes conns n (f node).0 (f node).1.events) → Goes conns (on_node w n f)
on conns w n f are goes = on_node_by (Goes conns) w n f (tt, are) (λ node e. (tt, put_same w conns n node are (told_at w conns n node e are)))
    (λ node e up. let g = goes node (told_at w conns n node e are) in (g.says, put_goes w conns n (f node).0 (f node).1.events are g))

pub made : (conns : Conns) (w : PlainWorld) (n : ℕ) (f : PlainNode → PlainNode × Told) → ConnsAre w conns → ((node : PlainNode) → NodeTold (conns n) n node → NodeGoes conns n (f node).0 (f node).1.events) → Goes conns (on_made w n f)
made conns w n f are goes = on_made_by (Goes conns) w n f (tt, are) (λ node e. let g = goes node (told_at w conns n node e are) in (g.says, put_goes w conns n (f node).0 (f node).1.events are g))

-- the same for one that is refused, or not
pub unless_node : (conns : Conns) (n : ℕ) (node : PlainNode) (x : PlainNode × Told) (why : Option Cause) → NodeTold (conns n) n node → NodeGoes conns n x.0 x.1.events → NodeGoes conns n (refused_or why node x).0 (refused_or why node x).1.events
unless_node conns n node x None t g = g
unless_node conns n node x (Some why) t g = mute_goes conns n node [] tt t

-- a node with the same connections, of which nothing of them is told
pub stays : (conns : Conns) (n : ℕ) (node node' : PlainNode) (lines : List Event) → AreMute lines → ((c : ℕ) → node'.clients c ≡ node.clients c) → node'.off ≡ node.off → NodeTold (conns n) n node → NodeGoes conns n node' lines
stays conns n node node' lines mute clients off t = mute_goes conns n node' lines mute (same_told (conns n) n node node' clients off t)

-- and one whose outcomes are posted behind that
pub posts : (conns : Conns) (n : ℕ) (rs : List Resolved) (node node' : PlainNode) (lines : List Event) → AreMute lines → ((c : ℕ) → node'.clients c ≡ node.clients c) → node'.off ≡ node.off → NodeTold (conns n) n node
    → NodeGoes conns n (all_posted rs node').0 (lines ++ (all_posted rs node').1)
posts conns n rs node node' lines mute clients off t = told_goes conns n rs node' lines mute (same_told (conns n) n node node' clients off t)

pub flush_goes : (conns : Conns) (n v : ℕ) (p : FlushPart) (node : PlainNode) → NodeTold (conns n) n node → NodeGoes conns n (flush_line n v p node).0 (flush_line n v p node).1.events
flush_goes conns n v p node t = let x = after_job (flush_here n v p node) node.vbs node.shelves in posts conns n x.1.resolved node (with_kept node x.0) x.1.events (flush_mute n v p node) (λ c. refl) refl t

pub save_goes : (conns : Conns) (n v : ℕ) (node : PlainNode) → NodeTold (conns n) n node → NodeGoes conns n (save_line n v node).0 (save_line n v node).1.events
save_goes conns n v node t =
    let g = flush_goes conns n v part.Save (placed v node) (same_told (conns n) n node (placed v node) (λ c. refl) refl t) in
    record { says = g.says; here = same_told (conns_lines conns (save_line n v node).1.events n) n (flush_line n v part.Save (placed v node)).0 (save_line n v node).0 (λ c. refl) refl g.here; others = g.others }

pub settled_goes : (conns : Conns) (n v : ℕ) (call : VbCall) (node : PlainNode) → NodeTold (conns n) n node → (let x = call_at node.vbs v call (node.vbs v) in let y = with_posts (settled_result n v x.1) (with_states node x.0) in NodeGoes conns n y.0 y.1.events)
settled_goes conns n v call node t = let x = call_at node.vbs v call (node.vbs v) in posts conns n (settled_result n v x.1).resolved node (with_states node x.0) (settled_result n v x.1).events (settled_mute n v x.1) (λ c. refl) refl t

-- ---- lines of links

pub unlinked_are : (w : PlainWorld) (conns : Conns) (link : PlainLink) → ConnsAre w conns → ConnsAre (unlinked link w) conns
unlinked_are w conns link are = by (w.nodes n) refl
  where
    n : ℕ
    n = producer_node link

    by : (o : Option PlainNode) → w.nodes n ≡ o → ConnsAre (node_if n (closed_at link) w o) conns
    by None e = are
    by (Some node) e = put_same w conns n (closed_at link node) are (same_told (conns n) n node (closed_at link node) (λ c. refl) refl (told_at w conns n node e are))

relinked_are : (w : PlainWorld) (conns : Conns) (before : PlainLink) (o : Option PlainLink) → ConnsAre w conns → ConnsAre (relinked before o w) conns
relinked_are w conns before None are = unlinked_are w conns before are
relinked_are w conns before (Some link) are = are

pub over : (conns : Conns) (w : PlainWorld) (l : ℕ) (end : PlainLink → ℕ) (f : PlainLink → PlainNode → PlainNode × LinkResult) → ConnsAre w conns → ((link : PlainLink) (node : PlainNode) → NodeTold (conns (end link)) (end link) node → NodeGoes conns (end link) (f link node).0 (f link node).1.1.events)
    → Goes conns (on_link w l end f)
over conns w l end f are goes = on_link_by (Goes conns) w l end f (tt, are) (λ link found. (tt, are)) (λ link node found e.
    let x = f link node in let g = goes link node (told_at w conns (end link) node e are) in
    (g.says, relinked_are (with_node_at w (end link) x.0) (conns_lines conns x.1.1.events) link x.1.0 (put_goes w conns (end link) x.0 x.1.1.events are g)))

-- frames for a producer, each with what came of it for the clients
asked_goes : (conns : Conns) (n : ℕ) (f : Frame) (came : PlainNode × PeerResult) → NodeTold (conns n) n came.0 → NodeGoes conns n (frame_posted f came.1.peer came.0).0 (frame_posted f came.1.peer came.0).1.events
asked_goes conns n f came t =
    let x = after (peer_answered f came.1.peer) came.0.vbs in posts conns n x.1.resolved came.0 (with_states came.0 x.0) x.1.events (peer_mute f came.1.peer came.0.vbs) (λ c. refl) refl t

frames_go : (conns : Conns) (n : ℕ) (fs : List Frame) (came : PlainNode × PeerResult) → NodeGoes conns n came.0 came.1.events → NodeGoes conns n (frames_up fs came).0 (frames_up fs came).1.events
frames_go conns n [] came g = g
frames_go conns n (f ∷ fs) came g =
    let x = frame_posted f came.1.peer came.0 in
    frames_go conns n fs (frame_up f came) (goes_more conns n came.0 x.0 came.1.events x.1.events g (asked_goes (conns_lines conns came.1.events) n f came g.here))

pub up_goes : (conns : Conns) (n wanted : ℕ) (link : PlainLink) (node : PlainNode) → NodeTold (conns n) n node → NodeGoes conns n (up_at wanted link node).0 (up_at wanted link node).1.1.events
up_goes conns n wanted link node t =
    let piece : List ℕ = take (moved_len wanted link.up) link.up in frames_go conns n (peer_frames piece (peer_of link)) (node, untold_peer (peer_heard piece (peer_of link))) (mute_goes conns n node [] tt t)

-- ---- lines that change a role

pub posts_in_go : (conns : Conns) (n : ℕ) (rs : List Resolved) (o : Outcome) → AreMute o.1.events → ConnsAre o.0 conns → Goes conns (posted_in n rs o)
posts_in_go conns n rs o mute are = by (o.0.nodes n) refl
  where
    by : (k : Option PlainNode) → o.0.nodes n ≡ k → Goes conns (posted_at n rs o.0 o.1 k)
    by None e = quiet conns o mute are
    by (Some node) e =
        let g = told_goes conns n rs node o.1.events mute (told_at o.0 conns n node e are) in
        (g.says, put_goes o.0 conns n (all_posted rs node).0 (o.1.events ++ (all_posted rs node).1) are g)

-- connections whose streams a change of role ended are those that they were
pub ended_are : (conns : Conns) (w : PlainWorld) (n v : ℕ) (ids : List ℕ) → ConnsAre w conns → ConnsAre (with_ended n v ids w) conns
ended_are conns w n v ids are = by (w.nodes n) (are n)
  where
    one : (c : ℕ) (o : Option PlainClient) → IsKept n c o → (is_some (option_map (client_ended v ids) o) ≡ is_some o) × IsKept n c (option_map (client_ended v ids) o)
    one c None k = (refl, tt)
    one c (Some client) k = (refl, (record { node = k.0.node; number = k.0.number; stream = k.0.stream; desk = k.0.desk }, k.1))

    by : (o : Option PlainNode) → NodeToldIf (conns n) n o → ConnsAre (with_links (node_if n (with_clients_ended v ids) w o) (links_ended n v ids w.links)) conns
    by None t = are
    by (Some node) t = put_same w conns n (with_clients_ended v ids node) are
        (record { told = λ c. t.told c ∙ sym (one c (node.clients c) (t.kept c)).0; kept = λ c. (one c (node.clients c) (t.kept c)).1; small = t.small; down = t.down })

pub role_goes : (conns : Conns) (w : PlainWorld) (n v : ℕ) (asked : AdminCall) → admin_job n v asked ≡ role_at n v asked → ConnsAre w conns → Goes conns (role_outcome n v asked w)
role_goes conns w n v asked job are = by (w.nodes n) refl
  where
    ended : (o : Option (List ℕ)) (w1 : PlainWorld) (told : AdminResult) → AreMute told.events → ConnsAre w1 conns → Goes conns (turned_if n v w o (w1, told))
    ended None w1 told mute now = quiet conns (w, record { events = told.events; answer = told.answer }) mute are
    ended (Some ids) w1 told mute now = posts_in_go conns n told.resolved (turned n v told w2) (cut (own_link n v w2.links)).0 (cut (own_link n v w2.links)).1
      where
        w2 : PlainWorld
        w2 = with_ended n v ids w1

        still : ConnsAre w2 conns
        still = ended_are conns w1 n v ids now

        cut : (o : Option PlainLink) → AreMute ((cut_off o w2).1 ++ told.events) × ConnsAre (cut_off o w2).0 conns
        cut None = (mute, still)
        cut (Some link) = ((tt, mute), unlinked_are w2 conns link still)

    called : (node : PlainNode) → NodeTold (conns n) n node → AreMute (role_called n v asked node).1.events × NodeTold (conns n) n (role_called n v asked node).0
    called node t = elim (is_some node.off) as (λ b. let x : PlainNode × AdminResult = if b then (node, admin_refused Cause.NodeDown) else under_arm v (called_at n v asked) node in AreMute x.1.events × NodeTold (conns n) n x.0) [
      | true ↦ (tt, t)
      | false ↦ (role_mute n v asked (placed v node) job, same_told (conns n) n node (under_arm v (called_at n v asked) node).0 (λ c. refl) refl t)
    ]

    by : (o : Option PlainNode) → w.nodes n ≡ o → Goes conns (turned_after n v w (node_outcome w n no_node o (role_called n v asked)))
    by None e = (tt, are)
    by (Some node) e =
        let x = role_called n v asked node in let c = called node (told_at w conns n node e are) in
        ended x.1.ended (with_node_at w n x.0) x.1 c.0 (put_same w conns n x.0 are c.1)

-- ---- a node that stops

-- a table that differs from another in this row alone, where it has none
pub record Shut (n : ℕ) (conns conns' : Conns) : Type 0 where
  pub others : (m : ℕ) → (m ≡ n → ⊥) → conns' m ≡ conns m
  pub none : AllClosed conns' n

-- the same below a number
pub record ShutBelow (n k : ℕ) (conns conns' : Conns) : Type 0 where
  pub others : (m : ℕ) → (m ≡ n → ⊥) → conns' m ≡ conns m
  pub none : (c : ℕ) → c < k → conns' n c ≡ false
  pub above : (c : ℕ) → k ≤ c → conns' n c ≡ conns n c

module _ (conns : Conns) (n : ℕ) (node : Option PlainNode) (told : (c : ℕ) → conns n c ≡ has_client c node) where
  -- one more is told closed
  closed_one : (k : ℕ) (now : Conns) → ShutBelow n k conns now → (let lines = closed_line n node k ++ [] in AllSay now lines × ShutBelow n (suc k) conns (conns_lines now lines))
  closed_one k now s = by (has_client k node) (told k)
    where
      same : now n k ≡ conns n k
      same = s.above k (omega arith)

      by : (b : Bool) → conns n k ≡ b → (let lines = (if b then Event.Closed n k ∷ [] else []) ++ [] in AllSay now lines × ShutBelow n (suc k) conns (conns_lines now lines))
      by true e = (
        (same ∙ e, tt),
        record {
          others = λ m ne. row_there now n k false m ne ∙ s.others m ne;
          none = λ c low. ⊎_elim
              (λ less. at_there now n k false n c (λ x y. omega (arith, less, y)) ∙ s.none c less)
              (λ more. let here : c ≡ k = omega (arith, low, more) in ap (λ d. with_at now n k false n d) here ∙ at_here now n k false)
              (cases_lt c k);
          above = λ c high. at_there now n k false n c (λ x y. omega (arith, high, y)) ∙ s.above c (omega (arith, high));
        },
      )
      by false e = (
        tt,
        record {
          others = s.others;
          none = λ c low. ⊎_elim (λ less. s.none c less) (λ more. let here : c ≡ k = omega (arith, low, more) in ap (λ d. now n d) here ∙ same ∙ e) (cases_lt c k);
          above = λ c high. s.above c (omega (arith, high));
        },
      )

  closed_below : (k : ℕ) → (let lines = flat_map (closed_line n node) (below k) in AllSay conns lines × ShutBelow n k conns (conns_lines conns lines))
  closed_below zero = (tt, record { others = λ m ne. refl; none = λ c low. absurd (omega (arith, low)); above = λ c high. refl })
  closed_below (suc k) =
      let f : ℕ → List Event = closed_line n node in let older = closed_below k in let now : Conns = conns_lines conns (flat_map f (below k)) in let last = closed_one k now older.1 in
      let same : flat_map f (below k ++ k ∷ []) ≡ flat_map f (below k) ++ (f k ++ []) = flat_map-append f (below k) (k ∷ []) in
      subst (λ lines. AllSay conns lines × ShutBelow n (suc k) conns (conns_lines conns lines)) (sym same)
      (say_more conns (flat_map f (below k)) (f k ++ []) older.0 last.0, subst (ShutBelow n (suc k) conns) (sym (conns_more conns (flat_map f (below k)) (f k ++ []))) last.1)

  closed_all : (k : ℕ) (ls : List ℕ) → ls ≡ below k → (let lines = flat_map (closed_line n node) ls in AllSay conns lines × ShutBelow n k conns (conns_lines conns lines))
  closed_all k ls e = subst (λ xs. let lines = flat_map (closed_line n node) xs in AllSay conns lines × ShutBelow n k conns (conns_lines conns lines)) (sym e) (closed_below k)

-- all numbers are those below their limit
numbers_are : all_numbers ≡ below numbers
unfolding all_numbers
numbers_are = refl

-- the ends of links tell of none
ends_mute : (n : ℕ) (also : Option ℕ) (links : List PlainLink) → AreMute (end_lines n also links)
ends_mute n also links = mute_each (end_line n also links) all_numbers (λ l. either AreMute (is_this_number l also || is_touched n (row_at link_number l links)) _ [] (tt, tt) tt)

client_world : (opened : ℕ → Bool) (n : ℕ) (o : Option PlainNode) → NodeToldIf opened n o → (c : ℕ) → opened c ≡ has_client c o
client_world opened n None t c = t c
client_world opened n (Some node) t c = t.told c

client_small : (opened : ℕ → Bool) (n : ℕ) (o : Option PlainNode) → NodeToldIf opened n o → (c : ℕ) → opened c ≡ true → c < numbers
client_small opened n None t c e = let z : true ≡ false = sym e ∙ t c in cc
client_small opened n (Some node) t c e = t.small c e

-- each connection of a node that stops is told closed, and no other
pub down_say : (conns : Conns) (w : PlainWorld) (n : ℕ) (also : Option ℕ) → ConnsAre w conns → AllSay conns (down_lines n also w) × Shut n conns (conns_lines conns (down_lines n also w))
down_say conns w n also are = (
  say_more conns ends closes (mute_say conns ends mute) (subst (λ (u : Conns). AllSay u closes) (sym same) all.0),
  subst (Shut n conns) (sym (conns_more conns ends closes ∙ ap (λ (u : Conns). conns_lines u closes) same)) (record { others = all.1.others; none = λ c. closed c (conns n c) refl }),
)
  where
    ends : List Event
    ends = end_lines n also w.links

    closes : List Event
    closes = closed_lines n (w.nodes n)

    mute : AreMute ends
    mute = ends_mute n also w.links

    same : conns_lines conns ends ≡ conns
    same = mute_same conns ends mute

    all : AllSay conns closes × ShutBelow n numbers conns (conns_lines conns closes)
    all = closed_all conns n (w.nodes n) (client_world (conns n) n (w.nodes n) (are n)) numbers all_numbers numbers_are

    closed : (c : ℕ) (b : Bool) → conns n c ≡ b → conns_lines conns closes n c ≡ false
    closed c true e = all.1.none c (client_small (conns n) n (w.nodes n) (are n) c e)
    closed c false e = ⊎_elim (λ low. all.1.none c low) (λ high. all.1.above c high ∙ e) (cases_lt c numbers)

all_unlinked_are : (links : List PlainLink) (w : PlainWorld) (conns : Conns) → ConnsAre w conns → ConnsAre (all_unlinked links w) conns
all_unlinked_are [] w conns are = are
all_unlinked_are (link ∷ links) w conns are = all_unlinked_are links (unlinked link w) conns (unlinked_are w conns link are)

-- and then it has none
dropped_are : (n : ℕ) (out : Left) (w : PlainWorld) (conns conns' : Conns) → ConnsAre w conns → Shut n conns conns' → ConnsAre (dropped n out w) conns'
dropped_are n out w conns conns' before s = by (cut.nodes n) refl
  where
    cut : PlainWorld
    cut = all_cut n w

    are : ConnsAre cut conns
    are = all_unlinked_are (filter (touches n) w.links) w conns before

    by : (o : Option PlainNode) → cut.nodes n ≡ o → ConnsAre (node_if n (stopped_node out) cut o) conns'
    by None e = λ m. ⊎_elim
        (λ here. subst (λ k. NodeToldIf (conns' k) k (cut.nodes k)) (sym here) (subst (NodeToldIf (conns' n) n) (sym e) s.none))
        (λ ne. subst (λ (u : ℕ → Bool). NodeToldIf u m (cut.nodes m)) (sym (s.others m ne)) (are m))
        (cases_eq m n)
    by (Some node) e = put_node cut conns conns' n (stopped_node out node) are (none_told (conns' n) n (stopped_node out node) s.none (λ c. refl)) s.others

-- behind these lines the node stops
stop_came : (conns : Conns) (n : ℕ) (out : Left) (also : Option ℕ) (w : PlainWorld) (lines : List Event) → AllSay conns lines → ConnsAre w (conns_lines conns lines)
    → (let all = lines ++ Event.NodeStopped n ∷ down_lines n also w in HeardFrom conns all × ConnsAre (dropped n out w) (conns_lines conns all))
stop_came conns n out also w lines says are =
    let now : Conns = conns_lines conns lines in let down : List Event = down_lines n also w in let d = down_say now w n also are in (
      say_heard conns lines (Event.NodeStopped n ∷ down) says ((tt, d.1.none), all_heard now down d.0),
      subst (ConnsAre (dropped n out w)) (sym (conns_more conns lines (Event.NodeStopped n ∷ down))) (dropped_are n out w now (conns_lines now down) are d.1),
    )

-- behind these it does not
go_came : (conns : Conns) (w : PlainWorld) (lines more : List Event) → AllSay conns lines → AllSay (conns_lines conns lines) more → conns_lines (conns_lines conns lines) more ≡ conns_lines conns lines → ConnsAre w (conns_lines conns lines)
    → HeardFrom conns (lines ++ more) × ConnsAre w (conns_lines conns (lines ++ more))
go_came conns w lines more says also same are = (all_heard conns (lines ++ more) (say_more conns lines more says also), subst (ConnsAre w) (sym (conns_more conns lines more ∙ same)) are)

pub armed : (conns : Conns) (n : ℕ) (before : PlainWorld) (o : Outcome) → Goes conns o → Came conns (with_arm n before o)
armed conns n before o g = by (fired_by (arm_in (before.nodes n)).fuse (arm_in (o.0.nodes n)).fuse)
  where
    out : Left
    out = (arm_in (before.nodes n)).out

    by : (x : Fired) → Came conns (after_fire n out x o)
    by fired.No = came conns o g
    by fired.Failed = go_came conns o.0 o.1.events (Event.CallFailed n ∷ []) g.0 (tt, tt) refl g.1
    by fired.Stopped = stop_came conns n out None o.0 o.1.events g.0 g.1

broken : (conns : Conns) (n l : ℕ) (before : PlainWorld) (o : Outcome) → Goes conns o → Came conns (with_broken n l before o)
broken conns n l before o g = by (is_broken_answer o.1.answer)
  where
    out : Left
    out = (arm_in (before.nodes n)).out

    how : (x : Fired) → Came conns (after_broken n l out x o)
    how fired.No = go_came conns o.0 o.1.events (disk_end l) g.0 (tt, tt) refl g.1
    how fired.Failed = go_came conns o.0 o.1.events (Event.CallFailed n ∷ disk_end l) g.0 (tt, (tt, tt)) refl g.1
    how fired.Stopped = stop_came conns n out (Some l) o.0 o.1.events g.0 g.1

    by : (b : Bool) → Came conns (if b then after_broken n l out (fired_by (arm_in (before.nodes n)).fuse (arm_in (o.0.nodes n)).fuse) o else o)
    by true = how (fired_by (arm_in (before.nodes n)).fuse (arm_in (o.0.nodes n)).fuse)
    by false = came conns o g

pub down_came : (conns : Conns) (w : PlainWorld) (l : ℕ) (o : Option PlainLink) (x : Outcome) → Goes conns x → Came conns (down_outcome w l o x)
down_came conns w l None x g = came conns x g
down_came conns w l (Some link) x g = broken conns (consumer_node link) l w x g

pub crash_came : (conns : Conns) (w : PlainWorld) (n : ℕ) (out : Left) (why : Option Cause) → ConnsAre w conns → Came conns (refused_or why w (dropped n out w, done (down_lines n None w)))
crash_came conns w n out None are = let d = down_say conns w n None are in (all_heard conns (down_lines n None w) d.0, dropped_are n out w conns (conns_lines conns (down_lines n None w)) are d.1)
crash_came conns w n out (Some why) are = (tt, are)
