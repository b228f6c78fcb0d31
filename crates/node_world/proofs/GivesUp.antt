-- vBuckets that a link's producer gives up, in the world that is kept
use Rattle.std.proofs.Common.{◌≡◌, ℕ, ◌<◌, Bool, true, false, List, [], ◌∷◌, ◌++◌, flat_map, get_or, length, map, set, refl, ap, sym, ◌∙◌, subst, Option, Some, None}
use Rattle.std.specs.Prelude.{◌==◌, ◌&&◌, if◌then◌else◌}
use Rattle.std.specs.List.{position}
use Rattle.std.specs.Option.{option_map}
use Rattle.std.proofs.lemmas.Bool.{eqb-true}
use Rattle.std.proofs.lemmas.List.{set-get_or}
use Rattle.std.proofs.lemmas.List.Quantifiers.{position-Some}
use Rattle.dcp_producer.specs.declared.yields.Yielded.{Yielded}
use Rattle.vb_calls.specs.Programs.{after}
use Rattle.vb_calls.specs.States.{States}
use Rattle.vbucket.specs.Rows.{row_at, row_put}
use Rattle.node_core.specs.declared.out.NodeOut.{NodeOut}
use Rattle.node_core.specs.GivingUp.{GiveResult, dead_line, peer_gives_up, resolved_in}
use Rattle.node_core.specs.Peers.{KeptPeer, PlainPeer}
use Rattle.node_world.specs.declared.link.Link.{Link}
use Rattle.node_world.specs.declared.script_node.ScriptNode.{ScriptNode}
use Rattle.node_world.specs.declared.told.Told.{Told}
use Rattle.node_world.specs.Ends.{GivesPeer, KeepsOthers, SameKeys, TellsGiven, kept_peer_ended, kept_peer_given, peer_under, with_clients_given}
use Rattle.script_text.specs.declared.verb.LinkVerb.TheVariants as link_verb
use Rattle.node_world.specs.Lines.{link_line_at, link_line_if, out_told}
use Rattle.node_world.specs.Links.{PlainLink, link_number, peer_of, producer_node, pump_at}
use Rattle.node_world.specs.Nodes.{PlainNode, done, with_states}
use Rattle.node_world.specs.Pumps.{gives_at, gives_up, with_end, with_given, with_gone}
use Rattle.node_world.specs.Stands.{Ends, Kept, LinkStands, LinksStand, NodeMatch, NodesStand, WorldStands, ends_of, live_peer, node_number}
use Rattle.node_world.specs.Turns.{posted_in}
use Rattle.node_world.specs.World.{link_outcome, on_link, pump_outcome, pump_step, put_behind, told_behind}
use Rattle.node_world.specs.Worlds.{PlainWorld, Outcome, node_outcome, with_links, with_node_at}
use Rattle.node_world.proofs.Held.{is_same, same_ends, set_stand, told_stand}
use Rattle.node_world.proofs.OnLinks.{found, not_open, put_is, the, the_stands}
use Rattle.node_world.proofs.OnNodes.{with_nodes}
use Rattle.node_world.proofs.Places.{dials_stay, no_peer, numbered, peer_here, peers_given, plain_at, step_stands}
use Rattle.node_world.proofs.Pumping.{given_world, links_given, peer_leaves}

-- the producers at a node were told of vBuckets that it gave up, one after the other
all_told : (n : ℕ) (given : List Yielded) (e e' : Ends) (links : List Link) (plain : List PlainLink)
    → ((m key : ℕ) → e'.peers m key ≡ (if m == n then option_map (kept_peer_given given) (e.peers m key) else e.peers m key)) → ((m u : ℕ) → e'.dials m u ≡ e.dials m u) → LinksStand e links plain → LinksStand e' links (links_given n given plain)
all_told n [] e e' links plain peers dials h = same_ends e e' links plain (λ m key. peers m key ∙ by (m == n) (e.peers m key)) dials h
  where
    by : (b : Bool) (o : Option KeptPeer) → (if b then option_map (kept_peer_given []) o else o) ≡ o
    by true None = refl
    by true (Some kept) = refl
    by false o = refl
all_told n (one ∷ more) e e' links plain peers dials h =
    all_told n more mid e' links _ (λ m key. peers m key ∙ by (m == n) (e.peers m key)) dials (told_stand e mid links plain n one.vb one.ended (λ m key. refl) (λ m u. refl) h)
  where
    told : Option KeptPeer → Option KeptPeer
    told o = option_map (kept_peer_ended one.vb (Some one.ended)) o

    mid : Ends
    mid = record { peers = λ m key. if m == n then option_map (kept_peer_ended one.vb (Some one.ended)) (e.peers m key) else e.peers m key; dials = e.dials }

    by : (b : Bool) (o : Option KeptPeer) → (if b then option_map (kept_peer_given (one ∷ more)) o else o)
        ≡ (if b then option_map (kept_peer_given more) (if b then option_map (kept_peer_ended one.vb (Some one.ended)) o else o) else (if b then option_map (kept_peer_ended one.vb (Some one.ended)) o else o))
    by true None = refl
    by true (Some kept) = refl
    by false o = refl

-- the producer of an open link is asked to give up
module _ (kept : Kept) (w : PlainWorld) (l frames at serving : ℕ) (link : Link) (old new : ScriptNode) (out : NodeOut) (is_placed : position (λ (x : Link). x.number == l) kept.links ≡ Some at) (link_is : link ≡ get_or kept.links at link)
    (placed_by : position (λ node. node_number node == link.producer) kept.nodes ≡ Some serving) (is : old ≡ get_or kept.nodes serving old) (stands : WorldStands kept w) (gives : GivesPeer link.conn frames old out new) where
  abbrev nodes' : List ScriptNode
  nodes' = set kept.nodes serving new

  abbrev pub given_kept : Kept
  given_kept = with_nodes kept nodes'

  abbrev ends : Ends
  ends = ends_of kept.nodes

  first : (at < length kept.links) × (((get_or kept.links at link).number == l) ≡ true)
  first = let (lt, here, before) = position-Some (λ (x : Link). x.number == l) kept.links at link is_placed in (lt, here)

  abbrev p : PlainLink
  p = the ends kept.links w.links at link first.0 stands.links

  p_stands : LinkStands ends link p
  p_stands = subst (λ x. LinkStands ends x p) (sym link_is) (the_stands ends kept.links w.links at link first.0 stands.links)

  p_number : link_number p ≡ l
  p_number = sym (the_stands ends kept.links w.links at link first.0 stands.links).number ∙ eqb-true _ _ first.1

  p_found : row_at link_number l w.links ≡ Some p
  p_found = ap (λ k. row_at link_number k w.links) (sym p_number) ∙ found ends kept.links w.links at link first.0 stands.links

  abbrev n : ℕ
  n = producer_node p

  placed : position (λ node. node_number node == n) kept.nodes ≡ Some serving
  placed = subst (λ m. position (λ node. node_number node == m) kept.nodes ≡ Some serving) p_stands.producer placed_by

  has : peer_under old link.conn ≡ Some (live_peer (peer_of p))
  has = sym (peer_here kept.nodes n serving old new placed is link.conn) ∙ ap (λ m. ends.peers m link.conn) (sym p_stands.producer) ∙ p_stands.server

  module _ (plain : PlainNode) (there : w.nodes n ≡ Some plain) (alike : NodeMatch old plain) where
    abbrev came : States × GiveResult
    came = after (peer_gives_up frames (peer_of p)) plain.vbs

    abbrev given : List Yielded
    given = came.1.given

    abbrev q : PlainLink
    q = with_end p came.1.peer

    tells : TellsGiven old new link.conn came.1
    tells = (gives plain (peer_of p) alike has).2

    -- the node with its vBuckets given up and its clients told
    abbrev heard : PlainNode → PlainNode
    heard x = let y = after (peer_gives_up frames (peer_of p)) x.vbs in with_clients_given y.1.given (with_states x y.0)

    known : NodesStand nodes' (with_node_at w n (heard plain))
    known =
        let none : List ℕ = [] in
        subst (λ o. NodesStand nodes' (node_outcome w n none o (λ x. (heard x, none))).0) there
        (step_stands kept.nodes n serving old new placed is tells.number w none (λ x. (heard x, none)) (λ t. List ℕ) stands.nodes (λ x same. ((gives x (peer_of p) same has).0, none))).0

    -- the ends once the link's own producer gave up, and nobody is told yet
    abbrev mid : Ends
    mid = record { peers = λ m key. if m == n && key == link.conn then Some (live_peer came.1.peer) else ends.peers m key; dials = ends.dials }

    q_stands : LinkStands mid link q
    q_stands = record {
      number = p_stands.number;
      producer = p_stands.producer ∙ sym (ap (λ (x : PlainPeer). x.producer.desk.node) (peer_leaves frames (peer_of p) plain.vbs));
      node = p_stands.node;
      vb = p_stands.vb;
      server = ap (λ b. if b then Some (live_peer came.1.peer) else ends.peers link.producer link.conn) (is_same link.producer link.conn n link.conn p_stands.producer refl);
      consumer = p_stands.consumer;
      up = p_stands.up;
      down = p_stands.down;
    }

    others : KeepsOthers link ends mid
    others = record {
      peers = λ m key away. ap (λ b. if b then Some (live_peer came.1.peer) else ends.peers m key) (ap (λ j. m == j && key == link.conn) (sym p_stands.producer) ∙ away);
      dials = λ m u away. refl;
    }

    mid_links : LinksStand mid kept.links (row_put link_number (link_number p) q w.links)
    mid_links =
        let same : set kept.links at link ≡ kept.links = ap (set kept.links at) link_is ∙ set-get_or kept.links at link in
        subst (LinksStand mid kept.links) (put_is ends kept.links w.links at link first.0 stands.links q)
        (subst (λ xs. LinksStand mid xs (set w.links at q)) same
        (set_stand ends mid kept.links w.links at link first.0 (subst (λ x. KeepsOthers x ends mid) link_is others) stands.links link q
        (subst (λ x. SameKeys x link) link_is (record { number = refl; producer = refl; conn = refl; node = refl; vb = refl })) q_stands))

    peers_are : (m key : ℕ) → (ends_of nodes').peers m key ≡ (if m == n then option_map (kept_peer_given given) (mid.peers m key) else mid.peers m key)
    peers_are m key = peers_given kept.nodes n serving old new placed is tells.number link.conn came.1 tells m key ∙ by (m == n) (key == link.conn) (ends.peers m key)
      where
        by : (a b : Bool) (o : Option KeptPeer) → (if a then (if b then Some (kept_peer_given given (live_peer came.1.peer)) else option_map (kept_peer_given given) o) else o)
            ≡ (if a then option_map (kept_peer_given given) (if a && b then Some (live_peer came.1.peer) else o) else (if a && b then Some (live_peer came.1.peer) else o))
        by true true o = refl
        by true false o = refl
        by false b o = refl

    abbrev links' : List PlainLink
    links' = links_given n given (row_put link_number (link_number p) q w.links)

    gone : WorldStands given_kept (with_given n given (with_gone p plain came.0 came.1.peer w))
    gone =
        subst (WorldStands given_kept) (sym (given_world (with_links w (row_put link_number (link_number p) q w.links)) n given (with_states plain came.0))) (record {
          nodes = known;
          ids = stands.ids;
          links = all_told n given mid (ends_of nodes') kept.links (row_put link_number (link_number p) q w.links) peers_are (λ m u. dials_stay kept.nodes n serving old new placed is tells.number tells.dials m u) mid_links;
        })

    said : out_told out ≡ done (map (dead_line n) given)
    said = ap out_told (gives plain (peer_of p) alike has).1 ∙ ap (λ k. done (map (dead_line k) given)) (numbered kept.nodes n serving old new placed is)

    resolved : out.resolved ≡ flat_map resolved_in given
    resolved = ap (λ (x : NodeOut). x.resolved) (gives plain (peer_of p) alike has).1

    module _ (last : Kept) (told : Told) (posts : (x : PlainWorld) → WorldStands given_kept x → WorldStands last (posted_in link.producer out.resolved (x, out_told out)).0 × (told ≡ (posted_in link.producer out.resolved (x, out_told out)).1)) where
      abbrev Ends_as : Outcome → Type 0
      Ends_as o = WorldStands last o.0 × (told ≡ o.1)

      gave_so : Ends_as (gives_up frames w (row_at link_number l w.links))
      gave_so =
          let x = with_given n given (with_gone p plain came.0 came.1.peer w) in
          subst Ends_as (sym (ap (gives_up frames w) p_found ∙ ap (gives_at frames p w) there)) (subst Ends_as (λ i. posted_in (p_stands.producer i) (resolved i) (x, said i)) (posts x gone))

  -- and what became of durable writes is told
  pub gave_line : (last : Kept) (told : Told) → ((x : PlainWorld) → WorldStands given_kept x → WorldStands last (posted_in link.producer out.resolved (x, out_told out)).0 × (told ≡ (posted_in link.producer out.resolved (x, out_told out)).1))
      → WorldStands last (gives_up frames w (row_at link_number l w.links)).0 × (told ≡ (gives_up frames w (row_at link_number l w.links)).1)
  gave_line last told posts = let (plain, there, alike) = plain_at kept.nodes n serving old new placed is w stands.nodes in gave_so plain there alike last told posts

-- no link of the number is open
pub closed_gives : (kept : Kept) (w : PlainWorld) (l frames : ℕ) → position (λ (x : Link). x.number == l) kept.links ≡ None → WorldStands kept w
    → WorldStands kept (gives_up frames w (row_at link_number l w.links)).0 × (done [] ≡ (gives_up frames w (row_at link_number l w.links)).1)
closed_gives kept w l frames none stands =
    subst (λ o. WorldStands kept (gives_up frames w o).0 × (done [] ≡ (gives_up frames w o).1)) (sym (not_open (ends_of kept.nodes) l kept.links w.links none stands.links.each)) (stands, refl)

-- a link's producer is at a node that is made
pub no_server : (kept : Kept) (w : PlainWorld) (l at : ℕ) (link : Link) → position (λ (x : Link). x.number == l) kept.links ≡ Some at → link ≡ get_or kept.links at link
    → position (λ node. node_number node == link.producer) kept.nodes ≡ None → WorldStands kept w → ⊥
no_server kept w l at link placed is none stands =
    let (lt, here, before) = position-Some (λ (x : Link). x.number == l) kept.links at link placed in
    let ends = ends_of kept.nodes in
    let one = subst (λ x. LinkStands ends x (the ends kept.links w.links at link lt stands.links)) (sym is) (the_stands ends kept.links w.links at link lt stands.links) in
    let no : None ≡ Some (live_peer (peer_of (the ends kept.links w.links at link lt stands.links))) = sym (no_peer kept.nodes link.producer link.conn none) ∙ one.server in
    cc

-- a pump: frames are put behind what was given up, and told so
module _ (w : PlainWorld) (l frames : ℕ) where
  line_is : (x : PlainWorld) → link_line_at (link_verb.Pump frames) x l ≡ on_link x l producer_node (pump_at frames)
  line_is x = by (row_at link_number l x.links)
    where
      by : (o : Option PlainLink) → link_line_if (link_verb.Pump frames) x o ≡ link_outcome x l producer_node (pump_at frames) o
      by None = refl
      by (Some link) = refl

  pump_is : pump_step w l frames ≡ put_behind l frames (gives_up frames w (row_at link_number l w.links))
  pump_is = by (row_at link_number l w.links) refl
    where
      by : (o : Option PlainLink) → row_at link_number l w.links ≡ o → pump_outcome w l frames o ≡ put_behind l frames (gives_up frames w o)
      by None e = sym (ap (λ o. told_behind [] (link_outcome w l producer_node (pump_at frames) o)) e)
      by (Some link) e = refl

  pub pump_line : (between last : Kept) (gave told came : Told) → WorldStands between (gives_up frames w (row_at link_number l w.links)).0 × (gave ≡ (gives_up frames w (row_at link_number l w.links)).1)
      → ((x : PlainWorld) → WorldStands between x → WorldStands last (link_line_at (link_verb.Pump frames) x l).0 × (told ≡ (link_line_at (link_verb.Pump frames) x l).1))
      → came ≡ record { events = gave.events ++ told.events; answer = told.answer } → WorldStands last (pump_step w l frames).0 × (came ≡ (pump_step w l frames).1)
  pump_line between last gave told came given puts is =
      let x = gives_up frames w (row_at link_number l w.links) in
      let put : WorldStands last (on_link x.0 l producer_node (pump_at frames)).0 × (told ≡ (on_link x.0 l producer_node (pump_at frames)).1) = subst (λ (o : Outcome). WorldStands last o.0 × (told ≡ o.1)) (line_is x.0) (puts x.0 given.0) in
      subst (λ (o : Outcome). WorldStands last o.0 × (came ≡ o.1)) (sym pump_is) (put.0, is ∙ (λ i. record { events = (given.1 i).events ++ (put.1 i).events; answer = (put.1 i).answer }))
