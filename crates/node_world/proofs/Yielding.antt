-- a producer whose streams gave vBuckets of its node up, and who is told there
use Rattle.std.proofs.Common.{◌≡◌, ℕ, Bool, true, false, List, [], ◌∷◌, refl, ap, sym, ◌∙◌, subst, Option, Some, None, is_some}
use Rattle.std.specs.Prelude.{◌==◌}
use Rattle.std.specs.Option.{option_map}
use Rattle.std.proofs.lemmas.Bool.{eqb-true, eqb-false}
use Rattle.slab.specs.Slab.{Slab, get}
use Rattle.dcp_producer.specs.declared.yields.Yielded.{Yielded}
use Rattle.vb_calls.specs.Programs.{Ran, after, alone_step}
use Rattle.vb_calls.specs.States.{States}
use Rattle.vb_calls.proofs.Readings.{alone_after}
use Rattle.vbucket.specs.Stands.{SlotsStand}
use Rattle.node_core.specs.declared.conn.Conn.{Conn}
use Rattle.node_core.specs.declared.conn.Conn.TheVariants as conn
use Rattle.node_core.specs.declared.out.NodeOut.{NodeOut}
use Rattle.node_core.specs.Clients.{PlainClient, KeptClient, client_ended}
use Rattle.node_core.specs.GivingUp.{ConnGaveUp, GaveUp, GaveUpAt, GiveResult, conn_given, given_out, peer_gives_up}
use Rattle.node_core.specs.Outcomes.{peer_conn, value_at}
use Rattle.node_core.specs.Peers.{KeptPeer, PlainPeer}
use Rattle.node_world.specs.declared.script_node.ScriptNode.{ScriptNode}
use Rattle.node_world.specs.Ends.{GivesPeer, TellsGiven, kept_peer_ended, kept_peer_given, peer_under, with_clients_given}
use Rattle.node_world.specs.GivesFirst.{losing_client, losing_node}
use Rattle.node_world.specs.Nodes.{PlainNode, with_states}
use Rattle.node_world.specs.Stands.{BaseStands, BasesStand, ClientStands, ClientsStand, MemNode, NodeMatch, client_part, live_peer, node_number, peer_part}
use Rattle.node_world.proofs.Conns.{peer_got}
use Rattle.node_world.proofs.Nodes.{inside, off_up, peer_is_up}
use Rattle.node_world.proofs.Pumping.{clients_lose, end_next, end_none}
use Rattle.node_world.proofs.Shelved.{same_shelves}

-- a client that lost streams
abbrev lost_client : List Yielded → KeptClient → KeptClient
lost_client given kept = record kept { plain = losing_client given kept.plain }

given_client : (given : List Yielded) (kept : KeptClient) → conn_given given (conn.Client kept) ≡ conn.Client (lost_client given kept)
given_client [] kept = ap (λ e. conn.Client (record kept { plain = record kept.plain { producer = e } })) (sym (end_none kept.plain.producer))
given_client (one ∷ more) kept =
    given_client more (record kept { plain = client_ended one.vb one.ended kept.plain }) ∙ ap (λ e. conn.Client (record kept { plain = record kept.plain { producer = e } })) (end_next one more kept.plain.producer)

given_peer : (given : List Yielded) (kept : KeptPeer) → conn_given given (conn.Peer kept) ≡ conn.Peer (kept_peer_given given kept)
given_peer [] kept = refl
given_peer (one ∷ more) kept = given_peer more (kept_peer_ended one.vb (Some one.ended) kept)

-- connections that were told: their clients are
clients_hear : (given : List Yielded) (o : Option Conn) → client_part (option_map (conn_given given) o) ≡ option_map (lost_client given) (client_part o)
clients_hear given None = refl
clients_hear given (Some (conn.Client kept)) = ap (λ c. client_part (Some c)) (given_client given kept)
clients_hear given (Some (conn.Peer kept)) = ap (λ c. client_part (Some c)) (given_peer given kept)

-- and their peers
peers_hear : (given : List Yielded) (o : Option Conn) → peer_part (option_map (conn_given given) o) ≡ option_map (kept_peer_given given) (peer_part o)
peers_hear given None = refl
peers_hear given (Some (conn.Client kept)) = ap (λ c. peer_part (Some c)) (given_client given kept)
peers_hear given (Some (conn.Peer kept)) = ap (λ c. peer_part (Some c)) (given_peer given kept)

-- the clients lost streams, and so did the plain ones
clients_lost : (given : List Yielded) (keys : List (ℕ × ℕ)) (conns conns' : Slab Conn) (clients : ℕ → Option PlainClient) → ((key : ℕ) → client_part (get conns' key) ≡ option_map (lost_client given) (client_part (get conns key)))
    → ClientsStand keys conns clients → ClientsStand keys conns' (λ c. option_map (losing_client given) (clients c))
clients_lost given keys conns conns' clients told stand = record {
  each = λ c. by (value_at keys c) (clients c) (stand.each c);
  apart = stand.apart;
  owned = λ key has. stand.owned key (there (client_part (get conns key)) ∙ ap is_some (sym (told key)) ∙ has);
}
  where
    by : (o : Option ℕ) (s : Option PlainClient) → ClientStands conns o s → ClientStands conns' o (option_map (losing_client given) s)
    by None None h = tt
    by None (Some s) h = absurd h
    by (Some key) None h = absurd h
    by (Some key) (Some s) h = told key ∙ ap (option_map (lost_client given)) h

    there : (o : Option KeptClient) → is_some o ≡ is_some (option_map (lost_client given) o)
    there None = refl
    there (Some kept) = refl

-- the bases of connections stay
bases_lost : (given : List Yielded) (bases : List (ℕ × ℕ)) (clients : ℕ → Option PlainClient) → BasesStand bases clients → BasesStand bases (λ c. option_map (losing_client given) (clients c))
bases_lost given bases clients stand = λ c. by (clients c) (value_at bases c) (stand c)
  where
    by : (o : Option PlainClient) (base : Option ℕ) → BaseStands o base → BaseStands (option_map (losing_client given) o) base
    by None base h = tt
    by (Some client) None h = absurd h
    by (Some client) (Some base) h = h

-- the producer under a key
module _ (old : ScriptNode) (key frames : ℕ) (out : NodeOut) (node : MemNode) where
  give_left : (peer : PlainPeer) (given : List Yielded) (left : Conn) → ConnGaveUp (alone_step SlotsStand) frames (peer_conn peer) old.node.vbs given left node.vbs
      → (k : PlainPeer) × Ran (alone_step SlotsStand) (peer_gives_up frames peer) old.node.vbs (record { peer = k; given = given }) node.vbs × (left ≡ peer_conn k)
  give_left peer given (conn.Client left) h = absurd h
  give_left peer given (conn.Peer left) h = (left.plain, h.2, ap (λ b. conn.Peer (record { plain = left.plain; spent = b })) h.1)

  module _ (plain : PlainNode) (peer : PlainPeer) (stands : NodeMatch old plain) (has : peer_under old key ≡ Some (live_peer peer)) (gave : GaveUp (alone_step SlotsStand) frames key (peer_conn peer) old.node out node)
      (k : PlainPeer) (left : gave.left ≡ peer_conn k) where
    own_is : get node.conns key ≡ Some (conn.Peer (kept_peer_given gave.given (live_peer k)))
    own_is = gave.own ∙ ap (λ c. Some (conn_given gave.given c)) left ∙ ap Some (given_peer gave.given (live_peer k))

    tells : TellsGiven old (inside old node) key (record { peer = k; given = gave.given })
    tells = record {
      number = ap (λ (x : MemNode). x.number) gave.rest;
      own = ap peer_part own_is;
      others = λ other ne. ap peer_part (gave.others other ne) ∙ peers_hear gave.given (get old.node.conns other);
      dials = λ v. ap (λ (x : MemNode). value_at x.dials v) gave.rest;
    }

    hear : (other : ℕ) → client_part (get node.conns other) ≡ option_map (lost_client gave.given) (client_part (get old.node.conns other))
    hear other = by (other == key) refl
      where
        none : client_part (get old.node.conns key) ≡ None
        none = ap client_part (peer_got (get old.node.conns key) (live_peer peer) has)

        by : (b : Bool) → (other == key) ≡ b → client_part (get node.conns other) ≡ option_map (lost_client gave.given) (client_part (get old.node.conns other))
        by true e =
            let is = eqb-true other key e in
            ap (λ j. client_part (get node.conns j)) is ∙ ap client_part own_is ∙ sym (ap (option_map (lost_client gave.given)) (ap (λ j. client_part (get old.node.conns j)) is ∙ none))
        by false e = ap client_part (gave.others other (eqb-false other key e)) ∙ clients_hear gave.given (get old.node.conns other)

    alike : (states : States) → SlotsStand node.vbs states → NodeMatch (inside old node) (losing_node gave.given states plain)
    alike states slots = record {
      slots = slots;
      shelves = same_shelves node old.node plain.shelves (ap (λ (x : MemNode). x.disks) gave.rest) stands.shelves;
      made = stands.made;
      clock = stands.clock;
      clients = clients_lost gave.given old.clients old.node.conns node.conns plain.clients hear stands.clients;
      bases = bases_lost gave.given old.bases plain.clients stands.bases;
      arm = stands.arm;
      off = off_up old (inside old node) plain.off refl (peer_is_up old plain.off key (live_peer peer) has stands.off) stands.off;
    }

  -- gave vBuckets up
  pub gives_peer : GaveUpAt (alone_step SlotsStand) frames key (get old.node.conns key) old.node out node → GivesPeer key frames old out (inside old node)
  gives_peer went plain peer stands has =
      let is = peer_got (get old.node.conns key) (live_peer peer) has in
      let gave : GaveUp (alone_step SlotsStand) frames key (peer_conn peer) old.node out node = subst (λ o. GaveUpAt (alone_step SlotsStand) frames key o old.node out node) is went in
      let (k, ran, left) = give_left peer gave.given gave.left gave.gave in
      let prog = peer_gives_up frames peer in
      let known = alone_after SlotsStand prog old.node.vbs (record { peer = k; given = gave.given }) node.vbs ran plain.vbs stands.slots in
      let states = (after prog plain.vbs).0 in
      subst (λ (t : GiveResult). NodeMatch (inside old node) (with_clients_given t.given (with_states plain states)) × (out ≡ given_out (node_number old) t.given) × TellsGiven old (inside old node) key t) known.0 (
        subst (NodeMatch (inside old node)) (sym (clients_lose gave.given (with_states plain states))) (alike plain peer stands has gave k left states known.1),
        gave.said,
        tells plain peer stands has gave k left,
      )
