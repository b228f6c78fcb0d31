-- connections of a node: the clients, by the keys that their numbers have, and the peers beside them
use Rattle.std.proofs.Common.{◌≡◌, ◌≢◌, ℕ, Bool, true, false, List, refl, sym, ap, ◌∙◌, subst, Option, Some, None, is_some}
use Rattle.std.specs.Prelude.{◌==◌, if◌then◌else◌}
use Rattle.std.specs.Option.{option_map}
use Rattle.std.proofs.lemmas.Bool.{eqb-true, eqb-false}
use Rattle.slab.specs.Slab.{Slab, get}
use Rattle.mcbp_frame.specs.declared.frame.Frame.{Frame}
use Rattle.vb_calls.specs.declared.calls.Resolved.{Resolved}
use Rattle.vb_calls.specs.declared.calls.VbCall.{VbCall}
use Rattle.vb_calls.specs.declared.calls.VbReply.{VbReply}
use Rattle.vb_calls.specs.Jobs.{RanJob}
use Rattle.vb_calls.specs.Programs.{Prog, Ran}
use Rattle.vb_calls.specs.Shelves.{Ask, Got}
use Rattle.node_core.specs.declared.out.NodeOut.{NodeOut}
use Rattle.node_core.specs.Clients.{PlainClient, KeptClient, Handling, ClientPulled, client_ended, client_fed, client_posted, client_pulled}
use Rattle.node_core.specs.Outs.{client_out, client_pull_out, peer_out, pull_out}
use Rattle.node_core.specs.declared.conn.Conn.{Conn}
use Rattle.node_core.specs.declared.conn.Conn.TheVariants as conn
use Rattle.node_core.specs.Outcomes.{value_at, Renumbered, client_conn, peer_conn, conn_ended, kept_unless, ConnFed, ConnPosted, ConnAnswered, ConnPulled}
use Rattle.node_core.specs.Peers.{PlainPeer, KeptPeer, PeerResult, PullResult, peer_answered, peer_pulled}
use Rattle.node_world.specs.Ends.{kept_client_ended, clients_ended, kept_peer_ended}
use Rattle.node_world.specs.Nodes.{with_conn}
use Rattle.node_world.specs.Stands.{client_part, peer_part, live_client, ClientStands, ClientsStand}

-- a peer is one of a peer's connection
pub peer_got : (o : Option Conn) (kept : KeptPeer) → peer_part o ≡ Some kept → o ≡ Some (conn.Peer kept)
peer_got None kept e = cc
peer_got (Some (conn.Client client)) kept e = cc
peer_got (Some (conn.Peer peer)) kept e = let is : peer ≡ kept = cc in ap (λ q. Some (conn.Peer q)) is

-- a client is one of a client's connection
pub client_got : (o : Option Conn) (kept : KeptClient) → client_part o ≡ Some kept → o ≡ Some (conn.Client kept)
client_got None kept e = cc
client_got (Some (conn.Client client)) kept e = let is : client ≡ kept = cc in ap (λ q. Some (conn.Client q)) is
client_got (Some (conn.Peer peer)) kept e = cc

-- connections that were told of streams that ended: their clients are told
pub told_clients : (v : ℕ) (ended : Option (List ℕ)) (o : Option Conn) → client_part (option_map (conn_ended v ended) o) ≡ option_map (kept_client_ended v ended) (client_part o)
told_clients v ended None = refl
told_clients v None (Some (conn.Client kept)) = refl
told_clients v None (Some (conn.Peer peer)) = refl
told_clients v (Some ids) (Some (conn.Client kept)) = refl
told_clients v (Some ids) (Some (conn.Peer peer)) = refl

-- and their peers are told
pub told_peers : (v : ℕ) (ended : Option (List ℕ)) (o : Option Conn) → peer_part (option_map (conn_ended v ended) o) ≡ option_map (kept_peer_ended v ended) (peer_part o)
told_peers v ended None = refl
told_peers v None (Some (conn.Client client)) = refl
told_peers v None (Some (conn.Peer peer)) = refl
told_peers v (Some ids) (Some (conn.Client client)) = refl
told_peers v (Some ids) (Some (conn.Peer peer)) = refl

-- where nothing ended, they are as before
pub untold_peers : (v : ℕ) (o : Option KeptPeer) → option_map (kept_peer_ended v None) o ≡ o
untold_peers v None = refl
untold_peers v (Some kept) = refl

-- so are clients
pub untold_clients : (v : ℕ) (o : Option KeptClient) → option_map (kept_client_ended v None) o ≡ o
untold_clients v None = refl
untold_clients v (Some kept) = refl

-- the clients are as before
pub clients_again : (keys : List (ℕ × ℕ)) (conns conns' : Slab Conn) (clients : ℕ → Option PlainClient) → ((key : ℕ) → client_part (get conns' key) ≡ client_part (get conns key)) → ClientsStand keys conns clients → ClientsStand keys conns' clients
clients_again keys conns conns' clients same stand = record {
  each = λ c. by (value_at keys c) (clients c) (stand.each c);
  apart = stand.apart;
  owned = λ key has. stand.owned key (ap is_some (sym (same key)) ∙ has);
}
  where
    by : (o : Option ℕ) (s : Option PlainClient) → ClientStands conns o s → ClientStands conns' o s
    by None None h = tt
    by None (Some s) h = absurd h
    by (Some key) None h = absurd h
    by (Some key) (Some s) h = same key ∙ h

-- the clients are told, and so are the plain ones
pub clients_told : (v : ℕ) (ended : Option (List ℕ)) (keys : List (ℕ × ℕ)) (conns conns' : Slab Conn) (clients : ℕ → Option PlainClient)
    → ((key : ℕ) → client_part (get conns' key) ≡ option_map (kept_client_ended v ended) (client_part (get conns key))) → ClientsStand keys conns clients → ClientsStand keys conns' (clients_ended v ended clients)
clients_told v None keys conns conns' clients told stand = clients_again keys conns conns' clients (λ key. told key ∙ untold_clients v (client_part (get conns key))) stand
clients_told v (Some ids) keys conns conns' clients told stand = record {
  each = λ c. by (value_at keys c) (clients c) (stand.each c);
  apart = stand.apart;
  owned = λ key has. stand.owned key (there (client_part (get conns key)) ∙ ap is_some (sym (told key)) ∙ has);
}
  where
    by : (o : Option ℕ) (s : Option PlainClient) → ClientStands conns o s → ClientStands conns' o (option_map (client_ended v ids) s)
    by None None h = tt
    by None (Some s) h = absurd h
    by (Some key) None h = absurd h
    by (Some key) (Some s) h = told key ∙ ap (option_map (kept_client_ended v (Some ids))) h

    there : (o : Option KeptClient) → is_some o ≡ is_some (option_map (kept_client_ended v (Some ids)) o)
    there None = refl
    there (Some kept) = refl

-- the key of a client, while it is there
abbrev pub key_if : ℕ → Option PlainClient → Option ℕ
key_if key None = None
key_if key (Some client) = Some key

-- one number's connection changes, whose key no other number has
module _ (keys keys' : List (ℕ × ℕ)) (conns conns' : Slab Conn) (clients : ℕ → Option PlainClient) (c key : ℕ) (client : Option PlainClient)
    (alone : (d : ℕ) → value_at keys d ≡ Some key → d ≡ c) (mine : (k : ℕ) → value_at keys c ≡ Some k → k ≡ key) (rekeyed : Renumbered keys keys' c (key_if key client))
    (here : client_part (get conns' key) ≡ option_map live_client client) (others : (k : ℕ) → k ≢ key → client_part (get conns' k) ≡ client_part (get conns k)) (stand : ClientsStand keys conns clients) where
  keyed : (k : ℕ) (s : Option PlainClient) → key_if key s ≡ Some k → k ≡ key
  keyed k None e = cc
  keyed k (Some s) e = cc

  keyed_here : (d k : ℕ) → (d == c) ≡ true → value_at keys' d ≡ Some k → k ≡ key
  keyed_here d k e has = keyed k client (sym rekeyed.changed ∙ ap (value_at keys') (sym (eqb-true d c e)) ∙ has)

  keyed_away : (d k : ℕ) → (d == c) ≡ false → value_at keys' d ≡ Some k → value_at keys d ≡ Some k
  keyed_away d k e has = sym (rekeyed.others d (eqb-false d c e)) ∙ has

  away : (d k : ℕ) → (d == c) ≡ false → value_at keys d ≡ Some k → k ≢ key
  away d k e has is = eqb-false d c e (alone d (has ∙ ap Some is))

  at_key : (s : Option PlainClient) → client_part (get conns' key) ≡ option_map live_client s → ClientStands conns' (key_if key s) s
  at_key None e = tt
  at_key (Some s) e = e

  kept : (d : ℕ) → (d == c) ≡ false → (o : Option ℕ) (s : Option PlainClient) → value_at keys d ≡ o → ClientStands conns o s → ClientStands conns' o s
  kept d e None None has h = tt
  kept d e None (Some s) has h = absurd h
  kept d e (Some k) None has h = absurd h
  kept d e (Some k) (Some s) has h = others k (away d k e has) ∙ h

  each_at : (d : ℕ) (b : Bool) → (d == c) ≡ b → ClientStands conns' (value_at keys' d) (if b then client else clients d)
  each_at d true e = subst (λ o. ClientStands conns' o client) (sym (ap (value_at keys') (eqb-true d c e) ∙ rekeyed.changed)) (at_key client here)
  each_at d false e =
      subst (λ o. ClientStands conns' o (clients d)) (sym (rekeyed.others d (eqb-false d c e))) (kept d e (value_at keys d) (clients d) refl (stand.each d))

  apart_at : (d e k : ℕ) (a b : Bool) → (d == c) ≡ a → (e == c) ≡ b → value_at keys' d ≡ Some k → value_at keys' e ≡ Some k → d ≡ e
  apart_at d e k true true p q has also = eqb-true d c p ∙ sym (eqb-true e c q)
  apart_at d e k true false p q has also = absurd (away e k q (keyed_away e k q also) (keyed_here d k p has))
  apart_at d e k false true p q has also = absurd (away d k p (keyed_away d k p has) (keyed_here e k q also))
  apart_at d e k false false p q has also = stand.apart d e k (keyed_away d k p has) (keyed_away e k q also)

  owner : (s : Option PlainClient) → is_some (option_map live_client s) ≡ true → key_if key s ≡ Some key
  owner None e = cc
  owner (Some s) e = refl

  owned_at : (k : ℕ) (b : Bool) → (k == key) ≡ b → is_some (client_part (get conns' k)) ≡ true → (d : ℕ) × (value_at keys' d ≡ Some k)
  owned_at k true e has =
      let is : k ≡ key = eqb-true k key e in
      (c, rekeyed.changed ∙ owner client (ap is_some (sym here) ∙ ap (λ j. is_some (client_part (get conns' j))) (sym is) ∙ has) ∙ ap Some (sym is))
  owned_at k false e has =
      let ne : k ≢ key = eqb-false k key e in
      let (d, at) = stand.owned k (ap is_some (sym (others k ne)) ∙ has) in
      (d, rekeyed.others d (λ is. ne (mine k (ap (value_at keys) (sym is) ∙ at))) ∙ at)

  pub clients_set : ClientsStand keys' conns' (with_conn clients c client)
  clients_set = record {
    each = λ d. each_at d (d == c) refl;
    apart = λ d e k has also. apart_at d e k (d == c) (e == c) refl refl has also;
    owned = λ k has. owned_at k (k == key) refl has;
  }

-- what is left of a connection that was given bytes, or asked for frames
module _ {W : Type 0} (step : W → ℕ → VbCall → Option VbReply → W → Type 0) (old new : W) (out : NodeOut) where
  peer_live : (left : KeptPeer) (peer : PlainPeer) → left.spent ≡ false → left.plain ≡ peer → conn.Peer left ≡ peer_conn peer
  peer_live left peer spent plain = λ i. conn.Peer (record { plain = plain i; spent = spent i })

  client_live : (left : KeptClient) (client : PlainClient) → left.spent ≡ false → left.plain ≡ client → conn.Client left ≡ client_conn client
  client_live left client spent plain = λ i. conn.Client (record { plain = plain i; spent = spent i })

  -- a client's, which went through this
  abbrev pub ClientLeft : Prog Handling → Conn → Type 0
  ClientLeft prog left =
      (h : Handling) × Ran step prog old h new × (out ≡ client_out h) × (kept_unless out.closed left ≡ (if h.client.session.closed then None else Some (client_conn h.client)))

  -- one that was given bytes
  pub client_left : (clock : ℕ) (piece : List ℕ) (client : PlainClient) (left : Conn) → ConnFed step clock piece (client_conn client) old out left new → ClientLeft (client_fed clock piece client) left
  client_left clock piece client (conn.Peer left) h = absurd h
  client_left clock piece client (conn.Client left) h =
      let (s, ran, said, plain) = h.2 in
      (s, ran, said, λ i. kept_unless (said i).closed (client_live left s.client h.1 plain i))

  -- one that was told what became of a durable write
  pub post_left : (clock : ℕ) (outcome : Resolved) (client : PlainClient) (left : Conn) → ConnPosted step clock outcome (client_conn client) old out left new → ClientLeft (client_posted clock outcome client) left
  post_left clock outcome client (conn.Peer left) h = absurd h
  post_left clock outcome client (conn.Client left) h =
      let (s, ran, said, plain) = h.2 in
      (s, ran, said, λ i. kept_unless (said i).closed (client_live left s.client h.1 plain i))

  -- one that was asked for frames
  pub client_pull_left : {J : Type 0} (asks : J → ℕ → (ask : Ask) → Got ask → J → Type 0) (kept held : J) (frames : ℕ) (client : PlainClient) (left : Conn) → ConnPulled step asks frames (client_conn client) old kept out left new held
      → (told : ClientPulled) × RanJob step asks (client_pulled frames client) old kept told new held × (out ≡ client_pull_out told) × (left ≡ client_conn told.client)
  client_pull_left asks kept held frames client (conn.Peer left) h = absurd h
  client_pull_left asks kept held frames client (conn.Client left) h =
      let (told, ran, said, plain) = h.2 in
      (told, ran, said, client_live left told.client h.1 plain)

  -- a peer's that answered a frame
  pub answer_left : (f : Frame) (peer : PlainPeer) (left : Conn) → ConnAnswered step f (peer_conn peer) old out left new
      → (told : PeerResult) × Ran step (peer_answered f peer) old told new × (out ≡ peer_out told) × (left ≡ peer_conn told.peer)
  answer_left f peer (conn.Client left) h = absurd h
  answer_left f peer (conn.Peer left) h =
      let (told, ran, said, plain) = h.2 in
      (told, ran, said, peer_live left told.peer h.1 plain)

  -- one that was asked for frames
  pub pull_left : {J : Type 0} (asks : J → ℕ → (ask : Ask) → Got ask → J → Type 0) (kept held : J) (frames : ℕ) (peer : PlainPeer) (left : Conn) → ConnPulled step asks frames (peer_conn peer) old kept out left new held
      → (told : PullResult) × RanJob step asks (peer_pulled frames peer) old kept told new held × (out ≡ pull_out told) × (left ≡ peer_conn told.peer)
  pull_left asks kept held frames peer (conn.Client left) h = absurd h
  pull_left asks kept held frames peer (conn.Peer left) h =
      let (told, ran, said, plain) = h.2 in
      (told, ran, said, peer_live left told.peer h.1 plain)
