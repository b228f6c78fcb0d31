-- the ends of links that a node keeps: producers under their keys, and dials of its vBuckets
use Rattle.std.proofs.Common.{◌≡◌, ℕ, Bool, List, refl, sym, ap, ◌∙◌, subst, Option, Some, None, is_some}
use Rattle.std.specs.Prelude.{◌&&◌, not, Result, Ok, Err}
use Rattle.slab.specs.Slab.{Slab, get}
use Rattle.slab.specs.Slab as slab
use Rattle.vb_events.specs.declared.event.Cause.{Cause}
use Rattle.vb_events.specs.declared.event.StreamName.TheVariants as name
use Rattle.vb_types.specs.declared.stream.StreamAsk.{StreamAsk}
use Rattle.vb_calls.specs.Jobs.{after_job}
use Rattle.vb_calls.specs.Programs.{after, alone_step}
use Rattle.vb_calls.proofs.Readings.{alone_after}
use Rattle.vbucket.specs.Stands.{SlotsStand}
use Rattle.dcp_producer.specs.Dropping.{cursor_dropped}
use Rattle.dcp_producer.specs.Ending.{end_closed}
use Rattle.node_core.specs.declared.conn.Conn.{Conn}
use Rattle.node_core.specs.declared.conn.ConnKind.TheVariants as kind
use Rattle.node_core.specs.declared.out.NodeOut.{NodeOut}
use Rattle.node_core.specs.Calls.{dial_requested}
use Rattle.node_core.specs.Dials.{PlainDial, KeptDial, DialResult, dial_due, dial_bytes}
use Rattle.dcp_consumer.specs.declared.handshake.Dialed.{Dialed as LinkDialed}
use Rattle.node_core.specs.Outcomes.{value_at, Renumbered, peer_conn, live_dial, Opened, ConnHeard, Heard, Answered, AnsweredAt, Pulled, PulledAt, Dropped, DroppedAt, Shut, ShutAt, DialedAs, Dialed, DialDue, DialDueAt, DialFed, DialFedAt, DialShutAt, dial_left}
use Rattle.node_core.specs.Outs.{done_out, peer_out, pull_out, dial_out, dropped_out}
use Rattle.node_core.specs.Peers.{PlainPeer, PeerResult, PullResult, peer_heard, peer_frames, peer_answered, peer_pulled}
use Rattle.mcbp_frame.specs.declared.frame.Frame.{Frame}
use Rattle.node_world.specs.declared.script_node.ScriptNode.{ScriptNode}
use Rattle.node_world.specs.Ends.{peer_under, dial_under, PutsPeer, PutsDial, OpensPeer, PullsPeer, DropsPeer, ShutsPeer, DialCame, DialsFor, DuesDial, CutsDial, dial_given}
use Rattle.node_world.specs.Nodes.{PlainNode, with_states}
use Rattle.node_world.specs.Stands.{MemNode, NodeMatch, client_part, peer_part, live_peer, node_number}
use Rattle.node_world.proofs.Clients.{part_at, part_but, part_stays}
use Rattle.node_world.proofs.Conns.{peer_got, answer_left, pull_left}
use Rattle.node_world.proofs.Nodes.{dial_is_up, inside, off_up, peer_is_up, with_both, with_slots}
use Rattle.node_world.proofs.Shelved.{MemAsks, known_job}

-- what a peer's connection becomes leaves the sessions of clients
module _ (old : ScriptNode) (key : ℕ) (slot : Option Conn) (node : MemNode) (updates : slab.Updates old.node.conns node.conns key slot) where
  clients_stay : client_part slot ≡ None → client_part (get old.node.conns key) ≡ None → (k : ℕ) → client_part (get node.conns k) ≡ client_part (get old.node.conns k)
  clients_stay one other = part_stays client_part old.node.conns node.conns key slot updates (one ∙ sym other)

  puts : node.number ≡ old.node.number → node.dials ≡ old.node.dials → PutsPeer old (inside old node) key (peer_part slot)
  puts number dials = record {
    number = number;
    changed = part_at peer_part old.node.conns node.conns key slot updates;
    others = part_but peer_part old.node.conns node.conns key slot updates;
    dials = λ v. ap (λ rows. value_at rows v) dials;
  }

-- a peer's connection is opened
module _ (old : ScriptNode) (link base key : ℕ) (node : MemNode) (opened : Opened (kind.Peer (name.Link link) base) old.node key node) where
  pub opens_peer : OpensPeer link base old key (inside old node)
  opens_peer = (
    λ plain stands up.
        with_slots old node plain plain.vbs (subst (λ vbs. SlotsStand vbs plain.vbs) (sym (ap (λ (x : MemNode). x.vbs) opened.rest)) stands.slots)
        (ap (λ (x : MemNode). x.disks) opened.rest)
        (clients_stay old key _ node opened.conns refl (ap client_part opened.free)) (off_up old (inside old node) plain.off refl up stands.off) stands,
    ap peer_part opened.free,
    puts old key _ node opened.conns (ap (λ (x : MemNode). x.number) opened.rest) (ap (λ (x : MemNode). x.dials) opened.rest),
  )

-- the producer under a key heard bytes: the frames that are whole now are still to be answered
abbrev pub HearsPeer : ℕ → List ℕ → ScriptNode → List Frame → ScriptNode → Type 0
HearsPeer key piece old frames new = (plain : PlainNode) (peer : PlainPeer) → NodeMatch old plain → peer_under old key ≡ Some (live_peer peer) →
    NodeMatch new plain × (frames ≡ peer_frames piece peer) × PutsPeer old new key (Some (live_peer (peer_heard piece peer)))

-- it answered a frame: what became of durable writes is still to be posted
abbrev pub AnswersFrame : ℕ → Frame → ScriptNode → NodeOut → ScriptNode → Type 0
AnswersFrame key f old out new = (plain : PlainNode) (peer : PlainPeer) → NodeMatch old plain → peer_under old key ≡ Some (live_peer peer) →
    let (states, told) = after (peer_answered f peer) plain.vbs in
    NodeMatch new (with_states plain states) × (out ≡ peer_out told) × PutsPeer old new key (Some (live_peer told.peer))

-- the producer under a key
module _ (old : ScriptNode) (key : ℕ) (out : NodeOut) (node : MemNode) where
  is_peer : (peer : PlainPeer) → peer_under old key ≡ Some (live_peer peer) → get old.node.conns key ≡ Some (peer_conn peer)
  is_peer peer has = peer_got (get old.node.conns key) (live_peer peer) has

  -- hears bytes
  pub hears_peer : (piece : List ℕ) (frames : List Frame) → Heard key piece old.node frames node → HearsPeer key piece old frames (inside old node)
  hears_peer piece frames went plain peer stands has =
      let is = is_peer peer has in
      let heard : ConnHeard piece (Some (peer_conn peer)) frames went.left = subst (λ o. ConnHeard piece o frames went.left) is went.heard in
      let put = puts old key went.left node went.conns (ap (λ (x : MemNode). x.number) went.rest) (ap (λ (x : MemNode). x.dials) went.rest) in (
        with_slots old node plain plain.vbs (subst (λ vbs. SlotsStand vbs plain.vbs) (sym (ap (λ (x : MemNode). x.vbs) went.rest)) stands.slots) (ap (λ (x : MemNode). x.disks) went.rest)
            (clients_stay old key went.left node went.conns (ap client_part heard.2) (ap client_part is)) (off_up old (inside old node) plain.off refl (peer_is_up old plain.off key (live_peer peer) has stands.off) stands.off) stands,
        heard.1,
        subst (PutsPeer old (inside old node) key) (ap peer_part heard.2) put,
      )

  -- answers a frame
  pub answers_frame : (f : Frame) → AnsweredAt (alone_step SlotsStand) key f (get old.node.conns key) old.node out node → AnswersFrame key f old out (inside old node)
  answers_frame f went plain peer stands has =
      let is = is_peer peer has in
      let answered : Answered (alone_step SlotsStand) key f (peer_conn peer) old.node out node = subst (λ o. AnsweredAt (alone_step SlotsStand) key f o old.node out node) is went in
      let (told, ran, said, left) = answer_left (alone_step SlotsStand) old.node.vbs node.vbs out f peer answered.left answered.answered in
      let known = alone_after SlotsStand (peer_answered f peer) old.node.vbs told node.vbs ran plain.vbs stands.slots in
      let put = puts old key (Some answered.left) node answered.conns (ap (λ (x : MemNode). x.number) answered.rest) (ap (λ (x : MemNode). x.dials) answered.rest) in (
        with_slots old node plain (after (peer_answered f peer) plain.vbs).0 known.1 (ap (λ (x : MemNode). x.disks) answered.rest) (clients_stay old key (Some answered.left) node answered.conns (ap (λ c. client_part (Some c)) left) (ap client_part is))
            (off_up old (inside old node) plain.off refl (peer_is_up old plain.off key (live_peer peer) has stands.off) stands.off) stands,
        said ∙ ap peer_out known.0,
        subst (PutsPeer old (inside old node) key) (ap (λ c. peer_part (Some c)) left ∙ ap (λ (t : PeerResult). Some (live_peer t.peer)) known.0) put,
      )

  -- puts frames of its streams
  pub pulls_peer : (frames : ℕ) → PulledAt (alone_step SlotsStand) MemAsks frames key (get old.node.conns key) old.node out node → PullsPeer key frames old out (inside old node)
  pulls_peer frames went plain peer stands has =
      let is = is_peer peer has in
      let pulled : Pulled (alone_step SlotsStand) MemAsks frames key (peer_conn peer) old.node out node = subst (λ o. PulledAt (alone_step SlotsStand) MemAsks frames key o old.node out node) is went in
      let (told, ran, said, left) = pull_left (alone_step SlotsStand) old.node.vbs node.vbs out MemAsks old.node.disks node.disks frames peer pulled.left pulled.pulled in
      let kept = (after_job (peer_pulled frames peer) plain.vbs plain.shelves).0 in
      let known = known_job (peer_pulled frames peer) old.node told node ran plain.vbs stands.slots plain.shelves stands.shelves in
      let put = puts old key (Some pulled.left) node pulled.conns (ap (λ (x : MemNode). x.number) pulled.rest) (ap (λ (x : MemNode). x.dials) pulled.rest) in (
        with_both old node plain kept.0 kept.1 known.1 known.2 (clients_stay old key (Some pulled.left) node pulled.conns (ap (λ c. client_part (Some c)) left) (ap client_part is)) (off_up old (inside old node) plain.off refl (peer_is_up old plain.off key (live_peer peer) has stands.off) stands.off) stands,
        said ∙ ap pull_out known.0,
        subst (PutsPeer old (inside old node) key) (ap (λ c. peer_part (Some c)) left ∙ ap (λ (t : PullResult). Some (live_peer t.peer)) known.0) put,
      )

  -- has a stream's cursor taken away
  pub drops_peer : (v : ℕ) → DroppedAt (alone_step SlotsStand) v (get old.node.conns key) old.node out node → DropsPeer key v old out (inside old node)
  drops_peer v went plain peer stands has =
      let dropped : Dropped (alone_step SlotsStand) v (peer_conn peer) old.node out node = subst (λ o. DroppedAt (alone_step SlotsStand) v o old.node out node) (is_peer peer has) went in
      let known = alone_after SlotsStand (cursor_dropped v peer.producer) old.node.vbs dropped.had node.vbs dropped.ran plain.vbs stands.slots in (
        with_slots old node plain (after (cursor_dropped v peer.producer) plain.vbs).0 known.1 (ap (λ (x : MemNode). x.disks) dropped.rest) (λ k. ap (λ (x : MemNode). client_part (get x.conns k)) dropped.rest)
            (off_up old (inside old node) plain.off refl (peer_is_up old plain.off key (live_peer peer) has stands.off) stands.off) stands,
        dropped.said ∙ ap dropped_out known.0,
        record {
          number = ap (λ (x : MemNode). x.number) dropped.rest;
          peers = λ k. ap (λ (x : MemNode). peer_part (get x.conns k)) dropped.rest;
          dials = λ u. ap (λ (x : MemNode). value_at x.dials u) dropped.rest;
        },
      )

  -- and its connection is closed
  pub shuts_peer : ShutAt (alone_step SlotsStand) key (get old.node.conns key) old.node out node → ShutsPeer key old (inside old node)
  shuts_peer went plain peer stands has =
      let is = is_peer peer has in
      let shut : Shut (alone_step SlotsStand) key (peer_conn peer) old.node out node = subst (λ o. ShutAt (alone_step SlotsStand) key o old.node out node) is went in
      let known = alone_after SlotsStand (end_closed peer.producer) old.node.vbs tt node.vbs shut.closed plain.vbs stands.slots in (
        with_slots old node plain (after (end_closed peer.producer) plain.vbs).0 known.1 (ap (λ (x : MemNode). x.disks) shut.rest) (clients_stay old key None node shut.conns refl (ap client_part is)) (off_up old (inside old node) plain.off refl (peer_is_up old plain.off key (live_peer peer) has stands.off) stands.off) stands,
        puts old key None node shut.conns (ap (λ (x : MemNode). x.number) shut.rest) (ap (λ (x : MemNode). x.dials) shut.rest),
      )

-- bytes for the dial of a vBucket, under no arm
abbrev pub FedDial : ℕ → List ℕ → ScriptNode → NodeOut → ScriptNode → Type 0
FedDial v piece old out new = (plain : PlainNode) (dial : PlainDial) → NodeMatch old plain → dial_under old v ≡ Some (live_dial dial) →
    let (node, told) = dial_given piece dial plain in
    NodeMatch new node × (out ≡ dial_out told) × PutsDial old new v (dial_left told.dial)

-- the dial of a vBucket
module _ (old : ScriptNode) (v : ℕ) (out : NodeOut) (node : MemNode) where
  puts_dial : (dial : Option KeptDial) → node.number ≡ old.node.number → node.conns ≡ old.node.conns → Renumbered old.node.dials node.dials v dial → PutsDial old (inside old node) v dial
  puts_dial dial number conns renumbered = record {
    number = number;
    changed = renumbered.changed;
    others = renumbered.others;
    peers = λ key. ap (λ (s : Slab Conn). peer_part (get s key)) conns;
  }

  same_clients : node.conns ≡ old.node.conns → (k : ℕ) → client_part (get node.conns k) ≡ client_part (get old.node.conns k)
  same_clients conns k = ap (λ (s : Slab Conn). client_part (get s k)) conns

  -- is made
  pub dials_for : (link buffer : ℕ) (takeover is_free : Bool) → Dialed (alone_step SlotsStand) v link buffer takeover is_free old.node out node → DialsFor v link buffer takeover is_free old out (inside old node)
  dials_for link buffer takeover is_free went plain stands up =
      let asked = dial_requested v (is_free && not (is_some (dial_under old v))) in
      let known = alone_after SlotsStand asked old.node.vbs went.said node.vbs went.ran plain.vbs stands.slots in (
        with_slots old node plain (after asked plain.vbs).0 known.1 (ap (λ (x : MemNode). x.disks) went.rest) (same_clients conns) (off_up old (inside old node) plain.off refl up stands.off) stands,
        subst (λ said. DialCame link_dialed said old out (inside old node)) known.0 (by went.said went.dials),
      )
    where
      number : node.number ≡ old.node.number
      number = ap (λ (x : MemNode). x.number) went.rest

      conns : node.conns ≡ old.node.conns
      conns = ap (λ (x : MemNode). x.conns) went.rest

      link_dialed : LinkDialed
      link_dialed = record { link = link; node = node_number old; vb = v; buffer = buffer; takeover = takeover }

      by : (said : Result StreamAsk Cause) → DialedAs link_dialed said old.node.dials out node.dials → DialCame link_dialed said old out (inside old node)
      by (Err why) h = (h.0, record { number = number; peers = λ key. ap (λ (s : Slab Conn). peer_part (get s key)) conns; dials = λ u. ap (λ rows. value_at rows u) h.1 })
      by (Ok ask) h = (h.0, puts_dial _ number conns h.1)

  -- is given bytes
  pub feeds_dial : (piece : List ℕ) → DialFedAt (alone_step SlotsStand) MemAsks v piece (value_at old.node.dials v) old.node out node → FedDial v piece old out (inside old node)
  feeds_dial piece went plain dial stands has =
      let fed : DialFed (alone_step SlotsStand) MemAsks v piece (live_dial dial) old.node out node = subst (λ o. DialFedAt (alone_step SlotsStand) MemAsks v piece o old.node out node) has went in
      let job = dial_bytes piece dial in
      let kept = (after_job job plain.vbs plain.shelves).0 in
      let known = known_job job old.node fed.told node fed.ran plain.vbs stands.slots plain.shelves stands.shelves in
      let conns = ap (λ (x : MemNode). x.conns) fed.rest in (
        with_both old node plain kept.0 kept.1 known.1 known.2 (same_clients conns) (off_up old (inside old node) plain.off refl (dial_is_up old plain.off v (live_dial dial) has stands.off) stands.off) stands,
        fed.said ∙ ap dial_out known.0,
        subst (λ (t : DialResult). PutsDial old (inside old node) v (dial_left t.dial)) known.0 (puts_dial _ (ap (λ (x : MemNode). x.number) fed.rest) conns fed.dials),
      )

  -- acknowledges what is due
  pub dues_dial : DialDueAt (alone_step SlotsStand) v (value_at old.node.dials v) old.node out node → DuesDial v old out (inside old node)
  dues_dial went plain dial stands has =
      let due : DialDue (alone_step SlotsStand) v (live_dial dial) old.node out node = subst (λ o. DialDueAt (alone_step SlotsStand) v o old.node out node) has went in
      let known = alone_after SlotsStand (dial_due dial) old.node.vbs due.told node.vbs due.ran plain.vbs stands.slots in
      let conns = ap (λ (x : MemNode). x.conns) due.rest in (
        with_slots old node plain (after (dial_due dial) plain.vbs).0 known.1 (ap (λ (x : MemNode). x.disks) due.rest) (same_clients conns) (off_up old (inside old node) plain.off refl (dial_is_up old plain.off v (live_dial dial) has stands.off) stands.off) stands,
        due.said ∙ ap (λ (t : DialResult). done_out t.events t.out) known.0,
        subst (λ (t : DialResult). PutsDial old (inside old node) v (Some (live_dial t.dial))) known.0 (puts_dial _ (ap (λ (x : MemNode). x.number) due.rest) conns due.dials),
      )

  -- is let go
  pub cuts_dial : DialShutAt v (value_at old.node.dials v) old.node out node → CutsDial v old out (inside old node)
  cuts_dial went plain dial stands has =
      let shut = subst (λ o. DialShutAt v o old.node out node) has went in
      let conns = ap (λ (x : MemNode). x.conns) shut.2 in (
        with_slots old node plain plain.vbs (subst (λ vbs. SlotsStand vbs plain.vbs) (sym (ap (λ (x : MemNode). x.vbs) shut.2)) stands.slots) (ap (λ (x : MemNode). x.disks) shut.2) (same_clients conns) (off_up old (inside old node) plain.off refl (dial_is_up old plain.off v (live_dial dial) has stands.off) stands.off) stands,
        shut.0,
        puts_dial None (ap (λ (x : MemNode). x.number) shut.2) conns shut.1,
      )
