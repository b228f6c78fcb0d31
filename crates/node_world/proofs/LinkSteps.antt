-- lines for links, at the nodes that keep their ends
use Rattle.std.proofs.Common.{◌≡◌, ℕ, Bool, true, false, List, ◌++◌, get_or, set, take, drop, refl, ap, sym, ◌∙◌, subst, Option, Some, None, is_some}
use Rattle.std.specs.Prelude.{◌==◌, if◌then◌else◌}
use Rattle.std.specs.List.{position}
use Rattle.vb_events.specs.declared.event.Cause.TheVariants as cause
use Rattle.vb_events.specs.declared.event.Answer.{Answer}
use Rattle.vb_events.specs.declared.event.EndReason.{EndReason}
use Rattle.vb_events.specs.declared.event.EndReason.TheVariants as reason
use Rattle.vb_calls.specs.Jobs.{after_job}
use Rattle.vb_calls.specs.Programs.{after}
use Rattle.vb_calls.specs.Shelves.{Shelves}
use Rattle.vb_calls.specs.States.{States}
use Rattle.dcp_consumer.specs.declared.handshake.Dialed.{Dialed}
use Rattle.dcp_consumer.specs.Machine.{over_why}
use Rattle.dcp_producer.specs.declared.desk.Desk.{Desk}
use Rattle.node_core.specs.declared.out.NodeOut.{NodeOut}
use Rattle.node_core.specs.Dials.{DialResult, dial_bytes}
use Rattle.node_core.specs.Outcomes.{live_dial}
use Rattle.node_core.specs.Outs.{dial_answer}
use Rattle.node_core.specs.Peers.{PlainPeer, PullResult, peer_pulled}
use Rattle.node_world.specs.declared.link.Link.{Link}
use Rattle.script_text.specs.declared.verb.LinkVerb.{LinkVerb}
use Rattle.script_text.specs.declared.verb.LinkVerb.TheVariants as link_verb
use Rattle.node_world.specs.declared.script_node.ScriptNode.{ScriptNode}
use Rattle.node_world.specs.declared.told.Told.{Told}
use Rattle.node_world.specs.Cuts.{closed_at}
use Rattle.node_world.specs.Ends.{peer_under, dial_under, KeepsEnds, PutsPeer, PutsDial, FeedsPeer, PullsPeer, DropsPeer, ShutsPeer, FeedsDial, CutsDial, KeepsOthers, SameKeys, LinkLeft, LinkStep, Unlinks}
use Rattle.node_world.specs.Arms.{placed, under_arm}
use Rattle.node_world.specs.Lines.{answer_if, moved_if, out_told, end_line}
use Rattle.node_world.specs.World.{down_in}
use Rattle.node_world.specs.Links.{PlainLink, LinkResult, producer_node, peer_of, dial_of, moved, moved_len, up_at, with_down, left_unless, down_answer, down_at, peer_given, pump_at, drop_at}
use Rattle.node_world.specs.Nodes.{PlainNode, refusal}
use Rattle.node_world.specs.Stands.{node_number, NodeMatch, NodesStand, live_peer, Ends, ends_of, LinkStands}
use Rattle.node_world.specs.Worlds.{PlainWorld, with_node_if}
use Rattle.node_world.proofs.Keeping.{given_desk, pulled_desk, fed_dialed}
use Rattle.node_world.proofs.PullReads.{peer_job}
use Rattle.node_world.proofs.Places.{no_peer, no_dial, plain_at, peer_here, dial_here, step_stands, same_stands, if_stands, peers_stay, dials_stay, peer_put, peers_but, dial_put, dials_but}

-- a link keeps its keys
keys_kept : (link : Link) (up down : List ℕ) → SameKeys link (record link { up = up; down = down })
keys_kept link up down = record { number = refl; producer = refl; conn = refl; node = refl; vb = refl }

-- the node at an end is not made: no link has such an end
pub unmade_producer : (asked : LinkVerb) (nodes : List ScriptNode) (link : Link) (told : Told) (over : Bool) → position (λ node. node_number node == link.producer) nodes ≡ None → LinkStep asked nodes link told over nodes link
unmade_producer asked nodes link told over none = record {
  keys = keys_kept link link.up link.down;
  came = λ w plain stands ends. let no : None ≡ Some (live_peer (peer_of plain)) = sym (no_peer nodes link.producer link.conn none) ∙ ends.server in cc;
}

pub unmade_consumer : (asked : LinkVerb) (nodes : List ScriptNode) (link : Link) (told : Told) (over : Bool) → position (λ node. node_number node == link.node) nodes ≡ None → LinkStep asked nodes link told over nodes link
unmade_consumer asked nodes link told over none = record {
  keys = keys_kept link link.up link.down;
  came = λ w plain stands ends. let no : None ≡ Some (live_dial (dial_of plain)) = sym (no_dial nodes link.node link.vb none) ∙ ends.consumer in cc;
}

-- a link whose producer made this of a line
made_stand : (before after : Ends) (link : Link) (plain : PlainLink) (peer : PlainPeer) (up up' down down' : List ℕ) → peer.producer.desk ≡ plain.server.desk → after.peers link.producer link.conn ≡ Some (live_peer peer)
    → after.dials link.node link.vb ≡ before.dials link.node link.vb → up ≡ up' → down ≡ down' → LinkStands before link plain
    → LinkStands after (record link { up = up; down = down }) (record plain { server = peer.producer; up_heard = peer.heard; up = up'; down = down' })
made_stand before after link plain peer up up' down down' desk server consumer up_is down_is s = record {
  number = s.number;
  producer = s.producer ∙ sym (ap (λ (d : Desk). d.node) desk);
  node = s.node;
  vb = s.vb;
  server = server;
  consumer = consumer ∙ s.consumer;
  up = up_is;
  down = down_is;
}

-- the node at the producer's end
module _ (nodes : List ScriptNode) (at : ℕ) (old new : ScriptNode) (link : Link) (placed : position (λ node. node_number node == link.producer) nodes ≡ Some at) (is : old ≡ get_or nodes at old) where
  abbrev nodes' : List ScriptNode
  nodes' = set nodes at new

  has_peer : (plain : PlainLink) → LinkStands (ends_of nodes) link plain → peer_under old link.conn ≡ Some (live_peer (peer_of plain))
  has_peer plain ends = sym (peer_here nodes link.producer at old new placed is link.conn) ∙ ends.server

  others_kept : (peer : _) → PutsPeer old new link.conn peer → KeepsOthers link (ends_of nodes) (ends_of nodes')
  others_kept peer puts = record {
    peers = peers_but nodes link.producer at old new placed is puts.number link.conn peer puts;
    dials = λ n v away. dials_stay nodes link.producer at old new placed is puts.number puts.dials n v;
  }

  -- a line there, by what it makes of each node that the kept one stands for
  abbrev Went : PlainLink → Told → Link → PlainNode × LinkResult → Type 0
  Went plain told link' x = NodeMatch new x.0 × (told ≡ x.1.1) × LinkLeft (ends_of nodes') link' plain false x.1.0

  stepped : (w : PlainWorld) (plain : PlainLink) (f : PlainNode → PlainNode × LinkResult) (told : Told) (link' : Link) → node_number new ≡ node_number old → LinkStands (ends_of nodes) link plain → NodesStand nodes w
      → ((node : PlainNode) → NodeMatch old node → Went plain told link' (f node))
      → NodesStand nodes' (end_line w (producer_node plain) plain f).0 × (told ≡ (end_line w (producer_node plain) plain f).1.1) × LinkLeft (ends_of nodes') link' plain false (end_line w (producer_node plain) plain f).1.0
  stepped w plain f told link' number ends stands step =
      let known = step_stands nodes link.producer at old new placed is number w (Some plain, refusal cause.UnknownNode) f (λ t. (told ≡ t.1) × LinkLeft (ends_of nodes') link' plain false t.0) stands
      (λ node alike. let went = step node alike in (went.0, (went.1, went.2))) in
      subst (λ n. NodesStand nodes' (end_line w n plain f).0 × (told ≡ (end_line w n plain f).1.1) × LinkLeft (ends_of nodes') link' plain false (end_line w n plain f).1.0) ends.producer (known.0, known.1.0, known.1.1)

  -- `up L B`
  module _ (wanted : ℕ) (out : NodeOut) (up down : List ℕ) (fed : FeedsPeer link.conn (take (moved_len wanted link.up) link.up) old out new) (up_is : up ≡ drop (moved_len wanted link.up) link.up) (down_is : down ≡ link.down ++ out.out) where
    abbrev upward : Link
    upward = record link { up = up; down = down }

    abbrev up_said : Told
    up_said = moved (moved_len wanted link.up) out.events

    fed_as : (plain : PlainLink) → LinkStands (ends_of nodes) link plain → FeedsPeer link.conn (take (moved_len wanted plain.up) plain.up) old out new
    fed_as plain ends = subst (λ queue. FeedsPeer link.conn (take (moved_len wanted queue) queue) old out new) ends.up fed

    up_one : (plain : PlainLink) → LinkStands (ends_of nodes) link plain → (node : PlainNode) → NodeMatch old node → Went plain up_said upward (up_at wanted plain node)
    up_one plain ends node alike =
        let piece = take (moved_len wanted plain.up) plain.up in
        let (stands, said, puts) = fed_as plain ends node (peer_of plain) alike (has_peer plain ends) in
        let told = (peer_given piece (peer_of plain) node).1 in (
          stands,
          (λ i. moved (moved_len wanted (ends.up i)) ((said i).events)),
          (
            refl,
            made_stand (ends_of nodes) (ends_of nodes') link plain told.peer up (drop (moved_len wanted plain.up) plain.up) down (plain.down ++ told.out) (given_desk piece (peer_of plain) node)
                (peer_put nodes link.producer at old new placed is puts.number link.conn _ puts) (dials_stay nodes link.producer at old new placed is puts.number puts.dials link.node link.vb)
                (up_is ∙ ap (λ queue. drop (moved_len wanted queue) queue) ends.up) (down_is ∙ (λ i. ends.down i ++ (said i).out)) ends,
          ),
        )

    pub up_step : LinkStep (link_verb.Up wanted) nodes link up_said false nodes' upward
    up_step = record {
      keys = keys_kept link up down;
      came = λ w plain stands ends.
          let (node, there, alike) = plain_at nodes link.producer at old new placed is w stands in
          let puts = (fed_as plain ends node (peer_of plain) alike (has_peer plain ends)).2 in
          let known = stepped w plain (up_at wanted plain) up_said upward puts.number ends stands (up_one plain ends) in
          record { stands = known.0; others = others_kept _ puts; said = known.1; left = known.2 };
    }

  -- `pump L K`
  module _ (frames : ℕ) (out : NodeOut) (down : List ℕ) (pulled : PullsPeer link.conn frames old out new) (down_is : down ≡ link.down ++ out.out) where
    abbrev pumped : Link
    pumped = record link { up = link.up; down = down }

    pump_one : (plain : PlainLink) → LinkStands (ends_of nodes) link plain → (node : PlainNode) → NodeMatch old node → Went plain (out_told out) pumped (pump_at frames plain node)
    pump_one plain ends node alike =
        let (stands, said, puts) = pulled node (peer_of plain) alike (has_peer plain ends) in
        let told = (after_job (peer_pulled frames (peer_of plain)) node.vbs node.shelves).1 in (
          stands,
          ap out_told said,
          (
            refl,
            made_stand (ends_of nodes) (ends_of nodes') link plain told.peer link.up plain.up down (plain.down ++ told.out) (ap (λ (x : (States × Shelves) × PullResult). x.1.peer.producer.desk) (peer_job frames (peer_of plain) node.vbs node.shelves) ∙ pulled_desk frames (peer_of plain) node.shelves node.vbs)
                (peer_put nodes link.producer at old new placed is puts.number link.conn _ puts) (dials_stay nodes link.producer at old new placed is puts.number puts.dials link.node link.vb)
                ends.up (down_is ∙ (λ i. ends.down i ++ (said i).out)) ends,
          ),
        )

    pub pump_step : LinkStep (link_verb.Pump frames) nodes link (out_told out) false nodes' pumped
    pump_step = record {
      keys = keys_kept link link.up down;
      came = λ w plain stands ends.
          let (node, there, alike) = plain_at nodes link.producer at old new placed is w stands in
          let puts = (pulled node (peer_of plain) alike (has_peer plain ends)).2 in
          let known = stepped w plain (pump_at frames plain) (out_told out) pumped puts.number ends stands (pump_one plain ends) in
          record { stands = known.0; others = others_kept _ puts; said = known.1; left = known.2 };
    }

  -- `drop L`
  module _ (out : NodeOut) (dropped : DropsPeer link.conn link.vb old out new) where
    -- all ends stay, so this peer is as it was
    puts_same : KeepsEnds old new → PutsPeer old new link.conn (peer_under old link.conn)
    puts_same keeps = record { number = keeps.number; changed = keeps.peers link.conn; others = λ other differs. keeps.peers other; dials = keeps.dials }

    drops_as : (plain : PlainLink) → LinkStands (ends_of nodes) link plain → DropsPeer link.conn plain.consumer.dialed.vb old out new
    drops_as plain ends = subst (λ v. DropsPeer link.conn v old out new) ends.vb dropped

    drop_one : (plain : PlainLink) → LinkStands (ends_of nodes) link plain → (node : PlainNode) → NodeMatch old node → Went plain (out_told out) link (drop_at plain node)
    drop_one plain ends node alike =
        let (stands, said, keeps) = drops_as plain ends node (peer_of plain) alike (has_peer plain ends) in
        let puts = puts_same keeps in (
          stands,
          ap out_told said,
          (
            refl,
            record {
              number = ends.number;
              producer = ends.producer;
              node = ends.node;
              vb = ends.vb;
              server = peer_put nodes link.producer at old new placed is puts.number link.conn _ puts ∙ has_peer plain ends;
              consumer = dials_stay nodes link.producer at old new placed is puts.number puts.dials link.node link.vb ∙ ends.consumer;
              up = ends.up;
              down = ends.down;
            },
          ),
        )

    pub drop_step : LinkStep link_verb.Drop nodes link (out_told out) false nodes' link
    drop_step = record {
      keys = keys_kept link link.up link.down;
      came = λ w plain stands ends.
          let (node, there, alike) = plain_at nodes link.producer at old new placed is w stands in
          let puts = puts_same (drops_as plain ends node (peer_of plain) alike (has_peer plain ends)).2 in
          let known = stepped w plain (drop_at plain) (out_told out) link puts.number ends stands (drop_one plain ends) in
          record { stands = known.0; others = others_kept _ puts; said = known.1; left = known.2 };
    }

  -- its connection there is closed
  module _ (shut : ShutsPeer link.conn old new) where
    pub unlinks : Unlinks link nodes nodes'
    unlinks w plain stands producer has =
        let has_here : peer_under old link.conn ≡ Some (live_peer (peer_of plain)) = sym (peer_here nodes link.producer at old new placed is link.conn) ∙ has in
        let (node, there, alike) = plain_at nodes link.producer at old new placed is w stands in
        let puts = (shut node (peer_of plain) alike has_here).1 in
        record {
          stands = subst (λ n. NodesStand nodes' (with_node_if n (closed_at plain) w)) producer
              (if_stands nodes link.producer at old new placed is puts.number w (closed_at plain) stands (λ x same. (shut x (peer_of plain) same has_here).0));
          gone = peer_put nodes link.producer at old new placed is puts.number link.conn None puts;
          others = peers_but nodes link.producer at old new placed is puts.number link.conn None puts;
          dials = dials_stay nodes link.producer at old new placed is puts.number puts.dials;
        }

-- no link has a producer at a node that is not made
pub unmade_unlinks : (nodes : List ScriptNode) (link : Link) → position (λ node. node_number node == link.producer) nodes ≡ None → Unlinks link nodes nodes
unmade_unlinks nodes link none w plain stands producer has = let no : None ≡ Some (live_peer (peer_of plain)) = sym (no_peer nodes link.producer link.conn none) ∙ has in cc

-- the node at the consumer's end
module _ (nodes : List ScriptNode) (at : ℕ) (old new : ScriptNode) (link : Link) (is_placed : position (λ node. node_number node == link.node) nodes ≡ Some at) (is : old ≡ get_or nodes at old) where
  abbrev nodes'' : List ScriptNode
  nodes'' = set nodes at new

  has_dial : (plain : PlainLink) → LinkStands (ends_of nodes) link plain → dial_under old link.vb ≡ Some (live_dial (dial_of plain))
  has_dial plain ends = sym (dial_here nodes link.node at old new is_placed is link.vb) ∙ ends.consumer

  others_stay : (dial : _) → PutsDial old new link.vb dial → KeepsOthers link (ends_of nodes) (ends_of nodes'')
  others_stay dial puts = record {
    peers = λ n key away. peers_stay nodes link.node at old new is_placed is puts.number puts.peers n key;
    dials = dials_but nodes link.node at old new is_placed is puts.number link.vb dial puts;
  }

  -- `down L B`
  module _ (wanted : ℕ) (out : NodeOut) (up down : List ℕ) (fed : FeedsDial link.vb (take (moved_len wanted link.down) link.down) old out new) (down_is : down ≡ drop (moved_len wanted link.down) link.down) (up_is : up ≡ link.up ++ out.out) where
    abbrev downward : Link
    downward = record link { up = up; down = down }

    abbrev down_said : Told
    down_said = moved_if (moved_len wanted link.down) out

    -- what is answered of the bytes
    answers : (n : ℕ) (why : Option EndReason) → answer_if n (dial_answer why) ≡ down_answer n why
    answers n None = refl
    answers n (Some reason.Disk) = refl
    answers n (Some other) = refl

    taken_as : (plain : PlainLink) → LinkStands (ends_of nodes) link plain → FeedsDial link.vb (take (moved_len wanted plain.down) plain.down) old out new
    taken_as plain ends = subst (λ queue. FeedsDial link.vb (take (moved_len wanted queue) queue) old out new) ends.down fed

    -- the link goes on, or it is over
    either : (plain : PlainLink) → LinkStands (ends_of nodes) link plain → (told : DialResult) → told.dial.consumer.dialed ≡ plain.consumer.dialed → (over : Option EndReason) → out.closed ≡ is_some over
        → (ends_of nodes'').dials link.node link.vb ≡ (if is_some over then None else Some (live_dial told.dial)) → (ends_of nodes'').peers link.producer link.conn ≡ (ends_of nodes).peers link.producer link.conn
        → up ≡ plain.up ++ told.out → down ≡ drop (moved_len wanted plain.down) plain.down
        → LinkLeft (ends_of nodes'') downward plain out.closed (left_unless over (with_down plain (moved_len wanted plain.down) told))
    either plain ends told dialed None closed dial peer ups downs = (
      closed,
      record {
        number = ends.number ∙ sym (ap (λ (d : Dialed). d.link) dialed);
        producer = ends.producer;
        node = ends.node ∙ sym (ap (λ (d : Dialed). d.node) dialed);
        vb = ends.vb ∙ sym (ap (λ (d : Dialed). d.vb) dialed);
        server = peer ∙ ends.server;
        consumer = dial;
        up = ups;
        down = downs;
      },
    )
    either plain ends told dialed (Some why) closed dial peer ups downs = (closed, dial, peer ∙ ends.server)

    -- what it makes of the plain node and link
    abbrev Downs : PlainLink → PlainNode × LinkResult → Type 0
    Downs plain x = NodeMatch new x.0 × (down_said ≡ x.1.1) × LinkLeft (ends_of nodes'') downward plain out.closed x.1.0

    down_one : (plain : PlainLink) → LinkStands (ends_of nodes) link plain → (node : PlainNode) → NodeMatch old node → Downs plain (down_in wanted plain node)
    down_one plain ends node alike =
        let piece = take (moved_len wanted plain.down) plain.down in
        let (stands, said, puts) = taken_as plain ends node (dial_of plain) alike (has_dial plain ends) in
        let told = (after_job (dial_bytes piece (dial_of plain)) node.vbs (placed link.vb node).shelves).1 in
        subst (λ v. Downs plain (under_arm v (down_at wanted plain) node)) ends.vb (
          stands,
          (λ i. moved_if (moved_len wanted (ends.down i)) (said i))
              ∙ ap (λ (a : Answer). record { events = told.events; answer = a }) (answers (moved_len wanted plain.down) (over_why told.dial.consumer.handshake)),
          either plain ends told (fed_dialed piece (dial_of plain) node.vbs (placed link.vb node).shelves) (over_why told.dial.consumer.handshake) (ap (λ (o : NodeOut). o.closed) said)
              (dial_put nodes link.node at old new is_placed is puts.number link.vb _ puts) (peers_stay nodes link.node at old new is_placed is puts.number puts.peers link.producer link.conn)
              (up_is ∙ (λ i. ends.up i ++ (said i).out)) (down_is ∙ ap (λ queue. drop (moved_len wanted queue) queue) ends.down),
        )

    pub down_step : LinkStep (link_verb.Down wanted) nodes link down_said out.closed nodes'' downward
    down_step = record {
      keys = keys_kept link up down;
      came = λ w plain stands ends.
          let (node, there, alike) = plain_at nodes link.node at old new is_placed is w stands in
          let puts = (taken_as plain ends node (dial_of plain) alike (has_dial plain ends)).2 in
          let known = step_stands nodes link.node at old new is_placed is puts.number w (Some plain, refusal cause.UnknownNode) (down_in wanted plain)
          (λ t. (down_said ≡ t.1) × LinkLeft (ends_of nodes'') downward plain out.closed t.0) stands (λ x same. let one = down_one plain ends x same in (one.0, (one.1, one.2))) in
          let all = subst (λ n. NodesStand nodes'' (end_line w n plain (down_in wanted plain)).0
          × ((down_said ≡ (end_line w n plain (down_in wanted plain)).1.1) × LinkLeft (ends_of nodes'') downward plain out.closed (end_line w n plain (down_in wanted plain)).1.0)) ends.node known in
          record { stands = all.0; others = others_stay _ puts; said = all.1.0; left = all.1.1 };
    }

  -- `cut L`
  module _ (out : NodeOut) (cut : CutsDial link.vb old out new) where
    pub cut_step : LinkStep link_verb.Cut nodes link (out_told out) true nodes'' link
    cut_step = record {
      keys = keys_kept link link.up link.down;
      came = λ w plain stands ends.
          let (node, there, alike) = plain_at nodes link.node at old new is_placed is w stands in
          let (same, said, puts) = cut node (dial_of plain) alike (has_dial plain ends) in
          record {
            stands = same_stands nodes link.node at old new is_placed is puts.number w stands (λ x also. (cut x (dial_of plain) also (has_dial plain ends)).0);
            others = others_stay None puts;
            said = ap out_told said;
            left = (refl, dial_put nodes link.node at old new is_placed is puts.number link.vb None puts, peers_stay nodes link.node at old new is_placed is puts.number puts.peers link.producer link.conn ∙ ends.server);
          };
    }

-- the same lines, by what their parts tell
module _ (nodes : List ScriptNode) (at : ℕ) (old new : ScriptNode) (link : Link) (wanted n : ℕ) (piece : List ℕ) (out : NodeOut) (up down : List ℕ) (told : Told) (is : old ≡ get_or nodes at old) where
  pub up_line : position (λ node. node_number node == link.producer) nodes ≡ Some at → n ≡ moved_len wanted link.up → piece ≡ take n link.up → FeedsPeer link.conn piece old out new → up ≡ drop n link.up → down ≡ link.down ++ out.out
      → told ≡ moved n out.events → (over : Bool) → over ≡ false → LinkStep (link_verb.Up wanted) nodes link told over (set nodes at new) (record link { up = up; down = down })
  up_line placed len taken fed up_is down_is said over going =
      let fed' = subst (λ q. FeedsPeer link.conn q old out new) (taken ∙ ap (λ k. take k link.up) len) fed in
      subst (λ t. LinkStep (link_verb.Up wanted) nodes link t over (set nodes at new) (record link { up = up; down = down })) (sym (said ∙ ap (λ k. moved k out.events) len))
      (subst (λ b. LinkStep (link_verb.Up wanted) nodes link (moved (moved_len wanted link.up) out.events) b (set nodes at new) (record link { up = up; down = down })) (sym going)
      (up_step nodes at old new link placed is wanted out up down fed' (up_is ∙ ap (λ k. drop k link.up) len) down_is))

  pub down_line : position (λ node. node_number node == link.node) nodes ≡ Some at → n ≡ moved_len wanted link.down → piece ≡ take n link.down → FeedsDial link.vb piece old out new → down ≡ drop n link.down → up ≡ link.up ++ out.out
      → told ≡ moved_if n out → LinkStep (link_verb.Down wanted) nodes link told out.closed (set nodes at new) (record link { up = up; down = down })
  down_line placed len taken fed down_is up_is said =
      let fed' = subst (λ q. FeedsDial link.vb q old out new) (taken ∙ ap (λ k. take k link.down) len) fed in
      subst (λ t. LinkStep (link_verb.Down wanted) nodes link t out.closed (set nodes at new) (record link { up = up; down = down })) (sym (said ∙ ap (λ k. moved_if k out) len))
      (down_step nodes at old new link placed is wanted out up down fed' (down_is ∙ ap (λ k. drop k link.down) len) up_is)

module _ (nodes : List ScriptNode) (at : ℕ) (old new : ScriptNode) (link : Link) (frames : ℕ) (out : NodeOut) (down : List ℕ) (told : Told) (is : old ≡ get_or nodes at old) where
  pub pump_line : position (λ node. node_number node == link.producer) nodes ≡ Some at → PullsPeer link.conn frames old out new → down ≡ link.down ++ out.out → told ≡ out_told out → (over : Bool) → over ≡ false
      → LinkStep (link_verb.Pump frames) nodes link told over (set nodes at new) (record link { up = link.up; down = down })
  pump_line placed pulled down_is said over going =
      subst (λ t. LinkStep (link_verb.Pump frames) nodes link t over (set nodes at new) (record link { up = link.up; down = down })) (sym said)
      (subst (λ b. LinkStep (link_verb.Pump frames) nodes link (out_told out) b (set nodes at new) (record link { up = link.up; down = down })) (sym going)
      (pump_step nodes at old new link placed is frames out down pulled down_is))

module _ (nodes : List ScriptNode) (at : ℕ) (old new : ScriptNode) (link : Link) (out : NodeOut) (told : Told) (is : old ≡ get_or nodes at old) where
  pub drop_line : position (λ node. node_number node == link.producer) nodes ≡ Some at → DropsPeer link.conn link.vb old out new → told ≡ out_told out → (over : Bool) → over ≡ false → LinkStep link_verb.Drop nodes link told over (set nodes at new) link
  drop_line placed dropped said over going =
      subst (λ t. LinkStep link_verb.Drop nodes link t over (set nodes at new) link) (sym said)
      (subst (λ b. LinkStep link_verb.Drop nodes link (out_told out) b (set nodes at new) link) (sym going) (drop_step nodes at old new link placed is out dropped))
