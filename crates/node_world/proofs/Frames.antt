-- the frames of a link's consumer, each answered, and what became of durable writes with it told, before the next
use Rattle.std.proofs.Common.{◌≡◌, ℕ, ◌+◌, ◌<◌, List, [], ◌++◌, drop, get_or, length, sym, ap, ◌∙◌, subst, Option, Some}
use Rattle.std.proofs.lemmas.List.{drop_more}
use Rattle.mcbp_frame.specs.declared.frame.Frame.{Frame}
use Rattle.vb_events.specs.declared.event.Event.{Event}
use Rattle.vb_calls.specs.Programs.{after}
use Rattle.vb_calls.specs.States.{States}
use Rattle.node_core.specs.declared.out.NodeOut.{NodeOut}
use Rattle.node_core.specs.Outs.{done_out}
use Rattle.node_core.specs.Peers.{KeptPeer, PlainPeer, PeerResult, peer_answered, peer_heard}
use Rattle.node_world.specs.declared.script_node.ScriptNode.{ScriptNode}
use Rattle.node_world.specs.Ends.{AnswersPeer, FeedsPeer, KeepsEnds, PostsAll, PutsPeer, peer_under}
use Rattle.node_world.specs.Links.{frames_up, frame_posted, peer_given, untold_peer}
use Rattle.node_world.specs.Nodes.{PlainNode, all_posted, with_states}
use Rattle.node_world.specs.Stands.{NodeMatch, live_peer}
use Rattle.node_world.proofs.Peers.{AnswersFrame, HearsPeer}

-- a peer under its key, where all ends stay then
puts_kept : (old mid new : ScriptNode) (key : ℕ) (peer : Option KeptPeer) → PutsPeer old mid key peer → KeepsEnds mid new → PutsPeer old new key peer
puts_kept old mid new key peer puts keeps = record {
  number = keeps.number ∙ puts.number;
  changed = keeps.peers key ∙ puts.changed;
  others = λ other ne. keeps.peers other ∙ puts.others other ne;
  dials = λ v. keeps.dials v ∙ puts.dials v;
}

-- and where another peer is under it then
puts_again : (old mid new : ScriptNode) (key : ℕ) (peer peer' : Option KeptPeer) → PutsPeer old mid key peer → PutsPeer mid new key peer' → PutsPeer old new key peer'
puts_again old mid new key peer peer' first second = record {
  number = second.number ∙ first.number;
  changed = second.changed;
  others = λ other ne. second.others other ne ∙ first.others other ne;
  dials = λ v. second.dials v ∙ first.dials v;
}

-- a frame was answered, and then what became of durable writes was told
pub answers_peer : (key : ℕ) (f : Frame) (old mid new : ScriptNode) (out came : NodeOut) (lines : List Event) → AnswersFrame key f old out mid → PostsAll out.resolved mid out.events new lines
    → came ≡ record out { events = lines; resolved = [] } → AnswersPeer key f old came new
answers_peer key f old mid new out came lines first (more, is, posts) says plain peer stands has =
    let (alike, said, puts) = first plain peer stands has in
    let x : States × PeerResult = after (peer_answered f peer) plain.vbs in
    let told : PeerResult = x.1 in
    let node : PlainNode = with_states plain x.0 in
    let (after_all, lines_are, keeps) = subst (λ rs. NodeMatch new (all_posted rs node).0 × (more ≡ (all_posted rs node).1) × KeepsEnds mid new) (ap (λ (o : NodeOut). o.resolved) said) (posts node alike) in
    let all : List Event = (all_posted told.resolved node).1 in (
      after_all,
      says ∙ (λ i. record (said i) { events = (is ∙ (λ k. (said k).events ++ lines_are k)) i; resolved = [] }),
      puts_kept old mid new key _ puts keeps,
    )

-- so many frames were answered: the node stands for one, and its peer for one, from which the others come to the same
pub record UpSoFar (frames : List Frame) (key : ℕ) (piece : List ℕ) (plain : PlainNode) (peer : PlainPeer) (i : ℕ) (events : List Event) (bytes : List ℕ) (old self : ScriptNode) : Type 0 where
  pub now : PlainNode
  pub at : PlainPeer
  pub stands : NodeMatch self now
  pub rest : peer_given piece peer plain ≡ frames_up (drop i frames) (now, record { peer = at; events = events; out = bytes; resolved = [] })
  pub puts : PutsPeer old self key (Some (live_peer at))

abbrev pub FramesSoFar : List Frame → ℕ → List ℕ → ScriptNode → ℕ → List Event → List ℕ → ScriptNode → Type 0
FramesSoFar frames key piece old i events bytes self = (plain : PlainNode) (peer : PlainPeer) → NodeMatch old plain → peer_under old key ≡ Some (live_peer peer) → UpSoFar frames key piece plain peer i events bytes old self

module _ (frames : List Frame) (key : ℕ) (piece : List ℕ) (old : ScriptNode) where
  -- its bytes were heard
  pub none_up : (mid : ScriptNode) (events : List Event) (bytes : List ℕ) → HearsPeer key piece old frames mid → events ≡ [] → bytes ≡ [] → FramesSoFar frames key piece old 0 events bytes mid
  none_up mid events bytes hears no_events no_bytes plain peer stands has =
      let (alike, are, puts) = hears plain peer stands has in
      record {
        now = plain;
        at = peer_heard piece peer;
        stands = alike;
        rest = ap (λ fs. frames_up fs (plain, untold_peer (peer_heard piece peer))) (sym are) ∙ (λ i. frames_up frames (plain, record { peer = peer_heard piece peer; events = sym no_events i; out = sym no_bytes i; resolved = [] }));
        puts = puts;
      }

  -- one more
  pub one_up : (i : ℕ) (d : Frame) → i < length frames → (events : List Event) (bytes : List ℕ) (self self' : ScriptNode) (out : NodeOut) → FramesSoFar frames key piece old i events bytes self → AnswersPeer key (get_or frames i d) self out self'
      → FramesSoFar frames key piece old (i + 1) (events ++ out.events) (bytes ++ out.out) self'
  one_up i d lt events bytes self self' out so_far went plain peer stands has =
      let s = so_far plain peer stands has in
      let f : Frame = get_or frames i d in
      let x : PlainNode × PeerResult = frame_posted f s.at s.now in
      let (alike, said, puts) = went s.now s.at s.stands s.puts.changed in
      record {
        now = x.0;
        at = x.1.peer;
        stands = alike;
        rest = s.rest ∙ ap (λ fs. frames_up fs (s.now, record { peer = s.at; events = events; out = bytes; resolved = [] })) (drop_more frames i d lt)
            ∙ (λ k. frames_up (drop (i + 1) frames) (x.0, record { peer = x.1.peer; events = events ++ (sym said k).events; out = bytes ++ (sym said k).out; resolved = [] }));
        puts = puts_again old self self' key _ _ s.puts puts;
      }

  -- all were answered
  pub all_up : (i : ℕ) (events : List Event) (bytes : List ℕ) (self : ScriptNode) (out : NodeOut) → drop i frames ≡ [] → FramesSoFar frames key piece old i events bytes self → out ≡ done_out events bytes → FeedsPeer key piece old out self
  all_up i events bytes self out none so_far says plain peer stands has =
      let s = so_far plain peer stands has in
      let last : PlainNode × PeerResult = (s.now, record { peer = s.at; events = events; out = bytes; resolved = [] }) in
      let all : peer_given piece peer plain ≡ last = s.rest ∙ ap (λ fs. frames_up fs last) none in
      subst (λ (x : PlainNode × PeerResult). NodeMatch self x.0 × (out ≡ done_out x.1.events x.1.out) × PutsPeer old self key (Some (live_peer x.1.peer))) (sym all) (s.stands, says, s.puts)
