-- lines of a link's producer tell of that link's stream alone, and of clients, whatever the replies of vBuckets
use Rattle.std.specs.Prelude.{◌≡◌, ◌∷◌}
use Rattle.transcript_law.proofs.Words.{ℕ, Bool, true, List, [], refl, sym, subst, take, map, Event, Change, Frame, LogEntry, Role, StreamAsk, StreamName, PlainLink, PlainNode, after}
use Rattle.transcript_law.proofs.Words.{peer_of, moved_len, pump_at, up_at, with_states}
use Rattle.dcp_producer.specs.declared.desk.Desk.{Desk}
use Rattle.node_core.specs.Peers.{PeerResult, PlainPeer, peer_answered, peer_frames, peer_heard}
use Rattle.node_world.specs.{Links.{frame_posted, frame_up, frames_up, untold_peer}, Nodes.{all_posted}}
use Rattle.transcript_law.proofs.lines.{ClientLines.{AllKept, posts_kept}}
use Rattle.transcript_law.proofs.verbs.Tellings.{Are, are_cons, are_map, are_more, are_posts}
use Rattle.transcript_law.specs.Plainness.{IsOfClient}
use Rattle.vb_types.specs.declared.stream.AskAnswer.{AskAnswer}
use Rattle.transcript_law.proofs.lines.{Answering.{Tells, peer_so}, Calm.{AnyKind, asks_any, takes_any}, Pulling.{Lines, pulled_so}}
use Rattle.dcp_producer.specs.Frames.{act_sent}

module _ (q : Event → Bool) (d : Desk) where
  -- ---- what comes up

  module _ (asks : (v : ℕ) (ask : StreamAsk) (high : ℕ) (log : List LogEntry) (said : AskAnswer) → q (Event.Asked d.stream d.node v ask high log said) ≡ true)
      (counts : (v member seq : ℕ) → q (Event.Counted d.stream d.node v member seq) ≡ true) (clients : (line : Event) → IsOfClient d.node line → q line ≡ true) where
    tells : Tells (Are q) d
    tells = record {
      more = are_more q;
      asked = λ v ask high log said. are_cons q (Event.Asked d.stream d.node v ask high log said) [] (asks v ask high log said) refl;
      counted = λ link v member seq uuid changes. are_cons q (Event.Counted d.stream d.node v member seq) (map (Event.Changed d.node v uuid) changes) (counts v member seq)
          (are_map q (Event.Changed d.node v uuid) changes (λ x. clients (Event.Changed d.node v uuid x) refl));
    }

    -- one frame, and the outcomes that are posted with it
    abbrev Peer : PeerResult → Type 0
    Peer t = Are q t.events × (t.peer.producer.desk ≡ d)

    posted_so : (f : Frame) (peer : PlainPeer) (node : PlainNode) → AllKept d.node node → peer.producer.desk ≡ d → Peer (frame_posted f peer node).1
    posted_so f peer node kept e =
        let x = after (peer_answered f peer) node.vbs in
        let p : Peer x.1 = peer_so AnyKind (Are q) d asks_any tells f peer node.vbs refl e in
        (are_more q x.1.events (all_posted x.1.resolved (with_states node x.0)).1 p.0 (are_posts q d.node clients x.1.resolved (with_states node x.0) kept), p.1)

    frames_so : (fs : List Frame) (came : PlainNode × PeerResult) → AllKept d.node came.0 → Peer came.1 → Peer (frames_up fs came).1
    frames_so [] came kept c = c
    frames_so (f ∷ fs) came kept c =
        let p = posted_so f came.1.peer came.0 kept c.1 in let x = after (peer_answered f came.1.peer) came.0.vbs in
        frames_so fs (frame_up f came) (posts_kept d.node x.1.resolved (with_states came.0 x.0) kept) (are_more q came.1.events (frame_posted f came.1.peer came.0).1.events c.0 p.0, p.1)

    pub up_so : (wanted : ℕ) (link : PlainLink) (node : PlainNode) → AllKept d.node node → link.server.desk ≡ d → Are q (up_at wanted link node).1.1.events
    up_so wanted link node kept e =
        let piece : List ℕ = take (moved_len wanted link.up) link.up in
        (frames_so (peer_frames piece (peer_of link)) (node, untold_peer (peer_heard piece (peer_of link))) kept (refl, e)).0

  -- ---- what is put

  module _ (marks : (start end flags : ℕ) → q (Event.Marked d.stream start end flags) ≡ true) (items : (c : Change) → q (Event.Item d.stream c.seq (act_sent c.act) c.key) ≡ true)
      (ends : (reason : ℕ) → q (Event.Finished d.stream reason) ≡ true) (states : (told : Role) → q (Event.Stated d.stream told) ≡ true) where
    -- a line of the desk's stream passes
    abbrev Passes : StreamName → Event → Type 0
    Passes name line = name ≡ d.stream → q line ≡ true

    passes : Lines Passes
    passes = record {
      items = λ name c e. subst (λ n. q (Event.Item n c.seq (act_sent c.act) c.key) ≡ true) (sym e) (items c);
      markers = λ name start end flags e. subst (λ n. q (Event.Marked n start end flags) ≡ true) (sym e) (marks start end flags);
      ends = λ name reason e. subst (λ n. q (Event.Finished n reason) ≡ true) (sym e) (ends reason);
      states = λ name told e. subst (λ n. q (Event.Stated n told) ≡ true) (sym e) (states told);
    }

    pub pump_so : (frames : ℕ) (link : PlainLink) (node : PlainNode) → link.server.desk ≡ d → Are q (pump_at frames link node).1.1.events
    pump_so frames link node e =
        pulled_so AnyKind Passes takes_any passes (Are q) d (λ lines line is a. are_more q lines (line ∷ []) a (are_cons q line [] (is refl) refl)) (λ t. Are q t.events) (λ heard put c. c) frames (peer_of link) node.vbs node.shelves refl e
