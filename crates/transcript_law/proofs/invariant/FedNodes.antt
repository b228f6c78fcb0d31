-- what a producer's node and its link are behind frames: each stream is others', or the link's own, or a client's
use Rattle.std.specs.Prelude.{◌∷◌, ◌⊎◌}
use Rattle.transcript_law.proofs.Words.{ℕ, List, [], sym, subst, inl, inr, ⊎_elim, take, Frame, States, after, after_bind, Done, begun, frame_answered, frames_put, PlainLink, PlainNode, PeerResult, PullResult, peer_result, pull_result, peer_pulled, peer_of, moved_len, with_states}
use Rattle.transcript_law.proofs.invariant.{FedClients.{ClientHas, Conns, NodeFed, posts_keep}, OpenPulls.{puts_keep}, Openings.{Holds, frame_keeps}, OpenStreams.{AreKept}}
use Rattle.transcript_law.specs.Feeding.{HasOpen}
use Rattle.dcp_producer.specs.Producers.{PlainProducer}
use Rattle.node_core.specs.Peers.{PlainPeer, peer_answered, peer_frames, peer_heard}
use Rattle.node_world.specs.Links.{frame_up, frames_up, untold_peer}
use Rattle.vb_calls.proofs.JobReadings.{after_reads_bind}
use Rattle.vb_calls.specs.Jobs.{Ended, after_reads}

module _ (others : ℕ → ℕ → Type 0) where
  -- each stream of a vBucket is others', this producer's, or a client's
  abbrev pub LinkFed : PlainProducer → States → Conns → Type 0
  LinkFed producer vbs clients = NodeFed (λ v id. others v id ⊎ HasOpen v id producer.streams) vbs clients

  -- beside this producer's are those of others and of clients
  abbrev Beside : Conns → ℕ → ℕ → Type 0
  Beside clients v id = others v id ⊎ ClientHas clients v id

  own : (producer : PlainProducer) (vbs : States) (clients : Conns) → LinkFed producer vbs clients → AreKept producer → Holds (Beside clients) vbs producer
  own producer vbs clients fed kept = (λ v id h. ⊎_elim (λ x. ⊎_elim (λ o. inl (inl o)) (λ has. inr has) x) (λ has. inl (inr has)) (fed.owned v id h), kept)

  fed_again : (producer producer' : PlainProducer) (vbs vbs' : States) (clients : Conns) → LinkFed producer vbs clients → Holds (Beside clients) vbs' producer' → LinkFed producer' vbs' clients
  fed_again producer producer' vbs vbs' clients fed held = record { owned = λ v id h. ⊎_elim (λ x. ⊎_elim (λ o. inl (inl o)) (λ has. inr has) x) (λ has. inl (inr has)) (held.0 v id h); kept = fed.kept }

  -- one frame
  answered : (f : Frame) (peer : PlainPeer) (states : States) (clients : Conns) → LinkFed peer.producer states clients → AreKept peer.producer
      → let x = after (peer_answered f peer) states in LinkFed x.1.peer.producer x.0 clients × AreKept x.1.peer.producer
  answered f peer states clients fed kept =
      subst (λ (x : States × PeerResult). LinkFed x.1.peer.producer x.0 clients × AreKept x.1.peer.producer) (sym (after_bind (frame_answered f (begun peer.producer)) (λ s. Done (peer_result peer.heard s)) states))
      (let held = frame_keeps (Beside clients) f (begun peer.producer) states (own peer.producer states clients fed kept) in let x = after (frame_answered f (begun peer.producer)) states in
      (fed_again peer.producer x.1.end states x.0 clients fed held, held.1))

  -- and the outcomes that are posted with it
  frames : (fs : List Frame) (came : PlainNode × PeerResult) → LinkFed came.1.peer.producer came.0.vbs came.0.clients → AreKept came.1.peer.producer
      → let x = frames_up fs came in LinkFed x.1.peer.producer x.0.vbs x.0.clients
  frames [] came fed kept = fed
  frames (f ∷ fs) came fed kept =
      let x = after (peer_answered f came.1.peer) came.0.vbs in let now = answered f came.1.peer came.0.vbs came.0.clients fed kept in
      frames fs (frame_up f came) (posts_keep x.1.resolved (with_states came.0 x.0) (λ v id. others v id ⊎ HasOpen v id x.1.peer.producer.streams) now.0) now.1

  -- the bytes of a link for its producer
  pub up_held : (wanted : ℕ) (link : PlainLink) (node : PlainNode) → LinkFed link.server node.vbs node.clients → AreKept link.server
      → let piece = take (moved_len wanted link.up) link.up in let x = frames_up (peer_frames piece (peer_of link)) (node, untold_peer (peer_heard piece (peer_of link))) in
      LinkFed x.1.peer.producer x.0.vbs x.0.clients
  up_held wanted link node fed kept =
      let piece : List ℕ = take (moved_len wanted link.up) link.up in
      frames (peer_frames piece (peer_of link)) (node, untold_peer (peer_heard piece (peer_of link))) fed kept

  -- and the frames that it puts
  pub pump_held : (n : ℕ) (link : PlainLink) (node : PlainNode) → LinkFed link.server node.vbs node.clients → AreKept link.server
      → let x = after_reads (peer_pulled n (peer_of link)) node.shelves node.vbs in LinkFed x.1.peer.producer x.0 node.clients
  pump_held n link node fed kept =
      subst (λ (x : States × PullResult). LinkFed x.1.peer.producer x.0 node.clients) (sym (after_reads_bind (frames_put n (begun link.server)) (λ put. Ended (pull_result link.up_heard put)) node.shelves node.vbs))
      (let held = puts_keep (Beside node.clients) node.shelves n (begun link.server) node.vbs (own link.server node.vbs node.clients fed kept) in let x = after_reads (frames_put n (begun link.server)) node.shelves node.vbs in
      fed_again link.server x.1.0.end node.vbs x.0 node.clients fed held)
