-- what a peer's connection tells as its producer answers frames, and which calls it makes, whatever the replies of vBuckets
use Rattle.std.specs.Prelude.{◌≡◌}
use Rattle.transcript_law.proofs.Words.{List, [], Event, Frame, VbCall, States, after, begun}
use Rattle.dcp_producer.proofs.Telling.{frame_so}
pub use Rattle.dcp_producer.proofs.Telling.{Asks, Tells, Producer}
use Rattle.dcp_producer.specs.Serving.{frame_answered}
use Rattle.dcp_producer.specs.declared.desk.Desk.{Desk}
use Rattle.node_core.specs.Peers.{PeerResult, PlainPeer, peer_answered}
use Rattle.vb_calls.proofs.Conduct.{after_always, always_bind}
use Rattle.vb_calls.specs.Programs.{AnyReply}

module _ (kind : VbCall → Type 0) (P : List Event → Type 0) (d : Desk) (asks : Asks kind) (tells : Tells P d) where
  -- one frame of a peer's connection
  pub peer_so : (f : Frame) (peer : PlainPeer) (states : States) → P [] → peer.producer.desk ≡ d → let t = (after (peer_answered f peer) states).1 in P t.events × (t.peer.producer.desk ≡ d)
  peer_so f peer states none at =
      let told : PeerResult → Type 0 = λ t. P t.events × (t.peer.producer.desk ≡ d) in
      after_always (λ v made. kind made) told (peer_answered f peer) states
      (always_bind AnyReply (λ v made. kind made) (Producer kind P d asks tells) told (frame_answered f (begun peer.producer)) _ (frame_so kind P d asks tells f (begun peer.producer) (none, at)) (λ s c. c))
