-- pieces of bytes that a peer's connection and a dial are given, and bytes that begin no frame, in other words
use Rattle.std.specs.Prelude.{◌≡◌, ℕ, List, [], ◌++◌, map, Some, None}
use Rattle.std.specs.List.{All, concat}
use Rattle.dcp_producer.specs.declared.desk.Desk.{Desk}
use Rattle.dcp_consumer.specs.Machine.{over_why}
use Rattle.mcbp_frame.specs.Cutting.{front_fault, frames_in}
use Rattle.mcbp_frame.specs.Spelling.{Readable, spelling}
use Rattle.mcbp_frame.specs.declared.frame.Frame.{Frame}
use Rattle.mcbp_frame.specs.declared.frame.FrameFault.{FrameFault}
use Rattle.vb_calls.specs.Jobs.{Ended}
use Rattle.vb_events.specs.declared.event.EndReason.TheVariants as reason
use Rattle.node_core.specs.Dials.{PlainDial, DialResult, dial_bytes}
use Rattle.node_core.specs.EndingLaws.{IsOverFor}
use Rattle.node_core.specs.Peers.{PlainPeer, new_peer, peer_frames, peer_heard}

-- what a peer sent begins with bytes that begin no frame, whatever follows
abbrev pub IsFaulty : PlainPeer → Type 0
IsFaulty peer = (fault : FrameFault) × (front_fault peer.heard ≡ Some fault)

-- no frame of a peer is answered behind bytes that begin none, of a later piece or of the same one, of which the frames before them are; these bytes are kept
pub record StopsAtFaults : Type 0 where
  pub later : (piece : List ℕ) (peer : PlainPeer) → IsFaulty peer → (peer_frames piece peer ≡ []) × IsFaulty (peer_heard piece peer)
  pub before : (desk : Desk) (frames : List Frame) (rest : List ℕ) (fault : FrameFault) → All Readable frames → front_fault rest ≡ Some fault
      → (peer_frames (concat (map spelling frames) ++ rest) (new_peer desk) ≡ frames) × ((peer_heard (concat (map spelling frames) ++ rest) (new_peer desk)).heard ≡ rest)

-- a peer's bytes come to the same in one piece and in two; less than a frame is kept, and nothing else of the peer changes before a frame is answered
pub record JoinsPieces : Type 0 where
  pub frames : (one other : List ℕ) (peer : PlainPeer) → peer_frames (one ++ other) peer ≡ peer_frames one peer ++ peer_frames other (peer_heard one peer)
  pub left : (one other : List ℕ) (peer : PlainPeer) → peer_heard (one ++ other) peer ≡ peer_heard other (peer_heard one peer)
  pub kept : (piece : List ℕ) (peer : PlainPeer) → peer_frames piece peer ≡ [] → (peer_heard piece peer).heard ≡ peer.heard ++ piece
  pub same : (piece : List ℕ) (peer : PlainPeer) → (peer_heard piece peer).producer ≡ peer.producer

-- a dial that is not over, to which no whole frame came: the bytes are kept, and nothing is told or written; where they begin no frame, the link is over, and writes nothing
pub record WaitsForFrames : Type 0 where
  pub kept : (piece : List ℕ) (dial : PlainDial) → over_why dial.consumer.handshake ≡ None → frames_in (dial.heard ++ piece) ≡ [] → front_fault (dial.heard ++ piece) ≡ None
      → dial_bytes piece dial ≡ Ended (record { dial = record { heard = dial.heard ++ piece; consumer = dial.consumer }; events = []; out = [] })
  pub faulty : (piece : List ℕ) (dial : PlainDial) (fault : FrameFault) → over_why dial.consumer.handshake ≡ None → frames_in (dial.heard ++ piece) ≡ [] → front_fault (dial.heard ++ piece) ≡ Some fault
      → (told : DialResult) × (dial_bytes piece dial ≡ Ended told) × IsOverFor reason.Protocol told × (told.out ≡ [])
