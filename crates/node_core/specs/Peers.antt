-- a peer's connection: what comes of the bytes that it is given and of the frames that it is asked for
use Rattle.std.specs.Prelude.{ℕ, Bool, List, [], ◌++◌}
use Rattle.mcbp_frame.specs.Cutting.{frames_in, left_of}
use Rattle.mcbp_frame.specs.declared.frame.Frame.{Frame}
use Rattle.vb_events.specs.declared.event.Answer.{Answer}
use Rattle.vb_events.specs.declared.event.Answer.TheVariants.{Pulled}
use Rattle.vb_events.specs.declared.event.Event.{Event}
use Rattle.vb_calls.specs.declared.calls.Resolved.{Resolved}
use Rattle.vb_calls.specs.Jobs.{Job, Ended, bind_job}
use Rattle.vb_calls.specs.Programs.{Prog, Done, bind}
use Rattle.dcp_producer.specs.declared.desk.Desk.{Desk}
use Rattle.dcp_producer.specs.declared.halt.Halt.{Halt}
use Rattle.dcp_producer.specs.Producers.{PlainProducer, Served, begun, new_end}
use Rattle.dcp_producer.specs.Serving.{frame_answered}
use Rattle.dcp_producer.specs.Pulling.{frames_put, why_of}
use Rattle.dcp_producer.specs.Ending.{ended_by}

-- a peer's connection: the bytes that came and are no whole frame yet, and the producer of its streams
pub record PlainPeer : Type 0 where
  pub heard : List ℕ
  pub producer : PlainProducer

-- a peer's connection as it is kept; it is spent once memory was short for it
pub record KeptPeer : Type 0 where
  pub plain : PlainPeer
  pub spent : Bool

-- a new connection
abbrev pub new_peer : Desk → PlainPeer
new_peer desk = record { heard = []; producer = new_end desk }

-- what a peer's frame comes to: the connection after it, the lines that tell of it, the bytes for the peer, and what became of durable writes that are waited for
pub record PeerResult : Type 0 where
  pub peer : PlainPeer
  pub events : List Event
  pub out : List ℕ
  pub resolved : List Resolved

-- what was told of a frame, with these bytes left
abbrev pub peer_result : List ℕ → Served → PeerResult
peer_result heard s = record { peer = record { heard = heard; producer = s.end }; events = s.events; out = s.out; resolved = s.resolved }

-- the next bytes from a peer: what is left of them behind the frames that are whole now
abbrev pub peer_heard : List ℕ → PlainPeer → PlainPeer
peer_heard piece peer = record peer { heard = left_of (peer.heard ++ piece) }

-- these frames
abbrev pub peer_frames : List ℕ → PlainPeer → List Frame
peer_frames piece peer = frames_in (peer.heard ++ piece)

-- one of them is answered
abbrev pub peer_answered : Frame → PlainPeer → Prog PeerResult
peer_answered f peer = bind (frame_answered f (begun peer.producer)) (λ s. Done (peer_result peer.heard s))

-- what frames of streams come to: how many were put and why no more, beside what bytes come to
pub record PullResult : Type 0 where
  pub peer : PlainPeer
  pub events : List Event
  pub out : List ℕ
  pub answer : Answer

-- what was told of frames that were put
abbrev pub pull_result : List ℕ → Served × Halt → PullResult
pull_result heard (s, halt) = record { peer = record { heard = heard; producer = s.end }; events = s.events; out = s.out; answer = Pulled s.count (why_of halt) }

-- at most so many frames of a peer's streams
abbrev pub peer_pulled : ℕ → PlainPeer → Job PullResult
peer_pulled frames peer = bind_job (frames_put frames (begun peer.producer)) (λ put. Ended (pull_result peer.heard put))

-- the connection, where a change of role at the vBucket v ended the streams of these numbers
abbrev pub peer_ended : ℕ → List ℕ → PlainPeer → PlainPeer
peer_ended v ids peer = record peer { producer = ended_by v ids peer.producer }
