-- what holds of the window of a link's producer, by what is on its way over the link
use Rattle.std.specs.Prelude.{◌≡◌, ℕ, ◌+◌, ◌<◌, ◌≤◌, ◌^◌, ◌++◌, ◌⊎◌, List, [], ◌∷◌}
use Rattle.std.specs.List.{sum_by}
use Rattle.std.proofs.Common.{subst, sym, inl, inr}
use Rattle.mcbp_frame.specs.declared.frame.Frame.{Frame}
use Rattle.mcbp_frame.specs.Cutting.{frames_in}
use Rattle.mcbp_dcp.specs.DcpFrames.{dcp_frame}
use Rattle.dcp_consumer.specs.Dialing.{buffer_request}
use Rattle.dcp_consumer.specs.declared.handshake.Dialed.{Dialed}
use Rattle.node_world.specs.Links.{PlainLink}
use Rattle.node_world.specs.Worlds.{PlainWorld}
use Rattle.transcript_law.specs.Balance.{acknowledged_by, longest, stream_len}
use Rattle.transcript_law.proofs.invariant.Agreement.{IsLink}
use Rattle.transcript_law.proofs.balance.{Measures.{over}, Rooms.{Room, no_room, room_of}}

-- how a link was dialed and with which opaque its consumer asks, its buffer, its producer's window, and the bytes on its ways
pub record Flow : Type 0 where
  pub dialed : Dialed
  pub asked : ℕ
  pub buffer : ℕ
  pub window : Room
  pub up_heard : List ℕ
  pub up : List ℕ
  pub down_heard : List ℕ
  pub down : List ℕ

abbrev pub flow_of : PlainLink → Flow
flow_of link = record { dialed = link.consumer.dialed; asked = link.consumer.asked; buffer = link.consumer.dialed.buffer; window = room_of link.server; up_heard = link.up_heard; up = link.up; down_heard = link.down_heard; down = link.down }

-- the request for a window of this size
abbrev pub size_frame : ℕ → Frame
size_frame buffer = dcp_frame (buffer_request buffer) 2 0

-- one of the frames
abbrev pub Has : Frame → List Frame → Type 0
Has f [] = ⊥
Has f (g ∷ gs) = (g ≡ f) ⊎ Has f gs

pub has_more : (f : Frame) (gs more : List Frame) → Has f gs → Has f (gs ++ more)
has_more f [] more h = absurd h
has_more f (g ∷ gs) more (inl same) = inl same
has_more f (g ∷ gs) more (inr later) = inr (has_more f gs more later)

-- a window has the size that its consumer asks for; or nothing went through it, and it is still asked
abbrev pub WindowIs : ℕ → Room → List Frame → Type 0
WindowIs buffer w asked = (w.size ≡ buffer) ⊎ ((w ≡ no_room) × Has (size_frame buffer) asked)

-- so much is outstanding as is counted and acknowledged, and never more than the buffer and a frame
pub record Holds (buffer : ℕ) (w : Room) (counted : ℕ) (asked : List Frame) : Type 0 where
  pub balance : w.outstanding ≡ counted + sum_by acknowledged_by asked
  pub window : WindowIs buffer w asked
  pub below : w.outstanding < buffer + longest

-- there is a buffer, and one acknowledgement can tell all that may be outstanding
pub record Buffered (buffer : ℕ) : Type 0 where
  pub some : 0 < buffer
  pub fits : buffer + longest ≤ 2 ^ 32

-- so it is of the bytes of a link that has such a buffer
abbrev pub LevelOf : Flow → Type 0
LevelOf x = Buffered x.buffer → Holds x.buffer x.window (over stream_len (x.down_heard ++ x.down)) (frames_in (x.up_heard ++ x.up))

-- of a link
abbrev pub Level : PlainLink → Type 0
Level link = LevelOf (flow_of link)

-- and of all links
abbrev pub AllLevel : PlainWorld → Type 0
AllLevel w = (x : PlainLink) → IsLink x w.links → Level x

-- each link is one that was there before, whose bytes flow as they did
abbrev pub FlowOn : List PlainLink → List PlainLink → Type 0
FlowOn links links' = (x : PlainLink) → IsLink x links' → (y : PlainLink) × IsLink y links × (flow_of x ≡ flow_of y)

pub level_on : (w w' : PlainWorld) → FlowOn w.links w'.links → AllLevel w → AllLevel w'
level_on w w' on all x i = let (y, j, same) = on x i in subst LevelOf (sym same) (all y j)
