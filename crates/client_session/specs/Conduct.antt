-- what a client's connection does, in the words of its protocol
use Rattle.std.specs.Prelude.{◌≡◌, ℕ, ◌+◌, ◌*◌, ◌^◌, ◌==◌, Bool, not, slice_index, is_some, List, [], ◌∷◌, ◌++◌, drop, map, Option, Some, None, ◌⊎◌, IsTrue, IsFalse}
use Rattle.std.specs.List.{filter, sum_by}
use Rattle.mcbp_frame.specs.Cutting.{front_fault, frames_in, left_of}
use Rattle.mcbp_frame.specs.Frames.{big_32_at, first_frame, frame_len}
use Rattle.mcbp_frame.specs.Spelling.{spelling}
use Rattle.mcbp_frame.specs.declared.frame.Frame.{Frame}
use Rattle.mcbp_frame.specs.declared.frame.FrameFault.{FrameFault}
use Rattle.mcbp_frame.specs.declared.frame.FrameFault.TheVariants.{BadMagic}
use Rattle.mcbp_frame.specs.declared.frame.TheConstants.{RESPONSE}
use Rattle.mcbp_kv.specs.Answers.{bare_answer}
use Rattle.mcbp_kv.specs.Replies.{reply_frame}
use Rattle.mcbp_kv.specs.declared.reply.KvReply.{KvReply}
use Rattle.vb_types.specs.declared.change.Change.{Change}
use Rattle.vb_events.specs.declared.event.Event.{Event}
use Rattle.vb_events.specs.declared.event.Event.TheVariants as event
use Rattle.vb_types.specs.declared.status.Status.TheVariants as status
use Rattle.vb_calls.specs.declared.calls.Resolved.{Resolved}
use Rattle.vb_calls.specs.declared.calls.VbCall.{VbCall}
use Rattle.vb_calls.specs.declared.calls.VbCall.TheVariants as call
use Rattle.vb_calls.specs.Programs.{Prog, Done}
use Rattle.client_session.specs.declared.session.Awaited.{Awaited}
use Rattle.client_session.specs.declared.session.Who.{Who}
use Rattle.client_session.specs.Serving.{Served, served, is_dcp, is_held, bytes_handled, outcome_handled}

-- a client's calls: a document is read, or written while the clock shows this
abbrev pub IsClients : ℕ → ℕ → VbCall → Type 0
IsClients clock v (call.Get key) = Unit {0}
IsClients clock v (call.Store write time) = time ≡ clock
IsClients clock v (call.Durable write time level deadline waiter) = time ≡ clock
IsClients clock v other = ⊥

-- the line that tells of a frame that was sent to the client
abbrev pub sent : Who → Frame → Event
sent who f = event.Reply who.node who.client (spelling f)

-- the line that tells that the connection closed
abbrev pub shut : Who → Event
shut who = event.Closed who.node who.client

-- the lines of a request, which is none of DCP: the changes that it made at the vBucket that it names, and then its one answer, which has its opcode and its opaque
pub record Answered (who : Who) (f : Frame) (lines : List Event) : Type 0 where
  pub own : IsFalse (is_dcp f.opcode)
  pub uuid : ℕ
  pub changes : List Change
  pub reply : KvReply
  pub told : lines ≡ map (event.Changed who.node f.vb_or_status uuid) changes ++ sent who (reply_frame reply) ∷ []
  pub opcode : reply.opcode ≡ f.opcode
  pub opaque : reply.opaque ≡ f.opaque

-- the lines of a request: those of its own answer, or, where it is DCP's, those that its node answered it by
abbrev pub Replied : (Frame → List Event) → Who → Frame → List Event → Type 0
Replied node_lines who f lines = Answered who f lines ⊎ (IsTrue (is_dcp f.opcode) × (lines ≡ node_lines f))

-- the lines of requests, one after the other, each with its own
abbrev pub AllTold : (Who → Frame → List Event → Type 0) → Who → List Frame → List Event → Type 0
AllTold Tells who [] lines = lines ≡ []
AllTold Tells who (f ∷ fs) lines = (first rest : List Event) × (lines ≡ first ++ rest) × Tells who f first × AllTold Tells who fs rest

-- a frame asks, unless it is a response
abbrev pub asks : Frame → Bool
asks f = not (f.magic == RESPONSE)

-- the lines of a fault that bytes begin with: an Einval that repeats byte 1 as opcode and bytes 12 to 15 as opaque, but after a first byte that is not known no answer; and that the connection closed
abbrev pub closing : Who → List ℕ → Option FrameFault → List Event
closing who bytes None = []
closing who bytes (Some BadMagic) = shut who ∷ []
closing who bytes (Some fault) = sent who (reply_frame (bare_answer (slice_index bytes 1) status.Einval (big_32_at bytes 12))) ∷ shut who ∷ []

-- what is kept of the bytes behind the frames: less than a frame
abbrev pub kept : List ℕ → Option FrameFault → List ℕ
kept bytes None = bytes
kept bytes (Some fault) = []

-- an open connection got bytes: the whole frames were answered, each that asks once, in their order, and where a fault stands behind them, it closed with the lines of that fault
pub record HasTaken (Tells : Who → Frame → List Event → Type 0) (bytes : List ℕ) (old new : Served) : Type 0 where
  pub who : new.session.who ≡ old.session.who
  pub lines : List Event
  pub told : new.events ≡ old.events ++ lines ++ closing old.session.who (left_of bytes) (front_fault (left_of bytes))
  pub answered : AllTold Tells old.session.who (filter asks (frames_in bytes)) lines
  pub reader : new.session.reader ≡ kept (left_of bytes) (front_fault (left_of bytes))
  pub closed : new.session.closed ≡ is_some (front_fault (left_of bytes))

-- the lines of a durable write whose outcome is awaited, which is none of DCP: the changes that it made at the vBucket that it names; the answer will have its opcode and its opaque
pub record Begun (who : Who) (f : Frame) (a : Awaited) (lines : List Event) : Type 0 where
  pub own : IsFalse (is_dcp f.opcode)
  pub uuid : ℕ
  pub changes : List Change
  pub told : lines ≡ map (event.Changed who.node f.vb_or_status uuid) changes
  pub opcode : a.opcode ≡ f.opcode
  pub opaque : a.opaque ≡ f.opaque

-- an open connection got bytes: the frames in front of a durable write were answered, each that asks once, in their order, and the outcome of that is awaited; of the bytes those behind it are kept, as they came
pub record HasHalted (Tells : Who → Frame → List Event → Type 0) (bytes : List ℕ) (a : Awaited) (old new : Served) : Type 0 where
  pub who : new.session.who ≡ old.session.who
  pub front : List Frame
  pub f : Frame
  pub behind : List Frame
  pub frames : frames_in bytes ≡ front ++ f ∷ behind
  pub asked : IsTrue (asks f)
  pub lines : List Event
  pub made : List Event
  pub told : new.events ≡ old.events ++ lines ++ made
  pub answered : AllTold Tells old.session.who (filter asks front) lines
  pub begun : Begun old.session.who f a made
  pub waiter : a.waiter ≡ old.session.who.base * 2 ^ 32 + new.session.used
  pub reader : new.session.reader ≡ drop (sum_by frame_len (front ++ f ∷ [])) bytes
  pub closed : IsFalse new.session.closed

-- an open connection got bytes: the frames in front of a request of DCP were answered, each that asks once, in their order, and that one was handed up; of the bytes those behind it are kept, as they came
pub record HasHanded (Tells : Who → Frame → List Event → Type 0) (bytes : List ℕ) (f : Frame) (old new : Served) : Type 0 where
  pub who : new.session.who ≡ old.session.who
  pub front : List Frame
  pub behind : List Frame
  pub frames : frames_in bytes ≡ front ++ f ∷ behind
  pub asked : IsTrue (asks f)
  pub dcp : IsTrue (is_dcp f.opcode)
  pub lines : List Event
  pub told : new.events ≡ old.events ++ lines
  pub answered : AllTold Tells old.session.who (filter asks front) lines
  pub reader : new.session.reader ≡ drop (sum_by frame_len (front ++ f ∷ [])) bytes
  pub closed : IsFalse new.session.closed

-- an open connection that was not held got bytes, and now awaits this, or handed this up, or neither
abbrev pub Took : (Who → Frame → List Event → Type 0) → List ℕ → Option Awaited → Option Frame → Served → Served → Type 0
Took Tells bytes None None old new = HasTaken Tells bytes old new
Took Tells bytes (Some a) None old new = HasHalted Tells bytes a old new
Took Tells bytes None (Some f) old new = HasHanded Tells bytes f old new
Took Tells bytes (Some a) (Some f) old new = ⊥

-- a connection is closed, awaits an outcome or the answer to a frame that it handed up, or has less than a frame
abbrev pub Waits : Served → Type 0
Waits s = IsTrue s.session.closed ⊎ (IsTrue (is_held s) ⊎ (first_frame s.session.reader ≡ None))

-- what comes to a connection while its node's clock shows so many nanoseconds: bytes, what became of a durable write, or that its node answered the frame that it handed up
pub data Came : Type 0 where
  Piece : ℕ → List ℕ → Came
  Outcome : ℕ → Resolved → Came
  Passed : ℕ → Came

-- a frame that was handed up was answered by these lines, and the connection goes on; where none was handed up nothing happens
abbrev pub passed_by : ℕ → (Frame → List Event) → Served → Option Frame → Prog Served
passed_by clock node_lines s None = Done s
passed_by clock node_lines s (Some f) = bytes_handled clock [] (served s.session (s.events ++ node_lines f))

-- the connection takes it, where these are the lines by which its node answers a frame of DCP
abbrev pub came_handled : (Frame → List Event) → Came → Served → Prog Served
came_handled node_lines (Piece clock bytes) s = bytes_handled clock bytes s
came_handled node_lines (Outcome clock r) s = outcome_handled clock r s
came_handled node_lines (Passed clock) s = passed_by clock node_lines s s.dcp

-- the bytes of what came
abbrev pub bytes_of : Came → List ℕ
bytes_of (Piece clock bytes) = bytes
bytes_of (Outcome clock r) = []
bytes_of (Passed clock) = []

-- a client's call, whatever the clock shows
abbrev pub IsAnyClients : ℕ → VbCall → Type 0
IsAnyClients v c = (clock : ℕ) × IsClients clock v c
