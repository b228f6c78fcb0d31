-- a pull that asks everybody: for each frame each stream is asked anew, also one that put none before, in words beside the definitions
use Rattle.std.specs.Prelude.{ℕ, zero, suc, ◌≡◌, ◌≢◌, ◌⊎◌, ◌≤◌, ◌==◌, true, false, if◌then◌else◌, List, [], ◌∷◌, map, Option, Some, None}
use Rattle.mcbp_dcp.specs.DcpFrames.{dcp_frame}
use Rattle.vb_events.specs.declared.event.StreamName.{StreamName}
use Rattle.vb_calls.specs.declared.stream.Stream.{Stream}
use Rattle.vb_calls.specs.Plain.{Plain}
use Rattle.vb_calls.specs.States.{States, with_vb_at}
use Rattle.vb_calls.specs.Streams.{memory_from, stream_at}
use Rattle.vb_calls.specs.Jobs.{Job, Ended, bind_job, after_reads}
use Rattle.vb_calls.specs.Shelves.{Shelves}
use Rattle.flow_control.specs.Windows.{is_open}
use Rattle.dcp_producer.specs.declared.halt.Halt.{Halt}
use Rattle.dcp_producer.specs.declared.halt.Halt.TheVariants as halt
use Rattle.dcp_producer.specs.declared.next_frame.NextFrame.TheVariants as next
use Rattle.dcp_producer.specs.declared.next_frame.Waits.{Waits}
use Rattle.dcp_producer.specs.declared.next_frame.Waits.TheVariants as waits
use Rattle.dcp_producer.specs.Frames.{Next, next_frame, read_up}
use Rattle.dcp_producer.specs.Producers.{PlainStream, Served}
use Rattle.dcp_producer.specs.Pulling.{end_put, first_wait, frame_put, frames_put, halt_of, stream_went}
use Rattle.dcp_producer.specs.Turns.{turns_of}

-- the place behind the stream of a number, in the order in which they were opened
abbrev pub place_behind : ℕ → List PlainStream → ℕ
place_behind id [] = 0
place_behind id (stream ∷ more) = if stream.id == id then 1 else suc (place_behind id more)

-- a stream has its turn: the next one is that of the stream behind it
abbrev pub turn_behind : PlainStream → Served → Served
turn_behind stream s = record s { end = record s.end { turn = place_behind stream.id s.end.streams } }

-- the connection behind the turns for one frame, and why none was put, where none was
abbrev pub Tries : Type 0
Tries = Job (Served × Option Halt)

-- a stream that was asked goes on: its frame, or its end, is put, and nobody else is asked for this one; or the pull ends, as its journal can't be read; or it has none now, and those behind it are asked, who are told what those so far wait for
abbrev pub answered : Next → Waits → Served → (Waits → Served → Tries) → Tries
answered (next.Put m line, left) for s behind = Ended (frame_put (dcp_frame m left.opaque left.vb) line (stream_went left s), None)
answered (next.End reason, left) for s behind = Ended (end_put left reason (stream_went left s), None)
answered (next.Disk, left) for s behind = Ended (stream_went left s, Some halt.Disk)
answered (next.Quiet also, left) for s behind = behind (first_wait for also) (stream_went left s)

-- these streams are asked for one frame, one after the other, until one puts it; where none does, that is since one of them waits for the answer to a state, or next for what is to be saved, or they have none
abbrev pub each_asked : List PlainStream → Waits → Served → Tries
each_asked [] for s = Ended (s, Some (halt_of for))
each_asked (stream ∷ more) for s = bind_job (next_frame s.end.desk.stream stream) (λ next. answered next for (turn_behind stream s) (λ for' s'. each_asked more for' s'))

-- a frame was put, and the pull goes on, or none was, and it ends
abbrev pub tried : (Served → Job (Served × Halt)) → Served × Option Halt → Job (Served × Halt)
tried on (s, None) = on s
tried on (s, Some halted) = Ended (s, halted)

-- a pull of so many frames: for each one the window first, and then everybody in turn, from the stream behind that of the last turn
abbrev pub all_asked : ℕ → Served → Job (Served × Halt)
all_asked zero s = Ended (s, halt.All)
all_asked (suc k) s = if is_open s.end.window then bind_job (each_asked (turns_of s.end) waits.Nothing s) (tried (λ s'. all_asked k s')) else Ended (s, halt.Full)

-- over plain vBuckets and plain journals it makes no difference that a pull does not ask again who was quiet: the same frames go out, with the same lines, the same connection and the same vBuckets are left, and it says the same of why no more was put
abbrev pub IsAsIfAllAsked : ℕ → Served → States → Shelves → Type 0
IsAsIfAllAsked k s states shelves = after_reads (frames_put k s) shelves states ≡ after_reads (all_asked k s) shelves states

-- the vBucket of a stream that has no cursor there, and is served from memory: it has one now, and all else is as it was
pub record GivesCursor (stream : PlainStream) (states behind : States) : Type 0 where
  pub vb : Plain
  pub vb_is : states stream.vb ≡ Some vb
  pub open_one : (s : Stream) × (stream_at stream.id vb.streams ≡ Some s) × (s.cursor ≡ false) × (memory_from vb ≤ s.place)
  pub given : behind ≡ with_vb_at states stream.vb (record vb { streams = map (λ (s : Stream). if s.id == stream.id then record s { cursor = true } else s) vb.streams })

-- the reasons: a stream that is quiet leaves all vBuckets and itself as they are, but that what was to be read of a backfill was read, and for a cursor that its vBucket gave it; asked again it is quiet in the same way, and changes nothing at all, as long as its own vBucket is the one that it left; and whatever a stream's turn comes to, it changes no other vBucket
pub record StaysQuiet (name : StreamName) (stream : PlainStream) (states : States) (shelves : Shelves) : Type 0 where
  pub still : (for : Waits) (behind : States) (left : PlainStream) → after_reads (next_frame name stream) shelves states ≡ (behind, (next.Quiet for, left))
      → ((left ≡ stream) ⊎ (left ≡ read_up stream)) × ((behind ≡ states) ⊎ GivesCursor stream states behind)
  pub again : (for : Waits) (behind : States) (left : PlainStream) → after_reads (next_frame name stream) shelves states ≡ (behind, (next.Quiet for, left))
      → (now : States) → now stream.vb ≡ behind stream.vb → after_reads (next_frame name left) shelves now ≡ (now, (next.Quiet for, left))
  pub apart : (v : ℕ) → v ≢ stream.vb → (after_reads (next_frame name stream) shelves states).0 v ≡ states v
