-- what a client's messages of DCP are answered; what its requests for streams are answered, lines tell
use Rattle.std.specs.Prelude.{◌≡◌, ℕ, ◌==◌, ◌&&◌, ◌||◌, Bool, true, false, if◌then◌else◌, nat_le, nat_lt, List, codes, drop, length, Option, Some, None, is_some}
use Rattle.std.specs.List.{sum_by}
use Rattle.std.specs.Str.{bytes_eq}
use Rattle.dcp_producer.specs.Sizes.{size_of}
use Rattle.mcbp_dcp.specs.DcpFrames.{dcp_frame}
use Rattle.mcbp_dcp.specs.declared.message.DcpMsg.{DcpMsg}
use Rattle.mcbp_dcp.specs.declared.message.DcpMsg.TheVariants as msg
use Rattle.mcbp_dcp.specs.declared.shape.TheConstants.{MAX_NAME}
use Rattle.mcbp_frame.specs.Cutting.{frames_in}
use Rattle.mcbp_frame.specs.Frames.{frame_len}
use Rattle.mcbp_frame.specs.declared.frame.Frame.{Frame}
use Rattle.mcbp_kv.specs.Answers.{IsBare}
use Rattle.vb_types.specs.Statuses.{status_code}
use Rattle.vb_types.specs.declared.role.LogEntry.{LogEntry}
use Rattle.vb_types.specs.declared.role.Role.{Role}
use Rattle.vb_types.specs.declared.status.Status.{Status}
use Rattle.vb_types.specs.declared.status.Status.TheVariants as status
use Rattle.transcript_law.specs.ClientFrames.{message_of, setup_after}
use Rattle.transcript_law.specs.ClientStreams.{unclosed}
use Rattle.transcript_law.specs.LinesTold.{Chronicle}
use Rattle.transcript_law.specs.Questions.{Question, in_front}
use Rattle.transcript_law.specs.StreamLaws.{IsIfKnown}
use Rattle.transcript_law.specs.StreamsTold.{Asking, ClientKnown, ClientStream, Setup}

-- a request is refused with this status, or answered by it alone
abbrev pub IsStatus : Frame → Frame → Status → Type 0
IsStatus f g st = IsBare g f.opcode (status_code st) f.opaque

-- ---- when a frame is asked

-- what the frames before it set; its connection's stream of the vBucket in its header, as the last line told of it, unless one of those frames closed it; whether a line told of the frame itself; and how many durable writes were answered before
pub record Moment : Type 0 where
  pub setup : Setup
  pub stream : Option ClientStream
  pub told : Bool
  pub durables : ℕ

-- the bytes from a question on
abbrev pub bytes_from : Question → List ℕ → List ℕ
bytes_from q bytes = drop (sum_by frame_len q.before) bytes

-- so it is for a question. Where a line told of it, it is the last request for a stream that was told, and fewer bytes are known behind that than from the question on
abbrev pub moment_of : ClientKnown → Asking → Question → Moment
moment_of known asking q = record {
  setup = setup_after asking.setup q.before;
  stream = unclosed (frames_in (in_front (bytes_from q asking.bytes) known.bytes)) known.streams q.frame.vb_or_status;
  told = nat_lt (length known.bytes) (length (bytes_from q asking.bytes));
  durables = asking.durables;
}

-- ---- OPEN

-- the flag 1, for a producer, opens the connection; without any it would be a consumer, which is not supported. Other flags are not known, and an open connection is opened no more
abbrev pub open_status : Bool → ℕ → Status
open_status true flags = status.Einval
open_status false flags = if flags == 1 then status.Success else if flags == 0 then status.NotSupported else status.Einval

-- ---- CONTROL

-- a value is a flag: true or false
abbrev pub is_flag : List ℕ → Bool
is_flag value = bytes_eq value (codes "true") || bytes_eq value (codes "false")

-- or a name, of 1 to 250 bytes
abbrev pub is_a_name : List ℕ → Bool
is_a_name value = nat_le 1 (length value) && nat_le (length value) MAX_NAME

-- or a size: a decimal number within 32 bits
abbrev pub is_size : List ℕ → Bool
is_size value = is_some (size_of value)

-- each key that is known has a value of its form
abbrev pub is_control : List ℕ → List ℕ → Bool
is_control key value =
    if bytes_eq key (codes "connection_buffer_size") then is_size value
    else if bytes_eq key (codes "enable_sync_writes") then is_flag value
    else if bytes_eq key (codes "consumer_name") then is_a_name value
    else if bytes_eq key (codes "enable_noop") then is_flag value
    else if bytes_eq key (codes "set_noop_interval") then is_size value
    else false

abbrev pub control_status : List ℕ → List ℕ → Status
control_status key value = if is_control key value then status.Success else status.Einval

-- ---- CLOSE_STREAM

-- there is one to be closed, till its end was put
abbrev pub close_status : Option ClientStream → Status
close_status None = status.KeyEnoent
close_status (Some g) = if g.over then status.KeyEnoent else status.Success

-- ---- GET_FAILOVER_LOG

-- the answer with the vBucket's failover log, as far as lines told it
abbrev pub IsLogTold : Option (List LogEntry) → Frame → Frame → Type 0
IsLogTold known f g = (log : List LogEntry) × IsIfKnown known log × (g ≡ dcp_frame (msg.LogAnswer (status_code status.Success) log) f.opaque 0)

-- each vBucket of the node has one, whatever its role is
pub record FitsLog (role : Option (Option Role)) (known : Option (List LogEntry)) (f g : Frame) : Type 0 where
  pub away : role ≡ Some None → IsStatus f g status.NotMyVbucket
  pub there : (role ≡ Some None → ⊥) → IsLogTold known f g

-- ---- messages

-- over an open connection. No client is sent what it would acknowledge by its seqno, and any other message is none for a producer
abbrev pub FitsOpen : Option (Option Role) → Option (List LogEntry) → Option ClientStream → Frame → Frame → DcpMsg → Type 0
FitsOpen role log stream f g (msg.Control key value) = IsStatus f g (control_status key value)
FitsOpen role log stream f g (msg.SeqnoAcknowledged seq) = IsStatus f g status.NotSupported
FitsOpen role log stream f g msg.CloseStream = IsStatus f g (close_status stream)
FitsOpen role log stream f g msg.GetFailoverLog = FitsLog role log f g
FitsOpen role log stream f g msg.Noop = IsStatus f g status.Success
FitsOpen role log stream f g other = IsStatus f g status.Einval

-- and before OPEN
abbrev pub FitsOnceOpen : Bool → Option (Option Role) → Option (List LogEntry) → Option ClientStream → Frame → Frame → DcpMsg → Type 0
FitsOnceOpen true role log stream f g m = FitsOpen role log stream f g m
FitsOnceOpen false role log stream f g m = IsStatus f g status.Einval

-- a frame that is none is Einval; a request for a stream is judged by the line before its answer, which is there
abbrev pub FitsMessage : Option (Option Role) → Option (List LogEntry) → Moment → Frame → Frame → Option DcpMsg → Type 0
FitsMessage role log at f g None = IsStatus f g status.Einval
FitsMessage role log at f g (Some (msg.StreamRequest ask)) = at.told ≡ true
FitsMessage role log at f g (Some (msg.Open number flags name)) = IsStatus f g (open_status at.setup.opened flags)
FitsMessage role log at f g (Some other) = FitsOnceOpen at.setup.opened role log at.stream f g other

-- a frame of DCP is answered so, by what is known of its vBucket
abbrev pub FitsDcp : Chronicle → ℕ → Moment → Frame → Frame → Type 0
FitsDcp chronicle n at f g = FitsMessage (chronicle.role_at n f.vb_or_status) (chronicle.log_at n f.vb_or_status) at f g (message_of f)
