-- which of a client's frames is to be answered next, by the bytes that it sent
use Rattle.std.specs.Prelude.{ℕ, ◌+◌, ◌-◌, ◌==◌, ◌&&◌, ◌++◌, Bool, true, false, not, if◌then◌else◌, List, [], ◌∷◌, codes, drop, length, take, Option, Some, None, Result, Ok}
use Rattle.std.specs.List.{sum_by}
use Rattle.std.specs.Option.{option_map}
use Rattle.std.specs.Str.{bytes_eq}
use Rattle.dcp_producer.specs.Sizes.{size_of}
use Rattle.flow_control.specs.Windows.{with_acked, with_put, with_size}
use Rattle.flow_control.specs.declared.window.Window.{Window}
use Rattle.mcbp_dcp.specs.declared.message.DcpMsg.{DcpMsg}
use Rattle.mcbp_dcp.specs.declared.message.DcpMsg.TheVariants as msg
use Rattle.mcbp_frame.specs.Cutting.{frames_in}
use Rattle.mcbp_frame.specs.Frames.{frame_len}
use Rattle.mcbp_frame.specs.declared.frame.Frame.{Frame}
use Rattle.mcbp_frame.specs.declared.frame.TheConstants.{RESPONSE}
use Rattle.mcbp_kv.specs.Requests.{request_of}
use Rattle.mcbp_kv.specs.declared.request.KvRequest.{KvRequest}
use Rattle.mcbp_kv.specs.declared.request.KvRequest.TheVariants as request
use Rattle.vb_types.specs.declared.status.Status.{Status}
use Rattle.client_session.specs.Serving.{is_dcp, settings_of}
use Rattle.client_session.specs.declared.session.Settings.{Settings}
use Rattle.transcript_law.specs.ClientFrames.{message_of, set_by, setup_after}
use Rattle.transcript_law.specs.StreamsTold.{Asking, ClientKnown, FlowKnown, Setup}

-- a message acknowledges bytes
abbrev pub is_acknowledgement : Option DcpMsg → Bool
is_acknowledgement (Some (msg.BufferAcknowledgement bytes)) = true
is_acknowledgement other = false

-- a frame wants an answer, behind what was set: each does but a response, and an acknowledgement of bytes over an open connection
abbrev pub wants_answer : Setup → Frame → Bool
wants_answer s f = not (f.magic == RESPONSE) && not (s.opened && is_acknowledgement (message_of f))

-- a frame that wants an answer, and those before it, which want none
pub record Question : Type 0 where
  pub before : List Frame
  pub frame : Frame

-- behind one more frame
abbrev pub behind_other : Frame → Question → Question
behind_other f q = record { before = f ∷ q.before; frame = q.frame }

-- the first one among frames
abbrev pub first_question : Setup → List Frame → Option Question
first_question s [] = None
first_question s (f ∷ fs) = if wants_answer s f then Some (record { before = []; frame = f }) else option_map (behind_other f) (first_question (set_by (message_of f) s) fs)

-- the one that is to be answered next
abbrev pub question_of : Asking → Option Question
question_of k = first_question k.setup (frames_in k.bytes)

-- HELLO sets which features its connection has
abbrev pub settings_by : Result KvRequest Status → Settings → Settings
settings_by (Ok (request.Hello features)) settings = settings_of features
settings_by other settings = settings

-- the settings behind a frame
abbrev pub settings_after : Settings → Frame → Settings
settings_after settings f = if is_dcp f.opcode then settings else settings_by (request_of settings.json f) settings

-- a durable write is one more
abbrev pub durables_by : Result KvRequest Status → ℕ → ℕ
durables_by (Ok (request.Write write (Some wish))) count = count + 1
durables_by other count = count

-- so many durable writes were asked for, with a frame
abbrev pub durables_after : Settings → Frame → ℕ → ℕ
durables_after settings f count = if is_dcp f.opcode then count else durables_by (request_of settings.json f) count

-- so many bytes are all up to the end of its frame
abbrev pub question_end : Question → ℕ
question_end q = sum_by frame_len q.before + frame_len q.frame

-- what is asked once it is answered
abbrev pub past_question : Question → Asking → Asking
past_question q k = record {
  bytes = drop (question_end q) k.bytes;
  setup = setup_after k.setup (q.before ++ q.frame ∷ []);
  settings = settings_after k.settings q.frame;
  durables = durables_after k.settings q.frame k.durables;
  answered = k.answered + 1;
}

-- the same, where there is a question
abbrev pub past_question_if : Option Question → Asking → Asking
past_question_if None k = k
past_question_if (Some q) k = past_question q k

-- an answer went out
abbrev pub past_answer : ClientKnown → ClientKnown
past_answer k = record k { asking = past_question_if (question_of k.asking) k.asking }

-- the bytes behind all whole frames
abbrev pub behind_frames : List ℕ → List ℕ
behind_frames bytes = drop (sum_by frame_len (frames_in bytes)) bytes

-- the bytes in front of others, which are their end
abbrev pub in_front : List ℕ → List ℕ → List ℕ
in_front end bytes = take (length bytes - length end) bytes

-- of the bytes that a client sent those that no frame of was served: behind the frame that is to be answered next, which may wait for an outcome, or, where there is none, behind all whole frames
abbrev pub unserved_by : Option Question → List ℕ → List ℕ
unserved_by None bytes = behind_frames bytes
unserved_by (Some q) bytes = drop (question_end q) bytes

abbrev pub unserved : Asking → List ℕ
unserved k = unserved_by (question_of k) k.bytes

-- ---- what was served

-- the frames behind a client's last request for a stream that were served
abbrev pub served_frames : ClientKnown → List Frame
served_frames known = frames_in (in_front (unserved known.asking) known.bytes)

-- ---- the window of a client's connection

-- another size, where it is one
abbrev pub resized : Option ℕ → Window → Window
resized None w = w
resized (Some size) w = with_size size w

-- what a message makes of it: over an open connection CONTROL may give it another size, and bytes are acknowledged
abbrev pub window_by : Option DcpMsg → Bool → Window → Window
window_by (Some (msg.Control key value)) opened w = if opened && bytes_eq key (codes "connection_buffer_size") then resized (size_of value) w else w
window_by (Some (msg.BufferAcknowledgement bytes)) opened w = if opened then with_acked bytes w else w
window_by other opened w = w

-- and what frames do, one after another
abbrev pub window_after : Setup → Window → List Frame → Window
window_after s w [] = w
window_after s w (f ∷ fs) = window_after (set_by (message_of f) s) (window_by (message_of f) s.opened w) fs

-- the frames that were served are counted into it
abbrev pub flow_behind : List ℕ → List Frame → FlowKnown → FlowKnown
flow_behind rest fs flow = record { bytes = rest; setup = setup_after flow.setup fs; window = window_after flow.setup flow.window fs }

abbrev pub flow_now : ClientKnown → FlowKnown
flow_now known = flow_behind (unserved known.asking) (frames_in (in_front (unserved known.asking) known.flow.bytes)) known.flow

-- a frame of its streams of these bytes goes through it
abbrev pub flow_put : List ℕ → ClientKnown → FlowKnown
flow_put bytes known = record (flow_now known) { window = with_put (length bytes) (flow_now known).window }
