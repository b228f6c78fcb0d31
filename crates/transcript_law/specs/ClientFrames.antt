-- what a client's frames ask of the streams of its connection: OPEN and CONTROL, requests for streams, and CLOSE_STREAM
use Rattle.std.specs.Prelude.{ℕ, ◌+◌, ◌==◌, ◌&&◌, Bool, true, false, if◌then◌else◌, nat_le, List, [], ◌∷◌, codes, drop, length, Option, Some, None, Result, Ok, Err}
use Rattle.std.specs.List.{list_any, sum_by}
use Rattle.std.specs.Option.{option_map}
use Rattle.std.specs.Str.{bytes_eq}
use Rattle.mcbp_frame.specs.Cutting.{frames_in}
use Rattle.mcbp_frame.specs.Frames.{frame_len}
use Rattle.mcbp_frame.specs.declared.frame.Frame.{Frame}
use Rattle.mcbp_dcp.specs.Messages.{read_of}
use Rattle.mcbp_dcp.specs.declared.message.DcpFault.{DcpFault}
use Rattle.mcbp_dcp.specs.declared.message.DcpMsg.{DcpMsg}
use Rattle.mcbp_dcp.specs.declared.message.DcpMsg.TheVariants as msg
use Rattle.mcbp_dcp.specs.declared.shape.TheConstants.{MAX_NAME}
use Rattle.vb_types.specs.declared.stream.StreamAsk.{StreamAsk}
use Rattle.transcript_law.specs.StreamsTold.{Setup}

-- ---- frames

-- a message that was read
abbrev pub ok_of : Option (Result DcpMsg DcpFault) → Option DcpMsg
ok_of None = None
ok_of (Some (Err fault)) = None
ok_of (Some (Ok m)) = Some m

-- the message that a frame is, where it has no datatype and its row's parts
abbrev pub message_of : Frame → Option DcpMsg
message_of f = if f.datatype == 0 then ok_of (read_of f) else None

-- the request for a stream that it is
abbrev pub ask_by : Option DcpMsg → Option StreamAsk
ask_by (Some (msg.StreamRequest ask)) = Some ask
ask_by other = None

abbrev pub ask_of : Frame → Option StreamAsk
ask_of f = ask_by (message_of f)

-- it is CLOSE_STREAM
abbrev pub is_close : Option DcpMsg → Bool
is_close (Some msg.CloseStream) = true
is_close other = false

-- it closes the stream of the vBucket v
abbrev pub closes : ℕ → Frame → Bool
closes v f = f.vb_or_status == v && is_close (message_of f)

-- ---- OPEN and CONTROL

-- CONTROL `enable_sync_writes`
abbrev pub with_sync : List ℕ → Setup → Setup
with_sync value s = if bytes_eq value (codes "true") then record s { sync = true } else if bytes_eq value (codes "false") then record s { sync = false } else s

-- CONTROL `consumer_name`, with a name of 1 to 250 bytes
abbrev pub with_name : List ℕ → Setup → Setup
with_name value s = if nat_le 1 (length value) && nat_le (length value) MAX_NAME then record s { named = true } else s

-- CONTROL of an open connection; no other key has to do with its streams
abbrev pub with_control : List ℕ → List ℕ → Setup → Setup
with_control key value s =
    if bytes_eq key (codes "enable_sync_writes") then with_sync value s
    else if bytes_eq key (codes "consumer_name") then with_name value s
    else s

-- what a message sets: OPEN for a producer opens the connection, and CONTROL sets what it names once it is open
abbrev pub set_by : Option DcpMsg → Setup → Setup
set_by (Some (msg.Open number flags name)) s = if flags == 1 then record s { opened = true } else s
set_by (Some (msg.Control key value)) s = if s.opened then with_control key value s else s
set_by other s = s

-- what frames set, one after another
abbrev pub setup_after : Setup → List Frame → Setup
setup_after s [] = s
setup_after s (f ∷ fs) = setup_after (set_by (message_of f) s) fs

-- durable writes are shown where they were asked for, and the connection gave its name
abbrev pub is_sync : Setup → Bool
is_sync s = s.sync && s.named

-- ---- the next request for a stream

-- a request for a stream among frames: those before it, itself, and its numbers
pub record Request : Type 0 where
  pub before : List Frame
  pub frame : Frame
  pub ask : StreamAsk

-- behind one more frame
abbrev pub behind_frame : Frame → Request → Request
behind_frame f r = record { before = f ∷ r.before; frame = r.frame; ask = r.ask }

-- this frame, where it is one, or else a later one
abbrev pub request_or : Frame → Option StreamAsk → Option Request → Option Request
request_or f (Some ask) later = Some (record { before = []; frame = f; ask = ask })
request_or f None later = option_map (behind_frame f) later

-- the first one of these frames
abbrev pub first_request : List Frame → Option Request
first_request [] = None
first_request (f ∷ fs) = request_or f (ask_of f) (first_request fs)

-- the first one in the bytes that a client sent
abbrev pub request_in : List ℕ → Option Request
request_in bytes = first_request (frames_in bytes)

-- so many bytes are all up to its end
abbrev pub request_end : Request → ℕ
request_end r = sum_by frame_len r.before + frame_len r.frame

-- the bytes behind it
abbrev pub bytes_behind : Request → List ℕ → List ℕ
bytes_behind r bytes = drop (request_end r) bytes

-- one of these frames closes the stream of the vBucket v
abbrev pub is_closed_by : List Frame → ℕ → Bool
is_closed_by fs v = list_any (closes v) fs
