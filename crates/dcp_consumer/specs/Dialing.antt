-- what a consumer writes when it dials
use Rattle.std.specs.Prelude.{ℕ, ◌+◌, ◌==◌, Bool, if◌then◌else◌, List, [], ◌∷◌, ◌++◌, map, codes, decimal}
use Rattle.std.specs.List.{concat}
use Rattle.mcbp_frame.specs.declared.frame.Frame.{Frame}
use Rattle.mcbp_frame.specs.Spelling.{spelling}
use Rattle.mcbp_dcp.specs.declared.message.DcpMsg.{DcpMsg}
use Rattle.mcbp_dcp.specs.declared.message.DcpMsg.TheVariants as msg
use Rattle.mcbp_dcp.specs.DcpFrames.{dcp_frame}
use Rattle.vb_types.specs.declared.stream.StreamAsk.{StreamAsk}
use Rattle.dcp_consumer.specs.declared.handshake.Dialed.{Dialed}

-- the name of a node as a member: n0 to n15
abbrev pub member_name : ℕ → List ℕ
member_name node = codes "n" ++ decimal node

-- OPEN as a producer's consumer, under its node's name
abbrev pub open_request : ℕ → DcpMsg
open_request node = msg.Open 0 1 (member_name node)

-- CONTROL: the size of the producer's window: a frame goes only while fewer bytes than this are not acknowledged
abbrev pub buffer_request : ℕ → DcpMsg
buffer_request buffer = msg.Control (codes "connection_buffer_size") (decimal buffer)

-- a buffer of 0 is none, and is not asked for
abbrev pub buffer_requests : ℕ → List DcpMsg
buffer_requests buffer = if buffer == 0 then [] else buffer_request buffer ∷ []

-- CONTROL: the stream is to carry prepares, commits and aborts
abbrev pub sync_request : DcpMsg
sync_request = msg.Control (codes "enable_sync_writes") (codes "true")

-- CONTROL: the name under which the consumer acknowledges
abbrev pub name_request : ℕ → DcpMsg
name_request node = msg.Control (codes "consumer_name") (member_name node)

-- what a node with this buffer asks for before it asks for a stream
abbrev pub first_requests : ℕ → ℕ → List DcpMsg
first_requests node buffer = open_request node ∷ buffer_requests buffer ++ sync_request ∷ name_request node ∷ []

-- messages with opaques from this one on, which name the vBucket 0
abbrev pub numbered : ℕ → List DcpMsg → List Frame
numbered n [] = []
numbered n (m ∷ ms) = dcp_frame m n 0 ∷ numbered (n + 1) ms

-- the first request for a stream has this opaque, behind those before it, and each later one the next
abbrev pub stream_opaque : ℕ → ℕ
stream_opaque buffer = if buffer == 0 then 4 else 5

-- a request for a stream has the flags 1 where its link takes the vBucket over, and else 0
abbrev pub flagged : Bool → StreamAsk → StreamAsk
flagged takeover ask = record ask { flags = if takeover then 1 else 0 }

-- what goes out when a consumer dials, with opaques from 1; the request for the stream alone names its vBucket
unfoldable pub requests : Dialed → StreamAsk → List ℕ
requests dialed ask =
    concat (map spelling (numbered 1 (first_requests dialed.node dialed.buffer)))
    ++ spelling (dcp_frame (msg.StreamRequest (flagged dialed.takeover ask)) (stream_opaque dialed.buffer) dialed.vb)

-- a request of which no two numbers are alike; its own flags are not those that go out
abbrev pub ask_row : StreamAsk
ask_row = record { flags = 0x61626364; start = 0x1112131415161718; end = 0x2122232425262728; uuid = 0x3132333435363738; ss = 0x4142434445464748; se = 0x5152535455565758 }

-- the node 12 dials on this link for the vBucket 0x0102, with this buffer, to follow it or to take it over
abbrev pub dialed_row : ℕ → ℕ → Bool → Dialed
dialed_row link buffer takeover = record { link = link; node = 12; vb = 0x0102; buffer = buffer; takeover = takeover }

-- what it writes then, byte by byte: OPEN as n12, with number 0 and flags 1
abbrev pub open_bytes : List ℕ
open_bytes =
    0x80 ∷ 0x50 ∷ 0x00 ∷ 0x03 ∷ 0x08 ∷ 0x00 ∷ 0x00 ∷ 0x00 ∷ 0x00 ∷ 0x00 ∷ 0x00 ∷ 0x0b ∷ 0x00 ∷ 0x00 ∷ 0x00 ∷ 0x01
    ∷ 0x00 ∷ 0x00 ∷ 0x00 ∷ 0x00 ∷ 0x00 ∷ 0x00 ∷ 0x00 ∷ 0x00 ∷ 0x00 ∷ 0x00 ∷ 0x00 ∷ 0x00 ∷ 0x00 ∷ 0x00 ∷ 0x00 ∷ 0x01
    ∷ 0x6e ∷ 0x31 ∷ 0x32 ∷ []

-- CONTROL: `connection_buffer_size` is `16909060`, which is 0x01020304
abbrev pub buffer_bytes : List ℕ
buffer_bytes =
    0x80 ∷ 0x5e ∷ 0x00 ∷ 0x16 ∷ 0x00 ∷ 0x00 ∷ 0x00 ∷ 0x00 ∷ 0x00 ∷ 0x00 ∷ 0x00 ∷ 0x1e ∷ 0x00 ∷ 0x00 ∷ 0x00 ∷ 0x02
    ∷ 0x00 ∷ 0x00 ∷ 0x00 ∷ 0x00 ∷ 0x00 ∷ 0x00 ∷ 0x00 ∷ 0x00 ∷ 0x63 ∷ 0x6f ∷ 0x6e ∷ 0x6e ∷ 0x65 ∷ 0x63 ∷ 0x74 ∷ 0x69
    ∷ 0x6f ∷ 0x6e ∷ 0x5f ∷ 0x62 ∷ 0x75 ∷ 0x66 ∷ 0x66 ∷ 0x65 ∷ 0x72 ∷ 0x5f ∷ 0x73 ∷ 0x69 ∷ 0x7a ∷ 0x65 ∷ 0x31 ∷ 0x36
    ∷ 0x39 ∷ 0x30 ∷ 0x39 ∷ 0x30 ∷ 0x36 ∷ 0x30 ∷ []

-- CONTROL: `enable_sync_writes` is `true`; here and below the last byte of the opaque is left open
abbrev pub sync_bytes : ℕ → List ℕ
sync_bytes opaque =
    0x80 ∷ 0x5e ∷ 0x00 ∷ 0x12 ∷ 0x00 ∷ 0x00 ∷ 0x00 ∷ 0x00 ∷ 0x00 ∷ 0x00 ∷ 0x00 ∷ 0x16 ∷ 0x00 ∷ 0x00 ∷ 0x00 ∷ opaque
    ∷ 0x00 ∷ 0x00 ∷ 0x00 ∷ 0x00 ∷ 0x00 ∷ 0x00 ∷ 0x00 ∷ 0x00 ∷ 0x65 ∷ 0x6e ∷ 0x61 ∷ 0x62 ∷ 0x6c ∷ 0x65 ∷ 0x5f ∷ 0x73
    ∷ 0x79 ∷ 0x6e ∷ 0x63 ∷ 0x5f ∷ 0x77 ∷ 0x72 ∷ 0x69 ∷ 0x74 ∷ 0x65 ∷ 0x73 ∷ 0x74 ∷ 0x72 ∷ 0x75 ∷ 0x65 ∷ []

-- CONTROL: `consumer_name` is `n12`
abbrev pub name_bytes : ℕ → List ℕ
name_bytes opaque =
    0x80 ∷ 0x5e ∷ 0x00 ∷ 0x0d ∷ 0x00 ∷ 0x00 ∷ 0x00 ∷ 0x00 ∷ 0x00 ∷ 0x00 ∷ 0x00 ∷ 0x10 ∷ 0x00 ∷ 0x00 ∷ 0x00 ∷ opaque
    ∷ 0x00 ∷ 0x00 ∷ 0x00 ∷ 0x00 ∷ 0x00 ∷ 0x00 ∷ 0x00 ∷ 0x00 ∷ 0x63 ∷ 0x6f ∷ 0x6e ∷ 0x73 ∷ 0x75 ∷ 0x6d ∷ 0x65 ∷ 0x72
    ∷ 0x5f ∷ 0x6e ∷ 0x61 ∷ 0x6d ∷ 0x65 ∷ 0x6e ∷ 0x31 ∷ 0x32 ∷ []

-- STREAM_REQUEST: flags, of which the last byte is left open, four bytes of 0, start, end, branch, and the snapshot's start and end
abbrev pub request_bytes : ℕ → ℕ → List ℕ
request_bytes flags opaque =
    0x80 ∷ 0x53 ∷ 0x00 ∷ 0x00 ∷ 0x30 ∷ 0x00 ∷ 0x01 ∷ 0x02 ∷ 0x00 ∷ 0x00 ∷ 0x00 ∷ 0x30 ∷ 0x00 ∷ 0x00 ∷ 0x00 ∷ opaque
    ∷ 0x00 ∷ 0x00 ∷ 0x00 ∷ 0x00 ∷ 0x00 ∷ 0x00 ∷ 0x00 ∷ 0x00 ∷ 0x00 ∷ 0x00 ∷ 0x00 ∷ flags ∷ 0x00 ∷ 0x00 ∷ 0x00 ∷ 0x00
    ∷ 0x11 ∷ 0x12 ∷ 0x13 ∷ 0x14 ∷ 0x15 ∷ 0x16 ∷ 0x17 ∷ 0x18 ∷ 0x21 ∷ 0x22 ∷ 0x23 ∷ 0x24 ∷ 0x25 ∷ 0x26 ∷ 0x27 ∷ 0x28
    ∷ 0x31 ∷ 0x32 ∷ 0x33 ∷ 0x34 ∷ 0x35 ∷ 0x36 ∷ 0x37 ∷ 0x38 ∷ 0x41 ∷ 0x42 ∷ 0x43 ∷ 0x44 ∷ 0x45 ∷ 0x46 ∷ 0x47 ∷ 0x48
    ∷ 0x51 ∷ 0x52 ∷ 0x53 ∷ 0x54 ∷ 0x55 ∷ 0x56 ∷ 0x57 ∷ 0x58 ∷ []
