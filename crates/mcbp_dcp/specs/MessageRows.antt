-- the other messages in numbers, byte by byte, no two of a message's numbers alike: the handshake, a stream's request, its marker, its changes and its end, and the answers; and the messages of a connection beside them
use Rattle.std.specs.Prelude.{◌≡◌, ℕ, List, [], ◌∷◌, ◌++◌}
use Rattle.vb_types.specs.declared.role.LogEntry.{LogEntry}
use Rattle.mcbp_frame.specs.Spelling.{spelling}
use Rattle.mcbp_dcp.specs.declared.message.DcpMsg.{DcpMsg}
use Rattle.mcbp_dcp.specs.declared.message.DcpMsg.TheVariants as msg
use Rattle.mcbp_dcp.specs.DcpFrames.{dcp_frame}
use Rattle.mcbp_dcp.specs.DurableRows.{IsReadAs, middle, no_cas, some_cas, two_numbers, some_key, some_value}

-- a number of four bytes, and one of eight, that no message has beside another like it
abbrev pub four_bytes : List ℕ
four_bytes = 0x01 ∷ 0x02 ∷ 0x03 ∷ 0x04 ∷ []

abbrev pub four_others : List ℕ
four_others = 0x05 ∷ 0x06 ∷ 0x07 ∷ 0x08 ∷ []

abbrev pub two_others : List ℕ
two_others = 0x41 ∷ 0x42 ∷ 0x43 ∷ 0x44 ∷ 0x45 ∷ 0x46 ∷ 0x47 ∷ 0x48 ∷ 0x51 ∷ 0x52 ∷ 0x53 ∷ 0x54 ∷ 0x55 ∷ 0x56 ∷ 0x57 ∷ 0x58 ∷ []

-- four bytes that are 0, as those of a reserved field
abbrev pub no_four : List ℕ
no_four = 0x00 ∷ 0x00 ∷ 0x00 ∷ 0x00 ∷ []

-- OPEN: its seqno, and then the flags; the name is the key
abbrev pub open_row : DcpMsg
open_row = msg.Open 0x01020304 0x05060708 some_key

abbrev pub open_bytes : List ℕ
open_bytes = 0x80 ∷ 0x50 ∷ 0x00 ∷ 0x03 ∷ 0x08 ∷ 0x00 ∷ middle 0x0b ++ no_cas ++ four_bytes ++ four_others ++ some_key

-- CONTROL: a key and a value
abbrev pub control_row : DcpMsg
control_row = msg.Control some_key some_value

abbrev pub control_bytes : List ℕ
control_bytes = 0x80 ∷ 0x5e ∷ 0x00 ∷ 0x03 ∷ 0x00 ∷ 0x00 ∷ middle 0x08 ++ no_cas ++ some_key ++ some_value

-- STREAM_REQUEST: flags, four reserved bytes, start, end, the branch, and the snapshot's start and end
abbrev pub request_row : DcpMsg
request_row = msg.StreamRequest (record {
  flags = 0x01020304;
  start = 0x1112131415161718;
  end = 0x2122232425262728;
  uuid = 0x3132333435363738;
  ss = 0x4142434445464748;
  se = 0x5152535455565758;
})

-- its bytes, with these in the reserved field
abbrev pub request_bytes : List ℕ → List ℕ
request_bytes reserved =
    0x80 ∷ 0x53 ∷ 0x00 ∷ 0x00 ∷ 0x30 ∷ 0x00 ∷ middle 0x30 ++ no_cas ++ four_bytes ++ reserved ++ two_numbers ++ some_cas ++ two_others

-- STREAM_END: a reason
abbrev pub end_bytes : List ℕ → List ℕ
end_bytes reason = 0x80 ∷ 0x55 ∷ 0x00 ∷ 0x00 ∷ 0x04 ∷ 0x00 ∷ middle 0x04 ++ no_cas ++ reason

-- SNAPSHOT_MARKER: the snapshot's start and end, and then flags
abbrev pub marker_row : DcpMsg
marker_row = msg.SnapshotMarker 0x1112131415161718 0x2122232425262728 0x01020304

-- its bytes, with these flags
abbrev pub marker_bytes : List ℕ → List ℕ
marker_bytes flags = 0x80 ∷ 0x56 ∷ 0x00 ∷ 0x00 ∷ 0x14 ∷ 0x00 ∷ middle 0x14 ++ no_cas ++ two_numbers ++ flags

-- MUTATION: datatype and CAS stand in the header; then seqno, revision, flags and expiration, lock time, length of metadata and nru, the key and the value
abbrev pub mutation_row : DcpMsg
mutation_row = msg.Mutation (record {
  seq = 0x1112131415161718;
  rev = 0x2122232425262728;
  cas = 0x3132333435363738;
  flags = 0x01020304;
  expiry = 0x05060708;
  datatype = 0x01;
  key = some_key;
  value = some_value;
})

-- its bytes, with this lock time and this nru
abbrev pub mutation_bytes : List ℕ → ℕ → List ℕ
mutation_bytes lock nru =
    0x80 ∷ 0x57 ∷ 0x00 ∷ 0x03 ∷ 0x1f ∷ 0x01 ∷ middle 0x27 ++ some_cas ++ two_numbers ++ four_bytes ++ four_others ++ lock ++ 0x00 ∷ 0x00 ∷ nru ∷ some_key
    ++ some_value

-- DELETION: the CAS stands in the header; then seqno, revision, length of metadata, and the key
abbrev pub deletion_row : DcpMsg
deletion_row = msg.Deletion (record { seq = 0x1112131415161718; rev = 0x2122232425262728; cas = 0x3132333435363738; key = some_key })

-- its bytes, with this datatype
abbrev pub deletion_bytes : ℕ → List ℕ
deletion_bytes datatype = 0x80 ∷ 0x58 ∷ 0x00 ∷ 0x03 ∷ 0x12 ∷ datatype ∷ middle 0x15 ++ some_cas ++ two_numbers ++ 0x00 ∷ 0x00 ∷ some_key

-- a message of a header alone, with this opcode, datatype and CAS
abbrev pub bare_bytes : ℕ → ℕ → List ℕ → List ℕ
bare_bytes opcode datatype cas = 0x80 ∷ opcode ∷ 0x00 ∷ 0x00 ∷ 0x00 ∷ datatype ∷ middle 0x00 ++ cas

-- BUFFER_ACKNOWLEDGEMENT, with this datatype and CAS: how many bytes
abbrev pub buffer_bytes : ℕ → List ℕ → List ℕ
buffer_bytes datatype cas = 0x80 ∷ 0x5d ∷ 0x00 ∷ 0x00 ∷ 0x04 ∷ datatype ∷ middle 0x04 ++ cas ++ four_bytes

-- SET_VBUCKET_STATE, with this datatype and CAS: the byte of a role
abbrev pub state_bytes : ℕ → List ℕ → ℕ → List ℕ
state_bytes datatype cas role = 0x80 ∷ 0x5b ∷ 0x00 ∷ 0x00 ∷ 0x01 ∷ datatype ∷ middle 0x01 ++ cas ++ role ∷ []

-- an answer's header: the status stands where a request has its vBucket
abbrev pub answer_head : ℕ → ℕ → ℕ → ℕ → List ℕ
answer_head opcode high low body =
    0x81 ∷ opcode ∷ 0x00 ∷ 0x00 ∷ 0x00 ∷ 0x00 ∷ high ∷ low ∷ 0x00 ∷ 0x00 ∷ 0x00 ∷ body ∷ 0x0a ∷ 0x0b ∷ 0x0c ∷ 0x0d ∷ no_cas

-- an answer is written as these bytes whatever vBucket it is given, and read from them
abbrev pub IsAnsweredAs : DcpMsg → List ℕ → Type 0
IsAnsweredAs m bytes = ((v : ℕ) → spelling (dcp_frame m 0x0a0b0c0d v) ≡ bytes) × IsReadAs bytes m

-- a log of two entries, the newest first: each its branch, and then the seqno at which that was made
abbrev pub some_log : List LogEntry
some_log =
    record { uuid = 0x1112131415161718; seq = 0x2122232425262728 } ∷ record { uuid = 0x4142434445464748; seq = 0x5152535455565758 } ∷ []

abbrev pub log_told_bytes : List ℕ
log_told_bytes = answer_head 0x53 0x00 0x00 0x20 ++ two_numbers ++ two_others

-- the same log as the answer to GET_FAILOVER_LOG
abbrev pub log_answer_bytes : List ℕ
log_answer_bytes = answer_head 0x54 0x00 0x00 0x20 ++ two_numbers ++ two_others

-- a point to go back to
abbrev pub point_told_bytes : List ℕ
point_told_bytes = answer_head 0x53 0x00 0x23 0x08 ++ some_cas

abbrev pub refused_told_bytes : List ℕ
refused_told_bytes = answer_head 0x53 0x03 0x04 0x00
