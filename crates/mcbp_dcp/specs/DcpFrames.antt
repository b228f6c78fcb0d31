-- the one frame of a message
use Rattle.std.specs.Prelude.{◌≡◌, ◌≢◌, ℕ, ◌+◌, ◌*◌, ◌^◌, ◌<◌, ◌≤◌, List, [], ◌∷◌, ◌++◌, length}
use Rattle.std.specs.Int.{w16, w32, w64, to_be_bytes}
use Rattle.vb_types.specs.declared.stream.StreamAsk.{StreamAsk}
use Rattle.vb_types.specs.declared.role.LogEntry.{LogEntry}
use Rattle.mcbp_frame.specs.declared.frame.Frame.{Frame}
use Rattle.mcbp_dcp.specs.declared.opcode.Opcode.{Opcode}
use Rattle.mcbp_dcp.specs.declared.opcode.Opcode.TheVariants as op
use Rattle.mcbp_dcp.specs.declared.writer.Header.{Header}
use Rattle.mcbp_dcp.specs.declared.row.DcpRow.{DcpRow}
use Rattle.mcbp_dcp.specs.declared.row.DcpRow.TheVariants as row
use Rattle.mcbp_dcp.specs.declared.message.DcpMsg.{DcpMsg}
use Rattle.mcbp_dcp.specs.declared.message.DcpMsg.TheVariants as msg
use Rattle.mcbp_dcp.specs.declared.message.Mutation.{Mutation}
use Rattle.mcbp_dcp.specs.declared.message.Deletion.{Deletion}
use Rattle.mcbp_dcp.specs.declared.message.Prepare.{Prepare}
use Rattle.mcbp_dcp.specs.declared.message.Resolution.{Resolution}
use Rattle.mcbp_dcp.specs.declared.message.StreamVerdict.{StreamVerdict}
use Rattle.mcbp_dcp.specs.declared.message.StreamVerdict.TheVariants as told
use Rattle.mcbp_dcp.specs.declared.shape.TheConstants.{MAX_NAME, ENTRY_LEN, SUCCESS, ROLLBACK}
use Rattle.mcbp_frame.specs.declared.frame.TheConstants.{REQUEST}
use Rattle.mcbp_dcp.specs.Opcodes.{opcode_number}
use Rattle.mcbp_dcp.specs.Rows.{row_opcode, row_magic}
use Rattle.mcbp_dcp.specs.States.{role_byte}
use Rattle.mcbp_dcp.specs.Shapes.{extras_size}
use Rattle.mcbp_dcp.specs.WireLogs.{log_spelling}

-- a header without framing extras: magic, opcode, lengths of key and extras, datatype, vBucket or status, length of the body, opaque, CAS
abbrev pub header_bytes : Header → List ℕ
header_bytes h =
    h.magic ∷ opcode_number h.opcode ∷ [] ++ to_be_bytes w16 h.key ++ h.extras ∷ h.datatype ∷ [] ++ to_be_bytes w16 h.vb_or_status
    ++ to_be_bytes w32 (h.extras + h.key + h.value) ++ to_be_bytes w32 h.opaque ++ to_be_bytes w64 h.cas

-- a frame of a header alone, without datatype and CAS
abbrev pub bare_frame : ℕ → Opcode → ℕ → ℕ → Frame
bare_frame magic opcode vb_or_status opaque = record {
  magic = magic;
  opcode = opcode_number opcode;
  datatype = 0;
  vb_or_status = vb_or_status;
  opaque = opaque;
  cas = 0;
  framing = [];
  extras = [];
  key = [];
  value = [];
}

-- a frame of a row, with this vBucket or status, without datatype and CAS
abbrev pub frame_of_row : DcpRow → ℕ → ℕ → List ℕ → List ℕ → List ℕ → Frame
frame_of_row row vb_or_status opaque extras key value =
    record (bare_frame (row_magic row) (row_opcode row) vb_or_status opaque) { extras = extras; key = key; value = value }

abbrev pub open_extras : ℕ → ℕ → List ℕ
open_extras number flags = to_be_bytes w32 number ++ to_be_bytes w32 flags

-- the reserved field is 0
abbrev pub ask_extras : StreamAsk → List ℕ
ask_extras ask =
    to_be_bytes w32 ask.flags ++ to_be_bytes w32 0 ++ to_be_bytes w64 ask.start ++ to_be_bytes w64 ask.end ++ to_be_bytes w64 ask.uuid
    ++ to_be_bytes w64 ask.ss ++ to_be_bytes w64 ask.se

-- the reason of a stream's end
abbrev pub stream_end_extras : ℕ → List ℕ
stream_end_extras reason = to_be_bytes w32 reason

abbrev pub marker_extras : ℕ → ℕ → ℕ → List ℕ
marker_extras start end flags = to_be_bytes w64 start ++ to_be_bytes w64 end ++ to_be_bytes w32 flags

-- lock time, length of metadata and nru are 0
abbrev pub mutation_extras : Mutation → List ℕ
mutation_extras m =
    to_be_bytes w64 m.seq ++ to_be_bytes w64 m.rev ++ to_be_bytes w32 m.flags ++ to_be_bytes w32 m.expiry ++ to_be_bytes w32 0 ++ to_be_bytes w16 0
    ++ 0 ∷ []

-- the length of metadata is 0
abbrev pub deletion_extras : Deletion → List ℕ
deletion_extras d = to_be_bytes w64 d.seq ++ to_be_bytes w64 d.rev ++ to_be_bytes w16 0

-- lock time and nru are 0
abbrev pub prepare_extras : Prepare → List ℕ
prepare_extras p =
    to_be_bytes w64 p.seq ++ to_be_bytes w64 p.rev ++ to_be_bytes w32 p.flags ++ to_be_bytes w32 p.expiry ++ to_be_bytes w32 0 ++ 0 ∷ p.deleted ∷ p.level ∷ []

-- the prepare's seqno, and that of the commit or the abort
abbrev pub resolution_extras : Resolution → List ℕ
resolution_extras r = to_be_bytes w64 r.prepared ++ to_be_bytes w64 r.seq

-- a request for a stream
abbrev pub request_frame : StreamAsk → ℕ → ℕ → Frame
request_frame ask opaque v = frame_of_row row.StreamRequest v opaque (ask_extras ask) [] []

-- a mutation and a prepare have their datatype and CAS in the header, a deletion its CAS
abbrev pub mutation_frame : Mutation → ℕ → ℕ → Frame
mutation_frame m opaque v = record (frame_of_row row.Mutation v opaque (mutation_extras m) m.key m.value) { datatype = m.datatype; cas = m.cas }

abbrev pub deletion_frame : Deletion → ℕ → ℕ → Frame
deletion_frame d opaque v = record (frame_of_row row.Deletion v opaque (deletion_extras d) d.key []) { cas = d.cas }

abbrev pub prepare_frame : Prepare → ℕ → ℕ → Frame
prepare_frame p opaque v = record (frame_of_row row.Prepare v opaque (prepare_extras p) p.key p.value) { datatype = p.datatype; cas = p.cas }

-- a commit or an abort, by its opcode; its header has no CAS
abbrev pub resolution_frame : Opcode → Resolution → ℕ → ℕ → Frame
resolution_frame opcode r opaque v = record (bare_frame REQUEST opcode v opaque) { extras = resolution_extras r; key = r.key }

abbrev pub verdict_frame : StreamVerdict → ℕ → Frame
verdict_frame (told.Go log) opaque = frame_of_row row.StreamAnswer SUCCESS opaque [] [] (log_spelling log)
verdict_frame (told.Roll point) opaque = frame_of_row row.StreamAnswer ROLLBACK opaque [] [] (to_be_bytes w64 point)
verdict_frame (told.Refused status) opaque = frame_of_row row.StreamAnswer status opaque [] [] []

-- a failover log, or the refusal of one
abbrev pub log_frame : ℕ → List LogEntry → ℕ → Frame
log_frame status log opaque = frame_of_row row.LogAnswer status opaque [] [] (log_spelling log)

-- the frame of a message with an opaque and a vBucket, which an answer does not name
unfoldable pub dcp_frame : DcpMsg → ℕ → ℕ → Frame
dcp_frame (msg.Open number flags name) opaque v = frame_of_row row.Open v opaque (open_extras number flags) name []
dcp_frame (msg.Control key value) opaque v = frame_of_row row.Control v opaque [] key value
dcp_frame (msg.StreamRequest ask) opaque v = request_frame ask opaque v
dcp_frame (msg.StreamEnd reason) opaque v = frame_of_row row.StreamEnd v opaque (stream_end_extras reason) [] []
dcp_frame (msg.SnapshotMarker start end flags) opaque v = frame_of_row row.SnapshotMarker v opaque (marker_extras start end flags) [] []
dcp_frame (msg.Mutation change) opaque v = mutation_frame change opaque v
dcp_frame (msg.Deletion change) opaque v = deletion_frame change opaque v
dcp_frame (msg.Prepare change) opaque v = prepare_frame change opaque v
dcp_frame (msg.Commit change) opaque v = resolution_frame op.Commit change opaque v
dcp_frame (msg.Abort change) opaque v = resolution_frame op.Abort change opaque v
dcp_frame (msg.SeqnoAcknowledged seq) opaque v = frame_of_row row.SeqnoAcknowledged v opaque (to_be_bytes w64 seq) [] []
dcp_frame msg.CloseStream opaque v = frame_of_row row.CloseStream v opaque [] [] []
dcp_frame msg.GetFailoverLog opaque v = frame_of_row row.GetFailoverLog v opaque [] [] []
dcp_frame msg.Noop opaque v = frame_of_row row.Noop v opaque [] [] []
dcp_frame (msg.BufferAcknowledgement bytes) opaque v = frame_of_row row.BufferAcknowledgement v opaque (to_be_bytes w32 bytes) [] []
dcp_frame (msg.SetVbucketState role) opaque v = frame_of_row row.SetVbucketState v opaque (role_byte role ∷ []) [] []
dcp_frame (msg.OpenAnswer status) opaque v = frame_of_row row.OpenAnswer status opaque [] [] []
dcp_frame (msg.ControlAnswer status) opaque v = frame_of_row row.ControlAnswer status opaque [] [] []
dcp_frame (msg.StreamAnswer told) opaque v = verdict_frame told opaque
dcp_frame (msg.CloseAnswer status) opaque v = frame_of_row row.CloseAnswer status opaque [] [] []
dcp_frame (msg.NoopAnswer status) opaque v = frame_of_row row.NoopAnswer status opaque [] [] []
dcp_frame (msg.LogAnswer status log) opaque v = log_frame status log opaque
dcp_frame (msg.StateAnswer status) opaque v = frame_of_row row.StateAnswer status opaque [] [] []

-- an answer's parts fit: a log its length field, and a refusal has neither status of the other two
abbrev pub IsVerdict : StreamVerdict → Type 0
IsVerdict (told.Go log) = ENTRY_LEN * length log < 2 ^ 32
IsVerdict (told.Roll point) = Unit {0}
IsVerdict (told.Refused status) = (status ≡ SUCCESS → ⊥) × (status ≡ ROLLBACK → ⊥)

-- key and value fit their length fields, and a prepare of a removal has no value
abbrev pub IsSpelledPrepare : Prepare → Type 0
IsSpelledPrepare p = (length p.key < 2 ^ 16) × (extras_size row.Prepare + length p.key + length p.value < 2 ^ 32) × (p.deleted ≡ 1 → length p.value ≡ 0)

-- a log fits its length field, and a refusal has none
abbrev pub IsSpelledLog : ℕ → List LogEntry → Type 0
IsSpelledLog status log = (ENTRY_LEN * length log < 2 ^ 32) × (status ≢ SUCCESS → log ≡ [])

-- a message that has a spelling: its parts are its row's and fit their length fields
abbrev pub IsSpelled : DcpMsg → Type 0
IsSpelled (msg.Open number flags name) = (1 ≤ length name) × (length name ≤ MAX_NAME)
IsSpelled (msg.Control key value) = (length key < 2 ^ 16) × (length key + length value < 2 ^ 32)
IsSpelled (msg.StreamRequest ask) = Unit {0}
IsSpelled (msg.StreamEnd reason) = Unit {0}
IsSpelled (msg.SnapshotMarker start end flags) = Unit {0}
IsSpelled (msg.Mutation change) = (length change.key < 2 ^ 16) × (extras_size row.Mutation + length change.key + length change.value < 2 ^ 32)
IsSpelled (msg.Deletion change) = length change.key < 2 ^ 16
IsSpelled (msg.Prepare change) = IsSpelledPrepare change
IsSpelled (msg.Commit change) = length change.key < 2 ^ 16
IsSpelled (msg.Abort change) = length change.key < 2 ^ 16
IsSpelled (msg.SeqnoAcknowledged seq) = Unit {0}
IsSpelled msg.CloseStream = Unit {0}
IsSpelled msg.GetFailoverLog = Unit {0}
IsSpelled msg.Noop = Unit {0}
IsSpelled (msg.BufferAcknowledgement bytes) = Unit {0}
IsSpelled (msg.SetVbucketState role) = Unit {0}
IsSpelled (msg.OpenAnswer status) = Unit {0}
IsSpelled (msg.ControlAnswer status) = Unit {0}
IsSpelled (msg.StreamAnswer told) = IsVerdict told
IsSpelled (msg.CloseAnswer status) = Unit {0}
IsSpelled (msg.NoopAnswer status) = Unit {0}
IsSpelled (msg.LogAnswer status log) = IsSpelledLog status log
IsSpelled (msg.StateAnswer status) = Unit {0}
