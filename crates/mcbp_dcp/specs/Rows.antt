-- the rows of the table of DCP messages
use Rattle.std.specs.Prelude.{ℕ, ◌==◌, Bool, true, false, List, map, Option, Some, None}
use Rattle.mcbp_frame.specs.declared.frame.Frame.{Frame}
use Rattle.mcbp_frame.specs.declared.frame.TheConstants.{REQUEST, RESPONSE}
use Rattle.mcbp_dcp.specs.declared.opcode.Opcode.{Opcode}
use Rattle.mcbp_dcp.specs.declared.opcode.Opcode.TheVariants as op
use Rattle.mcbp_dcp.specs.declared.row.DcpRow.{DcpRow}
use Rattle.mcbp_dcp.specs.declared.row.DcpRow.TheVariants as row
use Rattle.mcbp_dcp.specs.Opcodes.{opcode_number, opcodes, opcode_of}

-- all opcodes of DCP
abbrev pub dcp_opcodes : List ℕ
dcp_opcodes = map opcode_number opcodes

-- the opcode of a row
abbrev pub row_opcode : DcpRow → Opcode
row_opcode row.Open = op.Open
row_opcode row.Control = op.Control
row_opcode row.StreamRequest = op.StreamRequest
row_opcode row.StreamEnd = op.StreamEnd
row_opcode row.SnapshotMarker = op.SnapshotMarker
row_opcode row.Mutation = op.Mutation
row_opcode row.Deletion = op.Deletion
row_opcode row.Prepare = op.Prepare
row_opcode row.Commit = op.Commit
row_opcode row.Abort = op.Abort
row_opcode row.SeqnoAcknowledged = op.SeqnoAcknowledged
row_opcode row.CloseStream = op.CloseStream
row_opcode row.GetFailoverLog = op.GetFailoverLog
row_opcode row.Noop = op.Noop
row_opcode row.BufferAcknowledgement = op.BufferAcknowledgement
row_opcode row.SetVbucketState = op.SetVbucketState
row_opcode row.OpenAnswer = op.Open
row_opcode row.ControlAnswer = op.Control
row_opcode row.StreamAnswer = op.StreamRequest
row_opcode row.CloseAnswer = op.CloseStream
row_opcode row.NoopAnswer = op.Noop
row_opcode row.LogAnswer = op.GetFailoverLog
row_opcode row.StateAnswer = op.SetVbucketState

-- the magic that a row is written with
abbrev pub row_magic : DcpRow → ℕ
row_magic row.Open = REQUEST
row_magic row.Control = REQUEST
row_magic row.StreamRequest = REQUEST
row_magic row.StreamEnd = REQUEST
row_magic row.SnapshotMarker = REQUEST
row_magic row.Mutation = REQUEST
row_magic row.Deletion = REQUEST
row_magic row.Prepare = REQUEST
row_magic row.Commit = REQUEST
row_magic row.Abort = REQUEST
row_magic row.SeqnoAcknowledged = REQUEST
row_magic row.CloseStream = REQUEST
row_magic row.GetFailoverLog = REQUEST
row_magic row.Noop = REQUEST
row_magic row.BufferAcknowledgement = REQUEST
row_magic row.SetVbucketState = REQUEST
row_magic row.OpenAnswer = RESPONSE
row_magic row.ControlAnswer = RESPONSE
row_magic row.StreamAnswer = RESPONSE
row_magic row.CloseAnswer = RESPONSE
row_magic row.NoopAnswer = RESPONSE
row_magic row.LogAnswer = RESPONSE
row_magic row.StateAnswer = RESPONSE

-- the row with an opcode: an answer, or a message
abbrev pub row_of_opcode : Opcode → Bool → Option DcpRow
row_of_opcode op.Open false = Some row.Open
row_of_opcode op.Open true = Some row.OpenAnswer
row_of_opcode op.StreamRequest false = Some row.StreamRequest
row_of_opcode op.StreamRequest true = Some row.StreamAnswer
row_of_opcode op.StreamEnd false = Some row.StreamEnd
row_of_opcode op.SnapshotMarker false = Some row.SnapshotMarker
row_of_opcode op.Mutation false = Some row.Mutation
row_of_opcode op.Deletion false = Some row.Deletion
row_of_opcode op.Prepare false = Some row.Prepare
row_of_opcode op.Commit false = Some row.Commit
row_of_opcode op.Abort false = Some row.Abort
row_of_opcode op.SeqnoAcknowledged false = Some row.SeqnoAcknowledged
row_of_opcode op.Control false = Some row.Control
row_of_opcode op.Control true = Some row.ControlAnswer
row_of_opcode op.CloseStream false = Some row.CloseStream
row_of_opcode op.CloseStream true = Some row.CloseAnswer
row_of_opcode op.GetFailoverLog false = Some row.GetFailoverLog
row_of_opcode op.GetFailoverLog true = Some row.LogAnswer
row_of_opcode op.Noop false = Some row.Noop
row_of_opcode op.Noop true = Some row.NoopAnswer
row_of_opcode op.BufferAcknowledgement false = Some row.BufferAcknowledgement
row_of_opcode op.SetVbucketState false = Some row.SetVbucketState
row_of_opcode op.SetVbucketState true = Some row.StateAnswer
row_of_opcode other answers = None

-- the row with an opcode, where there is one
abbrev pub row_by_opcode : Option Opcode → Bool → Option DcpRow
row_by_opcode None answers = None
row_by_opcode (Some opcode) answers = row_of_opcode opcode answers

-- the row of a frame
unfoldable pub frame_row : Frame → Option DcpRow
frame_row f = row_by_opcode (opcode_of f.opcode) (f.magic == RESPONSE)
