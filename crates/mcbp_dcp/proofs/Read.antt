-- which frames are read
use Rattle.std.proofs.Common.{◌≡◌, ◌≢◌, true, false, Some, None, refl, ap, ◌∙◌}
use Rattle.std.specs.Prelude.{◌==◌, Option}
use Rattle.std.specs.List.{list_any}
use Rattle.std.specs.Option.{is_some, option_map}
use Rattle.mcbp_frame.specs.declared.frame.Frame.{Frame}
use Rattle.mcbp_frame.specs.declared.frame.TheConstants.{RESPONSE}
use Rattle.mcbp_dcp.specs.declared.opcode.Opcode.{Opcode}
use Rattle.mcbp_dcp.specs.declared.opcode.Opcode.TheVariants as op
use Rattle.mcbp_dcp.specs.declared.row.DcpRow.{DcpRow}
use Rattle.mcbp_dcp.specs.Opcodes.{opcode_number, opcodes, opcode_of}
use Rattle.mcbp_dcp.specs.Rows.{dcp_opcodes, frame_row, row_of_opcode, row_by_opcode}
use Rattle.mcbp_dcp.specs.Messages.{read_as, read_of}
use Rattle.mcbp_dcp.proofs.Metadata.{no_answer}
use Rattle.mcbp_dcp.proofs.Opcodes.{some_found}

-- each opcode has a message
has_row : (o : Opcode) → is_some (row_of_opcode o false) ≡ true
has_row op.Open = refl
has_row op.CloseStream = refl
has_row op.StreamRequest = refl
has_row op.GetFailoverLog = refl
has_row op.StreamEnd = refl
has_row op.SnapshotMarker = refl
has_row op.Mutation = refl
has_row op.Deletion = refl
has_row op.SetVbucketState = refl
has_row op.Noop = refl
has_row op.BufferAcknowledgement = refl
has_row op.Control = refl
has_row op.Prepare = refl
has_row op.SeqnoAcknowledged = refl
has_row op.Commit = refl
has_row op.Abort = refl

row_there : (o : Option Opcode) → is_some (row_by_opcode o false) ≡ is_some o
row_there None = refl
row_there (Some o) = has_row o

read_there : (f : Frame) (r : Option DcpRow) → is_some (option_map (read_as f) r) ≡ is_some r
read_there f None = refl
read_there f (Some r) = refl

pub rows : (f : Frame) → f.magic ≢ RESPONSE → is_some (read_of f) ≡ list_any (λ o. o == f.opcode) dcp_opcodes
unfolding read_of frame_row
rows f asks =
    read_there f (row_by_opcode (opcode_of f.opcode) (f.magic == RESPONSE))
    ∙ ap (λ b. is_some (row_by_opcode (opcode_of f.opcode) b)) (no_answer f asks)
    ∙ row_there (opcode_of f.opcode)
    ∙ some_found (λ o. opcode_number o == f.opcode) opcodes
