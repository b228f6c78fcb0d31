-- the opcodes of DCP
use Rattle.std.specs.Prelude.{ℕ, ◌==◌, List, [], ◌∷◌, Option}
use Rattle.std.specs.List.{find}
use Rattle.mcbp_dcp.specs.declared.opcode.Opcode.{Opcode}
use Rattle.mcbp_dcp.specs.declared.opcode.Opcode.TheVariants as op

-- the byte that stands for an opcode in a header
abbrev pub opcode_number : Opcode → ℕ
opcode_number op.Open = 0x50
opcode_number op.CloseStream = 0x52
opcode_number op.StreamRequest = 0x53
opcode_number op.GetFailoverLog = 0x54
opcode_number op.StreamEnd = 0x55
opcode_number op.SnapshotMarker = 0x56
opcode_number op.Mutation = 0x57
opcode_number op.Deletion = 0x58
opcode_number op.SetVbucketState = 0x5b
opcode_number op.Noop = 0x5c
opcode_number op.BufferAcknowledgement = 0x5d
opcode_number op.Control = 0x5e
opcode_number op.Prepare = 0x60
opcode_number op.SeqnoAcknowledged = 0x61
opcode_number op.Commit = 0x62
opcode_number op.Abort = 0x63

-- all of them
abbrev pub opcodes : List Opcode
opcodes =
    op.Open ∷ op.CloseStream ∷ op.StreamRequest ∷ op.GetFailoverLog ∷ op.StreamEnd ∷ op.SnapshotMarker ∷ op.Mutation ∷ op.Deletion
    ∷ op.SetVbucketState ∷ op.Noop ∷ op.BufferAcknowledgement ∷ op.Control ∷ op.Prepare ∷ op.SeqnoAcknowledged ∷ op.Commit ∷ op.Abort ∷ []

-- the opcode of a number, if DCP has one
abbrev pub opcode_of : ℕ → Option Opcode
opcode_of number = find (λ o. opcode_number o == number) opcodes
