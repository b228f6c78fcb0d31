-- which extras, key and value the rows have
use Rattle.std.specs.Prelude.{ℕ, ◌%◌, ◌==◌, ◌&&◌, ◌||◌, not, nat_le, Bool, true, if◌then◌else◌, List, length, slice_index, Option, Some, None}
use Rattle.mcbp_frame.specs.declared.frame.Frame.{Frame}
use Rattle.mcbp_frame.specs.Frames.{big_16_at}
use Rattle.mcbp_dcp.specs.declared.row.DcpRow.{DcpRow}
use Rattle.mcbp_dcp.specs.declared.row.DcpRow.TheVariants as row
use Rattle.mcbp_dcp.specs.declared.message.DcpFault.{DcpFault}
use Rattle.mcbp_dcp.specs.declared.message.DcpFault.TheVariants.{WrongExtras, WrongKey, WrongValue}
use Rattle.mcbp_dcp.specs.declared.shape.TheConstants.{MAX_NAME, ENTRY_LEN, SUCCESS, ROLLBACK}
use Rattle.mcbp_dcp.specs.States.{is_role}

-- how long the extras of a row are
abbrev pub extras_size : DcpRow → ℕ
extras_size row.Open = 8
extras_size row.Control = 0
extras_size row.StreamRequest = 48
extras_size row.StreamEnd = 4
extras_size row.SnapshotMarker = 20
extras_size row.Mutation = 31
extras_size row.Deletion = 18
extras_size row.Prepare = 31
extras_size row.Commit = 16
extras_size row.Abort = 16
extras_size row.SeqnoAcknowledged = 8
extras_size row.CloseStream = 0
extras_size row.GetFailoverLog = 0
extras_size row.Noop = 0
extras_size row.BufferAcknowledgement = 4
extras_size row.SetVbucketState = 1
extras_size row.OpenAnswer = 0
extras_size row.ControlAnswer = 0
extras_size row.StreamAnswer = 0
extras_size row.CloseAnswer = 0
extras_size row.NoopAnswer = 0
extras_size row.LogAnswer = 0
extras_size row.StateAnswer = 0

-- where a row has a length of metadata, it is 0; and the role is one
abbrev pub numbers_fit : DcpRow → List ℕ → Bool
numbers_fit row.Open extras = true
numbers_fit row.Control extras = true
numbers_fit row.StreamRequest extras = true
numbers_fit row.StreamEnd extras = true
numbers_fit row.SnapshotMarker extras = true
numbers_fit row.Mutation extras = big_16_at extras 28 == 0
numbers_fit row.Deletion extras = big_16_at extras 16 == 0
numbers_fit row.Prepare extras = true
numbers_fit row.Commit extras = true
numbers_fit row.Abort extras = true
numbers_fit row.SeqnoAcknowledged extras = true
numbers_fit row.CloseStream extras = true
numbers_fit row.GetFailoverLog extras = true
numbers_fit row.Noop extras = true
numbers_fit row.BufferAcknowledgement extras = true
numbers_fit row.SetVbucketState extras = is_role (slice_index extras 0)
numbers_fit row.OpenAnswer extras = true
numbers_fit row.ControlAnswer extras = true
numbers_fit row.StreamAnswer extras = true
numbers_fit row.CloseAnswer extras = true
numbers_fit row.NoopAnswer extras = true
numbers_fit row.LogAnswer extras = true
numbers_fit row.StateAnswer extras = true

-- no framing extras, and extras of the row's length, without metadata and with a role where the row has one
abbrev pub extras_fit : DcpRow → Frame → Bool
extras_fit row f = ((length f.framing == 0) && (length f.extras == extras_size row)) && numbers_fit row f.extras

-- a name has 1 to 250 bytes; CONTROL and changes have any key, and all else has none
abbrev pub key_fits : DcpRow → Frame → Bool
key_fits row.Open f = nat_le 1 (length f.key) && nat_le (length f.key) MAX_NAME
key_fits row.Control f = true
key_fits row.StreamRequest f = length f.key == 0
key_fits row.StreamEnd f = length f.key == 0
key_fits row.SnapshotMarker f = length f.key == 0
key_fits row.Mutation f = true
key_fits row.Deletion f = true
key_fits row.Prepare f = true
key_fits row.Commit f = true
key_fits row.Abort f = true
key_fits row.SeqnoAcknowledged f = length f.key == 0
key_fits row.CloseStream f = length f.key == 0
key_fits row.GetFailoverLog f = length f.key == 0
key_fits row.Noop f = length f.key == 0
key_fits row.BufferAcknowledgement f = length f.key == 0
key_fits row.SetVbucketState f = length f.key == 0
key_fits row.OpenAnswer f = length f.key == 0
key_fits row.ControlAnswer f = length f.key == 0
key_fits row.StreamAnswer f = length f.key == 0
key_fits row.CloseAnswer f = length f.key == 0
key_fits row.NoopAnswer f = length f.key == 0
key_fits row.LogAnswer f = length f.key == 0
key_fits row.StateAnswer f = length f.key == 0

-- the value of an answer to a request for a stream: a log, a point to roll back to, or none
abbrev pub verdict_fits : ℕ → ℕ → Bool
verdict_fits status len = if status == SUCCESS then len % ENTRY_LEN == 0 else if status == ROLLBACK then len == 8 else len == 0

-- the value of an answer to a request for a failover log: the log, or none
abbrev pub log_fits : ℕ → ℕ → Bool
log_fits status len = if status == SUCCESS then len % ENTRY_LEN == 0 else len == 0

-- the prepare is of a removal, as the byte at 29 of its extras says
abbrev pub prepares_removal : List ℕ → Bool
prepares_removal extras = slice_index extras 29 == 1

-- CONTROL and MUTATION have any value, and PREPARE too, but none where it is of a removal; the answers to a request for a stream and for a log have one by their status, and all else has none
abbrev pub value_fits : DcpRow → Frame → Bool
value_fits row.Open f = length f.value == 0
value_fits row.Control f = true
value_fits row.StreamRequest f = length f.value == 0
value_fits row.StreamEnd f = length f.value == 0
value_fits row.SnapshotMarker f = length f.value == 0
value_fits row.Mutation f = true
value_fits row.Deletion f = length f.value == 0
value_fits row.Prepare f = not (prepares_removal f.extras) || (length f.value == 0)
value_fits row.Commit f = length f.value == 0
value_fits row.Abort f = length f.value == 0
value_fits row.SeqnoAcknowledged f = length f.value == 0
value_fits row.CloseStream f = length f.value == 0
value_fits row.GetFailoverLog f = length f.value == 0
value_fits row.Noop f = length f.value == 0
value_fits row.BufferAcknowledgement f = length f.value == 0
value_fits row.SetVbucketState f = length f.value == 0
value_fits row.OpenAnswer f = length f.value == 0
value_fits row.ControlAnswer f = length f.value == 0
value_fits row.StreamAnswer f = verdict_fits f.vb_or_status (length f.value)
value_fits row.CloseAnswer f = length f.value == 0
value_fits row.NoopAnswer f = length f.value == 0
value_fits row.LogAnswer f = log_fits f.vb_or_status (length f.value)
value_fits row.StateAnswer f = length f.value == 0

-- the first part that is not the row's
unfoldable pub shape_fault : DcpRow → Frame → Option DcpFault
shape_fault row f =
    if not (extras_fit row f) then Some WrongExtras
    else if not (key_fits row f) then Some WrongKey
    else if not (value_fits row f) then Some WrongValue
    else None
