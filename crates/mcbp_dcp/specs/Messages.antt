-- what a frame says
use Rattle.std.specs.Prelude.{ℕ, ◌==◌, if◌then◌else◌, List, slice_index, Option, Some, None, Result, Ok, Err}
use Rattle.std.specs.Option.{option_map}
use Rattle.vb_types.specs.declared.stream.StreamAsk.{StreamAsk}
use Rattle.mcbp_frame.specs.declared.frame.Frame.{Frame}
use Rattle.mcbp_frame.specs.Frames.{big_32_at, big_64_at}
use Rattle.mcbp_dcp.specs.declared.row.DcpRow.{DcpRow}
use Rattle.mcbp_dcp.specs.declared.row.DcpRow.TheVariants as row
use Rattle.mcbp_dcp.specs.declared.message.DcpMsg.{DcpMsg}
use Rattle.mcbp_dcp.specs.declared.message.DcpMsg.TheVariants as msg
use Rattle.mcbp_dcp.specs.declared.message.DcpFault.{DcpFault}
use Rattle.mcbp_dcp.specs.declared.message.Mutation.{Mutation}
use Rattle.mcbp_dcp.specs.declared.message.Deletion.{Deletion}
use Rattle.mcbp_dcp.specs.declared.message.Prepare.{Prepare}
use Rattle.mcbp_dcp.specs.declared.message.Resolution.{Resolution}
use Rattle.mcbp_dcp.specs.declared.message.StreamVerdict.{StreamVerdict}
use Rattle.mcbp_dcp.specs.declared.message.StreamVerdict.TheVariants as told
use Rattle.mcbp_dcp.specs.declared.shape.TheConstants.{SUCCESS, ROLLBACK}
use Rattle.mcbp_dcp.specs.Rows.{frame_row}
use Rattle.mcbp_dcp.specs.States.{role_in}
use Rattle.mcbp_dcp.specs.Shapes.{shape_fault}
use Rattle.mcbp_dcp.specs.WireLogs.{log_in}

-- the request in the extras: flags 4, reserved 4, start 8, end 8, UUID 8, snapshot start 8, snapshot end 8
abbrev pub ask_in : List ℕ → StreamAsk
ask_in extras = record {
  flags = big_32_at extras 0;
  start = big_64_at extras 8;
  end = big_64_at extras 16;
  uuid = big_64_at extras 24;
  ss = big_64_at extras 32;
  se = big_64_at extras 40;
}

-- extras: seqno 8, revision 8, flags 4, expiration 4, lock time 4, length of metadata 2, nru 1
abbrev pub mutation_in : Frame → Mutation
mutation_in f = record {
  seq = big_64_at f.extras 0;
  rev = big_64_at f.extras 8;
  cas = f.cas;
  flags = big_32_at f.extras 16;
  expiry = big_32_at f.extras 20;
  datatype = f.datatype;
  key = f.key;
  value = f.value;
}

-- extras: seqno 8, revision 8, length of metadata 2
abbrev pub deletion_in : Frame → Deletion
deletion_in f = record { seq = big_64_at f.extras 0; rev = big_64_at f.extras 8; cas = f.cas; key = f.key }

-- extras: seqno 8, revision 8, flags 4, expiration 4, lock time 4, nru 1, deleted 1, level 1
abbrev pub prepare_in : Frame → Prepare
prepare_in f = record {
  seq = big_64_at f.extras 0;
  rev = big_64_at f.extras 8;
  cas = f.cas;
  flags = big_32_at f.extras 16;
  expiry = big_32_at f.extras 20;
  datatype = f.datatype;
  deleted = slice_index f.extras 29;
  level = slice_index f.extras 30;
  key = f.key;
  value = f.value;
}

-- extras: the prepare's seqno 8, the commit's or the abort's own 8
abbrev pub resolution_in : Frame → Resolution
resolution_in f = record { prepared = big_64_at f.extras 0; seq = big_64_at f.extras 8; key = f.key }

-- what the answer to a request for a stream says, by its status
abbrev pub verdict_in : ℕ → List ℕ → StreamVerdict
verdict_in status value =
    if status == SUCCESS then told.Go (log_in value) else if status == ROLLBACK then told.Roll (big_64_at value 0) else told.Refused status

-- the message of a frame that has the row's parts
abbrev pub message_in : DcpRow → Frame → DcpMsg
message_in row.Open f = msg.Open (big_32_at f.extras 0) (big_32_at f.extras 4) f.key
message_in row.Control f = msg.Control f.key f.value
message_in row.StreamRequest f = msg.StreamRequest (ask_in f.extras)
message_in row.StreamEnd f = msg.StreamEnd (big_32_at f.extras 0)
message_in row.SnapshotMarker f = msg.SnapshotMarker (big_64_at f.extras 0) (big_64_at f.extras 8) (big_32_at f.extras 16)
message_in row.Mutation f = msg.Mutation (mutation_in f)
message_in row.Deletion f = msg.Deletion (deletion_in f)
message_in row.Prepare f = msg.Prepare (prepare_in f)
message_in row.Commit f = msg.Commit (resolution_in f)
message_in row.Abort f = msg.Abort (resolution_in f)
message_in row.SeqnoAcknowledged f = msg.SeqnoAcknowledged (big_64_at f.extras 0)
message_in row.CloseStream f = msg.CloseStream
message_in row.GetFailoverLog f = msg.GetFailoverLog
message_in row.Noop f = msg.Noop
message_in row.BufferAcknowledgement f = msg.BufferAcknowledgement (big_32_at f.extras 0)
message_in row.SetVbucketState f = msg.SetVbucketState (role_in (slice_index f.extras 0))
message_in row.OpenAnswer f = msg.OpenAnswer f.vb_or_status
message_in row.ControlAnswer f = msg.ControlAnswer f.vb_or_status
message_in row.StreamAnswer f = msg.StreamAnswer (verdict_in f.vb_or_status f.value)
message_in row.CloseAnswer f = msg.CloseAnswer f.vb_or_status
message_in row.NoopAnswer f = msg.NoopAnswer f.vb_or_status
message_in row.LogAnswer f = msg.LogAnswer f.vb_or_status (log_in f.value)
message_in row.StateAnswer f = msg.StateAnswer f.vb_or_status

-- the fault, or else the message
abbrev pub unless_fault : Option DcpFault → DcpMsg → Result DcpMsg DcpFault
unless_fault None m = Ok m
unless_fault (Some fault) m = Err fault

-- what a frame of a row says
abbrev pub read_as : Frame → DcpRow → Result DcpMsg DcpFault
read_as f row = unless_fault (shape_fault row f) (message_in row f)

-- what a frame says, where it is of a row
unfoldable pub read_of : Frame → Option (Result DcpMsg DcpFault)
read_of f = option_map (read_as f) (frame_row f)
