-- the messages of durable writes, byte by byte
use Rattle.std.proofs.Common.{[], refl}
use Rattle.mcbp_frame.specs.Frames.{first_frame, frame_of}
use Rattle.mcbp_frame.specs.Spelling.{spelling}
use Rattle.mcbp_dcp.specs.declared.message.DcpMsg.TheVariants as msg
use Rattle.mcbp_dcp.specs.Rows.{frame_row}
use Rattle.mcbp_dcp.specs.Shapes.{shape_fault}
use Rattle.mcbp_dcp.specs.Messages.{read_of}
use Rattle.mcbp_dcp.specs.DcpFrames.{dcp_frame}
use Rattle.mcbp_dcp.specs.DurableRows.{IsReadAs, IsWrittenAs, prepare_row, prepare_bytes, no_times, some_times, no_cas, some_cas, some_value, resolution_row, resolution_bytes, acknowledged_bytes}

pub prepare : IsWrittenAs (prepare_row 0x09 0x0a some_value) (prepare_bytes 0x27 no_times 0x09 0x0a some_value)
unfolding dcp_frame spelling first_frame frame_of frame_row shape_fault read_of
prepare = (refl, (frame_of (prepare_bytes 0x27 no_times 0x09 0x0a some_value), refl, refl))

pub removal : IsWrittenAs (prepare_row 1 3 []) (prepare_bytes 0x22 no_times 1 3 [])
unfolding dcp_frame spelling first_frame frame_of frame_row shape_fault read_of
removal = (refl, (frame_of (prepare_bytes 0x22 no_times 1 3 []), refl, refl))

pub commit : IsWrittenAs (msg.Commit resolution_row) (resolution_bytes 0x62 0 no_cas)
unfolding dcp_frame spelling first_frame frame_of frame_row shape_fault read_of
commit = (refl, (frame_of (resolution_bytes 0x62 0 no_cas), refl, refl))

pub abort : IsWrittenAs (msg.Abort resolution_row) (resolution_bytes 0x63 0 no_cas)
unfolding dcp_frame spelling first_frame frame_of frame_row shape_fault read_of
abort = (refl, (frame_of (resolution_bytes 0x63 0 no_cas), refl, refl))

pub acknowledged : IsWrittenAs (msg.SeqnoAcknowledged 0x1112131415161718) acknowledged_bytes
unfolding dcp_frame spelling first_frame frame_of frame_row shape_fault read_of
acknowledged = (refl, (frame_of acknowledged_bytes, refl, refl))

pub times : IsReadAs (prepare_bytes 0x27 some_times 0x09 0x0a some_value) (prepare_row 0x09 0x0a some_value)
unfolding first_frame frame_of frame_row shape_fault read_of
times = (frame_of (prepare_bytes 0x27 some_times 0x09 0x0a some_value), refl, refl)

pub heads : IsReadAs (resolution_bytes 0x62 1 some_cas) (msg.Commit resolution_row) × IsReadAs (resolution_bytes 0x63 1 some_cas) (msg.Abort resolution_row)
unfolding first_frame frame_of frame_row shape_fault read_of
heads = ((frame_of (resolution_bytes 0x62 1 some_cas), refl, refl), (frame_of (resolution_bytes 0x63 1 some_cas), refl, refl))
