-- the other messages, byte by byte
use Rattle.std.proofs.Common.{refl}
use Rattle.mcbp_frame.specs.Frames.{first_frame, frame_of}
use Rattle.mcbp_frame.specs.Spelling.{spelling}
use Rattle.mcbp_dcp.specs.declared.message.DcpMsg.TheVariants as msg
use Rattle.mcbp_dcp.specs.declared.message.StreamVerdict.TheVariants as told
use Rattle.mcbp_dcp.specs.Rows.{frame_row}
use Rattle.mcbp_dcp.specs.Shapes.{shape_fault}
use Rattle.mcbp_dcp.specs.WireLogs.{log_in}
use Rattle.mcbp_dcp.specs.Messages.{read_of}
use Rattle.mcbp_dcp.specs.DcpFrames.{dcp_frame}
use Rattle.mcbp_dcp.specs.DurableRows.{IsReadAs, IsWrittenAs}
use Rattle.mcbp_dcp.specs.MessageRows.{open_row, open_bytes, control_row, control_bytes, request_row, request_bytes, end_bytes, marker_row, marker_bytes, mutation_row, mutation_bytes, deletion_row, deletion_bytes, answer_head, IsAnsweredAs, some_log, log_told_bytes, point_told_bytes, refused_told_bytes, four_bytes, no_four}

pub opening : IsWrittenAs open_row open_bytes
unfolding dcp_frame spelling first_frame frame_of frame_row shape_fault read_of
opening = (refl, (frame_of open_bytes, refl, refl))

pub control : IsWrittenAs control_row control_bytes
unfolding dcp_frame spelling first_frame frame_of frame_row shape_fault read_of
control = (refl, (frame_of control_bytes, refl, refl))

pub request : IsWrittenAs request_row (request_bytes no_four)
unfolding dcp_frame spelling first_frame frame_of frame_row shape_fault read_of
request = (refl, (frame_of (request_bytes no_four), refl, refl))

pub stream_end : IsWrittenAs (msg.StreamEnd 0x01020304) (end_bytes four_bytes)
unfolding dcp_frame spelling first_frame frame_of frame_row shape_fault read_of
stream_end = (refl, (frame_of (end_bytes four_bytes), refl, refl))

pub marker : IsWrittenAs marker_row (marker_bytes four_bytes)
unfolding dcp_frame spelling first_frame frame_of frame_row shape_fault read_of
marker = (refl, (frame_of (marker_bytes four_bytes), refl, refl))

pub mutation : IsWrittenAs mutation_row (mutation_bytes no_four 0)
unfolding dcp_frame spelling first_frame frame_of frame_row shape_fault read_of
mutation = (refl, (frame_of (mutation_bytes no_four 0), refl, refl))

pub deletion : IsWrittenAs deletion_row (deletion_bytes 0)
unfolding dcp_frame spelling first_frame frame_of frame_row shape_fault read_of
deletion = (refl, (frame_of (deletion_bytes 0), refl, refl))

pub opened : IsAnsweredAs (msg.OpenAnswer 0x0304) (answer_head 0x50 0x03 0x04 0x00)
unfolding dcp_frame spelling first_frame frame_of frame_row shape_fault read_of log_in
opened = (λ v. refl, (frame_of (answer_head 0x50 0x03 0x04 0x00), refl, refl))

pub controlled : IsAnsweredAs (msg.ControlAnswer 0x0304) (answer_head 0x5e 0x03 0x04 0x00)
unfolding dcp_frame spelling first_frame frame_of frame_row shape_fault read_of log_in
controlled = (λ v. refl, (frame_of (answer_head 0x5e 0x03 0x04 0x00), refl, refl))

pub granted : IsAnsweredAs (msg.StreamAnswer (told.Go some_log)) log_told_bytes
unfolding dcp_frame spelling first_frame frame_of frame_row shape_fault read_of log_in
granted = (λ v. refl, (frame_of log_told_bytes, refl, refl))

pub sent_back : IsAnsweredAs (msg.StreamAnswer (told.Roll 0x3132333435363738)) point_told_bytes
unfolding dcp_frame spelling first_frame frame_of frame_row shape_fault read_of log_in
sent_back = (λ v. refl, (frame_of point_told_bytes, refl, refl))

pub refused : IsAnsweredAs (msg.StreamAnswer (told.Refused 0x0304)) refused_told_bytes
unfolding dcp_frame spelling first_frame frame_of frame_row shape_fault read_of log_in
refused = (λ v. refl, (frame_of refused_told_bytes, refl, refl))

pub reserved : IsReadAs (request_bytes four_bytes) request_row
unfolding first_frame frame_of frame_row shape_fault read_of
reserved = (frame_of (request_bytes four_bytes), refl, refl)

pub times : IsReadAs (mutation_bytes four_bytes 0x61) mutation_row
unfolding first_frame frame_of frame_row shape_fault read_of
times = (frame_of (mutation_bytes four_bytes 0x61), refl, refl)

pub typed : IsReadAs (deletion_bytes 1) deletion_row
unfolding first_frame frame_of frame_row shape_fault read_of
typed = (frame_of (deletion_bytes 1), refl, refl)
