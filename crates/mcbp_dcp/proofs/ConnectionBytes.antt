-- the messages beside handshake and streams, byte by byte
use Rattle.std.proofs.Common.{[], refl}
use Rattle.mcbp_frame.specs.Frames.{first_frame, frame_of}
use Rattle.mcbp_frame.specs.Spelling.{spelling}
use Rattle.mcbp_dcp.specs.declared.message.DcpMsg.TheVariants as msg
use Rattle.vb_types.specs.declared.role.Role.TheVariants as role
use Rattle.mcbp_dcp.specs.Rows.{frame_row}
use Rattle.mcbp_dcp.specs.Shapes.{shape_fault}
use Rattle.mcbp_dcp.specs.WireLogs.{log_in}
use Rattle.mcbp_dcp.specs.Messages.{read_of}
use Rattle.mcbp_dcp.specs.DcpFrames.{dcp_frame}
use Rattle.mcbp_dcp.specs.DurableRows.{IsReadAs, IsWrittenAs, no_cas, some_cas}
use Rattle.mcbp_dcp.specs.MessageRows.{bare_bytes, buffer_bytes, state_bytes, answer_head, IsAnsweredAs, some_log, log_answer_bytes}

pub close : IsWrittenAs msg.CloseStream (bare_bytes 0x52 0 no_cas)
unfolding dcp_frame spelling first_frame frame_of frame_row shape_fault read_of
close = (refl, (frame_of (bare_bytes 0x52 0 no_cas), refl, refl))

pub ask : IsWrittenAs msg.GetFailoverLog (bare_bytes 0x54 0 no_cas)
unfolding dcp_frame spelling first_frame frame_of frame_row shape_fault read_of
ask = (refl, (frame_of (bare_bytes 0x54 0 no_cas), refl, refl))

pub noop : IsWrittenAs msg.Noop (bare_bytes 0x5c 0 no_cas)
unfolding dcp_frame spelling first_frame frame_of frame_row shape_fault read_of
noop = (refl, (frame_of (bare_bytes 0x5c 0 no_cas), refl, refl))

pub acknowledged : IsWrittenAs (msg.BufferAcknowledgement 0x01020304) (buffer_bytes 0 no_cas)
unfolding dcp_frame spelling first_frame frame_of frame_row shape_fault read_of
acknowledged = (refl, (frame_of (buffer_bytes 0 no_cas), refl, refl))

pub active : IsWrittenAs (msg.SetVbucketState role.Active) (state_bytes 0 no_cas 1)
unfolding dcp_frame spelling first_frame frame_of frame_row shape_fault read_of
active = (refl, (frame_of (state_bytes 0 no_cas 1), refl, refl))

pub replica : IsWrittenAs (msg.SetVbucketState role.Replica) (state_bytes 0 no_cas 2)
unfolding dcp_frame spelling first_frame frame_of frame_row shape_fault read_of
replica = (refl, (frame_of (state_bytes 0 no_cas 2), refl, refl))

pub pending : IsWrittenAs (msg.SetVbucketState role.Pending) (state_bytes 0 no_cas 3)
unfolding dcp_frame spelling first_frame frame_of frame_row shape_fault read_of
pending = (refl, (frame_of (state_bytes 0 no_cas 3), refl, refl))

pub dead : IsWrittenAs (msg.SetVbucketState role.Dead) (state_bytes 0 no_cas 4)
unfolding dcp_frame spelling first_frame frame_of frame_row shape_fault read_of
dead = (refl, (frame_of (state_bytes 0 no_cas 4), refl, refl))

pub closed : IsAnsweredAs (msg.CloseAnswer 0x0304) (answer_head 0x52 0x03 0x04 0x00)
unfolding dcp_frame spelling first_frame frame_of frame_row shape_fault read_of log_in
closed = (λ v. refl, (frame_of (answer_head 0x52 0x03 0x04 0x00), refl, refl))

pub nooped : IsAnsweredAs (msg.NoopAnswer 0x0304) (answer_head 0x5c 0x03 0x04 0x00)
unfolding dcp_frame spelling first_frame frame_of frame_row shape_fault read_of log_in
nooped = (λ v. refl, (frame_of (answer_head 0x5c 0x03 0x04 0x00), refl, refl))

pub log : IsAnsweredAs (msg.LogAnswer 0 some_log) log_answer_bytes
unfolding dcp_frame spelling first_frame frame_of frame_row shape_fault read_of log_in
log = (λ v. refl, (frame_of log_answer_bytes, refl, refl))

pub refused : IsAnsweredAs (msg.LogAnswer 0x0304 []) (answer_head 0x54 0x03 0x04 0x00)
unfolding dcp_frame spelling first_frame frame_of frame_row shape_fault read_of log_in
refused = (λ v. refl, (frame_of (answer_head 0x54 0x03 0x04 0x00), refl, refl))

pub stated : IsAnsweredAs (msg.StateAnswer 0x0304) (answer_head 0x5b 0x03 0x04 0x00)
unfolding dcp_frame spelling first_frame frame_of frame_row shape_fault read_of log_in
stated = (λ v. refl, (frame_of (answer_head 0x5b 0x03 0x04 0x00), refl, refl))

pub heads : IsReadAs (bare_bytes 0x52 1 some_cas) msg.CloseStream × IsReadAs (bare_bytes 0x54 1 some_cas) msg.GetFailoverLog
    × IsReadAs (bare_bytes 0x5c 1 some_cas) msg.Noop × IsReadAs (buffer_bytes 1 some_cas) (msg.BufferAcknowledgement 0x01020304) × IsReadAs (state_bytes 1 some_cas 3) (msg.SetVbucketState role.Pending)
unfolding first_frame frame_of frame_row shape_fault read_of
heads = (
  (frame_of (bare_bytes 0x52 1 some_cas), refl, refl),
  (frame_of (bare_bytes 0x54 1 some_cas), refl, refl),
  (frame_of (bare_bytes 0x5c 1 some_cas), refl, refl),
  (frame_of (buffer_bytes 1 some_cas), refl, refl),
  (frame_of (state_bytes 1 some_cas 3), refl, refl),
)
