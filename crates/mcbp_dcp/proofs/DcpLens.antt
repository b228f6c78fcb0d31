-- how long messages are
use Rattle.std.proofs.Common.{◌≡◌, ℕ, arith}
use Rattle.mcbp_frame.specs.Frames.{frame_len}
use Rattle.mcbp_dcp.specs.declared.message.DcpMsg.{DcpMsg}
use Rattle.mcbp_dcp.specs.declared.message.DcpMsg.TheVariants as msg
use Rattle.mcbp_dcp.specs.declared.message.StreamVerdict.TheVariants as told
use Rattle.mcbp_dcp.specs.DcpFrames.{dcp_frame}
use Rattle.mcbp_dcp.specs.DcpLaws.{dcp_len}
use Rattle.mcbp_dcp.proofs.WireLogs.{length_log}

pub length_dcp : (m : DcpMsg) (opaque v : ℕ) → frame_len (dcp_frame m opaque v) ≡ dcp_len m
unfolding dcp_frame
length_dcp (msg.Open number flags name) opaque v = omega arith
length_dcp (msg.Control key value) opaque v = omega arith
length_dcp (msg.StreamRequest ask) opaque v = omega arith
length_dcp (msg.StreamEnd reason) opaque v = omega arith
length_dcp (msg.SnapshotMarker start end flags) opaque v = omega arith
length_dcp (msg.Mutation change) opaque v = omega arith
length_dcp (msg.Deletion change) opaque v = omega arith
length_dcp (msg.Prepare change) opaque v = omega arith
length_dcp (msg.Commit change) opaque v = omega arith
length_dcp (msg.Abort change) opaque v = omega arith
length_dcp (msg.SeqnoAcknowledged seq) opaque v = omega arith
length_dcp msg.CloseStream opaque v = omega arith
length_dcp msg.GetFailoverLog opaque v = omega arith
length_dcp msg.Noop opaque v = omega arith
length_dcp (msg.BufferAcknowledgement bytes) opaque v = omega arith
length_dcp (msg.SetVbucketState role) opaque v = omega arith
length_dcp (msg.OpenAnswer status) opaque v = omega arith
length_dcp (msg.ControlAnswer status) opaque v = omega arith
length_dcp (msg.StreamAnswer (told.Go log)) opaque v = omega (arith, length_log log)
length_dcp (msg.StreamAnswer (told.Roll point)) opaque v = omega arith
length_dcp (msg.StreamAnswer (told.Refused status)) opaque v = omega arith
length_dcp (msg.CloseAnswer status) opaque v = omega arith
length_dcp (msg.NoopAnswer status) opaque v = omega arith
length_dcp (msg.LogAnswer status log) opaque v = omega (arith, length_log log)
length_dcp (msg.StateAnswer status) opaque v = omega arith
