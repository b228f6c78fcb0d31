-- what requests are answered before OPEN
use Rattle.std.proofs.Common.{◌≡◌, ◌≢◌, true, false, refl, ap, ◌∙◌, subst, inl, Option, Some, None}
use Rattle.std.specs.Option.{option_map}
use Rattle.std.specs.Prelude.{if◌then◌else◌, ◌==◌}
use Rattle.std.proofs.lemmas.Bool.{false_from_ne_true, eqb-true}
use Rattle.mcbp_frame.specs.declared.frame.Frame.{Frame}
use Rattle.mcbp_frame.specs.declared.frame.TheConstants.{RESPONSE}
use Rattle.mcbp_dcp.specs.declared.message.DcpMsg.{DcpMsg}
use Rattle.mcbp_dcp.specs.declared.message.DcpMsg.TheVariants as msg
use Rattle.mcbp_dcp.specs.declared.opcode.Opcode.{Opcode}
use Rattle.mcbp_dcp.specs.declared.opcode.Opcode.TheVariants as op
use Rattle.mcbp_dcp.specs.declared.row.DcpRow.{DcpRow}
use Rattle.mcbp_dcp.specs.declared.row.DcpRow.TheVariants as row
use Rattle.mcbp_dcp.specs.Messages.{message_in, read_as, read_of}
use Rattle.mcbp_dcp.specs.Opcodes.{opcode_of}
use Rattle.mcbp_dcp.specs.Rows.{frame_row, row_by_opcode}
use Rattle.mcbp_dcp.specs.Shapes.{shape_fault}
use Rattle.mcbp_dcp.proofs.Opcodes.{number_of}
use Rattle.vb_types.specs.declared.status.Status.TheVariants as status
use Rattle.vb_calls.specs.declared.calls.VbCall.TheVariants as call
use Rattle.vb_calls.specs.Programs.{Done, Call}
use Rattle.flow_control.specs.Windows.{with_acked}
use Rattle.dcp_producer.specs.declared.desk.Handshake.TheVariants as handshake
use Rattle.dcp_producer.specs.Producers.{Served, is_open, stream_at}
use Rattle.dcp_producer.specs.Serving.{status_sent, stream_closed, log_answered, message_answered, read_answered, frame_answered}
use Rattle.dcp_producer.specs.Handshaking.{Gets, Asks, IsNoOpen, IsNoRequest}
use Rattle.dcp_producer.proofs.Handshaking.{control_refused}
use Rattle.dcp_producer.proofs.Weighing.{same_gets, asked_so, by_fault, Einval}
use Rattle.dcp_producer.proofs.Closing.{fresh_so}
use Rattle.dcp_producer.proofs.Acknowledging.{early_count}

module _ (f : Frame) (s : Served) (fresh : s.end.handshake ≡ handshake.Fresh) where
  -- each message but OPEN and a request for a stream
  early_message : (m : DcpMsg) → IsNoOpen m → IsNoRequest m → message_answered f m s ≡ Einval f s
  early_message (msg.Open number flags name) no_open no_request = absurd (no_open number flags name refl)
  early_message (msg.StreamRequest ask) no_open no_request = absurd (no_request ask refl)
  early_message (msg.Control key value) no_open no_request = ap (λ t. Done t) (control_refused f s key value (inl fresh))
  early_message (msg.SeqnoAcknowledged seq) no_open no_request = early_count f seq s fresh
  early_message (msg.BufferAcknowledgement bytes) no_open no_request =
      ap (λ h. Done (if is_open h then record s { end = record s.end { window = with_acked bytes s.end.window } } else status_sent f status.Einval s)) fresh
  early_message msg.CloseStream no_open no_request = fresh_so f s (stream_closed f s (stream_at f.vb_or_status s.end.streams)) fresh
  early_message msg.GetFailoverLog no_open no_request = fresh_so f s (Call f.vb_or_status call.Log (λ reply. Done (log_answered f s reply))) fresh
  early_message msg.Noop no_open no_request = ap (λ h. Done (status_sent f (if is_open h then status.Success else status.Einval) s)) fresh
  early_message (msg.StreamEnd reason) no_open no_request = refl
  early_message (msg.SnapshotMarker start end flags) no_open no_request = refl
  early_message (msg.Mutation change) no_open no_request = refl
  early_message (msg.Deletion change) no_open no_request = refl
  early_message (msg.Prepare change) no_open no_request = refl
  early_message (msg.Commit change) no_open no_request = refl
  early_message (msg.Abort change) no_open no_request = refl
  early_message (msg.SetVbucketState role) no_open no_request = refl
  early_message (msg.OpenAnswer code) no_open no_request = refl
  early_message (msg.ControlAnswer code) no_open no_request = refl
  early_message (msg.StreamAnswer told) no_open no_request = refl
  early_message (msg.CloseAnswer code) no_open no_request = refl
  early_message (msg.NoopAnswer code) no_open no_request = refl
  early_message (msg.LogAnswer code log) no_open no_request = refl
  early_message (msg.StateAnswer code) no_open no_request = refl

  pub early_messages : (m : DcpMsg) → IsNoOpen m → IsNoRequest m → Gets 4 handshake.Fresh f s (message_answered f m s)
  early_messages m no_open no_request =
      subst (λ h. Gets 4 h f s (message_answered f m s)) fresh (same_gets f status.Einval s (message_answered f m s) (early_message m no_open no_request))

  by_row : (r : DcpRow) → IsNoOpen (message_in r f) → IsNoRequest (message_in r f) → read_answered f (Some (read_as f r)) s ≡ Einval f s
  by_row r no_open no_request = by_fault f s (shape_fault r f) (message_in r f) (early_message (message_in r f) no_open no_request) (f.datatype == 0)

  by_opcode : (o : Option Opcode) → opcode_of f.opcode ≡ o → f.opcode ≢ 0x50 → f.opcode ≢ 0x53 → read_answered f (option_map (read_as f) (row_by_opcode o false)) s ≡ Einval f s
  by_opcode None e opens asks = refl
  by_opcode (Some op.Open) e opens asks = absurd (opens (number_of f.opcode op.Open e))
  by_opcode (Some op.StreamRequest) e opens asks = absurd (asks (number_of f.opcode op.StreamRequest e))
  by_opcode (Some op.CloseStream) e opens asks = by_row row.CloseStream (λ n m k is. absurd (cc is)) (λ ask is. absurd (cc is))
  by_opcode (Some op.GetFailoverLog) e opens asks = by_row row.GetFailoverLog (λ n m k is. absurd (cc is)) (λ ask is. absurd (cc is))
  by_opcode (Some op.StreamEnd) e opens asks = by_row row.StreamEnd (λ n m k is. absurd (cc is)) (λ ask is. absurd (cc is))
  by_opcode (Some op.SnapshotMarker) e opens asks = by_row row.SnapshotMarker (λ n m k is. absurd (cc is)) (λ ask is. absurd (cc is))
  by_opcode (Some op.Mutation) e opens asks = by_row row.Mutation (λ n m k is. absurd (cc is)) (λ ask is. absurd (cc is))
  by_opcode (Some op.Deletion) e opens asks = by_row row.Deletion (λ n m k is. absurd (cc is)) (λ ask is. absurd (cc is))
  by_opcode (Some op.SetVbucketState) e opens asks = by_row row.SetVbucketState (λ n m k is. absurd (cc is)) (λ ask is. absurd (cc is))
  by_opcode (Some op.Noop) e opens asks = by_row row.Noop (λ n m k is. absurd (cc is)) (λ ask is. absurd (cc is))
  by_opcode (Some op.BufferAcknowledgement) e opens asks = by_row row.BufferAcknowledgement (λ n m k is. absurd (cc is)) (λ ask is. absurd (cc is))
  by_opcode (Some op.Control) e opens asks = by_row row.Control (λ n m k is. absurd (cc is)) (λ ask is. absurd (cc is))
  by_opcode (Some op.Prepare) e opens asks = by_row row.Prepare (λ n m k is. absurd (cc is)) (λ ask is. absurd (cc is))
  by_opcode (Some op.SeqnoAcknowledged) e opens asks = by_row row.SeqnoAcknowledged (λ n m k is. absurd (cc is)) (λ ask is. absurd (cc is))
  by_opcode (Some op.Commit) e opens asks = by_row row.Commit (λ n m k is. absurd (cc is)) (λ ask is. absurd (cc is))
  by_opcode (Some op.Abort) e opens asks = by_row row.Abort (λ n m k is. absurd (cc is)) (λ ask is. absurd (cc is))

  read_so : f.magic ≢ RESPONSE → f.opcode ≢ 0x50 → f.opcode ≢ 0x53 → read_answered f (read_of f) s ≡ Einval f s
  unfolding read_of frame_row
  read_so asks opens requests =
      ap (λ b. read_answered f (option_map (read_as f) (row_by_opcode (opcode_of f.opcode) b)) s) (false_from_ne_true (f.magic == RESPONSE) (λ t. asks (eqb-true f.magic RESPONSE t)))
      ∙ by_opcode (opcode_of f.opcode) refl opens requests

  pub early_frames : Asks f true → f.opcode ≢ 0x50 → f.opcode ≢ 0x53 → Gets 4 handshake.Fresh f s (frame_answered f s)
  early_frames asks opens requests =
      subst (λ h. Gets 4 h f s (frame_answered f s)) fresh (same_gets f status.Einval s (frame_answered f s) (asked_so f s true asks ∙ read_so asks.0 opens requests))
