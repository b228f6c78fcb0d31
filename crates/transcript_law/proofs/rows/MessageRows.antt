-- answers to OPEN, CONTROL and other messages of DCP, judged by hand
use Rattle.std.specs.Prelude.{◌≡◌, ◌==◌, ℕ, false, List, [], ◌∷◌, codes, replicate}
use Rattle.std.proofs.Common.{refl, arith}
unfoldable use Rattle.dcp_producer.specs.Sizes.{size_of}
unfoldable use Rattle.mcbp_dcp.specs.DcpFrames.{dcp_frame}
unfoldable use Rattle.mcbp_dcp.specs.Messages.{read_of}
unfoldable use Rattle.mcbp_dcp.specs.Rows.{frame_row}
unfoldable use Rattle.mcbp_dcp.specs.Shapes.{shape_fault}
use Rattle.mcbp_dcp.specs.declared.message.DcpMsg.TheVariants as msg
use Rattle.mcbp_frame.specs.declared.frame.Frame.{Frame}
use Rattle.vb_types.specs.Statuses.{status_code}
use Rattle.vb_types.specs.declared.status.Status.{Status}
use Rattle.vb_types.specs.declared.status.Status.TheVariants as status
use Rattle.transcript_law.proofs.answers.Statuses.{alone}
use Rattle.transcript_law.specs.LawfulMessages.{IsStatus}
use Rattle.transcript_law.specs.MessageRows.{Fits, IsTold, asks, formless, fresh, opens, over, sets, stated, status_to, typed, value_to}

-- a status is no other
pub never : (f : Frame) (st said : Status) → (status_code st == status_code said) ≡ false → IsStatus f (status_to f f.opaque st) said → ⊥
never f st said other l = let same : status_code st ≡ status_code said = l.header.status in absurd (grind (arith, other, same))

-- and no value is none
some_value : ◌≡◌ {A = List ℕ} (1 ∷ []) [] → ⊥
some_value e = cc

-- ---- OPEN

pub openings_opens : IsTold fresh (opens 1) status.Success
unfolding dcp_frame read_of frame_row shape_fault
openings_opens = alone (opens 1) status.Success

pub openings_opens_refused : IsTold fresh (opens 1) status.Einval → ⊥
unfolding dcp_frame read_of frame_row shape_fault
openings_opens_refused l = never (opens 1) status.Einval status.Success refl l

pub openings_opens_unsupported : IsTold fresh (opens 1) status.NotSupported → ⊥
unfolding dcp_frame read_of frame_row shape_fault
openings_opens_unsupported l = never (opens 1) status.NotSupported status.Success refl l

pub openings_consumer : IsTold fresh (opens 0) status.NotSupported
unfolding dcp_frame read_of frame_row shape_fault
openings_consumer = alone (opens 0) status.NotSupported

pub openings_consumer_opens : IsTold fresh (opens 0) status.Success → ⊥
unfolding dcp_frame read_of frame_row shape_fault
openings_consumer_opens l = never (opens 0) status.Success status.NotSupported refl l

pub openings_consumer_refused : IsTold fresh (opens 0) status.Einval → ⊥
unfolding dcp_frame read_of frame_row shape_fault
openings_consumer_refused l = never (opens 0) status.Einval status.NotSupported refl l

pub openings_flags : IsTold fresh (opens 2) status.Einval
unfolding dcp_frame read_of frame_row shape_fault
openings_flags = alone (opens 2) status.Einval

pub openings_flags_open : IsTold fresh (opens 2) status.Success → ⊥
unfolding dcp_frame read_of frame_row shape_fault
openings_flags_open l = never (opens 2) status.Success status.Einval refl l

pub openings_more_flags : IsTold fresh (opens 3) status.Einval
unfolding dcp_frame read_of frame_row shape_fault
openings_more_flags = alone (opens 3) status.Einval

pub openings_more_flags_open : IsTold fresh (opens 3) status.Success → ⊥
unfolding dcp_frame read_of frame_row shape_fault
openings_more_flags_open l = never (opens 3) status.Success status.Einval refl l

pub openings_again : IsTold over (opens 1) status.Einval
unfolding dcp_frame read_of frame_row shape_fault
openings_again = alone (opens 1) status.Einval

pub openings_again_opens : IsTold over (opens 1) status.Success → ⊥
unfolding dcp_frame read_of frame_row shape_fault
openings_again_opens l = never (opens 1) status.Success status.Einval refl l

pub openings_again_consumer : IsTold over (opens 0) status.Einval
unfolding dcp_frame read_of frame_row shape_fault
openings_again_consumer = alone (opens 0) status.Einval

pub openings_again_unsupported : IsTold over (opens 0) status.NotSupported → ⊥
unfolding dcp_frame read_of frame_row shape_fault
openings_again_unsupported l = never (opens 0) status.NotSupported status.Einval refl l

-- ---- CONTROL

pub controls_sync : IsTold over (sets (codes "enable_sync_writes") (codes "true")) status.Success
unfolding dcp_frame read_of frame_row shape_fault size_of
controls_sync = alone (sets (codes "enable_sync_writes") (codes "true")) status.Success

pub controls_sync_refused : IsTold over (sets (codes "enable_sync_writes") (codes "true")) status.Einval → ⊥
unfolding dcp_frame read_of frame_row shape_fault size_of
controls_sync_refused l = never (sets (codes "enable_sync_writes") (codes "true")) status.Einval status.Success refl l

pub controls_no_sync : IsTold over (sets (codes "enable_sync_writes") (codes "false")) status.Success
unfolding dcp_frame read_of frame_row shape_fault size_of
controls_no_sync = alone (sets (codes "enable_sync_writes") (codes "false")) status.Success

pub controls_no_sync_refused : IsTold over (sets (codes "enable_sync_writes") (codes "false")) status.Einval → ⊥
unfolding dcp_frame read_of frame_row shape_fault size_of
controls_no_sync_refused l = never (sets (codes "enable_sync_writes") (codes "false")) status.Einval status.Success refl l

pub controls_sync_word : IsTold over (sets (codes "enable_sync_writes") (codes "yes")) status.Einval
unfolding dcp_frame read_of frame_row shape_fault size_of
controls_sync_word = alone (sets (codes "enable_sync_writes") (codes "yes")) status.Einval

pub controls_sync_word_set : IsTold over (sets (codes "enable_sync_writes") (codes "yes")) status.Success → ⊥
unfolding dcp_frame read_of frame_row shape_fault size_of
controls_sync_word_set l = never (sets (codes "enable_sync_writes") (codes "yes")) status.Success status.Einval refl l

pub controls_noop : IsTold over (sets (codes "enable_noop") (codes "true")) status.Success
unfolding dcp_frame read_of frame_row shape_fault size_of
controls_noop = alone (sets (codes "enable_noop") (codes "true")) status.Success

pub controls_noop_refused : IsTold over (sets (codes "enable_noop") (codes "true")) status.Einval → ⊥
unfolding dcp_frame read_of frame_row shape_fault size_of
controls_noop_refused l = never (sets (codes "enable_noop") (codes "true")) status.Einval status.Success refl l

pub controls_noop_number : IsTold over (sets (codes "enable_noop") (codes "1")) status.Einval
unfolding dcp_frame read_of frame_row shape_fault size_of
controls_noop_number = alone (sets (codes "enable_noop") (codes "1")) status.Einval

pub controls_noop_number_set : IsTold over (sets (codes "enable_noop") (codes "1")) status.Success → ⊥
unfolding dcp_frame read_of frame_row shape_fault size_of
controls_noop_number_set l = never (sets (codes "enable_noop") (codes "1")) status.Success status.Einval refl l

pub controls_name : IsTold over (sets (codes "consumer_name") (codes "x")) status.Success
unfolding dcp_frame read_of frame_row shape_fault size_of
controls_name = alone (sets (codes "consumer_name") (codes "x")) status.Success

pub controls_name_refused : IsTold over (sets (codes "consumer_name") (codes "x")) status.Einval → ⊥
unfolding dcp_frame read_of frame_row shape_fault size_of
controls_name_refused l = never (sets (codes "consumer_name") (codes "x")) status.Einval status.Success refl l

pub controls_long_name : IsTold over (sets (codes "consumer_name") (replicate 250 120)) status.Success
unfolding dcp_frame read_of frame_row shape_fault size_of
controls_long_name = alone (sets (codes "consumer_name") (replicate 250 120)) status.Success

pub controls_long_name_refused : IsTold over (sets (codes "consumer_name") (replicate 250 120)) status.Einval → ⊥
unfolding dcp_frame read_of frame_row shape_fault size_of
controls_long_name_refused l = never (sets (codes "consumer_name") (replicate 250 120)) status.Einval status.Success refl l

pub controls_longer_name : IsTold over (sets (codes "consumer_name") (replicate 251 120)) status.Einval
unfolding dcp_frame read_of frame_row shape_fault size_of
controls_longer_name = alone (sets (codes "consumer_name") (replicate 251 120)) status.Einval

pub controls_longer_name_set : IsTold over (sets (codes "consumer_name") (replicate 251 120)) status.Success → ⊥
unfolding dcp_frame read_of frame_row shape_fault size_of
controls_longer_name_set l = never (sets (codes "consumer_name") (replicate 251 120)) status.Success status.Einval refl l

pub controls_no_name : IsTold over (sets (codes "consumer_name") []) status.Einval
unfolding dcp_frame read_of frame_row shape_fault size_of
controls_no_name = alone (sets (codes "consumer_name") []) status.Einval

pub controls_no_name_set : IsTold over (sets (codes "consumer_name") []) status.Success → ⊥
unfolding dcp_frame read_of frame_row shape_fault size_of
controls_no_name_set l = never (sets (codes "consumer_name") []) status.Success status.Einval refl l

pub controls_interval : IsTold over (sets (codes "set_noop_interval") (codes "120")) status.Success
unfolding dcp_frame read_of frame_row shape_fault size_of
controls_interval = alone (sets (codes "set_noop_interval") (codes "120")) status.Success

pub controls_interval_refused : IsTold over (sets (codes "set_noop_interval") (codes "120")) status.Einval → ⊥
unfolding dcp_frame read_of frame_row shape_fault size_of
controls_interval_refused l = never (sets (codes "set_noop_interval") (codes "120")) status.Einval status.Success refl l

pub controls_interval_zero : IsTold over (sets (codes "set_noop_interval") (codes "007")) status.Einval
unfolding dcp_frame read_of frame_row shape_fault size_of
controls_interval_zero = alone (sets (codes "set_noop_interval") (codes "007")) status.Einval

pub controls_interval_zero_set : IsTold over (sets (codes "set_noop_interval") (codes "007")) status.Success → ⊥
unfolding dcp_frame read_of frame_row shape_fault size_of
controls_interval_zero_set l = never (sets (codes "set_noop_interval") (codes "007")) status.Success status.Einval refl l

pub controls_interval_word : IsTold over (sets (codes "set_noop_interval") (codes "true")) status.Einval
unfolding dcp_frame read_of frame_row shape_fault size_of
controls_interval_word = alone (sets (codes "set_noop_interval") (codes "true")) status.Einval

pub controls_interval_word_set : IsTold over (sets (codes "set_noop_interval") (codes "true")) status.Success → ⊥
unfolding dcp_frame read_of frame_row shape_fault size_of
controls_interval_word_set l = never (sets (codes "set_noop_interval") (codes "true")) status.Success status.Einval refl l

pub controls_size : IsTold over (sets (codes "connection_buffer_size") (codes "4294967295")) status.Success
unfolding dcp_frame read_of frame_row shape_fault size_of
controls_size = alone (sets (codes "connection_buffer_size") (codes "4294967295")) status.Success

pub controls_size_refused : IsTold over (sets (codes "connection_buffer_size") (codes "4294967295")) status.Einval → ⊥
unfolding dcp_frame read_of frame_row shape_fault size_of
controls_size_refused l = never (sets (codes "connection_buffer_size") (codes "4294967295")) status.Einval status.Success refl l

pub controls_size_over : IsTold over (sets (codes "connection_buffer_size") (codes "4294967296")) status.Einval
unfolding dcp_frame read_of frame_row shape_fault size_of
controls_size_over = alone (sets (codes "connection_buffer_size") (codes "4294967296")) status.Einval

pub controls_size_over_set : IsTold over (sets (codes "connection_buffer_size") (codes "4294967296")) status.Success → ⊥
unfolding dcp_frame read_of frame_row shape_fault size_of
controls_size_over_set l = never (sets (codes "connection_buffer_size") (codes "4294967296")) status.Success status.Einval refl l

pub controls_no_size : IsTold over (sets (codes "connection_buffer_size") []) status.Einval
unfolding dcp_frame read_of frame_row shape_fault size_of
controls_no_size = alone (sets (codes "connection_buffer_size") []) status.Einval

pub controls_no_size_set : IsTold over (sets (codes "connection_buffer_size") []) status.Success → ⊥
unfolding dcp_frame read_of frame_row shape_fault size_of
controls_no_size_set l = never (sets (codes "connection_buffer_size") []) status.Success status.Einval refl l

pub controls_unknown : IsTold over (sets (codes "enable_noops") (codes "true")) status.Einval
unfolding dcp_frame read_of frame_row shape_fault size_of
controls_unknown = alone (sets (codes "enable_noops") (codes "true")) status.Einval

pub controls_unknown_set : IsTold over (sets (codes "enable_noops") (codes "true")) status.Success → ⊥
unfolding dcp_frame read_of frame_row shape_fault size_of
controls_unknown_set l = never (sets (codes "enable_noops") (codes "true")) status.Success status.Einval refl l

pub controls_no_key : IsTold over (sets (codes "") (codes "true")) status.Einval
unfolding dcp_frame read_of frame_row shape_fault size_of
controls_no_key = alone (sets (codes "") (codes "true")) status.Einval

pub controls_no_key_set : IsTold over (sets (codes "") (codes "true")) status.Success → ⊥
unfolding dcp_frame read_of frame_row shape_fault size_of
controls_no_key_set l = never (sets (codes "") (codes "true")) status.Success status.Einval refl l

pub controls_early : IsTold fresh (sets (codes "enable_noop") (codes "true")) status.Einval
unfolding dcp_frame read_of frame_row shape_fault size_of
controls_early = alone (sets (codes "enable_noop") (codes "true")) status.Einval

pub controls_early_set : IsTold fresh (sets (codes "enable_noop") (codes "true")) status.Success → ⊥
unfolding dcp_frame read_of frame_row shape_fault size_of
controls_early_set l = never (sets (codes "enable_noop") (codes "true")) status.Success status.Einval refl l

pub controls_early_size : IsTold fresh (sets (codes "connection_buffer_size") (codes "64")) status.Einval
unfolding dcp_frame read_of frame_row shape_fault size_of
controls_early_size = alone (sets (codes "connection_buffer_size") (codes "64")) status.Einval

pub controls_early_size_set : IsTold fresh (sets (codes "connection_buffer_size") (codes "64")) status.Success → ⊥
unfolding dcp_frame read_of frame_row shape_fault size_of
controls_early_size_set l = never (sets (codes "connection_buffer_size") (codes "64")) status.Success status.Einval refl l

-- ---- other messages

pub messages_noop : IsTold over (asks msg.Noop) status.Success
unfolding dcp_frame read_of frame_row shape_fault
messages_noop = alone (asks msg.Noop) status.Success

pub messages_noop_refused : IsTold over (asks msg.Noop) status.Einval → ⊥
unfolding dcp_frame read_of frame_row shape_fault
messages_noop_refused l = never (asks msg.Noop) status.Einval status.Success refl l

pub messages_early_noop : IsTold fresh (asks msg.Noop) status.Einval
unfolding dcp_frame read_of frame_row shape_fault
messages_early_noop = alone (asks msg.Noop) status.Einval

pub messages_early_noop_succeeds : IsTold fresh (asks msg.Noop) status.Success → ⊥
unfolding dcp_frame read_of frame_row shape_fault
messages_early_noop_succeeds l = never (asks msg.Noop) status.Success status.Einval refl l

pub messages_seqno : IsTold over (asks (msg.SeqnoAcknowledged 1)) status.NotSupported
unfolding dcp_frame read_of frame_row shape_fault
messages_seqno = alone (asks (msg.SeqnoAcknowledged 1)) status.NotSupported

pub messages_seqno_succeeds : IsTold over (asks (msg.SeqnoAcknowledged 1)) status.Success → ⊥
unfolding dcp_frame read_of frame_row shape_fault
messages_seqno_succeeds l = never (asks (msg.SeqnoAcknowledged 1)) status.Success status.NotSupported refl l

pub messages_seqno_refused : IsTold over (asks (msg.SeqnoAcknowledged 1)) status.Einval → ⊥
unfolding dcp_frame read_of frame_row shape_fault
messages_seqno_refused l = never (asks (msg.SeqnoAcknowledged 1)) status.Einval status.NotSupported refl l

pub messages_early_seqno : IsTold fresh (asks (msg.SeqnoAcknowledged 1)) status.Einval
unfolding dcp_frame read_of frame_row shape_fault
messages_early_seqno = alone (asks (msg.SeqnoAcknowledged 1)) status.Einval

pub messages_early_seqno_unsupported : IsTold fresh (asks (msg.SeqnoAcknowledged 1)) status.NotSupported → ⊥
unfolding dcp_frame read_of frame_row shape_fault
messages_early_seqno_unsupported l = never (asks (msg.SeqnoAcknowledged 1)) status.NotSupported status.Einval refl l

pub messages_early_bytes : IsTold fresh (asks (msg.BufferAcknowledgement 64)) status.Einval
unfolding dcp_frame read_of frame_row shape_fault
messages_early_bytes = alone (asks (msg.BufferAcknowledgement 64)) status.Einval

pub messages_early_bytes_succeed : IsTold fresh (asks (msg.BufferAcknowledgement 64)) status.Success → ⊥
unfolding dcp_frame read_of frame_row shape_fault
messages_early_bytes_succeed l = never (asks (msg.BufferAcknowledgement 64)) status.Success status.Einval refl l

pub messages_end : IsTold over (asks (msg.StreamEnd 0)) status.Einval
unfolding dcp_frame read_of frame_row shape_fault
messages_end = alone (asks (msg.StreamEnd 0)) status.Einval

pub messages_end_succeeds : IsTold over (asks (msg.StreamEnd 0)) status.Success → ⊥
unfolding dcp_frame read_of frame_row shape_fault
messages_end_succeeds l = never (asks (msg.StreamEnd 0)) status.Success status.Einval refl l

pub messages_typed : IsTold over typed status.Einval
unfolding dcp_frame read_of frame_row shape_fault
messages_typed = alone typed status.Einval

pub messages_typed_succeeds : IsTold over typed status.Success → ⊥
unfolding dcp_frame read_of frame_row shape_fault
messages_typed_succeeds l = never typed status.Success status.Einval refl l

pub messages_formless : IsTold over formless status.Einval
unfolding dcp_frame read_of frame_row shape_fault
messages_formless = alone formless status.Einval

pub messages_formless_succeeds : IsTold over formless status.Success → ⊥
unfolding dcp_frame read_of frame_row shape_fault
messages_formless_succeeds l = never formless status.Success status.Einval refl l

pub messages_stated : IsTold over stated status.Einval
unfolding dcp_frame read_of frame_row shape_fault
messages_stated = alone stated status.Einval

pub messages_stated_succeeds : IsTold over stated status.Success → ⊥
unfolding dcp_frame read_of frame_row shape_fault
messages_stated_succeeds l = never stated status.Success status.Einval refl l

pub messages_stated_unknown : IsTold over stated status.UnknownCommand → ⊥
unfolding dcp_frame read_of frame_row shape_fault
messages_stated_unknown l = never stated status.UnknownCommand status.Einval refl l

pub messages_other_opaque : Fits over (asks msg.Noop) (status_to (asks msg.Noop) 8 status.Success) → ⊥
unfolding dcp_frame read_of frame_row shape_fault
messages_other_opaque l = let e : ◌≡◌ {A = ℕ} 8 9 = l.header.opaque in omega (arith, e)

pub messages_value : Fits over (asks msg.Noop) (value_to (asks msg.Noop)) → ⊥
unfolding dcp_frame read_of frame_row shape_fault
messages_value l = some_value l.value
