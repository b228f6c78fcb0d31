use Rattle.transcript_law.proofs.messages.judged_messages.Goals as goal
use Rattle.transcript_law.proofs.rows.MessageRows.{messages_early_bytes, messages_early_bytes_succeed, messages_early_noop, messages_early_noop_succeeds, messages_early_seqno, messages_early_seqno_unsupported, messages_end, messages_end_succeeds, messages_formless, messages_formless_succeeds, messages_noop, messages_noop_refused, messages_other_opaque, messages_seqno, messages_seqno_refused, messages_seqno_succeeds, messages_typed, messages_typed_succeeds, messages_stated, messages_stated_succeeds, messages_stated_unknown, messages_value}

pub returns : goal.returns
returns c = record {
  noop = messages_noop;
  noop_refused = messages_noop_refused;
  early_noop = messages_early_noop;
  early_noop_succeeds = messages_early_noop_succeeds;
  seqno = messages_seqno;
  seqno_succeeds = messages_seqno_succeeds;
  seqno_refused = messages_seqno_refused;
  early_seqno = messages_early_seqno;
  early_seqno_unsupported = messages_early_seqno_unsupported;
  early_bytes = messages_early_bytes;
  early_bytes_succeed = messages_early_bytes_succeed;
  end = messages_end;
  end_succeeds = messages_end_succeeds;
  typed = messages_typed;
  typed_succeeds = messages_typed_succeeds;
  formless = messages_formless;
  formless_succeeds = messages_formless_succeeds;
  stated = messages_stated;
  stated_succeeds = messages_stated_succeeds;
  stated_unknown = messages_stated_unknown;
  other_opaque = messages_other_opaque;
  value = messages_value;
}
