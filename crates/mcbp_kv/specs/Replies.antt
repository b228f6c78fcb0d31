-- answers to clients, as frames
use Rattle.std.specs.Prelude.{ℕ, ◌+◌, ◌^◌, ◌<◌, List, [], length}
use Rattle.mcbp_frame.specs.declared.frame.Frame.{Frame}
use Rattle.mcbp_frame.specs.declared.frame.TheConstants.{RESPONSE}
use Rattle.vb_types.specs.Statuses.{status_code}
use Rattle.mcbp_kv.specs.declared.reply.KvReply.{KvReply}
use Rattle.mcbp_kv.specs.declared.reply.ReplyHead.{ReplyHead}

-- a response with the reply's fields, without framing extras and key
abbrev pub reply_frame : KvReply → Frame
reply_frame r = record {
  magic = RESPONSE;
  opcode = r.opcode;
  datatype = r.datatype;
  vb_or_status = status_code r.status;
  opaque = r.opaque;
  cas = r.cas;
  framing = [];
  extras = r.extras;
  key = [];
  value = r.value;
}

-- extras and value fit their length fields
pub record ReplyFits (r : KvReply) : Type 0 where
  pub extras : length r.extras < 2 ^ 8
  pub body : length r.extras + length r.value < 2 ^ 32

-- an answer of a head, these extras and this value
abbrev pub reply_with : ReplyHead → List ℕ → List ℕ → KvReply
reply_with h extras value = record {
  opcode = h.opcode;
  status = h.status;
  opaque = h.opaque;
  cas = h.cas;
  datatype = h.datatype;
  extras = extras;
  value = value;
}
