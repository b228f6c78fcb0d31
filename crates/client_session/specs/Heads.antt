-- what stands in front of the bodies of answers
use Rattle.std.specs.Prelude.{ℕ, List, [], ◌∷◌}
use Rattle.mcbp_frame.specs.declared.frame.Frame.{Frame}
use Rattle.mcbp_kv.specs.Answers.{datatype_for}
use Rattle.mcbp_kv.specs.Replies.{reply_with}
use Rattle.mcbp_kv.specs.declared.reply.ReplyHead.{ReplyHead}
use Rattle.vb_types.specs.declared.doc.Doc.{Doc}
use Rattle.vb_types.specs.declared.status.Status.{Status}
use Rattle.vb_types.specs.declared.status.Status.TheVariants as status
use Rattle.client_session.specs.declared.session.Settings.{Settings}
use Rattle.client_session.specs.Answers.{reply_line}
use Rattle.client_session.specs.Serving.{Served, with_lines}

-- an empty body, with this status
abbrev pub bare_head : ℕ → Status → ℕ → ReplyHead
bare_head code said opaque = record { opcode = code; status = said; opaque = opaque; cas = 0; datatype = 0 }

-- a write that was made with this CAS
abbrev pub stored_head : ℕ → ℕ → ℕ → ReplyHead
stored_head code opaque cas = record (bare_head code status.Success opaque) { cas = cas }

-- a document that was found
abbrev pub found_head : Settings → Frame → Doc → ReplyHead
found_head settings f doc = record (stored_head f.opcode f.opaque doc.cas) { datatype = datatype_for settings.json doc }

-- the answer of a head, these extras and this value is told
abbrev pub answered : Served → ReplyHead → List ℕ → List ℕ → Served
answered s head extras value = with_lines s (reply_line s.session.who.node s.session.who.client (reply_with head extras value) ∷ [])
