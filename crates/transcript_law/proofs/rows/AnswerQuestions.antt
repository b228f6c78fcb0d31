-- which question an answer answers, judged by hand
use Rattle.std.proofs.Common.{[], ap, arith, refl, take, ℕ, ◌++◌, ◌∙◌, ◌∷◌, ◌≡◌}
unfoldable use Rattle.mcbp_dcp.specs.DcpFrames.{dcp_frame}
use Rattle.mcbp_dcp.specs.declared.message.DcpMsg.TheVariants as msg
unfoldable use Rattle.mcbp_dcp.specs.Messages.{read_of}
unfoldable use Rattle.mcbp_dcp.specs.Rows.{frame_row}
unfoldable use Rattle.mcbp_dcp.specs.Shapes.{shape_fault}
unfoldable use Rattle.mcbp_frame.specs.Cutting.{frames_in}
unfoldable use Rattle.mcbp_frame.specs.Frames.{first_frame, frame_of}
unfoldable use Rattle.mcbp_frame.specs.Spelling.{spelling}
unfoldable use Rattle.mcbp_kv.specs.Framing.{requirement_of}
unfoldable use Rattle.mcbp_kv.specs.Requests.{request_of}
use Rattle.mcbp_frame.specs.declared.frame.TheConstants.{REQUEST}
use Rattle.mcbp_kv.specs.Answers.{bare_answer}
use Rattle.mcbp_kv.specs.Replies.{reply_frame}
use Rattle.mcbp_kv.specs.declared.opcodes.TheConstants.{HELLO, NOOP}
use Rattle.vb_types.specs.declared.status.Status.TheVariants as status
use Rattle.transcript_law.specs.AnswerRows.{LawfulOver, LawfulTo, acknowledges, answers, responds, says, sends}
use Rattle.transcript_law.specs.ClientAskRows.{opening, replies as replied}
use Rattle.transcript_law.specs.ClientRows.{noop}
use Rattle.transcript_law.proofs.rows.Answering.{answered, asked_so, bare_bytes, byte_at, bare_so, dcp_answer, no_question, noop_answer, second_byte}

pub next : LawfulTo [] (noop 9) (answers 9 ∷ [])
unfolding spelling frames_in first_frame frame_of read_of frame_row shape_fault request_of requirement_of
next = (λ z. noop_answer 9 refl refl refl refl (tt, refl), tt)

pub opaque : LawfulTo [] (noop 9) (answers 8 ∷ []) → ⊥
unfolding spelling frames_in first_frame frame_of read_of frame_row shape_fault request_of requirement_of
opaque l = let (g, s, fits) = asked_so (l.0 refl) refl refl refl in let e : ◌≡◌ {A = ℕ} 8 9 = ap (byte_at 15) (bare_bytes fits s) in omega (arith, e)

pub opcode : LawfulTo [] (noop 9) (says HELLO status.Success ∷ []) → ⊥
unfolding spelling frames_in first_frame frame_of read_of frame_row shape_fault request_of requirement_of
opcode l = let (g, s, fits) = asked_so (l.0 refl) refl refl refl in let e : ◌≡◌ {A = ℕ} 31 10 = ap (byte_at 1) (bare_bytes fits s) in omega (arith, e)

pub magic : LawfulTo [] (noop 9) (sends (record (reply_frame (bare_answer NOOP status.Success 9)) { magic = REQUEST }) ∷ []) → ⊥
unfolding spelling frames_in first_frame frame_of read_of frame_row shape_fault request_of requirement_of
magic l = let (g, s, fits) = asked_so (l.0 refl) refl refl refl in let e : ◌≡◌ {A = ℕ} 128 129 = ap (byte_at 0) (bare_bytes fits s) in omega (arith, e)

pub unasked : LawfulTo [] [] (answers 9 ∷ []) → ⊥
unfolding spelling frames_in first_frame frame_of read_of frame_row shape_fault request_of requirement_of
unasked l = no_question (l.0 refl) refl refl

pub part : LawfulTo [] (take 23 (noop 9)) (answers 9 ∷ []) → ⊥
unfolding spelling frames_in first_frame frame_of read_of frame_row shape_fault request_of requirement_of
part l = no_question (l.0 refl) refl refl

pub twice : LawfulTo [] (noop 9) (answers 9 ∷ answers 9 ∷ []) → ⊥
unfolding spelling frames_in first_frame frame_of read_of frame_row shape_fault request_of requirement_of
twice l = no_question (l.1.0 refl) refl refl

pub in_turn : LawfulTo [] (noop 8 ++ noop 9) (answers 8 ∷ answers 9 ∷ [])
unfolding spelling frames_in first_frame frame_of read_of frame_row shape_fault request_of requirement_of
in_turn = (λ z. noop_answer 8 refl refl refl refl (tt, refl), (λ z. noop_answer 9 refl refl refl refl (tt, refl), tt))

pub out_of_turn : LawfulTo [] (noop 8 ++ noop 9) (answers 9 ∷ answers 8 ∷ []) → ⊥
unfolding spelling frames_in first_frame frame_of read_of frame_row shape_fault request_of requirement_of
out_of_turn l = let (g, s, fits) = asked_so (l.0 refl) refl refl refl in let e : ◌≡◌ {A = ℕ} 9 8 = ap (byte_at 15) (bare_bytes fits s) in omega (arith, e)

pub response : LawfulTo [] responds (answers 8 ∷ []) → ⊥
unfolding spelling frames_in first_frame frame_of read_of frame_row shape_fault request_of requirement_of
response l = no_question (l.0 refl) refl refl

pub past_response : LawfulTo [] (responds ++ noop 9) (answers 9 ∷ [])
unfolding spelling frames_in first_frame frame_of read_of frame_row shape_fault request_of requirement_of
past_response = (λ z. noop_answer 9 refl refl refl refl (tt, refl), tt)

pub past_both : LawfulTo [] (responds ++ noop 8 ++ noop 9) (answers 8 ∷ answers 9 ∷ [])
unfolding spelling frames_in first_frame frame_of read_of frame_row shape_fault request_of requirement_of
past_both = (λ z. noop_answer 8 refl refl refl refl (tt, refl), (λ z. noop_answer 9 refl refl refl refl (tt, refl), tt))

pub acknowledged : LawfulOver acknowledges (replied (msg.OpenAnswer 4) 9 ∷ []) → ⊥
unfolding spelling frames_in first_frame frame_of read_of frame_row shape_fault request_of requirement_of dcp_frame
acknowledged l = no_question (l.0 refl) refl refl

pub past_acknowledged : LawfulOver (acknowledges ++ noop 9) (answers 9 ∷ [])
unfolding spelling frames_in first_frame frame_of read_of frame_row shape_fault request_of requirement_of dcp_frame
past_acknowledged = (λ z. noop_answer 9 refl refl refl refl (tt, refl), tt)

pub unopened : LawfulTo [] (acknowledges ++ noop 9) (says 93 status.Einval ∷ answers 9 ∷ [])
unfolding spelling frames_in first_frame frame_of read_of frame_row shape_fault request_of requirement_of dcp_frame
unopened = (λ z. dcp_answer (reply_frame (bare_answer 93 status.Einval 9)) refl refl refl refl refl (bare_so 93 9 status.Einval) (tt, refl), (λ z. noop_answer 9 refl refl refl refl (tt, refl), tt))

pub past_unopened : LawfulTo [] (acknowledges ++ noop 9) (answers 9 ∷ []) → ⊥
unfolding spelling frames_in first_frame frame_of read_of frame_row shape_fault request_of requirement_of dcp_frame
past_unopened l = let t = answered (l.0 refl) refl in let e : ◌≡◌ {A = ℕ} 10 93 = ap second_byte t.spelled ∙ t.opcode in omega (arith, e)

pub opened : LawfulTo [] (opening 1 ++ acknowledges ++ noop 9) (replied (msg.OpenAnswer 0) 1 ∷ answers 9 ∷ [])
unfolding spelling frames_in first_frame frame_of read_of frame_row shape_fault request_of requirement_of dcp_frame
opened = (λ z. dcp_answer (dcp_frame (msg.OpenAnswer 0) 1 0) refl refl refl refl refl (bare_so 80 1 status.Success) (tt, refl), (λ z. noop_answer 9 refl refl refl refl (tt, refl), tt))
