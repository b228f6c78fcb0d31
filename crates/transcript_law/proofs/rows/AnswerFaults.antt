-- answers to bytes that are no frame, judged by hand
use Rattle.std.proofs.Common.{List, [], ap, arith, refl, take, ℕ, ◌++◌, ◌∷◌, ◌≡◌}
unfoldable use Rattle.mcbp_dcp.specs.Messages.{read_of}
unfoldable use Rattle.mcbp_dcp.specs.Rows.{frame_row}
unfoldable use Rattle.mcbp_dcp.specs.Shapes.{shape_fault}
unfoldable use Rattle.mcbp_frame.specs.Cutting.{frames_in}
unfoldable use Rattle.mcbp_frame.specs.Frames.{first_frame, frame_of}
unfoldable use Rattle.mcbp_frame.specs.Spelling.{spelling}
unfoldable use Rattle.mcbp_kv.specs.Framing.{requirement_of}
unfoldable use Rattle.mcbp_kv.specs.Requests.{request_of}
use Rattle.mcbp_frame.specs.declared.frame.FrameFault.TheVariants.{BadLengths, BodyTooLong}
use Rattle.mcbp_kv.specs.Answers.{bare_answer}
use Rattle.mcbp_kv.specs.Replies.{reply_frame}
use Rattle.mcbp_kv.specs.declared.opcodes.TheConstants.{GET, NOOP}
use Rattle.vb_events.specs.declared.event.Event.{Event}
use Rattle.vb_events.specs.declared.event.Event.TheVariants as event
use Rattle.vb_types.specs.declared.status.Status.TheVariants as status
use Rattle.transcript_law.specs.AnswerRows.{LawfulTo, answers, broken, says, sends, shuts, shuts_other, strange, vast}
use Rattle.transcript_law.specs.ClientRows.{noop}
use Rattle.transcript_law.proofs.rows.Answering.{asked_so, bare_bytes, byte_at, fault_answer, fault_bytes, faulted, no_question, noop_answer, unnamed_fault}

-- another line stands there than the one that tells of the end
no_line : (more : List Event) → [] ≡ event.Closed 0 1 ∷ more → ⊥
no_line more e = cc

no_other : (rest more : List Event) → event.Closed 0 2 ∷ rest ≡ event.Closed 0 1 ∷ more → ⊥
no_other rest more e = let n : ◌≡◌ {A = ℕ} 2 1 = cc in omega (arith, n)

pub closes : LawfulTo [] broken (says NOOP status.Einval ∷ shuts ∷ [])
unfolding spelling frames_in first_frame frame_of read_of frame_row shape_fault request_of requirement_of
closes = (λ z. fault_answer BadLengths (record { opcode = 10; opaque = 9 }) refl refl refl (tt, refl), ((λ opened. refl), tt))

pub long : LawfulTo [] vast (says NOOP status.Einval ∷ shuts ∷ [])
unfolding spelling frames_in first_frame frame_of read_of frame_row shape_fault request_of requirement_of
long = (λ z. fault_answer BodyTooLong (record { opcode = 10; opaque = 9 }) refl refl refl (tt, refl), ((λ opened. refl), tt))

pub stays : LawfulTo [] broken (says NOOP status.Einval ∷ []) → ⊥
unfolding spelling frames_in first_frame frame_of read_of frame_row shape_fault request_of requirement_of
stays l = let f = faulted (l.0 refl) refl in no_line f.closes.0 f.closes.1

pub later : LawfulTo [] broken (says NOOP status.Einval ∷ shuts_other ∷ shuts ∷ []) → ⊥
unfolding spelling frames_in first_frame frame_of read_of frame_row shape_fault request_of requirement_of
later l = let f = faulted (l.0 refl) refl in no_other _ f.closes.0 f.closes.1

pub opaque : LawfulTo [] broken (sends (reply_frame (bare_answer NOOP status.Einval 8)) ∷ shuts ∷ []) → ⊥
unfolding spelling frames_in first_frame frame_of read_of frame_row shape_fault request_of requirement_of
opaque l = let e : ◌≡◌ {A = ℕ} 8 9 = ap (byte_at 15) (fault_bytes (faulted (l.0 refl) refl) refl refl) in omega (arith, e)

pub opcode : LawfulTo [] broken (says GET status.Einval ∷ shuts ∷ []) → ⊥
unfolding spelling frames_in first_frame frame_of read_of frame_row shape_fault request_of requirement_of
opcode l = let e : ◌≡◌ {A = ℕ} 0 10 = ap (byte_at 1) (fault_bytes (faulted (l.0 refl) refl) refl refl) in omega (arith, e)

pub success : LawfulTo [] broken (says NOOP status.Success ∷ shuts ∷ []) → ⊥
unfolding spelling frames_in first_frame frame_of read_of frame_row shape_fault request_of requirement_of
success l = let e : ◌≡◌ {A = ℕ} 0 4 = ap (byte_at 7) (fault_bytes (faulted (l.0 refl) refl) refl refl) in omega (arith, e)

pub behind : LawfulTo [] (noop 9 ++ broken) (answers 9 ∷ says NOOP status.Einval ∷ shuts ∷ [])
unfolding spelling frames_in first_frame frame_of read_of frame_row shape_fault request_of requirement_of
behind = (λ z. noop_answer 9 refl refl refl refl (tt, refl), (λ z. fault_answer BadLengths (record { opcode = 10; opaque = 9 }) refl refl refl (tt, refl), ((λ opened. refl), tt)))

pub early : LawfulTo [] (noop 9 ++ broken) (says NOOP status.Einval ∷ shuts ∷ []) → ⊥
unfolding spelling frames_in first_frame frame_of read_of frame_row shape_fault request_of requirement_of
early l = let (g, s, fits) = asked_so (l.0 refl) refl refl refl in let e : ◌≡◌ {A = ℕ} 4 0 = ap (byte_at 7) (bare_bytes fits s) in omega (arith, e)

pub unnamed : LawfulTo [] strange (says NOOP status.Einval ∷ shuts ∷ []) → ⊥
unfolding spelling frames_in first_frame frame_of read_of frame_row shape_fault request_of requirement_of
unnamed l = unnamed_fault (faulted (l.0 refl) refl) refl refl

pub part : LawfulTo [] (take 23 broken) (says NOOP status.Einval ∷ shuts ∷ []) → ⊥
unfolding spelling frames_in first_frame frame_of read_of frame_row shape_fault request_of requirement_of
part l = no_question (l.0 refl) refl refl
