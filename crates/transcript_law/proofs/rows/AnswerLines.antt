-- groups with answers to clients, judged by hand
use Rattle.std.proofs.Common.{[], ap, arith, inl, inr, false, refl, take, drop, ℕ, ⊎_elim, ◌++◌, ◌∷◌, ◌≡◌}
unfoldable use Rattle.mcbp_dcp.specs.Messages.{read_of}
unfoldable use Rattle.mcbp_dcp.specs.Rows.{frame_row}
unfoldable use Rattle.mcbp_dcp.specs.Shapes.{shape_fault}
unfoldable use Rattle.mcbp_frame.specs.Cutting.{frames_in}
unfoldable use Rattle.mcbp_frame.specs.Frames.{first_frame, frame_of}
unfoldable use Rattle.mcbp_frame.specs.Spelling.{spelling}
unfoldable use Rattle.mcbp_kv.specs.Framing.{requirement_of}
unfoldable use Rattle.mcbp_kv.specs.Requests.{request_of}
use Rattle.mcbp_kv.specs.Answers.{stored_answer}
use Rattle.mcbp_kv.specs.Replies.{reply_frame}
use Rattle.mcbp_kv.specs.declared.opcodes.TheConstants.{SET}
use Rattle.vb_calls.specs.Writes.{doc_refusal}
use Rattle.vb_types.specs.declared.write.Op.TheVariants as op
use Rattle.transcript_law.specs.AnswerRows.{LawfulStill, awaiting, LawfulNext, LawfulTicks, answers, comes, durably, makes, stores, writes}
use Rattle.transcript_law.specs.UnsureRows.{had_committed}
use Rattle.transcript_law.specs.ClientAskRows.{sends_none, serving, ticks, unopened}
use Rattle.transcript_law.specs.ClientRows.{LawfulOpened, asks, hangs, noop, nooped, opens, replies, waits}
use Rattle.transcript_law.specs.ClientStreamRows.{committed as committed_change, pending}
use Rattle.transcript_law.specs.Crashes.{ok}
use Rattle.transcript_law.specs.Transcripts.{first_doc, one_change}
use Rattle.transcript_law.proofs.rows.AnswerCommits.{makes_commit, only_stored, own_commit}
use Rattle.transcript_law.proofs.rows.AnswerWrites.{makes_one, no_made, refused_cas}
use Rattle.transcript_law.proofs.rows.Answering.{asked_so, bare_bytes, byte_at, first_number, no_question, noop_answer, stored_so}
use Rattle.transcript_law.proofs.rows.NextRows.{none_stored}
use Rattle.transcript_law.proofs.rows.Silent.{here_answered}
use Rattle.vb_events.specs.declared.event.Answer.TheVariants as answer
use Rattle.transcript_law.proofs.verbs.Handing.{hands_plain}

pub here : LawfulNext [] [] (comes (noop 9)) (ok (answers 9 ∷ []))
unfolding spelling frames_in first_frame frame_of read_of frame_row shape_fault request_of requirement_of
here = ((((refl, λ z. noop_answer 9 refl refl refl refl (tt, refl)), tt), refl, refl, refl, λ w no standing. cc, hands_plain _ _ _ _ refl refl, tt, tt, here_answered (serving [] (unopened [])) (comes (noop 9)) (answers 9 ∷ []) answer.Ok (λ n c e. rw e refl) refl refl, tt, (λ e. cc), (tt, tt)), tt)

pub unasked : LawfulNext [] [] sends_none (ok (answers 9 ∷ [])) → ⊥
unfolding spelling frames_in first_frame frame_of read_of frame_row shape_fault request_of requirement_of
unasked l = no_question (l.0.0.0.1 refl) refl refl

pub opaque : LawfulNext [] [] (comes (noop 9)) (ok (answers 8 ∷ [])) → ⊥
unfolding spelling frames_in first_frame frame_of read_of frame_row shape_fault request_of requirement_of
opaque l = let (g, s, fits) = asked_so (l.0.0.0.1 refl) refl refl refl in let e : ◌≡◌ {A = ℕ} 8 9 = ap (byte_at 15) (bare_bytes fits s) in omega (arith, e)

pub twice : LawfulNext [] [] (comes (noop 9)) (ok (answers 9 ∷ answers 9 ∷ [])) → ⊥
unfolding spelling frames_in first_frame frame_of read_of frame_row shape_fault request_of requirement_of
twice l = no_question (l.0.0.1.0.1 refl) refl refl

pub pieces : LawfulNext [] (take 7 (noop 9)) (comes (drop 7 (noop 9))) (ok (answers 9 ∷ []))
unfolding spelling frames_in first_frame frame_of read_of frame_row shape_fault request_of requirement_of
pieces = ((((refl, λ z. noop_answer 9 refl refl refl refl (tt, refl)), tt), refl, refl, refl, λ w no standing. cc, hands_plain _ _ _ _ refl refl, tt, tt, here_answered (serving [] (unopened (take 7 (noop 9)))) (comes (drop 7 (noop 9))) (answers 9 ∷ []) answer.Ok (λ n c e. rw e refl) refl refl, tt, (λ e. cc), (tt, tt)), tt)

pub waited : LawfulNext [] (noop 9) ticks (ok (answers 9 ∷ []))
unfolding spelling frames_in first_frame frame_of read_of frame_row shape_fault request_of requirement_of
waited = ((((refl, λ z. noop_answer 9 refl refl refl refl (tt, refl)), tt), tt, refl, refl, λ w no standing. cc, hands_plain _ _ _ _ refl refl, tt, tt, here_answered (serving [] (unopened (noop 9))) (ticks) (answers 9 ∷ []) answer.Ok (λ n c e. rw e refl) refl refl, tt, tt, (tt, tt)), tt)

pub each : LawfulTicks [] (noop 8 ++ noop 9) (ok (answers 8 ∷ []) ∷ ok (answers 9 ∷ []) ∷ []) → ⊥
unfolding spelling frames_in first_frame frame_of read_of frame_row shape_fault request_of requirement_of
each l = let a = (l.0.8 0 1 refl).asks _ refl in let e = a.asks in cc

pub again : LawfulTicks [] (noop 9) (ok (answers 9 ∷ []) ∷ ok (answers 9 ∷ []) ∷ []) → ⊥
unfolding spelling frames_in first_frame frame_of read_of frame_row shape_fault request_of requirement_of
again l = no_question (l.1.0.0.0.1 refl) refl refl

pub made : LawfulNext [] [] (comes (writes SET 0 7 8)) (ok (makes one_change ∷ stores SET 1 [] ∷ []))
unfolding spelling frames_in first_frame frame_of read_of frame_row shape_fault request_of requirement_of
made = (((makes_one _ _, ((refl, λ z. inl (record { question = _; next = refl; answer = reply_frame (stored_answer SET 9 1 []); spelled = refl; response = refl; opcode = refl; opaque = refl; calm = inl (_, refl, refl); fits = inr (record { branch = 5; change = one_change; clock = 0; older = []; alone = tt; last = refl; key = refl; cas = 1; rev = 1; act = refl; before = []; behind = refl; fits = ap (doc_refusal op.Set 0) (none_stored (7 ∷ [])); told = stored_so SET 9 1 [] }) })), tt)), refl, refl, refl, λ w no standing. cc, hands_plain _ _ _ _ refl refl, tt, tt, here_answered (serving [] (unopened [])) (comes (writes SET 0 7 8)) (makes one_change ∷ stores SET 1 [] ∷ []) answer.Ok (λ n c e. rw e refl) refl refl, (λ own. record { client = _; answer = reply_frame (stored_answer SET 9 1 []); more = _; next = refl; made = refl; cas = refl }, tt), (λ e. cc), (tt, tt)), tt)

pub made_before : LawfulTicks [] (writes SET 0 7 8) (ok (makes one_change ∷ []) ∷ ok (stores SET 1 [] ∷ []) ∷ []) → ⊥
unfolding spelling frames_in first_frame frame_of read_of frame_row shape_fault request_of requirement_of
made_before l = let (g, s, fits) = asked_so (l.1.0.0.0.1 refl) refl refl refl in ⊎_elim (λ r. let e : ◌≡◌ {A = ℕ} 1 0 = refused_cas r.1 s in omega (arith, e)) (λ m. no_made m) fits

pub committed : LawfulStill pending (durably 1 9 6) ticks (ok (makes committed_change ∷ stores SET 2 [] ∷ []))
unfolding spelling frames_in first_frame frame_of read_of frame_row shape_fault request_of requirement_of
committed = (((makes_commit _ _ _, ((refl, λ z. inl (record { question = _; next = refl; answer = reply_frame (stored_answer SET 9 2 []); spelled = refl; response = refl; opcode = refl; opaque = refl; calm = inr (inl ((_, _, refl, inl refl), (refl, tt))); fits = inr (first_number, inr (inl (record { one = had_committed; told_before = inl refl; here = refl; prepared = 2; doc = first_doc 2 (6 ∷ []); deleted = false; commits = refl; own = own_commit; told = stored_so SET 9 2 [] }))) })), tt)), tt, refl, refl, λ w no standing. cc, hands_plain _ _ _ _ refl refl, tt, tt, here_answered (awaiting (serving pending (unopened (durably 1 9 6)))) (ticks) (makes committed_change ∷ stores SET 2 [] ∷ []) answer.Ok (λ n c e. rw e refl) refl refl, (λ own. cc, tt), tt, (tt, tt)), tt)

pub committed_before : LawfulTicks pending (durably 1 9 6) (ok (makes committed_change ∷ []) ∷ ok (stores SET 2 [] ∷ []) ∷ []) → ⊥
unfolding spelling frames_in first_frame frame_of read_of frame_row shape_fault request_of requirement_of
committed_before l = let (g, s, fits) = asked_so (l.1.0.0.0.1 refl) refl refl refl in let c = only_stored fits s (omega arith) in c.told_before

pub anew : LawfulOpened (asks 1 ∷ hangs 1 ∷ opens 1 ∷ waits ∷ []) (ok [] ∷ ok [] ∷ ok [] ∷ ok (replies 0 1 (nooped 9) ∷ []) ∷ []) → ⊥
unfolding spelling frames_in first_frame frame_of read_of frame_row shape_fault request_of requirement_of
anew l = no_question (l.1.1.1.1.1.0.0.0.1 refl) refl refl
