-- durable writes of a connection that has used most of its numbers, or all, judged by hand
use Rattle.std.proofs.Common.{[], ap, arith, inl, inr, refl, true, false, ℕ, ⊎_elim, ◌++◌, ◌∷◌, ◌≡◌}
use Rattle.std.specs.Prelude.{◌<◌, ◌+◌, ◌-◌, ◌^◌, Some, None}
unfoldable use Rattle.mcbp_dcp.specs.Messages.{read_of}
unfoldable use Rattle.mcbp_dcp.specs.Rows.{frame_row}
unfoldable use Rattle.mcbp_dcp.specs.Shapes.{shape_fault}
unfoldable use Rattle.mcbp_frame.specs.Cutting.{frames_in}
unfoldable use Rattle.mcbp_frame.specs.Frames.{first_frame, frame_of}
unfoldable use Rattle.mcbp_frame.specs.Spelling.{spelling}
unfoldable use Rattle.mcbp_kv.specs.Framing.{requirement_of}
unfoldable use Rattle.mcbp_kv.specs.Requests.{request_of}
use Rattle.mcbp_kv.specs.Answers.{bare_answer}
use Rattle.mcbp_kv.specs.Replies.{reply_frame}
use Rattle.mcbp_kv.specs.declared.opcodes.TheConstants.{SET}
use Rattle.vb_types.specs.declared.status.Status.TheVariants as status
use Rattle.transcript_law.specs.AnswerRows.{LawfulBehind, LawfulFar, answers, durably, says, writes}
use Rattle.transcript_law.specs.UnsureRows.{LawfulGone, LawfulGoneTold}
use Rattle.transcript_law.specs.ClientRows.{noop as noop_of}
use Rattle.transcript_law.specs.ClientStreamRows.{pending}
use Rattle.transcript_law.specs.LawfulAnswers.{HasNumber, WRITE_NUMBERS}
use Rattle.transcript_law.proofs.rows.AnswerDurables.{possible_alone}
use Rattle.transcript_law.proofs.rows.AnswerUnsure.{gone}
use Rattle.transcript_law.proofs.rows.AnswerRefusals.{none_waits, unfit_is, why_away, why_locked}
use Rattle.transcript_law.proofs.rows.Answering.{asked_so, bare_bytes, bare_so, byte_at, noop_answer}
use Rattle.transcript_law.proofs.rows.ClientStreamVerdicts.{no_active}
use Rattle.transcript_law.proofs.rows.NextRows.{none_pending, none_stored}
use Rattle.transcript_law.proofs.rows.WaitingKeys.{nine_waits, waits}

-- ---- numbers

-- behind all but one, one is left
pub last_number : HasNumber (2 ^ 32 - 2)
last_number = omega arith

last_lacks : WRITE_NUMBERS < (2 ^ 32 - 2) + 1 → ⊥
last_lacks over = omega (arith, over)

-- and behind all none
all_used : WRITE_NUMBERS < (2 ^ 32 - 1) + 1
all_used = omega arith

pub number_none : HasNumber (2 ^ 32 - 1) → ⊥
number_none left = omega (arith, left)

-- ---- transcripts

pub last : LawfulGone (2 ^ 32 - 2) (durably 1 9 6) (says SET status.SyncWriteAmbiguous ∷ [])
unfolding spelling frames_in first_frame frame_of read_of frame_row shape_fault request_of requirement_of
last = (λ z. inl (record { question = _; next = refl; answer = reply_frame (bare_answer SET status.SyncWriteAmbiguous 9); spelled = refl; response = refl; opcode = refl; opaque = refl; calm = inr (inl ((_, _, refl, inr refl), tt)); fits = inr (last_number, inr (inr (record { said = bare_so SET 9 status.SyncWriteAmbiguous; own = gone }))) }), tt)

pub last_spent : LawfulBehind (2 ^ 32 - 2) [] (durably 1 7 8) (says SET status.Etmpfail ∷ []) → ⊥
unfolding spelling frames_in first_frame frame_of read_of frame_row shape_fault request_of requirement_of
last_spent l = let (g, s, fits) = asked_so (l.0 refl) refl refl refl in ⊎_elim (λ a. last_lacks a.0) (λ x. ⊎_elim (λ r. ⊎_elim (λ d. let z : None ≡ Some r.0 = d in cc) (λ b. ⊎_elim (λ full. let lack = none_waits [] none_pending 2 r.0 full in omega (arith, lack)) (λ no. let z : true ≡ false = no.0 in cc) b) (unfit_is r.2 refl (none_pending (7 ∷ [])) (none_stored (7 ∷ [])))) (λ o. ⊎_elim (λ c. absurd c.told_before) (λ a. let e : ◌≡◌ {A = ℕ} 134 163 = ap (byte_at 7) (bare_bytes a.said s) in omega (arith, e)) o) x.1) fits

pub spent : LawfulBehind (2 ^ 32 - 1) [] (durably 1 7 8) (says SET status.Etmpfail ∷ [])
unfolding spelling frames_in first_frame frame_of read_of frame_row shape_fault request_of requirement_of
spent = (λ z. inl (record { question = _; next = refl; answer = reply_frame (bare_answer SET status.Etmpfail 9); spelled = refl; response = refl; opcode = refl; opaque = refl; calm = inr (inr (tt, refl)); fits = inl (all_used, bare_so SET 9 status.Etmpfail) }), tt)

pub spent_unsure : LawfulGone (2 ^ 32 - 1) (durably 1 9 6) (says SET status.SyncWriteAmbiguous ∷ []) → ⊥
unfolding spelling frames_in first_frame frame_of read_of frame_row shape_fault request_of requirement_of
spent_unsure l = let (g, s, fits) = asked_so (l.0 refl) refl refl refl in ⊎_elim (λ a. let e : ◌≡◌ {A = ℕ} 163 134 = ap (byte_at 7) (bare_bytes a.1 s) in omega (arith, e)) (λ x. number_none x.0) fits

pub spent_locked : LawfulBehind (2 ^ 32 - 1) pending (durably 1 9 4) (says SET status.SyncWriteInProgress ∷ []) → ⊥
unfolding spelling frames_in first_frame frame_of read_of frame_row shape_fault request_of requirement_of
spent_locked l = let (g, s, fits) = asked_so (l.0 refl) refl refl refl in ⊎_elim (λ a. let e : ◌≡◌ {A = ℕ} 162 134 = ap (byte_at 7) (bare_bytes a.1 s) in omega (arith, e)) (λ x. number_none x.0) fits

pub spent_far : LawfulFar (2 ^ 32 - 1) (durably 1 7 8) (says SET status.Etmpfail ∷ [])
unfolding spelling frames_in first_frame frame_of read_of frame_row shape_fault request_of requirement_of
spent_far = (λ z. inl (record { question = _; next = refl; answer = reply_frame (bare_answer SET status.Etmpfail 9); spelled = refl; response = refl; opcode = refl; opaque = refl; calm = inr (inr (tt, refl)); fits = inl (all_used, bare_so SET 9 status.Etmpfail) }), tt)

pub spent_away : LawfulFar (2 ^ 32 - 1) (durably 1 7 8) (says SET status.NotMyVbucket ∷ []) → ⊥
unfolding spelling frames_in first_frame frame_of read_of frame_row shape_fault request_of requirement_of
spent_away l = let (g, s, fits) = asked_so (l.0 refl) refl refl refl in ⊎_elim (λ a. let e : ◌≡◌ {A = ℕ} 7 134 = ap (byte_at 7) (bare_bytes a.1 s) in omega (arith, e)) (λ x. number_none x.0) fits

pub plain : LawfulFar (2 ^ 32 - 1) (writes SET 0 7 8) (says SET status.NotMyVbucket ∷ [])
unfolding spelling frames_in first_frame frame_of read_of frame_row shape_fault request_of requirement_of
plain = (λ z. inl (record { question = _; next = refl; answer = reply_frame (bare_answer SET status.NotMyVbucket 9); spelled = refl; response = refl; opcode = refl; opaque = refl; calm = inr (inr (tt, refl)); fits = inl (status.NotMyVbucket, bare_so SET 9 status.NotMyVbucket, why_away no_active) }), tt)

pub next : LawfulGoneTold (2 ^ 32 - 2) (durably 1 9 6 ++ durably 1 9 6) (says SET status.SyncWriteAmbiguous ∷ says SET status.Etmpfail ∷ [])
unfolding spelling frames_in first_frame frame_of read_of frame_row shape_fault request_of requirement_of
next = (λ z. inl (record { question = _; next = refl; answer = reply_frame (bare_answer SET status.SyncWriteAmbiguous 9); spelled = refl; response = refl; opcode = refl; opaque = refl; calm = inr (inr ((refl, tt), refl)); fits = inr (last_number, inr (inr (record { said = bare_so SET 9 status.SyncWriteAmbiguous; own = gone }))) }), (λ z. inl (record { question = _; next = refl; answer = reply_frame (bare_answer SET status.Etmpfail 9); spelled = refl; response = refl; opcode = refl; opaque = refl; calm = inr (inr ((refl, tt), refl)); fits = inl (all_used, bare_so SET 9 status.Etmpfail) }), tt))

pub next_unsure : LawfulGoneTold (2 ^ 32 - 2) (durably 1 9 6 ++ durably 1 9 6) (says SET status.SyncWriteAmbiguous ∷ says SET status.SyncWriteAmbiguous ∷ []) → ⊥
unfolding spelling frames_in first_frame frame_of read_of frame_row shape_fault request_of requirement_of
next_unsure l = let (g, s, fits) = asked_so (l.1.0 refl) refl refl refl in ⊎_elim (λ a. let e : ◌≡◌ {A = ℕ} 163 134 = ap (byte_at 7) (bare_bytes a.1 s) in omega (arith, e)) (λ x. number_none x.0) fits

pub refused : LawfulBehind (2 ^ 32 - 2) pending (durably 1 9 4 ++ durably 1 9 4) (says SET status.SyncWriteInProgress ∷ says SET status.Etmpfail ∷ [])
unfolding spelling frames_in first_frame frame_of read_of frame_row shape_fault request_of requirement_of
refused = (λ z. inl (record { question = _; next = refl; answer = reply_frame (bare_answer SET status.SyncWriteInProgress 9); spelled = refl; response = refl; opcode = refl; opaque = refl; calm = inr (inr (tt, refl)); fits = inr (last_number, inl (status.SyncWriteInProgress, bare_so SET 9 status.SyncWriteInProgress, why_locked {p = waits} refl nine_waits (omega arith), λ a e. possible_alone e)) }), (λ z. inl (record { question = _; next = refl; answer = reply_frame (bare_answer SET status.Etmpfail 9); spelled = refl; response = refl; opcode = refl; opaque = refl; calm = inr (inr (tt, refl)); fits = inl (all_used, bare_so SET 9 status.Etmpfail) }), tt))

pub noop : LawfulBehind (2 ^ 32 - 2) pending (noop_of 9 ++ durably 1 9 4) (answers 9 ∷ says SET status.SyncWriteInProgress ∷ [])
unfolding spelling frames_in first_frame frame_of read_of frame_row shape_fault request_of requirement_of
noop = (λ z. noop_answer 9 refl refl refl refl (tt, refl), (λ z. inl (record { question = _; next = refl; answer = reply_frame (bare_answer SET status.SyncWriteInProgress 9); spelled = refl; response = refl; opcode = refl; opaque = refl; calm = inr (inr (tt, refl)); fits = inr (last_number, inl (status.SyncWriteInProgress, bare_so SET 9 status.SyncWriteInProgress, why_locked {p = waits} refl nine_waits (omega arith), λ a e. possible_alone e)) }), tt))

pub noop_spent : LawfulBehind (2 ^ 32 - 2) [] (noop_of 9 ++ durably 1 7 8) (answers 9 ∷ says SET status.Etmpfail ∷ []) → ⊥
unfolding spelling frames_in first_frame frame_of read_of frame_row shape_fault request_of requirement_of
noop_spent l = let (g, s, fits) = asked_so (l.1.0 refl) refl refl refl in ⊎_elim (λ a. last_lacks a.0) (λ x. ⊎_elim (λ r. ⊎_elim (λ d. let z : None ≡ Some r.0 = d in cc) (λ b. ⊎_elim (λ full. let lack = none_waits [] none_pending 2 r.0 full in omega (arith, lack)) (λ no. let z : true ≡ false = no.0 in cc) b) (unfit_is r.2 refl (none_pending (7 ∷ [])) (none_stored (7 ∷ [])))) (λ o. ⊎_elim (λ c. absurd c.told_before) (λ a. let e : ◌≡◌ {A = ℕ} 134 163 = ap (byte_at 7) (bare_bytes a.said s) in omega (arith, e)) o) x.1) fits

pub plain_counts : LawfulBehind (2 ^ 32 - 2) pending (writes SET 0 9 4 ++ durably 1 9 4) (says SET status.SyncWriteInProgress ∷ says SET status.SyncWriteInProgress ∷ [])
unfolding spelling frames_in first_frame frame_of read_of frame_row shape_fault request_of requirement_of
plain_counts = (λ z. inl (record { question = _; next = refl; answer = reply_frame (bare_answer SET status.SyncWriteInProgress 9); spelled = refl; response = refl; opcode = refl; opaque = refl; calm = inr (inr (tt, refl)); fits = inl (status.SyncWriteInProgress, bare_so SET 9 status.SyncWriteInProgress, why_locked {p = waits} refl nine_waits (omega arith)) }), (λ z. inl (record { question = _; next = refl; answer = reply_frame (bare_answer SET status.SyncWriteInProgress 9); spelled = refl; response = refl; opcode = refl; opaque = refl; calm = inr (inr (tt, refl)); fits = inr (last_number, inl (status.SyncWriteInProgress, bare_so SET 9 status.SyncWriteInProgress, why_locked {p = waits} refl nine_waits (omega arith), λ a e. possible_alone e)) }), tt))
