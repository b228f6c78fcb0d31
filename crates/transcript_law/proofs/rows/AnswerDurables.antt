-- answers to durable writes, judged by hand
use Rattle.std.proofs.Common.{[], ap, arith, inl, inr, refl, true, false, ℕ, ⊎_elim, ◌∷◌, ◌≡◌}
use Rattle.std.specs.Prelude.{Some, None}
unfoldable use Rattle.mcbp_dcp.specs.Messages.{read_of}
unfoldable use Rattle.mcbp_dcp.specs.Rows.{frame_row}
unfoldable use Rattle.mcbp_dcp.specs.Shapes.{shape_fault}
unfoldable use Rattle.mcbp_frame.specs.Cutting.{frames_in}
unfoldable use Rattle.mcbp_frame.specs.Frames.{first_frame, frame_of}
unfoldable use Rattle.mcbp_frame.specs.Spelling.{spelling}
unfoldable use Rattle.mcbp_kv.specs.Framing.{requirement_of}
unfoldable use Rattle.mcbp_kv.specs.Requests.{request_of}
use Rattle.mcbp_kv.specs.Answers.{bare_answer}
use Rattle.mcbp_kv.specs.Replies.{reply_frame}
use Rattle.mcbp_kv.specs.declared.opcodes.TheConstants.{SET}
use Rattle.vb_types.specs.declared.status.Status.TheVariants as status
use Rattle.transcript_law.specs.AnswerRows.{LawfulAmong, LawfulAway, LawfulTo, durably, says, writes}
use Rattle.transcript_law.specs.ClientStreamRows.{pending}
use Rattle.transcript_law.proofs.rows.AnswerRefusals.{none_waits, status_byte, unfit_is, why_away, why_besides, why_locked}
use Rattle.transcript_law.proofs.rows.AnswerWrites.{no_made}
use Rattle.transcript_law.proofs.rows.Answering.{asked_so, bare_bytes, bare_so, byte_at, first_number, kv_answer, none_lacks}
use Rattle.transcript_law.proofs.rows.ClientStreamVerdicts.{no_active}
use Rattle.transcript_law.proofs.rows.NextRows.{none_pending, none_stored}
use Rattle.transcript_law.proofs.rows.WaitingKeys.{nine_waits, waits}

-- a node alone is a majority of its chain
pub possible_alone : {A : Type 0} → true ≡ false → A
possible_alone e = cc

pub impossible : LawfulAmong (None ∷ []) [] (durably 1 7 8) (says SET status.DurabilityImpossible ∷ [])
unfolding spelling frames_in first_frame frame_of read_of frame_row shape_fault request_of requirement_of
impossible = (λ z. inl (record { question = _; next = refl; answer = reply_frame (bare_answer SET status.DurabilityImpossible 9); spelled = refl; response = refl; opcode = refl; opaque = refl; calm = inr (inr (tt, refl)); fits = inr (first_number, inl (status.DurabilityImpossible, bare_so SET 9 status.DurabilityImpossible, why_besides refl (inr (refl, refl)), λ a e. refl)) }), tt)

pub possible : LawfulTo [] (durably 1 7 8) (says SET status.DurabilityImpossible ∷ []) → ⊥
unfolding spelling frames_in first_frame frame_of read_of frame_row shape_fault request_of requirement_of
possible l = let (g, s, fits) = asked_so (l.0 refl) refl refl refl in ⊎_elim (λ a. let e : ◌≡◌ {A = ℕ} 161 134 = ap (byte_at 7) (bare_bytes a.1 s) in omega (arith, e)) (λ x. ⊎_elim (λ r. ⊎_elim (λ d. let z : None ≡ Some r.0 = d in cc) (λ b. ⊎_elim (λ full. let e : ◌≡◌ {A = ℕ} 161 134 = status_byte status.Etmpfail r.1 s full.said in omega (arith, e)) (λ no. let z : true ≡ false = no.0 in cc) b) (unfit_is r.2 refl (none_pending (7 ∷ [])) (none_stored (7 ∷ [])))) (λ o. ⊎_elim (λ c. absurd c.told_before) (λ a. let e : ◌≡◌ {A = ℕ} 161 163 = ap (byte_at 7) (bare_bytes a.said s) in omega (arith, e)) o) x.1) fits

pub impossible_first : LawfulAmong (None ∷ []) pending (durably 1 9 4) (says SET status.DurabilityImpossible ∷ [])
unfolding spelling frames_in first_frame frame_of read_of frame_row shape_fault request_of requirement_of
impossible_first = (λ z. inl (record { question = _; next = refl; answer = reply_frame (bare_answer SET status.DurabilityImpossible 9); spelled = refl; response = refl; opcode = refl; opaque = refl; calm = inr (inr (tt, refl)); fits = inr (first_number, inl (status.DurabilityImpossible, bare_so SET 9 status.DurabilityImpossible, why_besides refl (inr (refl, refl)), λ a e. refl)) }), tt)

pub locked_first : LawfulAmong (None ∷ []) pending (durably 1 9 4) (says SET status.SyncWriteInProgress ∷ []) → ⊥
unfolding spelling frames_in first_frame frame_of read_of frame_row shape_fault request_of requirement_of
locked_first l = let (g, s, fits) = asked_so (l.0 refl) refl refl refl in ⊎_elim (λ a. let e : ◌≡◌ {A = ℕ} 162 134 = ap (byte_at 7) (bare_bytes a.1 s) in omega (arith, e)) (λ x. ⊎_elim (λ r. let e : ◌≡◌ {A = ℕ} 162 161 = status_byte status.DurabilityImpossible r.1 s (r.3 refl refl) in omega (arith, e)) (λ o. ⊎_elim (λ c. absurd c.told_before) (λ a. let e : ◌≡◌ {A = ℕ} 162 163 = ap (byte_at 7) (bare_bytes a.said s) in omega (arith, e)) o) x.1) fits

pub locked : LawfulTo pending (durably 1 9 4) (says SET status.SyncWriteInProgress ∷ [])
unfolding spelling frames_in first_frame frame_of read_of frame_row shape_fault request_of requirement_of
locked = (λ z. inl (record { question = _; next = refl; answer = reply_frame (bare_answer SET status.SyncWriteInProgress 9); spelled = refl; response = refl; opcode = refl; opaque = refl; calm = inr (inr (tt, refl)); fits = inr (first_number, inl (status.SyncWriteInProgress, bare_so SET 9 status.SyncWriteInProgress, why_locked {p = waits} refl nine_waits (omega arith), λ a e. possible_alone e)) }), tt)

pub plain_locked : LawfulAmong (None ∷ []) pending (writes SET 0 9 4) (says SET status.SyncWriteInProgress ∷ [])
unfolding spelling frames_in first_frame frame_of read_of frame_row shape_fault request_of requirement_of
plain_locked = (λ z. inl (record { question = _; next = refl; answer = reply_frame (bare_answer SET status.SyncWriteInProgress 9); spelled = refl; response = refl; opcode = refl; opaque = refl; calm = inr (inr (tt, refl)); fits = inl (status.SyncWriteInProgress, bare_so SET 9 status.SyncWriteInProgress, why_locked {p = waits} refl nine_waits (omega arith)) }), tt)

pub plain_impossible : LawfulAmong (None ∷ []) [] (writes SET 0 7 8) (says SET status.DurabilityImpossible ∷ []) → ⊥
unfolding spelling frames_in first_frame frame_of read_of frame_row shape_fault request_of requirement_of
plain_impossible l = let (g, s, fits) = asked_so (l.0 refl) refl refl refl in ⊎_elim (λ r. ⊎_elim (λ d. let z : None ≡ Some r.0 = d in cc) (λ full. let e : ◌≡◌ {A = ℕ} 161 134 = status_byte status.Etmpfail r.1 s full.said in omega (arith, e)) (unfit_is r.2 refl (none_pending (7 ∷ [])) (none_stored (7 ∷ [])))) (λ m. no_made m) fits

pub plain_ambiguous : LawfulTo [] (writes SET 0 7 8) (says SET status.SyncWriteAmbiguous ∷ []) → ⊥
unfolding spelling frames_in first_frame frame_of read_of frame_row shape_fault request_of requirement_of
plain_ambiguous l = let (g, s, fits) = asked_so (l.0 refl) refl refl refl in ⊎_elim (λ r. ⊎_elim (λ d. let z : None ≡ Some r.0 = d in cc) (λ full. let e : ◌≡◌ {A = ℕ} 163 134 = status_byte status.Etmpfail r.1 s full.said in omega (arith, e)) (unfit_is r.2 refl (none_pending (7 ∷ [])) (none_stored (7 ∷ [])))) (λ m. no_made m) fits

pub away : LawfulAway [] (durably 1 7 8) (says SET status.NotMyVbucket ∷ [])
unfolding spelling frames_in first_frame frame_of read_of frame_row shape_fault request_of requirement_of
away = (λ z. inl (record { question = _; next = refl; answer = reply_frame (bare_answer SET status.NotMyVbucket 9); spelled = refl; response = refl; opcode = refl; opaque = refl; calm = inr (inr (tt, refl)); fits = inr (first_number, inl (status.NotMyVbucket, bare_so SET 9 status.NotMyVbucket, why_away no_active, λ a e. absurd (no_active a))) }), tt)

pub active : LawfulTo [] (durably 1 7 8) (says SET status.NotMyVbucket ∷ []) → ⊥
unfolding spelling frames_in first_frame frame_of read_of frame_row shape_fault request_of requirement_of
active l = let (g, s, fits) = asked_so (l.0 refl) refl refl refl in ⊎_elim (λ a. let e : ◌≡◌ {A = ℕ} 7 134 = ap (byte_at 7) (bare_bytes a.1 s) in omega (arith, e)) (λ x. ⊎_elim (λ r. ⊎_elim (λ d. let z : None ≡ Some r.0 = d in cc) (λ b. ⊎_elim (λ full. let e : ◌≡◌ {A = ℕ} 7 134 = status_byte status.Etmpfail r.1 s full.said in omega (arith, e)) (λ no. let z : true ≡ false = no.0 in cc) b) (unfit_is r.2 refl (none_pending (7 ∷ [])) (none_stored (7 ∷ [])))) (λ o. ⊎_elim (λ c. absurd c.told_before) (λ a. let e : ◌≡◌ {A = ℕ} 7 163 = ap (byte_at 7) (bare_bytes a.said s) in omega (arith, e)) o) x.1) fits

pub other : LawfulTo [] (durably 1 7 8) (says SET status.KeyEnoent ∷ []) → ⊥
unfolding spelling frames_in first_frame frame_of read_of frame_row shape_fault request_of requirement_of
other l = let (g, s, fits) = asked_so (l.0 refl) refl refl refl in ⊎_elim (λ a. let e : ◌≡◌ {A = ℕ} 1 134 = ap (byte_at 7) (bare_bytes a.1 s) in omega (arith, e)) (λ x. ⊎_elim (λ r. ⊎_elim (λ d. let z : None ≡ Some r.0 = d in cc) (λ b. ⊎_elim (λ full. let e : ◌≡◌ {A = ℕ} 1 134 = status_byte status.Etmpfail r.1 s full.said in omega (arith, e)) (λ no. let z : true ≡ false = no.0 in cc) b) (unfit_is r.2 refl (none_pending (7 ∷ [])) (none_stored (7 ∷ [])))) (λ o. ⊎_elim (λ c. absurd c.told_before) (λ a. let e : ◌≡◌ {A = ℕ} 1 163 = ap (byte_at 7) (bare_bytes a.said s) in omega (arith, e)) o) x.1) fits

pub early : LawfulTo [] (durably 1 7 8) (says SET status.Etmpfail ∷ []) → ⊥
unfolding spelling frames_in first_frame frame_of read_of frame_row shape_fault request_of requirement_of
early l = let (g, s, fits) = asked_so (l.0 refl) refl refl refl in ⊎_elim (λ a. none_lacks a.0) (λ x. ⊎_elim (λ r. ⊎_elim (λ d. let z : None ≡ Some r.0 = d in cc) (λ b. ⊎_elim (λ full. let lack = none_waits [] none_pending 2 r.0 full in omega (arith, lack)) (λ no. let z : true ≡ false = no.0 in cc) b) (unfit_is r.2 refl (none_pending (7 ∷ [])) (none_stored (7 ∷ [])))) (λ o. ⊎_elim (λ c. absurd c.told_before) (λ a. let e : ◌≡◌ {A = ℕ} 134 163 = ap (byte_at 7) (bare_bytes a.said s) in omega (arith, e)) o) x.1) fits

pub early_away : LawfulAway [] (durably 1 7 8) (says SET status.Etmpfail ∷ []) → ⊥
unfolding spelling frames_in first_frame frame_of read_of frame_row shape_fault request_of requirement_of
early_away l = let (g, s, fits) = asked_so (l.0 refl) refl refl refl in ⊎_elim (λ a. none_lacks a.0) (λ x. ⊎_elim (λ r. let e : ◌≡◌ {A = ℕ} 134 7 = status_byte status.NotMyVbucket r.1 s (r.2.away no_active) in omega (arith, e)) (λ o. ⊎_elim (λ c. absurd c.told_before) (λ a. let e : ◌≡◌ {A = ℕ} 134 163 = ap (byte_at 7) (bare_bytes a.said s) in omega (arith, e)) o) x.1) fits

pub no_level : LawfulTo [] (durably 4 7 8) (says SET status.DurabilityInvalidLevel ∷ [])
unfolding spelling frames_in first_frame frame_of read_of frame_row shape_fault request_of requirement_of
no_level = (λ z. kv_answer (reply_frame (bare_answer SET status.DurabilityInvalidLevel 9)) refl refl refl refl refl refl (bare_so SET 9 status.DurabilityInvalidLevel) (inr (inr (tt, refl))), tt)

pub level : LawfulTo [] (durably 3 7 8) (says SET status.DurabilityInvalidLevel ∷ []) → ⊥
unfolding spelling frames_in first_frame frame_of read_of frame_row shape_fault request_of requirement_of
level l = let (g, s, fits) = asked_so (l.0 refl) refl refl refl in ⊎_elim (λ a. let e : ◌≡◌ {A = ℕ} 160 134 = ap (byte_at 7) (bare_bytes a.1 s) in omega (arith, e)) (λ x. ⊎_elim (λ r. ⊎_elim (λ d. let z : None ≡ Some r.0 = d in cc) (λ b. ⊎_elim (λ full. let e : ◌≡◌ {A = ℕ} 160 134 = status_byte status.Etmpfail r.1 s full.said in omega (arith, e)) (λ no. let z : true ≡ false = no.0 in cc) b) (unfit_is r.2 refl (none_pending (7 ∷ [])) (none_stored (7 ∷ [])))) (λ o. ⊎_elim (λ c. absurd c.told_before) (λ a. let e : ◌≡◌ {A = ℕ} 160 163 = ap (byte_at 7) (bare_bytes a.said s) in omega (arith, e)) o) x.1) fits
