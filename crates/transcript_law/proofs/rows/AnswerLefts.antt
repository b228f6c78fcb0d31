-- answers about keys at which prepares wait, left or made since, judged by hand
use Rattle.std.proofs.Common.{[], ap, arith, false, inl, inr, refl, true, ◌∙◌, ℕ, ⊎_elim, ◌∷◌, ◌≡◌}
use Rattle.std.specs.FinMap.{get}
use Rattle.std.specs.FinMap as finite
use Rattle.std.specs.Prelude.{Some, None, if◌then◌else◌}
unfoldable use Rattle.mcbp_dcp.specs.Messages.{read_of}
unfoldable use Rattle.mcbp_dcp.specs.Rows.{frame_row}
unfoldable use Rattle.mcbp_dcp.specs.Shapes.{shape_fault}
unfoldable use Rattle.mcbp_frame.specs.Cutting.{frames_in}
unfoldable use Rattle.mcbp_frame.specs.Frames.{first_frame, frame_of}
unfoldable use Rattle.mcbp_frame.specs.Spelling.{spelling}
unfoldable use Rattle.mcbp_kv.specs.Framing.{requirement_of}
unfoldable use Rattle.mcbp_kv.specs.Requests.{request_of}
use Rattle.mcbp_kv.specs.Answers.{bare_answer, found_answer}
use Rattle.mcbp_kv.specs.Replies.{reply_frame}
use Rattle.mcbp_kv.specs.declared.opcodes.TheConstants.{GET, SET}
use Rattle.vb_types.proofs.Laws.{get-insert_same, get-remove_same}
use Rattle.vb_types.specs.Images.{image_of, is_older}
use Rattle.vb_types.specs.declared.status.Status.TheVariants as status
use Rattle.transcript_law.specs.AnswerRows.{LawfulRisen, LawfulStarted, LawfulTo, changing, durably, finds, gets, once, says, writes}
use Rattle.transcript_law.specs.ClientStreamRows.{committed, durable, pending, prepared}
use Rattle.transcript_law.specs.LawfulAnswers.{IsLeftUndone}
use Rattle.transcript_law.specs.Transcripts.{first_doc}
use Rattle.transcript_law.proofs.rows.AnswerReads.{free, get_found, get_left, get_none}
use Rattle.transcript_law.proofs.rows.AnswerRefusals.{status_byte, why_left, why_locked}
use Rattle.transcript_law.proofs.rows.AnswerWrites.{no_made}
use Rattle.transcript_law.proofs.rows.Answering.{asked_so, bare_bytes, bare_so, byte_at, first_number, found_bytes, found_so, kv_answer}
use Rattle.transcript_law.proofs.rows.NextRows.{nine_none, seven_there}
use Rattle.transcript_law.proofs.rows.WaitingKeys.{nine_own, nine_waits, own_waits, seven_free, waits}

-- the prepare that waits at the key 7
seven_waits : get (image_of changing).pending (7 ∷ []) ≡ Some waits
seven_waits = get-insert_same (image_of once).pending (7 ∷ []) waits

seven_own : IsLeftUndone 0 (image_of changing) (7 ∷ []) → ⊥
seven_own = own_waits (image_of changing) (7 ∷ []) waits 0 seven_waits (omega arith)

-- none waits at the key 9 once that prepare was committed, and its document is there
nine_settled : get (image_of durable).pending (9 ∷ []) ≡ None
nine_settled = ap (λ o. get (if is_older 3 o then finite.remove (image_of pending).pending (9 ∷ []) else (image_of pending).pending) (9 ∷ [])) nine_waits ∙ get-remove_same (image_of pending).pending (9 ∷ [])

nine_there : get (image_of durable).docs (9 ∷ []) ≡ Some (first_doc 2 (6 ∷ []))
nine_there = get-insert_same (image_of pending).docs (9 ∷ []) (first_doc 2 (6 ∷ []))

-- ---- reads

pub left : LawfulRisen pending [] (gets 0 9) (says GET status.SyncWriteReCommitInProgress ∷ [])
unfolding spelling frames_in first_frame frame_of read_of frame_row shape_fault request_of requirement_of
left = (λ z. kv_answer (reply_frame (bare_answer GET status.SyncWriteReCommitInProgress 9)) refl refl refl refl refl refl (get_left refl (waits, nine_waits, omega arith) (bare_so GET 9 status.SyncWriteReCommitInProgress)) (inr (inr (tt, refl))), tt)

pub left_none : LawfulRisen pending [] (gets 0 9) (says GET status.KeyEnoent ∷ []) → ⊥
unfolding spelling frames_in first_frame frame_of read_of frame_row shape_fault request_of requirement_of
left_none l = let (g, s, fits) = asked_so (l.0 refl) refl refl refl in let e : ◌≡◌ {A = ℕ} 1 164 = ap (byte_at 7) (bare_bytes (fits.left refl (waits, nine_waits, omega arith)) s) in omega (arith, e)

pub left_over : LawfulRisen changing [] (gets 0 7) (says GET status.SyncWriteReCommitInProgress ∷ [])
unfolding spelling frames_in first_frame frame_of read_of frame_row shape_fault request_of requirement_of
left_over = (λ z. kv_answer (reply_frame (bare_answer GET status.SyncWriteReCommitInProgress 9)) refl refl refl refl refl refl (get_left refl (waits, seven_waits, omega arith) (bare_so GET 9 status.SyncWriteReCommitInProgress)) (inr (inr (tt, refl))), tt)

pub left_found : LawfulRisen changing [] (gets 0 7) (finds (first_doc 1 (8 ∷ [])) ∷ []) → ⊥
unfolding spelling frames_in first_frame frame_of read_of frame_row shape_fault request_of requirement_of
left_found l = let (g, s, fits) = asked_so (l.0 refl) refl refl refl in let e : ◌≡◌ {A = ℕ} 0 164 = ap (byte_at 7) (bare_bytes (fits.left refl (waits, seven_waits, omega arith)) s) in omega (arith, e)

pub beside_left : LawfulRisen pending [] (gets 0 7) (finds (first_doc 1 (8 ∷ [])) ∷ [])
unfolding spelling frames_in first_frame frame_of read_of frame_row shape_fault request_of requirement_of
beside_left = (λ z. kv_answer (reply_frame (found_answer true 9 (first_doc 1 (8 ∷ [])))) refl refl refl refl refl refl (get_found (first_doc 1 (8 ∷ [])) refl (free 2 (image_of pending) (7 ∷ []) seven_free) (seven_there (first_doc 1 (8 ∷ []))) (found_so false 9 (first_doc 1 (8 ∷ [])))) (inr (inr (tt, refl))), tt)

pub since_none : LawfulRisen once (prepared ∷ []) (gets 0 9) (says GET status.KeyEnoent ∷ [])
unfolding spelling frames_in first_frame frame_of read_of frame_row shape_fault request_of requirement_of
since_none = (λ z. kv_answer (reply_frame (bare_answer GET status.KeyEnoent 9)) refl refl refl refl refl refl (get_none refl (nine_own 1 (omega arith)) (nine_none (first_doc 1 (8 ∷ []))) (bare_so GET 9 status.KeyEnoent)) (inr (inr (tt, refl))), tt)

pub since : LawfulRisen once (prepared ∷ []) (gets 0 9) (says GET status.SyncWriteReCommitInProgress ∷ []) → ⊥
unfolding spelling frames_in first_frame frame_of read_of frame_row shape_fault request_of requirement_of
since l = let (g, s, fits) = asked_so (l.0 refl) refl refl refl in let e : ◌≡◌ {A = ℕ} 164 1 = ap (byte_at 7) (bare_bytes (fits.none refl (nine_own 1 (omega arith)) (nine_none (first_doc 1 (8 ∷ [])))) s) in omega (arith, e)

pub own_none : LawfulTo pending (gets 0 9) (says GET status.SyncWriteReCommitInProgress ∷ []) → ⊥
unfolding spelling frames_in first_frame frame_of read_of frame_row shape_fault request_of requirement_of
own_none l = let (g, s, fits) = asked_so (l.0 refl) refl refl refl in let e : ◌≡◌ {A = ℕ} 164 1 = ap (byte_at 7) (bare_bytes (fits.none refl (nine_own 0 (omega arith)) (nine_none (first_doc 1 (8 ∷ [])))) s) in omega (arith, e)

pub own_found : LawfulTo changing (gets 0 7) (finds (first_doc 1 (8 ∷ [])) ∷ [])
unfolding spelling frames_in first_frame frame_of read_of frame_row shape_fault request_of requirement_of
own_found = (λ z. kv_answer (reply_frame (found_answer true 9 (first_doc 1 (8 ∷ [])))) refl refl refl refl refl refl (get_found (first_doc 1 (8 ∷ [])) refl seven_own (seven_there (first_doc 1 (8 ∷ []))) (found_so false 9 (first_doc 1 (8 ∷ [])))) (inr (inr (tt, refl))), tt)

pub own_over : LawfulTo changing (gets 0 7) (says GET status.SyncWriteReCommitInProgress ∷ []) → ⊥
unfolding spelling frames_in first_frame frame_of read_of frame_row shape_fault request_of requirement_of
own_over l = let (g, s, fits) = asked_so (l.0 refl) refl refl refl in let e : ◌≡◌ {A = ℕ} 164 0 = ap (byte_at 7) (found_bytes (fits.found refl seven_own (first_doc 1 (8 ∷ [])) (seven_there (first_doc 1 (8 ∷ [])))) s) in omega (arith, e)

pub again_found : LawfulRisen pending (committed ∷ []) (gets 0 9) (finds (first_doc 2 (6 ∷ [])) ∷ [])
unfolding spelling frames_in first_frame frame_of read_of frame_row shape_fault request_of requirement_of
again_found = (λ z. kv_answer (reply_frame (found_answer true 9 (first_doc 2 (6 ∷ [])))) refl refl refl refl refl refl (get_found (first_doc 2 (6 ∷ [])) refl (free 2 (image_of durable) (9 ∷ []) nine_settled) nine_there (found_so false 9 (first_doc 2 (6 ∷ [])))) (inr (inr (tt, refl))), tt)

pub again : LawfulRisen pending (committed ∷ []) (gets 0 9) (says GET status.SyncWriteReCommitInProgress ∷ []) → ⊥
unfolding spelling frames_in first_frame frame_of read_of frame_row shape_fault request_of requirement_of
again l = let (g, s, fits) = asked_so (l.0 refl) refl refl refl in let e : ◌≡◌ {A = ℕ} 164 0 = ap (byte_at 7) (found_bytes (fits.found refl (free 2 (image_of durable) (9 ∷ []) nine_settled) (first_doc 2 (6 ∷ [])) nine_there) s) in omega (arith, e)

pub started : LawfulStarted pending (gets 0 9) (says GET status.SyncWriteReCommitInProgress ∷ [])
unfolding spelling frames_in first_frame frame_of read_of frame_row shape_fault request_of requirement_of
started = (λ z. kv_answer (reply_frame (bare_answer GET status.SyncWriteReCommitInProgress 9)) refl refl refl refl refl refl (get_left refl (waits, nine_waits, omega arith) (bare_so GET 9 status.SyncWriteReCommitInProgress)) (inr (inr (tt, refl))), tt)

pub started_none : LawfulStarted pending (gets 0 9) (says GET status.KeyEnoent ∷ []) → ⊥
unfolding spelling frames_in first_frame frame_of read_of frame_row shape_fault request_of requirement_of
started_none l = let (g, s, fits) = asked_so (l.0 refl) refl refl refl in let e : ◌≡◌ {A = ℕ} 1 164 = ap (byte_at 7) (bare_bytes (fits.left refl (waits, nine_waits, omega arith)) s) in omega (arith, e)

-- ---- writes

pub left_set : LawfulRisen pending [] (writes SET 0 9 4) (says SET status.SyncWriteReCommitInProgress ∷ [])
unfolding spelling frames_in first_frame frame_of read_of frame_row shape_fault request_of requirement_of
left_set = (λ z. inl (record { question = _; next = refl; answer = reply_frame (bare_answer SET status.SyncWriteReCommitInProgress 9); spelled = refl; response = refl; opcode = refl; opaque = refl; calm = inr (inr (tt, refl)); fits = inl (status.SyncWriteReCommitInProgress, bare_so SET 9 status.SyncWriteReCommitInProgress, why_left {p = waits} refl nine_waits (omega arith)) }), tt)

pub left_locked : LawfulRisen pending [] (writes SET 0 9 4) (says SET status.SyncWriteInProgress ∷ []) → ⊥
unfolding spelling frames_in first_frame frame_of read_of frame_row shape_fault request_of requirement_of
left_locked l = let (g, s, fits) = asked_so (l.0 refl) refl refl refl in ⊎_elim (λ r. ⊎_elim (λ w. let e : ◌≡◌ {A = ℕ} 162 164 = status_byte status.SyncWriteReCommitInProgress r.1 s w in omega (arith, e)) (λ full. let e : ◌≡◌ {A = ℕ} 162 134 = status_byte status.Etmpfail r.1 s full.said in omega (arith, e)) (r.2.left refl (waits, nine_waits, omega arith))) (λ m. no_made m) fits

pub since_set : LawfulRisen once (prepared ∷ []) (writes SET 0 9 4) (says SET status.SyncWriteReCommitInProgress ∷ []) → ⊥
unfolding spelling frames_in first_frame frame_of read_of frame_row shape_fault request_of requirement_of
since_set l = let (g, s, fits) = asked_so (l.0 refl) refl refl refl in ⊎_elim (λ r. ⊎_elim (λ w. let e : ◌≡◌ {A = ℕ} 164 162 = status_byte status.SyncWriteInProgress r.1 s w in omega (arith, e)) (λ full. let e : ◌≡◌ {A = ℕ} 164 134 = status_byte status.Etmpfail r.1 s full.said in omega (arith, e)) (r.2.locked refl (waits, nine_waits, omega arith))) (λ m. no_made m) fits

pub since_locked : LawfulRisen once (prepared ∷ []) (writes SET 0 9 4) (says SET status.SyncWriteInProgress ∷ [])
unfolding spelling frames_in first_frame frame_of read_of frame_row shape_fault request_of requirement_of
since_locked = (λ z. inl (record { question = _; next = refl; answer = reply_frame (bare_answer SET status.SyncWriteInProgress 9); spelled = refl; response = refl; opcode = refl; opaque = refl; calm = inr (inr (tt, refl)); fits = inl (status.SyncWriteInProgress, bare_so SET 9 status.SyncWriteInProgress, why_locked {p = waits} refl nine_waits (omega arith)) }), tt)

pub own_set : LawfulTo pending (writes SET 0 9 4) (says SET status.SyncWriteReCommitInProgress ∷ []) → ⊥
unfolding spelling frames_in first_frame frame_of read_of frame_row shape_fault request_of requirement_of
own_set l = let (g, s, fits) = asked_so (l.0 refl) refl refl refl in ⊎_elim (λ r. ⊎_elim (λ w. let e : ◌≡◌ {A = ℕ} 164 162 = status_byte status.SyncWriteInProgress r.1 s w in omega (arith, e)) (λ full. let e : ◌≡◌ {A = ℕ} 164 134 = status_byte status.Etmpfail r.1 s full.said in omega (arith, e)) (r.2.locked refl (waits, nine_waits, omega arith))) (λ m. no_made m) fits

-- a node alone is a majority of its chain
alone : {A : Type 0} → true ≡ false → A
alone e = cc

pub left_durable : LawfulRisen pending [] (durably 1 9 4) (says SET status.SyncWriteReCommitInProgress ∷ [])
unfolding spelling frames_in first_frame frame_of read_of frame_row shape_fault request_of requirement_of
left_durable = (λ z. inl (record { question = _; next = refl; answer = reply_frame (bare_answer SET status.SyncWriteReCommitInProgress 9); spelled = refl; response = refl; opcode = refl; opaque = refl; calm = inr (inr (tt, refl)); fits = inr (first_number, inl (status.SyncWriteReCommitInProgress, bare_so SET 9 status.SyncWriteReCommitInProgress, why_left {p = waits} refl nine_waits (omega arith), λ a e. alone e)) }), tt)

pub left_durable_locked : LawfulRisen pending [] (durably 1 9 4) (says SET status.SyncWriteInProgress ∷ []) → ⊥
unfolding spelling frames_in first_frame frame_of read_of frame_row shape_fault request_of requirement_of
left_durable_locked l = let (g, s, fits) = asked_so (l.0 refl) refl refl refl in ⊎_elim (λ a. let e : ◌≡◌ {A = ℕ} 162 134 = ap (byte_at 7) (bare_bytes a.1 s) in omega (arith, e)) (λ x. ⊎_elim (λ r. ⊎_elim (λ w. let e : ◌≡◌ {A = ℕ} 162 164 = status_byte status.SyncWriteReCommitInProgress r.1 s w in omega (arith, e)) (λ b. ⊎_elim (λ full. let e : ◌≡◌ {A = ℕ} 162 134 = status_byte status.Etmpfail r.1 s full.said in omega (arith, e)) (λ no. let z : true ≡ false = no.0 in cc) b) (r.2.left refl (waits, nine_waits, omega arith))) (λ o. ⊎_elim (λ c. absurd c.told_before) (λ a. let e : ◌≡◌ {A = ℕ} 162 163 = ap (byte_at 7) (bare_bytes a.said s) in omega (arith, e)) o) x.1) fits

pub own_durable : LawfulTo pending (durably 1 9 4) (says SET status.SyncWriteReCommitInProgress ∷ []) → ⊥
unfolding spelling frames_in first_frame frame_of read_of frame_row shape_fault request_of requirement_of
own_durable l = let (g, s, fits) = asked_so (l.0 refl) refl refl refl in ⊎_elim (λ a. let e : ◌≡◌ {A = ℕ} 164 134 = ap (byte_at 7) (bare_bytes a.1 s) in omega (arith, e)) (λ x. ⊎_elim (λ r. ⊎_elim (λ w. let e : ◌≡◌ {A = ℕ} 164 162 = status_byte status.SyncWriteInProgress r.1 s w in omega (arith, e)) (λ b. ⊎_elim (λ full. let e : ◌≡◌ {A = ℕ} 164 134 = status_byte status.Etmpfail r.1 s full.said in omega (arith, e)) (λ no. let z : true ≡ false = no.0 in cc) b) (r.2.locked refl (waits, nine_waits, omega arith))) (λ o. ⊎_elim (λ c. absurd c.told_before) (λ a. let e : ◌≡◌ {A = ℕ} 164 163 = ap (byte_at 7) (bare_bytes a.said s) in omega (arith, e)) o) x.1) fits
