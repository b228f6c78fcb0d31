-- writes that are refused, judged by hand
use Rattle.std.proofs.Common.{true, false, List, [], ap, arith, inl, inr, refl, subst, sym, ℕ, ⊎_elim, ◌∙◌, ◌∷◌, ◌≡◌}
use Rattle.std.specs.FinMap.{get, get-empty}
use Rattle.std.specs.Prelude.{◌⊎◌, ◌<◌, ◌≤◌, ◌+◌, ◌^◌, Bool, Option, Some, None, length}
use Rattle.std.specs.Str.{bytes_eq}
use Rattle.std.proofs.lemmas.Slice.Eq.{bytes_eq-Decides}
unfoldable use Rattle.mcbp_dcp.specs.Messages.{read_of}
unfoldable use Rattle.mcbp_dcp.specs.Rows.{frame_row}
unfoldable use Rattle.mcbp_dcp.specs.Shapes.{shape_fault}
unfoldable use Rattle.mcbp_frame.specs.Cutting.{frames_in}
unfoldable use Rattle.mcbp_frame.specs.Frames.{first_frame, frame_of}
unfoldable use Rattle.mcbp_frame.specs.Spelling.{spelling}
unfoldable use Rattle.mcbp_kv.specs.Framing.{requirement_of}
unfoldable use Rattle.mcbp_kv.specs.Requests.{request_of}
use Rattle.mcbp_frame.specs.declared.frame.Frame.{Frame}
use Rattle.mcbp_kv.specs.Answers.{IsBare, bare_answer}
use Rattle.mcbp_kv.specs.Replies.{reply_frame}
use Rattle.mcbp_kv.specs.declared.opcodes.TheConstants.{ADD, DELETE, REPLACE, SET}
use Rattle.vb_calls.specs.Writes.{doc_refusal}
use Rattle.branch_model.specs.Histories.{last_seq}
use Rattle.durability.specs.Laws.{Waits}
use Rattle.durability.specs.declared.waiting.Waiting.{Waiting}
use Rattle.vb_types.proofs.Laws.{get-insert_other, get-insert_same}
use Rattle.vb_types.specs.Images.{Picture, image_of, nothing}
use Rattle.vb_types.specs.Keys.{key_cmp}
use Rattle.vb_types.specs.declared.change.Change.{Change}
use Rattle.vb_types.specs.declared.change.Level.TheVariants.{Majority}
use Rattle.vb_types.specs.declared.change.Pend.{Pend}
use Rattle.vbucket.specs.Laws.{Ascend, IsBacked}
use Rattle.vb_types.specs.Statuses.{status_code}
use Rattle.vb_types.specs.declared.doc.Doc.{Doc}
use Rattle.vb_types.specs.declared.role.Role.{Role}
use Rattle.vb_types.specs.declared.status.Status.{Status}
use Rattle.vb_types.specs.declared.status.Status.TheVariants as status
use Rattle.vb_types.specs.declared.write.Op.TheVariants as op
use Rattle.vb_types.specs.declared.write.Write.{Write}
use Rattle.transcript_law.specs.AnswerRows.{LawfulAway, LawfulTo, makes, once, prepared_at, removal, removes, says, set_at, writes}
use Rattle.transcript_law.specs.ClientStreamRows.{pending}
use Rattle.transcript_law.specs.LawfulAnswers.{IsWhyRefused, LacksSeqnos}
use Rattle.transcript_law.specs.LawfulClients.{IsActive}
use Rattle.transcript_law.specs.Transcripts.{first_doc, one_change}
use Rattle.transcript_law.proofs.rows.AnswerWrites.{no_made}
use Rattle.transcript_law.proofs.rows.Answering.{asked_calm, asked_so, bare_bytes, bare_so, byte_at, response_of, stored_bytes}
use Rattle.transcript_law.proofs.rows.ClientStreamVerdicts.{no_active}
use Rattle.transcript_law.proofs.rows.NextRows.{keys_differ, left_none, nine_none, none_pending, none_stored, seven_pending, seven_there}
use Rattle.transcript_law.proofs.rows.WaitingKeys.{left_waits, nine_waits, own_waits, seven_free, waits}

-- ---- why a write is refused

module _ {Besides : Status → Type 0} {role : Option (Option Role)} {risen : ℕ} {image : Picture} {write : Write} where
  -- for its key's document, or that there is none
  pub why_unfit : {st : Status} → IsActive role → get image.pending write.key ≡ None → (doc_refusal write.op write.cas (get image.docs write.key) ≡ Some st) ⊎ Besides st → IsWhyRefused Besides role risen image write st
  why_unfit active none x = record {
    away = λ off. absurd (off active);
    left = λ a waiting. let e : None ≡ Some waiting.0 = sym none ∙ waiting.1 in cc;
    locked = λ a waiting. let e : None ≡ Some waiting.0 = sym none ∙ waiting.1 in cc;
    unfit = λ a e. x;
  }

  -- for a prepare that waits there, made since its vBucket became active, or left
  pub why_locked : {p : Pend} → IsActive role → get image.pending write.key ≡ Some p → risen < p.seq → IsWhyRefused Besides role risen image write status.SyncWriteInProgress
  why_locked {p} active there above = record {
    away = λ off. absurd (off active);
    left = λ a l. absurd (own_waits image write.key p risen there above l);
    locked = λ a w. inl refl;
    unfit = λ a none. let e : None ≡ Some p = sym none ∙ there in cc;
  }

  pub why_left : {p : Pend} → IsActive role → get image.pending write.key ≡ Some p → p.seq ≤ risen → IsWhyRefused Besides role risen image write status.SyncWriteReCommitInProgress
  why_left {p} active there low = record {
    away = λ off. absurd (off active);
    left = λ a l. inl refl;
    locked = λ a w. absurd (left_waits image write.key p risen there low w);
    unfit = λ a none. let e : None ≡ Some p = sym none ∙ there in cc;
  }

  -- for a further reason
  pub why_besides : {st : Status} → IsActive role → Besides st → IsWhyRefused Besides role risen image write st
  why_besides active b = record { away = λ off. absurd (off active); left = λ a l. inr b; locked = λ a w. inr b; unfit = λ a e. inr b }

  -- for its vBucket
  pub why_away : (IsActive role → ⊥) → IsWhyRefused Besides role risen image write status.NotMyVbucket
  why_away off = record { away = λ o. refl; left = λ a l. absurd (off a); locked = λ a w. absurd (off a); unfit = λ a e. absurd (off a) }

  -- where no prepare waits
  pub unfit_is : {st : Status} {there : Option Doc} → IsWhyRefused Besides role risen image write st → IsActive role → get image.pending write.key ≡ None → get image.docs write.key ≡ there → (doc_refusal write.op write.cas there ≡ Some st) ⊎ Besides st
  unfit_is w active none at = ⊎_elim (λ e. inl (ap (doc_refusal write.op write.cas) (sym at) ∙ e)) (λ b. inr b) (w.unfit active none)

-- the status of an answer, once it is known
pub status_byte : {bytes : List ℕ} {g : Frame} {code opaque : ℕ} {st : Status} (known : Status) → IsBare g code (status_code st) opaque → bytes ≡ spelling g → st ≡ known → byte_at 7 bytes ≡ byte_at 7 (spelling (response_of code 0 (status_code known) opaque 0 [] []))
status_byte {bytes} {g} {code} {opaque} {st} known b s is = ap (byte_at 7) (bare_bytes b s) ∙ ap (λ x. byte_at 7 (spelling (response_of code 0 (status_code x) opaque 0 [] []))) is

-- ---- transcripts

pub fits : LawfulTo once (writes SET 1 7 4) (says SET status.KeyEexists ∷ []) → ⊥
unfolding spelling frames_in first_frame frame_of read_of frame_row shape_fault request_of requirement_of
fits l = let (g, s, fits) = asked_so (l.0 refl) refl refl refl in ⊎_elim (λ r. ⊎_elim (λ d. let z : None ≡ Some r.0 = d in cc) (λ full. let e : ◌≡◌ {A = ℕ} 2 134 = status_byte status.Etmpfail r.1 s full.said in omega (arith, e)) (unfit_is r.2 refl (seven_pending (first_doc 1 (8 ∷ [])) (7 ∷ [])) (seven_there (first_doc 1 (8 ∷ []))))) (λ m. no_made m) fits

pub unfit : LawfulTo once (writes SET 3 7 4) (says SET status.KeyEexists ∷ [])
unfolding spelling frames_in first_frame frame_of read_of frame_row shape_fault request_of requirement_of
unfit = (λ z. inl (record { question = _; next = refl; answer = reply_frame (bare_answer SET status.KeyEexists 9); spelled = refl; response = refl; opcode = refl; opaque = refl; calm = inr (inr (tt, refl)); fits = inl (status.KeyEexists, bare_so SET 9 status.KeyEexists, why_unfit refl (seven_pending (first_doc 1 (8 ∷ [])) (7 ∷ [])) (inl (ap (doc_refusal op.Set 3) (seven_there (first_doc 1 (8 ∷ [])))))) }), tt)

pub unfit_other : LawfulTo once (writes SET 3 7 4) (says SET status.KeyEnoent ∷ []) → ⊥
unfolding spelling frames_in first_frame frame_of read_of frame_row shape_fault request_of requirement_of
unfit_other l = let (g, s, fits) = asked_so (l.0 refl) refl refl refl in ⊎_elim (λ r. ⊎_elim (λ d. let z : Some status.KeyEexists ≡ Some r.0 = d in let is : r.0 ≡ status.KeyEexists = cc in let e : ◌≡◌ {A = ℕ} 1 2 = status_byte status.KeyEexists r.1 s is in omega (arith, e)) (λ full. let e : ◌≡◌ {A = ℕ} 1 134 = status_byte status.Etmpfail r.1 s full.said in omega (arith, e)) (unfit_is r.2 refl (seven_pending (first_doc 1 (8 ∷ [])) (7 ∷ [])) (seven_there (first_doc 1 (8 ∷ []))))) (λ m. no_made m) fits

pub adds : LawfulTo [] (writes ADD 0 7 8) (says ADD status.KeyEexists ∷ []) → ⊥
unfolding spelling frames_in first_frame frame_of read_of frame_row shape_fault request_of requirement_of
adds l = let (g, s, fits) = asked_so (l.0 refl) refl refl refl in ⊎_elim (λ r. ⊎_elim (λ d. let z : None ≡ Some r.0 = d in cc) (λ full. let e : ◌≡◌ {A = ℕ} 2 134 = status_byte status.Etmpfail r.1 s full.said in omega (arith, e)) (unfit_is r.2 refl (none_pending (7 ∷ [])) (none_stored (7 ∷ [])))) (λ m. no_made m) fits

pub adds_again : LawfulTo once (writes ADD 0 7 4) (says ADD status.KeyEexists ∷ [])
unfolding spelling frames_in first_frame frame_of read_of frame_row shape_fault request_of requirement_of
adds_again = (λ z. inl (record { question = _; next = refl; answer = reply_frame (bare_answer ADD status.KeyEexists 9); spelled = refl; response = refl; opcode = refl; opaque = refl; calm = inr (inr (tt, refl)); fits = inl (status.KeyEexists, bare_so ADD 9 status.KeyEexists, why_unfit refl (seven_pending (first_doc 1 (8 ∷ [])) (7 ∷ [])) (inl (ap (doc_refusal op.Add 0) (seven_there (first_doc 1 (8 ∷ [])))))) }), tt)

pub replaces : LawfulTo once (writes REPLACE 0 7 4) (says REPLACE status.KeyEnoent ∷ []) → ⊥
unfolding spelling frames_in first_frame frame_of read_of frame_row shape_fault request_of requirement_of
replaces l = let (g, s, fits) = asked_so (l.0 refl) refl refl refl in ⊎_elim (λ r. ⊎_elim (λ d. let z : None ≡ Some r.0 = d in cc) (λ full. let e : ◌≡◌ {A = ℕ} 1 134 = status_byte status.Etmpfail r.1 s full.said in omega (arith, e)) (unfit_is r.2 refl (seven_pending (first_doc 1 (8 ∷ [])) (7 ∷ [])) (seven_there (first_doc 1 (8 ∷ []))))) (λ m. no_made m) fits

pub replaces_none : LawfulTo [] (writes REPLACE 0 7 8) (says REPLACE status.KeyEnoent ∷ [])
unfolding spelling frames_in first_frame frame_of read_of frame_row shape_fault request_of requirement_of
replaces_none = (λ z. inl (record { question = _; next = refl; answer = reply_frame (bare_answer REPLACE status.KeyEnoent 9); spelled = refl; response = refl; opcode = refl; opaque = refl; calm = inr (inr (tt, refl)); fits = inl (status.KeyEnoent, bare_so REPLACE 9 status.KeyEnoent, why_unfit refl (none_pending (7 ∷ [])) (inl (ap (doc_refusal op.Replace 0) (none_stored (7 ∷ []))))) }), tt)

pub removes_none : LawfulTo [] (removes 7) (says DELETE status.KeyEnoent ∷ [])
unfolding spelling frames_in first_frame frame_of read_of frame_row shape_fault request_of requirement_of
removes_none = (λ z. inl (record { question = _; next = refl; answer = reply_frame (bare_answer DELETE status.KeyEnoent 9); spelled = refl; response = refl; opcode = refl; opaque = refl; calm = inr (inr (tt, refl)); fits = inl (status.KeyEnoent, bare_so DELETE 9 status.KeyEnoent, why_unfit refl (none_pending (7 ∷ [])) (inl (ap (doc_refusal op.Delete 0) (none_stored (7 ∷ []))))) }), tt)

pub other : LawfulTo [] (writes SET 0 7 8) (says SET status.KeyEnoent ∷ []) → ⊥
unfolding spelling frames_in first_frame frame_of read_of frame_row shape_fault request_of requirement_of
other l = let (g, s, fits) = asked_so (l.0 refl) refl refl refl in ⊎_elim (λ r. ⊎_elim (λ d. let z : None ≡ Some r.0 = d in cc) (λ full. let e : ◌≡◌ {A = ℕ} 1 134 = status_byte status.Etmpfail r.1 s full.said in omega (arith, e)) (unfit_is r.2 refl (none_pending (7 ∷ [])) (none_stored (7 ∷ [])))) (λ m. no_made m) fits

pub success : LawfulTo once (writes ADD 0 7 4) (says ADD status.Success ∷ []) → ⊥
unfolding spelling frames_in first_frame frame_of read_of frame_row shape_fault request_of requirement_of
success l = let (g, s, fits) = asked_so (l.0 refl) refl refl refl in ⊎_elim (λ r. ⊎_elim (λ d. let z : Some status.KeyEexists ≡ Some r.0 = d in let is : r.0 ≡ status.KeyEexists = cc in let e : ◌≡◌ {A = ℕ} 0 2 = status_byte status.KeyEexists r.1 s is in omega (arith, e)) (λ full. let e : ◌≡◌ {A = ℕ} 0 134 = status_byte status.Etmpfail r.1 s full.said in omega (arith, e)) (unfit_is r.2 refl (seven_pending (first_doc 1 (8 ∷ [])) (7 ∷ [])) (seven_there (first_doc 1 (8 ∷ []))))) (λ m. no_made m) fits

pub active : LawfulTo [] (writes SET 0 7 8) (says SET status.NotMyVbucket ∷ []) → ⊥
unfolding spelling frames_in first_frame frame_of read_of frame_row shape_fault request_of requirement_of
active l = let (g, s, fits) = asked_so (l.0 refl) refl refl refl in ⊎_elim (λ r. ⊎_elim (λ d. let z : None ≡ Some r.0 = d in cc) (λ full. let e : ◌≡◌ {A = ℕ} 7 134 = status_byte status.Etmpfail r.1 s full.said in omega (arith, e)) (unfit_is r.2 refl (none_pending (7 ∷ [])) (none_stored (7 ∷ [])))) (λ m. no_made m) fits

pub away : LawfulAway [] (writes SET 0 7 8) (says SET status.NotMyVbucket ∷ [])
unfolding spelling frames_in first_frame frame_of read_of frame_row shape_fault request_of requirement_of
away = (λ z. inl (record { question = _; next = refl; answer = reply_frame (bare_answer SET status.NotMyVbucket 9); spelled = refl; response = refl; opcode = refl; opaque = refl; calm = inr (inr (tt, refl)); fits = inl (status.NotMyVbucket, bare_so SET 9 status.NotMyVbucket, why_away no_active) }), tt)

pub away_other : LawfulAway once (writes ADD 0 7 4) (says ADD status.KeyEexists ∷ []) → ⊥
unfolding spelling frames_in first_frame frame_of read_of frame_row shape_fault request_of requirement_of
away_other l = let (g, s, fits) = asked_so (l.0 refl) refl refl refl in ⊎_elim (λ r. let e : ◌≡◌ {A = ℕ} 2 7 = status_byte status.NotMyVbucket r.1 s (r.2.away no_active) in omega (arith, e)) (λ m. no_made m) fits

pub away_full : LawfulAway [] (writes SET 0 7 8) (says SET status.Etmpfail ∷ []) → ⊥
unfolding spelling frames_in first_frame frame_of read_of frame_row shape_fault request_of requirement_of
away_full l = let (g, s, fits) = asked_so (l.0 refl) refl refl refl in ⊎_elim (λ r. let e : ◌≡◌ {A = ℕ} 134 7 = status_byte status.NotMyVbucket r.1 s (r.2.away no_active) in omega (arith, e)) (λ m. no_made m) fits

pub locked : LawfulTo pending (writes SET 0 9 4) (says SET status.SyncWriteInProgress ∷ [])
unfolding spelling frames_in first_frame frame_of read_of frame_row shape_fault request_of requirement_of
locked = (λ z. inl (record { question = _; next = refl; answer = reply_frame (bare_answer SET status.SyncWriteInProgress 9); spelled = refl; response = refl; opcode = refl; opaque = refl; calm = inr (inr (tt, refl)); fits = inl (status.SyncWriteInProgress, bare_so SET 9 status.SyncWriteInProgress, why_locked {p = waits} refl nine_waits (omega arith)) }), tt)

pub locked_other : LawfulTo pending (writes REPLACE 0 9 4) (says REPLACE status.KeyEnoent ∷ []) → ⊥
unfolding spelling frames_in first_frame frame_of read_of frame_row shape_fault request_of requirement_of
locked_other l = let (g, s, fits) = asked_so (l.0 refl) refl refl refl in ⊎_elim (λ r. ⊎_elim (λ w. let e : ◌≡◌ {A = ℕ} 1 162 = status_byte status.SyncWriteInProgress r.1 s w in omega (arith, e)) (λ full. let e : ◌≡◌ {A = ℕ} 1 134 = status_byte status.Etmpfail r.1 s full.said in omega (arith, e)) (r.2.locked refl (waits, nine_waits, omega arith))) (λ m. no_made m) fits

pub unlocked : LawfulTo pending (writes SET 0 7 4) (says SET status.SyncWriteInProgress ∷ []) → ⊥
unfolding spelling frames_in first_frame frame_of read_of frame_row shape_fault request_of requirement_of
unlocked l = let (g, s, fits) = asked_so (l.0 refl) refl refl refl in ⊎_elim (λ r. ⊎_elim (λ d. let z : None ≡ Some r.0 = d in cc) (λ full. let e : ◌≡◌ {A = ℕ} 162 134 = status_byte status.Etmpfail r.1 s full.said in omega (arith, e)) (unfit_is r.2 refl seven_free (seven_there (first_doc 1 (8 ∷ []))))) (λ m. no_made m) fits

-- where none waits at any key, no more seqnos are lacking than the changes took
pub none_waits : (held : List Change) → ((key : List ℕ) → get (image_of held).pending key ≡ None) → (count : ℕ) (st : Status) → LacksSeqnos held count st → 2 ^ 48 < last_seq 0 held + count
none_waits held none count st l = by l.waiting l.backed l.above
  where
    by : (ws : List Waiting) → ((w : Waiting) → Waits w ws → IsBacked (image_of held) w) → 2 ^ 48 < last_seq 0 held + length ws + count → 2 ^ 48 < last_seq 0 held + count
    by [] backed above = omega (arith, above)
    by (w ∷ ws) backed above = let p = backed w (inl refl) in let z : None ≡ Some p.0 = sym (none w.key) ∙ p.1 in cc

-- a further change lacks its seqno behind the last one, and behind the one before where a prepare waits
lacks_last : LacksSeqnos (set_at 281474976710656) 1 status.Etmpfail
lacks_last = record { waiting = []; ascend = tt; backed = λ w none. absurd none; above = omega arith; said = refl }

pub full : LawfulTo (set_at 281474976710656) (writes SET 0 9 8) (says SET status.Etmpfail ∷ [])
unfolding spelling frames_in first_frame frame_of read_of frame_row shape_fault request_of requirement_of
full = (λ z. inl (record { question = _; next = refl; answer = reply_frame (bare_answer SET status.Etmpfail 9); spelled = refl; response = refl; opcode = refl; opaque = refl; calm = inr (inr (tt, refl)); fits = inl (status.Etmpfail, bare_so SET 9 status.Etmpfail, why_besides refl lacks_last) }), tt)

abbrev waiting_at : Waiting
waiting_at = record { key = 9 ∷ []; seq = 281474976710655; level = Majority; deadline = None; waiter = 0 }

lacks_beside : LacksSeqnos (prepared_at 281474976710655) 1 status.Etmpfail
lacks_beside = record {
  waiting = waiting_at ∷ [];
  ascend = (tt, tt);
  backed = λ w i. ⊎_elim (λ e. subst (IsBacked (image_of (prepared_at 281474976710655))) (sym e) (record waits { seq = 281474976710655 }, get-insert_same nothing.pending (9 ∷ []) (record waits { seq = 281474976710655 }), refl, refl)) (λ none. absurd none) i;
  above = omega arith;
  said = refl;
}

pub full_beside : LawfulTo (prepared_at 281474976710655) (writes SET 0 7 4) (says SET status.Etmpfail ∷ [])
unfolding spelling frames_in first_frame frame_of read_of frame_row shape_fault request_of requirement_of
full_beside = (λ z. inl (record { question = _; next = refl; answer = reply_frame (bare_answer SET status.Etmpfail 9); spelled = refl; response = refl; opcode = refl; opaque = refl; calm = inr (inr (tt, refl)); fits = inl (status.Etmpfail, bare_so SET 9 status.Etmpfail, why_besides refl lacks_beside) }), tt)

pub full_early : LawfulTo (set_at 281474976710655) (writes SET 0 9 8) (says SET status.Etmpfail ∷ []) → ⊥
unfolding spelling frames_in first_frame frame_of read_of frame_row shape_fault request_of requirement_of
full_early l = let (g, s, fits) = asked_so (l.0 refl) refl refl refl in ⊎_elim (λ r. ⊎_elim (λ d. let z : None ≡ Some r.0 = d in cc) (λ lacks. let n = none_waits (set_at 281474976710655) (left_none 281474976710655 (7 ∷ [])) 1 r.0 lacks in omega (arith, n)) (unfit_is r.2 refl (left_none 281474976710655 (7 ∷ []) (9 ∷ [])) (nine_none (first_doc 1 (8 ∷ []))))) (λ m. no_made m) fits

-- where one prepare waits, each that is backed is that one, so no two seqnos that rise are
one_waits : (n : ℕ) (key : List ℕ) (q : Pend) → get (image_of (prepared_at n)).pending key ≡ Some q → q.seq ≡ n
one_waits n key q there = by (bytes_eq (9 ∷ []) key) refl
  where
    by : (b : Bool) → bytes_eq (9 ∷ []) key ≡ b → q.seq ≡ n
    by true is =
        let same : Some (record waits { seq = n }) ≡ Some q = sym (get-insert_same nothing.pending (9 ∷ []) (record waits { seq = n })) ∙ ap (λ k. get (image_of (prepared_at n)).pending k) ((bytes_eq-Decides (9 ∷ []) key).0 is) ∙ there in
        let one : record waits { seq = n } ≡ q = cc in sym (ap (λ (p : Pend). p.seq) one)
    by false off =
        let none : None ≡ Some q = sym (get-empty key_cmp key) ∙ sym (get-insert_other nothing.pending (9 ∷ []) (record waits { seq = n }) key (λ e. let is : bytes_eq (9 ∷ []) key ≡ true = (bytes_eq-Decides (9 ∷ []) key).1 e in cc)) ∙ there in cc

few_wait : (n : ℕ) (ws : List Waiting) → Ascend ws → ((w : Waiting) → Waits w ws → IsBacked (image_of (prepared_at n)) w) → length ws ≤ 1
few_wait n [] rise backed = omega arith
few_wait n (w ∷ []) rise backed = omega arith
few_wait n (v ∷ w ∷ more) rise backed =
    let p = backed v (inl refl) in let q = backed w (inr (inl refl)) in let low : v.seq < w.seq = rise.0.0 in
    let first : v.seq ≡ n = sym p.2 ∙ one_waits n v.key p.0 p.1 in let then : w.seq ≡ n = sym q.2 ∙ one_waits n w.key q.0 q.1 in absurd (omega (arith, low, first, then))

pub full_twice : LawfulTo (prepared_at 281474976710654) (writes SET 0 7 4) (says SET status.Etmpfail ∷ []) → ⊥
unfolding spelling frames_in first_frame frame_of read_of frame_row shape_fault request_of requirement_of
full_twice l = let (g, s, fits) = asked_so (l.0 refl) refl refl refl in ⊎_elim (λ r. ⊎_elim (λ d. let z : None ≡ Some r.0 = d in cc) (λ lacks. let n = few_wait 281474976710654 lacks.waiting lacks.ascend lacks.backed in let high = lacks.above in omega (arith, n, high)) (unfit_is r.2 refl (get-insert_other nothing.pending (9 ∷ []) (record waits { seq = 281474976710654 }) (7 ∷ []) (keys_differ 9 7 (λ e. omega (arith, e))) ∙ get-empty key_cmp (7 ∷ [])) (none_stored (7 ∷ [])))) (λ m. no_made m) fits

pub full_first : LawfulTo [] (writes SET 0 7 8) (says SET status.Etmpfail ∷ []) → ⊥
unfolding spelling frames_in first_frame frame_of read_of frame_row shape_fault request_of requirement_of
full_first l = let (g, s, fits) = asked_so (l.0 refl) refl refl refl in ⊎_elim (λ r. ⊎_elim (λ d. let z : None ≡ Some r.0 = d in cc) (λ lacks. let n = none_waits [] none_pending 1 r.0 lacks in omega (arith, n)) (unfit_is r.2 refl (none_pending (7 ∷ [])) (none_stored (7 ∷ [])))) (λ m. no_made m) fits

-- a status that is not of a write that was made was told
pub no_outcome : {bytes : List ℕ} {g : Frame} {code said opaque other : ℕ} → IsBare g code said opaque → bytes ≡ spelling g → g.vb_or_status ≡ other → bytes ≡ spelling (response_of code 0 other opaque 0 [] [])
no_outcome {bytes} {g} {code} {said} {opaque} {other} b s e = bare_bytes b s ∙ ap (λ k. spelling (response_of code 0 k opaque 0 [] [])) (sym b.header.status ∙ e)

pub made : LawfulTo [] (writes SET 0 7 8) (makes one_change ∷ says SET status.Etmpfail ∷ []) → ⊥
unfolding spelling frames_in first_frame frame_of read_of frame_row shape_fault request_of requirement_of
made l =
    let (g, s, fits, calm) = asked_calm (l.1.0 refl) refl refl refl in
    ⊎_elim
    (λ o. ⊎_elim
    (λ r. let z : ◌≡◌ {A = ℕ} 134 0 = ap (byte_at 7) (no_outcome r.1 s o.2) in omega (arith, z))
    (λ m. let z : ◌≡◌ {A = ℕ} 134 0 = ap (byte_at 7) (stored_bytes m.told s) in omega (arith, z)) fits)
    (λ d. ⊎_elim (λ k. let z : false ≡ true = k.1.0 in cc) (λ k. let z : true ≡ false = k.1 in cc) d) calm

pub removed : LawfulTo once (removes 7) (makes removal ∷ says DELETE status.Etmpfail ∷ []) → ⊥
unfolding spelling frames_in first_frame frame_of read_of frame_row shape_fault request_of requirement_of
removed l =
    let (g, s, fits, calm) = asked_calm (l.1.0 refl) refl refl refl in
    ⊎_elim
    (λ o. ⊎_elim
    (λ r. let z : ◌≡◌ {A = ℕ} 134 0 = ap (byte_at 7) (no_outcome r.1 s o.2) in omega (arith, z))
    (λ m. let z : ◌≡◌ {A = ℕ} 134 0 = ap (byte_at 7) (stored_bytes m.told s) in omega (arith, z)) fits)
    (λ d. ⊎_elim (λ k. let z : false ≡ true = k.1.0 in cc) (λ k. let z : true ≡ false = k.1 in cc) d) calm
