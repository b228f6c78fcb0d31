-- sets that are answered by other than the Success of a write that is not to be durable, judged by hand
use Rattle.std.specs.Prelude.{◌≡◌, ◌∷◌}
use Rattle.transcript_law.proofs.Words.{ℕ, false, true, [], refl, ap, sym, ◌∙◌, subst, inl, inr, ⊎_elim, arith, Some, None, Pend}
unfoldable use Rattle.mcbp_dcp.specs.Messages.{read_of}
unfoldable use Rattle.mcbp_dcp.specs.Rows.{frame_row}
unfoldable use Rattle.mcbp_dcp.specs.Shapes.{shape_fault}
unfoldable use Rattle.mcbp_frame.specs.Cutting.{frames_in}
unfoldable use Rattle.mcbp_frame.specs.Frames.{first_frame, frame_of}
unfoldable use Rattle.mcbp_frame.specs.Spelling.{spelling}
unfoldable use Rattle.mcbp_kv.specs.Framing.{requirement_of}
unfoldable use Rattle.mcbp_kv.specs.Requests.{request_of}
use Rattle.mcbp_kv.specs.Answers.{bare_answer, stored_answer}
use Rattle.mcbp_kv.specs.Replies.{reply_frame}
use Rattle.mcbp_kv.specs.declared.opcodes.TheConstants.{SET}
use Rattle.vb_calls.specs.Writes.{doc_refusal}
use Rattle.vb_types.specs.declared.change.Level.TheVariants.{Majority}
use Rattle.vb_types.specs.declared.role.Role.TheVariants as role
use Rattle.vb_types.specs.declared.status.Status.TheVariants as status
use Rattle.vb_types.specs.declared.write.Op.TheVariants as op
use Rattle.transcript_law.proofs.rows.{AnswerCommits.{named_so, own_commit}, Answering.{asked_calm, bare_so, byte_at, first_number, stored_bytes, stored_so}, AnswerRefusals.{no_outcome}, AnswerUnsure.{gone}, NextRows.{none_pending, none_stored, resolving_next, write_next}, WaitingKeys.{nine_waits, waits}}
use Rattle.transcript_law.specs.AnswerRows.{durably, makes, says, stores}
use Rattle.transcript_law.specs.ClientStreamRows.{committed as committed_change, pending, turned}
use Rattle.transcript_law.specs.Majorities.{IsHeldByMost}
use Rattle.transcript_law.specs.StoredRows.{LawfulBeside, beside_set, sets_beside, two_written}
use Rattle.transcript_law.specs.Transcripts.{first_doc}
use Rattle.transcript_law.specs.UnsureRows.{had_committed}

held_alone : IsHeldByMost ((two_written (durably 1 9 6)).counts_at 0 0) ((two_written (durably 1 9 6)).disk_at 0 0).saved 2 Majority
held_alone = record { members = []; differ = tt; each = tt; most = omega arith; saved_for = λ w. absurd w }

pub outcome : LawfulBeside (durably 1 9 6) (makes committed_change ∷ stores SET 2 [] ∷ [])
unfolding spelling frames_in first_frame frame_of read_of frame_row shape_fault request_of requirement_of
outcome = (
  record {
    active = refl;
    writer = record { made_or_took = refl; on_branch = refl };
    above_branch = omega arith;
    above_forks = (λ e. omega arith, (λ e. omega arith, tt));
    made = resolving_next pending committed_change waits refl nine_waits refl refl refl refl;
    asked = λ level doc deleted e. cc;
    fulfils = λ number doc deleted e. let t = named_so number doc deleted e in (waits, nine_waits, t.0, t.1, t.2);
    backed = λ number doc deleted e p there.
        let found : Some waits ≡ Some p = sym nine_waits ∙ there in let same : waits ≡ p = cc in
        subst (λ (q : Pend). IsHeldByMost ((two_written (durably 1 9 6)).counts_at 0 0) ((two_written (durably 1 9 6)).disk_at 0 0).saved q.seq q.level) same held_alone;
    aborts = λ prepared e. cc;
  },
  (
    λ z. inl (record {
      question = _;
      next = refl;
      answer = reply_frame (stored_answer SET 9 2 []);
      spelled = refl;
      response = refl;
      opcode = refl;
      opaque = refl;
      calm = inr (inl ((_, _, refl, inl refl), (refl, tt)));
      fits = inr (first_number, inr (inl (record { one = had_committed; told_before = inl refl; here = refl; prepared = 2; doc = first_doc 2 (6 ∷ []); deleted = false; commits = refl; own = own_commit; told = stored_so SET 9 2 [] })));
    }),
    tt,
  ),
)

pub unasked : LawfulBeside (durably 1 9 6) (makes committed_change ∷ beside_set ∷ stores SET 2 [] ∷ []) → ⊥
unfolding spelling frames_in first_frame frame_of read_of frame_row shape_fault request_of requirement_of
unasked l =
    let (g, s, fits, calm) = asked_calm (l.1.1.0 refl) refl refl refl in
    ⊎_elim (λ o. let e = o.1 in cc) (λ d. ⊎_elim (λ k. let z : false ≡ true = k.1.0 in cc) (λ k. let z : true ≡ false = k.1 in cc) d) calm

pub unasked_before : LawfulBeside (durably 1 9 6) (beside_set ∷ makes committed_change ∷ stores SET 2 [] ∷ []) → ⊥
unfolding spelling frames_in first_frame frame_of read_of frame_row shape_fault request_of requirement_of
unasked_before l =
    let (g, s, fits, calm) = asked_calm (l.1.1.0 refl) refl refl refl in
    ⊎_elim (λ o. let e = o.1 in cc) (λ d. ⊎_elim (λ k. let z : false ≡ true = k.1.1.0 in cc) (λ k. let z : true ≡ false = k.1 in cc) d) calm

pub unsure : LawfulBeside (durably 1 9 6) (turned role.Dead ∷ says SET status.SyncWriteAmbiguous ∷ [])
unfolding spelling frames_in first_frame frame_of read_of frame_row shape_fault request_of requirement_of
unsure = (
  record { another = λ e. cc; anew = λ e. cc; pending = λ e. cc },
  (
    λ z. inl (record {
      question = _;
      next = refl;
      answer = reply_frame (bare_answer SET status.SyncWriteAmbiguous 9);
      spelled = refl;
      response = refl;
      opcode = refl;
      opaque = refl;
      calm = inr (inl ((_, _, refl, inr refl), tt));
      fits = inr (first_number, inr (inr (record { said = bare_so SET 9 status.SyncWriteAmbiguous; own = gone })));
    }),
    tt,
  ),
)

pub unasked_unsure : LawfulBeside (durably 1 9 6) (turned role.Dead ∷ beside_set ∷ says SET status.SyncWriteAmbiguous ∷ []) → ⊥
unfolding spelling frames_in first_frame frame_of read_of frame_row shape_fault request_of requirement_of
unasked_unsure l =
    let (g, s, fits, calm) = asked_calm (l.1.1.0 refl) refl refl refl in
    ⊎_elim (λ o. let e = o.1 in cc) (λ d. ⊎_elim (λ k. let z : false ≡ true = k.1.0 in cc) (λ k. let z : true ≡ false = k.1 in cc) d) calm

pub asked : LawfulBeside sets_beside (beside_set ∷ stores SET 2 [] ∷ [])
unfolding spelling frames_in first_frame frame_of read_of frame_row shape_fault request_of requirement_of
asked = (
  record {
    active = refl;
    writer = record { made_or_took = refl; on_branch = refl };
    above_branch = omega arith;
    above_forks = (λ e. omega arith, (λ e. omega arith, tt));
    made = write_next [] _ None refl (none_pending (7 ∷ [])) (none_stored (7 ∷ [])) refl (λ n e. (let q : 2 ≡ n = cc in omega (arith, q), inr (λ c i. absurd i))) (λ n e. cc) (λ e. cc);
    asked = λ level doc deleted e. cc;
    fulfils = λ prepared doc deleted e. cc;
    backed = λ prepared doc deleted e. cc;
    aborts = λ prepared e. cc;
  },
  (
    λ z. inl (record {
      question = _;
      next = refl;
      answer = reply_frame (stored_answer SET 9 2 []);
      spelled = refl;
      response = refl;
      opcode = refl;
      opaque = refl;
      calm = inl (_, refl, refl);
      fits = inr (record { branch = 6; change = _; clock = 0; older = []; alone = tt; last = refl; key = refl; cas = 2; rev = 1; act = refl; before = []; behind = refl; fits = ap (doc_refusal op.Set 0) (none_stored (7 ∷ [])); told = stored_so SET 9 2 [] });
    }),
    tt,
  ),
)

pub refused : LawfulBeside sets_beside (beside_set ∷ says SET status.KeyEexists ∷ []) → ⊥
unfolding spelling frames_in first_frame frame_of read_of frame_row shape_fault request_of requirement_of
refused l =
    let (g, s, fits, calm) = asked_calm (l.1.0 refl) refl refl refl in
    ⊎_elim
    (λ o. ⊎_elim
    (λ r. let z : ◌≡◌ {A = ℕ} 2 0 = ap (byte_at 7) (no_outcome r.1 s o.2) in omega (arith, z))
    (λ m. let z : ◌≡◌ {A = ℕ} 2 0 = ap (byte_at 7) (stored_bytes m.told s) in omega (arith, z)) fits)
    (λ d. ⊎_elim (λ k. let z : false ≡ true = k.1.0 in cc) (λ k. let z : true ≡ false = k.1 in cc) d) calm
