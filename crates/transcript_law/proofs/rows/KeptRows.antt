-- answers behind changes of durable writes, judged by hand
use Rattle.std.specs.Prelude.{◌≡◌, ◌∷◌, ◌++◌}
use Rattle.transcript_law.proofs.Words.{ℕ, true, false, [], refl, ap, inl, inr, ⊎_elim, arith, LawfulChange}
unfoldable use Rattle.mcbp_dcp.specs.Messages.{read_of}
unfoldable use Rattle.mcbp_dcp.specs.Rows.{frame_row}
unfoldable use Rattle.mcbp_dcp.specs.Shapes.{shape_fault}
unfoldable use Rattle.mcbp_frame.specs.Cutting.{frames_in}
unfoldable use Rattle.mcbp_frame.specs.Frames.{first_frame, frame_of}
unfoldable use Rattle.mcbp_frame.specs.Spelling.{spelling}
unfoldable use Rattle.mcbp_kv.specs.Framing.{requirement_of}
unfoldable use Rattle.mcbp_kv.specs.Requests.{request_of}
use Rattle.mcbp_frame.specs.declared.frame.TheConstants.{FRAMED_REQUEST}
use Rattle.mcbp_kv.specs.Answers.{bare_answer, stored_answer}
use Rattle.mcbp_kv.specs.Replies.{reply_frame}
use Rattle.mcbp_kv.specs.declared.opcodes.TheConstants.{SET}
use Rattle.vb_types.specs.declared.change.Level.TheVariants as level
use Rattle.vb_types.specs.declared.role.Role.TheVariants as role
use Rattle.vb_types.specs.declared.status.Status.TheVariants as status
use Rattle.transcript_law.proofs.rows.{AnswerCommits.{makes_commit, own_commit}, AnswerDurables.{locked}, Answering.{asked_calm, bare_bytes, bare_so, byte_at, first_number, noop_answer, stored_bytes, stored_so}, AnswerRefusals.{no_outcome}, AnswerUnsure.{gone}, ChangeRows.{prepare_so}, NextRows.{nine_next}}
use Rattle.transcript_law.specs.AnswerRows.{LawfulAwaited, LawfulTo, answers, durably, makes, once, says, stores}
use Rattle.transcript_law.specs.{ClientAskRows.{serving, unopened}, ClientStreamRows.{committed as committed_change, pending, prepared, turned}}
use Rattle.transcript_law.specs.ClientRows.{noop}
use Rattle.transcript_law.specs.Lawfulness.{IsPrepareAsked}
use Rattle.transcript_law.specs.Transcripts.{first_doc, set_frame}
use Rattle.transcript_law.specs.UnsureRows.{had_committed}

-- a client asks for the prepare of the key 9
nine_asked : LawfulChange (serving once (unopened (durably 1 9 6))) 0 0 5 prepared
unfolding spelling frames_in first_frame frame_of read_of frame_row shape_fault request_of requirement_of
nine_asked = record {
  active = refl;
  writer = record { made_or_took = refl; on_branch = refl };
  above_branch = omega arith;
  above_forks = (λ e. omega arith, tt);
  made = nine_next prepared.act 2 (omega arith) (omega arith) refl refl refl refl;
  asked = prepare_so (λ how doc deleted. IsPrepareAsked (serving once (unopened (durably 1 9 6))).clients_at (serving once (unopened (durably 1 9 6))).changed 0 0 (9 ∷ []) how doc deleted) level.Majority (first_doc 2 (6 ∷ [])) false (record {
    client = 1;
    question = record { before = []; frame = record (set_frame (9 ∷ []) (6 ∷ [])) { magic = FRAMED_REQUEST; framing = 17 ∷ 1 ∷ [] } };
    next = refl;
    vb = refl;
    durable = record { own = refl; write = _; wish = _; asks = refl };
    key_is = refl;
    level_is = refl;
    cas = 2;
    rev = 1;
    doc_is = refl;
    deleted_is = refl;
    numbered = first_number;
    still = refl;
  });
  fulfils = λ number doc deleted e. cc;
  backed = λ number doc deleted e. cc;
  aborts = λ number e. cc;
}

pub refused : LawfulTo pending (durably 1 9 4) (says SET status.SyncWriteInProgress ∷ [])
refused = locked

pub waits : LawfulTo once (durably 1 9 6) (makes prepared ∷ [])
waits = (nine_asked, tt)

pub unsure : LawfulTo once (durably 1 9 6) (makes prepared ∷ turned role.Dead ∷ says SET status.SyncWriteAmbiguous ∷ [])
unfolding spelling frames_in first_frame frame_of read_of frame_row shape_fault request_of requirement_of
unsure = (
  nine_asked,
  (
    record { another = λ e. cc; anew = λ e. cc; pending = λ e. cc },
    (
      λ z. inl (record {
        question = _;
        next = refl;
        answer = reply_frame (bare_answer SET status.SyncWriteAmbiguous 9);
        spelled = refl;
        response = refl;
        opcode = refl;
        opaque = refl;
        calm = inr (inl ((_, _, refl, inr refl), (refl, tt)));
        fits = inr (first_number, inr (inr (record { said = bare_so SET 9 status.SyncWriteAmbiguous; own = gone })));
      }),
      tt,
    ),
  ),
)

pub left : LawfulTo once (durably 1 9 6) (makes prepared ∷ says SET status.SyncWriteInProgress ∷ []) → ⊥
unfolding spelling frames_in first_frame frame_of read_of frame_row shape_fault request_of requirement_of
left l =
    let (g, s, fits, calm) = asked_calm (l.1.0 refl) refl refl refl in
    ⊎_elim (λ o. let e = o.1 in cc)
    (λ d. ⊎_elim
    (λ k. ⊎_elim
    (λ a. let e : ◌≡◌ {A = ℕ} 162 134 = ap (byte_at 7) (bare_bytes a.1 s) in omega (arith, e))
    (λ x. ⊎_elim
    (λ r. ⊎_elim (λ e. let z : ◌≡◌ {A = ℕ} 162 0 = ap (byte_at 7) (no_outcome r.1 s e) in omega (arith, z)) (λ e. let z : ◌≡◌ {A = ℕ} 162 163 = ap (byte_at 7) (no_outcome r.1 s e) in omega (arith, z)) k.0.3)
    (λ t. ⊎_elim (λ m. let z : ◌≡◌ {A = ℕ} 162 0 = ap (byte_at 7) (stored_bytes m.told s) in omega (arith, z)) (λ m. let z : ◌≡◌ {A = ℕ} 162 163 = ap (byte_at 7) (bare_bytes m.said s) in omega (arith, z)) t) x.1) fits)
    (λ k. let z : true ≡ false = k.1 in cc) d) calm

pub behind_commit : LawfulAwaited pending (noop 9) (makes committed_change ∷ answers 9 ∷ []) → ⊥
unfolding spelling frames_in first_frame frame_of read_of frame_row shape_fault request_of requirement_of
behind_commit l =
    let (g, s, fits, calm) = asked_calm (l.1.0 refl) refl refl refl in
    ⊎_elim (λ o. let e = o.1 in cc) (λ d. ⊎_elim (λ k. let e = k.0.2 in cc) (λ k. let z : true ≡ false = k.1 in cc) d) calm

pub behind_outcome : LawfulAwaited pending (durably 1 9 6 ++ noop 9) (makes committed_change ∷ stores SET 2 [] ∷ answers 9 ∷ [])
unfolding spelling frames_in first_frame frame_of read_of frame_row shape_fault request_of requirement_of
behind_outcome = (
  makes_commit _ _ _,
  (
    λ z. inl (record {
      question = _;
      next = refl;
      answer = reply_frame (stored_answer SET 9 2 []);
      spelled = refl;
      response = refl;
      opcode = refl;
      opaque = refl;
      calm = inr (inl ((_, _, refl, inl refl), (refl, tt)));
      fits = inr (first_number, inr (inl (record { one = had_committed; told_before = inl refl; here = refl; prepared = 2; doc = first_doc 2 (6 ∷ []); deleted = false; commits = refl; own = own_commit; told = stored_so SET 9 2 [] })));
    }),
    ((λ z. noop_answer 9 refl refl refl refl ((refl, tt), refl)), tt),
  ),
)
