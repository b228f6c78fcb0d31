-- prepares that clients ask for, and others, judged by hand
use Rattle.std.specs.Prelude.{◌≡◌, ◌-◌, ◌^◌, ◌==◌, ◌∷◌, ◌++◌, take, if◌then◌else◌}
use Rattle.transcript_law.proofs.Words.{ℕ, Bool, true, false, List, [], refl, ap, sym, ◌∙◌, subst, inl, inr, arith, Some, None, Result, Ok, KvRequest, Status, Doc, Frame, Write, eqb-true, LawfulFrom, after_line}
unfoldable use Rattle.mcbp_dcp.specs.Messages.{read_of}
unfoldable use Rattle.mcbp_dcp.specs.Rows.{frame_row}
unfoldable use Rattle.mcbp_dcp.specs.Shapes.{shape_fault}
unfoldable use Rattle.mcbp_frame.specs.Cutting.{frames_in}
unfoldable use Rattle.mcbp_frame.specs.Frames.{first_frame, frame_of}
unfoldable use Rattle.mcbp_frame.specs.Spelling.{spelling}
unfoldable use Rattle.mcbp_kv.specs.Framing.{requirement_of}
unfoldable use Rattle.mcbp_kv.specs.Requests.{request_of}
use Rattle.mcbp_frame.specs.declared.frame.TheConstants.{FRAMED_REQUEST}
use Rattle.mcbp_kv.specs.Answers.{bare_answer}
use Rattle.mcbp_kv.specs.Replies.{reply_frame}
use Rattle.mcbp_kv.specs.declared.durable.Durability.{Durability}
use Rattle.mcbp_kv.specs.declared.opcodes.TheConstants.{DELETE, SET}
use Rattle.mcbp_kv.specs.declared.request.KvRequest.TheVariants as request
use Rattle.vb_calls.specs.{Durable.{is_delete}, Writes.{doc_refusal}}
use Rattle.vb_events.specs.declared.event.Event.TheVariants as event
use Rattle.vb_types.specs.declared.change.Act.TheVariants as act
use Rattle.vb_types.specs.declared.change.Level.{Level}
use Rattle.vb_types.specs.declared.change.Level.TheVariants as level
use Rattle.vb_types.specs.declared.status.Status.TheVariants as status
use Rattle.vb_types.specs.declared.write.Op.TheVariants as op
use Rattle.transcript_law.proofs.rows.{AnswerDurables.{possible_alone}, AnswerNumbers.{last_number as one_left, number_none}, AnswerRefusals.{why_unfit}, Answering.{bare_so, byte_at, first_number, noop_answer}, ChangeRows.{AsksAs, after_set, prepare_so}, NextRows.{seven_next, seven_pending, seven_there}}
use Rattle.transcript_law.specs.AnswerRows.{answers, bare_request, durably, durably_removes, says, writes}
use Rattle.transcript_law.specs.ChangeRows.{asking, asking_behind, asking_far, durably_beside, durably_unfit, own_lines, prepares, set_known, sets_seven, stamped}
use Rattle.transcript_law.specs.ClientRows.{noop}
use Rattle.transcript_law.specs.ClientStreams.{blank_client}
use Rattle.transcript_law.specs.{LawfulAnswers.{HasNumber}, Lawfulness.{IsPrepareAsked}, Questions.{Question, past_answer, question_of}, StreamsTold.{ClientsKnown}}
use Rattle.transcript_law.specs.Transcripts.{first_doc, set_frame}

-- ---- who asks

module _ {clients : ClientsKnown} {moved : Bool} {v : ℕ} {key : List ℕ} {how : Level} {doc : Doc} {deleted : Bool} (p : IsPrepareAsked clients moved 0 v key how doc deleted) where
  -- nobody does
  none_asks : ((c : ℕ) → question_of (clients 0 c).asking ≡ None) → ⊥
  none_asks none = let z : None ≡ Some p.question = sym (none p.client) ∙ p.next in cc

  -- the connection 1 alone asks something
  module _ (q : Question) (others : (c : ℕ) → (c == 1) ≡ false → question_of (clients 0 c).asking ≡ None) (next : question_of (clients 0 1).asking ≡ Some q) where
    one_is : p.client ≡ 1
    one_is = by (p.client == 1) refl
      where
        by : (b : Bool) → (p.client == 1) ≡ b → p.client ≡ 1
        by true e = eqb-true p.client 1 e
        by false e = let z : None ≡ Some p.question = sym (others p.client e) ∙ p.next in cc

    question_is : p.question ≡ q
    question_is = let both : Some p.question ≡ Some q = sym p.next ∙ ap (λ c. question_of (clients 0 c).asking) one_is ∙ next in cc

    vb_is : q.frame.vb_or_status ≡ v
    vb_is = ap (λ (x : Question). x.frame.vb_or_status) (sym question_is) ∙ p.vb

    asks_is : request_of (clients 0 1).asking.settings.json q.frame ≡ Ok (request.Write p.durable.write (Some p.durable.wish))
    asks_is = sym (λ i. request_of (clients 0 (one_is i)).asking.settings.json (question_is i).frame) ∙ p.durable.asks

    number_is : HasNumber (clients 0 1).asking.durables
    number_is = subst (λ c. HasNumber (clients 0 c).asking.durables) one_is p.numbered

-- which write is asked for, and how durable
same_write : (w x : Write) (l m : Durability) → ◌≡◌ {A = Result KvRequest Status} (Ok (request.Write w (Some l))) (Ok (request.Write x (Some m))) → (w ≡ x) × (l ≡ m)
same_write w x l m e = (cc, cc)

-- ---- what a frame asks for

abbrev durable_set : ℕ → ℕ → ℕ → Frame
durable_set number key value = record (set_frame (key ∷ []) (value ∷ [])) { magic = FRAMED_REQUEST; framing = 17 ∷ number ∷ [] }

abbrev durable_removal : ℕ → Frame
durable_removal key = record (bare_request DELETE 0) { magic = FRAMED_REQUEST; framing = 17 ∷ 1 ∷ []; key = key ∷ [] }

-- ---- prepares that are asked for

pub seven_asked : AsksAs (asking (durably 1 7 6) set_known).clients_at false 7 (prepares 2 2 false)
unfolding spelling frames_in first_frame frame_of read_of frame_row shape_fault request_of requirement_of
seven_asked = prepare_so (λ how doc deleted. IsPrepareAsked (asking (durably 1 7 6) set_known).clients_at false 0 0 (7 ∷ []) how doc deleted) level.Majority (stamped 2 2) false (record {
  client = 1;
  question = record { before = []; frame = durable_set 1 7 6 };
  next = refl;
  vb = refl;
  durable = record { own = refl; write = _; wish = _; asks = refl };
  key_is = refl;
  level_is = refl;
  cas = 2;
  rev = 2;
  doc_is = refl;
  deleted_is = refl;
  numbered = first_number;
  still = refl;
})

pub nine_asked : AsksAs (asking (durably 1 9 6) set_known).clients_at false 9 (prepares 2 1 false)
unfolding spelling frames_in first_frame frame_of read_of frame_row shape_fault request_of requirement_of
nine_asked = prepare_so (λ how doc deleted. IsPrepareAsked (asking (durably 1 9 6) set_known).clients_at false 0 0 (9 ∷ []) how doc deleted) level.Majority (stamped 2 1) false (record {
  client = 1;
  question = record { before = []; frame = durable_set 1 9 6 };
  next = refl;
  vb = refl;
  durable = record { own = refl; write = _; wish = _; asks = refl };
  key_is = refl;
  level_is = refl;
  cas = 2;
  rev = 1;
  doc_is = refl;
  deleted_is = refl;
  numbered = first_number;
  still = refl;
})

pub removal_asked : AsksAs (asking (durably_removes 1 7) set_known).clients_at false 7 (prepares 2 2 true)
unfolding spelling frames_in first_frame frame_of read_of frame_row shape_fault request_of requirement_of
removal_asked = prepare_so (λ how doc deleted. IsPrepareAsked (asking (durably_removes 1 7) set_known).clients_at false 0 0 (7 ∷ []) how doc deleted) level.Majority (record (stamped 2 2) { value = [] }) true (record {
  client = 1;
  question = record { before = []; frame = durable_removal 7 };
  next = refl;
  vb = refl;
  durable = record { own = refl; write = _; wish = _; asks = refl };
  key_is = refl;
  level_is = refl;
  cas = 2;
  rev = 2;
  doc_is = refl;
  deleted_is = refl;
  numbered = first_number;
  still = refl;
})

pub asked : LawfulFrom (asking (durably 1 7 6) set_known) sets_seven
asked = after_set _ _ _ (prepares 2 2 false) 7 (λ prepared doc deleted e. cc, λ prepared e. cc) seven_asked (seven_next (prepares 2 2 false) refl refl refl)

pub behind_answered : LawfulFrom (asking (noop 9 ++ durably 1 7 6) set_known) (answers 9 ∷ sets_seven)
unfolding spelling frames_in first_frame frame_of read_of frame_row shape_fault request_of requirement_of
behind_answered = (
  (λ none. noop_answer {q = record { before = []; frame = _ }} 9 refl refl refl refl (tt, refl)),
  after_set (after_line (asking (noop 9 ++ durably 1 7 6) set_known) (answers 9)).clients_at _ _ (prepares 2 2 false) 7 (λ prepared doc deleted e. cc, λ prepared e. cc)
      (prepare_so (λ how doc deleted. IsPrepareAsked (after_line (asking (noop 9 ++ durably 1 7 6) set_known) (answers 9)).clients_at false 0 0 (7 ∷ []) how doc deleted) level.Majority (stamped 2 2) false (record {
        client = 1;
        question = record { before = []; frame = durable_set 1 7 6 };
        next = refl;
        vb = refl;
        durable = record { own = refl; write = _; wish = _; asks = refl };
        key_is = refl;
        level_is = refl;
        cas = 2;
        rev = 2;
        doc_is = refl;
        deleted_is = refl;
        numbered = first_number;
        still = refl;
      }))
      (seven_next (prepares 2 2 false) refl refl refl),
)

pub last_number : LawfulFrom (asking_behind (2 ^ 32 - 2) (durably 1 7 6) set_known) sets_seven
unfolding spelling frames_in first_frame frame_of read_of frame_row shape_fault request_of requirement_of
last_number = after_set (asking_behind (2 ^ 32 - 2) (durably 1 7 6) set_known).clients_at _ _ (prepares 2 2 false) 7 (λ prepared doc deleted e. cc, λ prepared e. cc)
    (prepare_so (λ how doc deleted. IsPrepareAsked (asking_behind (2 ^ 32 - 2) (durably 1 7 6) set_known).clients_at false 0 0 (7 ∷ []) how doc deleted) level.Majority (stamped 2 2) false (record {
      client = 1;
      question = record { before = []; frame = durable_set 1 7 6 };
      next = refl;
      vb = refl;
      durable = record { own = refl; write = _; wish = _; asks = refl };
      key_is = refl;
      level_is = refl;
      cas = 2;
      rev = 2;
      doc_is = refl;
      deleted_is = refl;
      numbered = one_left;
      still = refl;
    }))
    (seven_next (prepares 2 2 false) refl refl refl)

-- ---- and others

pub unasked : LawfulFrom set_known sets_seven → ⊥
unfolding frames_in first_frame
unasked l = none_asks (l.0.asked level.Majority (stamped 2 2) false refl) (λ c. refl)

pub elsewhere : LawfulFrom (asking_far (durably 1 7 6) set_known) sets_seven → ⊥
unfolding frames_in first_frame
elsewhere l = none_asks (l.0.asked level.Majority (stamped 2 2) false refl) (λ c. refl)

pub part : LawfulFrom (asking (take 34 (durably 1 7 6)) set_known) sets_seven → ⊥
unfolding spelling frames_in first_frame frame_of
part l = none_asks (l.0.asked level.Majority (stamped 2 2) false refl) (λ c. by c (c == 1) refl)
  where
    by : (c : ℕ) (b : Bool) → (c == 1) ≡ b → question_of ((asking (take 34 (durably 1 7 6)) set_known).clients_at 0 c).asking ≡ None
    by c true e = rw e refl
    by c false e = rw e refl

pub shut : LawfulFrom (asking (durably 1 7 6) set_known) (event.Closed 0 1 ∷ sets_seven) → ⊥
unfolding frames_in first_frame
shut l = none_asks (l.1.0.asked level.Majority (stamped 2 2) false refl) (λ c. by c (c == 1) refl)
  where
    by : (c : ℕ) (b : Bool) → (c == 1) ≡ b → question_of (if b then blank_client else (asking (durably 1 7 6) set_known).clients_at 0 c).asking ≡ None
    by c true e = refl
    by c false e = rw e refl

pub refused : LawfulFrom (asking durably_unfit set_known) (says SET status.KeyEexists ∷ [])
unfolding spelling frames_in first_frame frame_of read_of frame_row shape_fault request_of requirement_of
refused = (
  λ z. inl (record {
    question = _;
    next = refl;
    answer = reply_frame (bare_answer SET status.KeyEexists 9);
    spelled = refl;
    response = refl;
    opcode = refl;
    opaque = refl;
    calm = inr (inr (tt, refl));
    fits = inr (first_number, inl (status.KeyEexists, bare_so SET 9 status.KeyEexists, why_unfit refl (seven_pending (first_doc 1 (8 ∷ [])) (7 ∷ [])) (inl (ap (doc_refusal op.Set 2) (seven_there (first_doc 1 (8 ∷ []))))), λ a e. possible_alone e));
  }),
  tt,
)

module _ (l : LawfulFrom (asking durably_unfit set_known) (says SET status.KeyEexists ∷ sets_seven)) where
  pub answered : ⊥
  unfolding spelling frames_in first_frame frame_of read_of frame_row shape_fault
  answered = none_asks (l.1.0.asked level.Majority (stamped 2 2) false refl) (λ c. by c (c == 1) refl)
    where
      by : (c : ℕ) (b : Bool) → (c == 1) ≡ b → question_of (if b then past_answer ((asking durably_unfit set_known).clients_at 0 1) else (asking durably_unfit set_known).clients_at 0 c).asking ≡ None
      by c true e = refl
      by c false e = rw e refl

pub behind : LawfulFrom (asking (noop 9 ++ durably 1 7 6) set_known) sets_seven → ⊥
unfolding spelling frames_in first_frame frame_of read_of frame_row shape_fault request_of requirement_of
behind l = let e = asks_is (l.0.asked level.Majority (stamped 2 2) false refl) (record { before = []; frame = _ }) (λ c e. rw e refl) refl in cc

pub plain : LawfulFrom (asking (writes SET 0 7 6) set_known) sets_seven → ⊥
unfolding spelling frames_in first_frame frame_of read_of frame_row shape_fault request_of requirement_of
plain l = let e = asks_is (l.0.asked level.Majority (stamped 2 2) false refl) (record { before = []; frame = set_frame (7 ∷ []) (6 ∷ []) }) (λ c e. rw e refl) refl in cc

pub other_vb : LawfulFrom (asking durably_beside set_known) sets_seven → ⊥
unfolding spelling frames_in first_frame frame_of read_of frame_row shape_fault
other_vb l = let e : ◌≡◌ {A = ℕ} 1 0 = vb_is (l.0.asked level.Majority (stamped 2 2) false refl) (record { before = []; frame = record (durable_set 1 7 6) { vb_or_status = 1 } }) (λ c e. rw e refl) refl in omega (arith, e)

pub other_key : LawfulFrom (asking (durably 1 9 6) set_known) sets_seven → ⊥
unfolding spelling frames_in first_frame frame_of read_of frame_row shape_fault request_of requirement_of
other_key l =
    let p = l.0.asked level.Majority (stamped 2 2) false refl in
    let is = same_write _ p.durable.write _ p.durable.wish (asks_is p (record { before = []; frame = durable_set 1 9 6 }) (λ c e. rw e refl) refl) in
    let e : ◌≡◌ {A = ℕ} 7 9 = ap (byte_at 0) (p.key_is ∙ ap (λ (w : Write). w.key) (sym is.0)) in omega (arith, e)

pub other_level : LawfulFrom (asking (durably 2 7 6) set_known) sets_seven → ⊥
unfolding spelling frames_in first_frame frame_of read_of frame_row shape_fault request_of requirement_of
other_level l =
    let p = l.0.asked level.Majority (stamped 2 2) false refl in
    let is = same_write _ p.durable.write _ p.durable.wish (asks_is p (record { before = []; frame = durable_set 2 7 6 }) (λ c e. rw e refl) refl) in
    let e : level.Majority ≡ level.MajorityPersistActive = p.level_is ∙ ap (λ (d : Durability). d.level) (sym is.1) in cc

pub other_value : LawfulFrom (asking (durably 1 7 5) set_known) sets_seven → ⊥
unfolding spelling frames_in first_frame frame_of read_of frame_row shape_fault request_of requirement_of
other_value l =
    let p = l.0.asked level.Majority (stamped 2 2) false refl in
    let is = same_write _ p.durable.write _ p.durable.wish (asks_is p (record { before = []; frame = durable_set 1 7 5 }) (λ c e. rw e refl) refl) in
    let e : ◌≡◌ {A = ℕ} 6 5 = ap (byte_at 0) (ap (λ (d : Doc). d.value) p.doc_is ∙ ap (λ (w : Write). w.value) (sym is.0)) in omega (arith, e)

pub removal : LawfulFrom (asking (durably_removes 1 7) set_known) sets_seven → ⊥
unfolding spelling frames_in first_frame frame_of read_of frame_row shape_fault request_of requirement_of
removal l =
    let p = l.0.asked level.Majority (stamped 2 2) false refl in
    let is = same_write _ p.durable.write _ p.durable.wish (asks_is p (record { before = []; frame = durable_removal 7 }) (λ c e. rw e refl) refl) in
    let e : false ≡ true = p.deleted_is ∙ ap (λ (w : Write). is_delete w.op) (sym is.0) in cc

pub spent : LawfulFrom (asking_behind (2 ^ 32 - 1) (durably 1 7 6) set_known) sets_seven → ⊥
unfolding spelling frames_in first_frame frame_of read_of frame_row shape_fault
spent l = number_none (number_is (l.0.asked level.Majority (stamped 2 2) false refl) (record { before = []; frame = durable_set 1 7 6 }) (λ c e. rw e refl) refl)

-- once for each question: behind its commit it is not prepared again
pub again : LawfulFrom (asking (durably 1 7 6) set_known) (sets_seven ++ own_lines 3 7 (act.Commit 2 (stamped 2 2) false) ++ own_lines 4 7 (prepares 4 3 false)) → ⊥
again l = let z : true ≡ false = (l.1.1.0.asked level.Majority (stamped 4 3) false refl).still in cc

pub behind_change : LawfulFrom (record (asking (durably 1 7 6) set_known) { changed = true }) sets_seven → ⊥
behind_change l = let z : true ≡ false = (l.0.asked level.Majority (stamped 2 2) false refl).still in cc
