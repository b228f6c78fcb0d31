-- a client that asks for a durable write and waits for its outcome, in transcripts that are judged by hand
use Rattle.std.specs.Prelude.{◌≡◌, ◌∷◌, ◌++◌, if◌then◌else◌}
use Rattle.transcript_law.proofs.Words.{ℕ, Bool, true, false, List, [], refl, ap, sym, ◌∙◌, subst, Some, None, Ok, Doc, Chronicle, Group, ScriptLine}
unfoldable use Rattle.mcbp_frame.specs.Cutting.{frames_in}
unfoldable use Rattle.mcbp_frame.specs.Frames.{first_frame, frame_of}
unfoldable use Rattle.mcbp_frame.specs.Spelling.{spelling}
unfoldable use Rattle.mcbp_kv.specs.Framing.{requirement_of}
unfoldable use Rattle.mcbp_kv.specs.Requests.{request_of}
use Rattle.client_session.specs.Serving.{is_dcp, no_settings}
use Rattle.mcbp_kv.specs.Durable.{timeout_named}
use Rattle.mcbp_kv.specs.declared.durable.Durability.{Durability}
use Rattle.mcbp_kv.specs.declared.request.KvRequest.TheVariants as request
use Rattle.vb_types.specs.declared.change.Act.TheVariants as act
use Rattle.vb_types.specs.declared.change.Level.TheVariants as level
use Rattle.vb_types.specs.declared.change.Level.{Level}
use Rattle.transcript_law.proofs.rows.{Answering.{first_number}, ChangeRows.{prepare_so}, Sets.{blank_after}, Silent.{AreHeard, Silent, all_silent, heard_by, one_answered, silent_answered, silent_heard}}
use Rattle.transcript_law.specs.Chronicles.{after_group, at_line}
use Rattle.transcript_law.specs.ClientStreams.{ClientKnown, ClientsKnown, with_client, with_sent_bytes}
use Rattle.transcript_law.specs.Crashes.{durable_nine, prepared}
use Rattle.transcript_law.specs.Lawfulness.{IsPrepareAsked}
use Rattle.transcript_law.specs.{LawfulAnswers.{HasNumber}, Questions.{Question, question_of}, StreamsTold.{Asking}}
use Rattle.transcript_law.specs.Transcripts.{first_doc, set_write}
use Rattle.transcript_law.specs.Unanswered.{AllAnswered, NoneWaits}

-- it sent that write, and nothing else that was not answered
abbrev pub sent_durably : ℕ → Asking
sent_durably m = record (blank_after m) { bytes = spelling durable_nine }

pub durably_sent : {m : ℕ} (known : ClientKnown) → known.asking ≡ blank_after m → (with_sent_bytes (spelling durable_nine) known).asking ≡ sent_durably m
durably_sent known blank = ap (λ (a : Asking). record a { bytes = a.bytes ++ spelling durable_nine }) blank

abbrev asks_nine : Question
asks_nine = record { before = []; frame = durable_nine }

nine_first : (m : ℕ) → question_of (sent_durably m) ≡ Some asks_nine
unfolding spelling frames_in first_frame frame_of
nine_first m = refl

abbrev wished : Durability
wished = record { level = level.Majority; timeout = timeout_named 0 }

nine_durable : request_of no_settings.json durable_nine ≡ Ok (request.Write (set_write (9 ∷ []) (6 ∷ [])) (Some wished))
unfolding request_of requirement_of
nine_durable = refl

-- so its prepare is asked for
pub prepare_sent : {m : ℕ} (clients : ClientsKnown) → (clients 0 1).asking ≡ sent_durably m → (how : Level) (doc : Doc) (deleted : Bool) → prepared.act ≡ act.Prepare how doc deleted → IsPrepareAsked clients false 0 0 (9 ∷ []) how doc deleted
prepare_sent {m} clients sent = prepare_so (λ how doc deleted. IsPrepareAsked clients false 0 0 (9 ∷ []) how doc deleted) level.Majority (first_doc 2 (6 ∷ [])) false (record {
  client = 1;
  question = asks_nine;
  next = ap question_of sent ∙ nine_first m;
  vb = refl;
  durable = record { own = refl; write = set_write (9 ∷ []) (6 ∷ []); wish = wished; asks = ap (λ (a : Asking). request_of a.settings.json durable_nine) sent ∙ nine_durable };
  key_is = refl;
  level_is = refl;
  cas = 2;
  rev = 1;
  doc_is = refl;
  deleted_is = refl;
  numbered = subst (λ (a : Asking). HasNumber a.durables) (sym sent) first_number;
  still = refl;
})

-- and it may wait
waits_so : {m : ℕ} (k : Asking) → k ≡ sent_durably m → NoneWaits k
waits_so {m} k sent = subst NoneWaits (sym sent) (record {
  asks = λ q is. let same : asks_nine ≡ q = by q (sym (nine_first m) ∙ is) in record { own = ap (λ (x : Question). is_dcp x.frame.opcode) (sym same); write = set_write (9 ∷ []) (6 ∷ []); wish = wished; asks = ap (λ (x : Question). request_of no_settings.json x.frame) (sym same) ∙ nine_durable };
  whole = λ none. let z : None ≡ Some asks_nine = sym none ∙ nine_first m in cc;
})
  where
    by : (q : Question) → Some asks_nine ≡ Some q → asks_nine ≡ q
    by q e = cc

pub durably_waits : {m : ℕ} (r : Chronicle) (clients : ClientsKnown) (known : ClientKnown) → Silent clients → known.asking ≡ sent_durably m → r.clients_at ≡ with_client clients 0 1 known → AllAnswered r
durably_waits r clients known silent sent is = one_answered r
    (λ n c other. ap (λ (k : ClientsKnown). (k n c).asking.bytes) is ∙ ap (λ b. (if b then known else clients n c).asking.bytes) other ∙ silent n c)
    (waits_so (r.clients_at 0 1).asking (ap (λ (k : ClientsKnown). (k 0 1).asking) is ∙ sent))

pub waits_by : {m : ℕ} (r : Chronicle) (line : ScriptLine) (lines : List ScriptLine) (group : Group) (groups : List Group) (clients : ClientsKnown) (known : ClientKnown) → Silent clients → known.asking ≡ sent_durably m
    → (let next : Chronicle = after_group (at_line r line.line) line.verb group.events group.answer in next.clients_at ≡ with_client clients 0 1 known → AreHeard next lines groups → AreHeard r (line ∷ lines) (group ∷ groups))
waits_by r line lines group groups clients known silent sent is more =
    heard_by r line lines group groups (durably_waits (after_group (at_line r line.line) line.verb group.events group.answer) clients known silent sent is) more

-- until it is gone, and nothing more is asked
pub gone_by : (r : Chronicle) (line : ScriptLine) (lines : List ScriptLine) (group : Group) (groups : List Group)
    → (let next : Chronicle = after_group (at_line r line.line) line.verb group.events group.answer in Silent next.clients_at → all_silent lines ≡ true → AreHeard r (line ∷ lines) (group ∷ groups))
gone_by r line lines group groups silent none =
    let next : Chronicle = after_group (at_line r line.line) line.verb group.events group.answer in heard_by r line lines group groups (silent_answered next silent) (silent_heard next lines groups silent none)
