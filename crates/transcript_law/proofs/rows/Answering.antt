-- answers to clients, and the questions that they answer
use Rattle.std.proofs.Common.{Bool, List, [], ap, arith, inl, inr, refl, subst, sym, true, false, ℕ, ⊎_elim, ◌∙◌, ◌∷◌, ◌≡◌}
use Rattle.std.specs.Prelude.{Ok, Result, Some, None, slice_index}
use Rattle.client_session.specs.Serving.{is_dcp}
use Rattle.mcbp_frame.specs.Cutting.{front_fault}
use Rattle.mcbp_frame.specs.Frames.{faulty_head}
use Rattle.mcbp_frame.specs.Spelling.{spelling}
use Rattle.mcbp_frame.specs.declared.frame.FaultyHead.{FaultyHead}
use Rattle.mcbp_frame.specs.declared.frame.FrameFault.{FrameFault}
use Rattle.mcbp_frame.specs.declared.frame.Frame.{Frame}
use Rattle.mcbp_frame.specs.declared.frame.TheConstants.{RESPONSE}
use Rattle.mcbp_kv.specs.Answers.{IsBare, IsFound, IsStored, IsWelcome, bare_answer, datatype_for, found_answer, stored_answer, welcome_answer}
use Rattle.mcbp_kv.specs.Features.{feature_bytes}
use Rattle.mcbp_kv.specs.Replies.{reply_frame}
use Rattle.mcbp_kv.specs.Requests.{request_of}
use Rattle.mcbp_kv.specs.declared.feature.Feature.{Feature}
use Rattle.mcbp_kv.specs.declared.opcodes.TheConstants.{GET, HELLO, NOOP}
use Rattle.mcbp_kv.specs.declared.request.KvRequest.{KvRequest}
use Rattle.mcbp_kv.specs.declared.request.KvRequest.TheVariants as request
use Rattle.std.specs.Int.{w32, to_be_bytes}
use Rattle.vb_events.specs.declared.event.Event.{Event}
use Rattle.vb_events.specs.declared.event.Event.TheVariants as event
use Rattle.vb_types.specs.Statuses.{status_code}
use Rattle.vb_types.specs.declared.doc.Doc.{Doc}
use Rattle.vb_types.specs.declared.status.Status.{Status}
use Rattle.vb_types.specs.declared.status.Status.TheVariants as status
use Rattle.std.specs.Prelude.{◌<◌, ◌+◌}
use Rattle.transcript_law.specs.ClientRows.{nooped}
use Rattle.transcript_law.specs.LawfulAnswers.{Answers, AnswersFault, FitsBy, FitsFrame, FitsRequest, HasNumber, IsStill, IsTimely, LawfulReply, WRITE_NUMBERS}
use Rattle.transcript_law.specs.LawfulMessages.{FitsDcp, moment_of}
use Rattle.transcript_law.specs.LinesTold.{Chronicle}
use Rattle.transcript_law.specs.Questions.{Question, behind_frames, question_of}
use Rattle.transcript_law.specs.StreamsTold.{Asking}
use Rattle.transcript_law.specs.LawfulAnswers.{serving}

-- ---- answers that are lawful

module _ {chronicle : Chronicle} {asking : Asking} {behind : List Event} {q : Question} (g : Frame) (next : question_of asking ≡ Some q) (response : g.magic ≡ RESPONSE) (opcode : g.opcode ≡ q.frame.opcode) (opaque : g.opaque ≡ q.frame.opaque) where
  -- to a frame of DCP
  pub dcp_answer : is_dcp q.frame.opcode ≡ true → FitsDcp chronicle 0 (moment_of (chronicle.clients_at 0 1) asking q) q.frame g → IsStill chronicle → LawfulReply chronicle 0 1 asking (spelling g) behind
  dcp_answer dcp fits calm = inl (record {
    question = q;
    next = next;
    answer = g;
    spelled = refl;
    response = response;
    opcode = opcode;
    opaque = opaque;
    fits = subst (λ b. FitsBy b (serving chronicle 0 1 asking) chronicle 0 (moment_of (chronicle.clients_at 0 1) asking q) asking.settings q.frame g) (sym dcp) fits;
    calm = inr (inr calm);
  })

  -- to any other
  pub kv_answer : {r : Result KvRequest Status} → is_dcp q.frame.opcode ≡ false → request_of asking.settings.json q.frame ≡ r → FitsRequest (serving chronicle 0 1 asking) chronicle 0 asking.durables asking.settings q.frame g r → IsTimely chronicle asking.settings q.frame g
      → LawfulReply chronicle 0 1 asking (spelling g) behind
  kv_answer {r} dcp asks fits calm = inl (record {
    question = q;
    next = next;
    answer = g;
    spelled = refl;
    response = response;
    opcode = opcode;
    opaque = opaque;
    calm = calm;
    fits = subst (λ b. FitsBy b (serving chronicle 0 1 asking) chronicle 0 (moment_of (chronicle.clients_at 0 1) asking q) asking.settings q.frame g) (sym dcp) (subst (FitsRequest (serving chronicle 0 1 asking) chronicle 0 asking.durables asking.settings q.frame g) (sym asks) fits);
  })

-- a status alone
pub bare_so : (code opaque : ℕ) (st : Status) → IsBare (reply_frame (bare_answer code st opaque)) code (status_code st) opaque
bare_so code opaque st = record { header = record { magic = refl; opcode = refl; key = refl; datatype = refl; status = refl; opaque = refl; framing = refl }; cas = refl; extras = refl; value = refl }

-- a document
pub found_so : (json : Bool) (opaque : ℕ) (doc : Doc) → IsFound json (reply_frame (found_answer json opaque doc)) opaque doc
found_so json opaque doc = record { header = record { magic = refl; opcode = refl; key = refl; datatype = refl; status = refl; opaque = refl; framing = refl }; cas = refl; extras = refl; value = refl }

-- a write that was made
pub stored_so : (code opaque cas : ℕ) (told : List ℕ) → IsStored (reply_frame (stored_answer code opaque cas told)) code opaque cas told
stored_so code opaque cas told = record { header = record { magic = refl; opcode = refl; key = refl; datatype = refl; status = refl; opaque = refl; framing = refl }; cas = refl; extras = refl; value = refl }

-- a durable write of a connection that has asked for none before
pub first_number : HasNumber 0
first_number = omega arith

-- it lacks no number
pub none_lacks : WRITE_NUMBERS < 0 + 1 → ⊥
none_lacks over = omega (arith, over)

-- features
pub welcome_so : (opaque : ℕ) (features : List Feature) → IsWelcome (reply_frame (welcome_answer opaque features)) opaque features
welcome_so opaque features = record { header = record { magic = refl; opcode = refl; key = refl; datatype = refl; status = refl; opaque = refl; framing = refl }; cas = refl; extras = refl; value = refl }

-- to NOOP
pub noop_answer : {chronicle : Chronicle} {asking : Asking} {behind : List Event} {q : Question} (opaque : ℕ) → question_of asking ≡ Some q → NOOP ≡ q.frame.opcode → opaque ≡ q.frame.opaque → request_of asking.settings.json q.frame ≡ Ok request.Noop → IsStill chronicle → LawfulReply chronicle 0 1 asking (nooped opaque) behind
noop_answer opaque next code at asks calm = kv_answer (reply_frame (bare_answer NOOP status.Success opaque)) next refl code at (ap is_dcp (sym code)) asks (record { header = record { magic = refl; opcode = code; key = refl; datatype = refl; status = refl; opaque = at; framing = refl }; cas = refl; extras = refl; value = refl }) (inr (inr calm))

-- by a fault
pub fault_answer : {chronicle : Chronicle} {asking : Asking} {more : List Event} (fault : FrameFault) (head : FaultyHead) → question_of asking ≡ None → front_fault (behind_frames asking.bytes) ≡ Some fault → faulty_head fault (behind_frames asking.bytes) ≡ Some head → IsStill chronicle → LawfulReply chronicle 0 1 asking (spelling (reply_frame (bare_answer head.opcode status.Einval head.opaque))) (event.Closed 0 1 ∷ more)
fault_answer {chronicle} {asking} {more} fault head none stands named calm = inr (record { calm = calm; none = none; fault = fault; stands = stands; head = head; named = named; spelled = refl; closes = (more, refl) })

-- ---- what a lawful answer is

-- nothing was asked, and no fault stands there
pub no_question : {chronicle : Chronicle} {asking : Asking} {bytes : List ℕ} {behind : List Event} → LawfulReply chronicle 0 1 asking bytes behind → question_of asking ≡ None → front_fault (behind_frames asking.bytes) ≡ None → ⊥
no_question {chronicle} {asking} {bytes} {behind} l none whole = ⊎_elim (λ (a : Answers chronicle 0 1 asking bytes). let e : None ≡ Some a.question = sym none ∙ a.next in cc) (λ (f : AnswersFault 0 1 chronicle asking bytes behind). let e : None ≡ Some f.fault = sym whole ∙ f.stands in cc) l

-- the question that stands next is answered so
pub record Told (chronicle : Chronicle) (asking : Asking) (bytes : List ℕ) (q : Question) : Type 0 where
  pub frame : Frame
  pub spelled : bytes ≡ spelling frame
  pub response : frame.magic ≡ RESPONSE
  pub opcode : frame.opcode ≡ q.frame.opcode
  pub opaque : frame.opaque ≡ q.frame.opaque
  pub fits : FitsFrame (serving chronicle 0 1 asking) chronicle 0 (moment_of (chronicle.clients_at 0 1) asking q) asking.settings q.frame frame
  pub calm : IsTimely chronicle asking.settings q.frame frame

pub answered : {chronicle : Chronicle} {asking : Asking} {bytes : List ℕ} {behind : List Event} {q : Question} → LawfulReply chronicle 0 1 asking bytes behind → question_of asking ≡ Some q → Told chronicle asking bytes q
answered {chronicle} {asking} {bytes} {behind} {q} l is = ⊎_elim by (λ (f : AnswersFault 0 1 chronicle asking bytes behind). let e : None ≡ Some q = sym f.none ∙ is in cc) l
  where
    by : Answers chronicle 0 1 asking bytes → Told chronicle asking bytes q
    by a =
        let both : Some a.question ≡ Some q = sym a.next ∙ is in let same : a.question ≡ q = cc in
        record {
          frame = a.answer;
          spelled = a.spelled;
          response = a.response;
          opcode = a.opcode ∙ ap (λ (p : Question). p.frame.opcode) same;
          opaque = a.opaque ∙ ap (λ (p : Question). p.frame.opaque) same;
          fits = subst (λ (p : Question). FitsFrame (serving chronicle 0 1 asking) chronicle 0 (moment_of (chronicle.clients_at 0 1) asking p) asking.settings p.frame a.answer) same a.fits;
          calm = subst (λ (p : Question). IsTimely chronicle asking.settings p.frame a.answer) same a.calm;
        }

-- where it is none of DCP, it fits what was asked
pub asked_so : {chronicle : Chronicle} {asking : Asking} {bytes : List ℕ} {behind : List Event} {q : Question} {r : Result KvRequest Status} → LawfulReply chronicle 0 1 asking bytes behind → question_of asking ≡ Some q → is_dcp q.frame.opcode ≡ false → request_of asking.settings.json q.frame ≡ r → (g : Frame) × (bytes ≡ spelling g) × FitsRequest (serving chronicle 0 1 asking) chronicle 0 asking.durables asking.settings q.frame g r
asked_so {chronicle} {asking} {bytes} {behind} {q} {r} l is dcp asks =
    let told : Told chronicle asking bytes q = answered l is in
    (told.frame, told.spelled, subst (FitsRequest (serving chronicle 0 1 asking) chronicle 0 asking.durables asking.settings q.frame told.frame) asks (subst (λ b. FitsBy b (serving chronicle 0 1 asking) chronicle 0 (moment_of (chronicle.clients_at 0 1) asking q) asking.settings q.frame told.frame) dcp told.fits))

-- and it stands behind no set and no removal but its own
pub asked_calm : {chronicle : Chronicle} {asking : Asking} {bytes : List ℕ} {behind : List Event} {q : Question} {r : Result KvRequest Status} → LawfulReply chronicle 0 1 asking bytes behind → question_of asking ≡ Some q → is_dcp q.frame.opcode ≡ false → request_of asking.settings.json q.frame ≡ r
    → (g : Frame) × (bytes ≡ spelling g) × FitsRequest (serving chronicle 0 1 asking) chronicle 0 asking.durables asking.settings q.frame g r × IsTimely chronicle asking.settings q.frame g
asked_calm {chronicle} {asking} {bytes} {behind} {q} {r} l is dcp asks =
    let told : Told chronicle asking bytes q = answered l is in
    (told.frame, told.spelled, subst (FitsRequest (serving chronicle 0 1 asking) chronicle 0 asking.durables asking.settings q.frame told.frame) asks (subst (λ b. FitsBy b (serving chronicle 0 1 asking) chronicle 0 (moment_of (chronicle.clients_at 0 1) asking q) asking.settings q.frame told.frame) dcp told.fits), told.calm)

-- where nothing was asked, it answers a fault
pub faulted : {chronicle : Chronicle} {asking : Asking} {bytes : List ℕ} {behind : List Event} → LawfulReply chronicle 0 1 asking bytes behind → question_of asking ≡ None → AnswersFault 0 1 chronicle asking bytes behind
faulted {chronicle} {asking} {bytes} {behind} l none = ⊎_elim (λ (a : Answers chronicle 0 1 asking bytes). let e : None ≡ Some a.question = sym none ∙ a.next in cc) (λ (f : AnswersFault 0 1 chronicle asking bytes behind). f) l

-- this one, with this header
pub fault_bytes : {chronicle : Chronicle} {asking : Asking} {bytes : List ℕ} {behind : List Event} {fault : FrameFault} {head : FaultyHead} → AnswersFault 0 1 chronicle asking bytes behind → front_fault (behind_frames asking.bytes) ≡ Some fault → faulty_head fault (behind_frames asking.bytes) ≡ Some head → bytes ≡ spelling (reply_frame (bare_answer head.opcode status.Einval head.opaque))
fault_bytes {chronicle} {asking} {bytes} {behind} {fault} {head} f stands named =
    let one : Some f.fault ≡ Some fault = sym f.stands ∙ stands in let same : f.fault ≡ fault = cc in
    let two : Some f.head ≡ Some head = sym f.named ∙ ap (λ x. faulty_head x (behind_frames asking.bytes)) same ∙ named in let at : f.head ≡ head = cc in
    f.spelled ∙ ap (λ (h : FaultyHead). spelling (reply_frame (bare_answer h.opcode status.Einval h.opaque))) at

-- one that its header names nothing of is not answered
pub unnamed_fault : {chronicle : Chronicle} {asking : Asking} {bytes : List ℕ} {behind : List Event} {fault : FrameFault} → AnswersFault 0 1 chronicle asking bytes behind → front_fault (behind_frames asking.bytes) ≡ Some fault → faulty_head fault (behind_frames asking.bytes) ≡ None → ⊥
unnamed_fault {chronicle} {asking} {bytes} {behind} {fault} f stands named =
    let one : Some f.fault ≡ Some fault = sym f.stands ∙ stands in let same : f.fault ≡ fault = cc in
    let two : None ≡ Some f.head = sym named ∙ ap (λ x. faulty_head x (behind_frames asking.bytes)) (sym same) ∙ f.named in cc

-- ---- the bytes of an answer

-- a byte of a frame
abbrev pub byte_at : ℕ → List ℕ → ℕ
byte_at at bytes = slice_index bytes at

abbrev pub first_byte : List ℕ → ℕ
first_byte [] = 0
first_byte (b ∷ bytes) = b

abbrev pub second_byte : List ℕ → ℕ
second_byte [] = 0
second_byte (b ∷ bytes) = first_byte bytes

-- a response with these fields
abbrev pub response_of : ℕ → ℕ → ℕ → ℕ → ℕ → List ℕ → List ℕ → Frame
response_of code kind said opaque cas extras value = record { magic = RESPONSE; opcode = code; datatype = kind; vb_or_status = said; opaque = opaque; cas = cas; framing = []; extras = extras; key = []; value = value }

-- a frame that is a status alone, a document, a write or a greeting is that response
pub bare_bytes : {bytes : List ℕ} {g : Frame} {code said opaque : ℕ} → IsBare g code said opaque → bytes ≡ spelling g → bytes ≡ spelling (response_of code 0 said opaque 0 [] [])
bare_bytes {bytes} {g} {code} {said} {opaque} b s = s ∙ ap spelling is
  where
    is : g ≡ response_of code 0 said opaque 0 [] []
    is = λ i. record { magic = b.header.magic i; opcode = b.header.opcode i; datatype = b.header.datatype i; vb_or_status = b.header.status i; opaque = b.header.opaque i; cas = b.cas i; framing = b.header.framing i; extras = b.extras i; key = b.header.key i; value = b.value i }

pub found_bytes : {bytes : List ℕ} {g : Frame} {json : Bool} {opaque : ℕ} {doc : Doc} → IsFound json g opaque doc → bytes ≡ spelling g → bytes ≡ spelling (response_of GET (datatype_for json doc) 0 opaque doc.cas (to_be_bytes w32 doc.flags) doc.value)
found_bytes {bytes} {g} {json} {opaque} {doc} b s = s ∙ ap spelling is
  where
    is : g ≡ response_of GET (datatype_for json doc) 0 opaque doc.cas (to_be_bytes w32 doc.flags) doc.value
    is = λ i. record { magic = b.header.magic i; opcode = b.header.opcode i; datatype = b.header.datatype i; vb_or_status = b.header.status i; opaque = b.header.opaque i; cas = b.cas i; framing = b.header.framing i; extras = b.extras i; key = b.header.key i; value = b.value i }

pub stored_bytes : {bytes : List ℕ} {g : Frame} {code opaque cas : ℕ} {told : List ℕ} → IsStored g code opaque cas told → bytes ≡ spelling g → bytes ≡ spelling (response_of code 0 0 opaque cas told [])
stored_bytes {bytes} {g} {code} {opaque} {cas} {told} b s = s ∙ ap spelling is
  where
    is : g ≡ response_of code 0 0 opaque cas told []
    is = λ i. record { magic = b.header.magic i; opcode = b.header.opcode i; datatype = b.header.datatype i; vb_or_status = b.header.status i; opaque = b.header.opaque i; cas = b.cas i; framing = b.header.framing i; extras = b.extras i; key = b.header.key i; value = b.value i }

pub welcome_bytes : {bytes : List ℕ} {g : Frame} {opaque : ℕ} {features : List Feature} → IsWelcome g opaque features → bytes ≡ spelling g → bytes ≡ spelling (response_of HELLO 0 0 opaque 0 [] (feature_bytes features))
welcome_bytes {bytes} {g} {opaque} {features} b s = s ∙ ap spelling is
  where
    is : g ≡ response_of HELLO 0 0 opaque 0 [] (feature_bytes features)
    is = λ i. record { magic = b.header.magic i; opcode = b.header.opcode i; datatype = b.header.datatype i; vb_or_status = b.header.status i; opaque = b.header.opaque i; cas = b.cas i; framing = b.header.framing i; extras = b.extras i; key = b.header.key i; value = b.value i }
