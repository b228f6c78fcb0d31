-- what a client's requests get
use Rattle.std.proofs.Common.{◌≡◌, ◌≢◌, ◌↔◌, ℕ, Bool, true, false, List, [], map, refl, sym, ap, ◌∙◌, subst, inl, inr, arith, ◌⊎◌, Option, Some, None, Result, Ok, Err}
use Rattle.std.specs.Prelude.{◌==◌, not, nat_le, if◌then◌else◌, IsTrue}
use Rattle.std.specs.List.{Contains}
use Rattle.std.proofs.lemmas.Bool.{false_from_ne_true, eqb-true}
use Rattle.mcbp_frame.specs.declared.frame.Frame.{Frame}
use Rattle.mcbp_frame.specs.declared.frame.TheConstants.{REQUEST, FRAMED_REQUEST, RESPONSE}
use Rattle.mcbp_kv.specs.Answers.{IsFound, IsStored, IsBare}
use Rattle.mcbp_kv.specs.Choices.{AreThose}
use Rattle.mcbp_kv.specs.Commands.{IsNoop, IsHello}
use Rattle.mcbp_kv.specs.Features.{feature_code, feature_bytes, has_feature, accepted}
use Rattle.mcbp_kv.specs.Replies.{reply_frame}
use Rattle.mcbp_kv.specs.Requests.{request_of}
use Rattle.mcbp_kv.specs.declared.feature.Feature.{Feature}
use Rattle.mcbp_kv.specs.declared.feature.Feature.TheVariants as feature
use Rattle.mcbp_kv.specs.declared.opcodes.TheConstants.{GET, NOOP, HELLO}
use Rattle.mcbp_kv.specs.declared.request.KvRequest.{KvRequest}
use Rattle.mcbp_kv.specs.declared.request.KvRequest.TheVariants as request
use Rattle.mcbp_kv.proofs.Chosen.{has_there, has_back, accepts_those}
use Rattle.mcbp_kv.proofs.Commands.{spelled_is_read}
use Rattle.vb_types.specs.Statuses.{status_code}
use Rattle.vb_types.specs.declared.change.Change.{Change}
use Rattle.vb_types.specs.declared.doc.Doc.{Doc}
use Rattle.vb_events.specs.declared.event.Event.TheVariants as event
use Rattle.vb_types.specs.declared.write.Write.{Write}
use Rattle.vb_types.specs.declared.status.Status.{Status}
use Rattle.vb_types.specs.declared.status.Status.TheVariants as status
use Rattle.vb_calls.specs.declared.calls.VbCall.{VbCall}
use Rattle.vb_calls.specs.declared.calls.VbCall.TheVariants as call
use Rattle.vb_calls.specs.declared.calls.VbAnswer.TheVariants as answer
use Rattle.vb_calls.specs.declared.calls.Resolved.{Resolved}
use Rattle.vb_calls.specs.declared.calls.VbReply.{VbReply}
use Rattle.vb_calls.specs.Plain.{Plain, plain_step}
use Rattle.vb_calls.specs.Programs.{Done, after, AnyCall, Always}
use Rattle.vb_calls.specs.State.{is_active, is_left, doc_at, get_reply, pending_of, refusal_reply}
use Rattle.vb_calls.specs.States.{States, call_at, stepped_at}
use Rattle.vb_calls.specs.Durable.{Wish, durable_outcome}
use Rattle.vb_calls.specs.Writes.{key_refusal, lacks_seqnos, store_outcome, new_cas}
use Rattle.client_session.specs.Answers.{status_reply, value_reply, found_reply, stored_reply, reply_line}
use Rattle.client_session.specs.Serving.{PlainSession, Served, with_used, refused, greeted, told, MOST_DURABLE, next_waiter, deadline_of, durable_called, request_handled, frame_answered, is_dcp, handed, frame_handled}
use Rattle.client_session.specs.Conduct.{IsClients}
use Rattle.client_session.proofs.Conduct.{either, durable_session}
use Rattle.client_session.proofs.Own.{read_own}
use Rattle.client_session.specs.Rows.{Gets, GetsAtOnce, NotMyVb, Greets, IsNoGreeting, IsForDocument, IsNotServing, seqno_part}

-- ---- a vBucket's replies

pub found_told : (f : Frame) (s : Served) (doc : Doc) (resolved : List Resolved) (ended : List ℕ) (branch : ℕ) (changes : List Change) → f.opcode ≡ GET
    → Gets (λ g. IsFound s.session.settings.json g f.opaque doc) [] s (told f s (Some (record { answer = answer.Found doc; resolved = resolved; ended = ended; branch = branch; changes = changes })))
unfolding told reply_line
found_told f s doc resolved ended branch changes get = record {
  frame = reply_frame (found_reply s.session.settings f doc);
  is = record {
    header = record { magic = refl; opcode = get; key = refl; datatype = refl; status = refl; opaque = refl; framing = refl };
    cas = refl;
    extras = refl;
    value = refl;
  };
  told = refl;
}

pub stored_told : (f : Frame) (s : Served) (uuid seq cas : ℕ) (resolved : List Resolved) (ended : List ℕ) (branch : ℕ) (changes : List Change)
    → Gets (λ g. IsStored g f.opcode f.opaque cas (seqno_part s.session.settings uuid seq)) (map (event.Changed s.session.who.node f.vb_or_status uuid) changes) s
    (told f s (Some (record { answer = answer.Stored uuid seq cas; resolved = resolved; ended = ended; branch = branch; changes = changes })))
unfolding told reply_line
stored_told f s uuid seq cas resolved ended branch changes = record {
  frame = reply_frame (stored_reply s.session.settings f uuid seq cas);
  is = record {
    header = record { magic = refl; opcode = refl; key = refl; datatype = refl; status = refl; opaque = refl; framing = refl };
    cas = refl;
    extras = refl;
    value = refl;
  };
  told = refl;
}

-- ---- statuses alone

pub status_told : (f : Frame) (st : Status) (s : Served) → Gets (λ g. IsBare g f.opcode (status_code st) f.opaque) [] s (refused f st s)
unfolding reply_line
status_told f st s = record {
  frame = reply_frame (status_reply f st);
  is = record {
    header = record { magic = refl; opcode = refl; key = refl; datatype = refl; status = refl; opaque = refl; framing = refl };
    cas = refl;
    extras = refl;
    value = refl;
  };
  told = refl;
}

pub refusal_told : (f : Frame) (st : Status) (s : Served) (resolved : List Resolved) (ended : List ℕ) (branch : ℕ) (changes : List Change)
    → Gets (λ g. IsBare g f.opcode (status_code st) f.opaque) [] s (told f s (Some (record { answer = answer.Status st; resolved = resolved; ended = ended; branch = branch; changes = changes })))
unfolding told
refusal_told f st s resolved ended branch changes = status_told f st s

pub absent_told : (f : Frame) (s : Served) → Gets (λ g. IsBare g f.opcode 0x07 f.opaque) [] s (told f s None)
unfolding told
absent_told f s = status_told f status.NotMyVbucket s

pub not_response : (f : Frame) → f.magic ≢ RESPONSE → (f.magic == RESPONSE) ≡ false
not_response f asks = false_from_ne_true (f.magic == RESPONSE) (λ t. asks (eqb-true f.magic RESPONSE t))

-- a frame that asks, and is none of DCP's, is served by what is read of it
pub asks_so : (clock : ℕ) (f : Frame) (s : Served) (r : Result KvRequest Status) → f.magic ≢ RESPONSE → is_dcp f.opcode ≡ false → request_of s.session.settings.json f ≡ r
    → frame_handled clock f s ≡ request_handled clock f r s
unfolding frame_handled
asks_so clock f s r asks own e =
    (λ i. if not_response f asks i then Done s else if own i then Done (handed f s) else frame_answered clock f s)
    ∙ ap (λ q. request_handled clock f q s) e

-- and what is read as a command is none of DCP's
pub asks_read : (clock : ℕ) (f : Frame) (s : Served) (r : KvRequest) → f.magic ≢ RESPONSE → request_of s.session.settings.json f ≡ Ok r → frame_handled clock f s ≡ request_handled clock f (Ok r) s
asks_read clock f s r asks e = asks_so clock f s (Ok r) asks (read_own s.session.settings.json f r e) e

pub refused_at_once : (clock : ℕ) (f : Frame) (st : Status) (s : Served) → f.magic ≢ RESPONSE → is_dcp f.opcode ≡ false → request_of s.session.settings.json f ≡ Err st
    → GetsAtOnce (λ g. IsBare g f.opcode (status_code st) f.opaque) s (frame_handled clock f s)
unfolding request_handled
refused_at_once clock f st s asks own e = (refused f st s, asks_so clock f s (Err st) asks own e, status_told f st s)

known : (f : Frame) → (f.magic ≡ REQUEST) ⊎ (f.magic ≡ FRAMED_REQUEST) → f.magic ≢ RESPONSE
known f (inl e) response = omega arith
known f (inr e) response = omega arith

pub noop_at_once : (clock : ℕ) (f : Frame) (s : Served) → IsNoop s.session.settings.json f → GetsAtOnce (λ g. IsBare g NOOP 0 f.opaque) s (frame_handled clock f s)
unfolding request_handled
noop_at_once clock f s noop = (
  refused f status.Success s,
  asks_read clock f s request.Noop (known f noop.header.magic) (spelled_is_read s.session.settings.json f request.Noop noop),
  subst (λ code. Gets (λ g. IsBare g code 0 f.opaque) [] s (refused f status.Success s)) noop.header.opcode (status_told f status.Success s),
)

-- ---- vBuckets that are not there, or not active

-- a durable write is refused for its vBucket's role first
idle_outcome : (active : Bool) (rest : Option Status) (plain : Plain) (write : Write) (wish : Wish) (cas : ℕ) → active ≡ false
    → durable_outcome (if not active then Some status.NotMyVbucket else rest) plain write wish cas ≡ (plain, refusal_reply status.NotMyVbucket)
idle_outcome true rest plain write wish cas e = cc
idle_outcome false rest plain write wish cas e = refl

-- a client's call at a vBucket that is not active
pub inactive : (plain : Plain) (c : VbCall) (clock v : ℕ) → IsClients clock v c → is_active plain.role ≡ false → plain_step plain c ≡ (plain, refusal_reply status.NotMyVbucket)
inactive plain (call.Get key) clock v mine e = ap (λ b. (plain, if b then get_reply (is_left plain.waiting (pending_of plain key)) (doc_at plain key) else refusal_reply status.NotMyVbucket)) e
inactive plain (call.Store write time) clock v mine e =
    ap (λ b. store_outcome (if b then (if lacks_seqnos plain 1 then Some status.Etmpfail else key_refusal plain write) else Some status.NotMyVbucket) plain write (new_cas time plain.last_cas)) e
inactive plain (call.Durable write time level deadline waiter) clock v mine e =
    idle_outcome (is_active plain.role) _ plain write (record { level = level; deadline = deadline; waiter = waiter }) (new_cas time plain.last_cas) e
inactive plain other clock v mine e = absurd mine

pub set_same : (states : States) (v w : ℕ) (plain : Plain) (here : Bool) → states v ≡ Some plain → (w == v) ≡ here → (if here then Some plain else states w) ≡ states w
set_same states v w plain true there e = sym there ∙ ap states (sym (eqb-true w v e))
set_same states v w plain false there e = refl

-- the reply is NotMyVbucket, and all vBuckets are as they were
record Refuses (f : Frame) (s : Served) (states : States) (step : States × Option VbReply) : Type 0 where
  answered : Gets (λ g. IsBare g f.opcode 0x07 f.opaque) [] s (told f s step.1)
  unchanged : (w : ℕ) → step.0 w ≡ states w

refuses : (f : Frame) (s : Served) (states : States) (c : VbCall) (clock : ℕ) (o : Option Plain) → IsClients clock f.vb_or_status c → states f.vb_or_status ≡ o → IsNotServing o
    → Refuses f s states (call_at states f.vb_or_status c o)
refuses f s states c clock None mine there none = record { answered = absent_told f s; unchanged = λ w. refl }
refuses f s states c clock (Some plain) mine there idle =
    subst (λ step. Refuses f s states (stepped_at states f.vb_or_status step)) (sym (inactive plain c clock f.vb_or_status mine idle))
    (record { answered = refusal_told f status.NotMyVbucket s [] [] 0 []; unchanged = λ w. set_same states f.vb_or_status w plain (w == f.vb_or_status) there refl })

request_refused : (clock : ℕ) (f : Frame) (r : KvRequest) (s : Served) (states : States) → IsForDocument r → IsNotServing (states f.vb_or_status)
    → NotMyVb f s states (after (request_handled clock f (Ok r) s) states)
unfolding request_handled
request_refused clock f (request.Get key) s states doc idle =
    let both = refuses f s states (call.Get key) clock (states f.vb_or_status) tt refl idle in
    record { answered = both.answered; unchanged = both.unchanged }
request_refused clock f (request.Write write None) s states doc idle =
    let both = refuses f s states (call.Store write clock) clock (states f.vb_or_status) refl refl idle in
    record { answered = both.answered; unchanged = both.unchanged }
request_refused clock f other s states doc idle = absurd doc

pub not_served : (clock : ℕ) (f : Frame) (r : KvRequest) (s : Served) (states : States) → f.magic ≢ RESPONSE → request_of s.session.settings.json f ≡ Ok r → IsForDocument r
    → IsNotServing (states f.vb_or_status) → NotMyVb f s states (after (frame_handled clock f s) states)
not_served clock f r s states asks e doc idle =
    subst (λ p. NotMyVb f s states (after p states)) (sym (asks_read clock f s r asks e)) (request_refused clock f r s states doc idle)

-- ---- HELLO

has_so : (codes : List ℕ) (wanted : Feature) (features : List Feature) → AreThose codes features → IsTrue (has_feature wanted features) ↔ Contains codes (feature_code wanted)
has_so codes wanted features those = (
  λ has. (those.asked wanted).0 (has_back wanted features has),
  λ asked. has_there wanted features ((those.asked wanted).1 asked),
)

greets : (codes : List ℕ) (f : Frame) (features : List Feature) (s : Served) → f.opcode ≡ HELLO → AreThose codes features → Greets codes f features s (greeted f features s)
unfolding reply_line
greets codes f features s hello those = record {
  frame = reply_frame (value_reply f (feature_bytes features));
  is = record {
    header = record { magic = refl; opcode = hello; key = refl; datatype = refl; status = refl; opaque = refl; framing = refl };
    cas = refl;
    extras = refl;
    value = refl;
  };
  told = refl;
  json = has_so codes feature.Json features those;
  seqnos = has_so codes feature.MutationSeqnos features those;
}

pub hello_greets : (clock : ℕ) (f : Frame) (features : List Feature) (s : Served) (hello : IsHello s.session.settings.json f features)
    → (t : Served) × (frame_handled clock f s ≡ Done t) × Greets hello.codes f features s t
unfolding request_handled
hello_greets clock f features s hello =
    let those : AreThose hello.codes features = subst (AreThose hello.codes) (sym (hello.accepts ∙ ap accepted hello.value)) (accepts_those hello.codes hello.numbers) in (
      greeted f features s,
      asks_read clock f s (request.Hello features) (known f hello.header.magic) (spelled_is_read s.session.settings.json f (request.Hello features) hello),
      greets hello.codes f features s hello.header.opcode those,
    )

-- no other request changes the settings
pub settings_stay : (clock : ℕ) (f : Frame) (r : Result KvRequest Status) (s : Served) → IsNoGreeting r
    → Always AnyCall (λ t. t.session.settings ≡ s.session.settings) (request_handled clock f r s)
unfolding request_handled told
settings_stay clock f (Err st) s other = refl
settings_stay clock f (Ok request.Noop) s other = refl
settings_stay clock f (Ok (request.Hello features)) s other = absurd other
settings_stay clock f (Ok (request.Get key)) s other = (tt, λ reply any. refl)
settings_stay clock f (Ok (request.Write write None)) s other = (tt, λ reply any. refl)
settings_stay clock f (Ok (request.Write write (Some wish))) s other =
    either (Always AnyCall (λ t. t.session.settings ≡ s.session.settings)) (nat_le MOST_DURABLE s.session.used) (Done (refused f status.Etmpfail s))
    (durable_called f (call.Durable write clock wish.level (deadline_of clock wish.timeout) (next_waiter s.session)) s)
    refl (tt, λ reply any. ap (λ (p : PlainSession). p.settings) (durable_session (next_waiter s.session) f (with_used s) reply).1)
