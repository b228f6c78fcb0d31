-- what a client's durable writes get
use Rattle.std.proofs.Common.{◌≡◌, ◌≢◌, ◌<◌, ◌≤◌, ◌+◌, ◌-◌, ◌*◌, ◌^◌, ℕ, true, false, List, [], ◌∷◌, ◌++◌, append_assoc, map, refl, sym, ap, ◌∙◌, subst, arith, Option, Some, None, Result, Ok, Err}
use Rattle.std.specs.Prelude.{◌==◌, nat_le, if◌then◌else◌}
use Rattle.std.proofs.lemmas.Bool.{eq-eqb}
use Rattle.std.proofs.lemmas.Bool.Decides.{nat_tests}
use Rattle.mcbp_frame.specs.declared.frame.Frame.{Frame}
use Rattle.mcbp_frame.specs.declared.frame.TheConstants.{RESPONSE}
use Rattle.mcbp_kv.specs.Answers.{IsBare}
use Rattle.mcbp_kv.specs.Replies.{reply_frame}
use Rattle.mcbp_kv.specs.Requests.{request_of}
use Rattle.mcbp_kv.specs.declared.durable.Durability.{Durability}
use Rattle.mcbp_kv.specs.declared.request.KvRequest.{KvRequest}
use Rattle.mcbp_kv.specs.declared.request.KvRequest.TheVariants as request
use Rattle.vb_types.specs.Statuses.{status_code}
use Rattle.vb_types.specs.declared.change.Change.{Change}
use Rattle.vb_events.specs.declared.event.Event.{Event}
use Rattle.vb_events.specs.declared.event.Event.TheVariants as event
use Rattle.vb_types.specs.declared.write.Write.{Write}
use Rattle.vb_types.specs.declared.status.Status.{Status}
use Rattle.vb_types.specs.declared.status.Status.TheVariants as status
use Rattle.vb_calls.specs.declared.calls.VbCall.{VbCall}
use Rattle.vb_calls.specs.declared.calls.VbCall.TheVariants as call
use Rattle.vb_calls.specs.declared.calls.VbAnswer.TheVariants as answer
use Rattle.vb_calls.specs.declared.calls.Resolution.{Resolution}
use Rattle.vb_calls.specs.declared.calls.Resolution.TheVariants as resolution
use Rattle.vb_calls.specs.declared.calls.Resolved.{Resolved}
use Rattle.vb_calls.specs.declared.calls.VbReply.{VbReply}
use Rattle.vb_calls.specs.Plain.{Plain}
use Rattle.vb_calls.specs.Programs.{Done, after, AnyReply, AnyCall, Always}
use Rattle.vb_calls.specs.States.{States, call_at, stepped_at}
use Rattle.client_session.specs.declared.session.Awaited.{Awaited}
use Rattle.client_session.specs.declared.session.Settings.{Settings}
use Rattle.client_session.specs.Answers.{status_reply, reply_line}
use Rattle.client_session.specs.Serving.{PlainSession, Served, with_lines, with_bytes, with_used, refused, told, MOST_DURABLE, next_waiter, deadline_of, awaits, outcome_of, outcome_reply, outcome_answered, outcome_by, outcome_handled, answered_or_awaited, awaited_by, durable_replied, durable_called, request_handled, frame_answered, is_dcp, handed, frame_handled, turns_handled, bytes_handled}
use Rattle.client_session.specs.Conduct.{IsClients, sent}
use Rattle.client_session.proofs.Conduct.{either, lines_twice, durable_session}
use Rattle.client_session.proofs.Rows.{status_told, asks_read, inactive, set_same}
use Rattle.client_session.proofs.Keeping.{front_of, bytes_keep, outcome_keeps}
use Rattle.client_session.proofs.Turns.{is_opened}
use Rattle.client_session.specs.Rows.{Gets, GetsAtOnce, Settles, WaitsAs, NotMyVb, IsOutcome, IsNotServing}

-- ---- what becomes of durable writes

is_outcome : (settings : Settings) (a : Awaited) (how : Resolution) → IsOutcome settings a.opcode a.opaque how (reply_frame (outcome_reply settings a how))
is_outcome settings a (resolution.Committed uuid seq cas) = record {
  header = record { magic = refl; opcode = refl; key = refl; datatype = refl; status = refl; opaque = refl; framing = refl };
  cas = refl;
  extras = refl;
  value = refl;
}
is_outcome settings a resolution.Ambiguous = record {
  header = record { magic = refl; opcode = refl; key = refl; datatype = refl; status = refl; opaque = refl; framing = refl };
  cas = refl;
  extras = refl;
  value = refl;
}

pub outcome_settles : (clock : ℕ) (a : Awaited) (how : Resolution) (s : Served) → s.session.closed ≡ false → s.session.awaited ≡ Some a
    → Settles (IsOutcome s.session.settings a.opcode a.opaque how) clock s (outcome_handled clock (record { waiter = a.waiter; how = how }) s)
unfolding outcome_handled reply_line
outcome_settles clock a how s live e = record {
  frame = reply_frame (outcome_reply s.session.settings a how);
  is = is_outcome s.session.settings a how;
  told = ap (outcome_by clock (record { waiter = a.waiter; how = how }) s) e
      ∙ ap (λ b. if b then turns_handled clock (outcome_answered a how s) else Done s) (eq-eqb a.waiter a.waiter refl)
      ∙ sym (is_opened clock s.session.reader (with_bytes [] (outcome_answered a how s)) live);
}

other_by : (clock : ℕ) (r : Resolved) (s : Served) (o : Option Awaited) → awaits r.waiter o ≡ false → outcome_by clock r s o ≡ Done s
other_by clock r s None other = refl
other_by clock r s (Some a) other = ap (λ b. if b then turns_handled clock (outcome_answered a r.how s) else Done s) other

pub other_settles : (clock : ℕ) (r : Resolved) (s : Served) → awaits r.waiter s.session.awaited ≡ false → outcome_handled clock r s ≡ Done s
unfolding outcome_handled
other_settles clock r s other = other_by clock r s s.session.awaited other

-- ---- what a vBucket says to a durable write

pub durable_refused : (waiter : ℕ) (f : Frame) (st : Status) (s : Served) (resolved : List Resolved) (ended : List ℕ) (branch : ℕ) (changes : List Change)
    → Gets (λ g. IsBare g f.opcode (status_code st) f.opaque) (map (event.Changed s.session.who.node f.vb_or_status branch) changes) s
    (durable_replied waiter f s (Some (record { answer = answer.Status st; resolved = resolved; ended = ended; branch = branch; changes = changes })))
unfolding durable_replied reply_line
durable_refused waiter f st s resolved ended branch changes = record {
  frame = reply_frame (status_reply f st);
  is = record {
    header = record { magic = refl; opcode = refl; key = refl; datatype = refl; status = refl; opaque = refl; framing = refl };
    cas = refl;
    extras = refl;
    value = refl;
  };
  told = lines_twice s (map (event.Changed s.session.who.node f.vb_or_status branch) changes) (sent s.session.who (reply_frame (status_reply f st)) ∷ []);
}

pub durable_absent : (waiter : ℕ) (f : Frame) (s : Served) → Gets (λ g. IsBare g f.opcode 0x07 f.opaque) [] s (durable_replied waiter f s None)
unfolding durable_replied
durable_absent waiter f s = status_told f status.NotMyVbucket s

pub durable_awaited : (waiter : ℕ) (f : Frame) (s : Served) (seq cas : ℕ) (resolved : List Resolved) (ended : List ℕ) (branch : ℕ) (changes : List Change) → outcome_of waiter resolved ≡ None
    → durable_replied waiter f s (Some (record { answer = answer.Prepared seq cas; resolved = resolved; ended = ended; branch = branch; changes = changes }))
    ≡ record s { session = record s.session { awaited = Some (record { waiter = waiter; opcode = f.opcode; opaque = f.opaque }) }; events = s.events ++ map (event.Changed s.session.who.node f.vb_or_status branch) changes }
unfolding durable_replied
durable_awaited waiter f s seq cas resolved ended branch changes none =
    ap (λ how. answered_or_awaited (awaited_by waiter f) how (with_lines s (map (event.Changed s.session.who.node f.vb_or_status branch) changes))) none

pub durable_at_once : (waiter : ℕ) (f : Frame) (s : Served) (seq cas : ℕ) (how : Resolution) (resolved : List Resolved) (ended : List ℕ) (branch : ℕ) (changes : List Change) → s.session.awaited ≡ None
    → outcome_of waiter resolved ≡ Some how
    → Gets (IsOutcome s.session.settings f.opcode f.opaque how) (map (event.Changed s.session.who.node f.vb_or_status branch) changes) s
    (durable_replied waiter f s (Some (record { answer = answer.Prepared seq cas; resolved = resolved; ended = ended; branch = branch; changes = changes })))
unfolding durable_replied reply_line
durable_at_once waiter f s seq cas how resolved ended branch changes none known =
    let lines : List Event = map (event.Changed s.session.who.node f.vb_or_status branch) changes in record {
      frame = reply_frame (outcome_reply s.session.settings (awaited_by waiter f) how);
      is = is_outcome s.session.settings (awaited_by waiter f) how;
      told = ap (λ o. answered_or_awaited (awaited_by waiter f) o (with_lines s lines)) known
          ∙ (λ i. record s { session = record s.session { awaited = sym none i }; events = append_assoc s.events lines (sent s.session.who (reply_frame (outcome_reply s.session.settings (awaited_by waiter f) how)) ∷ []) i });
    }

-- ---- what is asked for a durable write

full_at : (n : ℕ) → MOST_DURABLE ≤ n → nat_le MOST_DURABLE n ≡ true
full_at n h = grind (arith, nat_tests)

pub room_at : (n : ℕ) → n < MOST_DURABLE → nat_le MOST_DURABLE n ≡ false
room_at n h = grind (arith, nat_tests)

pub full_told : (clock : ℕ) (f : Frame) (write : Write) (wish : Durability) (s : Served) → MOST_DURABLE ≤ s.session.used
    → GetsAtOnce (λ g. IsBare g f.opcode 0x86 f.opaque) s (request_handled clock f (Ok (request.Write write (Some wish))) s)
unfolding request_handled
full_told clock f write wish s h = (
  refused f status.Etmpfail s,
  ap (λ b. if b then Done (refused f status.Etmpfail s) else durable_called f (call.Durable write clock wish.level (deadline_of clock wish.timeout) (next_waiter s.session)) s) (full_at s.session.used h),
  status_told f status.Etmpfail s,
)

pub durable_waits : (clock : ℕ) (f : Frame) (write : Write) (wish : Durability) (s : Served) → s.session.used < MOST_DURABLE
    → Always (λ v c. (v ≡ f.vb_or_status) × WaitsAs (next_waiter s.session) (deadline_of clock wish.timeout) c) (λ t. t.session.used ≡ s.session.used + 1) (request_handled clock f (Ok (request.Write write (Some wish))) s)
unfolding request_handled
durable_waits clock f write wish s h =
    let c : VbCall = call.Durable write clock wish.level (deadline_of clock wish.timeout) (next_waiter s.session) in
    subst (Always (λ v d. (v ≡ f.vb_or_status) × WaitsAs (next_waiter s.session) (deadline_of clock wish.timeout) d) (λ t. t.session.used ≡ s.session.used + 1))
    (sym (ap (λ b. if b then Done (refused f status.Etmpfail s) else durable_called f c s) (room_at s.session.used h)))
    ((refl, (refl, refl)), λ reply any. ap (λ (p : PlainSession). p.used) (durable_session (next_waiter s.session) f (with_used s) reply).1)

pub early_deadline : (clock timeout : ℕ) → clock + timeout * 1000000 ≤ 2 ^ 64 - 1 → deadline_of clock timeout ≡ clock + timeout * 1000000
early_deadline clock timeout h = omega (arith, h)

pub late_deadline : (clock timeout : ℕ) → 2 ^ 64 - 1 ≤ clock + timeout * 1000000 → deadline_of clock timeout ≡ 2 ^ 64 - 1
late_deadline clock timeout h = omega (arith, h)

pub waiters_apart : (a b : PlainSession) → a.used < MOST_DURABLE → b.used < MOST_DURABLE → next_waiter a ≡ next_waiter b → (a.who.base ≡ b.who.base) × (a.used ≡ b.used)
waiters_apart a b ha hb e = (omega (arith, ha, hb, e), omega (arith, ha, hb, e))

-- a durable write where its vBucket is not there, or not active
record DurablyRefuses (waiter : ℕ) (f : Frame) (s : Served) (states : States) (step : States × Option VbReply) : Type 0 where
  answered : Gets (λ g. IsBare g f.opcode 0x07 f.opaque) [] s (durable_replied waiter f s step.1)
  unchanged : (w : ℕ) → step.0 w ≡ states w

durable_refuses : (waiter : ℕ) (f : Frame) (s : Served) (states : States) (c : VbCall) (clock : ℕ) (o : Option Plain) → IsClients clock f.vb_or_status c → states f.vb_or_status ≡ o → IsNotServing o
    → DurablyRefuses waiter f s states (call_at states f.vb_or_status c o)
durable_refuses waiter f s states c clock None mine there none = record { answered = durable_absent waiter f s; unchanged = λ w. refl }
durable_refuses waiter f s states c clock (Some plain) mine there idle =
    subst (λ step. DurablyRefuses waiter f s states (stepped_at states f.vb_or_status step)) (sym (inactive plain c clock f.vb_or_status mine idle))
    (record { answered = durable_refused waiter f status.NotMyVbucket s [] [] 0 []; unchanged = λ w. set_same states f.vb_or_status w plain (w == f.vb_or_status) there refl })

pub durable_not_served : (clock : ℕ) (f : Frame) (write : Write) (wish : Durability) (s : Served) (states : States) → f.magic ≢ RESPONSE
    → request_of s.session.settings.json f ≡ Ok (request.Write write (Some wish)) → s.session.used < MOST_DURABLE → IsNotServing (states f.vb_or_status)
    → NotMyVb f (with_used s) states (after (frame_handled clock f s) states)
unfolding request_handled
durable_not_served clock f write wish s states asks e room idle =
    let c : VbCall = call.Durable write clock wish.level (deadline_of clock wish.timeout) (next_waiter s.session) in
    let both = durable_refuses (next_waiter s.session) f (with_used s) states c clock (states f.vb_or_status) refl refl idle in
    subst (λ p. NotMyVb f (with_used s) states (after p states))
    (sym (asks_read clock f s (request.Write write (Some wish)) asks e
    ∙ ap (λ b. if b then Done (refused f status.Etmpfail s) else durable_called f c s) (room_at s.session.used room)))
    (record { answered = both.answered; unchanged = both.unchanged })

-- ---- the numbers of waits rise

-- at least so many durable writes were asked for
Used : ℕ → Served → Type 0
Used n s = n ≤ s.session.used

request_used : (n clock : ℕ) (f : Frame) (r : Result KvRequest Status) (s : Served) → n ≤ s.session.used → Always AnyCall (Used n) (request_handled clock f r s)
unfolding request_handled told Used
request_used n clock f (Err st) s h = h
request_used n clock f (Ok request.Noop) s h = h
request_used n clock f (Ok (request.Hello features)) s h = h
request_used n clock f (Ok (request.Get key)) s h = (tt, λ reply any. h)
request_used n clock f (Ok (request.Write write None)) s h = (tt, λ reply any. h)
request_used n clock f (Ok (request.Write write (Some wish))) s h =
    either (Always AnyCall (Used n)) (nat_le MOST_DURABLE s.session.used) (Done (refused f status.Etmpfail s))
    (durable_called f (call.Durable write clock wish.level (deadline_of clock wish.timeout) (next_waiter s.session)) s)
    h (tt, λ reply any. omega (arith, h, ap (λ (p : PlainSession). p.used) (durable_session (next_waiter s.session) f (with_used s) reply).1))

frame_used : (n clock : ℕ) (f : Frame) (s : Served) → n ≤ s.session.used → Always AnyCall (Used n) (frame_handled clock f s)
unfolding frame_handled Used
frame_used n clock f s h =
    either (Always AnyCall (Used n)) (f.magic == RESPONSE) (Done s) (if is_dcp f.opcode then Done (handed f s) else frame_answered clock f s) h
    (either (Always AnyCall (Used n)) (is_dcp f.opcode) (Done (handed f s)) (frame_answered clock f s) h (request_used n clock f (request_of s.session.settings.json f) s h))

pub bytes_rise : (clock : ℕ) (piece : List ℕ) (s : Served) → Always AnyCall (λ t. s.session.used ≤ t.session.used) (bytes_handled clock piece s)
unfolding Used
bytes_rise clock piece s =
    bytes_keep AnyReply AnyCall (Used s.session.used) clock (λ f t first h. frame_used s.session.used clock f (front_of f t) h) (λ fault t first h. h) piece s (omega arith) (omega arith)

pub outcome_rises : (clock : ℕ) (r : Resolved) (s : Served) → Always AnyCall (λ t. s.session.used ≤ t.session.used) (outcome_handled clock r s)
unfolding Used
outcome_rises clock r s =
    outcome_keeps AnyReply AnyCall (Used s.session.used) clock (λ f t first h. frame_used s.session.used clock f (front_of f t) h) (λ fault t first h. h) r s (omega arith) (λ a e. omega arith)
