-- a client's session at its node: it stays there, and its bytes stay bytes, whatever is served
use Rattle.std.specs.Prelude.{◌≡◌, ◌<◌, ◌++◌, ◌∷◌, ◌==◌, if◌then◌else◌, nat_le}
use Rattle.std.proofs.lemmas.List.Elements.{All-drop}
use Rattle.transcript_law.proofs.Words.{ℕ, List, [], refl, sym, ap, ◌∙◌, subst, arith, map, drop, All-nil, All-cons, All-head, All-tail, All-append, Option, Some, None, Result, Ok, Err}
use Rattle.transcript_law.proofs.Words.{Frame, FrameFault, KvRequest, RESPONSE, Status, VbCall, VbReply, AreBytes, Readable, spelling, after, Done, States, PlainSession, ended_at, frame_handled, request_handled, told}
use Rattle.client_session.proofs.{Conduct.{Stays, either, frame_stays}, Keeping.{front_of}}
use Rattle.node_core.{proofs.Handlings.{fed_goes, posted_goes}, specs.Clients.{Handling, PlainClient, client_fed, client_posted}}
use Rattle.client_session.specs.Serving.{Served, MOST_DURABLE, answered_or_awaited, awaited_by, deadline_of, durable_answered, durable_called, durable_replied, frame_answered, handed, is_dcp, next_waiter, outcome_of, refused, with_lines, with_used}
use Rattle.client_session.specs.declared.session.Awaited.{Awaited}
use Rattle.mcbp_kv.specs.Requests.{request_of}
use Rattle.mcbp_kv.specs.declared.request.KvRequest.TheVariants as request
use Rattle.vb_events.specs.declared.event.Event.TheVariants as event
use Rattle.vb_calls.specs.declared.calls.{Resolution.{Resolution}, VbAnswer.{VbAnswer}}
use Rattle.vb_calls.specs.declared.calls.VbAnswer.TheVariants as answer
use Rattle.vb_calls.specs.declared.calls.VbCall.TheVariants as call
use Rattle.vb_types.specs.declared.status.Status.TheVariants.{Etmpfail}
use Rattle.mcbp_frame.{proofs.Cases.{front}, specs.Frames.{first_frame, frame_len}, specs.Spelling.{header_spelling}}
use Rattle.transcript_law.proofs.invariant.Keeping.{Keeps, fed_keeps, outcome_keeps}
use Rattle.vb_calls.{proofs.Conduct.{after_always}, specs.Programs.{Always, AnyCall}, specs.declared.calls.Resolved.{Resolved}}

-- a frame whose numbers are in their fields, and whose extras are bytes
pub record Received (f : Frame) : Type 0 where
  pub readable : Readable f
  pub extras : AreBytes f.extras
  pub framing : AreBytes f.framing

parted : (xs ys : List ℕ) → AreBytes (xs ++ ys) → AreBytes xs × AreBytes ys
parted [] ys h = (All-nil (λ b. b < 256), h)
parted (x ∷ xs) ys h =
    let p = parted xs ys (All-tail (λ b. b < 256) x (xs ++ ys) h) in
    (All-cons (λ b. b < 256) x xs (All-head (λ b. b < 256) x (xs ++ ys) h) p.0, p.1)

extras_are : (f : Frame) → AreBytes (spelling f) → AreBytes f.extras × AreBytes f.framing
unfolding spelling
extras_are f h =
    let before_value = (parted (header_spelling f ++ f.framing ++ f.extras ++ f.key) f.value h).0 in
    let before_key = (parted (header_spelling f ++ f.framing ++ f.extras) f.key before_value).0 in
    let before_extras = parted (header_spelling f ++ f.framing) f.extras before_key in
    (before_extras.1, (parted (header_spelling f) f.framing before_extras.0).1)

-- a frame that bytes begin with is one
pub first_received : (bytes : List ℕ) (f : Frame) → AreBytes bytes → first_frame bytes ≡ Some (Ok f) → Received f
first_received bytes f h e =
    let is = front bytes f h e in
    let parts = extras_are f (parted (spelling f) (drop (frame_len f) bytes) (subst AreBytes is.1 h)).0 in
    record { readable = is.0; extras = parts.0; framing = parts.1 }

-- what is awaited is awaited under a number
abbrev pub IsNumbered : Option Awaited → Type 0
IsNumbered None = Unit {0}
IsNumbered (Some a) = a.waiter ≡ 0 → ⊥

-- a session of the node n, in a call
pub record SessionServed (n : ℕ) (session : PlainSession) : Type 0 where
  pub node : session.who.node ≡ n
  pub bytes : AreBytes session.reader
  pub numbered : IsNumbered session.awaited

-- and between two calls: it keeps less than a frame, but for one that awaits an outcome
pub record SessionRanged (n : ℕ) (session : PlainSession) : Type 0 where
  pub node : session.who.node ≡ n
  pub bytes : AreBytes session.reader
  pub numbered : IsNumbered session.awaited
  pub rests : Keeps session

-- so one is when a call begins, and so it is left
begins_ranged : (n : ℕ) (session : PlainSession) → SessionRanged n session → SessionServed n session
begins_ranged n session r = record { node = r.node; bytes = r.bytes; numbered = r.numbered }

rests_ranged : (n : ℕ) (session : PlainSession) → SessionServed n session → Keeps session → SessionRanged n session
rests_ranged n session r rests = record { node = r.node; bytes = r.bytes; numbered = r.numbered; rests = rests }

-- one that a session awaits
pub awaited_numbered : (session : PlainSession) (a : Awaited) → IsNumbered session.awaited → session.awaited ≡ Some a → a.waiter ≡ 0 → ⊥
awaited_numbered session a numbered waits = subst IsNumbered waits numbered

-- so it is behind whatever a frame asks

abbrev Numbered : Served → Type 0
Numbered s = IsNumbered s.session.awaited

outcome_numbered : (s : Served) (waiter : ℕ) (f : Frame) → (waiter ≡ 0 → ⊥) → (how : Option Resolution) → Numbered s → Numbered (answered_or_awaited (awaited_by waiter f) how s)
outcome_numbered s waiter f some None numbered = some
outcome_numbered s waiter f some (Some how) numbered = tt

durable_numbered : (waiter : ℕ) (f : Frame) → (waiter ≡ 0 → ⊥) → (how : Option Resolution) (a : VbAnswer) (s : Served) → Numbered s → Numbered (durable_answered waiter f how a s)
durable_numbered waiter f some how (answer.Status st) s numbered = numbered
durable_numbered waiter f some how (answer.Prepared seq cas) s numbered = outcome_numbered s waiter f some how numbered
durable_numbered waiter f some how other s numbered = numbered

replied_numbered : (waiter : ℕ) (f : Frame) → (waiter ≡ 0 → ⊥) → (s : Served) (reply : Option VbReply) → Numbered s → Numbered (durable_replied waiter f s reply)
unfolding durable_replied
replied_numbered waiter f some s None numbered = numbered
replied_numbered waiter f some s (Some reply) numbered =
    durable_numbered waiter f some (outcome_of waiter reply.resolved) reply.answer (with_lines s (map (event.Changed s.session.who.node f.vb_or_status reply.branch) reply.changes)) numbered

request_numbered : (clock : ℕ) (f : Frame) (r : Result KvRequest Status) (s : Served) → Numbered s → Always AnyCall Numbered (request_handled clock f r s)
unfolding request_handled told
request_numbered clock f (Err st) s numbered = numbered
request_numbered clock f (Ok request.Noop) s numbered = numbered
request_numbered clock f (Ok (request.Hello features)) s numbered = numbered
request_numbered clock f (Ok (request.Get key)) s numbered = (tt, λ reply any. numbered)
request_numbered clock f (Ok (request.Write write None)) s numbered = (tt, λ reply any. numbered)
request_numbered clock f (Ok (request.Write write (Some wish))) s numbered =
    let c : VbCall = call.Durable write clock wish.level (deadline_of clock wish.timeout) (next_waiter s.session) in
    either (Always AnyCall Numbered) (nat_le MOST_DURABLE s.session.used) (Done (refused f Etmpfail s)) (durable_called f c s) numbered
    (tt, λ reply any. replied_numbered (next_waiter s.session) f (λ e. absurd (omega (arith, e))) (with_used s) reply numbered)

frame_numbered : (clock : ℕ) (f : Frame) (s : Served) → Numbered s → Always AnyCall Numbered (frame_handled clock f s)
unfolding frame_handled
frame_numbered clock f s numbered =
    either (Always AnyCall Numbered) (f.magic == RESPONSE) (Done s) (if is_dcp f.opcode then Done (handed f s) else frame_answered clock f s) numbered
    (either (Always AnyCall Numbered) (is_dcp f.opcode) (Done (handed f s)) (frame_answered clock f s) numbered (request_numbered clock f (request_of s.session.settings.json f) s numbered))

-- the bytes behind a frame
pub front_ranged : (n : ℕ) (f : Frame) (s : Served) → SessionServed n s.session → SessionServed n (front_of f s).session
front_ranged n f s r = record { node = r.node; bytes = All-drop (λ b. b < 256) (frame_len f) s.session.reader r.bytes; numbered = r.numbered }

-- a fault leaves none
pub fault_ranged : (n : ℕ) (fault : FrameFault) (s : Served) → SessionServed n s.session → SessionServed n (ended_at (Some fault) s).session
fault_ranged n fault s r = record { node = r.node; bytes = All-nil (λ b. b < 256); numbered = r.numbered }

-- more bytes
pub more_ranged : (n : ℕ) (piece : List ℕ) (session : PlainSession) → AreBytes piece → SessionServed n session → SessionServed n (record session { reader = session.reader ++ piece })
more_ranged n piece session h r = record { node = r.node; bytes = All-append (λ b. b < 256) session.reader piece r.bytes h; numbered = r.numbered }

-- whatever a frame asks
frame_ranged : (n clock : ℕ) (f : Frame) (states : States) (s : Served) → SessionServed n s.session → SessionServed n (after (frame_handled clock f (front_of f s)) states).1.session
frame_ranged n clock f states s r =
    let x = front_ranged n f s r in
    let stays : Stays (front_of f s) (after (frame_handled clock f (front_of f s)) states).1 = after_always AnyCall (Stays (front_of f s)) (frame_handled clock f (front_of f s)) states
    (frame_stays (front_of f s) clock f (front_of f s) (record { who = refl; reader = refl; closed = refl })) in
    record {
      node = ap (λ who. who.node) stays.who ∙ x.node;
      bytes = subst AreBytes (sym stays.reader) x.bytes;
      numbered = after_always AnyCall Numbered (frame_handled clock f (front_of f s)) states (frame_numbered clock f (front_of f s) r.numbered);
    }

module _ (n clock : ℕ) where
  abbrev At : States × Handling → Type 0
  At x = SessionServed n x.1.client.session

  fed_served : (piece : List ℕ) (client : PlainClient) (states : States) → AreBytes piece → SessionServed n client.session → SessionServed n (after (client_fed clock piece client) states).1.client.session
  fed_served piece client states h r = fed_goes At clock (λ before producer f states s e p. frame_ranged n clock f states s p) (λ before producer fault states s e p. fault_ranged n fault s p) (λ f states h e p. p) (λ states h e p. p) piece client states r
      (more_ranged n piece client.session h r)

  outcome_served : (r : Resolved) (client : PlainClient) (states : States) → SessionServed n client.session → SessionServed n (after (client_posted clock r client) states).1.client.session
  outcome_served r client states p = posted_goes At clock (λ before producer f states s e p. frame_ranged n clock f states s p) (λ before producer fault states s e p. fault_ranged n fault s p) (λ f states h e p. p) (λ states h e p. p) r client states p
      (λ a e. record { node = p.node; bytes = p.bytes; numbered = tt })

  -- bytes
  pub fed_ranged : (piece : List ℕ) (client : PlainClient) (states : States) → AreBytes piece → SessionRanged n client.session → SessionRanged n (after (client_fed clock piece client) states).1.client.session
  fed_ranged piece client states h r =
      rests_ranged n (after (client_fed clock piece client) states).1.client.session (fed_served piece client states h (begins_ranged n client.session r))
      (after_always AnyCall (λ (h : Handling). Keeps h.client.session) (client_fed clock piece client) states (fed_keeps clock piece client))

  -- an outcome
  pub outcome_ranged : (r : Resolved) (client : PlainClient) (states : States) → SessionRanged n client.session → SessionRanged n (after (client_posted clock r client) states).1.client.session
  outcome_ranged r client states p =
      rests_ranged n (after (client_posted clock r client) states).1.client.session (outcome_served r client states (begins_ranged n client.session p))
      (after_always AnyCall (λ (h : Handling). Keeps h.client.session) (client_posted clock r client) states (outcome_keeps clock r client p.rests))
