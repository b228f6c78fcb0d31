-- what an outcome that is posted to one connection leaves of the others, and that a connection goes on to later numbers
use Rattle.std.specs.Prelude.{◌≡◌, ◌<◌, ◌≤◌, ◌∷◌, ◌==◌, if◌then◌else◌, nat_le}
use Rattle.transcript_law.proofs.Words.{ℕ, Bool, true, false, List, [], refl, ap, ◌∙◌, arith, map, Option, Some, None, Result, Ok, Err, after, Frame, KvRequest, RESPONSE, Status, VbCall, VbReply, States, PlainSession, Done, frame_handled, request_handled, told, Event, StreamName, Chronicle, after_line, after_lines}
use Rattle.client_session.proofs.{Conduct.{either}, Keeping.{front_of}}
use Rattle.client_session.specs.Serving.{Served, MOST_DURABLE, answered_or_awaited, awaited_by, deadline_of, durable_answered, durable_called, durable_replied, frame_answered, handed, is_dcp, next_waiter, outcome_of, refused, with_lines, with_used}
use Rattle.client_session.specs.declared.session.Awaited.{Awaited}
use Rattle.mcbp_kv.specs.Requests.{request_of}
use Rattle.mcbp_kv.specs.declared.request.KvRequest.TheVariants as request
use Rattle.node_core.specs.Clients.{Handling, PlainClient, client_posted}
use Rattle.transcript_law.proofs.indexers.Turns.{posted_goes}
use Rattle.transcript_law.proofs.invariant.Tables.{at_there}
use Rattle.transcript_law.proofs.lines.{Lines.{after_more}, SessionLines.{AreTo, LeftBy}}
use Rattle.transcript_law.specs.{ClientFrames.{request_in}, ClientStreams.{blank_client, clients_frame, past_asked, past_frame}, Questions.{past_answer}, StreamsTold.{StreamLine}}
use Rattle.vb_calls.specs.declared.calls.{Resolution.{Resolution}, VbAnswer.{VbAnswer}}
use Rattle.vb_calls.specs.declared.calls.VbAnswer.TheVariants as answer
use Rattle.vb_calls.specs.declared.calls.VbCall.TheVariants as call
use Rattle.vb_calls.{proofs.Conduct.{after_always}, specs.Programs.{Always, AnyCall}, specs.declared.calls.Resolved.{Resolved}}
use Rattle.vb_events.specs.declared.event.Event.TheVariants as event
use Rattle.vb_types.specs.declared.status.Status.TheVariants.{Etmpfail}

-- ---- lines of one connection

-- leave what is known of another one
one_past : (r : Chronicle) (n c d : ℕ) (line : Event) (lines : List Event) → (d ≡ c → ⊥) → AreTo n c (line ∷ lines) → (after_line r line).clients_at n d ≡ r.clients_at n d
one_past r n c d (Event.Changed m v uuid change) lines ne a = refl
one_past r n c d (Event.Reply m e bytes) lines ne a = by (r.clients_at m e).told
  where
    by : (o : Option StreamLine) → clients_frame r.tree r.clients_at m e bytes o n d ≡ r.clients_at n d
    by None = at_there r.clients_at m e (past_answer (r.clients_at m e)) n d (λ s t. ne (t ∙ a.0.1))
    by (Some line) = at_there r.clients_at m e (past_frame r.tree bytes line (r.clients_at m e)) n d (λ s t. ne (t ∙ a.0.1))
one_past r n c d (Event.Asked (StreamName.Client m e) k v ask high log said) lines ne a =
    at_there r.clients_at m e (past_asked (request_in (r.clients_at m e).bytes) v log said (r.clients_at m e)) n d (λ s t. ne (t ∙ a.0.1))
one_past r n c d other lines ne a = absurd a.0

pub others_past : (r : Chronicle) (n c d : ℕ) (lines : List Event) → (d ≡ c → ⊥) → AreTo n c lines → (after_lines r lines).clients_at n d ≡ r.clients_at n d
others_past r n c d [] ne a = refl
others_past r n c d (line ∷ lines) ne a = others_past (after_line r line) n c d lines ne a.1 ∙ one_past r n c d line lines ne a

-- and what is known of the number of the script's line
last_one : (r : Chronicle) (n c : ℕ) (line : Event) (lines : List Event) → AreTo n c (line ∷ lines) → (after_line r line).last ≡ r.last
last_one r n c (Event.Changed m v uuid change) lines a = refl
last_one r n c (Event.Reply m e bytes) lines a = refl
last_one r n c (Event.Asked (StreamName.Client m e) k v ask high log said) lines a = refl
last_one r n c other lines a = absurd a.0

pub last_past : (r : Chronicle) (n c : ℕ) (lines : List Event) → AreTo n c lines → (after_lines r lines).last ≡ r.last
last_past r n c [] a = refl
last_past r n c (line ∷ lines) a = last_past (after_line r line) n c lines a.1 ∙ last_one r n c line lines a

-- also where it closes behind them
pub left_past : (r : Chronicle) (n c d : ℕ) (closed : Bool) (h : Handling) → (d ≡ c → ⊥) → LeftBy n c closed h → (after_lines r h.events).clients_at n d ≡ r.clients_at n d
left_past r n c d false h ne left = others_past r n c d h.events ne left
left_past r n c d true h ne left =
    let (front, is, to) = left.2 in let before : Chronicle = after_lines r front in
    ap (λ es. (after_lines r es).clients_at n d) is ∙ ap (λ (k : Chronicle). k.clients_at n d) (after_more r front (Event.Closed n c ∷ []))
    ∙ at_there before.clients_at n c blank_client n d (λ s t. ne t) ∙ others_past r n c d front ne to

pub left_last : (r : Chronicle) (n c : ℕ) (closed : Bool) (h : Handling) → LeftBy n c closed h → (after_lines r h.events).last ≡ r.last
left_last r n c false h left = last_past r n c h.events left
left_last r n c true h left =
    let (front, is, to) = left.2 in ap (λ es. (after_lines r es).last) is ∙ ap (λ (k : Chronicle). k.last) (after_more r front (Event.Closed n c ∷ [])) ∙ last_past r n c front to

-- ---- numbers

-- a session that gave so many numbers when a call began, and awaits a later one, if it awaits one
pub record GoesUp (s : PlainSession) (t : PlainSession) : Type 0 where
  pub who : t.who ≡ s.who
  pub used : s.used ≤ t.used
  pub awaits : (a : Awaited) → t.awaited ≡ Some a → s.used < t.used

module _ (s : PlainSession) where
  abbrev Up : Served → Type 0
  Up x = GoesUp s x.session

  outcome_up : (x : Served) (waiter : ℕ) (f : Frame) → s.used < x.session.used → (how : Option Resolution) → Up x → Up (answered_or_awaited (awaited_by waiter f) how x)
  outcome_up x waiter f more None up = record { who = up.who; used = up.used; awaits = λ a e. more }
  outcome_up x waiter f more (Some how) up = record { who = up.who; used = up.used; awaits = λ a e. cc }

  durable_up : (waiter : ℕ) (f : Frame) (how : Option Resolution) (a : VbAnswer) (x : Served) → s.used < x.session.used → Up x → Up (durable_answered waiter f how a x)
  durable_up waiter f how (answer.Status st) x more up = up
  durable_up waiter f how (answer.Prepared seq cas) x more up = outcome_up x waiter f more how up
  durable_up waiter f how other x more up = up

  replied_up : (waiter : ℕ) (f : Frame) (x : Served) (reply : Option VbReply) → s.used < x.session.used → Up x → Up (durable_replied waiter f x reply)
  unfolding durable_replied
  replied_up waiter f x None more up = up
  replied_up waiter f x (Some reply) more up = durable_up waiter f (outcome_of waiter reply.resolved) reply.answer (with_lines x (map (event.Changed x.session.who.node f.vb_or_status reply.branch) reply.changes)) more up

  used_up : (x : Served) → Up x → Up (with_used x)
  used_up x up = let u = up.used in record { who = up.who; used = omega (arith, u); awaits = λ a e. omega (arith, u) }

  request_up : (clock : ℕ) (f : Frame) (r : Result KvRequest Status) (x : Served) → Up x → Always AnyCall Up (request_handled clock f r x)
  unfolding request_handled told
  request_up clock f (Err st) x up = up
  request_up clock f (Ok request.Noop) x up = up
  request_up clock f (Ok (request.Hello features)) x up = record { who = up.who; used = up.used; awaits = up.awaits }
  request_up clock f (Ok (request.Get key)) x up = (tt, λ reply any. up)
  request_up clock f (Ok (request.Write write None)) x up = (tt, λ reply any. up)
  request_up clock f (Ok (request.Write write (Some wish))) x up =
      let c : VbCall = call.Durable write clock wish.level (deadline_of clock wish.timeout) (next_waiter x.session) in
      either (Always AnyCall Up) (nat_le MOST_DURABLE x.session.used) (Done (refused f Etmpfail x)) (durable_called f c x) up
      (tt, λ reply any. let u = up.used in replied_up (next_waiter x.session) f (with_used x) reply (omega (arith, u)) (used_up x up))

  frame_up : (clock : ℕ) (f : Frame) (x : Served) → Up x → Always AnyCall Up (frame_handled clock f x)
  unfolding frame_handled
  frame_up clock f x up =
      either (Always AnyCall Up) (f.magic == RESPONSE) (Done x) (if is_dcp f.opcode then Done (handed f x) else frame_answered clock f x) up
      (either (Always AnyCall Up) (is_dcp f.opcode) (Done (handed f x)) (frame_answered clock f x) up (request_up clock f (request_of x.session.settings.json f) x up))

  abbrev At : States × Handling → Type 0
  At x = GoesUp s x.1.client.session

  framed_up : (clock : ℕ) (f : Frame) (states : States) (x : Served) → Up x → Up (after (frame_handled clock f (front_of f x)) states).1
  framed_up clock f states x up = after_always AnyCall Up (frame_handled clock f (front_of f x)) states (frame_up clock f (front_of f x) (record { who = up.who; used = up.used; awaits = up.awaits }))

-- so it is with a connection to which an outcome that it awaits is posted
pub posted_up : (clock : ℕ) (o : Resolved) (client : PlainClient) (states : States) (a : Awaited) → client.session.awaited ≡ Some a → (a.waiter == o.waiter) ≡ true → GoesUp client.session (after (client_posted clock o client) states).1.client.session
posted_up clock o client states a waits same = (posted_goes (At client.session) clock
    (λ before producer f states s free first p. framed_up client.session clock f states s p) (λ before producer fault states s free first p. record { who = p.who; used = p.used; awaits = p.awaits }) (λ f states h e p. p) (λ states h none e p. p) o client states
    a waits same (record { who = refl; used = omega arith; awaits = λ b e. cc })).0
