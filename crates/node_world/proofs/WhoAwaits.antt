-- what became of a durable write is told to the connection that awaits it
use Rattle.std.proofs.Common.{◌≡◌, ℕ, zero, suc, ◌<◌, arith, Bool, true, false, List, [], ◌∷◌, ◌++◌, map, refl, ap, sym, ◌∙◌, subst, Option, Some, None, Result, Ok, Err, append_assoc}
use Rattle.std.specs.Prelude.{◌≢◌, ◌==◌, nat_le, if◌then◌else◌}
use Rattle.std.proofs.lemmas.Bool.{eq-eqb, eqb-true, eqb-false, ne_eqb}
use Rattle.mcbp_frame.specs.declared.frame.Frame.{Frame}
use Rattle.mcbp_frame.specs.declared.frame.TheConstants.{RESPONSE}
use Rattle.mcbp_kv.specs.Replies.{reply_frame}
use Rattle.mcbp_kv.specs.Requests.{request_of}
use Rattle.mcbp_kv.specs.declared.request.KvRequest.{KvRequest}
use Rattle.mcbp_kv.specs.declared.request.KvRequest.TheVariants as request
use Rattle.vb_events.specs.declared.event.Event.{Event}
use Rattle.vb_events.specs.declared.event.Event.TheVariants as event
use Rattle.vb_types.specs.declared.status.Status.{Status}
use Rattle.vb_types.specs.declared.status.Status.TheVariants as status
use Rattle.vb_calls.specs.Programs.{Prog, Done, after}
use Rattle.vb_calls.specs.States.{States}
use Rattle.vb_calls.specs.declared.calls.Resolution.{Resolution}
use Rattle.vb_calls.specs.declared.calls.Resolution.TheVariants as resolution
use Rattle.vb_calls.specs.declared.calls.Resolved.{Resolved}
use Rattle.vb_calls.specs.declared.calls.VbAnswer.{VbAnswer}
use Rattle.vb_calls.specs.declared.calls.VbAnswer.TheVariants as answer
use Rattle.vb_calls.specs.declared.calls.VbCall.{VbCall}
use Rattle.vb_calls.specs.declared.calls.VbCall.TheVariants as call
use Rattle.vb_calls.specs.declared.calls.VbReply.{VbReply}
use Rattle.client_session.specs.declared.session.Awaited.{Awaited}
use Rattle.client_session.specs.declared.session.Settings.{Settings}
use Rattle.client_session.specs.Answers.{reply_line}
use Rattle.client_session.specs.Conduct.{sent}
use Rattle.client_session.specs.Rows.{IsOutcome}
use Rattle.client_session.specs.Serving.{Served, MOST_DURABLE, asked, awaited_by, awaits, deadline_of, durable_answered, durable_called, durable_replied, ended_at, frame_handled, greeted, next_waiter, outcome_by, outcome_of, outcome_reply, outcome_handled, outcome_answered, answered_or_awaited, refused, request_handled, served, told, turns_handled, with_lines, with_used, handed, is_dcp}
use Rattle.client_session.proofs.Conduct.{either}
use Rattle.client_session.proofs.Keeping.{front_of, turns_go}
use Rattle.node_core.specs.Calls.{left_open}
use Rattle.node_core.specs.Clients.{PlainClient, Handling, client_posted, delivered, handled_on, closed_if, frames_passed}
use Rattle.dcp_producer.specs.Serving.{frame_answered as dcp_answered}
use Rattle.node_core.proofs.Handlings.{answered, on_goes, passes_go}
use Rattle.dcp_producer.specs.Producers.{PlainProducer, begun}
use Rattle.vb_calls.proofs.Readings.{after_bind}
use Rattle.mcbp_frame.specs.declared.frame.FrameFault.{FrameFault}
use Rattle.dcp_producer.specs.Ending.{end_closed}
use Rattle.node_world.specs.declared.script_node.TheConstants.{MAX_CLIENTS}
use Rattle.node_world.specs.Nodes.{PlainNode, awaiting, awaiting_at, awaits_in, first_of, posted, posted_if, posted_to}
use Rattle.node_world.specs.Posting.{AwaitsAlone, GoesToWhoAwaits, NobodyAwaits, TellsFirst}

-- ---- who awaits

module _ (clients : ℕ → Option PlainClient) (waiter : ℕ) where
  at_none : (c : ℕ) → awaits_in waiter (clients c) ≡ false → awaiting_at clients waiter c ≡ None
  at_none c e = ap (λ b. if b then Some c else None) e

  none_awaits : (n : ℕ) → ((c : ℕ) → c < n → awaits_in waiter (clients c) ≡ false) → awaiting clients waiter n ≡ None
  unfolding awaiting
  none_awaits zero none = refl
  none_awaits (suc n) none = (λ i. first_of (none_awaits n (λ c lt. none c (omega (arith, lt))) i) (at_none n (none n (omega arith)) i))

  module _ (c : ℕ) (mine : awaits_in waiter (clients c) ≡ true) where
    one_awaits : (n : ℕ) → c < n → ((d : ℕ) → d < n → d ≢ c → awaits_in waiter (clients d) ≡ false) → awaiting clients waiter n ≡ Some c
    unfolding awaiting
    one_awaits zero lt others = absurd (omega (arith, lt))
    one_awaits (suc n) lt others = by (n == c) refl (λ below. one_awaits n below (λ d lower ne. others d (omega (arith, lower)) ne))
      where
        by : (b : Bool) → (n == c) ≡ b → (c < n → awaiting clients waiter n ≡ Some c) → first_of (awaiting clients waiter n) (awaiting_at clients waiter n) ≡ Some c
        by true e later =
            let same : n ≡ c = eqb-true n c e in
            ap (λ o. first_of o (awaiting_at clients waiter n)) (none_awaits n (λ d below. others d (omega (arith, below)) (λ is. absurd (omega (arith, below, same, is)))))
            ∙ ap (awaiting_at clients waiter) same ∙ ap (λ b. if b then Some c else None) mine
        by false e later =
            let apart : n ≢ c = eqb-false n c e in
            ap (λ o. first_of o (awaiting_at clients waiter n)) (later (omega (arith, lt, apart)))

-- ---- lines are told behind those before

-- the lines in front, and those of the session
module _ (before first : List Event) where
  -- all that is told begins so
  abbrev pub Begins : Served → Type 0
  Begins s = (rest : List Event) × (before ++ s.events ≡ first ++ rest)

  grows : (s t : Served) (lines : List Event) → t.events ≡ s.events ++ lines → Begins s → Begins t
  grows s t lines told (rest, is) = (rest ++ lines, ap (λ xs. before ++ xs) told ∙ sym (append_assoc before s.events lines) ∙ ap (λ xs. xs ++ lines) is ∙ append_assoc first rest lines)

  more : (s : Served) (lines : List Event) → Begins s → Begins (with_lines s lines)
  more s lines begins = grows s (with_lines s lines) lines refl begins

  prepared_begins : (a : Awaited) (how : Option Resolution) (s : Served) → Begins s → Begins (answered_or_awaited a how s)
  prepared_begins a None s begins = begins
  prepared_begins a (Some how) s begins = grows s (outcome_answered a how s) _ refl begins

  answered_begins : (waiter : ℕ) (f : Frame) (how : Option Resolution) (a : VbAnswer) (s : Served) → Begins s → Begins (durable_answered waiter f how a s)
  answered_begins waiter f how (answer.Status st) s begins = more s _ begins
  answered_begins waiter f how (answer.Prepared seq cas) s begins = prepared_begins (awaited_by waiter f) how s begins
  answered_begins waiter f how other s begins = begins

  durable_begins : (waiter : ℕ) (f : Frame) (s : Served) (reply : Option VbReply) → Begins s → Begins (durable_replied waiter f s reply)
  unfolding durable_replied
  durable_begins waiter f s None begins = more s _ begins
  durable_begins waiter f s (Some reply) begins =
      let lines = map (event.Changed s.session.who.node f.vb_or_status reply.branch) reply.changes in answered_begins waiter f (outcome_of waiter reply.resolved) reply.answer (with_lines s lines) (more s lines begins)

  abbrev Goes : States → Prog Served → Type 0
  Goes states prog = Begins (after prog states).1

  asked_begins : (states : States) (f : Frame) (c : VbCall) (s : Served) → Begins s → Goes states (asked f c s)
  unfolding told
  asked_begins states f c s begins = more s _ begins

  request_begins : (states : States) (clock : ℕ) (f : Frame) (r : Result KvRequest Status) (s : Served) → Begins s → Goes states (request_handled clock f r s)
  unfolding request_handled
  request_begins states clock f (Err st) s begins = more s _ begins
  request_begins states clock f (Ok request.Noop) s begins = more s _ begins
  request_begins states clock f (Ok (request.Hello features)) s begins = grows s (greeted f features s) _ refl begins
  request_begins states clock f (Ok (request.Get key)) s begins = asked_begins states f (call.Get key) s begins
  request_begins states clock f (Ok (request.Write write None)) s begins = asked_begins states f (call.Store write clock) s begins
  request_begins states clock f (Ok (request.Write write (Some wish))) s begins =
      let c : VbCall = call.Durable write clock wish.level (deadline_of clock wish.timeout) (next_waiter s.session) in
      either (Goes states) (nat_le MOST_DURABLE s.session.used) (Done (refused f status.Etmpfail s)) (durable_called f c s)
      (more s _ begins) (durable_begins (next_waiter s.session) f (with_used s) _ begins)

  frame_begins : (states : States) (clock : ℕ) (f : Frame) (s : Served) → Begins s → Goes states (frame_handled clock f s)
  unfolding frame_handled
  frame_begins states clock f s begins =
      let answers : Prog Served = request_handled clock f (request_of s.session.settings.json f) s in
      either (Goes states) (f.magic == RESPONSE) (Done s) (if is_dcp f.opcode then Done (handed f s) else answers) begins
      (either (Goes states) (is_dcp f.opcode) (Done (handed f s)) answers begins (request_begins states clock f (request_of s.session.settings.json f) s begins))

  ended_begins : (fault : FrameFault) (s : Served) → Begins s → Begins (ended_at (Some fault) s)
  ended_begins fault s begins = grows s (ended_at (Some fault) s) _ refl begins

  turns_begin : (clock : ℕ) (states : States) (s : Served) → Begins s → Goes states (turns_handled clock s)
  turns_begin clock states s begins = turns_go (λ x. Begins x.1) clock (λ f states s first begins. frame_begins states clock f (front_of f s) begins) (λ fault states s first begins. ended_begins fault s begins) s states begins

-- so it is with all that a connection goes on with
abbrev pub Opens : List Event → States × Handling → Type 0
Opens first x = (rest : List Event) × (x.1.events ≡ first ++ rest)

module _ (first : List Event) (clock : ℕ) where
  answers_open : (f : Frame) (states : States) (h : Handling) → Opens first (states, h) → let x = after (dcp_answered f (begun h.client.producer)) states in Opens first (x.0, answered h x.1)
  answers_open f states h (rest, is) =
      let lines : List Event = delivered h.client.session.who (after (dcp_answered f (begun h.client.producer)) states).1 in (rest ++ lines, ap (λ xs. xs ++ lines) is ∙ append_assoc first rest lines)

  pub handling_opens : (producer : PlainProducer) (s : Served) (states : States) → Begins [] first s → Opens first (after (handled_on clock producer s) states)
  handling_opens producer s states begins =
      on_goes (Opens first) clock (λ before producer f states s whole p. frame_begins before first states clock f (front_of f s) p) (λ before producer fault states s whole p. ended_begins before first fault s p)
      (λ f states h e p. answers_open f states h p) (λ states h e p. p) producer s states begins

  pub passes_open : (h : Handling) (states : States) → Opens first (states, h) → Opens first (after (frames_passed clock h) states)
  passes_open h states opens =
      passes_go (Opens first) clock (λ before producer f states s whole p. frame_begins before first states clock f (front_of f s) p) (λ before producer fault states s whole p. ended_begins before first fault s p)
      (λ f states h e p. answers_open f states h p) h states opens

  pub closes_open : (h : Handling) (states : States) (closed : Bool) → Opens first (states, h) → Opens first (after (closed_if closed h) states)
  closes_open h states true opens = subst (Opens first) (sym (after_bind (end_closed h.client.producer) (λ none. Done h) states)) opens
  closes_open h states false opens = opens

-- ---- the answer

is_outcome : (settings : Settings) (a : Awaited) (how : Resolution) → IsOutcome settings a.opcode a.opaque how (reply_frame (outcome_reply settings a how))
is_outcome settings a (resolution.Committed uuid seq cas) = record {
  header = record { magic = refl; opcode = refl; key = refl; datatype = refl; status = refl; opaque = refl; framing = refl };
  cas = refl;
  extras = refl;
  value = refl;
}
is_outcome settings a resolution.Ambiguous = record {
  header = record { magic = refl; opcode = refl; key = refl; datatype = refl; status = refl; opaque = refl; framing = refl };
  cas = refl;
  extras = refl;
  value = refl;
}

module _ (r : Resolved) (node : PlainNode) where
  nobody_told : NobodyAwaits r.waiter node → posted r node ≡ (node, [])
  nobody_told none = ap (posted_to r node) (none_awaits node.clients r.waiter MAX_CLIENTS none)

  module _ (c : ℕ) (client : PlainClient) (a : Awaited) (alone : AwaitsAlone r.waiter c client a node) where
    abbrev frame : Frame
    frame = reply_frame (outcome_reply client.session.settings a r.how)

    abbrev line : List Event
    line = sent client.session.who frame ∷ []

    abbrev started : Served
    started = served client.session []

    waits : awaits_in r.waiter (node.clients c) ≡ true
    waits = ap (awaits_in r.waiter) alone.there ∙ ap (awaits r.waiter) alone.awaited ∙ eq-eqb a.waiter r.waiter alone.mine

    pub told_is : posted r node ≡ posted_if c r node (Some client)
    told_is = ap (posted_to r node) (one_awaits node.clients r.waiter c waits MAX_CLIENTS alone.within alone.others) ∙ ap (posted_if c r node) alone.there

    begins : Begins [] line (after (outcome_handled node.clock r started) node.vbs).1
    unfolding outcome_handled reply_line
    begins =
        subst (λ (prog : Prog Served). Begins [] line (after prog node.vbs).1)
        (sym (ap (outcome_by node.clock r started) alone.awaited ∙ ap (λ b. if b then turns_handled node.clock (outcome_answered a r.how started) else Done started) (eq-eqb a.waiter r.waiter alone.mine)))
        (turns_begin [] line node.clock node.vbs (outcome_answered a r.how started) ([], refl))

    opens : Opens line (after (client_posted node.clock r client) node.vbs)
    unfolding client_posted
    opens =
        let run : Prog Served = outcome_handled node.clock r started in
        let x : States × Served = after run node.vbs in
        subst (Opens line) (sym (after_bind run (handled_on node.clock client.producer) node.vbs)) (handling_opens line node.clock client.producer x.1 x.0 begins)

    one_told : TellsFirst r c client a node
    one_told = record {
      frame = frame;
      is = is_outcome client.session.settings a r.how;
      rest = opens.0;
      told = ap (λ (x : PlainNode × List Event). x.1) told_is ∙ opens.1;
      others = λ d ne. ap (λ (x : PlainNode × List Event). x.0.clients d) told_is ∙ ap (λ b. if b then left_open (after (client_posted node.clock r client) node.vbs).1.client else node.clients d) (ne_eqb d c ne);
    }

  pub goes : GoesToWhoAwaits r node
  goes = record { nobody = nobody_told; one = one_told }
