-- what holds of a client's connection behind all that it does with bytes and outcomes, where each frame that its session serves, each fault, each answer of its producer and the end of its streams keep it
use Rattle.std.proofs.Common.{◌≡◌, ℕ, zero, suc, Bool, true, false, List, [], ◌++◌, length, append-nil, refl, sym, ap, ◌∙◌, subst, Option, Some, None, Ok, Err}
use Rattle.std.specs.Prelude.{◌==◌, ◌||◌, drop, is_some}
use Rattle.mcbp_frame.specs.Frames.{first_frame, frame_len}
use Rattle.mcbp_frame.specs.declared.frame.Frame.{Frame}
use Rattle.mcbp_frame.specs.declared.frame.FrameFault.{FrameFault}
use Rattle.client_session.specs.declared.session.Awaited.{Awaited}
use Rattle.client_session.specs.Serving.{PlainSession, Served, served, with_bytes, ended_at, frame_handled, bytes_handled, is_held, is_waiting, outcome_answered, outcome_by, outcome_handled, turns_handled}
use Rattle.client_session.proofs.{Conduct.{Stays, either, frame_stays}, Keeping.{front_of, bytes_keep, outcome_keeps}, Turns.{by_turns, turns_fault, turns_frame, turns_none, turns_waiting}}
use Rattle.dcp_producer.specs.Ending.{end_closed}
use Rattle.dcp_producer.specs.Producers.{PlainProducer, Served as Answered, begun}
use Rattle.dcp_producer.specs.Serving.{frame_answered}
use Rattle.vb_events.specs.declared.event.Event.{Event}
use Rattle.vb_calls.specs.Programs.{Prog, Done, bind, Turn, More, Stop, go_on, repeated, after, AlwaysWith, AnyCall}
use Rattle.vb_calls.specs.States.{States}
use Rattle.vb_calls.specs.declared.calls.Resolved.{Resolved}
use Rattle.vb_calls.specs.declared.calls.VbCall.{VbCall}
use Rattle.vb_calls.specs.declared.calls.VbReply.{VbReply}
use Rattle.vb_calls.proofs.Binds.{bind_assoc, bind_same}
use Rattle.vb_calls.proofs.Conduct.{after_always, always_bind}
use Rattle.vb_calls.proofs.Readings.{after_bind}
use Rattle.node_core.specs.Clients.{PlainClient, Handling, came_to, client_fed, client_posted, closed_if, delivered, frame_passed, frames_passed, handled_on, passed_by, passed_on, went_on}
use Rattle.node_core.proofs.ClientTurns.{first_passed}
use Rattle.node_core.proofs.Turning.{always_any, onward}

-- a call begins: nothing is told yet
abbrev pub started : PlainClient → Handling
started client = went_on [] client.producer (served client.session [])

-- the producer answered the frame that was handed up
abbrev pub answered : Handling → Answered → Handling
answered h a = record { client = record { session = h.client.session; producer = a.end }; events = h.events ++ delivered h.client.session.who a; dcp = None }

-- a connection after a turn
handled : Turn Handling Handling → Handling
handled (More h) = h
handled (Stop h) = h

-- behind an answer the session begins with no byte more, and no line
begins : (events : List Event) (producer : PlainProducer) (session : PlainSession) → went_on events producer (with_bytes (session.reader ++ []) (served session [])) ≡ went_on events producer (served session [])
begins events producer session = λ i. went_on events producer (with_bytes (append-nil session.reader i) (served session []))

begun_so : (h : Handling) (a : Answered) → went_on (h.events ++ delivered h.client.session.who a) a.end (served h.client.session []) ≡ answered h a
begun_so h a = λ i. record (answered h a) { events = append-nil (h.events ++ delivered h.client.session.who a) i }

-- ---- a session over the plain states, which serves a frame or meets a fault only while no frame that it handed up is still to be answered

free_of : (s : Served) → is_held s ≡ false → s.dcp ≡ None
free_of s free = by s.dcp free
  where
    by : (dcp : Option Frame) → (is_some dcp || is_waiting s.session) ≡ false → dcp ≡ None
    by None e = refl
    by (Some f) e = cc

module _ (P : States × Served → Type 0) (clock : ℕ)
    (framed : (f : Frame) (states : States) (s : Served) → s.dcp ≡ None → first_frame s.session.reader ≡ Some (Ok f) → P (states, s) → P (after (frame_handled clock f (front_of f s)) states))
    (faulty : (fault : FrameFault) (states : States) (s : Served) → s.dcp ≡ None → first_frame s.session.reader ≡ Some (Err fault) → P (states, s) → P (states, ended_at (Some fault) s)) where
  Goes : Served → Type 0
  Goes s = (states : States) → P (states, s) → P (after (turns_handled clock s) states)

  goes_done : (s t : Served) (states : States) → turns_handled clock s ≡ Done t → P (states, t) → P (after (turns_handled clock s) states)
  goes_done s t states e p = subst (λ prog. P (after prog states)) (sym e) p

  goes_frame : (s : Served) (f : Frame) (states : States) → s.dcp ≡ None → turns_handled clock s ≡ bind (frame_handled clock f (front_of f s)) (turns_handled clock) → first_frame s.session.reader ≡ Some (Ok f)
      → ((t : Served) → t.session.reader ≡ drop (frame_len f) s.session.reader → Goes t) → P (states, s) → P (after (turns_handled clock s) states)
  unfolding Goes
  goes_frame s f states free turns first later p =
      let run : Prog Served = frame_handled clock f (front_of f s) in
      let x : States × Served = after run states in
      let stays : Stays (front_of f s) x.1 = after_always AnyCall (Stays (front_of f s)) run states (frame_stays (front_of f s) clock f (front_of f s) (record { who = refl; reader = refl; closed = refl })) in
      subst P (sym (ap (λ prog. after prog states) turns ∙ after_bind run (turns_handled clock) states)) (later x.1 stays.reader x.0 (framed f states s free first p))

  goes : (s : Served) → Goes s
  unfolding Goes
  goes = by_turns
      Goes
      (λ s w states p. goes_done s s states (turns_waiting clock s w) p)
      (λ s w e states p. goes_done s s states (turns_none clock s w e) p)
      (λ s fault w e states p. goes_done s (ended_at (Some fault) s) states (turns_fault clock s fault w e) (faulty fault states s (free_of s w) e p))
      (λ s f w e later states p. goes_frame s f states (free_of s w) (turns_frame clock s f w e) e later p)

  turns_free : (s : Served) (states : States) → P (states, s) → P (after (turns_handled clock s) states)
  unfolding Goes
  turns_free s states p = goes s states p

  bytes_free : (piece : List ℕ) (s : Served) (states : States) → P (states, s) → P (states, with_bytes (s.session.reader ++ piece) s) → P (after (bytes_handled clock piece s) states)
  unfolding bytes_handled
  bytes_free piece s states p more =
      either (λ prog. P (after prog states)) s.session.closed (Done s) (turns_handled clock (with_bytes (s.session.reader ++ piece) s)) p
      (turns_free (with_bytes (s.session.reader ++ piece) s) states more)

  outcome_free_by : (r : Resolved) (s : Served) (states : States) (o : Option Awaited) → s.session.awaited ≡ o → P (states, s)
      → ((a : Awaited) → s.session.awaited ≡ Some a → P (states, outcome_answered a r.how s)) → P (after (outcome_by clock r s o) states)
  outcome_free_by r s states None e p told = p
  outcome_free_by r s states (Some a) e p told =
      either (λ prog. P (after prog states)) (a.waiter == r.waiter) (turns_handled clock (outcome_answered a r.how s)) (Done s) (turns_free (outcome_answered a r.how s) states (told a e)) p

  outcome_free : (r : Resolved) (s : Served) (states : States) → P (states, s) → ((a : Awaited) → s.session.awaited ≡ Some a → P (states, outcome_answered a r.how s))
      → P (after (outcome_handled clock r s) states)
  unfolding outcome_handled
  outcome_free r s states p told = outcome_free_by r s states s.session.awaited refl p told

-- ---- a connection over the plain states

module _ (P : States × Handling → Type 0) (clock : ℕ)
    (framed : (before : List Event) (producer : PlainProducer) (f : Frame) (states : States) (s : Served) → s.dcp ≡ None → first_frame s.session.reader ≡ Some (Ok f) → P (states, went_on before producer s)
    → let x = after (frame_handled clock f (front_of f s)) states in P (x.0, went_on before producer x.1))
    (faulty : (before : List Event) (producer : PlainProducer) (fault : FrameFault) (states : States) (s : Served) → s.dcp ≡ None → first_frame s.session.reader ≡ Some (Err fault) → P (states, went_on before producer s)
    → P (states, went_on before producer (ended_at (Some fault) s)))
    (passed : (f : Frame) (states : States) (h : Handling) → h.dcp ≡ Some f → P (states, h) → let x = after (frame_answered f (begun h.client.producer)) states in P (x.0, answered h x.1)) where
  -- the session, with these lines in front and this producer
  On : List Event → PlainProducer → States × Served → Type 0
  On before producer x = P (x.0, went_on before producer x.1)

  -- a frame that was handed up, and what the session does behind it
  passed_go : (h : Handling) (states : States) (dcp : Option Frame) → h.dcp ≡ dcp → P (states, h) → let x = after (passed_by clock h dcp) states in P (x.0, handled x.1)
  unfolding handled On
  passed_go h states None e p = p
  passed_go h states (Some f) e p =
      let run : Prog Answered = frame_answered f (begun h.client.producer) in
      let x : States × Answered = after run states in
      let session : PlainSession = h.client.session in
      let lines : List Event = h.events ++ delivered session.who x.1 in
      let prog : Prog Served = bytes_handled clock [] (served session []) in
      let start : P (x.0, went_on lines x.1.end (served session [])) = subst (λ g. P (x.0, g)) (sym (begun_so h x.1)) (passed f states h e p) in
      let more : P (x.0, went_on lines x.1.end (with_bytes (session.reader ++ []) (served session []))) = subst (λ g. P (x.0, g)) (sym (begins lines x.1.end session)) start in
      let went : On lines x.1.end (after prog x.0) = bytes_free (On lines x.1.end) clock (framed lines x.1.end) (faulty lines x.1.end) [] (served session []) x.0 start more in
      subst (λ (y : States × Turn Handling Handling). P (y.0, handled y.1)) (sym (after_bind run (passed_on clock h) states ∙ after_bind prog (λ s. Done (More (went_on lines x.1.end s))) x.0)) went

  one_goes : (h : Handling) (states : States) → P (states, h) → let x = after (frame_passed clock h) states in P (x.0, handled x.1)
  unfolding frame_passed
  one_goes h states p = passed_go h states h.dcp refl p

  next_goes : (t : Turn Handling Handling) (states : States) → P (states, handled t) → let x = after (go_on (frame_passed clock) t) states in P (x.0, handled x.1)
  unfolding handled
  next_goes (More h) states p = one_goes h states p
  next_goes (Stop h) states p = p

  many_go : (n : ℕ) (h : Handling) (states : States) → P (states, h) → let x = after (repeated n (frame_passed clock) h) states in P (x.0, handled x.1)
  unfolding handled
  many_go zero h states p = p
  many_go (suc n) h states p =
      let run : Prog (Turn Handling Handling) = repeated n (frame_passed clock) h in
      let x : States × Turn Handling Handling = after run states in
      subst (λ (y : States × Turn Handling Handling). P (y.0, handled y.1)) (sym (after_bind run (go_on (frame_passed clock)) states)) (next_goes x.1 x.0 (many_go n h states p))

  came_so : (t : Turn Handling Handling) (states : States) → P (states, handled t) → P (after (came_to t) states)
  unfolding handled
  came_so (More h) states p = p
  came_so (Stop h) states p = p

  -- all frames that the session hands up
  pub passes_free : (h : Handling) (states : States) → P (states, h) → P (after (frames_passed clock h) states)
  unfolding frames_passed
  passes_free h states p =
      let run : Prog (Turn Handling Handling) = repeated (suc (length h.client.session.reader)) (frame_passed clock) h in
      let x : States × Turn Handling Handling = after run states in
      subst P (sym (after_bind run came_to states)) (came_so x.1 x.0 (many_go (suc (length h.client.session.reader)) h states p))

  -- and what holds in the end: of one that stays open, and of one that closed, once its streams are closed
  module _ (R : States × Handling → Type 0) (stays : (states : States) (h : Handling) → h.client.session.closed ≡ false → P (states, h) → R (states, h))
      (ends : (states : States) (h : Handling) → h.client.session.closed ≡ true → P (states, h) → R ((after (end_closed h.client.producer) states).0, h)) where
    closed_ends : (h : Handling) (states : States) (closed : Bool) → h.client.session.closed ≡ closed → P (states, h) → R (after (closed_if closed h) states)
    closed_ends h states false e p = stays states h e p
    closed_ends h states true e p = subst R (sym (after_bind (end_closed h.client.producer) (λ none. Done h) states)) (ends states h e p)

    pub on_free : (producer : PlainProducer) (s : Served) (states : States) → P (states, went_on [] producer s) → R (after (handled_on clock producer s) states)
    on_free producer s states p =
        let run : Prog Handling = frames_passed clock (went_on [] producer s) in
        let x : States × Handling = after run states in
        subst R (sym (after_bind run (λ h. closed_if h.client.session.closed h) states)) (closed_ends x.1 x.0 x.1.client.session.closed refl (passes_free (went_on [] producer s) states p))

    -- bytes
    pub fed_free : (piece : List ℕ) (client : PlainClient) (states : States) → P (states, started client)
        → P (states, went_on [] client.producer (with_bytes (client.session.reader ++ piece) (served client.session []))) → R (after (client_fed clock piece client) states)
    unfolding client_fed On
    fed_free piece client states p more =
        let run : Prog Served = bytes_handled clock piece (served client.session []) in
        let x : States × Served = after run states in
        subst R (sym (after_bind run (handled_on clock client.producer) states))
        (on_free client.producer x.1 x.0 (bytes_free (On [] client.producer) clock (framed [] client.producer) (faulty [] client.producer) piece (served client.session []) states p more))

    -- an outcome
    pub posted_free : (r : Resolved) (client : PlainClient) (states : States) → P (states, started client)
        → ((a : Awaited) → client.session.awaited ≡ Some a → P (states, went_on [] client.producer (outcome_answered a r.how (served client.session [])))) → R (after (client_posted clock r client) states)
    unfolding client_posted On
    posted_free r client states p told =
        let run : Prog Served = outcome_handled clock r (served client.session []) in
        let x : States × Served = after run states in
        subst R (sym (after_bind run (handled_on clock client.producer) states))
        (on_free client.producer x.1 x.0 (outcome_free (On [] client.producer) clock (framed [] client.producer) (faulty [] client.producer) r (served client.session []) states p told))

-- the same, whether the session handed a frame up or not
module _ (P : States × Handling → Type 0) (clock : ℕ)
    (framed : (before : List Event) (producer : PlainProducer) (f : Frame) (states : States) (s : Served) → first_frame s.session.reader ≡ Some (Ok f) → P (states, went_on before producer s)
    → let x = after (frame_handled clock f (front_of f s)) states in P (x.0, went_on before producer x.1))
    (faulty : (before : List Event) (producer : PlainProducer) (fault : FrameFault) (states : States) (s : Served) → first_frame s.session.reader ≡ Some (Err fault) → P (states, went_on before producer s)
    → P (states, went_on before producer (ended_at (Some fault) s)))
    (passed : (f : Frame) (states : States) (h : Handling) → h.dcp ≡ Some f → P (states, h) → let x = after (frame_answered f (begun h.client.producer)) states in P (x.0, answered h x.1)) where
  pub passes_go : (h : Handling) (states : States) → P (states, h) → P (after (frames_passed clock h) states)
  passes_go = passes_free P clock (λ before producer f states s free. framed before producer f states s) (λ before producer fault states s free. faulty before producer fault states s) passed

  module _ (R : States × Handling → Type 0) (stays : (states : States) (h : Handling) → h.client.session.closed ≡ false → P (states, h) → R (states, h))
      (ends : (states : States) (h : Handling) → h.client.session.closed ≡ true → P (states, h) → R ((after (end_closed h.client.producer) states).0, h)) where
    pub on_ends : (producer : PlainProducer) (s : Served) (states : States) → P (states, went_on [] producer s) → R (after (handled_on clock producer s) states)
    on_ends = on_free P clock (λ before producer f states s free. framed before producer f states s) (λ before producer fault states s free. faulty before producer fault states s) passed R stays ends

    pub fed_ends : (piece : List ℕ) (client : PlainClient) (states : States) → P (states, started client)
        → P (states, went_on [] client.producer (with_bytes (client.session.reader ++ piece) (served client.session []))) → R (after (client_fed clock piece client) states)
    fed_ends = fed_free P clock (λ before producer f states s free. framed before producer f states s) (λ before producer fault states s free. faulty before producer fault states s) passed R stays ends

    pub posted_ends : (r : Resolved) (client : PlainClient) (states : States) → P (states, started client)
        → ((a : Awaited) → client.session.awaited ≡ Some a → P (states, went_on [] client.producer (outcome_answered a r.how (served client.session [])))) → R (after (client_posted clock r client) states)
    posted_ends = posted_free P clock (λ before producer f states s free. framed before producer f states s) (λ before producer fault states s free. faulty before producer fault states s) passed R stays ends

-- the same, where nothing else holds in the end
module _ (P : States × Handling → Type 0) (clock : ℕ)
    (framed : (before : List Event) (producer : PlainProducer) (f : Frame) (states : States) (s : Served) → first_frame s.session.reader ≡ Some (Ok f) → P (states, went_on before producer s)
    → let x = after (frame_handled clock f (front_of f s)) states in P (x.0, went_on before producer x.1))
    (faulty : (before : List Event) (producer : PlainProducer) (fault : FrameFault) (states : States) (s : Served) → first_frame s.session.reader ≡ Some (Err fault) → P (states, went_on before producer s)
    → P (states, went_on before producer (ended_at (Some fault) s)))
    (passed : (f : Frame) (states : States) (h : Handling) → h.dcp ≡ Some f → P (states, h) → let x = after (frame_answered f (begun h.client.producer)) states in P (x.0, answered h x.1))
    (over : (states : States) (h : Handling) → h.client.session.closed ≡ true → P (states, h) → P ((after (end_closed h.client.producer) states).0, h)) where
  pub on_goes : (producer : PlainProducer) (s : Served) (states : States) → P (states, went_on [] producer s) → P (after (handled_on clock producer s) states)
  on_goes = on_ends P clock framed faulty passed P (λ states h e p. p) over

  pub fed_goes : (piece : List ℕ) (client : PlainClient) (states : States) → P (states, started client)
      → P (states, went_on [] client.producer (with_bytes (client.session.reader ++ piece) (served client.session []))) → P (after (client_fed clock piece client) states)
  fed_goes = fed_ends P clock framed faulty passed P (λ states h e p. p) over

  pub posted_goes : (r : Resolved) (client : PlainClient) (states : States) → P (states, started client)
      → ((a : Awaited) → client.session.awaited ≡ Some a → P (states, went_on [] client.producer (outcome_answered a r.how (served client.session [])))) → P (after (client_posted clock r client) states)
  posted_goes = posted_ends P clock framed faulty passed P (λ states h e p. p) over

-- ---- whatever the replies

module _ (replies : VbCall → Option VbReply → Type 0) (calls : ℕ → VbCall → Type 0) (P : Handling → Type 0) (clock : ℕ)
    (framed : (before : List Event) (producer : PlainProducer) (f : Frame) (s : Served) → first_frame s.session.reader ≡ Some (Ok f) → P (went_on before producer s)
    → AlwaysWith replies calls (λ t. P (went_on before producer t)) (frame_handled clock f (front_of f s)))
    (faulty : (before : List Event) (producer : PlainProducer) (fault : FrameFault) (s : Served) → first_frame s.session.reader ≡ Some (Err fault) → P (went_on before producer s)
    → P (went_on before producer (ended_at (Some fault) s)))
    (passed : (f : Frame) (h : Handling) → h.dcp ≡ Some f → P h → AlwaysWith replies calls (λ a. P (answered h a)) (frame_answered f (begun h.client.producer)))
    (over : (h : Handling) → h.client.session.closed ≡ true → P h → AlwaysWith replies calls (λ none. P h) (end_closed h.client.producer)) where
  Was : List Event → PlainProducer → Served → Type 0
  Was before producer s = P (went_on before producer s)

  Came : Turn Handling Handling → Type 0
  Came t = P (handled t)

  behind_keeps : (h : Handling) (a : Answered) → P (answered h a) → AlwaysWith replies calls Came (passed_on clock h a)
  unfolding handled Was Came
  behind_keeps h a p =
      let session : PlainSession = h.client.session in
      let lines : List Event = h.events ++ delivered session.who a in
      let start : P (went_on lines a.end (served session [])) = subst P (sym (begun_so h a)) p in
      always_bind replies calls (Was lines a.end) Came (bytes_handled clock [] (served session [])) (λ s. Done (More (went_on lines a.end s)))
      (bytes_keep replies calls (Was lines a.end) clock (framed lines a.end) (faulty lines a.end) [] (served session []) start (subst P (sym (begins lines a.end session)) start)) (λ s q. q)

  passed_keeps : (h : Handling) (dcp : Option Frame) → h.dcp ≡ dcp → P h → AlwaysWith replies calls Came (passed_by clock h dcp)
  unfolding handled Came
  passed_keeps h None e p = p
  passed_keeps h (Some f) e p =
      always_bind replies calls (λ a. P (answered h a)) Came (frame_answered f (begun h.client.producer)) (passed_on clock h) (passed f h e p) (behind_keeps h)

  one_keeps : (h : Handling) → P h → AlwaysWith replies calls Came (frame_passed clock h)
  unfolding frame_passed
  one_keeps h p = passed_keeps h h.dcp refl p

  next_keeps : (t : Turn Handling Handling) → Came t → AlwaysWith replies calls Came (go_on (frame_passed clock) t)
  unfolding handled Came
  next_keeps (More h) p = one_keeps h p
  next_keeps (Stop h) p = p

  many_keep : (n : ℕ) (h : Handling) → P h → AlwaysWith replies calls Came (repeated n (frame_passed clock) h)
  unfolding handled Came
  many_keep zero h p = p
  many_keep (suc n) h p = always_bind replies calls Came Came (repeated n (frame_passed clock) h) (go_on (frame_passed clock)) (many_keep n h p) next_keeps

  came_keeps : (t : Turn Handling Handling) → Came t → AlwaysWith replies calls P (came_to t)
  unfolding handled Came
  came_keeps (More h) p = p
  came_keeps (Stop h) p = p

  pub passes_keep : (h : Handling) → P h → AlwaysWith replies calls P (frames_passed clock h)
  unfolding frames_passed
  passes_keep h p =
      let n : ℕ = suc (length h.client.session.reader) in
      always_bind replies calls Came P (repeated n (frame_passed clock) h) came_to (many_keep n h p) came_keeps

  closed_keeps : (h : Handling) (closed : Bool) → h.client.session.closed ≡ closed → P h → AlwaysWith replies calls P (closed_if closed h)
  closed_keeps h false e p = p
  closed_keeps h true e p = always_bind replies calls (λ none. P h) P (end_closed h.client.producer) (λ none. Done h) (over h e p) (λ none q. q)

  pub on_keeps : (producer : PlainProducer) (s : Served) → P (went_on [] producer s) → AlwaysWith replies calls P (handled_on clock producer s)
  on_keeps producer s p =
      always_bind replies calls P P (frames_passed clock (went_on [] producer s)) (λ h. closed_if h.client.session.closed h) (passes_keep (went_on [] producer s) p)
      (λ h q. closed_keeps h h.client.session.closed refl q)

  -- bytes
  pub fed_keeps : (piece : List ℕ) (client : PlainClient) → P (started client) → P (went_on [] client.producer (with_bytes (client.session.reader ++ piece) (served client.session [])))
      → AlwaysWith replies calls P (client_fed clock piece client)
  unfolding client_fed Was
  fed_keeps piece client p more =
      always_bind replies calls (Was [] client.producer) P (bytes_handled clock piece (served client.session [])) (handled_on clock client.producer)
      (bytes_keep replies calls (Was [] client.producer) clock (framed [] client.producer) (faulty [] client.producer) piece (served client.session []) p more) (on_keeps client.producer)

  -- an outcome
  pub posted_keeps : (r : Resolved) (client : PlainClient) → P (started client)
      → ((a : Awaited) → client.session.awaited ≡ Some a → P (went_on [] client.producer (outcome_answered a r.how (served client.session [])))) → AlwaysWith replies calls P (client_posted clock r client)
  unfolding client_posted Was
  posted_keeps r client p told =
      always_bind replies calls (Was [] client.producer) P (outcome_handled clock r (served client.session [])) (handled_on clock client.producer)
      (outcome_keeps replies calls (Was [] client.producer) clock (framed [] client.producer) (faulty [] client.producer) r (served client.session []) p told) (on_keeps client.producer)

-- ---- the frames that are handed up, by whether there is one

-- where none is, nothing is done
pub passes_none : (clock : ℕ) (h : Handling) → h.dcp ≡ None → frames_passed clock h ≡ Done h
unfolding frame_passed onward
passes_none clock h none = first_passed clock h ∙ ap (λ dcp. bind (passed_by clock h dcp) (onward (frames_passed clock))) none

-- a frame is answered, and all goes on behind it
pub passes_frame : (clock : ℕ) (h : Handling) (f : Frame) → h.dcp ≡ Some f
    → frames_passed clock h ≡ bind (frame_answered f (begun h.client.producer))
    (λ a. bind (bytes_handled clock [] (served h.client.session [])) (λ s. frames_passed clock (went_on (h.events ++ delivered h.client.session.who a) a.end s)))
unfolding frame_passed onward
passes_frame clock h f is =
    let later : Turn Handling Handling → Prog Handling = onward (frames_passed clock) in
    let run : Prog Answered = frame_answered f (begun h.client.producer) in
    let goes : Prog Served = bytes_handled clock [] (served h.client.session []) in
    let next : Answered → Served → Handling = λ a s. went_on (h.events ++ delivered h.client.session.who a) a.end s in
    first_passed clock h ∙ ap (λ dcp. bind (passed_by clock h dcp) later) is ∙ bind_assoc run (passed_on clock h) later
    ∙ bind_same run (λ a. bind (passed_on clock h a) later) (λ a. bind goes (λ s. frames_passed clock (next a s)))
    (always_any (λ a. bind (passed_on clock h a) later ≡ bind goes (λ s. frames_passed clock (next a s))) run (λ a. bind_assoc goes (λ s. Done (More (next a s))) later))

-- where the session handed none up, and the connection is open, all is done
pub on_none : (clock : ℕ) (producer : PlainProducer) (s : Served) → s.dcp ≡ None → s.session.closed ≡ false → handled_on clock producer s ≡ Done (went_on [] producer s)
on_none clock producer s none live =
    ap (λ prog. bind prog (λ h. closed_if h.client.session.closed h)) (passes_none clock (went_on [] producer s) none) ∙ ap (λ b. closed_if b (went_on [] producer s)) live
