-- what holds behind all that a client's connection does with bytes and outcomes, where no frame is served while one that was handed up is to be answered; and none is at the end
use Rattle.std.specs.Prelude.{◌≡◌, ◌<◌, ◌++◌, ◌==◌, if◌then◌else◌}
use Rattle.transcript_law.proofs.Words.{ℕ, zero, suc, Bool, true, false, List, [], drop, append-nil, refl, sym, ap, ◌∙◌, subst, arith, Option, Some, None, Ok, Err, Event, Frame, FrameFault, PlainProducer, States, after, after_bind, Prog, Done, Turn, More}
use Rattle.client_session.proofs.{Conduct.{Stays, either, frame_stays}, Keeping.{front_of}, Turns.{by_turns, turns_fault, turns_frame, turns_none, turns_waiting}}
use Rattle.client_session.specs.Serving.{PlainSession, Served, ended_at, is_held, outcome_answered, outcome_by, served, with_bytes}
unfoldable use Rattle.client_session.specs.Serving.{bytes_handled, frame_handled, outcome_handled, turns_handled}
use Rattle.client_session.specs.declared.session.Awaited.{Awaited}
use Rattle.dcp_producer.specs.{Ending.{end_closed}, Producers.{Served as Answered, begun}, Serving.{frame_answered}}
use Rattle.mcbp_frame.specs.Frames.{first_frame, frame_len}
use Rattle.node_core.proofs.{ClientTurns.{first_passed, lessens, to_do}, Handlings.{answered}}
unfoldable use Rattle.node_core.proofs.Turning.{Fewer, onward}
use Rattle.node_core.specs.Clients.{Handling, PlainClient, closed_if, delivered, frames_passed, handled_on, passed_by, passed_on, went_on}
unfoldable use Rattle.node_core.specs.Clients.{client_fed, client_posted, frame_passed}
use Rattle.vb_calls.proofs.Conduct.{after_always}
use Rattle.vb_calls.specs.Programs.{AnyCall}
use Rattle.vb_calls.specs.declared.calls.Resolved.{Resolved}

module _ (P : States × Handling → Type 0) (clock : ℕ)
    (framed : (before : List Event) (producer : PlainProducer) (f : Frame) (states : States) (s : Served) → is_held s ≡ false → first_frame s.session.reader ≡ Some (Ok f) → P (states, went_on before producer s)
    → let x = after (frame_handled clock f (front_of f s)) states in P (x.0, went_on before producer x.1))
    (faulty : (before : List Event) (producer : PlainProducer) (fault : FrameFault) (states : States) (s : Served) → is_held s ≡ false → first_frame s.session.reader ≡ Some (Err fault) → P (states, went_on before producer s)
    → P (states, went_on before producer (ended_at (Some fault) s)))
    (passed : (f : Frame) (states : States) (h : Handling) → h.dcp ≡ Some f → P (states, h) → let x = after (frame_answered f (begun h.client.producer)) states in P (x.0, answered h x.1))
    (over : (states : States) (h : Handling) → h.dcp ≡ None → h.client.session.closed ≡ true → P (states, h) → P ((after (end_closed h.client.producer) states).0, h)) where
  -- ---- the session's turns

  module _ (before : List Event) (producer : PlainProducer) where
    On : States × Served → Type 0
    On x = P (x.0, went_on before producer x.1)

    Goes : Served → Type 0
    Goes s = (states : States) → On (states, s) → On (after (turns_handled clock s) states)

    goes_done : (s t : Served) (states : States) → turns_handled clock s ≡ Done t → On (states, t) → On (after (turns_handled clock s) states)
    goes_done s t states e p = subst (λ prog. On (after prog states)) (sym e) p

    goes_frame : (s : Served) (f : Frame) (states : States) → is_held s ≡ false → first_frame s.session.reader ≡ Some (Ok f)
        → ((t : Served) → t.session.reader ≡ drop (frame_len f) s.session.reader → Goes t) → On (states, s) → On (after (turns_handled clock s) states)
    unfolding Goes On
    goes_frame s f states free first later p =
        let run : Prog Served = frame_handled clock f (front_of f s) in
        let x : States × Served = after run states in
        let stays : Stays (front_of f s) x.1 = after_always AnyCall (Stays (front_of f s)) run states (frame_stays (front_of f s) clock f (front_of f s) (record { who = refl; reader = refl; closed = refl })) in
        subst On (sym (ap (λ prog. after prog states) (turns_frame clock s f free first) ∙ after_bind run (turns_handled clock) states)) (later x.1 stays.reader x.0 (framed before producer f states s free first p))

    goes : (s : Served) → Goes s
    unfolding Goes On
    goes = by_turns
        Goes
        (λ s w states p. goes_done s s states (turns_waiting clock s w) p)
        (λ s w e states p. goes_done s s states (turns_none clock s w e) p)
        (λ s fault w e states p. goes_done s (ended_at (Some fault) s) states (turns_fault clock s fault w e) (faulty before producer fault states s w e p))
        (λ s f w e later states p. goes_frame s f states w e later p)

    turns_go : (s : Served) (states : States) → P (states, went_on before producer s) → let x = after (turns_handled clock s) states in P (x.0, went_on before producer x.1)
    unfolding Goes On
    turns_go s states p = goes s states p

    -- bytes for a session that is open, or not
    bytes_go : (piece : List ℕ) (s : Served) (states : States) → P (states, went_on before producer s) → P (states, went_on before producer (with_bytes (s.session.reader ++ piece) s))
        → let x = after (bytes_handled clock piece s) states in P (x.0, went_on before producer x.1)
    unfolding bytes_handled
    bytes_go piece s states p more =
        either (λ prog. let x = after prog states in P (x.0, went_on before producer x.1)) s.session.closed (Done s) (turns_handled clock (with_bytes (s.session.reader ++ piece) s)) p
        (turns_go (with_bytes (s.session.reader ++ piece) s) states more)

    -- for one that is open
    open_go : (piece : List ℕ) (s : Served) (states : States) → s.session.closed ≡ false → P (states, went_on before producer (with_bytes (s.session.reader ++ piece) s))
        → let x = after (bytes_handled clock piece s) states in P (x.0, went_on before producer x.1)
    unfolding bytes_handled
    open_go piece s states alive more =
        subst (λ b. let x = after (if b then Done s else turns_handled clock (with_bytes (s.session.reader ++ piece) s)) states in P (x.0, went_on before producer x.1)) (sym alive)
        (turns_go (with_bytes (s.session.reader ++ piece) s) states more)

  -- ---- frames that are handed up

  -- it holds, and no frame is to be answered
  abbrev pub AtRest : States × Handling → Type 0
  AtRest x = P x × (x.1.dcp ≡ None)

  -- behind an answer the session begins with no byte more, and no line
  begun_so : (h : Handling) (a : Answered) → went_on (h.events ++ delivered h.client.session.who a) a.end (served h.client.session []) ≡ answered h a
  begun_so h a = λ i. record (answered h a) { events = append-nil (h.events ++ delivered h.client.session.who a) i }

  begins : (events : List Event) (producer : PlainProducer) (session : PlainSession) → went_on events producer (with_bytes (session.reader ++ []) (served session [])) ≡ went_on events producer (served session [])
  begins events producer session = λ i. went_on events producer (with_bytes (append-nil session.reader i) (served session []))

  -- one frame, and what the session does behind it
  record Next (h : Handling) (x : States × Turn Handling Handling) : Type 0 where
    next : Handling
    goes_on : x.1 ≡ More next
    holds : P (x.0, next)

  passed_go : (f : Frame) (h : Handling) (states : States) → h.dcp ≡ Some f → P (states, h) → Next h (after (passed_by clock h (Some f)) states)
  passed_go f h states e p =
      let run : Prog Answered = frame_answered f (begun h.client.producer) in
      let x : States × Answered = after run states in
      let session : PlainSession = h.client.session in
      let lines : List Event = h.events ++ delivered session.who x.1 in
      let prog : Prog Served = bytes_handled clock [] (served session []) in
      let start : P (x.0, went_on lines x.1.end (served session [])) = subst (λ g. P (x.0, g)) (sym (begun_so h x.1)) (passed f states h e p) in
      let more : P (x.0, went_on lines x.1.end (with_bytes (session.reader ++ []) (served session []))) = subst (λ g. P (x.0, g)) (sym (begins lines x.1.end session)) start in
      let y : States × Served = after prog x.0 in
      let went : P (y.0, went_on lines x.1.end y.1) = bytes_go lines x.1.end [] (served session []) x.0 start more in
      subst (Next h) (sym (after_bind run (passed_on clock h) states ∙ after_bind prog (λ s. Done (More (went_on lines x.1.end s))) x.0))
      (record { next = went_on lines x.1.end y.1; goes_on = refl; holds = went })

  -- all of them
  many_go : (n : ℕ) (h : Handling) (states : States) → to_do h < n → P (states, h) → AtRest (after (frames_passed clock h) states)
  unfolding onward frame_passed Fewer
  many_go zero h states low p = absurd (omega (arith, low))
  many_go (suc n) h states low p =
      subst AtRest (sym (ap (λ prog. after prog states) (first_passed clock h) ∙ after_bind (frame_passed clock h) (onward (frames_passed clock)) states))
      (by (λ g st less q. many_go n g st (omega (arith, less, low)) q) h.dcp refl)
    where
      by : ((g : Handling) (st : States) → to_do g < to_do h → P (st, g) → AtRest (after (frames_passed clock g) st)) → (dcp : Option Frame) → h.dcp ≡ dcp
          → let x = after (frame_passed clock h) states in AtRest (after (onward (frames_passed clock) x.1) x.0)
      by again None e = subst (λ d. let x = after (passed_by clock h d) states in AtRest (after (onward (frames_passed clock) x.1) x.0)) (sym e) (p, e)
      by again (Some f) e =
          let one : Next h (after (passed_by clock h (Some f)) states) = passed_go f h states e p in
          let x : States × Turn Handling Handling = after (passed_by clock h (Some f)) states in
          let less : Fewer to_do h x.1 = subst (λ d. Fewer to_do h (after (passed_by clock h d) states).1) e (after_always AnyCall (Fewer to_do h) (frame_passed clock h) states ((lessens clock).fewer h)) in
          subst (λ d. let y = after (passed_by clock h d) states in AtRest (after (onward (frames_passed clock) y.1) y.0)) (sym e)
          (subst (λ t. AtRest (after (onward (frames_passed clock) t) x.0)) (sym one.goes_on) (again one.next x.0 (subst (Fewer to_do h) one.goes_on less) one.holds))

  -- a connection that was closed
  closed_goes : (h : Handling) (states : States) (closed : Bool) → h.client.session.closed ≡ closed → AtRest (states, h) → AtRest (after (closed_if closed h) states)
  closed_goes h states false e p = p
  closed_goes h states true e p = subst AtRest (sym (after_bind (end_closed h.client.producer) (λ none. Done h) states)) (over states h p.1 e p.0, p.1)

  on_goes : (producer : PlainProducer) (s : Served) (states : States) → P (states, went_on [] producer s) → AtRest (after (handled_on clock producer s) states)
  on_goes producer s states p =
      let run : Prog Handling = frames_passed clock (went_on [] producer s) in
      let x : States × Handling = after run states in
      subst AtRest (sym (after_bind run (λ h. closed_if h.client.session.closed h) states))
      (closed_goes x.1 x.0 x.1.client.session.closed refl (many_go (suc (to_do (went_on [] producer s))) (went_on [] producer s) states (omega arith) p))

  -- ---- bytes, and an outcome

  pub fed_goes : (piece : List ℕ) (client : PlainClient) (states : States) → client.session.closed ≡ false
      → P (states, went_on [] client.producer (with_bytes (client.session.reader ++ piece) (served client.session []))) → AtRest (after (client_fed clock piece client) states)
  unfolding client_fed
  fed_goes piece client states alive more =
      let run : Prog Served = bytes_handled clock piece (served client.session []) in
      let x : States × Served = after run states in
      subst AtRest (sym (after_bind run (handled_on clock client.producer) states)) (on_goes client.producer x.1 x.0 (open_go [] client.producer piece (served client.session []) states alive more))

  outcome_goes : (producer : PlainProducer) (r : Resolved) (s : Served) (states : States) (a : Awaited) → s.session.awaited ≡ Some a → (a.waiter == r.waiter) ≡ true
      → P (states, went_on [] producer (outcome_answered a r.how s)) → let x = after (outcome_by clock r s s.session.awaited) states in P (x.0, went_on [] producer x.1)
  outcome_goes producer r s states a waits same told =
      subst (λ o. let x = after (outcome_by clock r s o) states in P (x.0, went_on [] producer x.1)) (sym waits)
      (subst (λ b. let x = after (if b then turns_handled clock (outcome_answered a r.how s) else Done s) states in P (x.0, went_on [] producer x.1)) (sym same) (turns_go [] producer (outcome_answered a r.how s) states told))

  pub posted_goes : (r : Resolved) (client : PlainClient) (states : States) (a : Awaited) → client.session.awaited ≡ Some a → (a.waiter == r.waiter) ≡ true
      → P (states, went_on [] client.producer (outcome_answered a r.how (served client.session []))) → AtRest (after (client_posted clock r client) states)
  unfolding client_posted outcome_handled
  posted_goes r client states a waits same told =
      let run : Prog Served = outcome_handled clock r (served client.session []) in
      let x : States × Served = after run states in
      subst AtRest (sym (after_bind run (handled_on clock client.producer) states))
      (on_goes client.producer x.1 x.0 (outcome_goes client.producer r (served client.session []) states a waits same told))
