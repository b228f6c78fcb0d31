-- what a client's session keeps behind a call: where it is open, and awaits nothing, less than a frame
use Rattle.std.specs.Prelude.{◌≡◌, ◌<◌, ◌++◌}
use Rattle.transcript_law.proofs.Words.{ℕ, zero, suc, Bool, true, false, List, [], refl, sym, ap, ◌∙◌, subst, inl, inr, arith, Option, Some, None, Frame, PlainProducer, PlainSession}
use Rattle.client_session.proofs.{Chunks.{kept, settled}, Turns.{not_held}}
use Rattle.client_session.specs.{Conduct.{Waits}, Serving.{Served, bytes_handled, is_held, outcome_handled, served}}
use Rattle.client_session.specs.declared.session.Awaited.{Awaited}
use Rattle.dcp_producer.specs.{Ending.{end_closed}, Producers.{Served as Answered, begun}, Serving.{frame_answered}}
use Rattle.mcbp_frame.specs.Frames.{first_frame}
use Rattle.node_core.proofs.{ClientTurns.{first_passed, lessens, to_do}, Turning.{always_any}}
unfoldable use Rattle.node_core.proofs.Turning.{Fewer, onward}
use Rattle.node_core.specs.Clients.{Handling, PlainClient, closed_if, delivered, frames_passed, handled_on, passed_by, passed_on, went_on}
unfoldable use Rattle.node_core.specs.Clients.{client_fed, client_posted, frame_passed}
use Rattle.vb_calls.proofs.Conduct.{always_both, always_bind}
use Rattle.vb_calls.specs.Programs.{Always, AnyCall, AnyReply, Done, More, Stop, Turn}
use Rattle.vb_calls.specs.declared.calls.Resolved.{Resolved}

-- it is closed, or awaits an outcome, or its bytes begin with no whole frame, and with no fault
abbrev pub Keeps : PlainSession → Type 0
Keeps session = session.closed ≡ false → session.awaited ≡ None → first_frame session.reader ≡ None

-- as it is when a call begins
starts : (session : PlainSession) → Keeps session → Waits (served session [])
starts session keeps = by session.closed refl
  where
    by : (closed : Bool) → session.closed ≡ closed → Waits (served session [])
    by true e = inl e
    by false e = waits session.awaited refl
      where
        waits : (o : Option Awaited) → session.awaited ≡ o → Waits (served session [])
        waits None f = inr (inr (keeps e f))
        waits (Some a) f = inr (inl (ap is_held (λ i. record (served session []) { session = record session { awaited = f i } })))

-- a session inside a call, with the frame that it handed up
Behind : Handling → Type 0
Behind h = Waits (record { session = h.client.session; events = []; dcp = h.dcp })

-- and where no frame is to be answered
Rests : Handling → Type 0
Rests h = Keeps h.client.session

-- behind a turn the session goes on, or rests
Turns : Turn Handling Handling → Type 0
Turns (More h) = Behind h
Turns (Stop h) = Rests h

at_rest : (h : Handling) → h.dcp ≡ None → Behind h → Rests h
unfolding Behind Rests
at_rest h none (inl closed) = λ live free. let z : true ≡ false = sym closed ∙ live in cc
at_rest h none (inr (inl held)) = λ live free. let z : true ≡ false = sym held ∙ not_held (record { session = h.client.session; events = []; dcp = h.dcp }) free none in cc
at_rest h none (inr (inr less)) = λ live free. less

module _ (clock : ℕ) where
  -- a frame that is handed up is answered, and the session goes on behind that
  one_passes : (h : Handling) (dcp : Option Frame) → h.dcp ≡ dcp → Behind h → Always AnyCall Turns (passed_by clock h dcp)
  unfolding Behind Turns
  one_passes h None e waits = at_rest h e waits
  one_passes h (Some f) e waits =
      always_bind AnyReply AnyCall (λ (a : Answered). Unit {0}) Turns (frame_answered f (begun h.client.producer)) (passed_on clock h) (always_any (λ (a : Answered). Unit {0}) (frame_answered f (begun h.client.producer)) (λ a. tt))
      (λ a any. always_bind AnyReply AnyCall Waits Turns (bytes_handled clock [] (served h.client.session [])) (λ s. Done (More (went_on (h.events ++ delivered h.client.session.who a) a.end s))) (kept clock [] (served h.client.session [])) (λ s so. so))

  -- all of them, one after the other
  passes : (n : ℕ) (h : Handling) → to_do h < n → Behind h → Always AnyCall Rests (frames_passed clock h)
  unfolding Turns Fewer onward frame_passed
  passes zero h low waits = absurd (omega (arith, low))
  passes (suc n) h low waits =
      subst (Always AnyCall Rests) (sym (first_passed clock h))
      (always_bind AnyReply AnyCall (λ t. Turns t × Fewer to_do h t) Rests (frame_passed clock h) (onward (frames_passed clock))
      (always_both AnyReply AnyCall Turns (Fewer to_do h) (frame_passed clock h) (one_passes h h.dcp refl waits) ((lessens clock).fewer h)) (λ t so. by (λ g less b. passes n g (omega (arith, less, low)) b) t so.0 so.1))
    where
      by : ((g : Handling) → to_do g < to_do h → Behind g → Always AnyCall Rests (frames_passed clock g)) → (t : Turn Handling Handling) → Turns t → Fewer to_do h t → Always AnyCall Rests (onward (frames_passed clock) t)
      by again (More g) went less = again g less went
      by again (Stop g) went less = went

  -- a connection that was closed
  closes : (h : Handling) (closed : Bool) → Rests h → Always AnyCall Rests (closed_if closed h)
  closes h false r = r
  closes h true r = always_bind AnyReply AnyCall (λ none. Unit {0}) Rests (end_closed h.client.producer) (λ none. Done h) (always_any (λ none. Unit {0}) (end_closed h.client.producer) (λ none. tt)) (λ none any. r)

  goes_on : (producer : PlainProducer) (s : Served) → Waits s → Always AnyCall Rests (handled_on clock producer s)
  unfolding Behind
  goes_on producer s waits =
      always_bind AnyReply AnyCall Rests Rests (frames_passed clock (went_on [] producer s)) (λ h. closed_if h.client.session.closed h)
      (passes (suc (to_do (went_on [] producer s))) (went_on [] producer s) (omega arith) waits) (λ h r. closes h h.client.session.closed r)

  -- bytes
  pub fed_keeps : (piece : List ℕ) (client : PlainClient) → Always AnyCall (λ (h : Handling). Keeps h.client.session) (client_fed clock piece client)
  unfolding client_fed Rests
  fed_keeps piece client =
      always_bind AnyReply AnyCall Waits Rests (bytes_handled clock piece (served client.session [])) (handled_on clock client.producer) (kept clock piece (served client.session [])) (λ s waits. goes_on client.producer s waits)

  -- an outcome
  pub outcome_keeps : (r : Resolved) (client : PlainClient) → Keeps client.session → Always AnyCall (λ (h : Handling). Keeps h.client.session) (client_posted clock r client)
  unfolding client_posted Rests
  outcome_keeps r client keeps =
      always_bind AnyReply AnyCall Waits Rests (outcome_handled clock r (served client.session [])) (handled_on clock client.producer)
      (settled clock r (served client.session []) (starts client.session keeps)) (λ s waits. goes_on client.producer s waits)
