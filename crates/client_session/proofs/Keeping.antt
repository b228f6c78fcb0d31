-- what holds behind all turns, where each frame and each fault keeps it
use Rattle.std.proofs.Common.{◌≡◌, ℕ, List, ◌++◌, drop, refl, sym, ap, ◌∙◌, subst, Option, Some, None, Ok, Err}
use Rattle.std.specs.Prelude.{◌==◌}
use Rattle.mcbp_frame.specs.Frames.{first_frame, frame_len}
use Rattle.mcbp_frame.specs.declared.frame.Frame.{Frame}
use Rattle.mcbp_frame.specs.declared.frame.FrameFault.{FrameFault}
use Rattle.vb_calls.specs.declared.calls.Resolved.{Resolved}
use Rattle.vb_calls.specs.declared.calls.VbCall.{VbCall}
use Rattle.vb_calls.specs.declared.calls.VbReply.{VbReply}
use Rattle.vb_calls.specs.Programs.{Prog, Done, bind, after, AnyCall, Always, AlwaysWith}
use Rattle.vb_calls.specs.States.{States}
use Rattle.vb_calls.proofs.Conduct.{always_bind, always_both, after_always}
use Rattle.vb_calls.proofs.Readings.{after_bind}
use Rattle.client_session.specs.declared.session.Awaited.{Awaited}
use Rattle.client_session.specs.Serving.{Served, frame_handled, ended_at, turns_handled, bytes_handled, with_bytes, outcome_answered, outcome_by, outcome_handled}
use Rattle.client_session.proofs.Conduct.{Stays, frame_stays, either}
use Rattle.client_session.proofs.Turns.{turns_waiting, turns_none, turns_fault, turns_frame, by_turns}

-- a connection in front of its frame
abbrev pub front_of : Frame → Served → Served
front_of f s = with_bytes (drop (frame_len f) s.session.reader) s

stays_front : (clock : ℕ) (f : Frame) (s : Served) → Always AnyCall (Stays (front_of f s)) (frame_handled clock f (front_of f s))
stays_front clock f s = frame_stays (front_of f s) clock f (front_of f s) (record { who = refl; reader = refl; closed = refl })

-- ---- whatever the replies

module _ (replies : VbCall → Option VbReply → Type 0) (calls : ℕ → VbCall → Type 0) (P : Served → Type 0) (clock : ℕ)
    (framed : (f : Frame) (s : Served) → first_frame s.session.reader ≡ Some (Ok f) → P s → AlwaysWith replies calls P (frame_handled clock f (front_of f s)))
    (faulty : (fault : FrameFault) (s : Served) → first_frame s.session.reader ≡ Some (Err fault) → P s → P (ended_at (Some fault) s)) where
  Keeps : Served → Type 0
  Keeps s = P s → AlwaysWith replies calls P (turns_handled clock s)

  keeps_done : (s t : Served) → turns_handled clock s ≡ Done t → P t → AlwaysWith replies calls P (turns_handled clock s)
  keeps_done s t e p = subst (AlwaysWith replies calls P) (sym e) p

  keeps_frame : (s : Served) (f : Frame) → turns_handled clock s ≡ bind (frame_handled clock f (front_of f s)) (turns_handled clock) → first_frame s.session.reader ≡ Some (Ok f)
      → ((t : Served) → t.session.reader ≡ drop (frame_len f) s.session.reader → Keeps t) → P s → AlwaysWith replies calls P (turns_handled clock s)
  unfolding Keeps
  keeps_frame s f turns first later p =
      let run : Prog Served = frame_handled clock f (front_of f s) in
      subst (AlwaysWith replies calls P) (sym turns)
      (always_bind replies calls (λ t. P t × Stays (front_of f s) t) P run (turns_handled clock)
      (always_both replies calls P (Stays (front_of f s)) run (framed f s first p) (stays_front clock f s))
      (λ t h. later t h.1.reader h.0))

  keeps : (s : Served) → Keeps s
  unfolding Keeps
  keeps = by_turns
      Keeps
      (λ s w p. keeps_done s s (turns_waiting clock s w) p)
      (λ s w e p. keeps_done s s (turns_none clock s w e) p)
      (λ s fault w e p. keeps_done s (ended_at (Some fault) s) (turns_fault clock s fault w e) (faulty fault s e p))
      (λ s f w e later p. keeps_frame s f (turns_frame clock s f w e) e later p)

  pub turns_keep : (s : Served) → P s → AlwaysWith replies calls P (turns_handled clock s)
  unfolding Keeps
  turns_keep s p = keeps s p

  pub bytes_keep : (piece : List ℕ) (s : Served) → P s → P (with_bytes (s.session.reader ++ piece) s) → AlwaysWith replies calls P (bytes_handled clock piece s)
  unfolding bytes_handled
  bytes_keep piece s p more =
      either (AlwaysWith replies calls P) s.session.closed (Done s) (turns_handled clock (with_bytes (s.session.reader ++ piece) s)) p
      (turns_keep (with_bytes (s.session.reader ++ piece) s) more)

  outcome_keeps_by : (r : Resolved) (s : Served) (o : Option Awaited) → s.session.awaited ≡ o → P s → ((a : Awaited) → s.session.awaited ≡ Some a → P (outcome_answered a r.how s))
      → AlwaysWith replies calls P (outcome_by clock r s o)
  outcome_keeps_by r s None e p told = p
  outcome_keeps_by r s (Some a) e p told =
      either (AlwaysWith replies calls P) (a.waiter == r.waiter) (turns_handled clock (outcome_answered a r.how s)) (Done s) (turns_keep (outcome_answered a r.how s) (told a e)) p

  pub outcome_keeps : (r : Resolved) (s : Served) → P s → ((a : Awaited) → s.session.awaited ≡ Some a → P (outcome_answered a r.how s)) → AlwaysWith replies calls P (outcome_handled clock r s)
  unfolding outcome_handled
  outcome_keeps r s p told = outcome_keeps_by r s s.session.awaited refl p told

-- ---- over the plain states

module _ (P : States × Served → Type 0) (clock : ℕ)
    (framed : (f : Frame) (states : States) (s : Served) → first_frame s.session.reader ≡ Some (Ok f) → P (states, s) → P (after (frame_handled clock f (front_of f s)) states))
    (faulty : (fault : FrameFault) (states : States) (s : Served) → first_frame s.session.reader ≡ Some (Err fault) → P (states, s) → P (states, ended_at (Some fault) s)) where
  Goes : Served → Type 0
  Goes s = (states : States) → P (states, s) → P (after (turns_handled clock s) states)

  goes_done : (s t : Served) (states : States) → turns_handled clock s ≡ Done t → P (states, t) → P (after (turns_handled clock s) states)
  goes_done s t states e p = subst (λ prog. P (after prog states)) (sym e) p

  goes_frame : (s : Served) (f : Frame) (states : States) → turns_handled clock s ≡ bind (frame_handled clock f (front_of f s)) (turns_handled clock) → first_frame s.session.reader ≡ Some (Ok f)
      → ((t : Served) → t.session.reader ≡ drop (frame_len f) s.session.reader → Goes t) → P (states, s) → P (after (turns_handled clock s) states)
  unfolding Goes
  goes_frame s f states turns first later p =
      let run : Prog Served = frame_handled clock f (front_of f s) in
      let x : States × Served = after run states in
      let stays : Stays (front_of f s) x.1 = after_always AnyCall (Stays (front_of f s)) run states (stays_front clock f s) in
      subst P (sym (ap (λ prog. after prog states) turns ∙ after_bind run (turns_handled clock) states)) (later x.1 stays.reader x.0 (framed f states s first p))

  goes : (s : Served) → Goes s
  unfolding Goes
  goes = by_turns
      Goes
      (λ s w states p. goes_done s s states (turns_waiting clock s w) p)
      (λ s w e states p. goes_done s s states (turns_none clock s w e) p)
      (λ s fault w e states p. goes_done s (ended_at (Some fault) s) states (turns_fault clock s fault w e) (faulty fault states s e p))
      (λ s f w e later states p. goes_frame s f states (turns_frame clock s f w e) e later p)

  pub turns_go : (s : Served) (states : States) → P (states, s) → P (after (turns_handled clock s) states)
  unfolding Goes
  turns_go s states p = goes s states p

  pub bytes_go : (piece : List ℕ) (s : Served) (states : States) → P (states, s) → P (states, with_bytes (s.session.reader ++ piece) s) → P (after (bytes_handled clock piece s) states)
  unfolding bytes_handled
  bytes_go piece s states p more =
      either (λ prog. P (after prog states)) s.session.closed (Done s) (turns_handled clock (with_bytes (s.session.reader ++ piece) s)) p
      (turns_go (with_bytes (s.session.reader ++ piece) s) states more)

  outcome_goes_by : (r : Resolved) (s : Served) (states : States) (o : Option Awaited) → s.session.awaited ≡ o → P (states, s)
      → ((a : Awaited) → s.session.awaited ≡ Some a → P (states, outcome_answered a r.how s)) → P (after (outcome_by clock r s o) states)
  outcome_goes_by r s states None e p told = p
  outcome_goes_by r s states (Some a) e p told =
      either (λ prog. P (after prog states)) (a.waiter == r.waiter) (turns_handled clock (outcome_answered a r.how s)) (Done s) (turns_go (outcome_answered a r.how s) states (told a e)) p

  pub outcome_goes : (r : Resolved) (s : Served) (states : States) → P (states, s) → ((a : Awaited) → s.session.awaited ≡ Some a → P (states, outcome_answered a r.how s))
      → P (after (outcome_handled clock r s) states)
  unfolding outcome_handled
  outcome_goes r s states p told = outcome_goes_by r s states s.session.awaited refl p told
