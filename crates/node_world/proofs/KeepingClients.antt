-- a client's producer keeps its place, and its session who it is
use Rattle.std.proofs.Common.{◌≡◌, ℕ, List, refl, ◌∙◌}
use Rattle.mcbp_frame.specs.declared.frame.Frame.{Frame}
use Rattle.client_session.specs.declared.session.Who.{Who}
use Rattle.client_session.specs.Serving.{Served, frame_handled}
use Rattle.client_session.proofs.Conduct.{Stays, frame_stays}
use Rattle.client_session.proofs.Keeping.{front_of}
use Rattle.dcp_producer.specs.declared.desk.Desk.{Desk}
use Rattle.dcp_producer.specs.declared.halt.Halt.{Halt}
use Rattle.dcp_producer.specs.Ending.{end_closed}
use Rattle.dcp_producer.specs.Producers.{PlainProducer, Served as Answered, begun}
use Rattle.dcp_producer.specs.Pulling.{frames_put}
use Rattle.dcp_producer.specs.Serving.{frame_answered}
use Rattle.vb_events.specs.declared.event.Event.{Event}
use Rattle.vb_calls.specs.Jobs.{Ended, after_reads, IsRead}
use Rattle.vb_calls.specs.Shelves.{Shelves}
use Rattle.vb_calls.specs.Programs.{Prog, Done, Call, after, Always, AnyCall, AnyReply}
use Rattle.vb_calls.specs.States.{States}
use Rattle.vb_calls.specs.declared.calls.Resolved.{Resolved}
use Rattle.vb_calls.proofs.Conduct.{after_always, always_so}
use Rattle.vb_calls.proofs.JobConduct.{always_bind_job}
use Rattle.vb_calls.proofs.JobReadings.{reads_always}
use Rattle.node_core.specs.Clients.{ClientPulled, Handling, PlainClient, client_fed, client_posted, client_pull, client_pulled, went_on}
use Rattle.node_core.proofs.Handlings.{answered, fed_keeps, posted_keeps}
use Rattle.node_world.proofs.Keeping.{all_keep, frame_keeps}

-- whatever a program does
always_any : {A : Type 0} (answers : A → Type 0) (prog : Prog A) → ((a : A) → answers a) → Always AnyCall answers prog
always_any answers (Done a) so = so a
always_any answers (Call v call next) so = (tt, λ reply any. always_any answers (next reply) so)

module _ (who : Who) (desk : Desk) where
  -- of this connection, and at this desk
  pub record Place (client : PlainClient) : Type 0 where
    pub is : client.session.who ≡ who
    pub at : client.producer.desk ≡ desk

  abbrev Keeps : Handling → Type 0
  Keeps h = Place h.client

  session_keeps : (clock : ℕ) (before : List Event) (producer : PlainProducer) (f : Frame) (s : Served) → Keeps (went_on before producer s) → Always AnyCall (λ t. Keeps (went_on before producer t)) (frame_handled clock f (front_of f s))
  session_keeps clock before producer f s place =
      always_so AnyReply AnyCall (Stays (front_of f s)) (λ t. Keeps (went_on before producer t)) (frame_handled clock f (front_of f s)) (λ t stays. record { is = stays.who ∙ place.is; at = place.at })
      (frame_stays (front_of f s) clock f (front_of f s) (record { who = refl; reader = refl; closed = refl }))

  producer_keeps : (f : Frame) (h : Handling) → Keeps h → Always AnyCall (λ a. Keeps (answered h a)) (frame_answered f (begun h.client.producer))
  producer_keeps f h place =
      always_so AnyReply AnyCall (λ (a : Answered). a.end.desk ≡ desk) (λ a. Keeps (answered h a)) (frame_answered f (begun h.client.producer)) (λ a at. record { is = place.is; at = at })
      (frame_keeps desk f (begun h.client.producer) place.at)

  -- after bytes
  pub fed_place : (clock : ℕ) (piece : List ℕ) (client : PlainClient) (states : States) → Place client → Place (after (client_fed clock piece client) states).1.client
  fed_place clock piece client states place =
      after_always AnyCall Keeps (client_fed clock piece client) states
      (fed_keeps AnyReply AnyCall Keeps clock (λ before producer f s first p. session_keeps clock before producer f s p) (λ before producer fault s first p. record { is = p.is; at = p.at }) (λ f h e p. producer_keeps f h p)
      (λ h e p. always_any (λ none. Keeps h) (end_closed h.client.producer) (λ none. p)) piece client (record { is = place.is; at = place.at }) (record { is = place.is; at = place.at }))

  -- after an outcome
  pub posted_place : (clock : ℕ) (r : Resolved) (client : PlainClient) (states : States) → Place client → Place (after (client_posted clock r client) states).1.client
  posted_place clock r client states place =
      after_always AnyCall Keeps (client_posted clock r client) states
      (posted_keeps AnyReply AnyCall Keeps clock (λ before producer f s first p. session_keeps clock before producer f s p) (λ before producer fault s first p. record { is = p.is; at = p.at }) (λ f h e p. producer_keeps f h p)
      (λ h e p. always_any (λ none. Keeps h) (end_closed h.client.producer) (λ none. p)) r client (record { is = place.is; at = place.at }) (λ a e. record { is = place.is; at = place.at }))

  -- after frames were put
  pub pulled_place : (frames : ℕ) (client : PlainClient) (shelves : Shelves) (states : States) → Place client → Place (after_reads (client_pulled frames client) shelves states).1.client
  pulled_place frames client shelves states place =
      reads_always AnyCall IsRead (λ (t : ClientPulled). Place t.client) (client_pulled frames client) shelves states
      (always_bind_job AnyReply AnyCall IsRead (λ (put : Answered × Halt). put.0.end.desk ≡ desk) (λ (t : ClientPulled). Place t.client) (frames_put frames (begun client.producer)) (λ put. Ended (client_pull client.session put))
      (all_keep desk frames (begun client.producer) place.at) (λ put at. record { is = place.is; at = at }))
