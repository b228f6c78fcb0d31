-- whatever a frame is that a client's session handed up, all agrees behind its answer
use Rattle.std.specs.Prelude.{◌≡◌, ◌++◌}
use Rattle.transcript_law.proofs.Words.{ℕ, Bool, true, false, List, refl, sym, ap, ◌∙◌, subst, ⊎_elim, Option, Some, None, Status, Role, LogEntry, Event, Frame, DcpMsg, States, PlainNode, PlainWorld, PlainProducer, Chronicle, Prog, Done, after, begun}
use Rattle.dcp_producer.specs.Producers.{Served, is_client}
use Rattle.dcp_producer.specs.Serving.{frame_answered, message_answered, status_sent}
use Rattle.mcbp_dcp.specs.declared.message.DcpMsg.TheVariants as msg
use Rattle.node_core.proofs.Handlings.{answered}
use Rattle.node_core.specs.Clients.{Handling, PlainClient, delivered}
use Rattle.transcript_law.proofs.answers.{Messages.{unknown_wants}, Statuses.{alone}}
use Rattle.transcript_law.proofs.indexers.{Asked.{passed_ask}, Hands.{Goes, HandedUp, InHand}, Passing.{FitsNow, before, behind, is_told, own, passed_quiet, so_far, told_here, stream as stream_now}, Quiet.{Quietly, message_so, says, status_so}, Releasing.{passed_close}, Worlds.{world_with}}
use Rattle.transcript_law.proofs.invariant.{Agreement.{is_down, power_of}, ClientsTold.{setup_of}}
use Rattle.transcript_law.specs.ClientFrames.{ask_by, is_close, message_of}
use Rattle.transcript_law.specs.StreamsTold.{ClientStream}

module _ (w : PlainWorld) (n c : ℕ) (node : PlainNode) (r : Chronicle) (f : Frame) (states : States) (lines : List Event) (client : PlainClient) (up : HandedUp w n c node r f states lines client)
    (running : is_down (power_of (world_with w n c node states (Some (before w n c node r f states lines client up))) n) ≡ false) where
  abbrev p : PlainProducer
  p = client.producer

  abbrev s : Served
  s = begun p

  abbrev Comes : Prog Served → Type 0
  Comes prog = let x : States × Served = after prog states in Goes w n c node r x.0 (lines ++ delivered client.session.who x.1) (behind w n c node r f states lines client up x.1)

  at_client : is_client p.desk.stream ≡ true
  at_client = ap (λ d. is_client d.stream) (own w n c node r f states lines client up).conn.desk

  -- what is known of its vBucket, and of its connection's stream of that
  abbrev so : Chronicle
  so = so_far w n c node r f states lines client up

  abbrev role : Option (Option Role)
  role = so.role_at n f.vb_or_status

  abbrev known : Option (List LogEntry)
  known = so.log_at n f.vb_or_status

  abbrev stream : Option ClientStream
  stream = stream_now w n c node r f states lines client up

  abbrev told : Bool
  told = is_told w n c node r f states lines client up

  abbrev Fits : Option DcpMsg → Frame → Type 0
  Fits = FitsNow w n c node r f states lines client up

  -- it says nothing that is known
  unknown : message_of f ≡ None → Comes (Done (status_sent f Status.Einval s))
  unknown none = passed_quiet w n c node r f states lines client up (states, status_sent f Status.Einval s) (ap ask_by none) (ap is_close none)
      (subst (λ m. Quietly Fits f m states p (states, status_sent f Status.Einval s)) (sym none)
      (status_so role known stream told (so.clients_at n c).asking.durables f states p (unknown_wants (setup_of p.handshake) f up.asks none) None Status.Einval (alone f Status.Einval) refl refl))

  -- or a message
  quiet : (m : DcpMsg) → message_of f ≡ Some m → ask_by (Some m) ≡ None → is_close (Some m) ≡ false → Comes (message_answered f m s)
  quiet m is none open_still =
      let x : States × Served = after (message_answered f m s) states in
      passed_quiet w n c node r f states lines client up x (ap ask_by is ∙ none) (ap is_close is ∙ open_still) (subst (λ o. Quietly Fits f o states p x) (sym is)
      (message_so role known stream told (so.clients_at n c).asking.durables f states p up.asks at_client (told_here w n c node r f states lines client up running) m is none open_still))

  message : (m : DcpMsg) → message_of f ≡ Some m → Comes (message_answered f m s)
  message (msg.StreamRequest ask) is = passed_ask w n c node r f states lines client up ask (ap ask_by is) running
  message msg.CloseStream is = passed_close w n c node r f states lines client up is
  message other is = quiet other is refl refl

  pub answer_goes : Comes (frame_answered f s)
  answer_goes = ⊎_elim (λ x. subst Comes (sym x.1) (unknown x.0)) (λ x. subst Comes (sym x.2) (message x.0 x.1)) (says f s up.asks up.dcp)

-- so it is in a call
pub passed : (w : PlainWorld) (n c : ℕ) (node : PlainNode) (r : Chronicle) → ((states : States) (o : Option PlainClient) → is_down (power_of (world_with w n c node states o) n) ≡ false)
    → (f : Frame) (states : States) (h : Handling) → h.dcp ≡ Some f → InHand w n c node r states h → let x = after (frame_answered f (begun h.client.producer)) states in InHand w n c node r x.0 (answered h x.1)
passed w n c node r running f states h is (InHand.IsOpen none g) = let z : None ≡ Some f = sym none ∙ is in cc
passed w n c node r running f states h is (InHand.IsOver none o) = let z : None ≡ Some f = sym none ∙ is in cc
passed w n c node r running f states h is (InHand.IsAsked g asked up) =
    let same : Some g ≡ Some f = sym asked ∙ is in let one : g ≡ f = cc in
    let up' : HandedUp w n c node r f states h.events h.client = subst (λ x. HandedUp w n c node r x states h.events h.client) one up in
    InHand.IsOpen refl (answer_goes w n c node r f states h.events h.client up' (running states (Some (before w n c node r f states h.events h.client up'))))
