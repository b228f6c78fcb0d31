-- a frame that a client's session handed up is answered, and no line tells of it
use Rattle.std.specs.Prelude.{◌≡◌, ◌<◌, ◌++◌, ◌∷◌, if◌then◌else◌}
use Rattle.std.proofs.lemmas.List.Elements.{All-drop}
use Rattle.transcript_law.proofs.Words.{ℕ, Bool, true, false, List, [], refl, sym, ap, ◌∙◌, subst, append-nil, inl, inr, arith, Option, Some, None, DcpMsg, Event, Frame, AreBytes, States, PlainNode, PlainWorld, PlainProducer, Cluster, Chronicle, after_lines}
use Rattle.dcp_producer.specs.Producers.{Served}
use Rattle.mcbp_frame.specs.Frames.{frame_len}
use Rattle.node_core.specs.Clients.{PlainClient, delivered, reply_alone}
unfoldable use Rattle.node_core.specs.Clients.{with_replies}
use Rattle.transcript_law.proofs.answers.Messages.{IsAnswerTo}
use Rattle.transcript_law.proofs.invariant.Owed.{idle_free, waits_hand}
use Rattle.transcript_law.proofs.indexers.{Hands.{Goes, HandedUp, answered_goes, mine, standing}, Questions.{dcp_numbers, free_numbers, hand_asks, hand_if, hand_zero, in_hand, next_is}, Quiet.{IsTold, Quietly}, Moments.{moment_is}, Serving.{IsBehind, served_plain}, Steps.{ClientStep}, Worlds.{OpensOwn, step_quiet, stepped_same, vb_here, waited_same, world_with}}
use Rattle.transcript_law.proofs.{answers.Fits.{away}, invariant.{Agreement.{AgreesAt, AgreesIn, VbAgrees, idle, is_down, power_of}, ClientsTold.{AskingIs, ClientAgrees, HasUsed, setup_of}, OpenStreams.{AreKept}, Seats.{seat}, Tables.{if_known}}}
use Rattle.mcbp_frame.specs.Spelling.{spelling}
use Rattle.mcbp_kv.specs.Requests.{request_of}
use Rattle.transcript_law.specs.{ClientFrames.{ask_of, is_close, message_of, set_by}, ClientStreams.{unclosed}, Feeding.{HasOpen}, LawfulAnswers.{FitsBy, FitsFrame, serving}, LawfulMessages.{FitsDcp, FitsMessage, moment_of}, StreamsTold.{ClientStream}, Questions.{Question, past_question, question_of, settings_after, settings_by, wants_answer}}

-- what is kept of a producer hangs on its numbers and its streams
pub kept_as : (p q : PlainProducer) → q.desk ≡ p.desk → q.asked ≡ p.asked → q.streams ≡ p.streams → AreKept p → AreKept q
kept_as p q desk asked streams kept =
    subst (λ d. AreKept (record q { desk = d })) (sym desk) (subst (λ k. AreKept (record q { desk = p.desk; asked = k })) (sym asked) (subst (λ ss. AreKept (record q { desk = p.desk; asked = p.asked; streams = ss })) (sym streams)
    (record { ids = refl; rise = kept.rise; numbered = kept.numbered; turn = kept.turn })))

-- what is spelled is no empty answer
spelled_alone : (n c : ℕ) (answer : Frame) → reply_alone n c (spelling answer) ≡ Event.Reply n c (spelling answer) ∷ []
unfolding spelling
spelled_alone n c answer = refl

module _ (w : PlainWorld) (n c : ℕ) (node : PlainNode) (r : Chronicle) (f : Frame) (states : States) (lines : List Event) (client : PlainClient) (up : HandedUp w n c node r f states lines client) where
  -- the connection that has the frame in front
  abbrev pub before : PlainClient
  before = record client { session = record client.session { reader = up.reader } }

  -- and behind its answer
  abbrev pub behind : Served → PlainClient
  behind s = record client { producer = s.end }

  abbrev pub so_far : Chronicle
  so_far = after_lines r lines

  abbrev pub cluster : Cluster
  cluster = up.goes.agrees.0

  pub agrees : AgreesIn idle (world_with w n c node states (Some before)) so_far cluster
  agrees = up.goes.agrees.1

  pub own : ClientAgrees (world_with w n c node states (Some before)) so_far n c before
  own = mine w n c node r up.goes

  pub bytes_behind : AreBytes client.session.reader
  bytes_behind = subst AreBytes (sym up.behind) (All-drop (λ b. b < 256) (frame_len f) up.reader up.goes.bytes)

  -- it wants an answer
  abbrev pub wants : Bool
  wants = wants_answer (setup_of client.producer.handshake) f

  -- the connection while the frame is being answered
  abbrev pub hand : Served → PlainClient
  hand s = record client { session = record client.session { awaited = hand_if wants f }; producer = s.end }

  pub is_behind : (world' : PlainWorld) (s : Served) → s.end.desk ≡ client.producer.desk → IsBehind (world_with w n c node states (Some before)) world' so_far n c before (hand s) f own up.goes.bytes up.first
  is_behind world' s desk = record { who = refl; alive = own.alive; reader = up.behind; desk = desk }

  pub asks_in_hand : (s : Served) → set_by (message_of f) (setup_of client.producer.handshake) ≡ setup_of s.end.handshake → AskingIs (so_far.clients_at n c).asking (hand s).session s.end.handshake
  asks_in_hand s sets = hand_asks (so_far.clients_at n c).asking before.session (hand s).session client.producer.handshake s.end.handshake f up.goes.bytes up.first own.asks up.free sets up.behind refl (λ none. refl) refl

  -- it is to be answered next
  abbrev pub question : Question
  question = record { before = own.asks.served; frame = f }

  pub is_asked : wants ≡ true → question_of (so_far.clients_at n c).asking ≡ Some question
  is_asked w = next_is (so_far.clients_at n c).asking before.session before.session client.producer.handshake client.producer.handshake f up.goes.bytes up.first own.asks up.free w

  -- what is known of its connection when it is asked is what the producer has
  abbrev pub stream : Option ClientStream
  stream = unclosed own.heard.served (so_far.clients_at n c).streams f.vb_or_status

  -- and whether a line told of it
  abbrev pub is_told : Bool
  is_told = (moment_of (so_far.clients_at n c) (so_far.clients_at n c).asking question).told

  -- a frame of DCP is judged by that, and by what is known of its vBucket, and sets no feature
  abbrev pub FitsNow : Option DcpMsg → Frame → Type 0
  FitsNow m answer = FitsMessage (so_far.role_at n f.vb_or_status) (so_far.log_at n f.vb_or_status) (record { setup = setup_of client.producer.handshake; stream = stream; told = is_told; durables = (so_far.clients_at n c).asking.durables }) f answer m

  pub fits_dcp : (answer : Frame) → FitsNow (message_of f) answer → FitsFrame (serving so_far n c (so_far.clients_at n c).asking) so_far n (moment_of (so_far.clients_at n c) (so_far.clients_at n c).asking question) (so_far.clients_at n c).asking.settings f answer
  fits_dcp answer fits =
      subst (λ b. FitsBy b (serving so_far n c (so_far.clients_at n c).asking) so_far n (moment_of (so_far.clients_at n c) (so_far.clients_at n c).asking question) (so_far.clients_at n c).asking.settings f answer) (sym up.dcp)
      (subst (λ at. FitsDcp so_far n at f answer) (sym (moment_is (so_far.clients_at n c) (so_far.clients_at n c).asking before.session client.producer.handshake own.heard own.asks f)) fits)

  -- what is known of its vBucket is what the node has of it
  pub told_here : is_down (power_of (world_with w n c node states (Some before)) n) ≡ false → IsTold (so_far.role_at n f.vb_or_status) (so_far.log_at n f.vb_or_status) (states f.vb_or_status)
  told_here running = record {
    away = λ e. away (world_with w n c node states (Some before)) so_far n f.vb_or_status (cluster, agrees) (vb_here w n c node states (Some before) f.vb_or_status ∙ e) running;
    there = λ vb e.
        let it : VbAgrees so_far n f.vb_or_status (cluster.nodes (seat n f.vb_or_status)) vb = subst (AgreesAt so_far n f.vb_or_status (cluster.nodes (seat n f.vb_or_status))) (vb_here w n c node states (Some before) f.vb_or_status ∙ e) (agrees.vbs n f.vb_or_status) in
        ((λ off. let z : Some None ≡ Some (Some vb.role) = sym off ∙ it.role in cc), if_known (so_far.log_at n f.vb_or_status) vb.log it.log);
  }

  pub same_settings : client.session.settings ≡ settings_after client.session.settings f
  same_settings = sym (ap (λ b. if b then client.session.settings else settings_by (request_of client.session.settings.json f) client.session.settings) up.dcp)

  -- and it asks for no durable write
  same_numbers : HasUsed client.session.used (past_question question (so_far.clients_at n c).asking).durables
  same_numbers = dcp_numbers (so_far.clients_at n c).asking question up.dcp (free_numbers (so_far.clients_at n c).asking before.session client.producer.handshake own.asks up.free)

  -- its answer, where no line tells of it
  is_alone : (s : Served) → s.events ≡ [] → delivered client.session.who s ≡ reply_alone n c s.out
  unfolding with_replies
  is_alone s none = ap (λ es. with_replies client.session.who.node client.session.who.client es s.out) none ∙ (λ i. reply_alone (own.conn.node i) (own.conn.number i) s.out)

  -- an answer of which no line tells
  pub passed_step : (x : States × Served) → x.1.events ≡ [] → IsAnswerTo (FitsNow (message_of f)) f wants x.1.out → (step : ClientStep (world_with w n c node states (Some before)) (world_with w n c node x.0 (Some (hand x.1))) n c)
      → OpensOwn w n c node states x.0 before (hand x.1) so_far (so_far.clients_at n c) cluster agrees step → ClientAgrees (world_with w n c node x.0 (Some (hand x.1))) so_far n c (hand x.1)
      → Goes w n c node r x.0 (lines ++ delivered client.session.who x.1) (behind x.1)
  passed_step x none is step opens told =
      subst (λ es. Goes w n c node r x.0 (lines ++ es) (behind x.1)) (sym (is_alone x.1 none))
      (by wants refl is (record {
        lawful = up.goes.lawful;
        agrees = (
          cluster,
          stepped_same w n c node states x.0 before (hand x.1) so_far cluster agrees step opens told
              (waited_same w n c node states x.0 before (hand x.1) so_far cluster agrees step (waits_hand (so_far.clients_at n c).asking (so_far.clients_at n c).asking before.session (hand x.1).session refl (omega arith) (λ l. l) (λ a e. hand_zero wants f a e) refl (idle_free before.session up.free))),
        );
        bytes = bytes_behind;
        calm = up.goes.calm;
        still = λ none. up.goes.still up.free;
      }))
    where
      by : (b : Bool) → wants ≡ b → IsAnswerTo (FitsNow (message_of f)) f b x.1.out → Goes w n c node r x.0 lines (record client { session = record client.session { awaited = hand_if b f }; producer = x.1.end }) → Goes w n c node r x.0 (lines ++ reply_alone n c x.1.out) (behind x.1)
      by false unasked quiet g =
          subst (λ es. Goes w n c node r x.0 es (behind x.1)) (sym (ap (λ out. lines ++ reply_alone n c out) quiet ∙ append-nil lines))
          (subst (λ o. Goes w n c node r x.0 lines (record client { session = record client.session { awaited = o }; producer = x.1.end })) (sym up.free) g)
      by true asked (answer, out, response, code, number, fits) g =
          subst (λ es. Goes w n c node r x.0 (lines ++ es) (behind x.1)) (sym (ap (reply_alone n c) out ∙ spelled_alone n c answer))
          (answered_goes w n c node r (standing w n c node r g) client.session refl refl refl (in_hand f) refl question (is_asked asked) up.free same_settings (omega arith) (λ l. l) same_numbers answer response code number (fits_dcp answer fits) (inr (inr (up.goes.calm, up.goes.still up.free))))

  pub passed_quiet : (x : States × Served) → ask_of f ≡ None → is_close (message_of f) ≡ false → Quietly FitsNow f (message_of f) states client.producer x → Goes w n c node r x.0 (lines ++ delivered client.session.who x.1) (behind x.1)
  passed_quiet x none open_still q =
      let new : PlainWorld = world_with w n c node x.0 (Some (hand x.1)) in
      let old : PlainWorld = world_with w n c node states (Some before) in
      let told : ClientAgrees new so_far n c (hand x.1) =
      served_plain old new so_far n c before (hand x.1) f own up.goes.bytes up.first (is_behind new x.1 q.desk) none q.sets (asks_in_hand x.1 q.sets) q.flows open_still (kept_as client.producer x.1.end q.desk q.asked q.streams own.kept) q.asked q.streams q.opens
      (λ v. vb_here w n c node x.0 (Some (hand x.1)) v ∙ q.vbs v ∙ sym (vb_here w n c node states (Some before) v)) in
      passed_step x q.lines q.answers (step_quiet w n c node states x.0 (Some before) (Some (hand x.1)) q.vbs) (λ v id has. inl (subst (HasOpen v id) q.streams has)) told
