-- what a client's session does with a frame, a fault and an outcome: all agrees behind it
use Rattle.std.specs.Prelude.{◌≡◌, ◌<◌, ◌≤◌, ◌+◌, ◌^◌, nat_le, ◌∷◌, ◌++◌, ◌==◌, ◌&&◌, ◌||◌, not, if◌then◌else◌}
use Rattle.std.proofs.lemmas.List.Elements.{All-drop}
use Rattle.transcript_law.proofs.Words.{ℕ, Bool, true, false, List, [], drop, refl, sym, ap, ◌∙◌, subst, inl, inr, ⊎_elim, arith, nat_tests, append_assoc, Option, Some, None, is_some, Ok, Err, Event, Frame, FrameFault, Pend, RESPONSE, AreBytes, StaysSound, PlainProducer, States, PlainNode, PlainWorld, Chronicle, after_line, after_lines, after, Done, with_at}
use Rattle.client_session.proofs.{Handing.{others_answered}, Keeping.{front_of}, Turns.{handed_holds}}
use Rattle.client_session.specs.Serving.{MOST_DURABLE, PlainSession, Served, next_waiter, ended_at, frame_answered, handed, is_dcp, is_held, outcome_answered}
unfoldable use Rattle.client_session.specs.Serving.{frame_handled}
use Rattle.client_session.specs.Answers.{fault_lines}
unfoldable use Rattle.client_session.specs.Answers.{reply_line}
use Rattle.client_session.specs.declared.session.Awaited.{Awaited}
use Rattle.durability.specs.declared.waiting.Waiting.{Waiting}
use Rattle.mcbp_frame.specs.Frames.{faulty_head, frame_len}
unfoldable use Rattle.mcbp_frame.specs.Frames.{first_frame}
use Rattle.mcbp_frame.specs.declared.frame.FaultyHead.{FaultyHead}
use Rattle.node_core.specs.Clients.{PlainClient, went_on}
use Rattle.mcbp_frame.specs.{Cutting.{fault_in, front_fault}, Spelling.{spelling}}
use Rattle.mcbp_kv.specs.{Answers.{bare_answer}, Replies.{reply_frame}, Requests.{request_of}}
use Rattle.transcript_law.proofs.indexers.{Beside.{beside}, Hands.{Goes, InHand, frame_told, mine}, Messages.{IsPlain, other_plain, response_plain}, Questions.{fault_asks, free_numbers, hand_asks, hand_if, hand_zero, in_hand, next_is}, Replied.{table_put_twice}, Shutting.{Shut, gone_shut}, Serving.{served_plain}, Worlds.{client_here, step_quiet, stepped_same, vb_here, waited_same, world_with}}
use Rattle.transcript_law.proofs.invariant.{Agreement.{Agrees}, ClientsTold.{ClientAgrees, setup_of}, Owed.{OwedIf, OwedIn, Owing, idle_free, waits_hand}, Sessions.{first_received}, Tables.{at_here}}
use Rattle.transcript_law.proofs.{answers.{Calm.{durable_left}, Claims.{IsOf}, Committed.{HowTold}, Messages.{message_wants}}, lines.Telling.{LawfulBefore, before_more, told_more}, indexers.{Documents.{durable_request_goes, request_goes}, Outcomes.{outcome_goes}, Requests.{counts}}, verbs.Settling.{Steady}}
use Rattle.transcript_law.specs.{ClientFrames.{message_of}, ClientStreams.{blank_client}, LawfulAnswers.{AllDurable, IsStill, LawfulReply}, LinesTold.{made_line}, Questions.{behind_frames, is_acknowledgement, past_answer, past_question_if, question_of, wants_answer}, StreamsTold.{ClientKnown}}
use Rattle.vb_types.specs.declared.status.Status.TheVariants.{Einval}
use Rattle.vb_calls.proofs.Conduct.{after_always}
use Rattle.vb_calls.specs.Programs.{AnyCall}
use Rattle.vb_calls.specs.declared.calls.Resolution.{Resolution}
use Rattle.transcript_law.specs.LinesTold.{LastLine}
use Rattle.transcript_law.proofs.{answers.Committed.{kept_made}, invariant.Owing.{Grows}}
use Rattle.transcript_law.specs.LinesTold.{OwnChange, is_durable}

-- no bytes begin with a frame
no_first : (f : Frame) (reader : List ℕ) → reader ≡ [] → first_frame reader ≡ Some (Ok f) → ⊥
unfolding first_frame
no_first f reader empty e = let z : None ≡ Some (Ok f) = ap first_frame (sym empty) ∙ e in cc

no_fault : (fault : FrameFault) (reader : List ℕ) → reader ≡ [] → first_frame reader ≡ Some (Err fault) → ⊥
unfolding first_frame
no_fault fault reader empty e = let z : None ≡ Some (Err fault) = ap first_frame (sym empty) ∙ e in cc

-- a session that counts one more
few_of : (used : ℕ) → nat_le MOST_DURABLE used ≡ false → used + 1 < 2 ^ 32
few_of used room = grind (arith, nat_tests, room)

-- a session that serves awaits nothing
free_of : (s : Served) → is_held s ≡ false → s.session.awaited ≡ None
free_of s = by (is_some s.dcp) s.session.awaited
  where
    always : (b : Bool) → (b || true) ≡ true
    always true = refl
    always false = refl

    by : (b : Bool) (o : Option Awaited) → (b || is_some o) ≡ false → o ≡ None
    by b None e = refl
    by b (Some a) e = let z : true ≡ false = sym (always b) ∙ e in cc

-- what a fault is answered stands in front of what tells that the connection closed
fault_lawful : (r : Chronicle) (n c : ℕ) (fault : FrameFault) (head : FaultyHead) (more : List Event) → question_of (r.clients_at n c).asking ≡ None → front_fault (behind_frames (r.clients_at n c).asking.bytes) ≡ Some fault
    → faulty_head fault (behind_frames (r.clients_at n c).asking.bytes) ≡ Some head → IsStill r → LawfulReply r n c (r.clients_at n c).asking (spelling (reply_frame (bare_answer head.opcode Einval head.opaque))) (Event.Closed n c ∷ more)
fault_lawful r n c fault head more none stands named calm = inr (record { none = none; fault = fault; stands = stands; head = head; named = named; spelled = refl; closes = (more, refl); calm = calm })

module _ (w : PlainWorld) (n c : ℕ) (node : PlainNode) (r : Chronicle) where
  -- the session goes on behind a frame that says nothing of streams
  behind_goes : (states : States) (lines : List Event) (client : PlainClient) (f : Frame) (session : PlainSession) → Goes w n c node r states lines client → first_frame client.session.reader ≡ Some (Ok f) → IsPlain (message_of f) → client.session.awaited ≡ None
      → session.who ≡ client.session.who → session.closed ≡ client.session.closed → session.reader ≡ drop (frame_len f) client.session.reader → session.settings ≡ client.session.settings → client.session.used ≤ session.used → (client.session.used < 2 ^ 32 → session.used < 2 ^ 32) → (wants_answer (setup_of client.producer.handshake) f ≡ false → session.used ≡ client.session.used) → session.awaited ≡ hand_if (wants_answer (setup_of client.producer.handshake) f) f
      → Goes w n c node r states lines (record client { session = session })
  behind_goes states lines client f session g first plain free who closed reader settings used few same awaits =
      let client' : PlainClient = record client { session = session } in
      let old : PlainWorld = world_with w n c node states (Some client) in let new : PlainWorld = world_with w n c node states (Some client') in
      let so_far : Chronicle = after_lines r lines in
      let own : ClientAgrees old so_far n c client = mine w n c node r g in
      let told : ClientAgrees new so_far n c client' =
      served_plain old new so_far n c client client' f own g.bytes first (record { who = who; alive = closed ∙ own.alive; reader = reader; desk = refl }) plain.asks (plain.sets (setup_of client.producer.handshake))
      (hand_asks (so_far.clients_at n c).asking client.session session client.producer.handshake client.producer.handshake f g.bytes first own.asks free (plain.sets (setup_of client.producer.handshake)) reader settings same awaits) (plain.flows (setup_of client.producer.handshake).opened client.producer.window)
      plain.closes own.kept refl refl (λ e. e) (λ v. vb_here w n c node states (Some client') v ∙ sym (vb_here w n c node states (Some client) v)) in
      record {
        lawful = g.lawful;
        agrees = (
          g.agrees.0,
          stepped_same w n c node states states client client' so_far g.agrees.0 g.agrees.1 (step_quiet w n c node states states (Some client) (Some client') (λ q. refl)) (λ v id has. inl has) told
              (waited_same w n c node states states client client' so_far g.agrees.0 g.agrees.1 (step_quiet w n c node states states (Some client) (Some client') (λ q. refl))
              (waits_hand (so_far.clients_at n c).asking (so_far.clients_at n c).asking client.session session who used few (λ a e. hand_zero (wants_answer (setup_of client.producer.handshake) f) f a (sym awaits ∙ e)) refl (idle_free client.session free))),
        );
        bytes = subst AreBytes (sym reader) (All-drop (λ b. b < 256) (frame_len f) client.session.reader g.bytes);
        calm = g.calm;
        still = λ none. g.still free;
      }

  -- nothing waits under the next number of the connection
  unowed_next : (states : States) (lines : List Event) (client : PlainClient) → Goes w n c node r states lines client → client.session.used + 1 < 2 ^ 32
      → (line : LastLine) (v : ℕ) (x : Waiting) (p : Pend) → (after_lines r lines).last ≡ Some line → Owing (states v) x p → x.waiter ≡ next_waiter client.session → ⊥
  unowed_next states lines client g few line v x p rises owing same =
      let so_far : Chronicle = after_lines r lines in let here : PlainWorld = world_with w n c node states (Some client) in
      let all : OwedIn line here so_far = subst (λ l. OwedIf l here so_far) rises g.agrees.1.clients.owed in
      (all.each n c client (client_here w n c node states (Some client))).past v x p (subst (λ o. Owing o x p) (sym (vb_here w n c node states (Some client) v)) owing) (omega (arith, same)) (omega (arith, same, few))

  module _ (stays : StaysSound) (steady : Steady) (clock : ℕ) (small : clock < 2 ^ 64) (shows : node.clock ≡ clock) (before : List Event) (producer : PlainProducer) where
    abbrev client_of : Served → PlainClient
    client_of s = record { session = s.session; producer = producer }

    -- a request of a client for documents
    request_served : (f : Frame) (states : States) (s : Served) → first_frame s.session.reader ≡ Some (Ok f) → is_dcp f.opcode ≡ false → (f.magic == RESPONSE) ≡ false → s.session.awaited ≡ None → s.dcp ≡ None → Goes w n c node r states (before ++ s.events) (client_of s)
        → let x = after (frame_handled clock f (front_of f s)) states in InHand w n c node r x.0 (went_on before producer x.1)
    unfolding frame_handled
    request_served f states s first other asks free none g =
        let at : ClientAgrees (world_with w n c node states (Some (client_of s))) (after_lines r (before ++ s.events)) n c (client_of s) = mine w n c node r g in
        let wants : wants_answer (setup_of producer.handshake) f ≡ true = message_wants (setup_of producer.handshake) f (message_of f) asks refl (other_plain f other).counts in
        let front : Served = front_of f s in
        let x : States × Served = after (frame_handled clock f front) states in
        let unhanded : x.1.dcp ≡ s.dcp = after_always AnyCall (λ t. t.dcp ≡ s.dcp) (frame_handled clock f front) states (others_answered clock f front other) in
        let is : frame_handled clock f front ≡ frame_answered clock f front =
        (λ i. if asks i then Done front else if other i then Done (handed f front) else frame_answered clock f front) in
        let next = next_is ((after_lines r (before ++ s.events)).clients_at n c).asking s.session s.session producer.handshake producer.handshake f g.bytes first at.asks free wants in
        let hand : ℕ → PlainClient = λ used. record { session = record front.session { awaited = Some (in_hand f); used = used }; producer = producer } in
        let held : (used : ℕ) → s.session.used ≤ used → (s.session.used < 2 ^ 32 → used < 2 ^ 32) → Goes w n c node r states (before ++ s.events) (hand used) =
        λ used le few. behind_goes states (before ++ s.events) (client_of s) f (hand used).session g first (other_plain f other) free refl refl refl refl le few (λ none. let z : true ≡ false = sym wants ∙ none in absurd cc) (sym (ap (λ b. hand_if b f) wants)) in
        let count : ℕ = ((after_lines r (before ++ s.events)).clients_at n c).asking.durables in
        let fresh = free_numbers ((after_lines r (before ++ s.events)).clients_at n c).asking s.session producer.handshake at.asks free in
        let good = first_received s.session.reader f g.bytes first in
        let ends : Goes w n c node r x.0 (before ++ x.1.events) (client_of x.1) =
        subst (λ prog. let y = after prog states in Goes w n c node r y.0 (before ++ y.1.events) (client_of y.1)) (sym is)
        (⊎_elim
        (λ none.
        let g' = held s.session.used (omega arith) (λ l. l) in
        request_goes stays steady w r n c clock node (hand s.session.used) before small shows g'.bytes f at.asks.served refl other count (states, front)
        (record { now = (g'.lawful, g'.agrees, (at.conn.node, at.conn.number)); next = next; count_is = refl; who = refl; closed = refl; reader = refl; free = free; settings = refl; used = refl }) (g'.calm, g.still free) fresh good none)
        (λ (write, wish, is, room).
        let few = few_of s.session.used room in
        let g' = held (s.session.used + 1) (omega arith) (λ l. few) in
        durable_request_goes stays steady w r n c clock node (hand (s.session.used + 1)) before small shows g'.bytes f at.asks.served refl other count (states, front)
        (record { now = (g'.lawful, g'.agrees, (at.conn.node, at.conn.number)); next = next; count_is = refl; who = refl; closed = refl; reader = refl; free = free; settings = refl; used = refl }) (g'.calm, g.still free)
        (unowed_next states (before ++ s.events) (client_of s) g few) fresh good write wish is room)
        (counts front.session.used (request_of front.session.settings.json f))) in
        InHand.IsOpen (unhanded ∙ none) ends

    -- by whether it is a response, and whether DCP has its opcode
    frame_by : (f : Frame) (states : States) (s : Served) → first_frame s.session.reader ≡ Some (Ok f) → s.session.awaited ≡ None → s.dcp ≡ None → Goes w n c node r states (before ++ s.events) (client_of s) → (a b : Bool) → (f.magic == RESPONSE) ≡ a → is_dcp f.opcode ≡ b
        → let x = after (frame_handled clock f (front_of f s)) states in InHand w n c node r x.0 (went_on before producer x.1)
    unfolding frame_handled
    frame_by f states s first free none g true b response dcp =
        subst (λ e. let x = after (if e then Done (front_of f s) else if is_dcp f.opcode then Done (handed f (front_of f s)) else frame_answered clock f (front_of f s)) states in InHand w n c node r x.0 (went_on before producer x.1)) (sym response)
        (InHand.IsOpen none (behind_goes states (before ++ s.events) (client_of s) f (front_of f s).session g first (response_plain f response) free refl refl refl refl (omega arith) (λ l. l) (λ none. refl) (free ∙ sym (ap (λ b. hand_if (not b && not ((setup_of producer.handshake).opened && is_acknowledgement (message_of f))) f) response))))
    frame_by f states s first free none g false true asks dcp =
        subst (λ e. let x = after (if e then Done (front_of f s) else if is_dcp f.opcode then Done (handed f (front_of f s)) else frame_answered clock f (front_of f s)) states in InHand w n c node r x.0 (went_on before producer x.1)) (sym asks)
        (subst (λ e. let x = after (if e then Done (handed f (front_of f s)) else frame_answered clock f (front_of f s)) states in InHand w n c node r x.0 (went_on before producer x.1)) (sym dcp)
        (InHand.IsAsked f refl (record { reader = s.session.reader; first = first; behind = refl; asks = asks; dcp = dcp; free = free; goes = g })))
    frame_by f states s first free none g false false asks other = request_served f states s first other asks free none g

    pub framed : (f : Frame) (states : States) (s : Served) → is_held s ≡ false → first_frame s.session.reader ≡ Some (Ok f) → InHand w n c node r states (went_on before producer s)
        → let x = after (frame_handled clock f (front_of f s)) states in InHand w n c node r x.0 (went_on before producer x.1)
    framed f states s free first (InHand.IsOpen none g) = frame_by f states s first (free_of s free) none g (f.magic == RESPONSE) (is_dcp f.opcode) refl refl
    framed f states s free first (InHand.IsAsked g asked up) = let z : true ≡ false = sym (handed_holds s g asked) ∙ free in cc
    framed f states s free first (InHand.IsOver none over) = absurd (no_first f s.session.reader over.empty first)

    -- what became of a durable write, which is awaited under a number
    pub outcome_framed : (a : Awaited) (how : Resolution) (Claim : ℕ → Waiting → Pend → Type 0) (states : States) (s : Served) → s.session.awaited ≡ Some a → (a.waiter ≡ 0 → ⊥) → IsOf (after_lines r (before ++ s.events)) n c a Claim → HowTold n (after_lines r (before ++ s.events)) Claim (record { waiter = a.waiter; how = how })
        → Goes w n c node r states (before ++ s.events) (client_of s) → s.dcp ≡ None → InHand w n c node r states (went_on before producer (outcome_answered a how s))
    outcome_framed a how Claim states s waits some owns told g unhanded =
        InHand.IsOpen unhanded (outcome_goes w n c node r a how Claim states before producer s waits some owns told g)

  -- a fault: the connection is over, and told so
  abbrev over_told : List Event → Bool → Chronicle
  over_told lines answered = let q = after_lines r lines in record q { clients_at = with_at q.clients_at n c blank_client; made = if answered then made_line q.made (Event.Reply n c []) else q.made; changed = if answered then false else q.changed }

  module _ (states : States) (lines : List Event) (client : PlainClient) (g : Goes w n c node r states lines client) (fault : FrameFault) (free : client.session.awaited ≡ None) (first : first_frame client.session.reader ≡ Some (Err fault)) where
    abbrev so_far : Chronicle
    so_far = after_lines r lines

    abbrev own : ClientAgrees (world_with w n c node states (Some client)) so_far n c client
    own = mine w n c node r g

    -- nor is any question left behind the answer to the fault
    closes_none : (bytes : List ℕ) → question_of (so_far.clients_at n c).asking ≡ None → question_of ((after_line so_far (Event.Reply n c bytes)).clients_at n c).asking ≡ None
    closes_none bytes none =
        let known : ClientKnown = past_answer (so_far.clients_at n c) in
        ap (λ (q : Chronicle). question_of (q.clients_at n c).asking) (frame_told n c bytes so_far own.silent) ∙ ap (λ (k : ClientKnown). question_of k.asking) (at_here so_far.clients_at n c known)
        ∙ ap (λ o. question_of (past_question_if o (so_far.clients_at n c).asking)) none ∙ none

    -- its lines, by whether the header of the faulty frame is known
    both_lines : (head : FaultyHead) → faulty_head fault client.session.reader ≡ Some head → (let end : List Event = Event.Reply n c (spelling (reply_frame (bare_answer head.opcode Einval head.opaque))) ∷ Event.Closed n c ∷ [] in
        LawfulBefore r (lines ++ end) × (after_lines r (lines ++ end) ≡ over_told lines true))
    both_lines head named =
        let bytes : List ℕ = spelling (reply_frame (bare_answer head.opcode Einval head.opaque)) in
        let end : List Event = Event.Reply n c bytes ∷ Event.Closed n c ∷ [] in
        let left = fault_asks (so_far.clients_at n c).asking client.session client.producer.handshake own.asks fault free first in
        let known : ClientKnown = past_answer (so_far.clients_at n c) in (
          before_more r lines end g.lawful
              (λ more rest. ((λ z. fault_lawful so_far n c fault head more left.0 (ap front_fault left.1 ∙ ap fault_in first) (ap (faulty_head fault) left.1 ∙ named) (g.calm, g.still free)), ((λ opened. closes_none bytes left.0), rest))),
          told_more r lines end ∙ ap (λ q. after_line q (Event.Closed n c)) (frame_told n c bytes so_far own.silent)
              ∙ ap (λ table. record so_far { clients_at = table; made = made_line so_far.made (Event.Reply n c []); changed = false }) (table_put_twice so_far.clients_at n c known blank_client),
        )

    head_lines : (head : Option FaultyHead) → faulty_head fault client.session.reader ≡ head → LawfulBefore r (lines ++ fault_lines n c head) × (after_lines r (lines ++ fault_lines n c head) ≡ over_told lines (is_some head))
    unfolding reply_line
    head_lines None named = (before_more r lines (Event.Closed n c ∷ []) g.lawful (λ more rest. ((λ opened. (fault_asks (so_far.clients_at n c).asking client.session client.producer.handshake own.asks fault free first).0), rest)), told_more r lines (Event.Closed n c ∷ []))
    head_lines (Some head) named = both_lines head named

    faulty_lines : (x y : ℕ) → x ≡ n → y ≡ c → (events : List Event) → events ≡ lines ++ fault_lines x y (faulty_head fault client.session.reader) → LawfulBefore r events × (after_lines r events ≡ over_told lines (is_some (faulty_head fault client.session.reader)))
    faulty_lines x y s t events is =
        let head : Option FaultyHead = faulty_head fault client.session.reader in
        subst (λ es. LawfulBefore r es × (after_lines r es ≡ over_told lines (is_some head))) (sym (is ∙ (λ i. lines ++ fault_lines (s i) (t i) head))) (head_lines head refl)

    over_grows : (answered : Bool) → Grows so_far.made (if answered then made_line so_far.made (Event.Reply n c []) else so_far.made)
    over_grows true one durable i = kept_made (λ (m : OwnChange). is_durable m.change.act) one so_far.made durable i
    over_grows false one durable i = i

    -- no set and no removal waits to be answered
    over_calm : (answered : Bool) → AllDurable (over_told lines answered).made
    over_calm true = durable_left so_far.made
    over_calm false = g.calm

    -- nothing is left of it
    over_agrees : (answered : Bool) → Shut w n c node (over_told lines answered) client.producer.streams states
    over_agrees answered =
        let shut = gone_shut w n c node so_far states client g.agrees in
        let q : Chronicle = record so_far { clients_at = with_at so_far.clients_at n c blank_client } in
        record { agrees = (shut.agrees.0, beside (world_with w n c node states None) q q.conn_at (if answered then made_line so_far.made (Event.Reply n c []) else so_far.made) so_far.ticks (if answered then false else so_far.changed) shut.agrees.0 (over_grows answered) shut.agrees.1); nobody = shut.nobody }

  pub faulty : (before : List Event) (producer : PlainProducer) (fault : FrameFault) (states : States) (s : Served) → is_held s ≡ false → first_frame s.session.reader ≡ Some (Err fault) → InHand w n c node r states (went_on before producer s)
      → InHand w n c node r states (went_on before producer (ended_at (Some fault) s))
  faulty before producer fault states s free first (InHand.IsAsked g asked up) = let z : true ≡ false = sym (handed_holds s g asked) ∙ free in cc
  faulty before producer fault states s free first (InHand.IsOver none over) = absurd (no_fault fault s.session.reader over.empty first)
  faulty before producer fault states s free first (InHand.IsOpen none g) =
      let client : PlainClient = record { session = s.session; producer = producer } in
      let own : ClientAgrees (world_with w n c node states (Some client)) (after_lines r (before ++ s.events)) n c client = mine w n c node r g in
      let head : Option FaultyHead = faulty_head fault s.session.reader in
      let lines : List Event = fault_lines s.session.who.node s.session.who.client head in
      let so = faulty_lines states (before ++ s.events) client g fault (free_of s free) first s.session.who.node s.session.who.client own.conn.node own.conn.number (before ++ (s.events ++ lines)) (sym (append_assoc before s.events lines)) in
      let shut = over_agrees states (before ++ s.events) client g fault (free_of s free) first (is_some head) in
      InHand.IsOver none (record {
        lawful = so.0;
        agrees = subst (Agrees (world_with w n c node states None)) (sym so.1) shut.agrees;
        calm = subst (λ (k : Chronicle). AllDurable k.made) (sym so.1) (over_calm states (before ++ s.events) client g fault (free_of s free) first (is_some head));
        empty = refl;
        closed = refl;
        nobody = shut.nobody;
      })
