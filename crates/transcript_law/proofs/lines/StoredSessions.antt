-- what is told of a client's connection while it is served: each set and each removal that it makes stands directly before its answer
use Rattle.std.specs.Prelude.{◌≡◌, ◌∷◌, ◌++◌, ◌==◌, drop, take, if◌then◌else◌, nat_le}
use Rattle.transcript_law.proofs.Words.{ℕ, true, List, [], refl, sym, subst, and_parts, append_assoc, map, Option, Some, None, Result, Ok, Err, Change, Event, Frame, FrameFault, KvRequest, PlainNode, RESPONSE, Status, VbAnswer, VbReply, Write, Call, Done, Prog, States, after, begun, request_handled, frame_handled, told, ended_at, bytes_at, bytes_if}
use Rattle.client_session.proofs.{Conduct.{either}, Keeping.{front_of}}
use Rattle.client_session.specs.Answers.{change_lines, fault_lines, found_reply, reply_line, reply_lines, reply_to, request_lines, status_reply, stored_reply}
use Rattle.client_session.specs.Serving.{MOST_DURABLE, Served, answered_or_awaited, awaited_by, deadline_of, durable_answered, durable_called, durable_replied, frame_answered, handed, is_dcp, next_waiter, outcome_of, outcome_reply, refused, with_lines, with_used}
use Rattle.client_session.specs.declared.session.{Awaited.{Awaited}, Settings.{Settings}}
use Rattle.dcp_producer.proofs.Outcomes.{Outcomes, frame_comes}
use Rattle.dcp_producer.proofs.Replying.{after_with}
use Rattle.dcp_producer.specs.Ending.{streams_closed}
unfoldable use Rattle.dcp_producer.specs.Ending.{end_closed}
use Rattle.dcp_producer.specs.Producers.{PlainProducer, PlainStream, Served as Answered}
unfoldable use Rattle.dcp_producer.specs.Serving.{frame_answered as frame_answered_by, status_sent, stream_answered}
use Rattle.mcbp_frame.specs.Frames.{faulty_head, first_frame}
use Rattle.mcbp_frame.specs.declared.frame.FaultyHead.{FaultyHead}
use Rattle.mcbp_kv.specs.{Replies.{reply_frame}, Requests.{request_of}}
use Rattle.mcbp_kv.specs.declared.reply.KvReply.{KvReply}
use Rattle.mcbp_kv.specs.declared.request.KvRequest.TheVariants as request
use Rattle.node_core.proofs.Handlings.{answered, fed_keeps, posted_keeps}
use Rattle.node_core.specs.Clients.{Handling, PlainClient, client_fed, client_posted, delivered, front_len, went_on, with_replies}
use Rattle.node_core.specs.Peers.{PeerResult, PlainPeer, peer_answered}
use Rattle.node_world.specs.Nodes.{all_posted, awaiting, posted_if, posted_to}
use Rattle.node_world.specs.declared.script_node.TheConstants.{MAX_CLIENTS}
use Rattle.transcript_law.proofs.lines.Stored.{Gives, durable_settled_lines, gives, is_settled, next_behind, settled_next}
use Rattle.transcript_law.proofs.verbs.Tellings.{Are, are_cons, are_more}
use Rattle.transcript_law.specs.{AnsweredWrites.{AllToldNext}, OwnChanges.{given_cas}, Tellings.{are_all}}
use Rattle.vb_calls.proofs.Conduct.{always_bind, always_so}
use Rattle.vb_calls.specs.Programs.{AlwaysWith, AnyCall}
use Rattle.vb_calls.specs.declared.calls.{Resolution.{Resolution}, Resolved.{Resolved}}
use Rattle.vb_calls.specs.declared.calls.VbAnswer.TheVariants as answer
use Rattle.vb_calls.specs.declared.calls.VbCall.TheVariants as call
use Rattle.vb_types.specs.declared.change.Level.{Level}

-- whatever a program asks of vBuckets, which reply as they do
abbrev pub Comes : {A : Type 0} → (A → Type 0) → Prog A → Type 0
Comes P prog = AlwaysWith Gives AnyCall P prog

pub it_comes : {A : Type 0} (P : A → Type 0) (prog : Prog A) (states : States) → Comes P prog → P (after prog states).1
it_comes P prog states comes = (after_with Gives AnyCall (λ states. Unit {0}) (λ states v c good any. (gives states v c, tt)) P prog states tt comes).1

-- ---- a producer

-- it tells of no set and of no removal
abbrev Calm : Answered → Type 0
Calm s = Are is_settled s.events

module _ (f : Frame) (s : Answered) (c : Calm s) where
  refused_calm : (st : Status) (end : PlainProducer) → Calm (status_sent f st (record s { end = end }))
  unfolding status_sent
  refused_calm st end = c

  asked_calm : (ask : _) (end : PlainProducer) (log : _) (high : ℕ) (said : _) → Calm (stream_answered f ask (record s { end = end }) log high said)
  unfolding stream_answered
  asked_calm ask end log high said = are_more is_settled s.events (Event.Asked end.desk.stream end.desk.node f.vb_or_status ask high log said ∷ []) c refl

  outcomes : Outcomes Gives Calm f s
  outcomes = record {
    dropped = λ is streams. c;
    taken = λ bytes read opened. c;
    refused = λ loud st end same. refused_calm st end;
    asked = λ ask id sync reply own end read may same. asked_calm ask end _ _ _;
    logged = λ reply log read may is. c;
    counted = λ member seq reply link read may. are_more is_settled s.events (Event.Counted s.end.desk.stream s.end.desk.node f.vb_or_status member seq ∷ map (Event.Changed s.end.desk.node f.vb_or_status reply.branch) reply.changes) c
        (durable_settled_lines s.end.desk.node f.vb_or_status reply.branch reply.changes may);
  }

  pub answers_calm : Comes Calm (frame_answered_by f s)
  answers_calm = frame_comes Gives AnyCall Calm f s (record { opens = λ id ask sync. tt; closes = λ stream at. tt; counts = λ link member seq. tt; logs = tt }) outcomes

-- one frame of a peer's connection
pub peer_calm : (f : Frame) (peer : PlainPeer) (states : States) → Are is_settled (after (peer_answered f peer) states).1.events
peer_calm f peer states = it_comes (λ (t : PeerResult). Are is_settled t.events) (peer_answered f peer) states
    (always_bind Gives AnyCall Calm (λ (t : PeerResult). Are is_settled t.events) (frame_answered_by f (begun peer.producer)) _ (answers_calm f (begun peer.producer) refl) (λ s c. c))

-- its lines, as a client gets them
delivered_calm : (n c : ℕ) (lines : List Event) (bytes : List ℕ) → Are is_settled lines → Are is_settled (with_replies n c lines bytes)
unfolding with_replies
delivered_calm n c [] [] a = refl
delivered_calm n c [] (b ∷ bytes) a = refl
delivered_calm n c (line ∷ lines) bytes a =
    let p = and_parts (is_settled line) (are_all is_settled lines) a in
    are_cons is_settled line (Event.Reply n c (take (front_len bytes) bytes) ∷ with_replies n c lines (drop (front_len bytes) bytes)) p.0 (delivered_calm n c lines (drop (front_len bytes) bytes) p.1)

-- ---- a session

replied : (n c : ℕ) (reply : KvReply) → AllToldNext (reply_line n c reply ∷ [])
unfolding reply_line
replied n c reply = tt

-- a write that was made, and its answer
stored_next : (n c v uuid seq cas : ℕ) (settings : Settings) (f : Frame) (change : Change) → given_cas change.act ≡ Some cas → AllToldNext (Event.Changed n v uuid change ∷ reply_line n c (stored_reply settings f uuid seq cas) ∷ [])
unfolding reply_line
stored_next n c v uuid seq cas settings f change is =
    (λ own. record { client = c; answer = reply_frame (stored_reply settings f uuid seq cas); more = []; next = refl; made = refl; cas = is }, tt)

-- the reply of a vBucket that was asked, by what it says of a write that was made
asked_next : (n c : ℕ) (settings : Settings) (f : Frame) (reply : VbReply)
    → ((uuid seq cas : ℕ) → reply.answer ≡ answer.Stored uuid seq cas → AllToldNext (map (Event.Changed n f.vb_or_status uuid) reply.changes ++ reply_line n c (stored_reply settings f uuid seq cas) ∷ []))
    → AllToldNext (request_lines n c settings f (Some reply))
asked_next n c settings f reply stored = by reply.answer stored
  where
    by : (a : VbAnswer) → ((uuid seq cas : ℕ) → a ≡ answer.Stored uuid seq cas → AllToldNext (map (Event.Changed n f.vb_or_status uuid) reply.changes ++ reply_line n c (stored_reply settings f uuid seq cas) ∷ []))
        → AllToldNext (change_lines n f.vb_or_status a reply.changes ++ reply_lines n c (reply_to settings f a))
    by (answer.Stored uuid seq cas) made = made uuid seq cas refl
    by (answer.Status st) made = replied n c (status_reply f st)
    by (answer.Found doc) made = replied n c (found_reply settings f doc)
    by other made = tt

-- a write's, and a read's
wrote_next : (n c clock : ℕ) (settings : Settings) (f : Frame) (write : Write) (o : Option VbReply) → Gives (call.Store write clock) o → AllToldNext (request_lines n c settings f o)
wrote_next n c clock settings f write None may = replied n c (status_reply f Status.NotMyVbucket)
wrote_next n c clock settings f write (Some reply) may = asked_next n c settings f reply (λ uuid seq cas e. let (change, is, own) = may uuid seq cas e in
    subst (λ cs. AllToldNext (map (Event.Changed n f.vb_or_status uuid) cs ++ reply_line n c (stored_reply settings f uuid seq cas) ∷ [])) (sym is) (stored_next n c f.vb_or_status uuid seq cas settings f change own))

got_next : (n c : ℕ) (settings : Settings) (f : Frame) (key : List ℕ) (o : Option VbReply) → Gives (call.Get key) o → AllToldNext (request_lines n c settings f o)
got_next n c settings f key None may = replied n c (status_reply f Status.NotMyVbucket)
got_next n c settings f key (Some reply) may = asked_next n c settings f reply (λ uuid seq cas e. let changed : List Event = map (Event.Changed n f.vb_or_status uuid) reply.changes in
    next_behind changed (reply_line n c (stored_reply settings f uuid seq cas) ∷ []) (settled_next changed (durable_settled_lines n f.vb_or_status uuid reply.changes may)) (replied n c (stored_reply settings f uuid seq cas)))

module _ (before : List Event) where
  -- what is told, behind what was told before
  abbrev So : Served → Type 0
  So s = AllToldNext (before ++ s.events)

  more : (s : Served) (new : List Event) → So s → AllToldNext new → AllToldNext (before ++ (s.events ++ new))
  more s new so n = subst AllToldNext (append_assoc before s.events new) (next_behind (before ++ s.events) new so n)

  said : (s : Served) (reply : KvReply) → So s → AllToldNext (before ++ (s.events ++ reply_line s.session.who.node s.session.who.client reply ∷ []))
  said s reply so = more s (reply_line s.session.who.node s.session.who.client reply ∷ []) so (replied s.session.who.node s.session.who.client reply)

  outcome_so : (a : Awaited) (how : Option Resolution) (s : Served) → So s → So (answered_or_awaited a how s)
  outcome_so a None s so = so
  outcome_so a (Some how) s so = said s _ so

  prepared_so : (waiter : ℕ) (f : Frame) (how : Option Resolution) (a : VbAnswer) (s : Served) → So s → So (durable_answered waiter f how a s)
  prepared_so waiter f how (answer.Status st) s so = said s _ so
  prepared_so waiter f how (answer.Prepared seq cas) s so = outcome_so (awaited_by waiter f) how s so
  prepared_so waiter f how other s so = so

  durable_so : (waiter clock deadline : ℕ) (write : Write) (l : Level) (f : Frame) (s : Served) (o : Option VbReply) → Gives (call.Durable write clock l deadline waiter) o → So s → So (durable_replied waiter f s o)
  unfolding durable_replied
  durable_so waiter clock deadline write l f s None may so = said s _ so
  durable_so waiter clock deadline write l f s (Some reply) may so =
      let changed : List Event = map (Event.Changed s.session.who.node f.vb_or_status reply.branch) reply.changes in
      prepared_so waiter f (outcome_of waiter reply.resolved) reply.answer (with_lines s changed)
      (more s changed so (settled_next changed (durable_settled_lines s.session.who.node f.vb_or_status reply.branch reply.changes may)))

  request_so : (clock : ℕ) (f : Frame) (q : Result KvRequest Status) (s : Served) → So s → Comes So (request_handled clock f q s)
  unfolding request_handled told
  request_so clock f (Err st) s so = said s _ so
  request_so clock f (Ok request.Noop) s so = said s _ so
  request_so clock f (Ok (request.Hello features)) s so = said s _ so
  request_so clock f (Ok (request.Get key)) s so = (tt, λ reply may. more s _ so (got_next s.session.who.node s.session.who.client s.session.settings f key reply may))
  request_so clock f (Ok (request.Write write None)) s so = (tt, λ reply may. more s _ so (wrote_next s.session.who.node s.session.who.client clock s.session.settings f write reply may))
  request_so clock f (Ok (request.Write write (Some wish))) s so =
      either (Comes So) (nat_le MOST_DURABLE s.session.used) (Done (refused f Status.Etmpfail s))
      (durable_called f (call.Durable write clock wish.level (deadline_of clock wish.timeout) (next_waiter s.session)) s) (said s _ so)
      (tt, λ reply may. durable_so (next_waiter s.session) clock (deadline_of clock wish.timeout) write wish.level f (with_used s) reply may so)

  frame_so : (clock : ℕ) (f : Frame) (s : Served) → So s → Comes So (frame_handled clock f s)
  unfolding frame_handled
  frame_so clock f s so = either (Comes So) (f.magic == RESPONSE) (Done s) (if is_dcp f.opcode then Done (handed f s) else frame_answered clock f s) so
      (either (Comes So) (is_dcp f.opcode) (Done (handed f s)) (frame_answered clock f s) so (request_so clock f (request_of s.session.settings.json f) s so))

  fault_so : (n c : ℕ) (head : Option FaultyHead) (s : Served) → So s → AllToldNext (before ++ (s.events ++ fault_lines n c head))
  unfolding reply_line
  fault_so n c None s so = more s (Event.Closed n c ∷ []) so tt
  fault_so n c (Some head) s so = more s (fault_lines n c (Some head)) so tt

-- ---- a connection

abbrev Told : Handling → Type 0
Told h = AllToldNext h.events

module _ (clock : ℕ) where
  framed : (before : List Event) (producer : PlainProducer) (f : Frame) (s : Served) → first_frame s.session.reader ≡ Some (Ok f) → Told (went_on before producer s) → Comes (λ t. Told (went_on before producer t)) (frame_handled clock f (front_of f s))
  framed before producer f s first told = frame_so before clock f (front_of f s) told

  faulty : (before : List Event) (producer : PlainProducer) (fault : FrameFault) (s : Served) → first_frame s.session.reader ≡ Some (Err fault) → Told (went_on before producer s) → Told (went_on before producer (ended_at (Some fault) s))
  faulty before producer fault s first told = fault_so before s.session.who.node s.session.who.client (faulty_head fault s.session.reader) s told

  passed : (f : Frame) (h : Handling) → h.dcp ≡ Some f → Told h → Comes (λ a. Told (answered h a)) (frame_answered_by f (begun h.client.producer))
  passed f h is told = always_so Gives AnyCall Calm (λ a. Told (answered h a)) (frame_answered_by f (begun h.client.producer))
      (λ a calm. next_behind h.events (delivered h.client.session.who a) told
      (settled_next (delivered h.client.session.who a) (delivered_calm h.client.session.who.node h.client.session.who.client a.events a.out calm)))
      (answers_calm f (begun h.client.producer) refl)

  shut : (h : Handling) (streams : List PlainStream) → Told h → Comes (λ none. Told h) (streams_closed streams)
  shut h [] told = told
  shut h (stream ∷ more) told = either (Comes (λ none. Told h)) stream.ended (streams_closed more) (Call stream.vb (call.CloseStream stream.id) (λ reply. streams_closed more)) (shut h more told) (tt, λ reply may. shut h more told)

  over : (h : Handling) → h.client.session.closed ≡ true → Told h → Comes (λ none. Told h) (end_closed h.client.producer)
  unfolding end_closed
  over h closed told = shut h h.client.producer.streams told

  -- bytes, and an outcome
  fed_next : (piece : List ℕ) (client : PlainClient) (states : States) → Told (after (client_fed clock piece client) states).1
  fed_next piece client states = it_comes Told (client_fed clock piece client) states (fed_keeps Gives AnyCall Told clock framed faulty passed over piece client tt tt)

  posted_next : (r : Resolved) (client : PlainClient) (states : States) → Told (after (client_posted clock r client) states).1
  posted_next r client states = it_comes Told (client_posted clock r client) states (posted_keeps Gives AnyCall Told clock framed faulty passed over r client tt
      (λ a is. replied client.session.who.node client.session.who.client (outcome_reply client.session.settings a r.how)))

pub bytes_next : (c : ℕ) (bytes : List ℕ) (node : PlainNode) → AllToldNext (bytes_at c bytes node).1.events
bytes_next c bytes node = by (node.clients c)
  where
    by : (o : Option PlainClient) → AllToldNext (bytes_if c bytes node o).1.events
    by None = tt
    by (Some client) = fed_next node.clock bytes client node.vbs

one_posted : (r : Resolved) (node : PlainNode) (o : Option ℕ) → AllToldNext (posted_to r node o).1
one_posted r node None = tt
one_posted r node (Some c) = by (node.clients c)
  where
    by : (o : Option PlainClient) → AllToldNext (posted_if c r node o).1
    by None = tt
    by (Some client) = posted_next node.clock r client node.vbs

-- outcomes that are posted
pub posts_next : (rs : List Resolved) (node : PlainNode) → AllToldNext (all_posted rs node).1
posts_next [] node = tt
posts_next (r ∷ rs) node =
    let o : Option ℕ = awaiting node.clients r.waiter MAX_CLIENTS in
    next_behind (posted_to r node o).1 (all_posted rs (posted_to r node o).0).1 (one_posted r node o) (posts_next rs (posted_to r node o).0)
