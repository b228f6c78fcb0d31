-- what is told of a client's connection while it is served: it is told as the one that it is, with the requests for streams that it makes, and last that it closed, where it did
use Rattle.std.specs.Prelude.{◌≡◌, ◌∷◌, ◌++◌, ◌==◌, drop, if◌then◌else◌, nat_le}
use Rattle.transcript_law.proofs.Words.{ℕ, Bool, true, false, List, [], refl, ap, sym, ◌∙◌, subst, map, not, append_assoc, Option, Some, None, Result, Ok, Err, Change, Event, Frame, FrameFault, KvRequest, RESPONSE, Status, StreamName, VbAnswer, VbReply, Done, States, after, request_handled, frame_handled, told, ended_at}
use Rattle.client_session.proofs.{Conduct.{Stays, either, frame_stays}, Keeping.{front_of}}
use Rattle.dcp_producer.proofs.Telling.{Tells, frame_so}
use Rattle.dcp_producer.specs.Producers.{PlainProducer, Served as Answered, begun, is_client}
use Rattle.dcp_producer.specs.Serving.{frame_answered as frame_answered_by}
use Rattle.dcp_producer.specs.declared.desk.Desk.{Desk}
use Rattle.node_core.proofs.Handlings.{answered, fed_free, posted_free, started}
use Rattle.node_core.specs.Calls.{left_open}
use Rattle.node_core.specs.Clients.{Handling, PlainClient, client_fed, client_posted, delivered, front_len, went_on, with_replies}
use Rattle.client_session.specs.Answers.{request_lines, change_lines, fault_lines, reply_line, reply_lines, reply_to, status_reply}
use Rattle.client_session.specs.Serving.{Served, MOST_DURABLE, awaited_by, deadline_of, durable_answered, durable_called, durable_replied, frame_answered, handed, is_dcp, next_waiter, outcome_of, outcome_answered, answered_or_awaited, refused, served, with_bytes, with_lines, with_used}
use Rattle.client_session.specs.declared.session.{Awaited.{Awaited}, Settings.{Settings}}
use Rattle.mcbp_frame.specs.Frames.{faulty_head, first_frame}
use Rattle.mcbp_frame.specs.declared.frame.FaultyHead.{FaultyHead}
use Rattle.mcbp_kv.specs.{Answers.{bare_answer}, Requests.{request_of}}
use Rattle.mcbp_kv.specs.declared.reply.KvReply.{KvReply}
use Rattle.mcbp_kv.specs.declared.request.KvRequest.TheVariants as request
use Rattle.transcript_law.proofs.lines.Heard.{AllSay, conns_more, put_same, say_more}
use Rattle.transcript_law.specs.Chronicles.{Conns, conns_lines, with_at}
use Rattle.vb_calls.proofs.Conduct.{after_always}
use Rattle.vb_calls.specs.Programs.{Always, AnyCall}
use Rattle.vb_calls.specs.declared.calls.{Resolution.{Resolution}, Resolved.{Resolved}}
use Rattle.vb_calls.specs.declared.calls.VbAnswer.TheVariants as answer
use Rattle.vb_calls.specs.declared.calls.VbCall.TheVariants as call

-- a line of a change of the node n, of a request for a stream of its connection c, or of an answer to that connection
abbrev pub IsTo : ℕ → ℕ → Event → Type 0
IsTo n c (Event.Changed m v uuid change) = m ≡ n
IsTo n c (Event.Reply m d bytes) = (m ≡ n) × (d ≡ c)
IsTo n c (Event.Asked (StreamName.Client m d) k v ask high log said) = (m ≡ n) × (d ≡ c) × (k ≡ n)
IsTo n c other = ⊥

abbrev pub AreTo : ℕ → ℕ → List Event → Type 0
AreTo n c [] = Unit {0}
AreTo n c (line ∷ lines) = IsTo n c line × AreTo n c lines

-- such lines, and behind them that it closed
abbrev pub Closes : ℕ → ℕ → List Event → Type 0
Closes n c lines = (front : List Event) × (lines ≡ front ++ Event.Closed n c ∷ []) × AreTo n c front

-- a session that serves, of this connection
abbrev pub IsOpen : ℕ → ℕ → Served → Type 0
IsOpen n c s = (s.session.who.node ≡ n) × (s.session.who.client ≡ c) × AreTo n c s.events

-- a client and its producer are told as those of the connection c of the node n
pub record IsFor (n c : ℕ) (client : PlainClient) : Type 0 where
  pub node : client.session.who.node ≡ n
  pub number : client.session.who.client ≡ c
  pub stream : client.producer.desk.stream ≡ StreamName.Client n c
  pub desk : client.producer.desk.node ≡ n

-- a connection that a node keeps is told as the one that it is, and is not closed
abbrev pub IsKept : ℕ → ℕ → Option PlainClient → Type 0
IsKept n c None = Unit {0}
IsKept n c (Some client) = IsFor n c client × (client.session.closed ≡ false)

-- what is told of one that is open, and of one that closed, and keeps no bytes
abbrev pub LeftBy : ℕ → ℕ → Bool → Handling → Type 0
LeftBy n c false h = AreTo n c h.events
LeftBy n c true h = (h.client.session.reader ≡ []) × (h.dcp ≡ None) × Closes n c h.events

abbrev pub At : ℕ → ℕ → States × Handling → Type 0
At n c x = IsFor n c x.1.client × LeftBy n c x.1.client.session.closed x.1

none_first : (reader : List ℕ) (x : Result Frame FrameFault) → reader ≡ [] → first_frame reader ≡ Some x → ⊥
unfolding first_frame
none_first reader x e first = let none : first_frame [] ≡ None = refl in let z : None ≡ Some x = sym none ∙ ap first_frame (sym e) ∙ first in cc

module _ (n c : ℕ) where
  to_more : (lines more : List Event) → AreTo n c lines → AreTo n c more → AreTo n c (lines ++ more)
  to_more [] more l m = m
  to_more (line ∷ lines) more l m = (l.0, to_more lines more l.1 m)

  replied : (m d : ℕ) (reply : KvReply) → m ≡ n → d ≡ c → AreTo n c (reply_line m d reply ∷ [])
  unfolding reply_line
  replied m d reply e f = ((e, f), tt)

  replies_to : (m d : ℕ) (reply : Option KvReply) → m ≡ n → d ≡ c → AreTo n c (reply_lines m d reply)
  replies_to m d None e f = tt
  replies_to m d (Some reply) e f = replied m d reply e f

  changes_to : (m v uuid : ℕ) (cs : List Change) → m ≡ n → AreTo n c (map (Event.Changed m v uuid) cs)
  changes_to m v uuid [] e = tt
  changes_to m v uuid (x ∷ cs) e = (e, changes_to m v uuid cs e)

  stored_to : (m v : ℕ) (a : VbAnswer) (cs : List Change) → m ≡ n → AreTo n c (change_lines m v a cs)
  stored_to m v (answer.Stored uuid seq cas) cs e = changes_to m v uuid cs e
  stored_to m v other cs e = tt

  asked_to : (m d : ℕ) (settings : Settings) (f : Frame) (reply : Option VbReply) → m ≡ n → d ≡ c → AreTo n c (request_lines m d settings f reply)
  asked_to m d settings f None e g = replies_to m d (Some (status_reply f Status.NotMyVbucket)) e g
  asked_to m d settings f (Some reply) e g = to_more (change_lines m f.vb_or_status reply.answer reply.changes) (reply_lines m d (reply_to settings f reply.answer))
      (stored_to m f.vb_or_status reply.answer reply.changes e) (replies_to m d (reply_to settings f reply.answer) e g)

  -- it is answered
  said_to : (s : Served) (reply : KvReply) → IsOpen n c s → AreTo n c (s.events ++ reply_line s.session.who.node s.session.who.client reply ∷ [])
  said_to s reply o = to_more s.events (reply_line s.session.who.node s.session.who.client reply ∷ []) o.2 (replied s.session.who.node s.session.who.client reply o.0 o.1)

  prepared_to : (a : Awaited) (how : Option Resolution) (s : Served) → IsOpen n c s → IsOpen n c (answered_or_awaited a how s)
  prepared_to a None s o = o
  prepared_to a (Some how) s o = (o.0, o.1, said_to s _ o)

  answered_to : (waiter : ℕ) (f : Frame) (how : Option Resolution) (a : VbAnswer) (s : Served) → IsOpen n c s → IsOpen n c (durable_answered waiter f how a s)
  answered_to waiter f how (answer.Status st) s o = (o.0, o.1, said_to s _ o)
  answered_to waiter f how (answer.Prepared seq cas) s o = prepared_to (awaited_by waiter f) how s o
  answered_to waiter f how other s o = o

  durable_to : (waiter : ℕ) (f : Frame) (s : Served) (reply : Option VbReply) → IsOpen n c s → IsOpen n c (durable_replied waiter f s reply)
  unfolding durable_replied
  durable_to waiter f s None o = (o.0, o.1, said_to s _ o)
  durable_to waiter f s (Some reply) o =
      let changed : List Event = map (Event.Changed s.session.who.node f.vb_or_status reply.branch) reply.changes in
      answered_to waiter f (outcome_of waiter reply.resolved) reply.answer (with_lines s changed)
      (o.0, o.1, to_more s.events changed o.2 (changes_to s.session.who.node f.vb_or_status reply.branch reply.changes o.0))

  request_to : (clock : ℕ) (f : Frame) (q : Result KvRequest Status) (s : Served) → IsOpen n c s → Always AnyCall (IsOpen n c) (request_handled clock f q s)
  unfolding request_handled told
  request_to clock f (Err st) s o = (o.0, o.1, said_to s _ o)
  request_to clock f (Ok request.Noop) s o = (o.0, o.1, said_to s _ o)
  request_to clock f (Ok (request.Hello features)) s o = (o.0, o.1, said_to s _ o)
  request_to clock f (Ok (request.Get key)) s o = (tt, λ reply any. (o.0, o.1, to_more s.events _ o.2 (asked_to s.session.who.node s.session.who.client s.session.settings f reply o.0 o.1)))
  request_to clock f (Ok (request.Write write None)) s o = (tt, λ reply any. (o.0, o.1, to_more s.events _ o.2 (asked_to s.session.who.node s.session.who.client s.session.settings f reply o.0 o.1)))
  request_to clock f (Ok (request.Write write (Some wish))) s o =
      either (Always AnyCall (IsOpen n c)) (nat_le MOST_DURABLE s.session.used) (Done (refused f Status.Etmpfail s))
      (durable_called f (call.Durable write clock wish.level (deadline_of clock wish.timeout) (next_waiter s.session)) s) (o.0, o.1, said_to s _ o)
      (tt, λ reply any. durable_to (next_waiter s.session) f (with_used s) reply o)

  frame_to : (clock : ℕ) (f : Frame) (s : Served) → IsOpen n c s → Always AnyCall (IsOpen n c) (frame_handled clock f s)
  unfolding frame_handled
  frame_to clock f s o = either (Always AnyCall (IsOpen n c)) (f.magic == RESPONSE) (Done s) (if is_dcp f.opcode then Done (handed f s) else frame_answered clock f s) o
      (either (Always AnyCall (IsOpen n c)) (is_dcp f.opcode) (Done (handed f s)) (frame_answered clock f s) o (request_to clock f (request_of s.session.settings.json f) s o))

  -- the connection closes behind a fault
  fault_left : (m d : ℕ) (head : Option FaultyHead) (lines : List Event) → m ≡ n → d ≡ c → AreTo n c lines → Closes n c (lines ++ fault_lines m d head)
  fault_left m d None lines e f l = (lines, (λ i. lines ++ Event.Closed (e i) (f i) ∷ []), l)
  fault_left m d (Some head) lines e f l =
      let reply : KvReply = bare_answer head.opcode Status.Einval head.opaque in let said : List Event = reply_line m d reply ∷ [] in (
        lines ++ said,
        (λ i. lines ++ (said ++ Event.Closed (e i) (f i) ∷ [])) ∙ sym (append_assoc lines said (Event.Closed n c ∷ [])),
        to_more lines said l (replied m d reply e f),
      )

  -- lines in front, and behind
  to_front : (lines more : List Event) → AreTo n c (lines ++ more) → AreTo n c lines × AreTo n c more
  to_front [] more l = (tt, l)
  to_front (line ∷ lines) more l = let x = to_front lines more l.1 in ((l.0, x.0), x.1)

  -- what a producer answers, as the client gets it
  delivered_to : (m d : ℕ) (lines : List Event) (bytes : List ℕ) → m ≡ n → d ≡ c → AreTo n c lines → AreTo n c (with_replies m d lines bytes)
  unfolding with_replies
  delivered_to m d [] [] e g l = tt
  delivered_to m d [] (b ∷ bytes) e g l = ((e, g), tt)
  delivered_to m d (line ∷ lines) bytes e g l = (l.0, ((e, g), delivered_to m d lines (drop (front_len bytes) bytes) e g l.1))

  -- it tells of its own requests for streams alone
  tells : (d : Desk) → d.stream ≡ StreamName.Client n c → d.node ≡ n → Tells (AreTo n c) d
  tells d stream node = record {
    more = to_more;
    asked = λ v ask high log said. subst (λ name. AreTo n c (Event.Asked name d.node v ask high log said ∷ [])) (sym stream) ((refl, refl, node), tt);
    counted = λ link v member seq uuid changes. let z : true ≡ false = sym (ap is_client stream) ∙ link in cc;
  }

  answered_to_client : (f : Frame) (producer : PlainProducer) → producer.desk.stream ≡ StreamName.Client n c → producer.desk.node ≡ n
      → Always AnyCall (λ a. AreTo n c a.events × (a.end.desk ≡ producer.desk)) (frame_answered_by f (begun producer))
  answered_to_client f producer stream node = frame_so (λ call. Unit {0}) (AreTo n c) producer.desk (record { opens = λ id ask sync. tt; closes = λ id. tt; counts = λ member seq. tt; logs = tt }) (tells producer.desk stream node) f (begun producer) (tt, refl)

  open_at : (states : States) (h : Handling) → h.client.session.closed ≡ false → IsFor n c h.client → AreTo n c h.events → At n c (states, h)
  open_at states h e is lines = (is, subst (λ b. LeftBy n c b h) (sym e) lines)

  lines_of : (h : Handling) → h.client.session.closed ≡ false → LeftBy n c h.client.session.closed h → AreTo n c h.events
  lines_of h e left = subst (λ b. LeftBy n c b h) e left

  module _ (clock : ℕ) where
    framed : (before : List Event) (producer : PlainProducer) (f : Frame) (states : States) (s : Served) → s.dcp ≡ None → first_frame s.session.reader ≡ Some (Ok f) → At n c (states, went_on before producer s)
        → let x = after (frame_handled clock f (front_of f s)) states in At n c (x.0, went_on before producer x.1)
    framed before producer f states s free first p = by s.session.closed refl
      where
        x : States × Served
        x = after (frame_handled clock f (front_of f s)) states

        by : (b : Bool) → s.session.closed ≡ b → At n c (x.0, went_on before producer x.1)
        by true e = absurd (none_first s.session.reader (Ok f) (subst (λ b. LeftBy n c b (went_on before producer s)) e p.1).0 first)
        by false e =
            let stays : Stays (front_of f s) x.1 = after_always AnyCall (Stays (front_of f s)) (frame_handled clock f (front_of f s)) states
            (frame_stays (front_of f s) clock f (front_of f s) (record { who = refl; reader = refl; closed = refl })) in
            let lines = to_front before s.events (lines_of (went_on before producer s) e p.1) in
            let now : IsOpen n c x.1 = after_always AnyCall (IsOpen n c) (frame_handled clock f (front_of f s)) states (frame_to clock f (front_of f s) (p.0.node, p.0.number, lines.1)) in
            open_at x.0 (went_on before producer x.1) (stays.closed ∙ e) (record { node = now.0; number = now.1; stream = p.0.stream; desk = p.0.desk }) (to_more before x.1.events lines.0 now.2)

    faulty : (before : List Event) (producer : PlainProducer) (fault : FrameFault) (states : States) (s : Served) → s.dcp ≡ None → first_frame s.session.reader ≡ Some (Err fault) → At n c (states, went_on before producer s)
        → At n c (states, went_on before producer (ended_at (Some fault) s))
    faulty before producer fault states s free first p = by s.session.closed refl
      where
        head : Option FaultyHead
        head = faulty_head fault s.session.reader

        last : List Event
        last = fault_lines s.session.who.node s.session.who.client head

        by : (b : Bool) → s.session.closed ≡ b → At n c (states, went_on before producer (ended_at (Some fault) s))
        by true e = absurd (none_first s.session.reader (Err fault) (subst (λ b. LeftBy n c b (went_on before producer s)) e p.1).0 first)
        by false e = (
          record { node = p.0.node; number = p.0.number; stream = p.0.stream; desk = p.0.desk },
          (refl, free, subst (Closes n c) (append_assoc before s.events last) (fault_left s.session.who.node s.session.who.client head (before ++ s.events) p.0.node p.0.number (lines_of (went_on before producer s) e p.1))),
        )

    passed : (f : Frame) (states : States) (h : Handling) → h.dcp ≡ Some f → At n c (states, h) → let x = after (frame_answered_by f (begun h.client.producer)) states in At n c (x.0, answered h x.1)
    passed f states h e p = by h.client.session.closed refl
      where
        x : States × Answered
        x = after (frame_answered_by f (begun h.client.producer)) states

        by : (b : Bool) → h.client.session.closed ≡ b → At n c (x.0, answered h x.1)
        by true q = let z : None ≡ Some f = sym (subst (λ b. LeftBy n c b h) q p.1).1 ∙ e in cc
        by false q =
            let now = after_always AnyCall (λ a. AreTo n c a.events × (a.end.desk ≡ h.client.producer.desk)) (frame_answered_by f (begun h.client.producer)) states (answered_to_client f h.client.producer p.0.stream p.0.desk) in
            open_at x.0 (answered h x.1) q (record { node = p.0.node; number = p.0.number; stream = ap (λ (d : Desk). d.stream) now.1 ∙ p.0.stream; desk = ap (λ (d : Desk). d.node) now.1 ∙ p.0.desk })
            (to_more h.events (delivered h.client.session.who x.1) (lines_of h q p.1) (delivered_to h.client.session.who.node h.client.session.who.client x.1.events x.1.out p.0.node p.0.number now.0))

    -- an open connection that is given bytes, or told an outcome
    module _ (client : PlainClient) (states : States) (kept : IsKept n c (Some client)) where
      pub fed_at : (piece : List ℕ) → At n c (after (client_fed clock piece client) states)
      fed_at piece = fed_free (At n c) clock framed faulty passed (At n c) (λ states h e p. p) (λ states h e p. p) piece client states
          (open_at states (started client) kept.1 kept.0 tt) (open_at states (went_on [] client.producer (with_bytes (client.session.reader ++ piece) (served client.session []))) kept.1 (again piece) tt)
        where
          again : (piece : List ℕ) → IsFor n c (record { session = record client.session { reader = client.session.reader ++ piece }; producer = client.producer })
          again piece = record { node = kept.0.node; number = kept.0.number; stream = kept.0.stream; desk = kept.0.desk }

      pub posted_at : (r : Resolved) → At n c (after (client_posted clock r client) states)
      posted_at r = posted_free (At n c) clock framed faulty passed (At n c) (λ states h e p. p) (λ states h e p. p) r client states (open_at states (started client) kept.1 kept.0 tt)
          (λ a e. open_at states (went_on [] client.producer (outcome_answered a r.how (served client.session []))) kept.1
          (record { node = kept.0.node; number = kept.0.number; stream = kept.0.stream; desk = kept.0.desk }) (said_to (served client.session []) _ (kept.0.node, kept.0.number, tt)))

-- one that was served, which may have closed
pub kept_left : (n c : ℕ) (client : PlainClient) → IsFor n c client → IsKept n c (left_open client)
kept_left n c client is = by client.session.closed refl
  where
    by : (b : Bool) → client.session.closed ≡ b → IsKept n c (if b then None else Some client)
    by true e = tt
    by false e = (is, e)

-- ---- what these lines say, where the connection was told open

to_say : (conns : Conns) (n c : ℕ) (lines : List Event) → conns n c ≡ true → AreTo n c lines → AllSay conns lines
to_say conns n c [] opened l = tt
to_say conns n c (Event.Changed m v uuid change ∷ lines) opened l = (tt, to_say conns n c lines opened l.1)
to_say conns n c (Event.Reply m d bytes ∷ lines) opened l = ((λ i. conns (l.0.0 i) (l.0.1 i)) ∙ opened, to_say conns n c lines opened l.1)
to_say conns n c (Event.Asked (StreamName.Client m d) k v ask high log said ∷ lines) opened l = (tt, to_say conns n c lines opened l.1)
to_say conns n c (other ∷ lines) opened l = absurd l.0

to_same : (conns : Conns) (n c : ℕ) (lines : List Event) → AreTo n c lines → conns_lines conns lines ≡ conns
to_same conns n c [] l = refl
to_same conns n c (Event.Changed m v uuid change ∷ lines) l = to_same conns n c lines l.1
to_same conns n c (Event.Reply m d bytes ∷ lines) l = to_same conns n c lines l.1
to_same conns n c (Event.Asked (StreamName.Client m d) k v ask high log said ∷ lines) l = to_same conns n c lines l.1
to_same conns n c (other ∷ lines) l = absurd l.0

pub left_say : (conns : Conns) (n c : ℕ) (closed : Bool) (h : Handling) → conns n c ≡ true → LeftBy n c closed h
    → AllSay conns h.events × (conns_lines conns h.events ≡ with_at conns n c (not closed))
left_say conns n c false h opened l = (to_say conns n c h.events opened l, to_same conns n c h.events l ∙ sym (put_same conns n c true opened))
left_say conns n c true h opened l =
    let front : List Event = l.2.0 in let last : List Event = Event.Closed n c ∷ [] in let same = to_same conns n c front l.2.2 in
    subst (λ xs. AllSay conns xs × (conns_lines conns xs ≡ with_at conns n c false)) (sym l.2.1)
    (say_more conns front last (to_say conns n c front opened l.2.2) (ap (λ (t : Conns). t n c) same ∙ opened, tt), conns_more conns front last ∙ ap (λ (t : Conns). with_at t n c false) same)
