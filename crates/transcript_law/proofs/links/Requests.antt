-- the requests that a consumer writes when it dials, and their first answers
use Rattle.std.specs.Prelude.{◌≡◌, ◌+◌, ◌<◌, ◌≤◌, ◌∷◌, ◌++◌, ◌==◌, ◌&&◌, ◌-◌, if◌then◌else◌, ◌^◌}
use Rattle.transcript_law.proofs.Words.{ℕ, suc, Bool, true, false, List, [], length, map, drop, take, refl, ap, sym, ◌∙◌, subst, arith, Some, None, All, nat_tests, All-nil, All-cons, Frame, Readable, RESPONSE, is_some, eq-eqb}
use Rattle.transcript_law.proofs.Words.{dcp_frame, AskInRange, message_back, StreamAsk, Done, with_frame, stream_request, frame_answered, open_request, sync_request, name_request, Served, decimal, PlainConsumer, over_why}
use Rattle.transcript_law.proofs.Words.{codes, length-decimal-le_succ, DcpMsg, Handshake, opened_unless, controlled, controlled_as, is_name, read_answered, status_sent, member_name, PlainProducer}
use Rattle.std.proofs.lemmas.List.{drop_all, drop_at, length-map, length-take}
use Rattle.std.proofs.lemmas.Fmt.{length-decimal-le}
use Rattle.dcp_consumer.specs.Dialing.{buffer_request, first_requests, stream_opaque}
use Rattle.dcp_producer.proofs.{Decimals.{sizes}, Naming.{members_named}}
use Rattle.dcp_producer.specs.declared.desk.Named.{Named}
use Rattle.dcp_producer.specs.{Serving.{acknowledged, bytes_acknowledged, with_handshake, with_window_size, open_refusal, named_by, sized, sized_as}}
use Rattle.dcp_consumer.specs.Machine.{answered, frame_step, is_streaming, message_step, response_step, unstated_step}
use Rattle.dcp_consumer.specs.declared.handshake.Dialed.{Dialed}
use Rattle.dcp_consumer.specs.declared.handshake.Handshake.{Handshake as Waiting}
use Rattle.dcp_consumer.specs.declared.handshake.ConsumerStep.TheVariants as step
use Rattle.dcp_consumer.specs.declared.handshake.Handshake.TheVariants as waiting
use Rattle.mcbp_dcp.specs.declared.message.DcpMsg.TheVariants as msg
use Rattle.transcript_law.proofs.links.Firsts.{AreServed, AreTaken, IsServed, IsTaken, Succeeds, First, open_first, buffer_first, sync_first, name_first, set_by, firsts, first_count, request_frames, asks_from, set_after, waits_after, first_answers, length_numbered, goes_on_short, ServedAt, first_served_at, TakenAt, first_taken_at, asks_last, has_last, none_over, streams_last}
use Rattle.transcript_law.proofs.links.{Frames.{readable}, Unstated.{early_unstated}}

-- a node's name is not empty and not long
name_length : (node : ℕ) → node < 16 → (1 ≤ length (member_name node)) × (length (member_name node) ≤ 20)
name_length node small =
    let short : length (decimal node) ≤ node + 1 = length-decimal-le_succ node (omega arith) in
    (omega arith, omega (arith, short))

-- nor is the decimal of a number of 32 bits
buffer_length : (buffer : ℕ) → buffer < 2 ^ 32 → length (decimal buffer) ≤ 10
buffer_length buffer low = length-decimal-le 10 buffer (omega arith) (omega arith) (omega arith)

open_readable : (n node : ℕ) → n < 2 ^ 32 → node < 16 → Readable (dcp_frame (open_request node) n 0)
open_readable n node few small =
    let l = name_length node small in
    readable (open_request node) n 0 (l.0, omega (arith, l.1)) (omega arith, omega arith) few (omega arith) (omega (arith, l.1))

sync_readable : (n : ℕ) → n < 2 ^ 32 → Readable (dcp_frame sync_request n 0)
sync_readable n few = readable sync_request n 0 (omega arith, omega arith) tt few (omega arith) (omega arith)

buffer_readable : (n buffer : ℕ) → n < 2 ^ 32 → buffer < 2 ^ 32 → Readable (dcp_frame (buffer_request buffer) n 0)
buffer_readable n buffer few low =
    let l = buffer_length buffer low in
    readable (buffer_request buffer) n 0 (omega arith, omega (arith, l)) tt few (omega arith) (omega (arith, l))

name_readable : (n node : ℕ) → n < 2 ^ 32 → node < 16 → Readable (dcp_frame (name_request node) n 0)
name_readable n node few small =
    let l = name_length node small in
    readable (name_request node) n 0 (omega arith, omega (arith, l.1)) tt few (omega arith) (omega arith)

control_readable : (n : ℕ) → n < 2 ^ 32 → Readable (dcp_frame (msg.ControlAnswer 0) n 0)
control_readable n few = readable (msg.ControlAnswer 0) n 0 tt (omega arith) few (omega arith) (omega arith)

-- a reader takes a request for a stream
pub ask_readable : (o vb : ℕ) (ask : StreamAsk) → o < 2 ^ 32 → vb < 1024 → AskInRange ask → Readable (dcp_frame (DcpMsg.StreamRequest ask) o vb)
ask_readable o vb ask few low range = readable (DcpMsg.StreamRequest ask) o vb tt range few (omega arith) (omega arith)

-- OPEN is answered with success
open_answered : (n node : ℕ) (s : Served) → node < 16 → s.end.handshake ≡ Handshake.Fresh
    → frame_answered (dcp_frame (open_request node) n 0) s ≡ Done (with_frame (with_handshake s (Handshake.Open false Named.Nobody)) (dcp_frame (DcpMsg.OpenAnswer 0) n 0))
unfolding frame_answered dcp_frame status_sent
open_answered n node s small shut =
    let l = name_length node small in
    ap (λ o. read_answered (dcp_frame (open_request node) n 0) o s) (message_back (open_request node) n 0 (l.0, omega (arith, l.1)) (omega arith, omega arith))
    ∙ ap (λ h. Done (opened_unless (open_refusal h 1) (dcp_frame (open_request node) n 0) s)) shut

-- CONTROL `connection_buffer_size`
buffer_answered : (n buffer : ℕ) (s : Served) → buffer < 2 ^ 32 → s.end.handshake ≡ Handshake.Open false Named.Nobody
    → frame_answered (dcp_frame (buffer_request buffer) n 0) s ≡ Done (with_frame (with_window_size buffer s) (dcp_frame (DcpMsg.ControlAnswer 0) n 0))
unfolding frame_answered dcp_frame status_sent
buffer_answered n buffer s low opened =
    let l = buffer_length buffer low in let f : Frame = dcp_frame (buffer_request buffer) n 0 in
    ap (λ o. read_answered f o s) (message_back (buffer_request buffer) n 0 (omega arith, omega (arith, l)) tt)
    ∙ ap (λ h. Done (sized_as (sized h (decimal buffer)) f s)) opened
    ∙ ap (λ o. Done (sized_as o f s)) ((sizes (decimal buffer) buffer).1 (refl, low))

-- CONTROL `enable_sync_writes`
sync_answered : (n : ℕ) (s : Served) → s.end.handshake ≡ Handshake.Open false Named.Nobody
    → frame_answered (dcp_frame sync_request n 0) s ≡ Done (with_frame (with_handshake s (Handshake.Open true Named.Nobody)) (dcp_frame (DcpMsg.ControlAnswer 0) n 0))
unfolding frame_answered dcp_frame status_sent
sync_answered n s opened =
    ap (λ o. read_answered (dcp_frame sync_request n 0) o s) (message_back sync_request n 0 (omega arith, omega arith) tt)
    ∙ ap (λ h. Done (controlled_as (controlled h (codes "enable_sync_writes") (codes "true")) (dcp_frame sync_request n 0) s)) opened

-- CONTROL `consumer_name`
name_answered : (n node : ℕ) (s : Served) → node < 16 → s.end.handshake ≡ Handshake.Open true Named.Nobody
    → frame_answered (dcp_frame (name_request node) n 0) s ≡ Done (with_frame (with_handshake s (Handshake.Open true (Named.Member node))) (dcp_frame (DcpMsg.ControlAnswer 0) n 0))
unfolding frame_answered dcp_frame status_sent
name_answered n node s small opened =
    let l = name_length node small in
    let fits : is_name (member_name node) ≡ true = grind (arith, nat_tests, l.0, l.1) in
    ap (λ o. read_answered (dcp_frame (name_request node) n 0) o s) (message_back (name_request node) n 0 (omega arith, omega (arith, l.1)) tt)
    ∙ ap (λ h. Done (controlled_as (controlled h (codes "consumer_name") (member_name node)) (dcp_frame (name_request node) n 0) s)) opened
    ∙ ap (λ b. Done (controlled_as (if b then Some (Handshake.Open true (named_by (member_name node))) else None) (dcp_frame (name_request node) n 0) s)) fits
    ∙ ap (λ (name : Named). Done (with_frame (with_handshake s (Handshake.Open true name)) (dcp_frame (DcpMsg.ControlAnswer 0) n 0))) (members_named node (omega arith))

-- it is set, and nothing else is changed
set_at : (s : Served) (f answer : Frame) (set : Handshake) → frame_answered f s ≡ Done (with_frame (with_handshake s set) answer) → Succeeds s f answer set
set_at s f answer set e = record { end = record s.end { handshake = set }; came = e; set_is = refl; desk = refl; asked = refl; streams = refl }

open_served : (n node : ℕ) → n < 2 ^ 32 → node < 16 → IsServed n Handshake.Fresh (open_first node)
open_served n node few small = record {
  asks = open_readable n node few small;
  says = readable (DcpMsg.OpenAnswer 0) n 0 tt (omega arith) few (omega arith) (omega arith);
  succeeds = λ s e. set_at s (dcp_frame (open_request node) n 0) (dcp_frame (DcpMsg.OpenAnswer 0) n 0) (Handshake.Open false Named.Nobody) (open_answered n node s small e);
}

-- the window's size is set, and nothing else is changed
buffer_served : (n buffer : ℕ) → n < 2 ^ 32 → buffer < 2 ^ 32 → IsServed n (Handshake.Open false Named.Nobody) (buffer_first buffer)
buffer_served n buffer few low = record {
  asks = buffer_readable n buffer few low;
  says = control_readable n few;
  succeeds = λ s e. record { end = (with_window_size buffer s).end; came = buffer_answered n buffer s low e; set_is = e; desk = refl; asked = refl; streams = refl };
}

sync_served : (n : ℕ) → n < 2 ^ 32 → IsServed n (Handshake.Open false Named.Nobody) sync_first
sync_served n few = record {
  asks = sync_readable n few;
  says = control_readable n few;
  succeeds = λ s e. set_at s (dcp_frame sync_request n 0) (dcp_frame (DcpMsg.ControlAnswer 0) n 0) (Handshake.Open true Named.Nobody) (sync_answered n s e);
}

name_served : (n node : ℕ) → n < 2 ^ 32 → node < 16 → IsServed n (Handshake.Open true Named.Nobody) (name_first node)
name_served n node few small = record {
  asks = name_readable n node few small;
  says = control_readable n few;
  succeeds = λ s e. set_at s (dcp_frame (name_request node) n 0) (dcp_frame (DcpMsg.ControlAnswer 0) n 0) (Handshake.Open true (Named.Member node)) (name_answered n node s small e);
}

-- so all the first requests are answered
pub firsts_served : (d : Dialed) → d.node < 16 → d.buffer < 2 ^ 32 → AreServed 1 Handshake.Fresh (firsts d)
unfolding firsts
firsts_served d small low = elim (d.buffer == 0) as (λ b. AreServed 1 Handshake.Fresh (open_first d.node ∷ ((if b then [] else buffer_first d.buffer ∷ []) ++ (sync_first ∷ name_first d.node ∷ [])))) [
  | true ↦ (opens, (sync_served 2 (omega arith), (name_served 3 d.node (omega arith) small, tt)))
  | false ↦ (opens, (buffer_served 2 d.buffer (omega arith) low, (sync_served 3 (omega arith), (name_served 4 d.node (omega arith) small, tt))))
]
  where
    opens : IsServed 1 Handshake.Fresh (open_first d.node)
    opens = open_served 1 d.node (omega arith) small

-- behind them the producer knows its consumer by its name
pub all_set : (d : Dialed) → set_after d (first_count d) ≡ Handshake.Open true (Named.Member d.node)
unfolding firsts
all_set d = elim (d.buffer == 0) as (λ b. let rows : List First = open_first d.node ∷ ((if b then [] else buffer_first d.buffer ∷ []) ++ (sync_first ∷ name_first d.node ∷ [])) in
    set_by Handshake.Fresh (length rows) rows ≡ Handshake.Open true (Named.Member d.node)) [ true ↦ refl | false ↦ refl ]

-- an answer that is waited for is counted
awaited_step : (c : PlainConsumer) (h : Waiting) (f : Frame) → c.handshake ≡ h → is_streaming h ≡ false → (if is_some (over_why h) then step.Dropped else if f.magic == RESPONSE then response_step c.dialed.buffer h c.asked f else message_step h f) ≡ step.Answered → frame_step c f ≡ step.Answered
unfolding unstated_step
awaited_step c h f e early is = early_unstated c f h e early ∙ ap (λ h. if is_some (over_why h) then step.Dropped else if f.magic == RESPONSE then response_step c.dialed.buffer h c.asked f else message_step h f) e ∙ is

open_taken : (d : Dialed) (node : ℕ) (next : Waiting) → answered d.buffer waiting.Opening ≡ next → IsTaken d 1 next (open_first node)
unfolding dcp_frame
open_taken d node next goes_on = record { counted = λ c same e. awaited_step c waiting.Opening (dcp_frame (msg.OpenAnswer 0) 1 0) e refl refl; goes_on = goes_on; no_end = refl; no_stream = refl }

buffer_taken : (d : Dialed) → IsTaken d 2 waiting.SyncWrites (buffer_first d.buffer)
unfolding dcp_frame
buffer_taken d = record { counted = λ c same e. awaited_step c waiting.Buffering (dcp_frame (msg.ControlAnswer 0) 2 0) e refl refl; goes_on = refl; no_end = refl; no_stream = refl }

sync_taken : (d : Dialed) (n : ℕ) → n ≡ stream_opaque d.buffer - 2 → IsTaken d n waiting.Naming sync_first
unfolding dcp_frame
sync_taken d n is = record {
  counted = λ c same e. awaited_step c waiting.SyncWrites (dcp_frame (msg.ControlAnswer 0) n 0) e refl
      (ap (λ b. if b && true then step.Answered else step.Dropped) (eq-eqb n (stream_opaque c.dialed.buffer - 2) (is ∙ ap (λ x. stream_opaque x.buffer - 2) (sym same))));
  goes_on = refl;
  no_end = refl;
  no_stream = refl;
}

name_taken : (d : Dialed) (n node : ℕ) → n ≡ stream_opaque d.buffer - 1 → IsTaken d n waiting.Asking (name_first node)
unfolding dcp_frame
name_taken d n node is = record {
  counted = λ c same e. awaited_step c waiting.Naming (dcp_frame (msg.ControlAnswer 0) n 0) e refl
      (ap (λ b. if b && true then step.Answered else step.Dropped) (eq-eqb n (stream_opaque c.dialed.buffer - 1) (is ∙ ap (λ x. stream_opaque x.buffer - 1) (sym same))));
  goes_on = refl;
  no_end = refl;
  no_stream = refl;
}

-- so the answers to all the first requests are counted
pub firsts_taken : (d : Dialed) → AreTaken d 1 (firsts d)
unfolding firsts
firsts_taken d = by (d.buffer == 0) refl
  where
    by : (b : Bool) → (d.buffer == 0) ≡ b → AreTaken d 1 (open_first d.node ∷ ((if b then [] else buffer_first d.buffer ∷ []) ++ (sync_first ∷ name_first d.node ∷ [])))
    by true e =
        let next : answered d.buffer waiting.Opening ≡ waiting.SyncWrites = ap (λ b. if b then waiting.SyncWrites else waiting.Buffering) e in
        let opaque : stream_opaque d.buffer ≡ 4 = ap (λ b. if b then 4 else 5) e in
        (open_taken d d.node waiting.SyncWrites next, (sync_taken d 2 (omega (arith, opaque)), (name_taken d 3 d.node (omega (arith, opaque)), tt)))
    by false e =
        let next : answered d.buffer waiting.Opening ≡ waiting.Buffering = ap (λ b. if b then waiting.SyncWrites else waiting.Buffering) e in
        let opaque : stream_opaque d.buffer ≡ 5 = ap (λ b. if b then 4 else 5) e in
        (open_taken d d.node waiting.Buffering next, (buffer_taken d, (sync_taken d 3 (omega (arith, opaque)), (name_taken d 4 d.node (omega (arith, opaque)), tt))))

-- the k-th of them, as its producer answers it
pub first_served : (d : Dialed) (k : ℕ) → d.node < 16 → d.buffer < 2 ^ 32 → k < first_count d → ServedAt 1 k (suc k) Handshake.Fresh (firsts d)
first_served d k small low few = first_served_at 1 k (suc k) Handshake.Fresh (firsts d) (omega arith) (firsts_served d small low) few

-- there are as many answers as requests
pub answers_count : (d : Dialed) → length (first_answers d) ≡ first_count d
answers_count d = length_numbered 1 (map (λ (x : First). x.answer) (firsts d)) ∙ length-map (firsts d) (λ (x : First). x.answer)

pub asks_count : (d : Dialed) → length (asks_from 1 (firsts d)) ≡ first_count d
asks_count d = length_numbered 1 (map (λ (x : First). x.request) (firsts d)) ∙ length-map (firsts d) (λ (x : First). x.request)

-- so none is left of the answers to all of them
pub answers_past : (d : Dialed) → drop (first_count d) (take (first_count d) (first_answers d)) ≡ []
answers_past d = drop_all (first_count d) (take (first_count d) (first_answers d)) (omega (arith, length-take (first_count d) (first_answers d)))

-- behind all of them stands the request for a stream
pub request_last : (o : ℕ) (d : Dialed) (ask : StreamAsk) → drop (first_count d) (request_frames o d ask) ≡ dcp_frame (DcpMsg.StreamRequest ask) o d.vb ∷ []
request_last o d ask = drop_at (asks_from 1 (firsts d)) (dcp_frame (DcpMsg.StreamRequest ask) o d.vb ∷ []) (first_count d) (asks_count d)

-- the next answer is one of the first
pub few_first : (d : Dialed) (seen : ℕ) (f : Frame) (more : List Frame) → drop seen (first_answers d) ≡ f ∷ more → seen < first_count d
few_first d seen f more e = let short : seen < length (first_answers d) = goes_on_short seen (first_answers d) f more e in omega (arith, answers_count d)

-- it is counted
pub first_counted : (c : PlainConsumer) (seen : ℕ) (f : Frame) (more : List Frame) → drop seen (first_answers c.dialed) ≡ f ∷ more → c.handshake ≡ waits_after c.dialed seen → frame_step c f ≡ step.Answered
first_counted c seen f more e w =
    let d : Dialed = c.dialed in
    let at : TakenAt d 1 seen (seen + 1) (firsts d) = first_taken_at d 1 seen (seen + 1) (firsts d) (omega arith) (firsts_taken d) (few_first d seen f more e) in
    let both : dcp_frame at.row.answer (seen + 1) 0 ∷ at.said.0 ≡ f ∷ more = sym at.said.1 ∙ e in let same : dcp_frame at.row.answer (seen + 1) 0 ≡ f = cc in
    subst (λ y. frame_step c y ≡ step.Answered) same (at.taken.counted c refl (w ∙ at.waits))

-- and the consumer waits for the next one
pub waits_next : (d : Dialed) (seen : ℕ) → seen < first_count d → answered d.buffer (waits_after d seen) ≡ waits_after d (suc seen)
waits_next d seen few =
    let at : TakenAt d 1 seen (seen + 1) (firsts d) = first_taken_at d 1 seen (seen + 1) (firsts d) (omega arith) (firsts_taken d) few in ap (answered d.buffer) at.waits ∙ at.taken.goes_on

-- it waits for the answer to OPEN first
pub dials_waiting : (d : Dialed) → waiting.Opening ≡ waits_after d 0
unfolding firsts
dials_waiting d = refl

-- behind the last of them for that to its request for a stream, and then it has the stream
pub waits_asking : (d : Dialed) → waits_after d (first_count d) ≡ waiting.Asking
waits_asking d = asks_last (firsts d)

pub waits_streaming : (d : Dialed) → waits_after d (suc (first_count d)) ≡ waiting.Streaming
waits_streaming d = has_last (firsts d)

-- a link is not over while an answer or its stream is waited for, and the stream is granted behind all of them
pub waits_open : (d : Dialed) (seen : ℕ) → over_why (waits_after d seen) ≡ None
waits_open d seen = none_over d 1 seen (firsts d) (firsts_taken d)

pub granted_past : (d : Dialed) (seen : ℕ) → is_streaming (waits_after d seen) ≡ true → first_count d < seen
granted_past d seen e = streams_last d 1 seen (firsts d) (firsts_taken d) e

-- they are what the consumer writes first
pub first_asked : (d : Dialed) → first_requests d.node d.buffer ≡ map (λ (x : First). x.request) (firsts d)
unfolding firsts
first_asked d = elim (d.buffer == 0) as (λ b. (open_request d.node ∷ ((if b then [] else buffer_request d.buffer ∷ []) ++ (sync_request ∷ name_request d.node ∷ [])))
    ≡ map (λ (x : First). x.request) (open_first d.node ∷ ((if b then [] else buffer_first d.buffer ∷ []) ++ (sync_first ∷ name_first d.node ∷ [])))) [ true ↦ refl | false ↦ refl ]

-- the opaque of the first request for a stream has room in its field
pub opaque_small : (buffer : ℕ) → stream_opaque buffer < 2 ^ 32
opaque_small buffer = elim (buffer == 0) as (λ b. (if b then 4 else 5) < 2 ^ 32) [ true ↦ omega arith | false ↦ omega arith ]

pub opaque_some : (buffer : ℕ) → 0 < stream_opaque buffer
opaque_some buffer = elim (buffer == 0) as (λ b. 0 < (if b then 4 else 5)) [ true ↦ omega arith | false ↦ omega arith ]

-- a reader takes all of them, and the request for a stream behind them
asks_readable : (n : ℕ) (before : Handshake) (rows : List First) (behind : List Frame) → AreServed n before rows → All Readable behind → All Readable (asks_from n rows ++ behind)
asks_readable n before [] behind all last = last
asks_readable n before (x ∷ rows) behind all last = All-cons Readable (dcp_frame x.request n 0) (asks_from (n + 1) rows ++ behind) all.0.asks (asks_readable (n + 1) x.set rows behind all.1 last)

pub requests_readable : (o : ℕ) (d : Dialed) (ask : StreamAsk) → o < 2 ^ 32 → (d.node < 16) × (d.vb < 1024) × (d.buffer < 2 ^ 32) → AskInRange ask → All Readable (request_frames o d ask)
requests_readable o d ask few small range =
    asks_readable 1 Handshake.Fresh (firsts d) (dcp_frame (DcpMsg.StreamRequest ask) o d.vb ∷ []) (firsts_served d small.0 small.2)
    (All-cons Readable (dcp_frame (DcpMsg.StreamRequest ask) o d.vb) [] (ask_readable o d.vb ask few small.1 range) (All-nil Readable))

-- the request for the stream is a program over the vBucket
pub request_answered : (o vb : ℕ) (ask : StreamAsk) (s : Served) → AskInRange ask
    → frame_answered (dcp_frame (DcpMsg.StreamRequest ask) o vb) s ≡ stream_request (dcp_frame (DcpMsg.StreamRequest ask) o vb) ask s
unfolding frame_answered dcp_frame
request_answered o vb ask s range = ap (λ x. read_answered (dcp_frame (DcpMsg.StreamRequest ask) o vb) x s) (message_back (DcpMsg.StreamRequest ask) o vb tt range)

-- and so is an acknowledgement of a seqno
pub ack_answered : (o vb seq : ℕ) (s : Served) → seq < 2 ^ 64 → frame_answered (dcp_frame (DcpMsg.SeqnoAcknowledged seq) o vb) s ≡ acknowledged (dcp_frame (DcpMsg.SeqnoAcknowledged seq) o vb) seq s
unfolding frame_answered dcp_frame
ack_answered o vb seq s range = ap (λ x. read_answered (dcp_frame (DcpMsg.SeqnoAcknowledged seq) o vb) x s) (message_back (DcpMsg.SeqnoAcknowledged seq) o vb tt range)

-- one of bytes has no answer, and leaves all but the window as it is
abbrev pub passed_end : Served → Frame → ℕ → Bool → Named → PlainProducer
passed_end s f bytes sync name = (bytes_acknowledged f bytes (with_handshake s (Handshake.Open sync name))).end

pub bytes_answered : (o bytes : ℕ) (s : Served) (sync : Bool) (name : Named) → bytes < 2 ^ 32 → s.end.handshake ≡ Handshake.Open sync name
    → (let f : Frame = dcp_frame (DcpMsg.BufferAcknowledgement bytes) o 0 in frame_answered f s ≡ Done (record s { end = passed_end s f bytes sync name }))
unfolding frame_answered dcp_frame
bytes_answered o bytes s sync name low opened =
    let f : Frame = dcp_frame (DcpMsg.BufferAcknowledgement bytes) o 0 in
    ap (λ x. read_answered f x s) (message_back (DcpMsg.BufferAcknowledgement bytes) o 0 tt low) ∙ ap (λ h. Done (bytes_acknowledged f bytes (with_handshake s h))) opened
