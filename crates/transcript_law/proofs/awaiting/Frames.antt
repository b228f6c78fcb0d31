-- a client's connection awaits only what is outstanding, behind all that it sends and is told
use Rattle.std.specs.Prelude.{◌≡◌, ◌<◌, ◌^◌, ◌==◌, ◌||◌, ◌∷◌, if◌then◌else◌, nat_le}
use Rattle.transcript_law.proofs.Words.{ℕ, Bool, true, false, List, [], map, refl, ap, sym, ◌∙◌, ⊎_elim, arith, cond, eqb-false, Option, Some, None, is_some, Result, Ok, Err, Frame, FrameFault, Event, KvRequest, RESPONSE, Status, Plain, PlainProducer, PlainSession, VbCall, VbReply, States, after, begun, Call, Done, end_closed, frame_answered, frame_handled, plain_step, request_handled, told, Write, eq-eqb}
use Rattle.client_session.proofs.{Conduct.{either}, Keeping.{front_of}}
use Rattle.client_session.specs.Serving.{MOST_DURABLE, Served as Session, awaited_by, deadline_of, durable_answered, durable_called, durable_replied, frame_answered as served_by, handed, is_dcp, is_held, next_waiter, outcome_of, refused, with_lines, with_used, ended_at}
use Rattle.client_session.specs.declared.session.Awaited.{Awaited}
use Rattle.dcp_producer.proofs.Outcomes.{frame_comes}
use Rattle.dcp_producer.specs.Producers.{Served, is_client}
unfoldable use Rattle.dcp_producer.specs.Serving.{status_sent, stream_answered}
use Rattle.mcbp_frame.specs.Frames.{first_frame}
use Rattle.mcbp_kv.specs.Requests.{request_of}
use Rattle.mcbp_kv.specs.declared.durable.Durability.{Durability}
use Rattle.mcbp_kv.specs.declared.request.KvRequest.TheVariants as request
use Rattle.node_core.proofs.Handlings.{answered}
use Rattle.node_core.specs.Clients.{Handling, PlainClient, client_fed, client_posted, went_on}
use Rattle.std.specs.List.{find}
use Rattle.std.specs.Option.{option_map}
use Rattle.transcript_law.proofs.awaiting.{Calls.{places}, States.{IsGentle, Kept, ran_kept}}
use Rattle.transcript_law.proofs.indexers.Turns.{fed_goes, posted_goes}
use Rattle.transcript_law.proofs.invariant.{AtRest.{Still, still_ran}, CallsKept.{AllAt}, TimelyCalls.{Makes, closed_makes, served_tame}}
use Rattle.transcript_law.specs.Waits.{IsOutstandingAt, IsTold}
use Rattle.vb_calls.proofs.Conduct.{after_always, always_so}
use Rattle.vb_calls.specs.Programs.{Always, AnyReply, Prog}
use Rattle.vb_calls.specs.States.{call_at}
use Rattle.vb_calls.specs.declared.calls.{Resolution.{Resolution}, Resolved.{Resolved}, VbAnswer.{VbAnswer}}
use Rattle.vb_calls.specs.declared.calls.VbAnswer.TheVariants as answer
use Rattle.vb_calls.specs.declared.calls.VbCall.TheVariants as call
use Rattle.vb_events.specs.declared.event.Event.TheVariants as event
use Rattle.vb_types.specs.declared.status.Status.TheVariants.{Etmpfail}
use Rattle.vbucket.specs.Laws.{IsTimely}

-- ---- the calls that it makes

request_gentle : (clock : ℕ) → clock < 2 ^ 64 → (f : Frame) (asked : Result KvRequest Status) (s : Session) → Makes IsGentle (request_handled clock f asked s)
unfolding request_handled
request_gentle clock small f (Err st) s = tt
request_gentle clock small f (Ok request.Noop) s = tt
request_gentle clock small f (Ok (request.Hello features)) s = tt
request_gentle clock small f (Ok (request.Get key)) s = ((tt, tt), λ reply any. tt)
request_gentle clock small f (Ok (request.Write write None)) s = ((tt, small), λ reply any. tt)
request_gentle clock small f (Ok (request.Write write (Some wish))) s =
    either (Makes IsGentle) (nat_le MOST_DURABLE s.session.used) (Done (refused f Etmpfail s))
    (durable_called f (call.Durable write clock wish.level (deadline_of clock wish.timeout) (next_waiter s.session)) s) tt ((tt, small), λ reply any. tt)

served_gentle : (clock : ℕ) → clock < 2 ^ 64 → (f : Frame) (s : Session) → Makes IsGentle (frame_handled clock f s)
unfolding frame_handled
served_gentle clock small f s = either (Makes IsGentle) (f.magic == RESPONSE) (Done s) (if is_dcp f.opcode then Done (handed f s) else served_by clock f s) tt
    (either (Makes IsGentle) (is_dcp f.opcode) (Done (handed f s)) (served_by clock f s) tt (request_gentle clock small f (request_of s.session.settings.json f) s))

-- at a client's desk a producer counts no acknowledgement
answered_so : (f : Frame) (s : Served) → is_client s.end.desk.stream ≡ true → Always (λ v made. IsGentle made) (λ t. t.end.desk ≡ s.end.desk) (frame_answered f s)
unfolding status_sent stream_answered
answered_so f s is =
    frame_comes AnyReply (λ v made. IsGentle made) (λ t. t.end.desk ≡ s.end.desk) f s
    (record { opens = λ id ask sync. (tt, tt); closes = λ stream at. (tt, tt); counts = λ link member seq. (let z : true ≡ false = sym is ∙ link in cc); logs = (tt, tt) })
    (record {
      dropped = λ is streams. refl;
      taken = λ bytes read opened. refl;
      refused = λ loud st end same. same;
      asked = λ ask id sync reply own end read may same. same;
      logged = λ reply log read may is. refl;
      counted = λ member seq reply link read may. refl;
    })

-- ---- what it awaits

-- an outcome that is told is found
told_found : (k : ℕ) (rs : List Resolved) → IsTold k rs → outcome_of k rs ≡ None → ⊥
told_found k [] i none = i
told_found k (r ∷ rs) i none = by (r.waiter == k) refl none (told_found k rs)
  where
    by : (b : Bool) → (r.waiter == k) ≡ b → option_map (λ (r : Resolved). r.how) (cond b (Some r) (find (λ r. r.waiter == k) rs)) ≡ None → (IsTold k rs → outcome_of k rs ≡ None → ⊥) → ⊥
    by true e found rest = cc
    by false e found rest = ⊎_elim (λ same. eqb-false r.waiter k e same) (λ j. rest j found) i

-- what a session awaits behind a vBucket's answer, if it awaited nothing: it was prepared, and its outcome is not told
record Awaits (waiter : ℕ) (how : Option Resolution) (said : VbAnswer) (a : Awaited) : Type 0 where
  pub seq : ℕ
  pub cas : ℕ
  pub is : said ≡ answer.Prepared seq cas
  pub untold : how ≡ None
  pub number : waiter ≡ a.waiter

awaits_of : (waiter : ℕ) (f : Frame) (how : Option Resolution) (said : VbAnswer) (t : Session) (a : Awaited) → t.session.awaited ≡ None → (durable_answered waiter f how said t).session.awaited ≡ Some a → Awaits waiter how said a
awaits_of waiter f how (answer.Status st) t a idle e = let z : None ≡ Some a = sym idle ∙ e in absurd (cc z)
awaits_of waiter f None (answer.Prepared seq cas) t a idle e = let same : awaited_by waiter f ≡ a = cc in record { seq = seq; cas = cas; is = refl; untold = refl; number = ap (λ (x : Awaited). x.waiter) same }
awaits_of waiter f (Some how) (answer.Prepared seq cas) t a idle e = absurd (cc e)
awaits_of waiter f how other t a idle e = let z : None ≡ Some a = sym idle ∙ e in absurd (cc z)

-- each outcome that a session awaits is of what is outstanding
abbrev pub Backs : States × Session → Type 0
Backs x = (a : Awaited) → x.1.session.awaited ≡ Some a → IsOutstandingAt a.waiter x.0

none_awaited : (states : States) (s : Session) → s.session.awaited ≡ None → Backs (states, s)
none_awaited states s idle a e = let z : None ≡ Some a = sym idle ∙ e in absurd (cc z)

-- a session that serves a frame awaits nothing
pub not_held : (b : Bool) (o : Option Awaited) → (b || is_some o) ≡ false → o ≡ None
not_held true o e = cc
not_held false None e = refl
not_held false (Some a) e = cc

timely_of : {B : Type 0} (p : Prog B) → Makes IsGentle p → Makes IsTimely p
timely_of (Done b) m = tt
timely_of (Call v made next) m = (m.0.1, λ reply any. timely_of (next reply) (m.1 reply any))

module _ (clock : ℕ) (small : clock < 2 ^ 64) where
  durable_backs : (f : Frame) (write : Write) (wish : Durability) (s : Session) (states : States) → AllAt Still states → s.session.awaited ≡ None
      → Backs (after (durable_called f (call.Durable write clock wish.level (deadline_of clock wish.timeout) (next_waiter s.session)) s) states)
  unfolding durable_replied
  durable_backs f write wish s states all idle = by (states f.vb_or_status) refl
    where
      made : VbCall
      made = call.Durable write clock wish.level (deadline_of clock wish.timeout) (next_waiter s.session)

      by : (o : Option Plain) → states f.vb_or_status ≡ o → let step = call_at states f.vb_or_status made o in Backs (step.0, durable_replied (next_waiter s.session) f (with_used s) step.1)
      by None e a waits = let z : None ≡ Some a = sym idle ∙ waits in absurd (cc z)
      by (Some vb) e a waits =
          let came : Plain × VbReply = plain_step vb made in
          let k = awaits_of (next_waiter s.session) f (outcome_of (next_waiter s.session) came.1.resolved) came.1.answer
          (with_lines (with_used s) (map (event.Changed s.session.who.node f.vb_or_status came.1.branch) came.1.changes)) a idle waits in
          let still : Still vb = all f.vb_or_status vb e in
          ⊎_elim
          (λ i. record { v = f.vb_or_status; vb = came.0; there = ap (λ b. if b then Some came.0 else states f.vb_or_status) (eq-eqb f.vb_or_status f.vb_or_status refl); w = _; among = i; number = k.number })
          (λ told. absurd (told_found (next_waiter s.session) came.1.resolved told k.untold))
          (places vb write clock (record { level = wish.level; deadline = deadline_of clock wish.timeout; waiter = next_waiter s.session }) k.seq k.cas still.0 small (λ e. omega (arith, e)) k.is)

  request_backs : (f : Frame) (r : Result KvRequest Status) (s : Session) (states : States) → AllAt Still states → s.session.awaited ≡ None → Backs (after (request_handled clock f r s) states)
  unfolding request_handled told
  request_backs f (Err st) s states all idle a e = let z : None ≡ Some a = sym idle ∙ e in absurd (cc z)
  request_backs f (Ok request.Noop) s states all idle a e = let z : None ≡ Some a = sym idle ∙ e in absurd (cc z)
  request_backs f (Ok (request.Hello features)) s states all idle a e = let z : None ≡ Some a = sym idle ∙ e in absurd (cc z)
  request_backs f (Ok (request.Get key)) s states all idle a e = let z : None ≡ Some a = sym idle ∙ e in absurd (cc z)
  request_backs f (Ok (request.Write write None)) s states all idle a e = let z : None ≡ Some a = sym idle ∙ e in absurd (cc z)
  request_backs f (Ok (request.Write write (Some wish))) s states all idle a e =
      either (λ prog. Backs (after prog states)) (nat_le MOST_DURABLE s.session.used) (Done (refused f Etmpfail s))
      (durable_called f (call.Durable write clock wish.level (deadline_of clock wish.timeout) (next_waiter s.session)) s) (none_awaited states (refused f Etmpfail s) idle) (durable_backs f write wish s states all idle) a e

  frame_backs : (f : Frame) (s : Session) (states : States) → AllAt Still states → s.session.awaited ≡ None → Backs (after (frame_handled clock f s) states)
  unfolding frame_handled
  frame_backs f s states all idle =
      either (λ prog. Backs (after prog states)) (f.magic == RESPONSE) (Done s) (if is_dcp f.opcode then Done (handed f s) else served_by clock f s) (none_awaited states s idle)
      (either (λ prog. Backs (after prog states)) (is_dcp f.opcode) (Done (handed f s)) (served_by clock f s) (none_awaited states (handed f s) idle) (request_backs f (request_of s.session.settings.json f) s states all idle))

  -- ---- all that it does

  module _ (old : States) where
    -- the vBuckets are sound and at rest, who waited waits on, and what this connection awaits is outstanding
    pub record Well (x : States × Handling) : Type 0 where
      pub still : AllAt Still x.0
      pub kept : Kept old x.0
      pub client : is_client x.1.client.producer.desk.stream ≡ true
      pub backs : (a : Awaited) → x.1.client.session.awaited ≡ Some a → IsOutstandingAt a.waiter x.0

    gentle_well : {A : Type 0} (prog : Prog A) (states : States) (h h' : Handling) → Makes IsGentle prog → is_client h'.client.producer.desk.stream ≡ true → h'.client.session ≡ h.client.session → Well (states, h) → Well ((after prog states).0, h')
    gentle_well prog states h h' makes client same x = record {
      still = still_ran prog states (timely_of prog makes) x.still;
      kept = λ k o. ran_kept prog states makes x.still k (x.kept k o);
      client = client;
      backs = λ a e. ran_kept prog states makes x.still a.waiter (x.backs a (sym (ap (λ (s : PlainSession). s.awaited) same) ∙ e));
    }

    framed : (before : List Event) (producer : PlainProducer) (f : Frame) (states : States) (s : Session) → is_held s ≡ false → first_frame s.session.reader ≡ Some (Ok f) → Well (states, went_on before producer s)
        → let x = after (frame_handled clock f (front_of f s)) states in Well (x.0, went_on before producer x.1)
    framed before producer f states s free first p = record {
      still = still_ran (frame_handled clock f (front_of f s)) states (served_tame clock small f (front_of f s)) p.still;
      kept = λ k o. ran_kept (frame_handled clock f (front_of f s)) states (served_gentle clock small f (front_of f s)) p.still k (p.kept k o);
      client = p.client;
      backs = frame_backs f (front_of f s) states p.still (not_held (is_some s.dcp) s.session.awaited free);
    }

    faulty : (before : List Event) (producer : PlainProducer) (fault : FrameFault) (states : States) (s : Session) → is_held s ≡ false → first_frame s.session.reader ≡ Some (Err fault) → Well (states, went_on before producer s)
        → Well (states, went_on before producer (ended_at (Some fault) s))
    faulty before producer fault states s free first p = record { still = p.still; kept = p.kept; client = p.client; backs = p.backs }

    passed : (f : Frame) (states : States) (h : Handling) → h.dcp ≡ Some f → Well (states, h) → let x = after (frame_answered f (begun h.client.producer)) states in Well (x.0, answered h x.1)
    passed f states h e p =
        let run : Prog Served = frame_answered f (begun h.client.producer) in
        let x : States × Served = after run states in
        let so = answered_so f (begun h.client.producer) p.client in
        let desk : x.1.end.desk ≡ h.client.producer.desk = after_always (λ v made. IsGentle made) (λ (t : Served). t.end.desk ≡ h.client.producer.desk) run states so in
        gentle_well run states h (answered h x.1) (always_so AnyReply (λ v made. IsGentle made) (λ (t : Served). t.end.desk ≡ h.client.producer.desk) (λ t. Unit {0}) run (λ t u. tt) so)
        (ap (λ d. is_client d.stream) desk ∙ p.client) refl p

    over : (states : States) (h : Handling) → h.dcp ≡ None → h.client.session.closed ≡ true → Well (states, h) → Well ((after (end_closed h.client.producer) states).0, h)
    over states h none closed p = gentle_well (end_closed h.client.producer) states h h (closed_makes IsGentle (λ id. (tt, tt)) h.client.producer) p.client refl p

    pub fed_well : (piece : List ℕ) (client : PlainClient) (states : States) → client.session.closed ≡ false → AllAt Still states → Kept old states → is_client client.producer.desk.stream ≡ true
        → ((a : Awaited) → client.session.awaited ≡ Some a → IsOutstandingAt a.waiter states) → Well (after (client_fed clock piece client) states)
    fed_well piece client states alive still kept is backs = (fed_goes Well clock framed faulty passed over piece client states alive (record { still = still; kept = kept; client = is; backs = backs })).0

    -- an outcome that it awaits is told: it awaits that no more
    pub posted_well : (r : Resolved) (client : PlainClient) (states : States) (a : Awaited) → client.session.awaited ≡ Some a → (a.waiter == r.waiter) ≡ true → AllAt Still states → Kept old states → is_client client.producer.desk.stream ≡ true
        → Well (after (client_posted clock r client) states)
    posted_well r client states a waits same still kept is = (posted_goes Well clock framed faulty passed over r client states a waits same (record { still = still; kept = kept; client = is; backs = λ b e. absurd (cc e) })).0

-- what it did leaves who waited, whatever it awaited itself
pub record Ran (clock : ℕ) (old : States) (x : States × Handling) : Type 0 where
  pub still : AllAt Still x.0
  pub kept : Kept old x.0
  pub client : is_client x.1.client.producer.desk.stream ≡ true

module _ (clock : ℕ) (small : clock < 2 ^ 64) where
  gentle_ran : {A : Type 0} (old : States) (prog : Prog A) (states : States) (h h' : Handling) → Makes IsGentle prog → is_client h'.client.producer.desk.stream ≡ true → Ran clock old (states, h) → Ran clock old ((after prog states).0, h')
  gentle_ran old prog states h h' makes client x = record { still = still_ran prog states (timely_of prog makes) x.still; kept = λ k o. ran_kept prog states makes x.still k (x.kept k o); client = client }

  pub ran_well : (piece : List ℕ) (client : PlainClient) (states : States) → client.session.closed ≡ false → AllAt Still states → is_client client.producer.desk.stream ≡ true → Ran clock states (after (client_fed clock piece client) states)
  ran_well piece client states alive still is = (fed_goes (Ran clock states) clock
      (λ before producer f st s free first p. gentle_ran states (frame_handled clock f (front_of f s)) st (went_on before producer s) (went_on before producer (after (frame_handled clock f (front_of f s)) st).1) (served_gentle clock small f (front_of f s)) p.client p)
      (λ before producer fault st s free first p. record { still = p.still; kept = p.kept; client = p.client })
      (λ f st h e p.
      let run : Prog Served = frame_answered f (begun h.client.producer) in let so = answered_so f (begun h.client.producer) p.client in
      let desk = after_always (λ v made. IsGentle made) (λ (t : Served). t.end.desk ≡ h.client.producer.desk) run st so in
      gentle_ran states run st h (answered h (after run st).1) (always_so AnyReply (λ v made. IsGentle made) (λ (t : Served). t.end.desk ≡ h.client.producer.desk) (λ t. Unit {0}) run (λ t u. tt) so) (ap (λ d. is_client d.stream) desk ∙ p.client) p)
      (λ st h none closed p. gentle_ran states (end_closed h.client.producer) st h h (closed_makes IsGentle (λ id. (tt, tt)) h.client.producer) p.client p)
      piece client states alive (record { still = still; kept = λ k o. o; client = is })).0
