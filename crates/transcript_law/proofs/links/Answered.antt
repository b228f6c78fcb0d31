-- how a request for a stream is answered, over the plain vBuckets of a node, and where the two ends of its link stand then
use Rattle.std.specs.Prelude.{◌≡◌, ◌<◌, ◌≤◌, ◌∷◌, ◌++◌, ◌==◌, ◌&&◌, ◌^◌, ◌+◌, ◌-◌, if◌then◌else◌, nat_le}
use Rattle.transcript_law.proofs.Words.{answered, ℕ, Bool, true, false, List, [], length, take, drop, refl, ap, sym, ◌∙◌, subst, arith, Option, Some, None, not}
use Rattle.transcript_law.proofs.Words.{All, eq-eqb, ne_eqb, nat_tests, drop-append-le, All-nil, Frame, spelling, Readable, dcp_frame, EntryInRange, AskAnswer, Position}
use Rattle.transcript_law.proofs.Words.{LogEntry, StreamAsk, front, uuid_of, IsFront, Member, Stream, Plain, is_active, stream_at, new_stream, Role, Sound, effective_se, request_of, stream_verdict, PlainProducer, granted, PlainLink}
use Rattle.transcript_law.proofs.Words.{producer_node, consumer_node, Granted, Feed, option_or, All-weaker, find-append, DcpMsg, Handshake, is_some, nat_lt, AskInRange, Event, Status, Verdict}
use Rattle.transcript_law.proofs.Words.{Continue, Roll, rule, open_refusal, after, States, with_vb_at, call_at, with_frame, refuse, stream_request, frame_answered, PlainStream, Served, VbCall}
use Rattle.transcript_law.proofs.Words.{VbReply, judged_open, open_outcome, ask_verdict, high_of_reply, request_refusal, stream_answered, is_sync, told}
use Rattle.std.proofs.lemmas.List.{take_all}
use Rattle.dcp_consumer.specs.declared.handshake.Dialed.{Dialed}
use Rattle.dcp_producer.specs.declared.desk.Named.{Named}
use Rattle.transcript_law.proofs.invariant.Agreement.{EntryFits, Handing, IsUnsaid, IsUpward, gives_in, spoken, answer_frame, is_granted, StreamAgrees, UpIs, DownAgrees, Asking, IsRefused, PointAgrees, wants_of, EndsStand, Talk, top}
use Rattle.transcript_law.proofs.invariant.Carrying.{StreamsChanged}
use Rattle.transcript_law.proofs.{links.Frames.{readable}, links.Spoken.{answer_spoken, spoken_push}}
use Rattle.transcript_law.proofs.links.Talks.{served_link, next_up, more_down}
use Rattle.transcript_law.proofs.invariant.Carried.{sound_streams}
use Rattle.std.proofs.lemmas.Bool.{leb-true}
use Rattle.vbucket.proofs.Fed.{feeds_opened}
use Rattle.dcp_producer.specs.{Firsts.{first_of}, Producers.{is_client, stream_at as stream_of_vb}, Serving.{gives_of, log_of_reply, next_stream, opening_requested, opens, refusal_requested, with_asked, with_granted}}
use Rattle.transcript_law.proofs.links.Firsts.{first_answers, first_count, request_frames, set_after}
use Rattle.transcript_law.proofs.links.Requests.{all_set, answers_count, request_answered, request_last}
use Rattle.{dcp_consumer.specs.Dialing.{flagged}, takeover.specs.TakingOver.{new_take_over}, takeover.specs.declared.take_over.TakeOver.{TakeOver}, takeover.specs.declared.take_over.TakeStep.{TakeStep}, takeover.specs.declared.take_over.TakeStep.TheVariants.{Pend}}
use Rattle.dcp_producer.specs.Serving.{place_of_reply}
use Rattle.transcript_law.proofs.invariant.NoneUnread.{none_source}
use Rattle.vb_calls.specs.Streams.{is_in_memory}
use Rattle.vb_types.specs.declared.stream.Place.{Place}

-- the states with this vBucket at v, and else the same
pub record StatesAre (st : States) (v : ℕ) (vb : Plain) (st' : States) : Type 0 where
  pub here : st' v ≡ Some vb
  pub there : (q : ℕ) → (q ≡ v → ⊥) → st' q ≡ st q

-- the line of the answer to a request
abbrev pub told_line : Served → ℕ → StreamAsk → List LogEntry → ℕ → AskAnswer → Event
told_line s vb ask log high said = Event.Asked s.end.desk.stream s.end.desk.node vb ask high log said

-- a request with the opaque o was answered with a refusal: one more was asked for
abbrev pub refused_told : Served → ℕ → ℕ → StreamAsk → List LogEntry → ℕ → AskAnswer → Served
refused_told s o vb ask log high said = with_frame (record s { end = with_asked s.end; events = s.events ++ told_line s vb ask log high said ∷ [] }) (answer_frame o [] said)

-- the stream of the number id that begins; its consumer has all up to the start that it asked for
abbrev pub begun_stream : ℕ → ℕ → ℕ → StreamAsk → PlainStream
begun_stream id o vb ask = record { id = id; vb = vb; opaque = o; until = ask.end; first = first_of ask; sync = true; place = ask.start; unread = None; items = []; next = 0; marked = None; reached = ask.start; ended = false; gives = gives_of ask.flags }

-- the producer then
abbrev pub granted_end : PlainProducer → ℕ → ℕ → StreamAsk → PlainProducer
granted_end end o vb ask = record end { asked = end.asked + 1; streams = begun_stream (next_stream end) o vb ask ∷ [] }

-- a request was let continue
abbrev pub granted_lines : Served → ℕ → ℕ → StreamAsk → List LogEntry → ℕ → Served
granted_lines s o vb ask log high = record {
  end = granted_end s.end o vb ask;
  events = s.events ++ told_line s vb ask log high AskAnswer.Go ∷ [];
  out = s.out ++ spelling (answer_frame o log AskAnswer.Go);
  count = s.count;
  resolved = s.resolved;
}

abbrev asked_frame : ℕ → ℕ → StreamAsk → Frame
asked_frame o vb ask = dcp_frame (DcpMsg.StreamRequest ask) o vb

-- the states after the vBucket was called
called_once : (st : States) (v : ℕ) (a : Plain) → StatesAre st v a (with_vb_at st v a)
called_once st v a = record { here = ap (λ b. if b then Some a else st v) (eq-eqb v v refl); there = λ q ne. ap (λ b. if b then Some a else st q) (ne_eqb q v ne) }

never : (b : Bool) → (b && false) ≡ false
never true = refl
never false = refl

-- the flags of a consumer's request are known ones
pub flags_known : (takeover : Bool) (ask asked : StreamAsk) → ask ≡ flagged takeover asked → nat_lt 1 ask.flags ≡ false
flags_known true ask asked is = ap (λ (a : StreamAsk). nat_lt 1 a.flags) is
flags_known false ask asked is = ap (λ (a : StreamAsk). nat_lt 1 a.flags) is

-- with 1 its stream gives its vBucket up, from the first step
gives_flagged : (takeover : Bool) (ask asked : StreamAsk) → ask ≡ flagged takeover asked → gives_of ask.flags ≡ gives_in takeover Handing.Unstated
gives_flagged true ask asked is = ap (λ (a : StreamAsk). gives_of a.flags) is
gives_flagged false ask asked is = ap (λ (a : StreamAsk). gives_of a.flags) is

-- no state was taken before the first
none_taken : {A : Type 0} → new_take_over ≡ record { last = Some Pend } → A
none_taken e = let z : ◌≡◌ {A = Option TakeStep} None (Some Pend) = ap (λ (t : TakeOver). t.last) e in cc

module _ (o vb node : ℕ) (ask : StreamAsk) (s : Served) (range : AskInRange ask) (shaken : s.end.handshake ≡ Handshake.Open true (Named.Member node)) (flags : nat_lt 1 ask.flags ≡ false) (linked : is_client s.end.desk.stream ≡ false) (none_yet : s.end.streams ≡ []) (few : s.end.asked + 1 < 2 ^ 32) where
  abbrev id : ℕ
  id = next_stream s.end

  -- an open connection with no stream refuses nothing by itself
  refusal_is : request_refusal s.end ask ≡ None
  refusal_is =
      ap (λ h. request_refusal (record s.end { handshake = h }) ask) shaken
      ∙ ap (λ b. if b then Some Status.Einval else if ask.flags == 1 && is_client s.end.desk.stream then Some Status.NotSupported else if nat_le (2 ^ 32 - 1) s.end.asked then Some Status.Etmpfail else None) flags
      ∙ ap (λ b. if b then Some Status.NotSupported else if nat_le (2 ^ 32 - 1) s.end.asked then Some Status.Etmpfail else None) (ap (λ b. ask.flags == 1 && b) linked ∙ never (ask.flags == 1))
      ∙ (let left : nat_le (2 ^ 32 - 1) s.end.asked ≡ false = grind (arith, nat_tests, few) in ap (λ b. if b then Some Status.Etmpfail else None) left)

  opens_one : opens s.end vb ask ≡ true
  opens_one = ap (λ r. not (is_some r) && not (is_some (stream_of_vb vb s.end.streams))) refusal_is ∙ ap (λ streams. not (is_some (stream_of_vb vb streams))) none_yet

  -- what comes of the vBucket's answer
  abbrev told_of : Place → AskAnswer → List LogEntry → ℕ → Served
  told_of from said log high = stream_answered (asked_frame o vb ask) ask (record s { end = with_granted (with_asked s.end) id (asked_frame o vb ask) ask from said }) log high said

  abbrev told_as : States × Option VbReply → States × Served
  told_as p = (p.0, told_of (place_of_reply p.1) (ask_verdict p.1) (log_of_reply p.1) (high_of_reply p.1))

  -- it is answered by what the vBucket says
  asked_there : (st : States) (there : Option Plain) → st vb ≡ there → after (frame_answered (asked_frame o vb ask) s) st ≡ told_as (call_at st vb (VbCall.OpenStream id ask true) there)
  unfolding stream_request dcp_frame
  asked_there st there known =
      ap (λ p. after p st) (request_answered o vb ask s range)
      ∙ ap (λ b. after (if b then opening_requested (asked_frame o vb ask) ask s else refusal_requested (asked_frame o vb ask) ask s) st) opens_one
      ∙ ap (λ h. told_as (call_at st vb (VbCall.OpenStream id ask (is_sync h)) (st vb))) shaken
      ∙ ap (λ y. told_as (call_at st vb (VbCall.OpenStream id ask true) y)) known

  -- no such vBucket
  pub absent_asked : (st : States) → st vb ≡ None → after (frame_answered (asked_frame o vb ask) s) st ≡ (st, refused_told s o vb ask [] 0 (AskAnswer.Refuse 7))
  unfolding stream_answered dcp_frame
  absent_asked st none = asked_there st None none

  module _ (st : States) (pv : Plain) (known : st vb ≡ Some pv) where
    -- what the vBucket makes of it
    abbrev came_as : Plain × VbReply → States × Served
    came_as p = told_as (with_vb_at st vb p.0, Some p.1)

    asked_then : (why : Option Status) → open_refusal pv id ask ≡ why → after (frame_answered (asked_frame o vb ask) s) st ≡ came_as (open_outcome why pv id ask true)
    asked_then why because = asked_there st (Some pv) known ∙ ap (λ y. came_as (open_outcome y pv id ask true)) because

    -- one that refuses
    pub refused_asked : (why : Status) → open_refusal pv id ask ≡ Some why
        → (st' : States) × StatesAre st vb pv st' × (after (frame_answered (asked_frame o vb ask) s) st ≡ (st', refused_told s o vb ask pv.log pv.position.at (refuse why)))
    unfolding stream_answered dcp_frame
    refused_asked why because = (with_vb_at st vb pv, called_once st vb pv, asked_then (Some why) because)

    judged_asked : (said : Verdict) → open_refusal pv id ask ≡ None → rule pv.log pv.position.at ask ≡ said → after (frame_answered (asked_frame o vb ask) s) st ≡ came_as (judged_open said pv id ask true)
    judged_asked said because ruled = asked_then None because ∙ ap (λ v. came_as (judged_open v pv id ask true)) ruled

    -- one that sends it back
    pub rolled_asked : (to : ℕ) → open_refusal pv id ask ≡ None → rule pv.log pv.position.at ask ≡ Roll to
        → (st' : States) × StatesAre st vb pv st' × (after (frame_answered (asked_frame o vb ask) s) st ≡ (st', refused_told s o vb ask pv.log pv.position.at (AskAnswer.Roll to)))
    unfolding stream_answered dcp_frame
    rolled_asked to because ruled = (with_vb_at st vb pv, called_once st vb pv, judged_asked (Roll to) because ruled)

    -- one that opens the stream, which is the only one then
    pub granted_asked : open_refusal pv id ask ≡ None → rule pv.log pv.position.at ask ≡ Continue
        → (st' : States) × StatesAre st vb (record pv { streams = pv.streams ++ new_stream pv id ask true ∷ [] }) st'
        × (after (frame_answered (asked_frame o vb ask) s) st ≡ (st', granted_lines s o vb ask pv.log pv.position.at))
    unfolding stream_answered dcp_frame
    granted_asked because ruled =
        let pv' : Plain = record pv { streams = pv.streams ++ new_stream pv id ask true ∷ [] } in
        let states' : States = with_vb_at st vb pv' in (
          states',
          called_once st vb pv',
          judged_asked Continue because ruled
              ∙ (λ i. (states', record (granted_lines s o vb ask pv.log pv.position.at) { end = record (granted_end s.end o vb ask) { streams = none_yet i ++ record (begun_stream id o vb ask) { sync = is_sync (shaken i); unread = none_source (is_in_memory pv ask.start) i } ∷ [] } })),
        )

refused_readable : (o : ℕ) (said : AskAnswer) → o < 2 ^ 32 → IsRefused said → Readable (answer_frame o [] said)
refused_readable o AskAnswer.Go few refused = absurd refused
refused_readable o (AskAnswer.Roll to) few refused = readable (DcpMsg.StreamAnswer (stream_verdict [] (AskAnswer.Roll to))) o 0 tt refused few (omega arith) (omega arith)
refused_readable o (AskAnswer.Refuse code) few refused =
    readable (DcpMsg.StreamAnswer (stream_verdict [] (AskAnswer.Refuse code))) o 0 (refused.0, refused.1) refused.2 few (omega arith) (omega arith)

granted_readable : (o : ℕ) (log : List LogEntry) → o < 2 ^ 32 → length log ≤ 25 → All EntryFits log → Readable (answer_frame o log AskAnswer.Go)
granted_readable o log few short fits =
    readable (DcpMsg.StreamAnswer (stream_verdict log AskAnswer.Go)) o 0 (omega (arith, short)) (All-weaker EntryFits EntryInRange (λ e f. record { uuid = f.0; seq = f.1 }) log fits)
    few (omega arith) (omega (arith, short))

-- where the last request is about to be answered
module _ (fv : Plain) (ask : StreamAsk) (link : PlainLink) (down : List ℕ) (f : Frame) (fs asked said : List Frame) (t : Asking (wants_of fv) ask link.server link.consumer asked (spoken said)) (last : t.answered ≡ first_count link.consumer.dialed)
    (ups : UpIs link (f ∷ fs) asked) (downs : DownAgrees link [] said) where
  -- the request's opaque
  abbrev o : ℕ
  o = link.consumer.asked

  abbrev dialed : Dialed
  dialed = link.consumer.dialed

  seen_most : t.seen ≤ first_count dialed
  seen_most = subst (λ j. t.seen ≤ j) last t.not_more

  last_up : (end : PlainProducer) (a : Frame) → UpIs (served_link link end down) fs []
  last_up end a = next_up link end down a f (dcp_frame (DcpMsg.StreamRequest ask) o link.consumer.dialed.vb) fs []
      (subst (UpIs link (f ∷ fs)) (t.asked_is ∙ ap (λ j. drop j (request_frames o dialed ask)) last ∙ request_last o dialed ask) ups)

  answers_said : spoken said ≡ drop t.seen (first_answers dialed)
  answers_said = t.said_is ∙ ap (λ j. drop t.seen (take j (first_answers dialed))) last ∙ ap (drop t.seen) (take_all (first_count dialed) (first_answers dialed) (omega (arith, answers_count dialed)))

  last_down : (end : PlainProducer) (a : Frame) → down ≡ link.down ++ spelling a → Readable a → DownAgrees (served_link link end down) [] (said ++ a ∷ [])
  last_down end a wrote good = more_down link end down a said wrote good downs

  all_answered : link.server.handshake ≡ set_after dialed (first_count dialed)
  all_answered = t.server ∙ ap (set_after dialed) last

  pub asked_opened : link.server.handshake ≡ Handshake.Open true (Named.Member link.consumer.dialed.node)
  asked_opened = all_answered ∙ all_set dialed

  pub refused_talk : (kn : Member) (pv : Option Plain) (leader : Member) (g : Option Granted) (state : Option Role) → IsUnsaid g state → (answer : AskAnswer) → IsRefused answer → (point : Option ℕ) → PointAgrees answer point → down ≡ link.down ++ spelling (answer_frame o [] answer)
      → Talk fv kn pv leader g state point (served_link link (with_asked link.server) down) fs []
  refused_talk kn pv leader g state none answer refused point told wrote = record {
    asked = [];
    said = said ++ answer_frame o [] answer ∷ [];
    stands = EndsStand.IsRefusedYet none (record {
      no_stream = t.no_stream;
      fewer = let below = t.fewer in omega (arith, below);
      refusal = record {
        said = answer;
        refused = refused;
        told = told;
        seen = t.seen;
        not_more = seen_most;
        server = all_answered;
        consumer = t.consumer;
        untold = t.untold;
        asked_is = refl;
        said_is = spoken_push said (answer_frame o [] answer) (answer_spoken o [] answer) ∙ ap (λ x. x ++ answer_frame o [] answer ∷ []) answers_said;
      };
    });
    ups = last_up (with_asked link.server) (answer_frame o [] answer);
    downs = last_down (with_asked link.server) (answer_frame o [] answer) wrote (refused_readable o answer t.consumer.small refused);
  }

  -- the producer's vBucket lets it continue
  module _ (pv : Plain) (kn pn : Member) (at : kn.position ≡ fv.position) (logs : pn.log ≡ pv.log) (in_front : IsFront pn.log pn.br) (short : length pn.log ≤ 25)
      (fits : All EntryFits pv.log) (active : is_active pv.role ≡ true) (free : stream_at (next_stream link.server) pv.streams ≡ None) (apart : producer_node link ≡ consumer_node link → ⊥)
      (wrote : down ≡ link.down ++ spelling (answer_frame link.consumer.asked pv.log AskAnswer.Go)) (reached : effective_se ask.start ask.ss ask.se ≤ pn.position.at) where
    abbrev number : ℕ
    number = next_stream link.server

    abbrev new : Stream
    new = new_stream pv number ask true

    -- the producer's end, and its stream
    abbrev begun : PlainStream
    begun = begun_stream number o link.consumer.dialed.vb ask

    abbrev end : PlainProducer
    end = granted_end link.server o link.consumer.dialed.vb ask

    abbrev pub opened_vb : Plain
    opened_vb = record pv { streams = pv.streams ++ new ∷ [] }

    abbrev pub granted_link : PlainLink
    granted_link = served_link link end down

    opened_here : stream_at number (pv.streams ++ new ∷ []) ≡ Some new
    opened_here =
        find-append (λ (s : Stream). s.id == number) pv.streams (new ∷ [])
        ∙ ap (λ y. option_or y (if number == number then Some new else None)) free
        ∙ ap (λ b. if b then Some new else None) (eq-eqb number number refl)

    front_uuid : (log : List LogEntry) (br : ℕ) → IsFront log br → uuid_of (front log) ≡ br
    front_uuid [] br e = absurd e
    front_uuid (e ∷ older) br is = is

    low : is_granted dialed t.seen ≡ false
    low = let most = seen_most in grind (arith, nat_tests, most)

    marked_stream_begun : StreamAgrees o link.consumer.dialed.vb (granted ask pv.log) begun (Some opened_vb) pn
        (record { u = pn.br; log = pn.log; flight = []; given = None }) (answered kn pn) false Handing.Unstated
    marked_stream_begun = record {
      put = record {
        vb_is = refl;
        opaque_is = refl;
        no_end = record { until = subst (λ (a : StreamAsk). top < a.end) (sym t.asks) (omega arith); marked = tt };
        first_is = refl;
        marked_is = refl;
        sync_is = refl;
        put_place = refl;
        none_unread = refl;
        fits = All-nil _;
        next_in = omega arith;
        last = refl;
        log_lines = sym logs;
        front_is = front_uuid pv.log pn.br (subst (λ l. IsFront l pn.br) logs in_front);
      };
      opens = λ e. record { producer = opened_vb; producer_is = refl; active = active; leads = refl; reached = λ none. reached; opened = (new, opened_here, refl, refl, refl, refl) };
      given_in = refl;
      all_taken = λ e. cc;
      over_ended = λ e. cc;
      coming = record { all = refl; last = tt };
      way = record {
        place_is = ap (λ (a : StreamAsk). a.start) t.asks ∙ ap (λ (p : Position). p.at) (sym at);
        marks = refl;
        in_one_last = λ e. cc;
        taken_one = λ e. cc;
        none_left = λ e. refl;
        not_in_one = λ e. refl;
        in_flight = λ e q. refl;
      };
    }

    abbrev new_feed : Feed
    new_feed = record { u = pn.br; log = pn.log; flight = []; given = None }

    all_said : spoken (said ++ answer_frame o pv.log AskAnswer.Go ∷ []) ≡ drop t.seen (first_answers dialed ++ answer_frame o pv.log AskAnswer.Go ∷ [])
    all_said = let most = seen_most in
        spoken_push said (answer_frame o pv.log AskAnswer.Go) (answer_spoken o pv.log AskAnswer.Go) ∙ ap (λ x. x ++ answer_frame o pv.log AskAnswer.Go ∷ []) answers_said ∙ sym (drop-append-le t.seen (first_answers dialed) (answer_frame o pv.log AskAnswer.Go ∷ []) (omega (arith, most, answers_count dialed)))

    pub granted_talk : (point : Option ℕ) → Talk fv (answered kn pn) (Some opened_vb) pn (Some (granted ask pv.log)) None point granted_link fs []
    granted_talk point = record {
      asked = [];
      said = said ++ answer_frame o pv.log AskAnswer.Go ∷ [];
      stands = EndsStand.IsStreaming (record {
        granted_is = granted ask pv.log;
        told = refl;
        serving = record {
          stream = begun;
          stream_is = refl;
          numbered = omega arith;
          apart = apart;
          server = all_answered;
          handing = Handing.Unstated;
          gives_is = gives_flagged dialed.takeover ask (request_of fv.log fv.position) t.asks;
          dialed_so = λ e. refl;
          acks = record { each = All-nil (IsUpward [] o link.consumer.dialed.vb); answers_are = refl };
          unput = [];
          unput_is = refl;
          all_put = λ e. refl;
          stated_behind = λ e. refl;
        };
        feed = new_feed;
        fed = refl;
        sources = record { snapshots = []; are = refl };
        log_fits = record { short = short; entries = subst (All EntryFits) (sym logs) fits };
        seen = t.seen;
        taking = record {
          not_more = let most = seen_most in omega (arith, most);
          consumer = t.consumer;
          adopted = sym low;
          taken_is = t.untold;
          granted_first = λ e. none_taken e;
          flag_is = λ e. ap (λ (a : StreamAsk). a.flags) t.asks ∙ ap (λ b. if b then 1 else 0) e;
          asks = λ e. (ap (λ (a : StreamAsk). a.start) t.asks, ap (λ (a : StreamAsk). a.ss) t.asks, ap (λ (a : StreamAsk). a.se) t.asks);
        };
        streams = subst (λ b. StreamAgrees o link.consumer.dialed.vb (granted ask pv.log) begun (Some opened_vb) pn new_feed (answered kn pn) (b && not fv.first) Handing.Unstated) (sym low) marked_stream_begun;
        all = ap (λ l. drop t.seen (first_answers dialed ++ answer_frame o l AskAnswer.Go ∷ []) ++ []) logs ∙ ap (λ x. x ++ []) (sym all_said);
      }) refl;
      ups = last_up end (answer_frame o pv.log AskAnswer.Go);
      downs = last_down end (answer_frame o pv.log AskAnswer.Go) wrote
          (granted_readable o pv.log t.consumer.small (subst (λ l. length l ≤ 25) logs short) fits);
    }

    -- only the link's own stream was opened
    pub streams_opened : Sound pv → StreamsChanged number pv opened_vb
    streams_opened sound = record {
      sound = sound_streams pv opened_vb.streams sound (feeds_opened pv.role pv.floor pv.streams new active sound.feeds free (leb-true pv.floor ask.start));
      alone = refl;
      others = λ x ne.
          find-append (λ (s : Stream). s.id == x) pv.streams (new ∷ [])
          ∙ ap (λ b. option_or (stream_at x pv.streams) (if b then Some new else None)) (ne_eqb number x (λ e. ne (sym e)))
          ∙ elim (stream_at x pv.streams) as (λ o. option_or o None ≡ o) [ None ↦ refl | Some s ↦ refl ];
    }
