-- how a request for a stream is answered
use Rattle.std.proofs.Common.{◌≡◌, ◌≢◌, ◌+◌, ◌<◌, ◌≤◌, ℕ, Bool, true, false, List, [], ◌∷◌, ◌++◌, refl, sym, ap, ◌∙◌, subst, ◌⊎◌, inl, inr, arith, Option, Some, None}
use Rattle.std.proofs.lemmas.Bool.{eqb-true, false_from_ne_true, false≢true}
use Rattle.std.proofs.lemmas.List.{append_cancel_left}
use Rattle.std.proofs.lemmas.List.Elements.{All-head, All-tail}
use Rattle.std.specs.List.{All}
use Rattle.std.proofs.lemmas.Bool.Decides.{nat_tests}
use Rattle.std.specs.Prelude.{if◌then◌else◌, is_some, not, nat_lt, nat_le, ◌==◌, ◌&&◌}
use Rattle.mcbp_frame.specs.declared.frame.Frame.{Frame}
use Rattle.mcbp_frame.specs.Spelling.{spelling}
use Rattle.mcbp_dcp.specs.declared.message.DcpMsg.TheVariants as msg
use Rattle.mcbp_dcp.specs.DcpFrames.{dcp_frame}
use Rattle.vb_calls.specs.Programs.{Made, Told, after}
use Rattle.vb_types.specs.declared.stream.AskAnswer.{AskAnswer}
use Rattle.vb_types.specs.declared.stream.AskAnswer.TheVariants as ask_answer
use Rattle.vb_types.specs.declared.role.LogEntry.{LogEntry}
use Rattle.vb_calls.specs.declared.calls.VbAnswer.{VbAnswer}
use Rattle.vb_calls.specs.declared.calls.VbAnswer.TheVariants as answer
use Rattle.vb_types.specs.declared.role.Role.{Role}
use Rattle.vb_types.specs.declared.role.Role.TheVariants as role
use Rattle.vb_types.specs.declared.status.Status.{Status}
use Rattle.vb_types.specs.declared.status.Status.TheVariants as status
use Rattle.vb_types.specs.Statuses.{status_code}
use Rattle.vb_types.specs.declared.stream.Place.{Place}
use Rattle.vb_types.specs.declared.stream.StreamAsk.{StreamAsk}
use Rattle.vb_types.specs.declared.stream.Verdict.{Verdict}
use Rattle.vb_types.specs.declared.stream.Verdict.TheVariants as ruling
use Rattle.vb_events.specs.declared.event.Event.TheVariants as event
use Rattle.vb_calls.specs.declared.calls.VbCall.TheVariants as call
use Rattle.vb_calls.specs.declared.calls.VbReply.{VbReply}
use Rattle.vb_calls.specs.declared.stream.Stream.{Stream}
use Rattle.vb_calls.specs.Plain.{Plain}
use Rattle.vb_calls.specs.State.{is_active}
use Rattle.vb_calls.specs.States.{States, call_at, states_step}
use Rattle.vb_calls.specs.Streams.{stream_at as stream_under, id_refusal, is_ranged, first_reason, open_outcome, judged_open}
use Rattle.dcp_producer.specs.declared.desk.Handshake.{Handshake}
use Rattle.dcp_producer.specs.declared.desk.Handshake.TheVariants as handshake
use Rattle.dcp_producer.specs.declared.desk.Named.{Named}
use Rattle.dcp_producer.specs.declared.desk.Named.TheVariants as named
use Rattle.dcp_producer.specs.Producers.{is_client, PlainStream, PlainProducer, Served, is_named, is_open, is_sync, stream_at}
use Rattle.dcp_producer.specs.Counting.{IsClients}
use Rattle.takeover.specs.GivingUp.{new_give_up}
use Rattle.vb_events.specs.declared.event.StreamName.TheVariants as name
use Rattle.dcp_producer.specs.Serving.{MOST_STREAMS, gives_of, log_of_answer, log_of_reply, high_of_answer, high_of_reply, place_of_reply, ask_verdict, request_refusal, opens, next_stream, verdict_of, verdict_with, with_asked, with_granted, stream_verdict, new_stream, stream_answered, opened_answered, opening_requested, refused_answered, refusal_requested, stream_request}
use Rattle.dcp_producer.specs.Handshaking.{IsGiven}
use Rattle.dcp_producer.specs.Having.{IsOpened, NoneOf, IsStreamOf}
use Rattle.dcp_producer.specs.Requesting.{AreTaken, IsOutside, IsFree, number_behind, IsAgainst, IsForIt, AnsweredWith, AsksFor, Replies, OneReply, RefusedWith, IsInactive}
use Rattle.dcp_producer.proofs.Firsts.{means_first}
use Rattle.dcp_producer.proofs.Finding.{none_at, found_at}

-- the table of reasons, by the tests
abbrev reason : Bool → Bool → Bool → Bool → Option Status
reason shut many takeover none = if shut then Some status.Einval else if many then Some status.Einval else if takeover then Some status.NotSupported else if none then Some status.Etmpfail else None

module _ (end : PlainProducer) (ask : StreamAsk) where
  -- before OPEN
  fresh_refusal : end.handshake ≡ handshake.Fresh → request_refusal end ask ≡ Some status.Einval
  fresh_refusal fresh = ap (λ h. reason (not (is_open h)) (nat_lt 1 ask.flags) (ask.flags == 1 && is_client end.desk.stream) (nat_le MOST_STREAMS end.asked)) fresh

  -- for flags that are not known
  either_way : (b : Bool) → reason b true (ask.flags == 1 && is_client end.desk.stream) (nat_le MOST_STREAMS end.asked) ≡ Some status.Einval
  either_way true = refl
  either_way false = refl

  flags_refusal : 1 < ask.flags → request_refusal end ask ≡ Some status.Einval
  flags_refusal above =
      let e : nat_lt 1 ask.flags ≡ true = grind (arith, nat_tests) in
      ap (λ b. reason (not (is_open end.handshake)) b (ask.flags == 1 && is_client end.desk.stream) (nat_le MOST_STREAMS end.asked)) e ∙ either_way (not (is_open end.handshake))

  is_opened : (h : Handshake) → (h ≡ handshake.Fresh → ⊥) → is_open h ≡ true
  is_opened handshake.Fresh opened = absurd (opened refl)
  is_opened (handshake.Open sync name) opened = refl

  -- for the flags of a takeover, and for none
  open_refusal_is : (n : ℕ) (client : Bool) → (end.handshake ≡ handshake.Fresh → ⊥) → ask.flags ≡ n → is_client end.desk.stream ≡ client → request_refusal end ask ≡ reason false (nat_lt 1 n) (n == 1 && client) (nat_le MOST_STREAMS end.asked)
  open_refusal_is n client opened flags named = λ i. reason (not (is_opened end.handshake opened i)) (nat_lt 1 (flags i)) (flags i == 1 && named i) (nat_le MOST_STREAMS end.asked)

  abbrev Taken : Type 0
  Taken = (ask.flags ≡ 0) ⊎ ((ask.flags ≡ 1) × ((number : ℕ) × (end.desk.stream ≡ name.Link number)))

  taken_refusal : (end.handshake ≡ handshake.Fresh → ⊥) → Taken → request_refusal end ask ≡ reason false false false (nat_le MOST_STREAMS end.asked)
  taken_refusal opened (inl flags) = open_refusal_is 0 (is_client end.desk.stream) opened flags refl
  taken_refusal opened (inr (flags, (number, link))) = open_refusal_is 1 false opened flags (ap is_client link)

  -- where no number is left
  numbers_refusal : (end.handshake ≡ handshake.Fresh → ⊥) → Taken → 4294967295 ≤ end.asked → request_refusal end ask ≡ Some status.Etmpfail
  numbers_refusal opened taken all =
      let e : nat_le MOST_STREAMS end.asked ≡ true = grind (arith, nat_tests) in
      taken_refusal opened taken ∙ ap (reason false false false) e

  none_refused : (end.handshake ≡ handshake.Fresh → ⊥) → Taken → end.asked < 4294967295 → request_refusal end ask ≡ None
  none_refused opened taken left =
      let e : nat_le MOST_STREAMS end.asked ≡ false = grind (arith, nat_tests) in
      taken_refusal opened taken ∙ ap (reason false false false) e

  some_by : (shut many takeover : Bool) → (shut ≡ true) ⊎ (many ≡ true) ⊎ (takeover ≡ true) ⊎ (nat_le MOST_STREAMS end.asked ≡ true) → is_some (reason shut many takeover (nat_le MOST_STREAMS end.asked)) ≡ true
  some_by true many takeover one = refl
  some_by false true takeover one = refl
  some_by false false true one = refl
  some_by false false false (inl is) = absurd (false≢true is)
  some_by false false false (inr (inl is)) = absurd (false≢true is)
  some_by false false false (inr (inr (inl is))) = absurd (false≢true is)
  some_by false false false (inr (inr (inr is))) = ap (λ b. is_some (reason false false false b)) is

  against : (end.handshake ≡ handshake.Fresh) ⊎ (1 < ask.flags) ⊎ ((ask.flags ≡ 1) × ((node : ℕ) × (client : ℕ) × (end.desk.stream ≡ name.Client node client))) ⊎ (4294967295 ≤ end.asked) → is_some (request_refusal end ask) ≡ true
  against (inl fresh) = ap is_some (fresh_refusal fresh)
  against (inr (inl above)) = ap is_some (flags_refusal above)
  against (inr (inr (inl (flags, (node, client, named))))) =
      let one : (ask.flags == 1) ≡ true = grind (arith, nat_tests, flags) in
      some_by (not (is_open end.handshake)) (nat_lt 1 ask.flags) (ask.flags == 1 && is_client end.desk.stream) (inr (inr (inl (λ i. one i && is_client (named i)))))
  against (inr (inr (inr all))) = some_by (not (is_open end.handshake)) (nat_lt 1 ask.flags) (ask.flags == 1 && is_client end.desk.stream) (inr (inr (inr (grind (arith, nat_tests)))))

-- whether the vBucket is asked to open a stream
module _ (f : Frame) (ask : StreamAsk) (s : Served) where
  opens_own : IsForIt ask s → NoneOf f.vb_or_status s.end.streams → opens s.end f.vb_or_status ask ≡ true
  opens_own it none =
      (λ i. not (is_some (none_refused s.end ask it.opened it.flags it.numbers i)) && not (is_some (stream_at f.vb_or_status s.end.streams)))
      ∙ ap (λ (o : Option PlainStream). not (is_some o)) (none_at f.vb_or_status s.end.streams none)

  opens_none : IsAgainst ask s → opens s.end f.vb_or_status ask ≡ false
  opens_none is = ap (λ b. not b && not (is_some (stream_at f.vb_or_status s.end.streams))) (against s.end ask is)

  no_more : (b : Bool) → (b && false) ≡ false
  no_more true = refl
  no_more false = refl

  opens_held : (stream : PlainStream) → IsStreamOf f.vb_or_status stream s.end.streams → opens s.end f.vb_or_status ask ≡ false
  opens_held stream there =
      ap (λ (o : Option PlainStream). not (is_some (request_refusal s.end ask)) && not (is_some o)) (found_at f.vb_or_status stream s.end.streams there)
      ∙ no_more (not (is_some (request_refusal s.end ask)))

  -- where it is, nothing stands against it
  and_first : (a b : Bool) → (a && b) ≡ true → a ≡ true
  and_first true b is = refl
  and_first false b is = is

  not_some : (o : Option Status) → not (is_some o) ≡ true → o ≡ None
  not_some None is = refl
  not_some (Some st) is = absurd (cc is)

  opens_free : opens s.end f.vb_or_status ask ≡ true → request_refusal s.end ask ≡ None
  opens_free is = not_some (request_refusal s.end ask) (and_first (not (is_some (request_refusal s.end ask))) (not (is_some (stream_at f.vb_or_status s.end.streams))) is)

-- a name is one that was given
given_name : (name : Named) → is_named name ≡ true → IsGiven name
given_name named.Nobody is = absurd (false≢true is)
given_name named.Stranger is = λ e. cc
given_name (named.Member node) is = λ e. cc

given_name_tested : (name : Named) → IsGiven name → is_named name ≡ true
given_name_tested named.Nobody given = absurd (given refl)
given_name_tested named.Stranger given = refl
given_name_tested (named.Member node) given = refl

both_set : (h : Handshake) → is_sync h ≡ true → (name : Named) × IsGiven name × (h ≡ handshake.Open true name)
both_set handshake.Fresh is = absurd (false≢true is)
both_set (handshake.Open true name) is = (name, given_name name is, refl)
both_set (handshake.Open false name) is = absurd (false≢true is)

both_are_set : (h : Handshake) → (name : Named) × IsGiven name × (h ≡ handshake.Open true name) → is_sync h ≡ true
both_are_set h (name, given, is) = ap is_sync is ∙ given_name_tested name given

-- how it is answered: under the next number, or under none
module _ (f : Frame) (ask : StreamAsk) (s : Served) (from : Place) (log : List LogEntry) (high : ℕ) where
  abbrev opened_end : AskAnswer → PlainProducer
  opened_end verdict = with_granted (with_asked s.end) (next_stream s.end) f ask from verdict

  abbrev said_out : AskAnswer → List ℕ
  said_out said = s.out ++ spelling (dcp_frame (msg.StreamAnswer (stream_verdict log said)) f.opaque 0)

  one_more : s.end.asked + 1 ≡ s.end.asked → ⊥
  one_more is = omega arith

  same_line : (v : AskAnswer) → s.events ++ event.Asked (opened_end v).desk.stream (opened_end v).desk.node f.vb_or_status ask high log v ∷ [] ≡ s.events ++ event.Asked s.end.desk.stream s.end.desk.node f.vb_or_status ask high log v ∷ []
  same_line ask_answer.Go = refl
  same_line (ask_answer.Roll point) = refl
  same_line (ask_answer.Refuse code) = refl

  opened_as : (verdict : AskAnswer) → AnsweredWith f ask (s.end.asked + 1) s (stream_answered f ask (record s { end = opened_end verdict }) log high verdict) log high verdict
  unfolding stream_answered
  opened_as verdict = record {
    line = same_line verdict;
    rest = (refl, refl);
    go = λ e. ap said_out e;
    begins = λ e more. (
      new_stream (next_stream s.end) f ask (is_sync s.end.handshake) from,
      record { number = refl; vb = refl; opaque = refl; until = refl; first = means_first ask; place = refl; items = refl; next = refl; marked = refl; reached = refl; ended = refl; gives = λ one. (new_give_up, ap gives_of one, refl); feeds = λ other. ap (λ b. if b then Some new_give_up else None) (false_from_ne_true (ask.flags == 1) (λ t. other (eqb-true ask.flags 1 t))) },
      ap opened_end e,
    );
    roll = λ point e. (ap said_out e, ap opened_end e);
    refused = λ code e. (ap said_out e, ap opened_end e);
    still = λ same. absurd (one_more same);
  }

  refused_as : (verdict : AskAnswer) → AnsweredWith f ask s.end.asked s (stream_answered f ask s log high verdict) log high verdict
  unfolding stream_answered
  refused_as verdict = record {
    line = refl;
    rest = (refl, refl);
    go = λ e. ap said_out e;
    begins = λ e more. absurd (one_more (sym more));
    roll = λ point e. (ap said_out e, refl);
    refused = λ code e. (ap said_out e, refl);
    still = λ same. refl;
  }

module _ (f : Frame) (ask : StreamAsk) (s : Served) where
  -- what the producer answers to this reply where it asked under none
  abbrev verdict : Option VbReply → AskAnswer
  verdict reply = verdict_with (request_refusal s.end ask) (ask_verdict reply)

  for_it : (reply : Option VbReply) → IsForIt ask s → verdict reply ≡ ask_verdict reply
  for_it reply it = ap (λ o. verdict_with o (ask_verdict reply)) (none_refused s.end ask it.opened it.flags it.numbers)

  -- how the answer follows the reply
  abbrev Follows : ℕ → Served → List LogEntry → ℕ → AskAnswer → Type 0
  Follows asked s' log high said = (verdict : AskAnswer) × AnsweredWith f ask asked s s' log high verdict × (IsForIt ask s → verdict ≡ said)

  module _ (reply : Option VbReply) where
    abbrev opened : Served
    opened = opened_answered f ask s reply

    opened_so : (r : VbReply) (a : VbAnswer) → reply ≡ Some r → r.answer ≡ a → Follows (s.end.asked + 1) opened (log_of_answer a) (high_of_answer a) (verdict_of a)
    opened_so r a there tells =
        let log_is : log_of_reply reply ≡ log_of_answer a = ap log_of_reply there ∙ ap log_of_answer tells in
        let high_is : high_of_reply reply ≡ high_of_answer a = ap high_of_reply there ∙ ap high_of_answer tells in (
          ask_verdict reply,
          subst (λ l. AnsweredWith f ask (s.end.asked + 1) s opened l (high_of_answer a) (ask_verdict reply)) log_is
              (subst (λ h. AnsweredWith f ask (s.end.asked + 1) s opened (log_of_reply reply) h (ask_verdict reply)) high_is
              (opened_as f ask s (place_of_reply reply) (log_of_reply reply) (high_of_reply reply) (ask_verdict reply))),
          λ it. ap ask_verdict there ∙ ap verdict_of tells,
        )

    opened_replies : Replies f ask (s.end.asked + 1) s opened reply
    opened_replies = record {
      told = λ r said log high there tells. opened_so r (answer.Asked said log high) there tells;
      opened = λ r log high from there tells. opened_so r (answer.Opened log high from) there tells;
      absent = λ none. (
        ask_verdict reply,
        subst (λ o. AnsweredWith f ask (s.end.asked + 1) s opened (log_of_reply o) (high_of_reply o) (ask_verdict reply)) none
            (opened_as f ask s (place_of_reply reply) (log_of_reply reply) (high_of_reply reply) (ask_verdict reply)),
        λ it. ap ask_verdict none,
      );
    }

    abbrev refused : Served
    refused = refused_answered f ask s reply

    refused_so : (r : VbReply) (a : VbAnswer) → reply ≡ Some r → r.answer ≡ a → Follows s.end.asked refused (log_of_answer a) (high_of_answer a) (verdict_of a)
    refused_so r a there tells =
        let log_is : log_of_reply reply ≡ log_of_answer a = ap log_of_reply there ∙ ap log_of_answer tells in
        let high_is : high_of_reply reply ≡ high_of_answer a = ap high_of_reply there ∙ ap high_of_answer tells in (
          verdict reply,
          subst (λ l. AnsweredWith f ask s.end.asked s refused l (high_of_answer a) (verdict reply)) log_is
              (subst (λ h. AnsweredWith f ask s.end.asked s refused (log_of_reply reply) h (verdict reply)) high_is
              (refused_as f ask s (place_of_reply reply) (log_of_reply reply) (high_of_reply reply) (verdict reply))),
          λ it. for_it reply it ∙ ap ask_verdict there ∙ ap verdict_of tells,
        )

    refused_replies : Replies f ask s.end.asked s refused reply
    refused_replies = record {
      told = λ r said log high there tells. refused_so r (answer.Asked said log high) there tells;
      opened = λ r log high from there tells. refused_so r (answer.Opened log high from) there tells;
      absent = λ none. (
        verdict reply,
        subst (λ o. AnsweredWith f ask s.end.asked s refused (log_of_reply o) (high_of_reply o) (verdict reply)) none
            (refused_as f ask s (place_of_reply reply) (log_of_reply reply) (high_of_reply reply) (verdict reply)),
        λ it. for_it reply it ∙ ap ask_verdict none,
      );
    }

  -- the number that it is made under
  asks_own : opens s.end f.vb_or_status ask ≡ true → AsksFor f.vb_or_status ask s (next_stream s.end) (s.end.asked + 1) (is_sync s.end.handshake)
  asks_own is = record {
    own = λ it none. (refl, refl);
    against = λ why. absurd (false≢true (sym (opens_none f ask s why) ∙ is));
    held = λ stream there. absurd (false≢true (sym (opens_held f ask s stream there) ∙ is));
    synced = (both_set s.end.handshake, both_are_set s.end.handshake);
  }

  asks_none : opens s.end f.vb_or_status ask ≡ false → AsksFor f.vb_or_status ask s 0 s.end.asked (is_sync s.end.handshake)
  asks_none is = record {
    own = λ it none. absurd (false≢true (sym is ∙ opens_own f ask s it none));
    against = λ why. (refl, refl);
    held = λ stream there. (refl, refl);
    synced = (both_set s.end.handshake, both_are_set s.end.handshake);
  }

  -- one call
  own_reply : (made : List Made) (s' : Served) → opens s.end f.vb_or_status ask ≡ true → Told (opening_requested f ask s) made s'
      → (id : ℕ) × (asked : ℕ) × (sync : Bool) × (reply : Option VbReply) × (made ≡ (f.vb_or_status, call.OpenStream id ask sync, reply) ∷ [])
      × AsksFor f.vb_or_status ask s id asked sync × Replies f ask asked s s' reply
  own_reply [] s' is told = absurd told
  own_reply (m ∷ []) s' is (at, asked, comes) = (
    next_stream s.end,
    s.end.asked + 1,
    is_sync s.end.handshake,
    m.2,
    λ i. (at i, asked i, m.2) ∷ [],
    asks_own is,
    subst (λ t. Replies f ask (s.end.asked + 1) s t m.2) (sym comes) (opened_replies m.2),
  )
  own_reply (m ∷ n ∷ made) s' is (at, asked, more) = absurd more

  none_reply : (made : List Made) (s' : Served) → opens s.end f.vb_or_status ask ≡ false → Told (refusal_requested f ask s) made s'
      → (id : ℕ) × (asked : ℕ) × (sync : Bool) × (reply : Option VbReply) × (made ≡ (f.vb_or_status, call.OpenStream id ask sync, reply) ∷ [])
      × AsksFor f.vb_or_status ask s id asked sync × Replies f ask asked s s' reply
  none_reply [] s' is told = absurd told
  none_reply (m ∷ []) s' is (at, asked, comes) = (
    0,
    s.end.asked,
    is_sync s.end.handshake,
    m.2,
    λ i. (at i, asked i, m.2) ∷ [],
    asks_none is,
    subst (λ t. Replies f ask s.end.asked s t m.2) (sym comes) (refused_replies m.2),
  )
  none_reply (m ∷ n ∷ made) s' is (at, asked, more) = absurd more

  pub one_reply : OneReply f ask s
  unfolding stream_request
  one_reply made s' told = by (opens s.end f.vb_or_status ask) refl told
    where
      by : (b : Bool) → opens s.end f.vb_or_status ask ≡ b → Told (if b then opening_requested f ask s else refusal_requested f ask s) made s'
          → (id : ℕ) × (asked : ℕ) × (sync : Bool) × (reply : Option VbReply) × (made ≡ (f.vb_or_status, call.OpenStream id ask sync, reply) ∷ [])
          × AsksFor f.vb_or_status ask s id asked sync × Replies f ask asked s s' reply
      by true is told = own_reply made s' is told
      by false is told = none_reply made s' is told

-- at a vBucket that is absent or not active
inactive : (r : Role) → (r ≡ role.Active → ⊥) → is_active r ≡ false
inactive role.Active other = absurd (other refl)
inactive role.Replica other = refl
inactive role.Pending other = refl
inactive role.Dead other = refl

inactive_verdict : (states : States) (v id : ℕ) (ask : StreamAsk) (sync : Bool) (o : Option Plain) → IsInactive o → ask_verdict (call_at states v (call.OpenStream id ask sync) o).1 ≡ ask_answer.Refuse 7
inactive_verdict states v id ask sync None other = refl
inactive_verdict states v id ask sync (Some vb) other =
    ap (λ b. ask_verdict (Some (open_outcome (if b then first_reason (id_refusal id (stream_under id vb.streams)) (if is_ranged ask then None else Some status.Erange) else Some status.NotMyVbucket) vb id ask sync).1))
    (inactive vb.role (other vb refl))

-- no stream is opened under 0
zero_refusal : (o : Option Stream) → id_refusal 0 o ≡ Some status.KeyEexists
zero_refusal None = refl
zero_refusal (Some there) = refl

zero_verdict : (states : States) (v : ℕ) (ask : StreamAsk) (sync : Bool) (vb : Plain) → vb.role ≡ role.Active → ask_verdict (call_at states v (call.OpenStream 0 ask sync) (Some vb)).1 ≡ ask_answer.Refuse 2
zero_verdict states v ask sync vb active =
    ap (λ r. ask_verdict (Some (open_outcome (if is_active r then first_reason (id_refusal 0 (stream_under 0 vb.streams)) (if is_ranged ask then None else Some status.Erange) else Some status.NotMyVbucket) vb 0 ask sync).1)) active
    ∙ ap (λ o. ask_verdict (Some (open_outcome (first_reason o (if is_ranged ask then None else Some status.Erange)) vb 0 ask sync).1)) (zero_refusal (stream_under 0 vb.streams))

-- an out of range is another status
range_differs : ask_answer.Refuse 0x22 ≡ ask_answer.Refuse 2 → ⊥
range_differs is = absurd (cc is)

module _ (f : Frame) (ask : StreamAsk) (s : Served) (states : States) where
  -- two lines that are the same say the same
  same_verdict : (a b : AskAnswer) (log log' : List LogEntry) (high high' : ℕ)
      → event.Asked s.end.desk.stream s.end.desk.node f.vb_or_status ask high log a ∷ [] ≡ event.Asked s.end.desk.stream s.end.desk.node f.vb_or_status ask high' log' b ∷ [] → a ≡ b
  same_verdict a b log log' high high' is = cc is

  -- the one reply, under a number
  abbrev reply : ℕ → Option VbReply
  reply id = (states_step states f.vb_or_status (call.OpenStream id ask (is_sync s.end.handshake))).1

  own_refused : (code : ℕ) → opens s.end f.vb_or_status ask ≡ true → ask_verdict (reply (next_stream s.end)) ≡ ask_answer.Refuse code → RefusedWith code f ask s states
  unfolding stream_request
  own_refused code is refused = record {
    id = next_stream s.end;
    asked = s.end.asked + 1;
    sync = is_sync s.end.handshake;
    asks = asks_own f ask s is;
    log = log_of_reply (reply (next_stream s.end));
    high = high_of_reply (reply (next_stream s.end));
    answered =
        subst (λ b. AnsweredWith f ask (s.end.asked + 1) s (after (if b then opening_requested f ask s else refusal_requested f ask s) states).1 (log_of_reply (reply (next_stream s.end))) (high_of_reply (reply (next_stream s.end))) (ask_answer.Refuse code)) (sym is)
        (subst (AnsweredWith f ask (s.end.asked + 1) s (opened_answered f ask s (reply (next_stream s.end))) (log_of_reply (reply (next_stream s.end))) (high_of_reply (reply (next_stream s.end)))) refused
        (opened_as f ask s (place_of_reply (reply (next_stream s.end))) (log_of_reply (reply (next_stream s.end))) (high_of_reply (reply (next_stream s.end))) (ask_verdict (reply (next_stream s.end)))));
  }

  none_refused_so : (code : ℕ) → opens s.end f.vb_or_status ask ≡ false → verdict f ask s (reply 0) ≡ ask_answer.Refuse code → RefusedWith code f ask s states
  unfolding stream_request
  none_refused_so code is refused = record {
    id = 0;
    asked = s.end.asked;
    sync = is_sync s.end.handshake;
    asks = asks_none f ask s is;
    log = log_of_reply (reply 0);
    high = high_of_reply (reply 0);
    answered =
        subst (λ b. AnsweredWith f ask s.end.asked s (after (if b then opening_requested f ask s else refusal_requested f ask s) states).1 (log_of_reply (reply 0)) (high_of_reply (reply 0)) (ask_answer.Refuse code)) (sym is)
        (subst (AnsweredWith f ask s.end.asked s (refused_answered f ask s (reply 0)) (log_of_reply (reply 0)) (high_of_reply (reply 0))) refused
        (refused_as f ask s (place_of_reply (reply 0)) (log_of_reply (reply 0)) (high_of_reply (reply 0)) (verdict f ask s (reply 0))));
  }

  -- by the producer itself
  self_refused : (st : Status) → IsAgainst ask s → request_refusal s.end ask ≡ Some st → RefusedWith (status_code st) f ask s states
  self_refused st why own = none_refused_so (status_code st) (opens_none f ask s why) (ap (λ o. verdict_with o (ask_verdict (reply 0))) own)

  pub einval_first : (s.end.handshake ≡ handshake.Fresh) ⊎ (1 < ask.flags) → RefusedWith 4 f ask s states
  einval_first (inl fresh) = self_refused status.Einval (inl fresh) (fresh_refusal s.end ask fresh)
  einval_first (inr above) = self_refused status.Einval (inr (inl above)) (flags_refusal s.end ask above)

  pub unsupported_next : IsOpened s → IsClients s → ask.flags ≡ 1 → RefusedWith 0x83 f ask s states
  unsupported_next opened client flags = self_refused status.NotSupported (inr (inr (inl (flags, client)))) (open_refusal_is s.end ask 1 true opened flags (ap is_client client.2))

  pub numbers_then : IsOpened s → AreTaken ask s → 4294967295 ≤ s.end.asked → RefusedWith 0x86 f ask s states
  numbers_then opened taken all = self_refused status.Etmpfail (inr (inr (inr all))) (numbers_refusal s.end ask opened taken all)

  -- by the vBucket
  pub inactive_then : IsForIt ask s → IsInactive (states f.vb_or_status) → RefusedWith 7 f ask s states
  inactive_then it other = by (opens s.end f.vb_or_status ask) refl
    where
      by : (b : Bool) → opens s.end f.vb_or_status ask ≡ b → RefusedWith 7 f ask s states
      by true is = own_refused 7 is (inactive_verdict states f.vb_or_status (next_stream s.end) ask (is_sync s.end.handshake) (states f.vb_or_status) other)
      by false is = none_refused_so 7 is (for_it f ask s (reply 0) it ∙ inactive_verdict states f.vb_or_status 0 ask (is_sync s.end.handshake) (states f.vb_or_status) other)

  module _ (it : IsForIt ask s) (vb : Plain) (there : states f.vb_or_status ≡ Some vb) (active : vb.role ≡ role.Active) where
    pub held_last : (stream : PlainStream) → IsStreamOf f.vb_or_status stream s.end.streams → RefusedWith 2 f ask s states
    held_last stream held =
        none_refused_so 2 (opens_held f ask s stream held)
        (for_it f ask s (reply 0) it ∙ ap (λ o. ask_verdict (call_at states f.vb_or_status (call.OpenStream 0 ask (is_sync s.end.handshake)) o).1) there
        ∙ zero_verdict states f.vb_or_status ask (is_sync s.end.handshake) vb active)

    -- a vBucket that has no stream of the next number
    free_at : (id : ℕ) (streams : List Stream) → All (λ stream. stream.id ≢ id) streams → stream_under id streams ≡ None
    free_at id [] free = refl
    free_at id (x ∷ more) free =
        ap (λ b. if b then Some x else stream_under id more) (false_from_ne_true (x.id == id) (λ t. All-head (λ (stream : Stream). stream.id ≢ id) x more free (eqb-true x.id id t)))
        ∙ free_at id more (All-tail (λ (stream : Stream). stream.id ≢ id) x more free)

    not_none : (next_stream s.end == 0) ≡ false
    not_none = grind (arith, nat_tests)

    abbrev own_said : Option Status → AskAnswer
    own_said o = ask_verdict (Some (open_outcome o vb (next_stream s.end) ask (is_sync s.end.handshake)).1)

    abbrev range_refusal : Option Status
    range_refusal = if is_ranged ask then None else Some status.Erange

    module _ (none : NoneOf f.vb_or_status s.end.streams) (free : IsFree (number_behind s.end.asked s.end) vb) where
      free_said : ask_verdict (reply (next_stream s.end)) ≡ own_said range_refusal
      free_said =
          ap (λ o. ask_verdict (call_at states f.vb_or_status (call.OpenStream (next_stream s.end) ask (is_sync s.end.handshake)) o).1) there
          ∙ ap (λ r. own_said (if is_active r then first_reason (id_refusal (next_stream s.end) (stream_under (next_stream s.end) vb.streams)) range_refusal else Some status.NotMyVbucket)) active
          ∙ ap (λ o. own_said (first_reason (id_refusal (next_stream s.end) o) range_refusal)) (free_at (next_stream s.end) vb.streams free)
          ∙ ap (λ b. own_said (first_reason (if b then Some status.KeyEexists else None) range_refusal)) not_none

      out_of_range : IsOutside ask → is_ranged ask ≡ false
      out_of_range (inl above) = grind (arith, nat_tests)
      out_of_range (inr (inl before)) = grind (arith, nat_tests)
      out_of_range (inr (inr behind)) = grind (arith, nat_tests)

      pub outside_then : IsOutside ask → RefusedWith 0x22 f ask s states
      outside_then outside =
          own_refused 0x22 (opens_own f ask s it none)
          (free_said ∙ ap (λ b. own_said (if b then None else Some status.Erange)) (out_of_range outside))

      -- what is said then is not that there is one
      other_than : AskAnswer → Type 0
      other_than said = said ≡ ask_answer.Refuse 2 → ⊥

      judged_other : (v : Verdict) → other_than (ask_verdict (Some (judged_open v vb (next_stream s.end) ask (is_sync s.end.handshake)).1))
      unfolding other_than
      judged_other ruling.Continue = λ is. absurd (cc is)
      judged_other (ruling.Roll to) = λ is. absurd (cc is)

      range_other : (b : Bool) → other_than (own_said (if b then None else Some status.Erange))
      unfolding other_than
      range_other true = judged_other _
      range_other false = range_differs

      own_line : (verdict : AskAnswer) (asked : ℕ) (log : List LogEntry) (high : ℕ) → AnsweredWith f ask asked s (after (opening_requested f ask s) states).1 log high verdict → verdict ≡ ask_verdict (reply (next_stream s.end))
      own_line verdict asked log high answered =
          let actual = opened_as f ask s (place_of_reply (reply (next_stream s.end))) (log_of_reply (reply (next_stream s.end))) (high_of_reply (reply (next_stream s.end))) (ask_verdict (reply (next_stream s.end))) in
          same_verdict verdict (ask_verdict (reply (next_stream s.end))) log (log_of_reply (reply (next_stream s.end))) high (high_of_reply (reply (next_stream s.end)))
          (append_cancel_left s.events _ _ (sym answered.line ∙ actual.line))

      pub held_only : RefusedWith 2 f ask s states → ⊥
      unfolding stream_request other_than
      held_only r =
          let answered : AnsweredWith f ask r.asked s (after (opening_requested f ask s) states).1 r.log r.high (ask_answer.Refuse 2) =
          subst (λ b. AnsweredWith f ask r.asked s (after (if b then opening_requested f ask s else refusal_requested f ask s) states).1 r.log r.high (ask_answer.Refuse 2)) (opens_own f ask s it none) r.answered in
          range_other (is_ranged ask) (sym free_said ∙ sym (own_line (ask_answer.Refuse 2) r.asked r.log r.high answered))
