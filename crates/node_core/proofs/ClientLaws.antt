-- a client's connection in other words
use Rattle.std.proofs.Common.{◌≡◌, ℕ, ◌+◌, ◌/◌, ◌%◌, Bool, true, false, List, [], ◌∷◌, ◌++◌, length, take, drop, map, cond, arith, refl, sym, ap, ◌∙◌, subst, length-append, Option, Some, None}
use Rattle.std.specs.Prelude.{◌==◌, ◌&&◌, ◌||◌, nat_lt}
use Rattle.std.specs.List.{All, concat, flat_map, list_any}
use Rattle.std.specs.Int.{w16, w32, w64, to_be_bytes}
use Rattle.std.proofs.Math.Seq.{drop-append_seam, take-append_seam}
use Rattle.std.proofs.lemmas.Bool.Decides.{nat_tests}
use Rattle.std.proofs.lemmas.List.Elements.{All-head, All-tail}
use Rattle.std.proofs.lemmas.Nat.{from_be_bytes-to_be_bytes_4}
use Rattle.mcbp_frame.specs.Frames.{big_32_at, body_size, frame_len}
use Rattle.mcbp_frame.specs.Spelling.{Fits, spelling}
use Rattle.mcbp_frame.specs.declared.frame.Frame.{Frame}
use Rattle.mcbp_frame.proofs.Cases.{length-spelling}
use Rattle.client_session.specs.Serving.{Served, served, bytes_handled, outcome_handled}
use Rattle.dcp_producer.specs.Ending.{end_closed, ended_in, streams_closed}
use Rattle.dcp_producer.specs.Producers.{PlainProducer, PlainStream, begun}
use Rattle.dcp_producer.specs.Serving.{frame_answered}
use Rattle.vb_calls.specs.Programs.{Prog, Done, Call, More, bind, Ran, AnyReply, AnyCall, Always}
use Rattle.vb_calls.specs.declared.calls.VbCall.{VbCall}
use Rattle.vb_calls.specs.declared.calls.VbCall.TheVariants as call
use Rattle.vb_calls.specs.declared.calls.VbReply.{VbReply}
use Rattle.vb_calls.proofs.Binds.{bind_assoc, bind_same}
use Rattle.vb_calls.proofs.Conduct.{always_so}
use Rattle.vb_events.specs.declared.event.Event.{Event}
use Rattle.vb_events.specs.declared.event.Event.TheVariants as event
use Rattle.node_core.specs.declared.conn.Conn.TheVariants as conn
use Rattle.node_core.specs.declared.out.NodeOut.{NodeOut}
use Rattle.node_core.specs.ClientLaws.{ClosesAll, ClosesOne, ClosesLast, ClosesStreams, FramesInNumbers, GetFrames, HandsNone, IsFit, PassesOn, RolesEnd, as_session, ended_too, told_with}
use Rattle.node_core.specs.Clients.{Handling, KeptClient, PlainClient, client_fed, client_posted, closed_if, delivered, frame_passed, frames_passed, front_len, handled_on, passed_by, passed_on, went_on, with_replies}
use Rattle.node_core.specs.Outs.{client_out}
use Rattle.node_core.proofs.ClientTurns.{first_passed}
use Rattle.node_core.proofs.Turning.{onward}

-- ---- frames of streams

two_bytes : (framed : Bool) (n k : ℕ) → (a : ℕ) × (b : ℕ) × (cond framed (n ∷ k ∷ []) (to_be_bytes w16 k) ≡ a ∷ b ∷ [])
two_bytes true n k = (n, k, refl)
two_bytes false n k = (k / 256 % 256, k % 256, refl)

-- a spelling with these two bytes of lengths
abbrev spelled : Frame → List ℕ → List ℕ
spelled f two =
    (f.magic ∷ f.opcode ∷ [] ++ two ++ length f.extras ∷ f.datatype ∷ [] ++ to_be_bytes w16 f.vb_or_status
    ++ to_be_bytes w32 (body_size f) ++ to_be_bytes w32 f.opaque ++ to_be_bytes w64 f.cas) ++ f.framing ++ f.extras ++ f.key ++ f.value

body_read : (f : Frame) (rest : List ℕ) → Fits f → big_32_at (spelling f ++ rest) 8 ≡ body_size f
unfolding spelling
body_read f rest fits =
    let two = two_bytes (f.magic == 8) (length f.framing) (length f.key) in
    ap (λ t. big_32_at (spelled f t ++ rest) 8) two.2 ∙ from_be_bytes-to_be_bytes_4 (body_size f) fits.body

front_spelled : (f : Frame) (rest : List ℕ) → Fits f → front_len (spelling f ++ rest) ≡ length (spelling f)
front_spelled f rest fits =
    let long : length (spelling f ++ rest) ≡ frame_len f + length rest = simp length-append (omega (arith, length-spelling f)) in
    let test : nat_lt (length (spelling f ++ rest)) 24 ≡ false = grind (arith, nat_tests, long) in
    ap (λ b. cond b (length (spelling f ++ rest)) (24 + big_32_at (spelling f ++ rest) 8)) test ∙ ap (λ n. 24 + n) (body_read f rest fits) ∙ sym (length-spelling f)

pairs_told : (n c : ℕ) (told : List (Event × Frame)) → All IsFit told → with_replies n c (map (λ p. p.0) told) (concat (map (λ p. spelling p.1) told)) ≡ flat_map (told_with n c) told
unfolding with_replies
pairs_told n c [] fit = refl
pairs_told n c (p ∷ told) fit =
    let more : List ℕ = concat (map (λ q. spelling q.1) told) in
    let bytes : List ℕ = spelling p.1 ++ more in
    let long : front_len bytes ≡ length (spelling p.1) = front_spelled p.1 more (All-head IsFit p told fit) in
    let front : take (front_len bytes) bytes ≡ spelling p.1 = ap (λ k. take k bytes) long ∙ take-append_seam (spelling p.1) more in
    let rest : drop (front_len bytes) bytes ≡ more = ap (λ k. drop k bytes) long ∙ drop-append_seam (spelling p.1) more in
    let again = pairs_told n c told (All-tail IsFit p told fit) in
    λ i. p.0 ∷ event.Reply n c (front i) ∷ (ap (with_replies n c (map (λ q. q.0) told)) rest ∙ again) i

alone_told : (n c : ℕ) (f : Frame) → with_replies n c [] (spelling f) ≡ event.Reply n c (spelling f) ∷ []
unfolding with_replies spelling
alone_told n c f = refl

pub get_frames : GetFrames
unfolding with_replies
get_frames = record { pairs = pairs_told; alone = alone_told; none = λ n c. refl }

pub frames_in_numbers : FramesInNumbers
unfolding with_replies
frames_in_numbers = record { two = refl; behind = refl; part = refl }

-- ---- requests of DCP

passed_none : (clock : ℕ) (h : Handling) → h.dcp ≡ None → frames_passed clock h ≡ Done h
unfolding frame_passed onward
passed_none clock h e = first_passed clock h ∙ ap (λ d. bind (passed_by clock h d) (onward (frames_passed clock))) e

passed_frame : (clock : ℕ) (h : Handling) (f : Frame) → h.dcp ≡ Some f
    → frames_passed clock h
    ≡ bind (frame_answered f (begun h.client.producer)) (λ a. bind (bytes_handled clock [] (served h.client.session [])) (λ s. frames_passed clock (went_on (h.events ++ delivered h.client.session.who a) a.end s)))
unfolding frame_passed onward
passed_frame clock h f e =
    first_passed clock h ∙ ap (λ d. bind (passed_by clock h d) (onward (frames_passed clock))) e
    ∙ bind_assoc (frame_answered f (begun h.client.producer)) (passed_on clock h) (onward (frames_passed clock))
    ∙ (λ i. bind (frame_answered f (begun h.client.producer)) (λ a. bind_assoc (bytes_handled clock [] (served h.client.session [])) (λ s. Done (More (went_on (h.events ++ delivered h.client.session.who a) a.end s))) (onward (frames_passed clock)) i))

-- a session that hands nothing up
as_it_does : (clock : ℕ) (producer : PlainProducer) (prog : Prog Served) → Always AnyCall HandsNone prog
    → bind prog (handled_on clock producer) ≡ bind prog (λ s. closed_if s.session.closed (as_session producer s))
as_it_does clock producer prog none =
    bind_same prog (handled_on clock producer) (λ s. closed_if s.session.closed (as_session producer s))
    (always_so AnyReply AnyCall HandsNone (λ s. handled_on clock producer s ≡ closed_if s.session.closed (as_session producer s)) prog by none)
  where
    by : (s : Served) → HandsNone s → handled_on clock producer s ≡ closed_if s.session.closed (as_session producer s)
    by s e =
        ap (λ p. bind p (λ h. closed_if h.client.session.closed h)) (passed_none clock (went_on [] producer s) e)
        ∙ ap (λ d. closed_if s.session.closed (record { client = record { session = s.session; producer = producer }; events = s.events; dcp = d })) e

pub passes_on : PassesOn
unfolding client_fed client_posted
passes_on = record {
  bytes = λ clock piece client none. as_it_does clock client.producer (bytes_handled clock piece (served client.session [])) none;
  outcomes = λ clock outcome client none. as_it_does clock client.producer (outcome_handled clock outcome (served client.session [])) none;
  none = passed_none;
  frame = passed_frame;
}

-- ---- the end of streams

module _ {W : Type 0} (step : W → ℕ → VbCall → Option VbReply → W → Type 0) where
  -- what ran both ran the first, and then the second
  pub ran_apart : {A B : Type 0} (prog : Prog A) (k : A → Prog B) (old : W) (b : B) (new : W) → Ran step (bind prog k) old b new → (a : A) × (mid : W) × Ran step prog old a mid × Ran step (k a) mid b new
  ran_apart (Done a) k old b new ran = (a, old, (refl, refl), ran)
  ran_apart (Call v call next) k old b new ran =
      let rest = ran_apart (next ran.0) k ran.1 b new ran.3 in
      (rest.0, rest.1, (ran.0, ran.1, ran.2, rest.2), rest.3)

  streams_so : (streams : List PlainStream) (old : W) (u : Unit {0}) (new : W) → Ran step (streams_closed streams) old u new → ClosesAll step streams old new
  streams_so [] old u new ran = ran.1
  streams_so (stream ∷ more) old u new ran = by (λ mid all. streams_so more mid u new all) stream.ended ran
    where
      by : ((mid : W) → Ran step (streams_closed more) mid u new → ClosesAll step more mid new)
          → (ended : Bool) → Ran step (cond ended (streams_closed more) (Call stream.vb (call.CloseStream stream.id) (λ reply. streams_closed more))) old u new
          → (mid : W) × ClosesOne step ended stream old mid × ClosesAll step more mid new
      by rest true ran = (old, refl, rest old ran)
      by rest false ran = (ran.1, (ran.0, ran.2), rest ran.1 ran.3)

  end_so : (end : PlainProducer) (old : W) (u : Unit {0}) (new : W) → Ran step (end_closed end) old u new → ClosesAll step end.streams old new
  unfolding end_closed
  end_so end old u new ran = streams_so end.streams old u new ran

  -- what comes of a connection where it stands so
  closed_so : (h : Handling) (b : Bool) (mid : W) (came : Handling) (new : W) → Ran step (closed_if b h) mid came new
      → (came ≡ h) × (b ≡ true → ClosesAll step h.client.producer.streams mid new) × (b ≡ false → new ≡ mid)
  closed_so h true mid came new ran =
      let parts = ran_apart (end_closed h.client.producer) (λ none. Done h) mid came new ran in
      (parts.3.0, λ is. subst (ClosesAll step h.client.producer.streams mid) (sym parts.3.1) (end_so h.client.producer mid parts.0 parts.1 parts.2), λ is. cc)
  closed_so h false mid came new ran = (ran.0, λ is. cc, λ is. ran.1)

  closes_last : (clock : ℕ) (prog : Prog Served) (producer : PlainProducer) (old : W) (h : Handling) (out : NodeOut) (left : KeptClient) (new : W)
      → Ran step (bind prog (handled_on clock producer)) old h new → out ≡ client_out h → left.plain ≡ h.client
      → ClosesLast step (bind prog (λ s. frames_passed clock (went_on [] producer s))) old out left new
  closes_last clock prog producer old h out left new ran said is =
      let whole = subst (λ p. Ran step p old h new) (sym (bind_assoc prog (λ s. frames_passed clock (went_on [] producer s)) (λ g. closed_if g.client.session.closed g))) ran in
      let parts = ran_apart (bind prog (λ s. frames_passed clock (went_on [] producer s))) (λ g. closed_if g.client.session.closed g) old h new whole in
      let end = closed_so parts.0 parts.0.client.session.closed parts.1 h new parts.3 in
      let same : left.plain ≡ parts.0.client = is ∙ ap (λ (g : Handling). g.client) end.0 in
      let says : out.closed ≡ left.plain.session.closed = ap (λ (o : NodeOut). o.closed) said ∙ sym (ap (λ (c : PlainClient). c.session.closed) is) in
      let told : parts.0.client.session.closed ≡ out.closed = sym (ap (λ (c : PlainClient). c.session.closed) same) ∙ sym says in
      record {
        mid = parts.1;
        came = parts.0;
        ran = parts.2;
        same = same;
        says = says;
        closed = λ b. subst (λ (c : PlainClient). ClosesAll step c.producer.streams parts.1 new) (sym same) (end.1 (told ∙ b));
        still_open = λ b. end.2 (told ∙ b);
      }

  pub closes_streams : ClosesStreams step
  unfolding client_fed client_posted
  closes_streams = record {
    bytes = λ clock piece kept old out left new fed. closes_last clock (bytes_handled clock piece (served kept.plain.session [])) kept.plain.producer old fed.2.0 out left new fed.2.1 fed.2.2 fed.2.3;
    outcomes = λ clock outcome kept old out left new posted.
        closes_last clock (outcome_handled clock outcome (served kept.plain.session [])) kept.plain.producer old posted.2.0 out left new posted.2.1 posted.2.2 posted.2.3;
    shut = λ kept old new ran. end_so kept.plain.producer old tt new ran;
  }

ended_same : (v : ℕ) (ids : List ℕ) (stream : PlainStream) → ended_in v ids stream ≡ ended_too v ids stream
ended_same v ids stream = by (stream.vb == v && list_any (λ i. i == stream.id) ids) stream.ended refl
  where
    by : (b old : Bool) → stream.ended ≡ old → cond b (record stream { ended = true }) stream ≡ record stream { ended = stream.ended || b }
    by true true e = ap (λ x. record stream { ended = x || true }) (sym e)
    by true false e = ap (λ x. record stream { ended = x || true }) (sym e)
    by false true e = λ i. record stream { ended = (e ∙ sym (ap (λ x. x || false) e)) i }
    by false false e = λ i. record stream { ended = (e ∙ sym (ap (λ x. x || false) e)) i }

all_ended : (v : ℕ) (ids : List ℕ) (streams : List PlainStream) → map (ended_in v ids) streams ≡ map (ended_too v ids) streams
all_ended v ids [] = refl
all_ended v ids (stream ∷ more) = λ i. ended_same v ids stream i ∷ all_ended v ids more i

pub roles_end : RolesEnd
roles_end = record {
  clients = λ v ids kept. ap (λ streams. conn.Client (record kept { plain = record kept.plain { producer = record kept.plain.producer { streams = streams } } })) (all_ended v ids kept.plain.producer.streams);
  peers = λ v ids kept. ap (λ streams. conn.Peer (record kept { plain = record kept.plain { producer = record kept.plain.producer { streams = streams } } })) (all_ended v ids kept.plain.producer.streams);
  none = λ v kept. refl;
}
