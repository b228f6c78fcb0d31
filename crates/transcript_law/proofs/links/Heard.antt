-- the answer to a state is heard at a producer: nothing is told, and the stream goes on to its next step
use Rattle.std.specs.Prelude.{◌≡◌, ◌&&◌, ◌∷◌, ◌++◌, ◌⊎◌, ◌==◌, if◌then◌else◌}
use Rattle.transcript_law.proofs.Words.{ℕ, Bool, true, false, List, [], drop, map, not, filter, refl, ap, sym, ◌∙◌, subst, inl, inr, eq-eqb, append-nil, option_map, Option, Some, None, Frame, Done, after, dcp_frame, Member, Plain, PlainProducer, PlainConsumer, PlainStream, Granted, Served, begun, frame_answered, Begun}
use Rattle.transcript_law.proofs.Words.{row_at, PlainLink, link_number, producer_node, PeerResult, PlainNode, PlainWorld, Chronicle, Role, StreamName, after_lines}
use Rattle.dcp_producer.specs.Serving.{heard}
use Rattle.node_world.specs.Links.{frame_up}
use Rattle.takeover.specs.GivingUp.{answered}
use Rattle.vb_types.specs.declared.stream.AskAnswer.TheVariants as ask_answer
use Rattle.transcript_law.specs.Feeding.{HasOpen}
use Rattle.transcript_law.proofs.invariant.Agreement.{BegunAgrees, DownAgrees, EndsStand, FeederIn, GivenIn, Handing, Heir, LinkAgrees, Open, Streaming, UpIs, Wants, answer_frame, answers_in, consumer_seat, gives_in, has_pended, heir_answers, heir_step, is_granted, is_sending, is_state_answer, kept_stream, producer_seat, spoken, state_answer, stated_in, stream_frames, tail_frames, taken_in, vb_of, wants_of}
use Rattle.transcript_law.proofs.{invariant.Carried.{talk_same, told_of_same}, lines.Telling.{none_before}, links.Firsts.{first_answers}, links.Talks.{next_up}, links.Upgoing.{upward_answers, upward_last}}
use Rattle.transcript_law.proofs.links.Upward.{Now, answered_at, came_of, frame_came, link_now, quiet_at, same_vbs, served_at, world_at}

-- the producer whose streams with this opaque heard that a state was taken
abbrev pub heard_end : ℕ → PlainProducer → PlainProducer
heard_end o end = record end { streams = map (heard o) end.streams }

-- one of them
abbrev pub heard_stream : PlainStream → PlainStream
heard_stream stream = record stream { gives = option_map answered stream.gives }

-- that is all that the answer comes to
pub state_heard : (o : ℕ) (s : Served) → frame_answered (state_answer o) s ≡ Done (record s { end = heard_end o s.end })
unfolding frame_answered dcp_frame
state_heard o s = refl

-- the link's stream, which has the opaque
kept_heard : (over : Bool) (stream : PlainStream) (o : ℕ) → stream.opaque ≡ o → map (heard o) (kept_stream over stream) ≡ kept_stream over (heard_stream stream)
kept_heard true stream o is = refl
kept_heard false stream o is = ap (λ b. (if b then heard_stream stream else stream) ∷ []) (eq-eqb stream.opaque o is)

-- the streams that are open are those that were
one_heard : (b : Bool) (v id : ℕ) (stream : PlainStream) (more more' : List PlainStream) → (HasOpen v id more' → HasOpen v id more) → HasOpen v id ((if b then heard_stream stream else stream) ∷ more') → HasOpen v id (stream ∷ more)
one_heard true v id stream more more' rest (inl is) = inl is
one_heard true v id stream more more' rest (inr later) = inr (rest later)
one_heard false v id stream more more' rest (inl is) = inl is
one_heard false v id stream more more' rest (inr later) = inr (rest later)

open_heard : (o v id : ℕ) (streams : List PlainStream) → HasOpen v id (map (heard o) streams) → HasOpen v id streams
open_heard o v id [] has = has
open_heard o v id (stream ∷ more) has = one_heard (stream.opaque == o) v id stream more (map (heard o) more) (open_heard o v id more) has

-- ---- which answer it is

-- that to pending, of a stream that goes on
answers_pended : (o : ℕ) (h : Handing) (f : Frame) (fs : List Frame) → f ∷ fs ≡ answers_in o h → h ≡ Handing.Pended
answers_pended o Handing.Unstated f fs e = cc
answers_pended o Handing.Offered f fs e = cc
answers_pended o Handing.Pended f fs e = refl
answers_pended o Handing.Due f fs e = cc
answers_pended o Handing.Ceded f fs e = cc
answers_pended o Handing.Stated f fs e = cc

-- and that to active, of an heir's
answers_heir : (o : ℕ) (b : Bool) (f : Frame) (fs : List Frame) → f ∷ fs ≡ heir_answers o b → b ≡ false
answers_heir o true f fs e = cc
answers_heir o false f fs e = refl

pended_states : Handing.Pended ≡ Handing.Unstated → ⊥
pended_states e = cc

-- what its lines tell of the last snapshot holds of it yet
begun_heard : (begun : Option Begun) (stream : PlainStream) → BegunAgrees begun stream → BegunAgrees begun (heard_stream stream)
begun_heard None stream agrees = agrees
begun_heard (Some b) stream agrees = agrees

-- what is left of an heir's stream is its end
heir_heard : {pv : Option Plain} {g : Option Granted} {served : PlainProducer} {asker : PlainConsumer} {f : Frame} {rest put : List Frame} → Heir pv g served asker (f ∷ rest) put → f ≡ state_answer asker.asked → Heir pv g (heard_end asker.asked served) asker rest put
heir_heard {asker = asker} {f = f} {rest = rest} t is =
    let o : ℕ = asker.asked in let v : ℕ = asker.dialed.vb in let wrote : List ℕ = t.granted_is.wrote in
    let unanswered : t.answered ≡ false = answers_heir o t.answered f (filter is_state_answer rest) (upward_answers wrote o v (heir_answers o t.answered) f rest t.acks is) in
    record {
      granted_is = t.granted_is;
      told = t.told;
      stream = heard_stream t.stream;
      stream_is = ap (map (heard o)) t.stream_is ∙ kept_heard t.granted_is.over t.stream o t.opaque_is;
      vb_is = t.vb_is;
      opaque_is = t.opaque_is;
      numbered = t.numbered;
      apart = t.apart;
      whole = t.whole;
      last = t.last;
      flag_is = t.flag_is;
      server = t.server;
      answered = true;
      gives_is = ap (option_map answered) (t.gives_is ∙ ap (λ b. Some (heir_step b)) unanswered);
      for_takeover = t.for_takeover;
      owns = t.owns;
      granted = t.granted;
      small = t.small;
      acks = upward_last wrote o v (heir_answers o t.answered) f rest t.acks is (ap (heir_answers o) unanswered);
      over_done = λ over lives. refl;
      opens = t.opens;
      none_marked = t.none_marked;
      none_coming = t.none_coming;
      end_is = t.end_is;
    }

module _ {fv : Wants} {kn : Member} {pv : Option Plain} {leader : Member} {g : Option Granted} {served : PlainProducer} {asker : PlainConsumer} {f : Frame} {rest put : List Frame} where
  streaming_pended : (t : Streaming fv kn pv leader g served asker (f ∷ rest) put) → f ≡ state_answer asker.asked → t.serving.handing ≡ Handing.Pended
  streaming_pended t is = answers_pended asker.asked t.handing f (filter is_state_answer rest) (upward_answers t.granted_is.wrote asker.asked asker.dialed.vb (answers_in asker.asked t.handing) f rest t.acks is)

  -- the vBucket is to be given up then
  streaming_heard : Streaming fv kn pv leader g served asker (f ∷ rest) put → f ≡ state_answer asker.asked → Streaming fv kn pv leader g (heard_end asker.asked served) asker rest put
  streaming_heard t is =
      let o : ℕ = asker.asked in let v : ℕ = asker.dialed.vb in let wrote : List ℕ = t.granted_is.wrote in
      let pended : t.handing ≡ Handing.Pended = streaming_pended t is in
      record {
        granted_is = t.granted_is;
        told = t.told;
        serving = record {
          stream = heard_stream t.stream;
          stream_is = ap (map (heard o)) t.stream_is ∙ kept_heard t.granted_is.over t.stream o t.streams.put.opaque_is;
          numbered = t.numbered;
          apart = t.apart;
          server = t.server;
          handing = Handing.Due;
          gives_is = ap (option_map answered) (t.gives_is ∙ ap (gives_in asker.dialed.takeover) pended);
          dialed_so = λ plain. absurd (pended_states (sym pended ∙ t.dialed_so plain));
          acks = upward_last wrote o v (answers_in o t.handing) f rest t.acks is (ap (answers_in o) pended);
          unput = t.unput;
          unput_is = t.unput_is;
          all_put = t.all_put;
          stated_behind = λ sends. t.stated_behind (ap is_sending pended);
        };
        feed = t.feed;
        fed = t.fed;
        sources = t.sources;
        log_fits = t.log_fits;
        seen = t.seen;
        taking = record {
          not_more = t.not_more;
          consumer = t.consumer;
          adopted = t.adopted;
          taken_is = t.taken_is ∙ ap taken_in pended;
          granted_first = λ last. t.granted_first (ap taken_in pended);
          flag_is = t.flag_is;
          asks = t.asks;
        };
        streams = record {
          put = record {
            vb_is = t.streams.put.vb_is;
            opaque_is = t.streams.put.opaque_is;
            no_end = record { until = t.streams.put.no_end.until; marked = t.streams.put.no_end.marked };
            first_is = t.streams.put.first_is;
            marked_is = t.streams.put.marked_is;
            sync_is = t.streams.put.sync_is;
            put_place = t.streams.put.put_place;
            none_unread = t.streams.put.none_unread;
            fits = t.streams.put.fits;
            next_in = t.streams.put.next_in;
            last = begun_heard t.granted_is.last t.stream t.streams.put.last;
            log_lines = t.streams.put.log_lines;
            front_is = t.streams.put.front_is;
          };
          opens = λ lives. opens_due t pended (t.streams.opens lives);
          given_in = subst (λ h. GivenIn h t.feed.given t.granted_is.place) pended t.streams.given_in;
          all_taken = λ has. t.streams.all_taken (ap has_pended pended);
          over_ended = t.streams.over_ended;
          coming = record { all = t.streams.coming.all; last = t.streams.coming.last };
          way = t.streams.way;
        };
        all = subst (λ h. drop t.seen (first_answers asker.dialed ++ answer_frame o t.feed.log ask_answer.Go ∷ [])
            ++ stream_frames o v (tail_frames o v h t.granted_is.over) (is_granted asker.dialed t.seen && not fv.first) kn.position kn.coming t.snapshots ≡ put ++ t.unput) pended t.all;
      }
    where
      opens_due : (t : Streaming fv kn pv leader g served asker (f ∷ rest) put) → t.handing ≡ Handing.Pended → Open t.stream.id t.granted_is pv leader t.feed t.handing → Open t.stream.id t.granted_is pv leader t.feed Handing.Due
      opens_due t pended y = record {
        producer = y.producer;
        producer_is = y.producer_is;
        active = subst (λ h. FeederIn h y.producer.role leader t.feed.given) pended y.active;
        leads = y.leads;
        reached = y.reached;
        opened = y.opened;
      }

module _ (w0 : PlainWorld) (r0 : Chronicle) (n : ℕ) (link0 : PlainLink) (found : row_at link_number (link_number link0) w0.links ≡ Some link0) where
  abbrev l : ℕ
  l = link_number link0

  abbrev v : ℕ
  v = link0.consumer.dialed.vb

  abbrev o : ℕ
  o = link0.consumer.asked

  abbrev So : List Frame → PlainNode × PeerResult → Type 0
  So fs x = Now w0 r0 n link0 found fs x

  module _ (f : Frame) (fs : List Frame) (x : PlainNode × PeerResult) (now : So (f ∷ fs) x) where
    abbrev r : Chronicle
    r = after_lines r0 x.1.events

    abbrev here : PlainLink
    here = served_at w0 r0 n link0 found x.1

    abbrev la : LinkAgrees (world_at w0 r0 n link0 found x) r now.cluster here (f ∷ fs) []
    la = link_now w0 r0 n link0 found (f ∷ fs) x now

    -- what is on its way behind the frame
    abbrev rest : List Frame
    rest = fs ++ la.talk.ups.behind

    abbrev pv : Option Plain
    pv = vb_of (world_at w0 r0 n link0 found x) (producer_node here) v

    -- where the ends of the link stand, with these frames on their way up, by what its producer's end is
    abbrev StandsNow : PlainProducer → List Frame → Type 0
    StandsNow end up = EndsStand (wants_of la.follower) (now.cluster.nodes (consumer_seat link0)) pv (now.cluster.nodes (producer_seat here)) (r.stream_of (StreamName.Link l) v) (r.stated_of l) (r.point_of l) end link0.consumer up (spoken la.talk.said)

    heard_on : f ≡ state_answer o → StandsNow (heard_end o x.1.peer.producer) rest → So fs (frame_up f x)
    heard_on is stands =
        let s : Served = begun x.1.peer.producer in let end : PlainProducer = heard_end o x.1.peer.producer in
        let y : PlainNode × PeerResult = answered_at w0 r0 n link0 found x x.0.vbs end [] [] in
        let came : frame_answered f s ≡ Done (record s { end = end }) = ap (λ g. frame_answered g s) is ∙ state_heard o s in
        subst (So fs) (sym (frame_came w0 r0 n link0 found f x ∙ ap (λ p. came_of w0 r0 n link0 found x (after p x.0.vbs)) came))
        (quiet_at w0 r0 n link0 found (f ∷ fs) fs x now x.0.vbs (λ q. refl) end [] [] refl (λ q id has. open_heard o q id x.1.peer.producer.streams has) (none_before r) r refl (told_of_same l r) refl refl refl refl
        (talk_same refl (same_vbs w0 r0 n link0 found x y (λ q. refl) end.desk.node v) refl refl refl refl (record {
          asked = rest;
          said = la.talk.said;
          stands = stands;
          ups = next_up here end (link0.down ++ (x.1.out ++ [])) f f f fs rest (subst (UpIs here (f ∷ fs)) la.talk.ups.joined la.talk.ups);
          downs = subst (λ out. DownAgrees (record here { server = end; down = link0.down ++ out }) [] la.talk.said) (sym (append-nil x.1.out)) (record { behind = la.talk.downs.behind; joined = la.talk.downs.joined; bytes = la.talk.downs.bytes; readable = la.talk.downs.readable });
        })))

    abbrev StreamingBehind : Type 0
    StreamingBehind = Streaming (wants_of la.follower) (now.cluster.nodes (consumer_seat link0)) pv (now.cluster.nodes (producer_seat here)) (r.stream_of (StreamName.Link l) v) x.1.peer.producer link0.consumer (f ∷ rest) (spoken la.talk.said)

    abbrev HeirBehind : Type 0
    HeirBehind = Heir pv (r.stream_of (StreamName.Link l) v) x.1.peer.producer link0.consumer (f ∷ rest) (spoken la.talk.said)

    -- the answer to pending, and to active
    pub pended_heard : f ≡ state_answer o → (t : StreamingBehind) → r.stated_of l ≡ stated_in t.serving.handing → So fs (frame_up f x)
    unfolding streaming_heard
    pended_heard is t said = heard_on is (EndsStand.IsStreaming (streaming_heard t is) (said ∙ ap stated_in (streaming_pended t is)))

    pub owned_heard : f ≡ state_answer o → HeirBehind → r.stated_of l ≡ Some Role.Active → So fs (frame_up f x)
    owned_heard is t said = heard_on is (EndsStand.IsHeir (heir_heard t is) said)
