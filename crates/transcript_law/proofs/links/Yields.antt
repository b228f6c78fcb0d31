-- a vBucket is given up for the one stream of a link: what the producer's program comes to, and how the two ends stand then
use Rattle.std.specs.Prelude.{◌≡◌, ◌∷◌, ◌++◌, ◌&&◌, ◌||◌, ◌==◌, if◌then◌else◌, nat_lt, not}
use Rattle.transcript_law.proofs.Words.{Bool, Feed, Frame, Granted, List, Member, None, Option, Plain, PlainConsumer, PlainProducer, PlainStream, Some, States, Stream, Role, VbReply, refusal_reply}
use Rattle.transcript_law.proofs.Words.{[], Begun, after, ap, bind, call_at, drop, eq-eqb, false, fork_of, is_active, list_any, option_map, refl, stream_at, stream_ids, subst, sym, true, with_vb_at, without_stream, ℕ, ◌∙◌, Done}
use Rattle.transcript_law.proofs.invariant.Agreement.{BegunAgrees, Handing, Streaming, UpwardIs, Wants, answer_frame, answers_in, is_granted, kept_stream, stream_frames, tail_frames, taken_in}
use Rattle.transcript_law.proofs.links.Firsts.{first_answers}
use Rattle.dcp_producer.specs.Giving.{Yields, all_given, behind_yield, given_of, given_up, is_due, none_given, told_as, with_given, with_told}
use Rattle.dcp_producer.specs.declared.yields.Yielded.{Yielded}
use Rattle.{cluster_model.specs.Clusters.{yielded as at_rest}, flow_control.specs.Windows.{is_open}, node_core.specs.GivingUp.{give_result, peer_gives_up}, node_core.specs.Peers.{PlainPeer}}
use Rattle.takeover.specs.{GivingUp.{done}, declared.give_up.GiveStep.TheVariants.{SendRest, Yield}}
use Rattle.vb_calls.specs.{Programs.{Call}, Roles.{ending_reply, in_role_with, yielded}, States.{stepped_at}}
use Rattle.vb_calls.specs.declared.calls.VbAnswer.TheVariants as said
use Rattle.vb_calls.specs.declared.calls.VbCall.TheVariants as call
use Rattle.vb_calls.proofs.Readings.{after_bind}
use Rattle.vb_types.specs.declared.{status.Status.TheVariants.{NotMyVbucket}, stream.AskAnswer.TheVariants.{Go}}

-- ---- the program

-- the vBucket that was given up for a stream of it, and the reply
abbrev pub left_by : Plain → Stream → Plain
left_by p o = in_role_with p Role.Dead (o ∷ [])

abbrev pub over_by : Plain → Stream → List ℕ
over_by p o = stream_ids (without_stream o.id p.streams)

abbrev reply_by : Plain → Stream → VbReply
reply_by p o = record (ending_reply p said.Done) { ended = over_by p o }

-- the stream then, and what is told
abbrev pub stream_left : PlainStream → PlainStream
stream_left t = record t { gives = Some (record { step = SendRest }) }

abbrev pub one_told : PlainStream → Plain → Stream → Yielded
one_told t p o = record { vb = t.vb; ended = over_by p o; resolved = (reply_by p o).resolved }

-- what comes of the producer by what was replied
abbrev came_of : PlainProducer → PlainStream → States × Option VbReply → States × Yields
came_of end t y = (y.0, record { end = record end { streams = behind_yield (told_as t.vb y.1) t ∷ [] }; yielded = with_told (told_as t.vb y.1) [] })

pub yields_one : (k : ℕ) (end : PlainProducer) (t : PlainStream) (states : States) (p : Plain) (o : Stream) → (nat_lt 0 k && is_open end.window) ≡ true → end.streams ≡ t ∷ [] → is_due t ≡ true → t.gives ≡ Some (record { step = Yield }) → states t.vb ≡ Some p → is_active p.role ≡ true
    → stream_at t.id p.streams ≡ Some o → after (given_up k end) states ≡ (with_vb_at states t.vb (left_by p o), record { end = record end { streams = stream_left t ∷ [] }; yielded = one_told t p o ∷ [] })
unfolding given_up
yields_one k end t states p o free one due yields has active opened =
    ap (λ b. after (if b then all_given end else Done (record { end = end; yielded = [] })) states) free
    ∙ (λ i. after (all_given (record end { streams = one i })) states)
    ∙ ap (λ b. after (bind (bind (if b then Call t.vb (call.Yield t.id) (λ reply. Done (behind_yield (told_as t.vb reply) t, told_as t.vb reply)) else Done (t, None)) (λ x. Done (with_given none_given x))) (λ g. Done (given_of (record end { streams = t ∷ [] }) g))) states) due
    ∙ ap (λ x. came_of end t (call_at states t.vb (call.Yield t.id) x)) has
    ∙ ap (λ b. came_of end t (stepped_at states t.vb (if b then yielded (stream_at t.id p.streams) p else (p, refusal_reply NotMyVbucket)))) active
    ∙ ap (λ q. came_of end t (stepped_at states t.vb (yielded q p))) opened
    ∙ ap (λ g. (with_vb_at states t.vb (left_by p o), record { end = record end { streams = record t { gives = option_map done g } ∷ [] }; yielded = one_told t p o ∷ [] })) yields

pub peer_yields : (k : ℕ) (peer : PlainPeer) (t : PlainStream) (states : States) (p : Plain) (o : Stream) → (nat_lt 0 k && is_open peer.producer.window) ≡ true → peer.producer.streams ≡ t ∷ [] → is_due t ≡ true → t.gives ≡ Some (record { step = Yield }) → states t.vb ≡ Some p → is_active p.role ≡ true
    → stream_at t.id p.streams ≡ Some o → after (peer_gives_up k peer) states ≡ (with_vb_at states t.vb (left_by p o), record { peer = record peer { producer = record peer.producer { streams = stream_left t ∷ [] } }; given = one_told t p o ∷ [] })
peer_yields k peer t states p o free one due yields has active opened =
    after_bind (given_up k peer.producer) (λ y. Done (give_result peer.heard y)) states ∙ ap (λ (x : States × Yields). (x.0, give_result peer.heard x.1)) (yields_one k peer.producer t states p o free one due yields has active opened)

-- none of the streams that ended is that one
pub none_over : (id : ℕ) (streams : List Stream) → list_any (λ i. i == id) (stream_ids (without_stream id streams)) ≡ false
none_over id [] = refl
none_over id (x ∷ xs) = by (x.id == id) refl (none_over id xs)
  where
    by : (b : Bool) → (x.id == id) ≡ b → list_any (λ i. i == id) (stream_ids (without_stream id xs)) ≡ false → list_any (λ i. i == id) (stream_ids (if not b then x ∷ without_stream id xs else without_stream id xs)) ≡ false
    by true e rest = rest
    by false e rest = ap (λ b. b || list_any (λ i. i == id) (stream_ids (without_stream id xs))) e ∙ rest

-- ---- the two ends

begun_left : (b : Option Begun) (t : PlainStream) → BegunAgrees b t → BegunAgrees b (stream_left t)
begun_left None t x = x
begun_left (Some b) t x = x

-- the consumer's member, whose branch was given up for it, and the one that gave it up
abbrev pub heir_of : Member → Feed → Member → Member
heir_of kn feed leader = record kn { link = Some (record feed { given = Some leader.position.at }) }

pub ceded_streaming : {fv : Wants} {kn : Member} {pv : Option Plain} {leader : Member} {g : Option Granted} {served : PlainProducer} {asker : PlainConsumer} {up put : List Frame} (t : Streaming fv kn pv leader g served asker up put) (p : Plain) (o : Stream)
    → t.handing ≡ Handing.Due → asker.dialed.takeover ≡ true → t.granted_is.over ≡ false → t.stream.ended ≡ false → pv ≡ Some p → stream_at t.stream.id p.streams ≡ Some o → o.id ≡ t.stream.id → fork_of leader.position ≡ leader.position.at
    → (x : Streaming fv (heir_of kn t.feed leader) (Some (left_by p o)) (at_rest leader) g (record served { streams = stream_left t.stream ∷ [] }) asker up put) × (x.handing ≡ Handing.Ceded)
ceded_streaming {fv} {kn} {leader = leader} {asker = asker} {up = up} {put = put} t p o due takeover left going is found number tip =
    let v : ℕ = asker.dialed.vb in
    let feed : Feed = record t.feed { given = Some leader.position.at } in
    let x = t.streams in
    let y = x.opens going in
    let (s, at_s, asked, sync, placed, begun) = y.opened in
    let both : Some y.producer ≡ Some p = sym y.producer_is ∙ is in
    let same : y.producer ≡ p = cc in
    let there : Some s ≡ Some o = sym at_s ∙ ap (λ (b : Plain). stream_at t.stream.id b.streams) same ∙ found in
    let one : s ≡ o = cc in (
      record {
        granted_is = t.granted_is;
        told = t.told;
        serving = record {
          stream = stream_left t.stream;
          stream_is = ap (λ b. kept_stream b (stream_left t.stream)) (sym left);
          numbered = t.numbered;
          apart = t.apart;
          server = t.server;
          handing = Handing.Ceded;
          gives_is = refl;
          dialed_so = λ q. let z : true ≡ false = sym takeover ∙ q in cc;
          acks = subst (λ h. UpwardIs t.granted_is.wrote asker.asked v (answers_in asker.asked h) up) due t.acks;
          unput = t.unput;
          unput_is = t.unput_is;
          all_put = t.all_put;
          stated_behind = λ q. cc;
        };
        feed = feed;
        fed = refl;
        sources = record { snapshots = t.snapshots; are = t.are };
        log_fits = record { short = t.log_fits.short; entries = t.log_fits.entries };
        seen = t.seen;
        taking = record {
          not_more = t.taking.not_more;
          consumer = t.taking.consumer;
          adopted = t.taking.adopted;
          taken_is = t.taking.taken_is ∙ ap taken_in due;
          granted_first = λ q. t.taking.granted_first (ap taken_in due ∙ q);
          flag_is = t.taking.flag_is;
          asks = t.taking.asks;
        };
        streams = record {
          put = record {
            vb_is = x.vb_is;
            opaque_is = x.opaque_is;
            no_end = record { until = x.no_end.until; marked = x.no_end.marked };
            first_is = x.first_is;
            marked_is = x.marked_is;
            sync_is = x.sync_is;
            put_place = x.put_place;
            none_unread = x.none_unread;
            fits = x.fits;
            next_in = x.next_in;
            last = begun_left t.granted_is.last t.stream x.last;
            log_lines = x.log_lines;
            front_is = x.front_is;
          };
          opens = λ q. record {
            producer = left_by p o;
            producer_is = refl;
            active = record { dead = refl; at_tip = tip; given_there = refl };
            leads = y.leads;
            opened = (o, ap (λ b. if b then Some o else None) (eq-eqb o.id t.stream.id number), ap (λ (z : Stream). z.ask) (sym one) ∙ asked, ap (λ (z : Stream). z.sync) (sym one) ∙ sync, ap (λ (z : Stream). z.place) (sym one) ∙ placed, ap (λ (z : Stream). z.taken) (sym one) ∙ begun);
            reached = y.reached;
          };
          given_in = (leader.position.at, refl);
          all_taken = λ q. cc;
          over_ended = x.over_ended;
          coming = record { all = x.coming.all; last = x.coming.last };
          way = record { place_is = x.way.place_is; marks = x.way.marks; in_one_last = x.way.in_one_last; taken_one = x.way.taken_one; none_left = x.way.none_left; not_in_one = x.way.not_in_one; in_flight = x.way.in_flight };
        };
        all = ap (λ h. drop t.seen (first_answers asker.dialed ++ answer_frame asker.asked t.feed.log Go ∷ []) ++ stream_frames asker.asked v (tail_frames asker.asked v h t.granted_is.over) (is_granted asker.dialed t.seen && not fv.first) kn.position kn.coming t.snapshots) (sym due) ∙ t.all;
      },
      refl,
    )
