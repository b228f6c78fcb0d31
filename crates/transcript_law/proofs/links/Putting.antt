-- a producer puts the next item of its snapshot
use Rattle.std.specs.Prelude.{◌≡◌, ◌+◌, ◌<◌, ◌≤◌, ◌∷◌, ◌++◌, ◌&&◌}
use Rattle.transcript_law.proofs.Words.{ℕ, zero, suc, Bool, true, false, List, [], length, map, drop, take, refl, ap, sym, ◌∙◌, subst, arith, append-nil, append_assoc}
use Rattle.transcript_law.proofs.Words.{Option, Some, None, slice_get, is_some, not, option_map, map-append, Frame, Readable, DcpMsg, dcp_frame, Change, Rises, Member, Plain}
use Rattle.transcript_law.proofs.Words.{past_item, STATE_CHANGED, PlainStream, Begun, Granted, with_item, finished, item_of_change, IsNextItem, PlainProducer, PlainConsumer}
use Rattle.transcript_law.proofs.Words.{take-append-drop, AskAnswer, rises_le, more_items}
use Rattle.transcript_law.proofs.invariant.Agreement.{ChangeFits, BegunAgrees, FeederIn, GivenIn, Handing, answers_in, gives_in, has_pended, kept_stream, Streaming, answer_frame, is_granted, change_frame, items_frames, stream_frames, tail_frames, taken_in, OpenAt, UpwardIs, WayIs, Wants}
use Rattle.transcript_law.proofs.links.Firsts.{first_answers}
use Rattle.transcript_law.proofs.links.Comings.{item_comes}
use Rattle.transcript_law.proofs.links.Sent.{found_below, drop_found, take_found, frames_behind, over_tail, change_readable, all_found, drop_whole}
use Rattle.{dcp_producer.specs.Frames.{act_sent}, transcript_law.specs.Lawfulness.{line_act}, transcript_law.specs.StreamLaws.{IsOfSource, IsUnreplaced}, vb_types.specs.declared.change.Act.{Act}, vb_types.specs.declared.change.Act.TheVariants.{Set}}
use Rattle.{takeover.specs.GivingUp.{new_give_up}, takeover.specs.declared.give_up.GiveStep.TheVariants.{AwaitActive, AwaitPending}, takeover.specs.declared.give_up.GiveUp.{GiveUp}, vb_types.specs.declared.role.Role.{Role}}

-- what items of a snapshot say, and one more
more_is_told : (b : Begun) (stream : PlainStream) (c : Change) → BegunAgrees (Some b) stream → slice_get stream.items stream.next ≡ Some c
    → b.items ++ item_of_change c ∷ [] ≡ map item_of_change (take (stream.next + 1) stream.items)
more_is_told b stream c begun e =
    ap (λ ys. ys ++ item_of_change c ∷ []) begun.1 ∙ sym (map-append item_of_change (take stream.next stream.items) (c ∷ [])) ∙ ap (map item_of_change) (sym (take_found stream.items stream.next c e))

-- nothing stands behind the item with the snapshot's end
last_item : (low high : ℕ) (xs : List Change) (n : ℕ) (c : Change) → Rises low high xs → slice_get xs n ≡ Some c → c.seq ≡ high → drop (suc n) xs ≡ []
last_item low high [] n c r e s = refl
last_item low high (y ∷ []) zero c r e s = refl
last_item low high (y ∷ z ∷ zs) zero c r e s =
    let q : y ≡ c = cc in
    let same : y.seq ≡ c.seq = ap (λ (x : Change). x.seq) q in
    let first : y.seq < z.seq = r.1.0 in
    let most : z.seq ≤ high = rises_le z.seq high zs r.1.1 in
    absurd (omega arith)
last_item low high (y ∷ ys) (suc n) c r e s = last_item y.seq high ys n c r.1 e s

-- the next item is lawful
pub next_item_of : (b : Begun) (stream : PlainStream) (c : Change) → BegunAgrees (Some b) stream → slice_get stream.items stream.next ≡ Some c → IsNextItem b (item_of_change c)
next_item_of b stream c begun e = (
  drop (stream.next + 1) stream.items,
  record {
    whole = stream.items;
    covers = begun.0;
    front = ap (map item_of_change) (sym (take-append-drop (stream.next + 1) stream.items)) ∙ map-append item_of_change (take (stream.next + 1) stream.items) (drop (stream.next + 1) stream.items)
        ∙ ap (λ ys. ys ++ map item_of_change (drop (stream.next + 1) stream.items)) (sym (more_is_told b stream c begun e));
  },
  λ s. let on : stream.next + 1 ≡ suc stream.next = omega arith in
      ap (λ n. drop n stream.items) on ∙ last_item b.from b.end stream.items stream.next c begun.0.remains.rises e s,
)

-- and then the lines tell of one item more
begun_more : (o : Option Begun) (stream : PlainStream) (c : Change) → BegunAgrees o stream → slice_get stream.items stream.next ≡ Some c → BegunAgrees (option_map (more_items (item_of_change c)) o) (past_item c.seq stream)
begun_more None stream c begun e = begun
begun_more (Some b) stream c begun e = (begun.0, more_is_told b stream c begun e, begun.2)

-- an item that is to come is put
none_behind : {A : Type 0} (o vb : ℕ) (items : List Change) (next : ℕ) (c : Change) → slice_get items next ≡ Some c → items_frames o vb (drop next items) ≡ [] → A
none_behind o vb items next c e none =
    let z : change_frame o vb c ∷ items_frames o vb (drop (next + 1) items) ≡ [] = sym (ap (items_frames o vb) (drop_found items next c e)) ∙ none in cc

-- a state changes nothing of it
begun_stated : (o : Option Begun) (stream : PlainStream) (gives : GiveUp) → BegunAgrees o stream → BegunAgrees o (record stream { gives = Some gives })
begun_stated None stream gives begun = begun
begun_stated (Some b) stream gives begun = begun

some_mapped : {A B : Type 0} (f : A → B) (o : Option A) → is_some (option_map f o) ≡ is_some o
some_mapped f None = refl
some_mapped f (Some x) = refl

-- the snapshots on their way are as they were, of which one more frame was put
pub item_streaming : {fv : Wants} {kn : Member} {pv : Option Plain} {leader : Member} {g g' : Option Granted} {served : PlainProducer} {asker : PlainConsumer} {up put : List Frame} (t : Streaming fv kn pv leader g served asker up put) (c : Change)
    (f : Frame) → t.granted_is.over ≡ false → slice_get t.stream.items t.stream.next ≡ Some c → f ≡ change_frame asker.asked asker.dialed.vb c
    → g' ≡ Some (with_item (item_of_change c) t.granted_is) → Streaming fv kn pv leader g' (record served { streams = past_item c.seq t.stream ∷ [] }) asker up (put ++ f ∷ [])
item_streaming {fv} {kn} {pv} {leader} {asker = asker} {put = put} t c f opens e is given =
    let o : ℕ = asker.asked in
    let vb : ℕ = asker.dialed.vb in
    let rest : List Change = drop (t.stream.next + 1) t.stream.items in
    let g : Granted = t.granted_is in
    let same = some_mapped (more_items (item_of_change c)) g.last in
    record {
      granted_is = with_item (item_of_change c) t.granted_is;
      told = given;
      serving = record {
        stream = past_item c.seq t.stream;
        stream_is = ap (λ b. kept_stream b (past_item c.seq t.stream)) (sym opens);
        numbered = t.numbered;
        apart = t.apart;
        server = t.server;
        handing = t.handing;
        gives_is = t.gives_is;
        dialed_so = t.dialed_so;
        acks = t.acks;
        unput = items_frames o vb rest;
        unput_is = refl;
        all_put = λ q. let z : true ≡ false = sym q ∙ opens in cc;
        stated_behind = λ q. none_behind o vb t.stream.items t.stream.next c e (sym t.unput_is ∙ t.stated_behind q);
      };
      feed = t.feed;
      fed = t.fed;
      sources = t.sources;
      log_fits = t.log_fits;
      seen = t.seen;
      taking = t.taking;
      streams = record {
        put = record {
          vb_is = t.streams.vb_is;
          opaque_is = t.streams.opaque_is;
          no_end = record { until = t.streams.no_end.until; marked = t.streams.no_end.marked };
          first_is = t.streams.first_is;
          marked_is = t.streams.marked_is ∙ sym same;
          sync_is = t.streams.sync_is;
          put_place = t.streams.put_place;
          none_unread = t.streams.none_unread;
          fits = t.streams.fits;
          next_in = let l = found_below t.stream.items t.stream.next c e in omega arith;
          last = begun_more g.last t.stream c t.streams.last e;
          log_lines = t.streams.log_lines;
          front_is = t.streams.front_is;
        };
        opens = λ q. subst (λ b. OpenAt t.stream.id g.ask g.place b pv leader t.feed.u t.handing t.feed.given) (sym same) (t.streams.opens q);
        given_in = t.streams.given_in;
        all_taken = t.streams.all_taken;
        over_ended = t.streams.over_ended;
        coming = item_comes g.coming t.stream t.feed.flight kn.coming c e t.streams.coming;
        way = subst (λ b. WayIs g.place g.marks b t.feed.flight kn (is_granted asker.dialed t.seen && not fv.first)) (sym same) t.streams.way;
      };
      all = t.all ∙ ap (λ fs. put ++ fs) (t.unput_is ∙ ap (items_frames o vb) (drop_found t.stream.items t.stream.next c e)
          ∙ ap (λ x. x ∷ items_frames o vb rest) (sym is))
          ∙ sym (append_assoc put (f ∷ []) (items_frames o vb rest));
    }

-- so far as it is handed over
pub item_handing : {fv : Wants} {kn : Member} {pv : Option Plain} {leader : Member} {g g' : Option Granted} {served : PlainProducer} {asker : PlainConsumer} {up put : List Frame} (t : Streaming fv kn pv leader g served asker up put) (c : Change)
    (f : Frame) (opens : t.granted_is.over ≡ false) (e : slice_get t.stream.items t.stream.next ≡ Some c) (is : f ≡ change_frame asker.asked asker.dialed.vb c) (given : g' ≡ Some (with_item (item_of_change c) t.granted_is)) → (item_streaming t c f opens e is given).handing ≡ t.handing
unfolding item_streaming
item_handing t c f opens e is given = refl

-- the frame of an item is readable
pub item_readable : {fv : Wants} {kn : Member} {pv : Option Plain} {leader : Member} {g : Option Granted} {served : PlainProducer} {asker : PlainConsumer} {up put : List Frame} (t : Streaming fv kn pv leader g served asker up put) (c : Change)
    (f : Frame) → slice_get t.stream.items t.stream.next ≡ Some c → asker.dialed.vb < 1024 → f ≡ change_frame asker.asked asker.dialed.vb c → Readable f
item_readable {asker = asker} t c f e small is =
    subst Readable (sym is) (change_readable c asker.asked asker.dialed.vb (all_found ChangeFits t.stream.items t.stream.next c t.streams.fits e) t.consumer.small small)

-- behind the last item all of them are put
whole_unput : {fv : Wants} {kn : Member} {pv : Option Plain} {leader : Member} {g : Option Granted} {served : PlainProducer} {asker : PlainConsumer} {up put : List Frame} (t : Streaming fv kn pv leader g served asker up put) → length t.stream.items ≤ t.stream.next → t.unput ≡ []
whole_unput {asker = asker} t whole = t.unput_is ∙ ap (items_frames asker.asked asker.dialed.vb) (drop_whole t.stream.items t.stream.next whole)

-- one more frame behind all of them
put_behind : {fv : Wants} {kn : Member} {pv : Option Plain} {leader : Member} {g : Option Granted} {served : PlainProducer} {asker : PlainConsumer} {up put : List Frame} (t : Streaming fv kn pv leader g served asker up put) (tail : List Frame) (f : Frame)
    → length t.stream.items ≤ t.stream.next → tail ≡ tail_frames asker.asked asker.dialed.vb t.handing t.granted_is.over ++ f ∷ []
    → drop t.seen (first_answers asker.dialed ++ answer_frame asker.asked t.feed.log AskAnswer.Go ∷ []) ++ stream_frames asker.asked asker.dialed.vb tail (is_granted asker.dialed t.seen && not fv.first) kn.position kn.coming t.snapshots ≡ (put ++ f ∷ []) ++ t.unput
put_behind {fv} {kn} {asker = asker} {put = put} t tail f whole is =
    let o : ℕ = asker.asked in
    let vb : ℕ = asker.dialed.vb in
    let in_one : Bool = is_granted asker.dialed t.seen && not fv.first in
    let front : List Frame = drop t.seen (first_answers asker.dialed ++ answer_frame o t.feed.log AskAnswer.Go ∷ []) in
    let none : t.unput ≡ [] = whole_unput t whole in
    ap (λ fs. front ++ stream_frames o vb fs in_one kn.position kn.coming t.snapshots) is
    ∙ frames_behind o vb in_one kn.position kn.coming t.snapshots (tail_frames o vb t.handing t.granted_is.over) front put f (t.all ∙ ap (λ u. put ++ u) none ∙ append-nil put)
    ∙ sym (append-nil (put ++ f ∷ []))
    ∙ ap (λ u. (put ++ f ∷ []) ++ u) (sym none)

-- behind the last item of a stream that a change of role ended, its end is on its way
pub end_streaming : {fv : Wants} {kn : Member} {pv : Option Plain} {leader : Member} {g g' : Option Granted} {served : PlainProducer} {asker : PlainConsumer} {up put : List Frame} (t : Streaming fv kn pv leader g served asker up put) (f : Frame)
    → t.granted_is.over ≡ false → t.stream.ended ≡ true → length t.stream.items ≤ t.stream.next → f ≡ dcp_frame (DcpMsg.StreamEnd STATE_CHANGED) asker.asked asker.dialed.vb
    → g' ≡ Some (finished t.granted_is) → Streaming fv kn pv leader g' (record served { streams = [] }) asker up (put ++ f ∷ [])
end_streaming {asker = asker} t f opens ended whole is given =
    let o : ℕ = asker.asked in
    let vb : ℕ = asker.dialed.vb in
    record {
      granted_is = finished t.granted_is;
      told = given;
      serving = record {
        stream = t.stream;
        stream_is = refl;
        numbered = t.numbered;
        apart = t.apart;
        server = t.server;
        handing = t.handing;
        gives_is = t.gives_is;
        dialed_so = t.dialed_so;
        acks = t.acks;
        unput = t.unput;
        unput_is = t.unput_is;
        all_put = λ q. whole_unput t whole;
        stated_behind = t.stated_behind;
      };
      feed = t.feed;
      fed = t.fed;
      sources = t.sources;
      log_fits = t.log_fits;
      seen = t.seen;
      taking = t.taking;
      streams = record {
        put = t.streams.put;
        opens = λ q. let z : true ≡ false = sym ended ∙ q in cc;
        given_in = t.streams.given_in;
        all_taken = t.streams.all_taken;
        over_ended = λ q. ended;
        coming = t.streams.coming;
        way = t.streams.way;
      };
      all = put_behind t (tail_frames o vb t.handing true) f whole
          (over_tail o vb t.handing ∙ ap (λ x. tail_frames o vb t.handing false ++ x ∷ []) (sym is) ∙ ap (λ b. tail_frames o vb t.handing b ++ f ∷ []) (sym opens));
    }

pub end_handing : {fv : Wants} {kn : Member} {pv : Option Plain} {leader : Member} {g g' : Option Granted} {served : PlainProducer} {asker : PlainConsumer} {up put : List Frame} (t : Streaming fv kn pv leader g served asker up put) (f : Frame)
    (opens : t.granted_is.over ≡ false) (ended : t.stream.ended ≡ true) (whole : length t.stream.items ≤ t.stream.next) (is : f ≡ dcp_frame (DcpMsg.StreamEnd STATE_CHANGED) asker.asked asker.dialed.vb) (given : g' ≡ Some (finished t.granted_is))
    → (end_streaming t f opens ended whole is given).handing ≡ t.handing
unfolding end_streaming
end_handing t f opens ended whole is given = refl

-- ---- states

-- the stream behind a state
abbrev pub stated_stream : PlainStream → GiveUp → PlainStream
stated_stream stream g = record stream { gives = Some g }

-- the step of a stream that is stated to be handed over: what is on its way then, and what its consumer was told, are as before it
pub data StatesNext : Handing → Handing → Role → Type 0 where
  Offers : StatesNext Handing.Unstated Handing.Offered Role.Pending
  States : StatesNext Handing.Ceded Handing.Stated Role.Active

state_tail : (o vb : ℕ) (h next : Handing) (told : Role) → StatesNext h next told → tail_frames o vb next false ≡ tail_frames o vb h false ++ dcp_frame (DcpMsg.SetVbucketState told) o vb ∷ []
state_tail o vb h next told StatesNext.Offers = refl
state_tail o vb h next told StatesNext.States = refl

-- the step of the stream behind it
abbrev pub state_gives : Handing → GiveUp
state_gives Handing.Offered = record { step = AwaitPending }
state_gives Handing.Stated = record { step = AwaitActive }
state_gives other = new_give_up

next_gives : (h next : Handing) (told : Role) → StatesNext h next told → gives_in true next ≡ Some (state_gives next)
next_gives h next told StatesNext.Offers = refl
next_gives h next told StatesNext.States = refl

next_answers : (o : ℕ) (h next : Handing) (told : Role) → StatesNext h next told → answers_in o h ≡ answers_in o next
next_answers o h next told StatesNext.Offers = refl
next_answers o h next told StatesNext.States = refl

next_taken : (h next : Handing) (told : Role) → StatesNext h next told → taken_in h ≡ taken_in next
next_taken h next told StatesNext.Offers = refl
next_taken h next told StatesNext.States = refl

next_feeder : (h next : Handing) (told : Role) (role : Role) (leader : Member) (given : Option ℕ) → StatesNext h next told → FeederIn h role leader given → FeederIn next role leader given
next_feeder h next told role leader given StatesNext.Offers x = x
next_feeder h next told role leader given StatesNext.States x = x

next_pended : (h next : Handing) (told : Role) → StatesNext h next told → has_pended next ≡ false
next_pended h next told StatesNext.Offers = refl
next_pended h next told StatesNext.States = refl

-- a state is put behind all that was: pending, or active, once the stream's place is where its vBucket was given up
pub state_streaming : {fv : Wants} {kn : Member} {pv : Option Plain} {leader : Member} {g : Option Granted} {served : PlainProducer} {asker : PlainConsumer} {up put : List Frame} (t : Streaming fv kn pv leader g served asker up put)
    (next : Handing) (told : Role) (f : Frame) → StatesNext t.handing next told → asker.dialed.takeover ≡ true → GivenIn next t.feed.given t.granted_is.place
    → t.granted_is.over ≡ false → length t.stream.items ≤ t.stream.next → f ≡ dcp_frame (DcpMsg.SetVbucketState told) asker.asked asker.dialed.vb
    → (x : Streaming fv kn pv leader g (record served { streams = stated_stream t.stream (state_gives next) ∷ [] }) asker up (put ++ f ∷ [])) × (x.handing ≡ next)
state_streaming {pv = pv} {leader = leader} {asker = asker} {up = up} t next told f step takeover given opens whole is =
    let o : ℕ = asker.asked in
    let vb : ℕ = asker.dialed.vb in (
      record {
        granted_is = t.granted_is;
        told = t.told;
        serving = record {
          stream = stated_stream t.stream (state_gives next);
          stream_is = ap (λ b. kept_stream b (stated_stream t.stream (state_gives next))) (sym opens);
          numbered = t.numbered;
          apart = t.apart;
          server = t.server;
          handing = next;
          gives_is = sym (next_gives t.handing next told step) ∙ ap (λ b. gives_in b next) (sym takeover);
          dialed_so = λ q. let z : true ≡ false = sym takeover ∙ q in cc;
          acks = subst (λ answers. UpwardIs t.granted_is.wrote o vb answers up) (next_answers o t.handing next told step) t.acks;
          unput = t.unput;
          unput_is = t.unput_is;
          all_put = t.all_put;
          stated_behind = λ q. whole_unput t whole;
        };
        feed = t.feed;
        fed = t.fed;
        sources = t.sources;
        log_fits = t.log_fits;
        seen = t.seen;
        taking = record {
          not_more = t.taking.not_more;
          consumer = t.taking.consumer;
          adopted = t.taking.adopted;
          taken_is = t.taking.taken_is ∙ next_taken t.handing next told step;
          granted_first = λ q. t.taking.granted_first (next_taken t.handing next told step ∙ q);
          flag_is = t.taking.flag_is;
          asks = t.taking.asks;
        };
        streams = record {
          put = record {
            vb_is = t.streams.vb_is;
            opaque_is = t.streams.opaque_is;
            no_end = record { until = t.streams.no_end.until; marked = t.streams.no_end.marked };
            first_is = t.streams.first_is;
            marked_is = t.streams.marked_is;
            sync_is = t.streams.sync_is;
            put_place = t.streams.put_place;
            none_unread = t.streams.none_unread;
            fits = t.streams.fits;
            next_in = t.streams.next_in;
            last = begun_stated t.granted_is.last t.stream (state_gives next) t.streams.last;
            log_lines = t.streams.log_lines;
            front_is = t.streams.front_is;
          };
          opens = λ q. let p = t.streams.opens q in
              record { producer = p.producer; producer_is = p.producer_is; active = next_feeder t.handing next told p.producer.role leader t.feed.given step p.active; leads = p.leads; opened = p.opened; reached = p.reached };
          given_in = given;
          all_taken = λ q. let z : true ≡ false = sym q ∙ next_pended t.handing next told step in cc;
          over_ended = t.streams.over_ended;
          coming = record { all = t.streams.coming.all; last = t.streams.coming.last };
          way = t.streams.way;
        };
        all = put_behind t (tail_frames o vb next t.granted_is.over) f whole
            (ap (tail_frames o vb next) opens ∙ state_tail o vb t.handing next told step ∙ ap (λ x. tail_frames o vb t.handing false ++ x ∷ []) (sym is) ∙ ap (λ b. tail_frames o vb t.handing b ++ f ∷ []) (sym opens));
      },
      refl,
    )

-- ---- an item's line

-- the snapshot of an item
pub begun_of : (o : Option Begun) (stream : PlainStream) (c : Change) → BegunAgrees o stream → slice_get stream.items stream.next ≡ Some c → (b : Begun) × (o ≡ Some b) × IsNextItem b (item_of_change c) × IsOfSource b (item_of_change c)
begun_of None stream c begun e = let z : None ≡ Some c = sym (ap (λ xs. slice_get xs stream.next) begun) ∙ e in cc
begun_of (Some b) stream c begun e = (b, refl, next_item_of b stream c begun e, λ d. (c, all_found (IsUnreplaced b.history b.end) stream.items stream.next c (begun.2 d) e, refl))

-- a producer sends each act by the name that its line tells
pub sent_is_told : (what : Act) → act_sent what ≡ line_act what
sent_is_told (Set doc) = refl
sent_is_told other = refl
