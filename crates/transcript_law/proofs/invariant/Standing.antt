-- the two ends of a link stand as they did, where what they speak of stays
use Rattle.std.specs.Prelude.{◌≡◌, ◌⊎◌, ◌<◌, ◌≤◌, ◌+◌, ◌*◌, ◌^◌, ◌==◌}
use Rattle.transcript_law.proofs.Words.{is_some, ℕ, Bool, true, false, List, arith, refl, ap, sym, ◌∙◌, subst, inl, inr, ⊎_elim, Option, Some, None, All, Frame, Role, Member, Stream}
use Rattle.transcript_law.proofs.Words.{Plain, is_active, is_follower, stream_at, PlainStream, PlainLink, Granted, Covers, PlainProducer, PlainConsumer, Begun, item_of_change, map, drop, take, [], fork_of}
use Rattle.{takeover.specs.declared.take_over.TakeOver.{TakeOver}, takeover.specs.declared.take_over.TakeStep.{TakeStep}}
use Rattle.transcript_law.proofs.invariant.Agreement.{ChangeFits, FeederIn, FollowsBy, GivenUp, Handing, Heir, OpenYet, end_frames, end_reason, follows_in, stated_in, IsLow, kept_stream, spoken, Streaming, Talk, top, Wants, wants_of, EndsStand, Open, BegunAgrees, items_frames}
use Rattle.{transcript_law.proofs.links.Sources.{ItemsFit}, transcript_law.specs.Feeding.{HasOpen, IsOpenAt}, vb_types.specs.declared.position.Position.{Position}, vb_types.specs.declared.role.Role.TheVariants.{Active, Dead}}

-- who takes writes follows nobody
pub active_feeds : (r : Role) → is_active r ≡ true → is_follower r ≡ false
active_feeds Active e = refl
active_feeds other e = cc

-- nor does a vBucket that feeds a stream, be it that it was given up for it
pub feeder_in : (h : Handing) (role : Role) (leader : Member) (given : Option ℕ) → FeederIn h role leader given → is_follower role ≡ false
feeder_in Handing.Unstated role leader given a = active_feeds role a
feeder_in Handing.Offered role leader given a = active_feeds role a
feeder_in Handing.Pended role leader given a = active_feeds role a
feeder_in Handing.Due role leader given a = active_feeds role a
feeder_in Handing.Ceded role leader given g = ap is_follower g.dead
feeder_in Handing.Stated role leader given g = ap is_follower g.dead

-- it feeds it yet in the same role, and, where it is dead, with its member at the same position
given_up_moved : (role role' : Role) (leader leader' : Member) (given : Option ℕ) → role' ≡ role → (role ≡ Dead → leader'.position ≡ leader.position) → GivenUp role leader given → GivenUp role' leader' given
given_up_moved role role' leader leader' given same stays g = record {
  dead = same ∙ g.dead;
  at_tip = subst (λ (p : Position). fork_of p ≡ p.at) (sym (stays g.dead)) g.at_tip;
  given_there = subst (λ (p : Position). given ≡ Some p.at) (sym (stays g.dead)) g.given_there;
}

pub feeder_moved : (h : Handing) (role role' : Role) (leader leader' : Member) (given : Option ℕ) → role' ≡ role → (role ≡ Dead → leader'.position ≡ leader.position) → FeederIn h role leader given → FeederIn h role' leader' given
feeder_moved Handing.Unstated role role' leader leader' given same stays a = ap is_active same ∙ a
feeder_moved Handing.Offered role role' leader leader' given same stays a = ap is_active same ∙ a
feeder_moved Handing.Pended role role' leader leader' given same stays a = ap is_active same ∙ a
feeder_moved Handing.Due role role' leader leader' given same stays a = ap is_active same ∙ a
feeder_moved Handing.Ceded role role' leader leader' given same stays g = given_up_moved role role' leader leader' given same stays g
feeder_moved Handing.Stated role role' leader leader' given same stays g = given_up_moved role role' leader leader' given same stays g

-- a member at the same position is as far
pub as_far : {p q : Position} → q ≡ p → p.at ≤ q.at
as_far {p} same = subst (λ (k : Position). p.at ≤ k.at) (sym same) (omega arith)

-- and so is the same
pub as_near : {n : ℕ} → n ≤ n
as_near = omega arith

-- what stays of a producer's vBucket and member for a link with an open stream
abbrev pub StaysProducer : Option Plain → Option Plain → Member → Member → PlainLink → Type 0
StaysProducer pv pv' leader leader' link = (p : Plain) (id : ℕ) (s : Stream) → pv ≡ Some p → is_follower p.role ≡ false → stream_at id p.streams ≡ Some s → HasOpen link.consumer.dialed.vb id link.server.streams
    → (p' : Plain) × (pv' ≡ Some p') × (p'.role ≡ p.role) × (stream_at id p'.streams ≡ Some s) × (leader'.br ≡ leader.br) × (p.role ≡ Dead → leader'.position ≡ leader.position) × (leader.position.at ≤ leader'.position.at)

pub stays_same : (pv : Option Plain) (leader : Member) (link : PlainLink) → StaysProducer pv pv leader leader link
stays_same pv leader link p id s e a o i = (p, e, refl, o, refl, λ dead. refl, as_near)

-- what stays of a consumer's vBucket and member for a link: all that it speaks of, or, where the vBucket follows nobody, as it took its branch over, that it does not
abbrev pub StaysFollower : Option Plain → Option Plain → Member → Member → Type 0
StaysFollower ov ov' kn kn' = (fv : Plain) → ov ≡ Some fv → (fv' : Plain) × (ov' ≡ Some fv') × (((fv'.role ≡ fv.role) × (wants_of fv' ≡ wants_of fv) × (kn' ≡ kn)) ⊎ ((is_follower fv.role ≡ false) × (is_follower fv'.role ≡ false)))

-- a stream that the producer keeps and that has not ended is open
pub kept_open : (over : Bool) (stream : PlainStream) (streams : List PlainStream) → streams ≡ kept_stream over stream → (over ≡ true → stream.ended ≡ true) → stream.ended ≡ false → HasOpen stream.vb stream.id streams
kept_open true stream streams e ends ended = let z : true ≡ false = sym (ends refl) ∙ ended in cc
kept_open false stream streams e ends ended = subst (HasOpen stream.vb stream.id) (sym e) (inl (refl, refl, ended))

-- also one whose end was not put
pub left_open : (over : Bool) (stream : PlainStream) (streams : List PlainStream) → streams ≡ kept_stream over stream → over ≡ false → stream.ended ≡ false → HasOpen stream.vb stream.id streams
left_open true stream streams e left ended = cc
left_open false stream streams e left ended = subst (HasOpen stream.vb stream.id) (sym e) (inl (refl, refl, ended))

pub open_left : (over : Bool) (stream : PlainStream) (streams : List PlainStream) → streams ≡ kept_stream over stream → (v id : ℕ) → HasOpen v id streams → over ≡ false
open_left true stream streams e v id has = absurd (subst (HasOpen v id) e has)
open_left false stream streams e v id has = refl

-- and it is the only one
pub open_kept : (over : Bool) (stream : PlainStream) (streams : List PlainStream) → streams ≡ kept_stream over stream → (v id : ℕ) → HasOpen v id streams → IsOpenAt v id stream
open_kept true stream streams e v id has = absurd (subst (HasOpen v id) e has)
open_kept false stream streams e v id has = ⊎_elim (λ o. o) (λ none. absurd none) (subst (HasOpen v id) e has)

-- where there is none, none is open
pub none_open : {A : Type 0} (streams : List PlainStream) → streams ≡ [] → (v id : ℕ) → HasOpen v id streams → A
none_open streams e v id has = absurd (subst (HasOpen v id) e has)

-- streams that differ in whether they ended at most
pub record SameStream (x y : PlainStream) : Type 0 where
  pub id : y.id ≡ x.id
  pub until : y.until ≡ x.until
  pub first : y.first ≡ x.first
  pub marked : y.marked ≡ x.marked
  pub vb : y.vb ≡ x.vb
  pub opaque : y.opaque ≡ x.opaque
  pub items : y.items ≡ x.items
  pub next : y.next ≡ x.next
  pub gives : y.gives ≡ x.gives
  pub sync : y.sync ≡ x.sync
  pub place : y.place ≡ x.place
  pub unread : y.unread ≡ x.unread
  pub ended : x.ended ≡ true → y.ended ≡ true

pub stream_same : {x : PlainStream} → SameStream x x
stream_same = record { id = refl; until = refl; first = refl; marked = refl; vb = refl; opaque = refl; items = refl; next = refl; gives = refl; sync = refl; place = refl; unread = refl; ended = λ e. e }

-- a stream goes on, or has ended now
abbrev pub streaming_again : {fv : Wants} {kn : Member} {pv pv' : Option Plain} {leader leader' : Member} {g : Option Granted} {served : PlainProducer} {asker : PlainConsumer} {up down : List Frame} (a : Streaming fv kn pv leader g served asker up down)
    (streams : List PlainStream) (stream : PlainStream) → SameStream a.stream stream → streams ≡ kept_stream a.granted_is.over stream → (stream.ended ≡ false → Open stream.id a.granted_is pv' leader' a.feed a.handing)
    → Streaming fv kn pv' leader' g (record served { streams = streams }) asker up down
streaming_again {served = served} {asker} a streams stream same is opens =
    let x = a.streams in
    record {
      granted_is = a.granted_is;
      told = a.told;
      serving = record {
        stream = stream;
        stream_is = is;
        numbered = subst (λ n. n ≤ served.desk.base * 2 ^ 32 + served.asked) (sym same.id) a.numbered;
        apart = a.apart;
        server = a.server;
        handing = a.handing;
        gives_is = same.gives ∙ a.gives_is;
        dialed_so = a.dialed_so;
        acks = a.acks;
        unput = a.unput;
        unput_is = a.unput_is ∙ (λ i. items_frames asker.asked asker.dialed.vb (drop (sym same.next i) (sym same.items i)));
        all_put = a.all_put;
        stated_behind = a.stated_behind;
      };
      feed = a.feed;
      fed = a.fed;
      sources = a.sources;
      log_fits = a.log_fits;
      seen = a.seen;
      taking = a.taking;
      streams = record {
        put = record {
          vb_is = same.vb ∙ x.vb_is;
          opaque_is = same.opaque ∙ x.opaque_is;
          no_end = record { until = subst (λ n. top < n) (sym same.until) x.no_end.until; marked = subst IsLow (sym same.marked) x.no_end.marked };
          first_is = same.first ∙ x.first_is;
          marked_is = ap is_some same.marked ∙ x.marked_is;
          sync_is = same.sync ∙ x.sync_is;
          put_place = same.place ∙ x.put_place;
          none_unread = same.unread ∙ x.none_unread;
          fits = subst (All ChangeFits) (sym same.items) x.fits;
          next_in = rw same.next (rw same.items x.next_in);
          last = by a.granted_is.last x.last;
          log_lines = x.log_lines;
          front_is = x.front_is;
        };
        opens = opens;
        given_in = x.given_in;
        all_taken = x.all_taken;
        over_ended = λ e. same.ended (x.over_ended e);
        coming = record { all = rw same.next (rw same.items x.coming.all); last = rw same.items x.coming.last };
        way = x.way;
      };
      all = a.all;
    }
  where
    by : (q : Option Begun) → BegunAgrees q a.stream → BegunAgrees q stream
    by None e = same.items ∙ e
    by (Some b) e = (subst (λ xs. Covers xs b.history b.from b.end) (sym same.items) e.0, e.1 ∙ (λ i. map item_of_change (take (sym same.next i) (sym same.items i))), subst (ItemsFit b) (sym same.items) e.2)

-- so the ends stand, where lines tell of the same state
pub stands_again : {fv : Wants} {kn : Member} {pv pv' : Option Plain} {leader leader' : Member} {g : Option Granted} {said : Option Role} {point : Option ℕ} {served : PlainProducer} {asker : PlainConsumer} {up down : List Frame} (a : Streaming fv kn pv leader g served asker up down)
    (streams : List PlainStream) (stream : PlainStream) → SameStream a.stream stream → streams ≡ kept_stream a.granted_is.over stream → (stream.ended ≡ false → Open stream.id a.granted_is pv' leader' a.feed a.handing)
    → said ≡ stated_in a.handing → EndsStand fv kn pv' leader' g said point (record served { streams = streams }) asker up down
stands_again a streams stream same is opens said = EndsStand.IsStreaming (streaming_again a streams stream same is opens) said

-- so does one whose consumer's vBucket took its branch over, until its end is put
pub heir_again : {pv pv' : Option Plain} {g : Option Granted} {served : PlainProducer} {asker : PlainConsumer} {up down : List Frame} (a : Heir pv g served asker up down) (streams : List PlainStream) (stream : PlainStream) → SameStream a.stream stream
    → streams ≡ kept_stream a.granted_is.over stream → (stream.ended ≡ false → a.granted_is.over ≡ false → OpenYet stream.id pv') → Heir pv' g (record served { streams = streams }) asker up down
heir_again {pv' = pv'} {g} {served} {asker} {up} {down} a streams stream same is opens = by a.granted_is.over refl
  where
    -- what is to come of a stream whose end was not put does not tell why it ends
    none_ends : (b : Bool) (x y : ℕ) → b ≡ false → end_frames asker.asked asker.dialed.vb x b ≡ end_frames asker.asked asker.dialed.vb y b
    none_ends true x y e = cc
    none_ends false x y e = refl

    none_kept : (b : Bool) (x y : PlainStream) → b ≡ true → kept_stream b x ≡ kept_stream b y
    none_kept true x y e = refl
    none_kept false x y e = cc

    by : (b : Bool) → a.granted_is.over ≡ b → Heir pv' g (record served { streams = streams }) asker up down
    by true over = record {
      granted_is = a.granted_is;
      told = a.told;
      stream = a.stream;
      stream_is = is ∙ none_kept a.granted_is.over stream a.stream over;
      vb_is = a.vb_is;
      opaque_is = a.opaque_is;
      numbered = a.numbered;
      apart = a.apart;
      whole = a.whole;
      last = a.last;
      server = a.server;
      answered = a.answered;
      gives_is = a.gives_is;
      for_takeover = a.for_takeover;
      owns = a.owns;
      granted = a.granted;
      flag_is = a.flag_is;
      small = a.small;
      acks = a.acks;
      over_done = a.over_done;
      opens = λ e left. let z : true ≡ false = sym over ∙ left in cc;
      none_marked = a.none_marked;
      none_coming = a.none_coming;
      end_is = a.end_is;
    }
    by false left = record {
      granted_is = a.granted_is;
      told = a.told;
      stream = stream;
      stream_is = is;
      vb_is = same.vb ∙ a.vb_is;
      opaque_is = same.opaque ∙ a.opaque_is;
      numbered = subst (λ n. n ≤ served.desk.base * 2 ^ 32 + served.asked) (sym same.id) a.numbered;
      apart = a.apart;
      whole = rw same.next (rw same.items a.whole);
      last = a.last;
      server = a.server;
      answered = a.answered;
      gives_is = same.gives ∙ a.gives_is;
      for_takeover = a.for_takeover;
      owns = a.owns;
      granted = a.granted;
      flag_is = a.flag_is;
      small = a.small;
      acks = a.acks;
      over_done = λ over e. let z : true ≡ false = sym over ∙ left in cc;
      opens = opens;
      none_marked = a.none_marked;
      none_coming = a.none_coming;
      end_is = a.end_is ∙ none_ends a.granted_is.over (end_reason a.stream.ended) (end_reason stream.ended) left;
    }

-- a link is an heir's where its vBucket follows nobody
pub owns_alone : {fv : Wants} {kn : Member} {pv : Option Plain} {leader : Member} {g : Option Granted} {said : Option Role} {point : Option ℕ} {served : PlainProducer} {asker : PlainConsumer} {up down : List Frame}
    (role : Role) → is_follower role ≡ false → FollowsBy asker.taking.last role → EndsStand fv kn pv leader g said point served asker up down → Heir pv g served asker up down × (said ≡ Some Active)
owns_alone role feeds f (EndsStand.IsAsking ask none t) = let z : false ≡ true = sym feeds ∙ subst (λ (x : TakeOver). FollowsBy x.last role) t.untold f in cc
owns_alone role feeds f (EndsStand.IsRefusedYet none t) = let z : false ≡ true = sym feeds ∙ subst (λ (x : TakeOver). FollowsBy x.last role) t.untold f in cc
owns_alone role feeds f (EndsStand.IsStreaming t said) = let z : false ≡ true = sym feeds ∙ follows_in t.handing role (subst (λ (x : TakeOver). FollowsBy x.last role) t.taken_is f) in cc
owns_alone role feeds f (EndsStand.IsHeir t said) = (t, said)

-- an heir's vBucket follows nobody
pub heir_feeds : {pv : Option Plain} {g : Option Granted} {served : PlainProducer} {asker : PlainConsumer} {up down : List Frame} (role : Role) → FollowsBy asker.taking.last role → Heir pv g served asker up down → is_follower role ≡ false
heir_feeds role f h = subst (λ (x : TakeOver). FollowsBy x.last role) h.owns f

module _ (kn : Member) (pv pv' : Option Plain) (leader leader' : Member) (g : Option Granted) (said_last : Option Role) (point : Option ℕ) (link : PlainLink) (stays : StaysProducer pv pv' leader leader' link) where
  heir_carried : {up down : List Frame} → Heir pv g link.server link.consumer up down → Heir pv' g link.server link.consumer up down
  heir_carried a = heir_again a link.server.streams a.stream stream_same a.stream_is (λ e left.
      let o = a.opens e left in
      let (p', is, role, opened, lead, place, on) = stays o.producer a.stream.id o.opened.0 o.producer_is (ap is_follower o.dead) o.opened.1
      (subst (λ v. HasOpen v a.stream.id link.server.streams) a.vb_is (left_open a.granted_is.over a.stream link.server.streams a.stream_is left e)) in
      record { producer = p'; producer_is = is; dead = role ∙ o.dead; opened = (o.opened.0, opened) })

  stands_carried : {fv : Wants} {up down : List Frame} → EndsStand fv kn pv leader g said_last point link.server link.consumer up down → EndsStand fv kn pv' leader' g said_last point link.server link.consumer up down
  stands_carried (EndsStand.IsAsking ask none a) = EndsStand.IsAsking ask none a
  stands_carried (EndsStand.IsRefusedYet none a) = EndsStand.IsRefusedYet none a
  stands_carried (EndsStand.IsStreaming a said) = stands_again a link.server.streams a.stream stream_same a.stream_is (λ e.
      let o = a.streams.opens e in
      let (p', is, role, opened, lead, place, on) = stays o.producer a.stream.id o.opened.0 o.producer_is (feeder_in a.handing o.producer.role leader a.feed.given o.active) o.opened.1
      (subst (λ v. HasOpen v a.stream.id link.server.streams) a.streams.vb_is (kept_open a.granted_is.over a.stream link.server.streams a.stream_is a.streams.over_ended e)) in
      record { producer = p'; producer_is = is; active = feeder_moved a.handing o.producer.role p'.role leader leader' a.feed.given role place o.active; leads = lead ∙ o.leads; reached = λ none. (let x = o.reached none in omega (arith, x, on)); opened = (o.opened.0, opened, o.opened.2, o.opened.3, o.opened.4, o.opened.5) }) said
  stands_carried (EndsStand.IsHeir a said) = EndsStand.IsHeir (heir_carried a) said

  pub talk_carried : (fv fv' : Plain) (up down : List Frame) → wants_of fv' ≡ wants_of fv → Talk fv kn pv leader g said_last point link up down → Talk fv' kn pv' leader' g said_last point link up down
  talk_carried fv fv' up down wants t = record {
    asked = t.asked;
    said = t.said;
    stands = subst (λ v. EndsStand v kn pv' leader' g said_last point link.server link.consumer t.asked (spoken t.said)) (sym wants) (stands_carried t.stands);
    ups = t.ups;
    downs = t.downs;
  }

  -- an heir's vBucket, and the member, may be any others
  pub talk_owned : (fv fv' : Plain) (kn' : Member) (up down : List Frame) → is_follower fv.role ≡ false → FollowsBy link.consumer.taking.last fv.role → Talk fv kn pv leader g said_last point link up down → Talk fv' kn' pv' leader' g said_last point link up down
  talk_owned fv fv' kn' up down feeds f t = let owns = owns_alone fv.role feeds f t.stands in record { asked = t.asked; said = t.said; stands = EndsStand.IsHeir (heir_carried owns.0) owns.1; ups = t.ups; downs = t.downs }

-- the ends of a link stand alike where what they speak of is the same
pub talk_same : {fv : Plain} {kn kn' : Member} {pv pv' : Option Plain} {leader leader' : Member} {g g' : Option Granted} {said said' : Option Role} {point point' : Option ℕ} {link : PlainLink} {up down : List Frame}
    → kn' ≡ kn → pv' ≡ pv → leader' ≡ leader → g' ≡ g → said' ≡ said → point' ≡ point → Talk fv kn pv leader g said point link up down → Talk fv kn' pv' leader' g' said' point' link up down
talk_same {fv} {kn' = kn'} {pv} {pv' = pv'} {leader} {leader' = leader'} {g} {g' = g'} {said} {said' = said'} {point} {link = link} {up} {down} members vbs leaders granted states points t =
    subst (λ x. Talk fv kn' pv' leader' g' said' x link up down) (sym points) (subst (λ x. Talk fv kn' pv' leader' g' x point link up down) (sym states) (subst (λ x. Talk fv kn' pv' leader' x said point link up down) (sym granted)
    (subst (λ x. Talk fv kn' pv' x g said point link up down) (sym leaders) (subst (λ x. Talk fv kn' x leader g said point link up down) (sym vbs) (subst (λ x. Talk fv x pv leader g said point link up down) (sym members) t)))))
