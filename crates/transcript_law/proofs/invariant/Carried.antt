-- what is left alone by a step at one link agrees as before
use Rattle.std.specs.Prelude.{◌≡◌, ◌⊎◌, ◌<◌, ◌≤◌, ◌+◌, ◌*◌, ◌^◌, ◌==◌}
use Rattle.vbucket.specs.Laws.{AreFed}
use Rattle.transcript_law.proofs.Words.{ℕ, Bool, true, false, List, refl, ap, sym, ◌∙◌, subst, inl, inr, ⊎_elim, Option, Some, None, All, All-cons, All-nil, Frame, Role, Member, Cluster, SoundCluster, Stream, arith}
use Rattle.transcript_law.proofs.Words.{Plain, is_active, is_follower, stream_at, Sound, row_at, row_put, PlainStream, PlainLink, link_number, producer_node, consumer_node, PlainWorld, is_one_of, Granted, Chronicle}
use Rattle.transcript_law.proofs.{Words.{Branch, Covers, PlainProducer, PlainConsumer, Begun, item_of_change, map, drop, take, after_end, if◌then◌else◌, eq-eqb, ne_eqb, []}, invariant.Seats.{seat, seat_one}, invariant.Trees.{IsTold}}
use Rattle.transcript_law.proofs.Words.{HoldsAt, is_some}
use Rattle.transcript_law.proofs.invariant.Holdings.{OpenedAs}
use Rattle.takeover.specs.declared.take_over.TakeStep.{TakeStep}
use Rattle.transcript_law.proofs.{invariant.Lefts.{LeftUpTo}, invariant.Wholes.{WholeTo}}
use Rattle.transcript_law.proofs.invariant.Agreement.{FollowsBy, TimesIf, AckedIs, Keeps, VbTold, own_history, vb_of, ChangeFits, BranchAgrees, CountsIf, WritesIf, VbAgrees, IsAway, AgreesAt, RestsIn, IsLow, kept_stream, spoken, Streaming, Talk, consumer_seat, producer_seat, LinkAgrees, IsLink, Differ, LinksDiffer}
use Rattle.transcript_law.proofs.{invariant.Agreement.{ClientsTold, DiskIsIf, shelf_of, top, Busy, AgreesIn, BranchesAgree, Wants, wants_of, EndsStand, Open, BegunAgrees, items_frames, VbRow, vb_row, vb_contents, VbHeld, idle, DialAgrees}, invariant.Carrying.{SameEnds}}
use Rattle.transcript_law.proofs.{invariant.Carrying.{ToldOf, TakenOf, FedMember, FeedChanged, BusyBut, StreamsChanged}, invariant.LinkRows.{found_is_link, links_apart, put_links, differ_put}, invariant.Tables.{id_there, ended_there}}
use Rattle.{dcp_producer.specs.Producers.{Rising}, transcript_law.proofs.invariant.OpenStreams.{AreKept}, transcript_law.proofs.invariant.ClientsKept.{ConnsKept, Every, FedAreThere, IsFree, clients_kept, fed_there, fewer_streams}, transcript_law.proofs.invariant.LinkFeeds.{feeds_put}, transcript_law.proofs.invariant.Owing.{Fewer, Owed}, transcript_law.specs.Feeding.{HasFed, HasOpen, IsOpenAt}, vb_events.specs.declared.event.StreamName.TheVariants.{Link}, vb_types.specs.declared.role.Role.TheVariants.{Active}}
pub use Rattle.std.proofs.lemmas.Bool.{cases_eq as numbers}
pub use Rattle.transcript_law.proofs.invariant.Standing.{SameStream, StaysFollower, StaysProducer, active_feeds, as_far, as_near, feeder_in, feeder_moved, heir_again, heir_feeds, kept_open, left_open, none_open, open_kept, open_left, owns_alone, stands_again, stays_same, stream_same, streaming_again, talk_carried, talk_owned, talk_same}
use Rattle.transcript_law.proofs.invariant.Owing.{later_same}

-- one place or another
pub places : (n v m q : ℕ) → ((m ≡ n) × (q ≡ v)) ⊎ (m ≡ n → q ≡ v → ⊥)
places n v m q = ⊎_elim (λ e. ⊎_elim (λ f. inl (e, f)) (λ ne. inr (λ s t. ne t)) (numbers q v)) (λ ne. inr (λ s t. ne s)) (numbers m n)

-- ids that are the same ones are used alike
pub ids_same : {ids ids' : List ℕ} → ids' ≡ ids → (u : ℕ) → is_one_of u ids' ≡ false → is_one_of u ids ≡ false
ids_same same u e = ap (is_one_of u) (sym same) ∙ e

-- the same branches agree, where no more ids are free
pub branches_again : {known known' told told' : List Branch} {ids ids' : List ℕ} → known' ≡ known → told' ≡ told → ((u : ℕ) → is_one_of u ids' ≡ false → is_one_of u ids ≡ false)
    → BranchesAgree known told ids → BranchesAgree known' told' ids'
branches_again {known} {told' = told'} {ids' = ids'} same same_told free a = subst (λ t. BranchesAgree t told' ids') (sym same) (subst (λ t. BranchesAgree known t ids') (sym same_told) (record {
  hists = a.hists;
  are_told = a.are_told;
  fits = a.fits;
  rootless = a.rootless;
  ids = a.ids;
  used = λ u e ne. a.used u (free u e) ne;
  fresh = λ u e. a.fresh u (free u e);
}))

-- lines that tell nothing of what all agrees on
pub told_of_same : (l : ℕ) (r : Chronicle) → ToldOf l r r
told_of_same l r = record { last = later_same _ _ refl refl; tree = refl; writer_of = λ u. refl; rows = λ n v. refl; arms = λ n. refl; clients = λ n c. refl; dials = λ j ne. refl; streams = λ k q ne. refl; states = λ k ne. refl; points = λ k ne. refl }

-- the end of a link tells of that link
pub stream_end_lines : (r : Chronicle) (l : ℕ) → ToldOf l r (after_end r l)
stream_end_lines r l = record {
  last = later_same _ _ refl refl;
  tree = refl;
  writer_of = λ u. refl;
  rows = λ n v. refl;
  arms = λ n. refl;
  clients = λ n c. refl;
  dials = λ j ne. id_there r.dial_of l None j (λ e. ne (sym e));
  streams = λ j q ne. ended_there r l j q ne;
  states = λ j ne. id_there r.stated_of l None j (λ e. ne (sym e));
  points = λ j ne. id_there r.point_of l None j (λ e. ne (sym e));
}

-- the frames of one link that are about to be answered or taken
abbrev pub busy_one : ℕ → List Frame × List Frame → Busy
busy_one l x k = if k == l then x else ([], [])

pub one_here : (l : ℕ) (x : List Frame × List Frame) → busy_one l x l ≡ x
one_here l x = ap (λ b. if b then x else ([], [])) (eq-eqb l l refl)

pub one_idle : (l : ℕ) (x : List Frame × List Frame) → BusyBut l idle (busy_one l x)
one_idle l x k ne = ap (λ b. if b then x else ([], [])) (ne_eqb k l ne)

pub one_but : (l : ℕ) (x y : List Frame × List Frame) → BusyBut l (busy_one l x) (busy_one l y)
one_but l x y k ne = one_idle l y k ne ∙ sym (one_idle l x k ne)

pub one_none : (l k : ℕ) → idle k ≡ busy_one l ([], []) k
one_none l k = elim (k == l) as (λ b. idle k ≡ (if b then ([], []) else ([], []))) [ true ↦ refl | false ↦ refl ]

-- a vBucket that follows others takes no writes
pub no_writer : (r : Role) → is_follower r ≡ true → is_active r ≡ false
no_writer Active e = cc
no_writer other e = refl

-- what holds of the vBucket that changed, and of the others, holds of all
pub all_vbs : (w w' : PlainWorld) (n v : ℕ) (vb : Plain) (P : ℕ → ℕ → Option Plain → Type 0) → vb_of w' n v ≡ Some vb → ((m q : ℕ) → (m ≡ n → q ≡ v → ⊥) → vb_of w' m q ≡ vb_of w m q) → P n v (Some vb)
    → ((m q : ℕ) → (m ≡ n → q ≡ v → ⊥) → P m q (vb_of w m q)) → (m q : ℕ) → P m q (vb_of w' m q)
all_vbs w w' n v vb P at away here there m q = ⊎_elim
    (λ s. subst (λ x. P x q (vb_of w' x q)) (sym s.0) (subst (λ y. P n y (vb_of w' n y)) (sym s.1) (subst (P n v) (sym at) here)))
    (λ o. subst (P m q) (sym (away m q o)) (there m q o))
    (places n v m q)

-- no role takes writes and follows
pub not_both : (r : Role) → is_active r ≡ true → is_follower r ≡ true → ⊥
not_both Active a f = cc
not_both other a f = cc

-- members of the cluster

pub fed_same : (m : Member) → FedMember m m
fed_same m = record { active = refl; br = refl; held = refl; position = refl; log = refl }

-- and their disks
pub disks_all : (k : ℕ) (c c' : Cluster) → FeedChanged k c c' → (j : ℕ) → c'.disks j ≡ c.disks j
disks_all k c c' f j = ⊎_elim (λ e. subst (λ x. c'.disks x ≡ c.disks x) (sym e) f.disk) (λ ne. f.changed.disks j ne) (numbers j k)

pub fed_all : (k : ℕ) (c c' : Cluster) → FeedChanged k c c' → (j : ℕ) → FedMember (c.nodes j) (c'.nodes j)
fed_all k c c' f j = ⊎_elim (λ e. subst (λ x. FedMember (c.nodes x) (c'.nodes x)) (sym e) f.fed) (λ ne. subst (λ x. FedMember (c.nodes j) x) (sym (f.changed.others j ne)) (fed_same (c.nodes j))) (numbers j k)

-- a vBucket's parts that its links speak of; and it owes no more
pub record KeptVb (vb vb' : Plain) : Type 0 where
  pub role : vb'.role ≡ vb.role
  pub wants : wants_of vb' ≡ wants_of vb
  pub fewer : Fewer (Some vb) (Some vb')

pub kept_same : (vb : Plain) → KeptVb vb vb
kept_same vb = record { role = refl; wants = refl; fewer = λ x p o. o }

pub kept_streams : (id : ℕ) (vb vb' : Plain) → StreamsChanged id vb vb' → KeptVb vb vb'
kept_streams id vb vb' c = record { role = ap (λ (p : Plain). p.role) c.alone; wants = ap wants_of c.alone; fewer = fewer_streams id vb vb' c }

-- what the lines tell of a vBucket is the same
pub record ToldAt (r r' : Chronicle) (n v : ℕ) : Type 0 where
  pub tree : r'.tree ≡ r.tree
  pub writer_of : (u : ℕ) → r'.writer_of u ≡ r.writer_of u
  pub row : vb_row r' n v ≡ vb_row r n v

pub told_at : (l : ℕ) (r r' : Chronicle) (n v : ℕ) → ToldOf l r r' → ToldAt r r' n v
told_at l r r' n v t = record { tree = t.tree; writer_of = t.writer_of; row = t.rows n v }

pub taken_at : (l n v : ℕ) (r r' : Chronicle) (m q : ℕ) → TakenOf l n v r r' → (m ≡ n → q ≡ v → ⊥) → ToldAt r r' m q
taken_at l n v r r' m q t o = record { tree = t.tree; writer_of = t.writer_of; row = t.rows m q o }

-- a vBucket whose streams alone changed, and whose member is fed otherwise, agrees as before
module _ (r r' : Chronicle) (n v : ℕ) (m m' : Member) (told : ToldAt r r' n v) (fed : FedMember m m') where
  writes_carried : (b : Bool) → WritesIf b r n v m.br → WritesIf b r' n v m'.br
  writes_carried false x = tt
  writes_carried true x = record {
    branch = ap (λ (t : VbRow). t.contents.branch) told.row ∙ x.branch ∙ ap Some (sym fed.br);
    is_told = subst (λ t. IsTold t m'.br) (sym told.tree) (subst (IsTold r.tree) (sym fed.br) x.is_told);
    writer = told.writer_of m'.br ∙ ap r.writer_of fed.br ∙ x.writer;
    named = λ z. x.named (sym fed.br ∙ z);
  }

  streams_carried : (vb : Plain) (streams : List Stream) → Sound (record vb { streams = streams }) → VbAgrees r n v m vb → VbAgrees r' n v m' (record vb { streams = streams })
  streams_carried vb streams sound a = record {
    kept = subst (λ t. VbHeld t (vb_contents r' n v) m' (record vb { streams = streams })) (sym told.tree) (subst (λ (t : VbRow). VbHeld r.tree t.contents m' (record vb { streams = streams })) (sym told.row) (record {
      sound = sound;
      spanned = a.spanned;
      keeps = subst (λ h. Keeps vb.base vb.floor vb.last_cas h vb.held vb.log vb.position.at) (sym fed.held) a.keeps;
      told = subst (λ h. VbTold (vb_contents r n v) h vb.log vb.position) (sym fed.held) a.told;
      member = record { active = fed.active ∙ a.member.active; position = fed.position ∙ a.member.position; log = fed.log ∙ a.member.log };
      branch = subst (BranchAgrees (r.branch_at n v)) (sym fed.br) a.branch;
      holds = subst (λ h. HoldsAt 0 (WholeTo vb.floor vb.spans vb.position) h (own_history r n v)) (sym fed.held) a.holds;
    }));
    role = ap (λ (t : VbRow). t.role) told.row ∙ a.role;
    opened = subst (λ (t : VbRow). OpenedAs vb.role t.opened (is_some vb.spans.current)) (sym told.row) a.opened;
    writes = writes_carried (is_active vb.role) a.writes;
    counts = subst (λ (t : VbRow). CountsIf (is_active vb.role) t.counts vb.others vb.acks) (sym told.row) a.counts;
    lefts = subst (λ (t : VbRow). is_active vb.role ≡ true → LeftUpTo t.counts.risen vb.position.at vb.waiting) (sym told.row) a.lefts;
    times = subst (λ (t : VbRow). TimesIf (is_active vb.role) t.counts.times vb.waiting) (sym told.row) a.times;
  }

  pub vb_carried : (id : ℕ) (vb vb' : Plain) → StreamsChanged id vb vb' → VbAgrees r n v m vb → VbAgrees r' n v m' vb'
  vb_carried id vb vb' c a = subst (VbAgrees r' n v m') (sym c.alone) (streams_carried vb vb'.streams (subst Sound c.alone c.sound) a)

  pub agrees_carried : (o : Option Plain) → (o ≡ None → m' ≡ m) → AgreesAt r n v m o → AgreesAt r' n v m' o
  agrees_carried None same a = subst (λ x. IsAway (vb_row r' n v) x) (sym (same refl)) (subst (λ t. IsAway t m) (sym told.row) a)
  agrees_carried (Some vb) same a = streams_carried vb vb.streams a.sound a

-- a vBucket with other streams is sound as it was
pub sound_streams : (vb : Plain) (streams : List Stream) → Sound vb → AreFed vb.role vb.floor streams → Sound (record vb { streams = streams })
sound_streams vb streams s feeds = record { spanned = s.spanned; placed = s.placed; stamped = s.stamped; based = s.based; saved = s.saved; counted = s.counted; feeds = feeds }

-- a link agrees as before, where what it speaks of stays
pub link_carried_by : (w w' : PlainWorld) (r r' : Chronicle) (c c' : Cluster) (link : PlainLink) (up down : List Frame)
    → StaysFollower (vb_of w (consumer_node link) link.consumer.dialed.vb) (vb_of w' (consumer_node link) link.consumer.dialed.vb) (c.nodes (consumer_seat link)) (c'.nodes (consumer_seat link))
    → r'.dial_of (link_number link) ≡ r.dial_of (link_number link)
    → r'.stream_of (Link (link_number link)) link.consumer.dialed.vb ≡ r.stream_of (Link (link_number link)) link.consumer.dialed.vb
    → r'.stated_of (link_number link) ≡ r.stated_of (link_number link)
    → r'.point_of (link_number link) ≡ r.point_of (link_number link)
    → StaysProducer (vb_of w (producer_node link) link.consumer.dialed.vb) (vb_of w' (producer_node link) link.consumer.dialed.vb) (c.nodes (producer_seat link)) (c'.nodes (producer_seat link)) link
    → LinkAgrees w r c link up down → LinkAgrees w' r' c' link up down
link_carried_by w w' r r' c c' link up down follower dial stream state point stays a =
    let (fv', is, either) = follower a.follower a.follower_is in let pv' = vb_of w' (producer_node link) link.consumer.dialed.vb in
    let leader' = c'.nodes (producer_seat link) in
    record {
      follower = fv';
      follower_is = is;
      follows = ⊎_elim (λ same. subst (FollowsBy link.consumer.taking.last) (sym same.0) a.follows) (λ feeds. still_owns link.consumer.taking.last a.follower.role fv'.role feeds.0 feeds.1 a.follows) either;
      acks = subst (λ o. AckedIs o link.consumer.acked) (sym stream) a.acks;
      dial = subst (λ o. DialAgrees o link.server.desk link.consumer.dialed) (sym dial) a.dial;
      talk = ⊎_elim
          (λ same. talk_same same.2 refl refl stream state point (talk_carried (c.nodes (consumer_seat link)) (vb_of w (producer_node link) link.consumer.dialed.vb) pv' (c.nodes (producer_seat link)) leader'
          (r.stream_of (Link (link_number link)) link.consumer.dialed.vb) (r.stated_of (link_number link)) (r.point_of (link_number link)) link stays a.follower fv' up down same.1 a.talk))
          (λ feeds. talk_same refl refl refl stream state point (talk_owned (c.nodes (consumer_seat link)) (vb_of w (producer_node link) link.consumer.dialed.vb) pv' (c.nodes (producer_seat link)) leader'
          (r.stream_of (Link (link_number link)) link.consumer.dialed.vb) (r.stated_of (link_number link)) (r.point_of (link_number link)) link stays a.follower fv' (c'.nodes (consumer_seat link)) up down feeds.0 a.follows a.talk))
          either;
    }
  where
    still_owns : (last : Option TakeStep) (role role' : Role) → is_follower role ≡ false → is_follower role' ≡ false → FollowsBy last role → FollowsBy last role'
    still_owns None role role' feeds feeds' f = let z : false ≡ true = sym feeds ∙ f in cc
    still_owns (Some TakeStep.Pend) role role' feeds feeds' f = let z : false ≡ true = sym feeds ∙ ap is_follower f in cc
    still_owns (Some TakeStep.Own) role role' feeds feeds' f = feeds'

-- so it is where all of it does
pub link_carried : (w w' : PlainWorld) (r r' : Chronicle) (c c' : Cluster) (link : PlainLink) (up down : List Frame)
    → ((fv : Plain) → vb_of w (consumer_node link) link.consumer.dialed.vb ≡ Some fv → (fv' : Plain) × (vb_of w' (consumer_node link) link.consumer.dialed.vb ≡ Some fv') × KeptVb fv fv')
    → r'.dial_of (link_number link) ≡ r.dial_of (link_number link)
    → r'.stream_of (Link (link_number link)) link.consumer.dialed.vb ≡ r.stream_of (Link (link_number link)) link.consumer.dialed.vb
    → r'.stated_of (link_number link) ≡ r.stated_of (link_number link)
    → r'.point_of (link_number link) ≡ r.point_of (link_number link)
    → c'.nodes (consumer_seat link) ≡ c.nodes (consumer_seat link)
    → StaysProducer (vb_of w (producer_node link) link.consumer.dialed.vb) (vb_of w' (producer_node link) link.consumer.dialed.vb) (c.nodes (producer_seat link)) (c'.nodes (producer_seat link)) link
    → LinkAgrees w r c link up down → LinkAgrees w' r' c' link up down
link_carried w w' r r' c c' link up down follower dial stream state point member stays =
    link_carried_by w w' r r' c c' link up down (λ fv e. let (fv', is, kept) = follower fv e in (fv', is, inl (kept.role, kept.wants, member))) dial stream state point stays

-- an open stream of a link is open at its producer's vBucket, which is the one that the link feeds, and follows nobody
pub stream_opened : (w : PlainWorld) (r : Chronicle) (c : Cluster) (link : PlainLink) (up down : List Frame) → LinkAgrees w r c link up down → (v id : ℕ) → HasOpen v id link.server.streams
    → (p : Plain) × (vb_of w (producer_node link) link.consumer.dialed.vb ≡ Some p) × (is_follower p.role ≡ false) × (s : Stream) × (stream_at id p.streams ≡ Some s) × (link.consumer.dialed.vb ≡ v)
stream_opened w r c link up down a v id has = by a.talk.stands
  where
    by : {fv : Wants} {kn : Member} {pv : Option Plain} {leader : Member} {g : Option Granted} {said_last : Option Role} {point : Option ℕ} {asked said : List Frame} → EndsStand fv kn pv leader g said_last point link.server link.consumer asked said
        → (p : Plain) × (pv ≡ Some p) × (is_follower p.role ≡ false) × (s : Stream) × (stream_at id p.streams ≡ Some s) × (link.consumer.dialed.vb ≡ v)
    by (EndsStand.IsAsking ask none t) = none_open link.server.streams t.no_stream v id has
    by (EndsStand.IsRefusedYet none t) = none_open link.server.streams t.no_stream v id has
    by {leader = leader} (EndsStand.IsStreaming t stated) =
        let is = open_kept t.granted_is.over t.stream link.server.streams t.stream_is v id has in
        let o = t.streams.opens is.2 in
        (o.producer, o.producer_is, feeder_in t.handing o.producer.role leader t.feed.given o.active, o.opened.0, subst (λ k. stream_at k o.producer.streams ≡ Some o.opened.0) is.1 o.opened.1, sym t.streams.vb_is ∙ is.0)
    by (EndsStand.IsHeir t stated) =
        let is = open_kept t.granted_is.over t.stream link.server.streams t.stream_is v id has in
        let o = t.opens is.2 (open_left t.granted_is.over t.stream link.server.streams t.stream_is v id has) in
        (o.producer, o.producer_is, ap is_follower o.dead, o.opened.0, subst (λ k. stream_at k o.producer.streams ≡ Some o.opened.0) is.1 o.opened.1, sym t.vb_is ∙ is.0)

-- and it is at another node than its consumer
pub stream_apart : (w : PlainWorld) (r : Chronicle) (c : Cluster) (link : PlainLink) (up down : List Frame) → LinkAgrees w r c link up down → (v id : ℕ) → HasOpen v id link.server.streams → producer_node link ≡ consumer_node link → ⊥
stream_apart w r c link up down a v id has same = by a.talk.stands
  where
    by : {fv : Wants} {kn : Member} {pv : Option Plain} {leader : Member} {g : Option Granted} {said_last : Option Role} {point : Option ℕ} {asked said : List Frame} → EndsStand fv kn pv leader g said_last point link.server link.consumer asked said → ⊥
    by (EndsStand.IsAsking ask none t) = none_open link.server.streams t.no_stream v id has
    by (EndsStand.IsRefusedYet none t) = none_open link.server.streams t.no_stream v id has
    by (EndsStand.IsStreaming t stated) = t.apart same
    by (EndsStand.IsHeir t stated) = t.apart same

-- each stream that somebody has open is open at its vBucket
links_there : (busy : Busy) (w : PlainWorld) (r : Chronicle) (c : Cluster) → AgreesIn busy w r c → (l n v id : ℕ) → HasFed w (Link l) n v id → IsFree id (vb_of w n v) → ⊥
links_there busy w r c a l n v id (link, is, of) free =
    let i = (found_is_link l w.links link is).0 in
    let (p, there, feeds, s, opened, at) = stream_opened w r c link (busy (link_number link)).0 (busy (link_number link)).1 (a.links link i) v id of.stream in
    let has : vb_of w n v ≡ Some p = ap (λ k. vb_of w k v) (sym of.producer) ∙ ap (vb_of w (producer_node link)) (sym at) ∙ there in
    let none : stream_at id p.streams ≡ None = subst (IsFree id) has free in
    let z : Some s ≡ None = sym opened ∙ none in cc

pub all_there : (busy : Busy) (w : PlainWorld) (r : Chronicle) (c : Cluster) → AgreesIn busy w r c → FedAreThere w
all_there busy w r c a = fed_there w r a.clients (links_there busy w r c a)

-- its producer's streams have numbers that rise, none above the last that it asked for
pub link_kept : (w : PlainWorld) (r : Chronicle) (c : Cluster) (link : PlainLink) (up down : List Frame) → LinkAgrees w r c link up down → AreKept link.server
link_kept w r c link up down a = by a.talk.stands
  where
    none : link.server.streams ≡ [] → AreKept link.server
    none e = record { ids = refl; rise = subst Rising (sym e) tt; numbered = subst (All (λ s. s.id ≤ link.server.desk.base * 2 ^ 32 + link.server.asked)) (sym e) (All-nil (λ s. s.id ≤ link.server.desk.base * 2 ^ 32 + link.server.asked)); turn = omega arith }

    one : (stream : PlainStream) → stream.id ≤ link.server.desk.base * 2 ^ 32 + link.server.asked → (over : Bool) → link.server.streams ≡ kept_stream over stream → AreKept link.server
    one stream low true e = none e
    one stream low false e = record {
      ids = refl;
      rise = subst Rising (sym e) (All-nil (λ s. stream.id < s.id), tt);
      numbered = subst (All (λ s. s.id ≤ link.server.desk.base * 2 ^ 32 + link.server.asked)) (sym e)
          (All-cons (λ s. s.id ≤ link.server.desk.base * 2 ^ 32 + link.server.asked) stream [] low (All-nil (λ s. s.id ≤ link.server.desk.base * 2 ^ 32 + link.server.asked)));
      turn = omega arith;
    }

    by : {fv : Wants} {kn : Member} {pv : Option Plain} {leader : Member} {g : Option Granted} {said_last : Option Role} {point : Option ℕ} {asked said : List Frame} → EndsStand fv kn pv leader g said_last point link.server link.consumer asked said → AreKept link.server
    by (EndsStand.IsAsking ask is t) = none t.no_stream
    by (EndsStand.IsRefusedYet is t) = none t.no_stream
    by (EndsStand.IsStreaming t stated) = one t.stream t.numbered t.granted_is.over t.stream_is
    by (EndsStand.IsHeir t stated) = one t.stream t.numbered t.granted_is.over t.stream_is

-- a link between the same ends differs from what it differed from
pub differ_ends : (link link' y : PlainLink) → SameEnds link link' → Differ link y
    → ((v id : ℕ) → HasOpen v id link'.server.streams → HasOpen v id y.server.streams → producer_node link ≡ producer_node y → ⊥)
    → Differ link' y
differ_ends link link' y same d streams = record {
  number = λ e. d.number (ap (λ x. x.link) (sym same.dialed) ∙ e);
  follower = λ e f. d.follower (ap (λ x. x.node) (sym same.dialed) ∙ e) (ap (λ x. x.vb) (sym same.dialed) ∙ f);
  stream = λ v id a b e. streams v id a b (ap (λ x. x.node) (sym same.desk) ∙ e);
}

-- the parts of a step that changes one link
pub carried_by : (busy busy' : Busy) (w w' : PlainWorld) (r r' : Chronicle) (c c' : Cluster) (l : ℕ) (link link' : PlainLink)
    → AgreesIn busy w r c → row_at link_number l w.links ≡ Some link → SameEnds link link'
    → ((n v : ℕ) → AgreesAt r' n v (c'.nodes (seat n v)) (vb_of w' n v)) → ((n v : ℕ) → DiskIsIf (r'.disk_at n v) (c'.disks (seat n v)) (shelf_of w' n v) (vb_of w' n v))
    → c'.tree ≡ c.tree → r'.tree ≡ r.tree → w'.uuids ≡ w.uuids → w'.links ≡ row_put link_number l link' w.links
    → SoundCluster top c' → BusyBut l busy busy'
    → ((x : PlainLink) → IsLink x w.links → Differ link x → LinkAgrees w' r' c' x (busy (link_number x)).0 (busy (link_number x)).1)
    → ((y : PlainLink) → IsLink y w.links → Differ link y → (v id : ℕ) → HasOpen v id link'.server.streams → HasOpen v id y.server.streams → producer_node link ≡ producer_node y → ⊥)
    → ClientsTold w' r' → RestsIn w' r' c' → LinkAgrees w' r' c' link' (busy' l).0 (busy' l).1 → AgreesIn busy' w' r' c'
carried_by busy busy' w w' r r' c c' l link link' a found same vbs disks ctree rtree uuids links sound but others streams clients rests agrees = record {
  sound = sound;
  vbs = vbs;
  disks = disks;
  rests = rests;
  branches = branches_again ctree rtree (ids_same uuids) a.branches;
  links = λ x i. each x (subst (IsLink x) links i);
  differ = subst LinksDiffer (sym links)
      (differ_put l w.links link link' number a.differ (λ y i ne. let d = apart y i ne in differ_ends link link' y same d (streams y i d)) found);
  clients = clients;
}
  where
    is_link : IsLink link w.links × (link_number link ≡ l)
    is_link = found_is_link l w.links link found

    number : link_number link' ≡ l
    number = ap (λ x. x.link) same.dialed ∙ is_link.1

    apart : (y : PlainLink) → IsLink y w.links → (link_number y ≡ l → ⊥) → Differ link y
    apart y i ne = links_apart link y w.links a.differ is_link.0 i (λ e. ne (sym e ∙ is_link.1))

    each : (x : PlainLink) → IsLink x (row_put link_number l link' w.links) → LinkAgrees w' r' c' x (busy' (link_number x)).0 (busy' (link_number x)).1
    each x i = ⊎_elim
        (λ e. subst (λ k. LinkAgrees w' r' c' k (busy' (link_number k)).0 (busy' (link_number k)).1) (sym e) (subst (λ k. LinkAgrees w' r' c' link' (busy' k).0 (busy' k).1) (sym number) agrees))
        (λ p. subst (λ b. LinkAgrees w' r' c' x b.0 b.1) (sym (but (link_number x) p.1)) (others x p.0 (apart x p.0 p.1)))
        (put_links l w.links link link' x a.differ found number i)

-- so it is where clients are as they were
pub carried : (busy busy' : Busy) (w w' : PlainWorld) (r r' : Chronicle) (c c' : Cluster) (l : ℕ) (link link' : PlainLink)
    → AgreesIn busy w r c → row_at link_number l w.links ≡ Some link → SameEnds link link'
    → ((n v : ℕ) → AgreesAt r' n v (c'.nodes (seat n v)) (vb_of w' n v)) → ((n v : ℕ) → DiskIsIf (r'.disk_at n v) (c'.disks (seat n v)) (shelf_of w' n v) (vb_of w' n v))
    → c'.tree ≡ c.tree → r'.tree ≡ r.tree → w'.uuids ≡ w.uuids → w'.links ≡ row_put link_number l link' w.links
    → SoundCluster top c' → BusyBut l busy busy'
    → ((x : PlainLink) → IsLink x w.links → Differ link x → LinkAgrees w' r' c' x (busy (link_number x)).0 (busy (link_number x)).1)
    → ((y : PlainLink) → IsLink y w.links → Differ link y → (v id : ℕ) → HasOpen v id link'.server.streams → HasOpen v id y.server.streams → producer_node link ≡ producer_node y → ⊥)
    → ConnsKept Every w w' r r' → ((v id : ℕ) → HasOpen v id link'.server.streams → HasOpen v id link.server.streams ⊎ IsFree id (vb_of w (producer_node link) v))
    → RestsIn w' r' c' → LinkAgrees w' r' c' link' (busy' l).0 (busy' l).1 → Owed w' r' → AgreesIn busy' w' r' c'
carried busy busy' w w' r r' c c' l link link' a found same vbs disks ctree rtree uuids links sound but others streams conns few rests agrees owed = carried_by busy busy' w w' r r' c c' l link link' a found same vbs disks ctree rtree uuids links sound but others streams
    (clients_kept w w' r r' l a.clients (all_there busy w r c a) conns (feeds_put w w' l link link' a.differ found same links few) owed) rests agrees

-- a link's consumer is no vBucket that is not made
pub consumer_made : (w : PlainWorld) (r : Chronicle) (c : Cluster) (link : PlainLink) (up down : List Frame) → LinkAgrees w r c link up down → (n v : ℕ) → vb_of w n v ≡ None → seat n v ≡ consumer_seat link → ⊥
consumer_made w r c link up down a n v none e =
    let p = seat_one n v (consumer_node link) link.consumer.dialed.vb e in
    let is : vb_of w n v ≡ Some a.follower = ap (λ x. vb_of w x v) p.0 ∙ ap (vb_of w (consumer_node link)) p.1 ∙ a.follower_is in cc

-- two links' consumers are two members
pub consumers_apart : (x y : PlainLink) → Differ x y → consumer_seat y ≡ consumer_seat x → ⊥
consumers_apart x y d e = let p = seat_one (consumer_node y) y.consumer.dialed.vb (consumer_node x) x.consumer.dialed.vb e in d.follower (sym p.0) (sym p.1)
