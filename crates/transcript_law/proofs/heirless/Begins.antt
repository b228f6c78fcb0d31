-- a branch that lines tell to be without an heir, in the world
use Rattle.std.specs.Prelude.{◌≡◌, ◌∷◌, ◌⊎◌, ◌==◌, if◌then◌else◌, false}
use Rattle.takeover.specs.declared.take_over.TakeOver.{TakeOver}
use Rattle.takeover.specs.declared.take_over.TakeStep.TheVariants.{Own, Pend}
use Rattle.transcript_law.proofs.Words.{ℕ, Bool, true, List, [], refl, ap, sym, ◌∙◌, subst, inl, inr, ⊎_elim, eqb-false, Option, Some, None, is_some, Branch, Chronicle, Cluster, Frame, Granted, Member, Plain, PlainConsumer, PlainLink, PlainProducer, PlainStream, PlainWorld, Role, StreamName, branch, consumer_node, front, is_active, link_number, producer_node, stream_branch, uuid_of}
use Rattle.transcript_law.proofs.ends.Links.{AllLinked}
use Rattle.transcript_law.proofs.heirless.{Barren.{Barren, IsOffering}, Whole.{Calm}}
use Rattle.transcript_law.proofs.invariant.{Agreement.{AgreesAt, AgreesIn, EndsStand, FeederIn, FollowsBy, Handing, IsLink, LinkAgrees, OpenAt, PowerIsIf, VbAgrees, Wants, Writes, WritesIf, consumer_seat, idle, is_down, is_running, kept_stream, producer_seat, stated_in, taken_in, vb_of}, Noted.{AllNoted, NotedLink, NotedStream}, Seats.{seat}, Trees.{IsTold}}
use Rattle.transcript_law.proofs.disks.Disks.{Power}
use Rattle.transcript_law.proofs.invariant.Agreement.{power_of}
use Rattle.transcript_law.proofs.noted.Freed.{IsCeded}
use Rattle.transcript_law.specs.{Heirless.{ActsOn, IsHeirless, MayGiveHeir, NobodyWrites}, Heirs.{IsYielded}}
use Rattle.transcript_law.specs.Chronicles.{ArmKnown}
use Rattle.transcript_law.specs.LinesTold.{Dial}
use Rattle.cluster_model.specs.Clusters.{IsBranch}
use Rattle.std.specs.List.{All}
use Rattle.transcript_law.proofs.Words.{All-head}

-- the id of a branch is told
told_branch : (b : Branch) (tree : List Branch) (u : ℕ) → IsBranch b tree → b.id ≡ u → IsTold tree u
told_branch b [] u i e = absurd i
told_branch b (x ∷ older) u i e = by (x.id == u) refl (λ later. told_branch b older u later e)
  where
    by : (t : Bool) → (x.id == u) ≡ t → (IsBranch b older → IsTold older u) → IsTold (x ∷ older) u
    by true q rest = (x, ap (λ s. if s then Some x else branch older u) q)
    by false q rest = ⊎_elim
        (λ same. absurd (eqb-false x.id u q (ap (λ (y : Branch). y.id) (sym same) ∙ e)))
        (λ later. let (d, is) = rest later in (d, ap (λ s. if s then Some x else branch older u) q ∙ is))
        i

-- an active role
role_active : (role : Role) → is_active role ≡ true → role ≡ Role.Active
role_active Role.Active e = refl
role_active Role.Replica e = cc
role_active Role.Pending e = cc
role_active Role.Dead e = cc

-- ---- the ends of a link on which a state was put

-- the link is for a takeover
taken_so : (h : Handing) (role : Role) (takeover : Bool) → (takeover ≡ false → h ≡ Handing.Unstated) → Some role ≡ stated_in h → takeover ≡ true
taken_so h role true so e = refl
taken_so h role false so e = let z : Some role ≡ None = e ∙ ap stated_in (so refl) in cc

ends_taken : {fv : Wants} {kn : Member} {pv : Option Plain} {leader : Member} {g : Option Granted} {said : Option Role} {point : Option ℕ} {served : PlainProducer} {asker : PlainConsumer} {up down : List Frame} → EndsStand fv kn pv leader g said point served asker up down → (role : Role) → said ≡ Some role → asker.dialed.takeover ≡ true
ends_taken (EndsStand.IsAsking ask none x) role e = let z : None ≡ Some role = sym none.1 ∙ e in cc
ends_taken (EndsStand.IsRefusedYet none x) role e = let z : None ≡ Some role = sym none.1 ∙ e in cc
ends_taken {asker = asker} (EndsStand.IsStreaming x is) role e = taken_so x.serving.handing role asker.dialed.takeover x.serving.dialed_so (sym e ∙ is)
ends_taken (EndsStand.IsHeir x is) role e = x.for_takeover

-- by who feeds it: an active vBucket on its branch; or one that was given up, for a consumer that was told pending
abbrev Feeds : Option Plain → Member → ℕ → PlainConsumer → Type 0
Feeds pv leader u asker = (p : Plain) × (pv ≡ Some p) × (((is_active p.role ≡ true) × (leader.br ≡ u)) ⊎ ((p.role ≡ Role.Dead) × (asker.taking.last ≡ Some Pend)))

feeds_in : (h : Handing) (role : Role) (leader : Member) (given : Option ℕ) (u : ℕ) (taking : TakeOver) → Some Role.Pending ≡ stated_in h → FeederIn h role leader given → leader.br ≡ u → taking ≡ taken_in h → ((is_active role ≡ true) × (leader.br ≡ u)) ⊎ ((role ≡ Role.Dead) × (taking.last ≡ Some Pend))
feeds_in Handing.Unstated role leader given u taking e f on t = cc
feeds_in Handing.Offered role leader given u taking e f on t = inl (f, on)
feeds_in Handing.Pended role leader given u taking e f on t = inl (f, on)
feeds_in Handing.Due role leader given u taking e f on t = inl (f, on)
feeds_in Handing.Ceded role leader given u taking e f on t = inr (f.dead, ap (λ (x : TakeOver). x.last) t)
feeds_in Handing.Stated role leader given u taking e f on t = let z : Some Role.Pending ≡ Some Role.Active = e in cc

ends_feed : {fv : Wants} {kn : Member} {pv : Option Plain} {leader : Member} {g : Option Granted} {said : Option Role} {point : Option ℕ} {served : PlainProducer} {asker : PlainConsumer} {up down : List Frame} → EndsStand fv kn pv leader g said point served asker up down
    → (f : Granted) → g ≡ Some f → said ≡ Some Role.Pending → f.over ≡ false → ((s : PlainStream) (more : List PlainStream) → served.streams ≡ s ∷ more → s.ended ≡ false) → Feeds pv leader (stream_branch f) asker
ends_feed (EndsStand.IsAsking ask none x) f told e goes opens = let z : None ≡ Some Role.Pending = sym none.1 ∙ e in cc
ends_feed (EndsStand.IsRefusedYet none x) f told e goes opens = let z : None ≡ Some Role.Pending = sym none.1 ∙ e in cc
ends_feed {leader = leader} {asker = asker} (EndsStand.IsStreaming x is) f told e goes opens =
    let z : Some x.granted_is ≡ Some f = sym x.told ∙ told in let same : x.granted_is ≡ f = cc in
    let on : x.granted_is.over ≡ false = ap (λ (y : Granted). y.over) same ∙ goes in
    let stream = x.serving.stream in
    let o = x.streams.opens (opens stream [] (x.serving.stream_is ∙ ap (λ b. kept_stream b stream) on)) in
    let leads : leader.br ≡ stream_branch f = o.leads ∙ sym x.streams.front_is ∙ ap stream_branch same in
    (o.producer, o.producer_is, feeds_in x.serving.handing o.producer.role leader x.feed.given (stream_branch f) asker.taking (sym e ∙ is) o.active leads x.taking.taken_is)
ends_feed (EndsStand.IsHeir x is) f told e goes opens = let z : Some Role.Pending ≡ Some Role.Active = sym e ∙ is in cc

-- ---- in the world

module _ (w : PlainWorld) (r : Chronicle) (c : Cluster) (a : AgreesIn idle w r c) where
  agrees_at : (n v : ℕ) (vb : Plain) → vb_of w n v ≡ Some vb → VbAgrees r n v (c.nodes (seat n v)) vb
  agrees_at n v vb there = subst (AgreesAt r n v (c.nodes (seat n v))) there (a.vbs n v)

  -- a node with a vBucket is not down
  pub up_there : (n v : ℕ) (vb : Plain) → vb_of w n v ≡ Some vb → (r.arm_at n).down ≡ false
  up_there n v vb there = by (power_of w n) (a.powers n) (λ e. (a.downs n v).vb_none e)
    where
      by : (o : Option Power) → PowerIsIf (r.arm_at n) o → (is_down o ≡ true → vb_of w n v ≡ None) → (r.arm_at n).down ≡ false
      by None p none = ap (λ (t : ArmKnown). t.down) p
      by (Some power) p none = p.down ∙ off (is_some power.off) none
        where
          off : (b : Bool) → (b ≡ true → vb_of w n v ≡ None) → b ≡ false
          off true z = let y : None ≡ Some vb = sym (z refl) ∙ there in cc
          off false z = refl

  role_told : (n v : ℕ) (vb : Plain) → vb_of w n v ≡ Some vb → r.role_at n v ≡ Some (Some vb.role)
  role_told n v vb there = (agrees_at n v vb there).role

  -- nobody is active on the branch
  pub nobody : (steady : ℕ → Type 0) (u : ℕ) → Barren steady u r → NobodyWrites r w u
  nobody steady u b n v vb on = b.none_acts n v (up_there n v vb on.there) (role_told n v vb on.there ∙ ap (λ k. Some (Some k)) (role_active vb.role on.active)) on.on_branch

  module _ (noted : AllNoted w r) (u : ℕ) (h : IsHeirless r u) (x : PlainLink) (i : IsLink x w.links) where
    mine : LinkAgrees w r c x [] []
    mine = a.links x i

    abbrev d : Dial
    d = record { producer = producer_node x; node = consumer_node x; vb = x.consumer.dialed.vb }

    dial_same : (e : Dial) → r.dial_of (link_number x) ≡ Some e → e ≡ d
    dial_same e p = let z : Some e ≡ Some d = sym p ∙ mine.dial.dialed in cc

    taken : (role : Role) → r.stated_of (link_number x) ≡ Some role → (r.takeover_of (link_number x)).dialed ≡ true
    taken role e = (noted x i).dialed ∙ ends_taken mine.talk.stands role e

    stream_told : (e : Dial) (g : Granted) → r.dial_of (link_number x) ≡ Some e → r.stream_of (StreamName.Link (link_number x)) e.vb ≡ Some g → r.stream_of (StreamName.Link (link_number x)) x.consumer.dialed.vb ≡ Some g
    stream_told e g p s = ap (λ (y : Dial). r.stream_of (StreamName.Link (link_number x)) y.vb) (sym (dial_same e p)) ∙ s

    -- what it may give is an heir
    gives : (g : Granted) (role : Role) → r.stated_of (link_number x) ≡ Some role → r.stream_of (StreamName.Link (link_number x)) x.consumer.dialed.vb ≡ Some g → stream_branch g ≡ u → IsYielded r (link_number x) d ⊎ (r.stated_of (link_number x) ≡ Some Role.Active)
        → r.role_at (consumer_node x) x.consumer.dialed.vb ≡ Some (Some Role.Pending) → ⊥
    gives g role said stream on given pending = h.none_comes (link_number x) (record { dial = d; stream = g; dialed = mine.dial.dialed; takeover = taken role said; granted = stream; of_branch = on; given = given; pending = pending })

    none_offers : (g : Granted) → Calm r (link_number x) → IsOffering r (link_number x) g → stream_branch g ≡ u → ⊥
    none_offers g calm o on = ⊎_elim acts yields fed.2
      where
        told : r.stream_of (StreamName.Link (link_number x)) x.consumer.dialed.vb ≡ Some g
        told = stream_told o.dial g o.dialed o.stream

        goes : (s : PlainStream) (more : List PlainStream) → x.server.streams ≡ s ∷ more → s.ended ≡ false
        goes s more e = sym (All-head (NotedStream (r.takeover_of (link_number x))) s more (subst (All (NotedStream (r.takeover_of (link_number x)))) e (noted x i).each)).turned ∙ calm

        fed : Feeds (vb_of w (producer_node x) x.consumer.dialed.vb) (c.nodes (producer_seat x)) (stream_branch g) x.consumer
        fed = ends_feed mine.talk.stands g told o.stated o.goes_on goes

        producer : VbAgrees r (producer_node x) x.consumer.dialed.vb (c.nodes (producer_seat x)) fed.0
        producer = agrees_at (producer_node x) x.consumer.dialed.vb fed.0 fed.1

        -- it is active on the branch
        acts : (is_active fed.0.role ≡ true) × ((c.nodes (producer_seat x)).br ≡ stream_branch g) → ⊥
        acts p =
            let writes : Writes r (producer_node x) x.consumer.dialed.vb (c.nodes (producer_seat x)).br = subst (λ b. WritesIf b r (producer_node x) x.consumer.dialed.vb (c.nodes (producer_seat x)).br) p.0 producer.writes in
            h.none_acts (producer_node x) x.consumer.dialed.vb (record { active = producer.role ∙ ap (λ k. Some (Some k)) (role_active fed.0.role p.0); on_branch = writes.branch ∙ ap Some (p.1 ∙ on) })

        -- it was given up
        yields : (fed.0.role ≡ Role.Dead) × (x.consumer.taking.last ≡ Some Pend) → ⊥
        yields p =
            let pends : mine.follower.role ≡ Role.Pending = subst (λ q. FollowsBy q mine.follower.role) p.1 mine.follows in
            let pending : r.role_at (consumer_node x) x.consumer.dialed.vb ≡ Some (Some Role.Pending) = role_told (consumer_node x) x.consumer.dialed.vb mine.follower mine.follower_is ∙ ap (λ k. Some (Some k)) pends in
            gives g Role.Pending o.stated told on (inl (record { steady = calm; stated = o.stated; dead = producer.role ∙ ap (λ k. Some (Some k)) p.0; pending = pending })) pending

    none_cedes : (g : Granted) → IsCeded r (link_number x) g → stream_branch g ≡ u → ⊥
    none_cedes g k on = gives g Role.Active k.stated (stream_told k.dial g k.dialed k.stream) on (inr k.stated) (ap (λ (y : Dial). r.role_at y.node y.vb) (sym (dial_same k.dial k.dialed)) ∙ k.pending)

  pub barren_of : AllLinked w r.dial_of → AllNoted w r → (u : ℕ) → IsHeirless r u → Barren (Calm r) u r
  barren_of linked noted u h = record {
    told = told_branch h.made r.tree u h.is_made.0 h.is_made.1;
    none_acts = λ n v up active on. h.none_acts n v (record { active = active; on_branch = on });
    none_offered = λ l g calm o on. (let (x, i, s) = linked l o.dial o.dialed in none_offers noted u h x i g (subst (Calm r) (sym s) calm) (subst (λ k. IsOffering r k g) (sym s) o) on);
    none_ceded = λ l g k on. (let (x, i, s) = linked l k.dial k.dialed in none_cedes noted u h x i g (subst (λ j. IsCeded r j g) (sym s) k) on);
  }
