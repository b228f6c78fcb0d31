-- a state of a takeover's stream is put, and what a stream waits for
use Rattle.std.specs.Prelude.{◌≡◌, ◌≤◌, ◌+◌, ◌∷◌, ◌++◌, ◌==◌, ◌&&◌, if◌then◌else◌}
use Rattle.transcript_law.proofs.Words.{Bool, Chronicle, Cluster, DcpMsg, Event, Frame, List, Why, Member, None, Option, PlainLink, PlainNode, PlainWorld, Readable, Role, Served, Some, States, PlainStream, StreamName}
use Rattle.transcript_law.proofs.Words.{[], All, Position, after_lines, ap, arith, dcp_frame, eq-eqb, false, flight_end, flight_from, fork_of, hist, inl, inr, is_active, last_seq, length, link_number, producer_node, consumer_node, refl, row_at, start_cases, stream_branch, subst, sym, true, ℕ, ◌∙◌, ⊎_elim, All-head}
use Rattle.transcript_law.proofs.invariant.Agreement.{AgreesAt, AgreesIn, EndsStand, FeederIn, FollowsBy, GivenIn, Handing, LinkAgrees, Open, Streaming, VbAgrees, WritesIf, consumer_seat, follows_in, gives_in, idle, is_sending, kept_stream, producer_seat, spoken, stated_in, taken_in, vb_of, wants_of}
use Rattle.transcript_law.proofs.invariant.{Carried.{all_there, no_writer}, ClientsKept.{all_kept, clients_kept, every_owed}, Noted.{CameIf, KeptFor, NotedLink, NotedStream}, Owing.{later_same}, Seats.{seat}, Tables.{id_here, never}}
use Rattle.transcript_law.proofs.links.{Handed.{none_leads, stated_there}, Idling.{active_is}, Marking.{whole_if}, PumpWorlds.{IsWaiting, OthersKept, SoFar, others_offer, StatesOn, Stopped, kept_none, owned_none, noted_one, pumped, said_on, served_link, so_far_more, stepped_state, told_state}, Putting.{StatesNext, stated_stream, state_gives, state_streaming}}
use Rattle.transcript_law.proofs.links.{PutFrames.{dial_told, end_with, link_with, named, noted_here, numbered, own_dial, put_agrees, put_with}, Sent.{state_readable}, Spoken.{message_spoken}, Tips.{branch_ends, way_settled}}
use Rattle.{std.proofs.lemmas.Bool.{false_from_ne_true}, takeover.specs.declared.give_up.GiveStep.{GiveStep}, takeover.specs.declared.give_up.GiveStep.TheVariants.{End, SendRest}, takeover.specs.declared.give_up.GiveUp.{GiveUp}, takeover.specs.declared.take_over.TakeOver.{TakeOver}, cluster_model.specs.Clusters.{HasRight, IsGiven}}
use Rattle.transcript_law.specs.{Feeding.{HasOpen}, Heirs.{IsHanded, IsKept, IsNextState, IsOffered, IsWriter, IsYielded, LawfulState, TakesOn}, LinesTold.{Dial, after_state, fed_branch}, TakeoverAnswers.{Awaits, NoneAwaits, NoneTakesOn}, TakeoverLines.{IsMarkedIn, IsTakeover}}
use Rattle.transcript_law.proofs.{invariant.Agreement.{IsLink}, invariant.LinkRows.{found_is_link}, links.OneRight.{kept_by_right, one_right, put_keeps}, links.PutFrames.{found_here}}
use Rattle.transcript_law.proofs.Words.{eqb-true}
use Rattle.transcript_law.specs.LinesTold.{is_branch}
use Rattle.transcript_law.proofs.links.PumpEnds.{none_ends, state_none}
use Rattle.vb_events.specs.declared.event.StreamName.TheVariants.{Link}
use Rattle.vb_events.specs.declared.event.Event.TheVariants as event
use Rattle.dcp_producer.specs.Frames.{Next}
use Rattle.dcp_producer.specs.declared.next_frame.NextFrame.TheVariants as frame

-- the state as the stream's next frame, and the stream then
abbrev pub stated_next : StreamName → PlainStream → Handing → Role → Next
stated_next name stream next role = (frame.Put (DcpMsg.SetVbucketState role) (event.Stated name role), stated_stream stream (state_gives next))

-- ---- all agrees, where lines tell that nobody writes on a branch on which nobody does

pub stated_agrees : (w : PlainWorld) (r : Chronicle) (c : Cluster) (l u : ℕ) → fed_branch r (r.dial_of l) ≡ Some u → ((n v : ℕ) → (c.nodes (seat n v)).active ≡ true → (c.nodes (seat n v)).br ≡ u → ⊥) → AgreesIn idle w (said_on r l Role.Active) c → AgreesIn idle w (after_state r l Role.Active) c
stated_agrees w r c l u fed none a =
    let said : Chronicle = said_on r l Role.Active in let after : Chronicle = after_state r l Role.Active in
    let kept = all_kept w w said after (λ i d. refl) (λ i d. refl) refl (λ i q. refl) (λ i q. refl) in
    record {
      sound = a.sound;
      vbs = λ n v. stated_there r l u n v (c.nodes (seat n v)) (vb_of w n v) fed (none n v) (a.vbs n v);
      disks = a.disks;
      branches = a.branches;
      links = λ x i. let y = a.links x i in record { follower = y.follower; follower_is = y.follower_is; follows = y.follows; dial = y.dial; acks = y.acks; talk = y.talk };
      differ = a.differ;
      clients = clients_kept w w said after 0 a.clients (all_there idle w said c a) kept (λ k j q id has. inl has) (every_owed w w said after kept (later_same _ _ refl refl) (λ i q x p o. o) a.clients.owed);
      rests = record { powers = a.powers; clocks = a.clocks; aways = a.aways; downs = a.downs; ends = λ x i. a.ends x i; small = a.small };
    }

-- ---- where a state is next

pub next_stated : (h next : Handing) (told : Role) → StatesNext h next told → stated_in next ≡ Some told
next_stated h next told StatesNext.Offers = refl
next_stated h next told StatesNext.States = refl

came_next : (moved : ℕ) (h next : Handing) (told : Role) → StatesNext h next told → CameIf moved (Some (state_gives next))
came_next moved h next told StatesNext.Offers = tt
came_next moved h next told StatesNext.States = tt

is_rest : GiveStep → Bool
is_rest SendRest = true
is_rest other = false

rests : Option GiveUp → Bool
rests None = false
rests (Some g) = is_rest g.step

no_rest : (h next : Handing) (told : Role) → StatesNext h next told → Some (state_gives next) ≡ Some (record { step = SendRest }) → ⊥
unfolding rests is_rest
no_rest h next told StatesNext.Offers e = let z : false ≡ true = ap rests e in cc
no_rest h next told StatesNext.States e = let z : false ≡ true = ap rests e in cc

is_end : GiveStep → Bool
is_end End = true
is_end other = false

ends : Option GiveUp → Bool
ends None = false
ends (Some g) = is_end g.step

no_end : (h next : Handing) (told : Role) → StatesNext h next told → Some (state_gives next) ≡ Some (record { step = End }) → ⊥
unfolding ends is_end
no_end h next told StatesNext.Offers e = let z : false ≡ true = ap ends e in cc
no_end h next told StatesNext.States e = let z : false ≡ true = ap ends e in cc

given_next : (h next : Handing) (told : Role) (role : Role) (leader : Member) (given : Option ℕ) (place : ℕ) → StatesNext h next told → FeederIn h role leader given → place ≡ leader.position.at → GivenIn h given place → GivenIn next given place
given_next h next told role leader given place StatesNext.Offers feeds at x = x
given_next h next told role leader given place StatesNext.States feeds at x = feeds.given_there ∙ ap Some (sym at)

-- a stream that is stated to be handed over is of a takeover
pub handed_is : (takeover : Bool) (h : Handing) → (takeover ≡ false → h ≡ Handing.Unstated) → (h ≡ Handing.Unstated → ⊥) → takeover ≡ true
handed_is true h so other = refl
handed_is false h so other = absurd (other (so refl))

module _ (w : PlainWorld) (r : Chronicle) (l : ℕ) (link : PlainLink) (node : PlainNode) (found : row_at link_number l w.links ≡ Some link) (states : States) (s : Served) (g : SoFar w r l link node states s) (c : Cluster)
    (a : AgreesIn idle (pumped w l link node states s) (after_lines r s.events) c) (la : LinkAgrees (pumped w l link node states s) (after_lines r s.events) c (served_link link s) [] []) where
  open link.consumer.dialed use {vb}

  abbrev now : PlainWorld
  now = pumped w l link node states s

  abbrev read : Chronicle
  read = after_lines r s.events

  abbrev here : PlainLink
  here = served_link link s

  abbrev dial : Dial
  dial = own_dial w r l link node found states s g

  noted : NotedLink (read.takeover_of l) here
  noted = noted_here w r l link node found states s g

  is_number : link_number here ≡ l
  is_number = numbered w r l link node found states s g

  dialed : read.dial_of l ≡ Some dial
  dialed = dial_told w r l link node found states s g c a la

  -- whether its vBucket got another role
  pub turned_is : (t : Streaming (wants_of la.follower) (c.nodes (consumer_seat here)) (vb_of now (producer_node here) vb) (c.nodes (producer_seat here)) (read.stream_of (Link (link_number here)) vb) here.server here.consumer la.talk.asked (spoken la.talk.said))
      → read.stated_of (link_number here) ≡ stated_in t.handing → s.end.streams ≡ t.stream ∷ [] → (read.takeover_of l).turned ≡ t.stream.ended
  turned_is t said kept = (All-head (NotedStream (read.takeover_of l)) t.stream [] (subst (All (NotedStream (read.takeover_of l))) kept noted.each)).turned

  module _ (t : Streaming (wants_of la.follower) (c.nodes (consumer_seat here)) (vb_of now (producer_node here) vb) (c.nodes (producer_seat here)) (read.stream_of (Link (link_number here)) vb) here.server here.consumer la.talk.asked (spoken la.talk.said))
      (said : read.stated_of (link_number here) ≡ stated_in t.handing) (kept : s.end.streams ≡ t.stream ∷ []) (going : t.stream.ended ≡ false) where
    abbrev kn : Member
    kn = c.nodes (consumer_seat here)

    abbrev leader : Member
    leader = c.nodes (producer_seat here)

    left : t.granted_is.over ≡ false
    left = false_from_ne_true t.granted_is.over (λ e. let z : t.stream ∷ [] ≡ [] = sym kept ∙ t.stream_is ∙ ap (λ q. kept_stream q t.stream) e in cc)

    told : read.stream_of (Link l) vb ≡ Some t.granted_is
    told = ap (λ k. read.stream_of (Link k) vb) (sym is_number) ∙ t.told

    stated : read.stated_of l ≡ stated_in t.handing
    stated = ap read.stated_of (sym is_number) ∙ said

    steady : (read.takeover_of l).turned ≡ false
    steady = (All-head (NotedStream (read.takeover_of l)) t.stream [] (subst (All (NotedStream (read.takeover_of l))) kept noted.each)).turned ∙ going

    for_takeover : (t.handing ≡ Handing.Unstated → ⊥) → link.consumer.dialed.takeover ≡ true
    for_takeover other = handed_is link.consumer.dialed.takeover t.handing t.dialed_so other

    takes_on : link.consumer.dialed.takeover ≡ true → TakesOn read l dial t.granted_is
    takes_on e = record { dialed = dialed; takeover = noted.dialed ∙ e; stream = told; goes_on = left }

    abbrev at : Open t.stream.id t.granted_is (vb_of now (producer_node here) vb) leader t.feed t.handing
    at = t.streams.opens going

    open at use {producer as p}

    producer_agrees : VbAgrees read (producer_node here) vb leader p
    producer_agrees = subst (AgreesAt read (producer_node here) vb leader) at.producer_is (a.vbs (producer_node here) vb)

    consumer_agrees : VbAgrees read (consumer_node here) vb kn la.follower
    consumer_agrees = subst (AgreesAt read (consumer_node here) vb kn) la.follower_is (a.vbs (consumer_node here) vb)

    role_told : (role : Role) → p.role ≡ role → read.role_at (producer_node here) vb ≡ Some (Some role)
    role_told role e = producer_agrees.role ∙ ap (λ x. Some (Some x)) e

    -- ---- where its lines stand

    same_dial : (d : Dial) → read.dial_of l ≡ Some d → dial ≡ d
    same_dial d e = let z : Some dial ≡ Some d = sym dialed ∙ e in cc

    kept_in : t.handing ≡ Handing.Unstated → IsKept read l dial
    kept_in e = record { steady = steady; unstated = stated ∙ ap stated_in e; active = role_told Role.Active (active_is p.role (subst (λ h. FeederIn h p.role leader t.feed.given) e at.active)) }

    yielded_in : t.handing ≡ Handing.Ceded → IsYielded read l dial
    yielded_in e = record {
      steady = steady;
      stated = stated ∙ ap stated_in e;
      dead = role_told Role.Dead (subst (λ x. FeederIn x p.role leader t.feed.given) e at.active).dead;
      pending = consumer_agrees.role ∙ ap (λ x. Some (Some x)) (subst (λ (x : TakeOver). FollowsBy x.last la.follower.role) (t.taken_is ∙ ap taken_in e) la.follows);
    }

    -- a marker
    pub marked_in : is_sending t.handing ≡ true → (d : Dial) → IsTakeover read l d → IsMarkedIn read l d
    marked_in sends d x = subst (IsMarkedIn read l) (same_dial d x.0) (by t.handing refl sends)
      where
        by : (h : Handing) → t.handing ≡ h → is_sending h ≡ true → IsMarkedIn read l dial
        by Handing.Unstated e s' = inl (kept_in e)
        by Handing.Ceded e s' = inr (yielded_in e)
        by other e s' = cc

    -- ---- what is waited for

    offered : stated_in t.handing ≡ Some Role.Pending → is_active p.role ≡ true → IsOffered read l dial
    offered e active = record { steady = steady; stated = stated ∙ e; active = role_told Role.Active (active_is p.role active) }

    waits_by : (h : Handing) → t.handing ≡ h → is_sending h ≡ false → Awaits read l dial t.granted_is
    waits_by Handing.Unstated e rests = cc
    waits_by Handing.Offered e rests = record { takes_on = takes_on (for_takeover (λ q. let z : Handing.Offered ≡ Handing.Unstated = sym e ∙ q in cc)); stated = inl (offered (ap stated_in e) (subst (λ h. FeederIn h p.role leader t.feed.given) e at.active)) }
    waits_by Handing.Pended e rests = record { takes_on = takes_on (for_takeover (λ q. let z : Handing.Pended ≡ Handing.Unstated = sym e ∙ q in cc)); stated = inl (offered (ap stated_in e) (subst (λ h. FeederIn h p.role leader t.feed.given) e at.active)) }
    waits_by Handing.Due e rests = record { takes_on = takes_on (for_takeover (λ q. let z : Handing.Due ≡ Handing.Unstated = sym e ∙ q in cc)); stated = inl (offered (ap stated_in e) (subst (λ h. FeederIn h p.role leader t.feed.given) e at.active)) }
    waits_by Handing.Ceded e rests = cc
    waits_by Handing.Stated e rests = record {
      takes_on = takes_on (for_takeover (λ q. let z : Handing.Stated ≡ Handing.Unstated = sym e ∙ q in cc));
      stated = inr (record { steady = steady; stated = stated ∙ ap stated_in e; dead = role_told Role.Dead (subst (λ h. FeederIn h p.role leader t.feed.given) e at.active).dead });
    }

    -- a stream behind a state waits for the answer, or until its vBucket is given up
    pub waits_state : is_sending t.handing ≡ false → Stopped read l Why.WaitState
    waits_state rests = record { idle = λ e. cc; saved = λ e. cc; state = λ e. (dial, t.granted_is, waits_by t.handing refl rests); unread = λ e. cc }

    waiting_by : (h : Handing) → t.handing ≡ h → is_sending h ≡ false → IsWaiting t.stream.gives
    waiting_by Handing.Unstated e rests = cc
    waiting_by Handing.Offered e rests = inl (t.gives_is ∙ ap (gives_in link.consumer.dialed.takeover) e)
    waiting_by Handing.Pended e rests = inl (t.gives_is ∙ ap (gives_in link.consumer.dialed.takeover) e)
    waiting_by Handing.Due e rests = inr (inl (t.gives_is ∙ ap (gives_in link.consumer.dialed.takeover) e))
    waiting_by Handing.Ceded e rests = cc
    waiting_by Handing.Stated e rests = inr (inr (t.gives_is ∙ ap (gives_in link.consumer.dialed.takeover) e))

    pub waits_on : is_sending t.handing ≡ false → IsWaiting t.stream.gives
    waits_on rests = waiting_by t.handing refl rests

    -- one that puts its snapshots waits for none
    none_by : (h : Handing) → t.handing ≡ h → is_sending h ≡ true → NoneAwaits read l
    none_by Handing.Unstated e sends d other x = ⊎_elim (λ (o : IsOffered read l d). let z : None ≡ Some Role.Pending = sym (stated ∙ ap stated_in e) ∙ o.stated in cc) (λ (o : IsHanded read l d). let z : None ≡ Some Role.Active = sym (stated ∙ ap stated_in e) ∙ o.stated in cc) x.stated
    none_by Handing.Ceded e sends d other x = ⊎_elim
        (λ (o : IsOffered read l d).
        let dead : read.role_at (producer_node here) vb ≡ Some (Some Role.Dead) = role_told Role.Dead (subst (λ h. FeederIn h p.role leader t.feed.given) e at.active).dead in
        let active : read.role_at (producer_node here) vb ≡ Some (Some Role.Active) = subst (λ (y : Dial). read.role_at y.producer y.vb ≡ Some (Some Role.Active)) (sym (same_dial d x.takes_on.dialed)) o.active in
        let z : ◌≡◌ {A = Option (Option Role)} (Some (Some Role.Dead)) (Some (Some Role.Active)) = sym dead ∙ active in cc)
        (λ (o : IsHanded read l d). let z : ◌≡◌ {A = Option Role} (Some Role.Pending) (Some Role.Active) = sym (stated ∙ ap stated_in e) ∙ o.stated in cc)
        x.stated
    none_by other e sends d g' x = cc

    pub waits_saved : is_sending t.handing ≡ true → Stopped read l Why.WaitSaved
    waits_saved sends = record { idle = λ e. cc; saved = λ e. none_by t.handing refl sends; state = λ e. cc; unread = λ e. cc }

    -- and one of no takeover has none to put
    pub takes_none : link.consumer.dialed.takeover ≡ false → NoneTakesOn read l
    takes_none plain d other x = never (sym x.takeover ∙ noted.dialed ∙ plain)

    -- ---- a state is put

    branch_is : stream_branch t.granted_is ≡ leader.br
    branch_is = t.streams.front_is ∙ sym at.leads

    writer_active : is_active p.role ≡ true → IsWriter read (producer_node here) vb (stream_branch t.granted_is)
    writer_active active =
        let writes : WritesIf true read (producer_node here) vb leader.br = subst (λ b. WritesIf b read (producer_node here) vb leader.br) active producer_agrees.writes in
        subst (IsWriter read (producer_node here) vb) (sym branch_is) (record { made_or_took = writes.writer; on_branch = writes.branch })

    writer_kept : t.stream.gives ≡ Some (record { step = SendRest }) → IsWriter read (producer_node here) vb (stream_branch t.granted_is)
    writer_kept step = All-head (KeptFor read (producer_node here) vb (read.stream_of (Link (link_number here)) vb)) t.stream []
        (subst (All (KeptFor read (producer_node here) vb (read.stream_of (Link (link_number here)) vb))) kept g.known.kept) t.granted_is t.told step going

    -- the stream's step goes on so
    states_by : (h next : Handing) (told_role : Role) → StatesNext h next told_role → t.handing ≡ h → link.consumer.dialed.takeover ≡ true → StatesOn t.stream (stated_stream t.stream (state_gives next))
    states_by h next told_role StatesNext.Offers e takeover = inl (t.gives_is ∙ ap (gives_in link.consumer.dialed.takeover) e ∙ ap (λ b. gives_in b Handing.Unstated) takeover, refl)
    states_by h next told_role StatesNext.States e takeover = inr (t.gives_is ∙ ap (gives_in link.consumer.dialed.takeover) e, refl)

    -- the state is the next one
    next_by : (h next : Handing) (told_role : Role) → StatesNext h next told_role → t.handing ≡ h → link.consumer.dialed.takeover ≡ true → IsNextState read l dial told_role × IsWriter read (producer_node here) vb (stream_branch t.granted_is)
    next_by h next told_role StatesNext.Offers e takeover = (kept_in e, writer_active (subst (λ x. FeederIn x p.role leader t.feed.given) e at.active))
    next_by h next told_role StatesNext.States e takeover = (yielded_in e, writer_kept (t.gives_is ∙ ap (gives_in link.consumer.dialed.takeover) e))

    -- its branch ends where the vBucket is
    tip_by : (h next : Handing) (told_role : Role) → StatesNext h next told_role → t.handing ≡ h → (fork_of leader.position ≡ leader.position.at) × (leader.position.at ≡ c.tips leader.br)
    tip_by h next told_role StatesNext.Offers e =
        let x = a.sound.leads (producer_seat here) (producer_agrees.member.active ∙ subst (λ y. FeederIn y p.role leader t.feed.given) e at.active) in
        (⊎_elim (λ y. y.1) (λ y. y.1 ∙ x.ss_at) (start_cases leader.position.ss leader.position.se leader.position.at), x.tip)
    tip_by h next told_role StatesNext.States e =
        let x = subst (λ y. FeederIn y p.role leader t.feed.given) e at.active in
        (x.at_tip, a.sound.given (consumer_seat here) leader.br leader.position.at (subst (IsGiven leader.br leader.position.at) (sym t.fed) (x.given_there, sym at.leads)))

    others_write : (x : PlainLink) → IsLink x now.links → IsLink here now.links → (link_number x ≡ l → ⊥) → (u : ℕ) → HasRight (c.nodes (producer_seat x)).br (c.nodes (consumer_seat x)).link → HasRight leader.br kn.link → IsWriter read (producer_node here) vb leader.br → fed_branch read (read.dial_of l) ≡ Some leader.br
        → IsWriter read (producer_node x) x.consumer.dialed.vb u → IsWriter (after_state read l Role.Active) (producer_node x) x.consumer.dialed.vb u
    others_write x i j ne u rx right mine on writes = record { made_or_took = by (leader.br == u) refl; on_branch = writes.on_branch }
      where
        -- one that writes there is the same vBucket
        none : leader.br ≡ u → ⊥
        none e =
            let both : Some (producer_node here, vb) ≡ Some (producer_node x, x.consumer.dialed.vb) = sym mine.made_or_took ∙ ap read.writer_of e ∙ writes.made_or_took in
            let same : (producer_node here, vb) ≡ (producer_node x, x.consumer.dialed.vb) = cc in
            one_right now read c a x here i j (λ q. ne (q ∙ is_number)) leader.br
            (subst (λ (k : ℕ × ℕ). HasRight (c.nodes (seat k.0 k.1)).br (c.nodes (consumer_seat x)).link) (sym same) rx) right

        by : (b : Bool) → (leader.br == u) ≡ b → (if is_active Role.Active && is_branch (fed_branch read (read.dial_of l)) u then None else read.writer_of u) ≡ Some (producer_node x, x.consumer.dialed.vb)
        by true e = absurd (none (eqb-true leader.br u e))
        by false e = ap (λ o. if is_branch o u then None else read.writer_of u) on ∙ ap (λ b. if b then None else read.writer_of u) e ∙ writes.made_or_took

    module _ (next : Handing) (told_role : Role) (step : StatesNext t.handing next told_role) (takeover : link.consumer.dialed.takeover ≡ true) (whole : length t.stream.items ≤ t.stream.next) (most : p.position.at ≤ t.granted_is.place) where
      tip : (fork_of leader.position ≡ leader.position.at) × (leader.position.at ≡ c.tips leader.br)
      tip = tip_by t.handing next told_role step refl

      place_at : t.granted_is.place ≡ leader.position.at
      place_at =
          let within : flight_end (flight_from kn kn.coming) t.feed.flight ≤ c.tips t.feed.u = way_settled c (consumer_seat here) t.feed a.sound t.fed in
          let low : leader.position.at ≤ t.granted_is.place = subst (λ (q : Position). q.at ≤ t.granted_is.place) (sym producer_agrees.member.position) most in
          let place = t.streams.way.place_is in let ends = tip.1 ∙ ap c.tips at.leads in omega (arith, within, low, place, ends)

      ends_there : last_seq 0 (hist read.tree (stream_branch t.granted_is)) ≡ leader.position.at
      ends_there = ap (λ u. last_seq 0 (hist read.tree u)) branch_is ∙ ap (last_seq 0) (sym (a.hists leader.br)) ∙ branch_ends c (producer_seat here) a.sound tip.1 (producer_agrees.high ∙ ap (λ (q : Position). q.at) (sym producer_agrees.member.position)) tip.0

      lawful : LawfulState read l told_role
      lawful = let x = next_by t.handing next told_role step refl takeover in
          record { dial = dial; stream = t.granted_is; takes_on = takes_on takeover; next = x.0; writer = x.1; whole = whole_if t.stream t.granted_is.last t.streams.last whole; all = place_at ∙ sym ends_there }

      abbrev state : Frame
      state = dcp_frame (DcpMsg.SetVbucketState told_role) t.stream.opaque t.stream.vb

      abbrev line : Event
      line = event.Stated s.end.desk.stream told_role

      abbrev streams : List PlainStream
      streams = stated_stream t.stream (state_gives next) ∷ []

      abbrev after : PlainLink
      after = link_with link s streams 1 state line

      state_is : state ≡ dcp_frame (DcpMsg.SetVbucketState told_role) here.consumer.asked vb
      state_is = λ i. dcp_frame (DcpMsg.SetVbucketState told_role) (t.streams.opaque_is i) (t.streams.vb_is i)

      streaming : (x : Streaming (wants_of la.follower) kn (vb_of now (producer_node here) vb) leader (read.stream_of (Link (link_number here)) vb) (record here.server { streams = streams }) here.consumer la.talk.asked (spoken la.talk.said ++ state ∷ [])) × (x.handing ≡ next)
      streaming = state_streaming t next told_role state step takeover (given_next t.handing next told_role p.role leader t.feed.given t.granted_is.place step at.active place_at t.streams.given_in) left whole state_is

      said_now : (said_on read l told_role).stated_of (link_number here) ≡ stated_in streaming.0.handing
      said_now = ap (said_on read l told_role).stated_of is_number ∙ id_here read.stated_of l (Some told_role) ∙ sym (next_stated t.handing next told_role step) ∙ ap stated_in (sym streaming.1)

      put_said : AgreesIn idle (pumped w l link node states (end_with s streams 1 state line)) (said_on read l told_role) c
      put_said = put_agrees w r l link node found states s g c a la streams 1 state line (said_on read l told_role) (told_state read l told_role) refl la.acks
          (subst Readable (sym state_is) (state_readable told_role here.consumer.asked vb t.consumer.small la.small.1)) (message_spoken (DcpMsg.SetVbucketState told_role) t.stream.opaque t.stream.vb) (λ v id has. subst (HasOpen v id) (sym kept) has)
          (EndsStand.IsStreaming streaming.0 said_now)

      put_stated : (h later : Handing) (role : Role) → StatesNext h later role → t.handing ≡ h → AgreesIn idle (pumped w l link node states (end_with s streams 1 state line)) (said_on read l role) c → AgreesIn idle (pumped w l link node states (end_with s streams 1 state line)) (after_state read l role) c
      put_stated h later role StatesNext.Offers e x = x
      put_stated h later role StatesNext.States e x =
          let given = subst (λ y. FeederIn y p.role leader t.feed.given) e at.active in
          let right : HasRight leader.br kn.link = (leader.position.at, subst (IsGiven leader.br leader.position.at) (sym t.fed) (given.given_there, sym at.leads)) in
          let asleep : kn.active ≡ false = consumer_agrees.member.active ∙ no_writer la.follower.role (follows_in t.handing la.follower.role (subst (λ (x : TakeOver). FollowsBy x.last la.follower.role) t.taken_is la.follows)) in
          let on : read.branch_at (producer_node here) vb ≡ Some leader.br = (writer_kept (t.gives_is ∙ ap (gives_in link.consumer.dialed.takeover) e)).on_branch ∙ ap Some branch_is in
          stated_agrees (pumped w l link node states (end_with s streams 1 state line)) read c l leader.br (ap (fed_branch read) dialed ∙ on) (λ n v active on_it. none_leads c (consumer_seat here) (seat n v) leader.br a.sound right asleep active on_it) x

      -- who writes for other links stays so: none of them has the right to that branch
      state_kept : (h later : Handing) (role : Role) → StatesNext h later role → t.handing ≡ h → OthersKept w l read (after_state read l role)
      state_kept h later role StatesNext.Offers e x i ne kept = others_offer w read l x i ne kept
      state_kept h later role StatesNext.States e x i ne kept =
          let there : IsLink x now.links = put_keeps l here w.links x i ne in
          let given = subst (λ y. FeederIn y p.role leader t.feed.given) e at.active in
          let right : HasRight leader.br kn.link = (leader.position.at, subst (IsGiven leader.br leader.position.at) (sym t.fed) (given.given_there, sym at.leads)) in
          let mine : IsWriter read (producer_node here) vb leader.br = subst (IsWriter read (producer_node here) vb) branch_is (writer_kept (t.gives_is ∙ ap (gives_in link.consumer.dialed.takeover) e)) in
          let on : fed_branch read (read.dial_of l) ≡ Some leader.br = ap (fed_branch read) dialed ∙ mine.on_branch in
          let is_here : IsLink here now.links = (found_is_link l now.links here (found_here w r l link node found states s g)).0 in
          kept_by_right now read c x (after_state read l Role.Active) (a.links x there) refl (λ u rx writes. others_write x there is_here ne u rx right mine on writes) kept

      pub state_so_far : SoFar w r l link node states (put_with s streams 1 state line)
      state_so_far = so_far_more w r l link node states states s after.server state (s.count + 1) line (event.Stated (Link l) told_role) g
          (ap (λ (n : StreamName). event.Stated n told_role) (named w r l link node found states s g c a la)) tt lawful g.desk (c, put_stated t.handing next told_role step refl put_said)
          (record {
            noted = record {
              dialed = g.known.noted.dialed;
              each = noted_one (r.takeover_of (link_number link)) t.stream (stated_stream t.stream (state_gives next)) s.end.streams kept refl (λ x. came_next (r.takeover_of (link_number link)).moved t.handing next told_role step) g.known.noted.each;
            };
            owned = owned_none (r.takeover_of (link_number link)) (stated_stream t.stream (state_gives next)) (no_end t.handing next told_role step);
            kept = kept_none (after_state read l told_role) (producer_node here) vb (read.stream_of (Link (link_number link)) vb) (stated_stream t.stream (state_gives next)) (no_rest t.handing next told_role step);
          })
          (stepped_state l link.server.streams s.end.streams s.events told_role t.stream (stated_stream t.stream (state_gives next)) kept (states_by t.handing next told_role step refl takeover) refl g.stepped) tt (eq-eqb l l refl) (state_kept t.handing next told_role step refl) (subst Readable (sym state_is) (state_readable told_role here.consumer.asked vb t.consumer.small la.small.1)) (none_ends r link state (state_none t.stream.opaque t.stream.vb told_role))
