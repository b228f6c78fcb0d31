-- in front of a pump a vBucket is given up: who is told of it, and that all agrees before frames are put
use Rattle.std.specs.Prelude.{◌≡◌, ◌==◌, ◌&&◌, ◌∷◌, ◌++◌, if◌then◌else◌, nat_lt, not, option_map}
use Rattle.std.specs.List.{flat_map}
use Rattle.transcript_law.proofs.Words.{Bool, Change, Chronicle, Cluster, Event, List, Member, Move, None, Option, Plain, PlainLink, PlainNode, PlainStream, PlainWorld, Role, Some, States, StaysSound, Stream, StreamName}
use Rattle.transcript_law.proofs.Words.{[], LawfulFrom, LawfulRole, after, after_lines, after_role, ap, append-nil, consumer_node, drop, eq-eqb, eqb-true, false, fork_of, happens, inl, inr, item_of_change, put, is_active, link_ended, link_number, links_ended, list_any, map, peer_of, producer_node, refl, row_at, row_put, start_cases, stream_at, stream_branch, subst, sym, true, vb_in, with_ended, with_links, with_node_at, with_states, with_vb_at, ℕ, ◌∙◌, ⊎_elim}
use Rattle.transcript_law.proofs.answers.{Claims.{ClaimAt, claim_read, claim_sessions, waiting_claims}, Committed.{AllHowTold, all_claimed, lost_told}}
use Rattle.transcript_law.proofs.invariant.Agreement.{AgreesAt, AgreesIn, Agrees, EndsStand, FollowsBy, Handing, IsLink, LinkAgrees, Open, Streaming, VbAgrees, WritesIf, consumer_seat, follows_in, idle, producer_seat, spoken, stated_in, coming_items, flight_items, flight_marks, has_pended, is_granted, marker_start, taken_in, vb_of, wants_of}
use Rattle.transcript_law.proofs.invariant.{Carried.{no_writer}, LinkRows.{found_is_link, put_is_found, put_same}, Owing.{later_same}, OneLink.{put_here, put_there}, Ranged.{IsRanged, NodeRanged, NodeRangedIf, ended_ranged, kept_ranged}, Seats.{seat_one}, Tables.{at_here}}
use Rattle.transcript_law.proofs.links.{Ceding.{given_agrees}, Idling.{active_is}, Posting.{posts_go, put_agrees}, Turning.{TurnedOf}, Yields.{ceded_streaming, heir_of, left_by, none_over, one_told, over_by, peer_yields, stream_left}}
use Rattle.transcript_law.proofs.{lines.Takeovers.{lines_takeovers}, lines.ClientLines.{AreOfClients, kept_beside, posts_of_clients}, verbs.ClientsEnded.{node_turned, told_world, turned_node}, verbs.Settling.{Steady}}
use Rattle.transcript_law.proofs.verbs.{Tellings.{Are, are_posts}, VbTellings.{of_clients}}
use Rattle.transcript_law.proofs.invariant.{FedClients.{posts_keep}, Feeding.{Fed, Fine, ended_fed, kept_fine, swapped_open}, Numbered.{put_in, told_there}, Unopened.{NoNew, found_at_own, found_has, put_new}}
use Rattle.transcript_law.specs.Tellings.{is_of_clients}
use Rattle.cluster_model.specs.Clusters.{IsFedOf, ceded as cede_of, yielded as at_rest}
use Rattle.node_world.proofs.{AfterPosts.{none_posted}, Pumping.{peer_stays}, Rows.{map_found}}
use Rattle.node_world.specs.GivesFirst.{GivesNothing}
use Rattle.dcp_producer.specs.{Ending.{ended_by, ended_in}, Giving.{is_due}}
use Rattle.flow_control.specs.Windows.{is_open}
use Rattle.node_core.specs.{Clients.{PlainClient, client_ended}, GivingUp.{GiveResult, dead_line, peer_gives_up, resolved_in}}
use Rattle.node_world.specs.{Nodes.{all_posted, done as told_lines}, Pumps.{gives_at, gone_told, with_end, with_given, with_gone}, Turns.{posted_at, posted_in}}
use Rattle.takeover.specs.declared.{give_up.GiveStep.TheVariants.{Yield}, take_over.TakeOver.{TakeOver}}
use Rattle.transcript_law.specs.{Feeding.{Has, HasIn, HasOpen, client_in}, Heirs.{IsWriter}, LawfulAnswers.{AllDurable}, StreamsTold.{ClientsKnown}, ClientStreams.{past_turn, with_clients_of}}
use Rattle.vb_calls.specs.{Settling.{given_up}, declared.calls.Resolved.{Resolved}}

-- where nothing is to be given up, the world is as it was, and nothing is told
pub gives_alone : (w : PlainWorld) (link : PlainLink) (node : PlainNode) (frames l : ℕ) → row_at link_number l w.links ≡ Some link → w.nodes (producer_node link) ≡ Some node → GivesNothing frames link → gives_at frames link w (w.nodes (producer_node link)) ≡ (w, told_lines [])
gives_alone w link node frames l found made none =
    ap (gives_at frames link w) made ∙ ap (gone_told link node w) (peer_stays frames link none node.vbs) ∙ none_posted (producer_node link) (with_gone link node node.vbs (peer_of link) w) (told_lines []) ∙ ap (λ (x : PlainWorld). (x, told_lines [])) gone_none
  where
    gone_none : with_gone link node node.vbs (peer_of link) w ≡ w
    gone_none = λ i. record { nodes = λ m. same m (m == producer_node link) refl i; uuids = w.uuids; links = links i }
      where
        same : (m : ℕ) (b : Bool) → (m == producer_node link) ≡ b → (if b then Some node else w.nodes m) ≡ w.nodes m
        same m true e = sym (ap w.nodes (eqb-true m (producer_node link) e) ∙ made)
        same m false e = refl

        links : row_put link_number (link_number link) link w.links ≡ w.links
        links = ap (λ k. row_put link_number k link w.links) (found_is_link l w.links link found).1 ∙ put_same l w.links link found

-- in front of nothing there is nothing
none_front : {A : Type 0} (xs ys : List A) → [] ≡ xs ++ ys → xs ≡ []
none_front [] ys e = refl
none_front (x ∷ xs) ys e = cc

-- what is to be given up: the stream of a link is due, and its vBucket is there
pub record IsDueAt (w : PlainWorld) (link : PlainLink) (t : PlainStream) (p : Plain) (o : Stream) (frames : ℕ) : Type 0 where
  pub free : (nat_lt 0 frames && is_open link.server.window) ≡ true
  pub one : link.server.streams ≡ t ∷ []
  pub due : is_due t ≡ true
  pub yields : t.gives ≡ Some (record { step = Yield })
  pub going : t.ended ≡ false
  pub vb_is : t.vb ≡ link.consumer.dialed.vb
  pub there : vb_of w (producer_node link) link.consumer.dialed.vb ≡ Some p
  pub active : is_active p.role ≡ true
  pub opened : stream_at t.id p.streams ≡ Some o
  pub numbered : o.id ≡ t.id

-- a change of role does not change what clients asked
asked_turned : (clients : ClientsKnown) (n v : ℕ) (held : List Change) (m c : ℕ) → (with_clients_of clients n (past_turn v held) m c).asking ≡ (clients m c).asking
asked_turned clients n v held m c = elim (m == n) as (λ b. (if b then past_turn v held (clients m c) else clients m c).asking ≡ (clients m c).asking) [ true ↦ refl | false ↦ refl ]

module _ (stays : StaysSound) (steady : Steady) (w : PlainWorld) (r : Chronicle) (l : ℕ) (link : PlainLink) (node : PlainNode) (found : row_at link_number l w.links ≡ Some link) (made : w.nodes (producer_node link) ≡ Some node) (agreed : Agrees w r)
    (t : PlainStream) (p : Plain) (o : Stream) (frames : ℕ) (d : IsDueAt w link t p o frames) where
  open link.consumer.dialed use {vb}

  abbrev n : ℕ
  n = producer_node link

  abbrev c : Cluster
  c = agreed.0

  abbrev a : AgreesIn idle w r c
  a = agreed.1

  numbered : link_number link ≡ l
  numbered = (found_is_link l w.links link found).1

  abbrev is_link : IsLink link w.links
  is_link = (found_is_link l w.links link found).0

  abbrev ids : List ℕ
  ids = over_by p o

  abbrev left : Plain
  left = left_by p o

  -- the link whose stream goes on
  abbrev pub link_left : PlainLink
  link_left = with_end link (record { heard = link.up_heard; producer = record link.server { streams = stream_left t ∷ [] } })

  -- the node that gave it up, whose clients were told
  abbrev pub lost : PlainNode
  lost = turned_node node vb left ids

  abbrev links : List PlainLink
  links = row_put link_number l link_left w.links

  -- the world then
  abbrev pub gone : PlainWorld
  gone = with_links (with_node_at w n lost) (links_ended n vb ids links)

  -- what became of durable writes
  abbrev pub outcomes : List Resolved
  outcomes = given_up p.waiting

  abbrev pub role_line : Event
  role_line = Event.Role n vb Role.Dead

  abbrev r1 : Chronicle
  r1 = after_role r n vb Role.Dead

  there : node.vbs vb ≡ Some p
  there = ap (λ k. vb_in k vb) (sym made) ∙ d.there

  -- the program comes to that
  gave : after (peer_gives_up frames (peer_of link)) node.vbs ≡ (with_vb_at node.vbs t.vb left, record { peer = record { heard = link.up_heard; producer = record link.server { streams = stream_left t ∷ [] } }; given = one_told t p o ∷ [] })
  gave = peer_yields frames (peer_of link) t node.vbs p o d.free d.one d.due d.yields (ap node.vbs d.vb_is ∙ there) d.active d.opened

  -- and so the world is that
  gives_gone : gives_at frames link w (Some node) ≡ posted_in n (outcomes ++ []) (gone, told_lines (role_line ∷ []))
  gives_gone =
      ap (λ (x : States × GiveResult). posted_in n (flat_map resolved_in x.1.given) (with_given n x.1.given (with_gone link node x.0 x.1.peer w), told_lines (map (dead_line n) x.1.given))) gave
      ∙ (λ i. posted_in n (outcomes ++ []) (with_ended n (d.vb_is i) ids (with_links (with_node_at w n (with_states node (with_vb_at node.vbs (d.vb_is i) left))) (row_put link_number (numbered i) link_left w.links)), told_lines (Event.Role n (d.vb_is i) Role.Dead ∷ [])))
      ∙ ap (λ x. posted_in n (outcomes ++ []) (x, told_lines (role_line ∷ []))) (told_world (with_links w links) n vb ids (with_states node (with_vb_at node.vbs vb left)))

  gone_here : gone.nodes n ≡ Some lost
  gone_here = ap (λ b. if b then Some lost else w.nodes n) (eq-eqb n n refl)

  -- and behind it outcomes are posted
  pub gives_posted : gives_at frames link w (w.nodes n) ≡ (with_node_at gone n (all_posted (outcomes ++ []) lost).0, record { events = role_line ∷ (all_posted (outcomes ++ []) lost).1; answer = (told_lines []).answer })
  gives_posted = ap (gives_at frames link w) made ∙ gives_gone ∙ ap (λ x. posted_at n (outcomes ++ []) gone (told_lines (role_line ∷ [])) x) gone_here

  -- the link is found in the world then
  keeps_number : (x : PlainLink) → link_number (link_ended n vb ids x) ≡ link_number x
  keeps_number x = by (producer_node x == n)
    where
      by : (b : Bool) → link_number (if b then record x { server = ended_by vb ids x.server } else x) ≡ link_number x
      by true = refl
      by false = refl

  -- ---- all agrees

  abbrev pub la : LinkAgrees w r c link [] []
  la = a.links link is_link

  abbrev kn : Member
  kn = c.nodes (consumer_seat link)

  abbrev leader : Member
  leader = c.nodes (producer_seat link)

  before : VbAgrees r n vb leader p
  before = subst (AgreesAt r n vb leader) d.there (a.vbs n vb)

  became : TurnedOf w gone n vb left ids links
  became =
      let x = node_turned (with_links w links) gone n vb node left ids made refl refl in
      record { powers = x.powers; clients = x.clients; here = x.here; there = x.there; shelves = x.shelves; linked = x.linked }

  tip : fork_of leader.position ≡ leader.position.at
  tip = let x = a.sound.leads (producer_seat link) (before.member.active ∙ d.active) in ⊎_elim (λ y. y.1) (λ y. y.1 ∙ x.ss_at) (start_cases leader.position.ss leader.position.se leader.position.at)

  -- the stream that goes on is not among those that ended
  left_ended : (b : Bool) → link_left ≡ (if b then record link_left { server = record link_left.server { streams = ended_in vb ids (stream_left t) ∷ [] } } else link_left)
  left_ended true = ap (λ s. record link_left { server = record link_left.server { streams = s ∷ [] } }) (sym (ap (λ k. if k then record (stream_left t) { ended = true } else stream_left t) (not_over (t.vb == vb))))
    where
      none_among : list_any (λ i. i == t.id) ids ≡ false
      none_among = ap (λ k. list_any (λ i. i == k) ids) (sym d.numbered) ∙ none_over o.id p.streams

      not_over : (b : Bool) → (b && list_any (λ i. i == t.id) ids) ≡ false
      not_over true = none_among
      not_over false = refl
  left_ended false = refl

  stays_link : link_left ≡ link_ended n vb ids link_left
  stays_link = left_ended (producer_node link_left == n)

  pub found_left : row_at link_number l gone.links ≡ Some link_left
  found_left = map_found link_number l (link_ended n vb ids) keeps_number links link_left (put_is_found l w.links link link_left found numbered) ∙ ap Some (sym stays_link)

  -- ---- each stream of a vBucket is that of a link or of a client's connection

  -- the node with what is left of the vBucket
  abbrev holding : PlainNode
  holding = with_states node (with_vb_at node.vbs vb left)

  -- what is left has the link's stream alone
  alone_there : (id : ℕ) → Has left.streams id → t.id ≡ id
  alone_there id (inl e) = sym d.numbered ∙ e
  alone_there id (inr h) = absurd h

  fewer : NoNew node.vbs holding.vbs
  fewer = put_new node.vbs vb left (λ id h. subst (λ x. HasIn x id) (sym there) (subst (Has p.streams) (d.numbered ∙ alone_there id h) (found_has t.id p.streams o d.opened)))

  linked : Fine w → Fine (with_links w links)
  linked fine = subst (λ k. Fine (with_links w (row_put link_number k link_left w.links))) numbered
      (swapped_open w link link_left fine is_link refl (λ v id has. subst (λ ss. HasOpen v id ss → HasOpen v id (stream_left t ∷ [])) (sym d.one) (λ h. h) has) refl)

  own_link : (id : ℕ) → HasIn (holding.vbs vb) id → Fed (links_ended n vb ids links) n vb id
  own_link id h =
      let same : t.id ≡ id = alone_there id (subst (λ x. HasIn x id) (found_at_own node.vbs vb left) h) in
      (link_left, subst (λ x. IsLink x (links_ended n vb ids links)) (sym stays_link) (told_there n vb ids link_left links (put_in l link_left w.links link is_link numbered)), record { producer = refl; stream = inl (d.vb_is, same, d.going) })

  pub given_fine : Fine w → Fine gone
  given_fine fine = subst Fine (told_world (with_links w links) n vb ids holding) (ended_fed (with_links w links) n vb node holding ids (linked fine) made fewer own_link (λ k. refl))

  pub posted_fine : Fine w → Fine (with_node_at gone n (all_posted (outcomes ++ []) lost).0)
  posted_fine fine = kept_fine gone n lost (all_posted (outcomes ++ []) lost).0 (given_fine fine) gone_here (posts_keep (outcomes ++ []) lost)

  module _ (s : Streaming (wants_of la.follower) kn (vb_of w n vb) leader (r.stream_of (StreamName.Link (link_number link)) vb) link.server link.consumer la.talk.asked (spoken la.talk.said)) (stated : r.stated_of (link_number link) ≡ stated_in s.handing)
      (stream_is : s.stream ≡ t) (handing_is : s.handing ≡ Handing.Due) (takeover : link.consumer.dialed.takeover ≡ true) (goes : s.granted_is.over ≡ false) where
    going : s.stream.ended ≡ false
    going = ap (λ (x : PlainStream). x.ended) stream_is ∙ d.going

    at : Open s.stream.id s.granted_is (vb_of w n vb) leader s.feed s.handing
    at = s.streams.opens going

    -- the cluster in which its branch is given up
    abbrev ceded : Cluster
    ceded = happens c (Move.Cede (consumer_seat link) (producer_seat link))

    seats : producer_seat link ≡ consumer_seat link → ⊥
    seats e = s.apart (seat_one (producer_node link) vb (consumer_node link) vb e).0

    kn_after : ceded.nodes (consumer_seat link) ≡ heir_of kn s.feed leader
    kn_after = put_here (put c.nodes (producer_seat link) (at_rest leader)) (consumer_seat link) (cede_of kn kn.link leader.position.at) ∙ ap (λ k. cede_of kn k leader.position.at) s.fed

    leader_after : ceded.nodes (producer_seat link) ≡ at_rest leader
    leader_after = put_there (put c.nodes (producer_seat link) (at_rest leader)) (consumer_seat link) (cede_of kn kn.link leader.position.at) (producer_seat link) seats ∙ put_here c.nodes (producer_seat link) (at_rest leader)

    streaming : (x : Streaming (wants_of la.follower) (heir_of kn s.feed leader) (Some left) (at_rest leader) (r.stream_of (StreamName.Link (link_number link)) vb) (record link.server { streams = stream_left t ∷ [] }) link.consumer la.talk.asked (spoken la.talk.said)) × (x.handing ≡ Handing.Ceded)
    streaming = subst (λ y. (x : Streaming (wants_of la.follower) (heir_of kn s.feed leader) (Some left) (at_rest leader) (r.stream_of (StreamName.Link (link_number link)) vb) (record link.server { streams = stream_left y ∷ [] }) link.consumer la.talk.asked (spoken la.talk.said)) × (x.handing ≡ Handing.Ceded)) stream_is
        (ceded_streaming s p o handing_is takeover goes going d.there (ap (λ (x : PlainStream). stream_at x.id p.streams) stream_is ∙ d.opened) (d.numbered ∙ ap (λ (x : PlainStream). x.id) (sym stream_is)) tip)

    left_agrees : LinkAgrees gone r1 ceded link_left [] []
    left_agrees = record {
      follower = la.follower;
      follower_is = became.there (consumer_node link) vb (λ e q. s.apart (sym e)) ∙ la.follower_is;
      follows = la.follows;
      dial = record { dialed = la.dial.dialed; named = la.dial.named; small = la.dial.small };
      acks = la.acks;
      talk = record {
        asked = la.talk.asked;
        said = la.talk.said;
        stands = subst (λ k. EndsStand (wants_of la.follower) k (vb_of gone n vb) (ceded.nodes (producer_seat link)) (r.stream_of (StreamName.Link (link_number link)) vb) (r.stated_of (link_number link)) (r.point_of (link_number link)) link_left.server link.consumer la.talk.asked (spoken la.talk.said)) (sym kn_after)
            (subst (λ pv. EndsStand (wants_of la.follower) (heir_of kn s.feed leader) pv (ceded.nodes (producer_seat link)) (r.stream_of (StreamName.Link (link_number link)) vb) (r.stated_of (link_number link)) (r.point_of (link_number link)) link_left.server link.consumer la.talk.asked (spoken la.talk.said)) (sym became.here)
            (subst (λ m. EndsStand (wants_of la.follower) (heir_of kn s.feed leader) (Some left) m (r.stream_of (StreamName.Link (link_number link)) vb) (r.stated_of (link_number link)) (r.point_of (link_number link)) link_left.server link.consumer la.talk.asked (spoken la.talk.said)) (sym leader_after)
            (EndsStand.IsStreaming streaming.0 (stated ∙ ap stated_in (handing_is) ∙ sym (ap stated_in streaming.1)))));
        ups = record { behind = la.talk.ups.behind; joined = la.talk.ups.joined; bytes = la.talk.ups.bytes; readable = la.talk.ups.readable };
        downs = record { behind = la.talk.downs.behind; joined = la.talk.downs.joined; bytes = la.talk.downs.bytes; readable = la.talk.downs.readable };
      };
    }

    asleep : kn.active ≡ false
    asleep = (subst (AgreesAt r (consumer_node link) vb kn) la.follower_is (a.vbs (consumer_node link) vb)).member.active
        ∙ no_writer la.follower.role (follows_in s.handing la.follower.role (subst (λ (x : TakeOver). FollowsBy x.last la.follower.role) s.taken_is la.follows))

    own : HasOpen vb t.id link.server.streams
    own = subst (HasOpen vb t.id) (sym d.one) (inl (d.vb_is, refl, d.going))

    feeds : IsFedOf leader.br kn.link
    feeds = subst (IsFedOf leader.br) (sym s.fed) (sym at.leads)

    gone_agrees : AgreesIn idle gone r1 ceded
    gone_agrees = given_agrees stays w gone r c l link link_left p o a found d.there d.active t.id d.opened own asleep feeds became refl (record { dialed = refl; desk = refl })
        (λ v id has. subst (HasOpen v id) (sym d.one) has) (subst (λ x. LinkAgrees gone r1 ceded x [] []) stays_link left_agrees)

    -- its line is lawful
    role_lawful : LawfulRole r n vb Role.Dead
    role_lawful = record {
      another = λ e. let z : ◌≡◌ {A = Option (Option Role)} (Some (Some Role.Active)) (Some (Some Role.Dead)) = sym (ap (λ x. Some (Some x)) (active_is p.role d.active)) ∙ sym before.role ∙ e in cc;
      anew = λ e. cc;
      pending = λ e. cc;
    }

    -- ---- what the lines told before

    pub writer_before : IsWriter r n vb (stream_branch s.granted_is)
    writer_before =
        let writes : WritesIf true r n vb leader.br = subst (λ b. WritesIf b r n vb leader.br) d.active before.writes in
        let same : stream_branch s.granted_is ≡ leader.br = s.streams.front_is ∙ sym at.leads in record { made_or_took = ap r.writer_of same ∙ writes.writer; on_branch = writes.branch ∙ ap Some (sym same) }

    pub active_before : r.role_at n vb ≡ Some (Some Role.Active)
    active_before = before.role ∙ ap (λ x. Some (Some x)) (active_is p.role d.active)

    pub pending_before : r.role_at (consumer_node link) vb ≡ Some (Some Role.Pending)
    pending_before = (subst (AgreesAt r (consumer_node link) vb kn) la.follower_is (a.vbs (consumer_node link) vb)).role
        ∙ ap (λ x. Some (Some x)) (subst (λ (x : TakeOver). FollowsBy x.last la.follower.role) (s.taken_is ∙ ap taken_in handing_is) la.follows)

    all_taken : (s.feed.flight ≡ []) × (coming_items kn.coming ≡ [])
    all_taken = s.streams.all_taken (ap has_pended handing_is)

    pub none_marked : s.granted_is.marks ≡ []
    none_marked = s.streams.way.marks ∙ ap (flight_marks (marker_start (is_granted link.consumer.dialed s.seen && not la.follower.first) kn.position)) all_taken.0

    pub none_coming : s.granted_is.coming ≡ []
    none_coming = none_front s.granted_is.coming (map item_of_change (drop s.stream.next s.stream.items)) (sym (λ i. map item_of_change (all_taken.1 i ++ flight_items (all_taken.0 i))) ∙ s.streams.coming.all)

    -- ---- and outcomes are posted

    module _ (ranged : IsRanged w) (calm : AllDurable r.made) where
      here : NodeRanged n node
      here = subst (NodeRangedIf n) made (ranged n)

      lost_ranged : NodeRanged n lost
      lost_ranged = ended_ranged n vb ids (with_states node (with_vb_at node.vbs vb left)) (kept_ranged n node (with_states node (with_vb_at node.vbs vb left)) refl (λ k. refl) refl here)

      abbrev conns : ℕ → Option PlainClient
      conns = client_in (w.nodes n)

      had : (k : ℕ) (client' : PlainClient) → lost.clients k ≡ Some client' → (client : PlainClient) × (conns k ≡ Some client) × (client'.session ≡ client.session)
      had k client' is = by (node.clients k) (ap (λ x. client_in x k) made) is
        where
          by : (x : Option PlainClient) → client_in (w.nodes n) k ≡ x → option_map (client_ended vb ids) x ≡ Some client' → (client : PlainClient) × (conns k ≡ Some client) × (client'.session ≡ client.session)
          by None e z = cc
          by (Some client) e z = let same : client_ended vb ids client ≡ client' = cc in (client, e, ap (λ (k : PlainClient). k.session) (sym same))

      paid : AllHowTold n r1 (ClaimAt r1 n lost.clients) outcomes
      paid = all_claimed n r1 (ClaimAt r1 n conns) (ClaimAt r1 n lost.clients) outcomes (claim_sessions r1 n conns lost.clients had)
          (lost_told n vb r1 (ClaimAt r1 n conns) Role.Dead (at_here r.role_at n vb (Some (Some Role.Dead))) refl p.waiting
          (λ y some i. let (q, k) = waiting_claims w r n vb p conns before.sound a.clients.owed d.there (λ e. refl) y some i in (q, claim_read r r1 n conns (later_same r r1 refl refl) (λ e. asked_turned r.clients_at n vb (r.held n vb) n e) vb y q k)))

      abbrev pub posted : PlainNode × List Event
      posted = all_posted (outcomes ++ []) lost

      abbrev pub r2 : Chronicle
      r2 = after_lines r1 posted.1

      pub posted_lines : AreOfClients posted.1
      posted_lines = posts_of_clients n (outcomes ++ []) lost lost_ranged.own

      pub posted_told : Are (is_of_clients n) posted.1
      posted_told = are_posts (is_of_clients n) n (of_clients n) (outcomes ++ []) lost lost_ranged.own

      went : LawfulFrom r1 posted.1 × Agrees (with_node_at gone n posted.0) r2 × AllDurable r2.made
      went = posts_go stays steady gone r1 n lost (outcomes ++ []) lost_ranged (subst (AllHowTold n r1 (ClaimAt r1 n lost.clients)) (sym (append-nil outcomes)) paid) calm (put_agrees gone r1 n lost gone_here (ceded, gone_agrees))

      -- the lines so far
      pub told_lawful : LawfulFrom r (role_line ∷ posted.1)
      told_lawful = (role_lawful, went.0)

      pub left_calm : AllDurable r2.made
      left_calm = went.2

      pub left_agreed : Agrees (with_node_at gone n posted.0) r2
      left_agreed = went.1

      pub role_of_left : r2.takeover_of ≡ r.takeover_of
      role_of_left = lines_takeovers r1 posted.1

      pub stream_left_told : r2.stream_of (StreamName.Link (link_number link)) vb ≡ r.stream_of (StreamName.Link (link_number link)) vb
      stream_left_told = ap (λ f. f (StreamName.Link (link_number link)) vb) (kept_beside (λ (q : Chronicle). q.stream_of) (λ q m v u x. refl) (λ q line. refl) r1 posted.1 posted_lines)

      -- the vBucket is the writer yet
      pub writer_left : IsWriter r2 n vb (stream_branch s.granted_is)
      writer_left =
          let writes : WritesIf true r n vb leader.br = subst (λ b. WritesIf b r n vb leader.br) d.active before.writes in
          let same : stream_branch s.granted_is ≡ leader.br = s.streams.front_is ∙ sym at.leads in
          let read : r2.writer_of ≡ r.writer_of = kept_beside (λ (q : Chronicle). q.writer_of) (λ q m v u x. refl) (λ q line. refl) r1 posted.1 posted_lines in
          let on : r2.branch_at ≡ r.branch_at = kept_beside (λ (q : Chronicle). q.branch_at) (λ q m v u x. refl) (λ q line. refl) r1 posted.1 posted_lines in
          record { made_or_took = ap (λ f. f (stream_branch s.granted_is)) read ∙ ap r.writer_of same ∙ writes.writer; on_branch = ap (λ f. f n vb) on ∙ writes.branch ∙ ap Some (sym same) }
