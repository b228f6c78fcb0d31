-- what a pump's giving up makes of the plain world, and where nothing is given up
use Rattle.std.proofs.Common.{◌≡◌, ℕ, Bool, true, false, List, [], ◌∷◌, ◌++◌, append-nil, append_assoc, map, refl, ap, sym, ◌∙◌, subst, inl, inr, Option, Some, None}
use Rattle.std.specs.Prelude.{◌==◌, ◌&&◌, ◌||◌, if◌then◌else◌, nat_lt}
use Rattle.std.specs.List.{flat_map, fold, list_any}
use Rattle.std.specs.Option.{option_map}
use Rattle.std.proofs.lemmas.Bool.{eqb-true, eq-eqb}
use Rattle.vb_calls.specs.Jobs.{after_reads}
use Rattle.vb_calls.specs.Programs.{Prog, Done, Call, after, bind, each, next_of}
use Rattle.vb_calls.specs.declared.calls.VbCall.TheVariants as call
use Rattle.vb_events.specs.declared.event.Answer.TheVariants as answer
use Rattle.vb_events.specs.declared.event.Cause.TheVariants as cause
use Rattle.vb_events.specs.declared.event.Event.{Event}
use Rattle.dcp_producer.specs.declared.desk.Desk.{Desk}
use Rattle.vb_calls.specs.States.{States}
use Rattle.vb_calls.proofs.Readings.{after_bind}
use Rattle.vbucket.specs.Rows.{row_at, row_put}
use Rattle.dcp_producer.specs.Ending.{ended_by, ended_in}
use Rattle.dcp_producer.specs.Giving.{Given, Yields, all_given, behind_yield, given_of, given_up, is_due, none_given, one_given, told_as, with_given as with_stream}
use Rattle.dcp_producer.specs.Holding.{IsShut}
use Rattle.dcp_producer.specs.Producers.{PlainProducer, PlainStream}
use Rattle.dcp_producer.specs.declared.yields.Yielded.{Yielded}
use Rattle.node_core.specs.Clients.{PlainClient, client_ended}
use Rattle.node_core.specs.GivingLaws.{IsDue, ended_also, names}
use Rattle.node_core.specs.GivingUp.{GiveResult, dead_line, give_result, peer_gives_up, resolved_in}
use Rattle.node_core.specs.Peers.{PlainPeer, PullResult, peer_pulled}
use Rattle.node_core.proofs.GivingLaws.{due, lets_through, not_shut}
use Rattle.node_world.specs.Cuts.{link_ended, links_ended}
use Rattle.node_world.specs.Ends.{with_clients_given}
use Rattle.node_world.specs.GivesFirst.{GivesNothing, losing_client, losing_end, losing_link, losing_node, pumped_link}
use Rattle.node_world.specs.Links.{PlainLink, LinkResult, link_number, peer_of, producer_node, pump_at}
use Rattle.node_world.specs.Nodes.{PlainNode, all_posted, done, refusal, with_clients_ended, with_states}
use Rattle.node_world.specs.Pairing.{Each}
use Rattle.node_world.specs.Pumps.{gives_at, gone_told, with_end, with_given, with_gone}
use Rattle.node_world.specs.Turns.{posted_at, posted_in}
use Rattle.node_world.specs.World.{link_outcome, on_link, pump_outcome, pump_step, put_behind, told_behind, with_link}
use Rattle.node_world.specs.Worlds.{PlainWorld, Outcome, node_outcome, with_links, with_node_at}
use Rattle.node_world.proofs.AfterPosts.{none_posted}
use Rattle.node_world.proofs.ClientsTold.{told_world}
use Rattle.node_world.proofs.PullReads.{pump_is}
use Rattle.node_world.proofs.Rows.{map_found, put_found, put_over, put_same, row_number}

-- ---- who is told

-- the links, told one after the other of each vBucket that the node n gave up
abbrev links_yielded : ℕ → List PlainLink → Yielded → List PlainLink
links_yielded n links one = links_ended n one.vb one.ended links

abbrev pub links_given : ℕ → List Yielded → List PlainLink → List PlainLink
links_given n given links = fold (links_yielded n) links given

-- the node that gave them up is told, and no other
pub given_world : (w : PlainWorld) (n : ℕ) (given : List Yielded) (y : PlainNode) → with_given n given (with_node_at w n y) ≡ with_links (with_node_at w n (with_clients_given given y)) (links_given n given w.links)
given_world w n [] y = refl
given_world w n (one ∷ more) y =
    ap (with_given n more) (told_world w n one.vb one.ended y) ∙ given_world (with_links w (links_ended n one.vb one.ended w.links)) n more (with_clients_ended one.vb one.ended y)

-- a stream is named by the first or by a later one
ended_next : (one : Yielded) (more : List Yielded) (s : PlainStream) → ended_also more (ended_in one.vb one.ended s) ≡ ended_also (one ∷ more) s
ended_next one more s = by (names s one) s.ended
  where
    by : (b e : Bool) → ended_also more (if b then record s { ended = true } else record s { ended = e }) ≡ record s { ended = e || (b || list_any (names s) more) }
    by true true = refl
    by true false = refl
    by false e = refl

ended_none : (s : PlainStream) → ended_also [] s ≡ s
ended_none s = by s.ended
  where
    by : (e : Bool) → record s { ended = e || false } ≡ record s { ended = e }
    by true = refl
    by false = refl

streams_next : (one : Yielded) (more : List Yielded) (ss : List PlainStream) → map (ended_also more) (map (ended_in one.vb one.ended) ss) ≡ map (ended_also (one ∷ more)) ss
streams_next one more [] = refl
streams_next one more (s ∷ ss) = λ i. ended_next one more s i ∷ streams_next one more ss i

streams_none : (ss : List PlainStream) → map (ended_also []) ss ≡ ss
streams_none [] = refl
streams_none (s ∷ ss) = λ i. ended_none s i ∷ streams_none ss i

pub end_next : (one : Yielded) (more : List Yielded) (end : PlainProducer) → losing_end more (ended_by one.vb one.ended end) ≡ losing_end (one ∷ more) end
end_next one more end = ap (λ ss. record end { streams = ss }) (streams_next one more end.streams)

pub end_none : (end : PlainProducer) → losing_end [] end ≡ end
end_none end = ap (λ ss. record end { streams = ss }) (streams_none end.streams)

clients_next : (one : Yielded) (more : List Yielded) (o : Option PlainClient) → option_map (losing_client more) (option_map (client_ended one.vb one.ended) o) ≡ option_map (losing_client (one ∷ more)) o
clients_next one more None = refl
clients_next one more (Some client) = ap (λ e. Some (record client { producer = e })) (end_next one more client.producer)

clients_none : (o : Option PlainClient) → option_map (losing_client []) o ≡ o
clients_none None = refl
clients_none (Some client) = ap (λ e. Some (record client { producer = e })) (end_none client.producer)

-- each client of the node loses the streams that were named
pub clients_lose : (given : List Yielded) (node : PlainNode) → with_clients_given given node ≡ losing_node given node.vbs node
clients_lose [] node = λ i. record node { clients = λ c. sym (clients_none (node.clients c)) i }
clients_lose (one ∷ more) node = clients_lose more (with_clients_ended one.vb one.ended node) ∙ (λ i. record node { clients = λ c. clients_next one more (node.clients c) i })

link_next : (n : ℕ) (one : Yielded) (more : List Yielded) (link : PlainLink) → losing_link n more (link_ended n one.vb one.ended link) ≡ losing_link n (one ∷ more) link
link_next n one more link = by (producer_node link == n) refl
  where
    by : (b : Bool) → (producer_node link == n) ≡ b → losing_link n more (if b then record link { server = ended_by one.vb one.ended link.server } else link) ≡ (if b then record link { server = losing_end (one ∷ more) link.server } else link)
    by true e = ap (λ b. if b then record link { server = losing_end more (ended_by one.vb one.ended link.server) } else record link { server = ended_by one.vb one.ended link.server }) e
        ∙ ap (λ s. record link { server = s }) (end_next one more link.server)
    by false e = ap (λ b. if b then record link { server = losing_end more link.server } else link) e

link_none : (n : ℕ) (link : PlainLink) → losing_link n [] link ≡ link
link_none n link = by (producer_node link == n)
  where
    by : (b : Bool) → (if b then record link { server = losing_end [] link.server } else link) ≡ link
    by true = ap (λ s. record link { server = s }) (end_none link.server)
    by false = refl

map_next : (n : ℕ) (one : Yielded) (more : List Yielded) (links : List PlainLink) → map (losing_link n more) (links_ended n one.vb one.ended links) ≡ map (losing_link n (one ∷ more)) links
map_next n one more [] = refl
map_next n one more (link ∷ links) = λ i. link_next n one more link i ∷ map_next n one more links i

map_none : (n : ℕ) (links : List PlainLink) → map (losing_link n []) links ≡ links
map_none n [] = refl
map_none n (link ∷ links) = λ i. link_none n link i ∷ map_none n links i

-- and each link whose producer is there
pub links_lose : (n : ℕ) (given : List Yielded) (links : List PlainLink) → links_given n given links ≡ map (losing_link n given) links
links_lose n [] links = sym (map_none n links)
links_lose n (one ∷ more) links = links_lose n more (links_ended n one.vb one.ended links) ∙ map_next n one more links

-- the world once vBuckets were given up, and everyone is told
pub gone_world : (link : PlainLink) (node : PlainNode) (states : States) (gave : GiveResult) (w : PlainWorld) → let n = producer_node link in with_given n gave.given (with_gone link node states gave.peer w)
    ≡ with_links (with_node_at w n (losing_node gave.given states node)) (map (losing_link n gave.given) (row_put link_number (link_number link) (with_end link gave.peer) w.links))
gone_world link node states gave w =
    let n = producer_node link in
    let links = row_put link_number (link_number link) (with_end link gave.peer) w.links in
    given_world (with_links w links) n gave.given (with_states node states)
    ∙ (λ i. with_links (with_node_at w n (clients_lose gave.given (with_states node states) i)) (links_lose n gave.given links i))

-- a link keeps its number
losing_keeps : (n : ℕ) (given : List Yielded) (link : PlainLink) → link_number (losing_link n given link) ≡ link_number link
losing_keeps n given link = by (producer_node link == n)
  where
    by : (b : Bool) → link_number (if b then record link { server = losing_end given link.server } else link) ≡ link_number link
    by true = refl
    by false = refl

-- ---- a producer that gave vBuckets up

abbrev nothing : PlainProducer → Yields
nothing end = record { end = end; yielded = [] }

abbrev given_by : ℕ → PlainProducer → Bool → Prog Yields
given_by frames end b = if nat_lt 0 frames && b then all_given end else Done (nothing end)

given_is : (frames : ℕ) (end : PlainProducer) → given_up frames end ≡ given_by frames end (lets_through end)
unfolding given_up
given_is frames end = refl

all_given_leave : (end : PlainProducer) (states : States) → (after (all_given end) states).1.end ≡ record end { streams = (after (all_given end) states).1.end.streams }
all_given_leave end states =
    let came = after (each one_given end.streams none_given) states in
    let is : after (all_given end) states ≡ (came.0, given_of end came.1) = after_bind (each one_given end.streams none_given) (λ g. Done (given_of end g)) states in
    ap (λ (x : States × Yields). x.1.end) is ∙ sym (ap (λ (x : States × Yields). record end { streams = x.1.end.streams }) is)

abbrev ButStreams : PlainProducer → Yields → Type 0
ButStreams end y = y.end ≡ record end { streams = y.end.streams }

-- it is the old one but for its streams
pub given_leave : (frames : ℕ) (end : PlainProducer) (states : States) → (after (given_up frames end) states).1.end ≡ record end { streams = (after (given_up frames end) states).1.end.streams }
given_leave frames end states = subst (λ p. ButStreams end (after p states).1) (sym (given_is frames end)) (by (nat_lt 0 frames && lets_through end))
  where
    by : (b : Bool) → ButStreams end (after (if b then all_given end else Done (nothing end)) states).1
    by true = all_given_leave end states
    by false = refl

pub peer_gave : (frames : ℕ) (peer : PlainPeer) (states : States) → after (peer_gives_up frames peer) states ≡ ((after (given_up frames peer.producer) states).0, give_result peer.heard (after (given_up frames peer.producer) states).1)
peer_gave frames peer states = after_bind (given_up frames peer.producer) (λ yields. Done (give_result peer.heard yields)) states

-- and so is its peer
pub peer_leaves : (frames : ℕ) (peer : PlainPeer) (states : States) → let left = (after (peer_gives_up frames peer) states).1.peer in left ≡ record peer { producer = record peer.producer { streams = left.producer.streams } }
peer_leaves frames peer states =
    let is = peer_gave frames peer states in
    ap (λ (x : States × GiveResult). x.1.peer) is ∙ ap (λ e. record { heard = peer.heard; producer = e }) (given_leave frames peer.producer states)
    ∙ sym (ap (λ (x : States × GiveResult). record peer { producer = record peer.producer { streams = x.1.peer.producer.streams } }) is)

-- ---- where nothing is given up

not_due : (s : PlainStream) → (IsDue s → ⊥) → is_due s ≡ false
not_due s never = by (is_due s) refl
  where
    by : (b : Bool) → is_due s ≡ b → is_due s ≡ false
    by true e = absurd (never (due s e))
    by false e = e

abbrev one_at : PlainStream → Given → Bool → Prog Given
one_at s g b = bind (if b then Call s.vb (call.Yield s.id) (λ reply. Done (behind_yield (told_as s.vb reply) s, told_as s.vb reply)) else Done (s, None)) (λ x. Done (with_stream g x))

-- a stream that is not due has no turn
one_stays : (s : PlainStream) (g : Given) → (IsDue s → ⊥) → one_given s g ≡ Done (record { streams = g.streams ++ s ∷ []; yielded = g.yielded })
one_stays s g none = ap (one_at s g) (not_due s none)

each_stays : (ss : List PlainStream) (g : Given) → Each (λ s. IsDue s → ⊥) ss → fold (next_of one_given) (Done g) ss ≡ Done (record { streams = g.streams ++ ss; yielded = g.yielded })
each_stays [] g none = ap (λ xs. Done (record { streams = xs; yielded = g.yielded })) (sym (append-nil g.streams))
each_stays (s ∷ ss) g none =
    ap (λ p. fold (next_of one_given) p ss) (one_stays s g none.0) ∙ each_stays ss (record { streams = g.streams ++ s ∷ []; yielded = g.yielded }) none.1
    ∙ ap (λ xs. Done (record { streams = xs; yielded = g.yielded })) (append_assoc g.streams (s ∷ []) ss)

all_stay : (end : PlainProducer) → Each (λ s. IsDue s → ⊥) end.streams → all_given end ≡ Done (nothing end)
all_stay end none = ap (λ p. bind p (λ g. Done (given_of end g))) (each_stays end.streams none_given none)

stays_given : (frames : ℕ) (end : PlainProducer) → Each (λ s. IsDue s → ⊥) end.streams → given_up frames end ≡ Done (nothing end)
stays_given frames end none = given_is frames end ∙ by (nat_lt 0 frames && lets_through end)
  where
    by : (b : Bool) → (if b then all_given end else Done (nothing end)) ≡ Done (nothing end)
    by true = all_stay end none
    by false = refl

held_back : (frames : ℕ) (end : PlainProducer) → IsShut end.window → given_up frames end ≡ Done (nothing end)
held_back frames end shut = given_is frames end ∙ ap (given_by frames end) (closed (lets_through end) refl) ∙ by (nat_lt 0 frames)
  where
    closed : (b : Bool) → lets_through end ≡ b → lets_through end ≡ false
    closed true e = absurd (not_shut end e shut)
    closed false e = e

    by : (b : Bool) → (if b && false then all_given end else Done (nothing end)) ≡ Done (nothing end)
    by true = refl
    by false = refl

none_asked : (frames : ℕ) (end : PlainProducer) → frames ≡ 0 → given_up frames end ≡ Done (nothing end)
none_asked frames end none = given_is frames end ∙ ap (λ k. given_by k end (lets_through end)) none

module _ (frames : ℕ) (link : PlainLink) where
  gives_none : GivesNothing frames link → given_up frames link.server ≡ Done (nothing link.server)
  gives_none (inl none) = none_asked frames link.server none
  gives_none (inr (inl shut)) = held_back frames link.server shut
  gives_none (inr (inr none)) = stays_given frames link.server none

  -- then its producer gives nothing up, and its vBuckets stay
  pub peer_stays : GivesNothing frames link → (states : States) → after (peer_gives_up frames (peer_of link)) states ≡ (states, record { peer = peer_of link; given = [] })
  peer_stays none states = ap (λ p. after (bind p (λ (y : Yields). Done (give_result link.up_heard y))) states) (gives_none none)

  module _ (w : PlainWorld) (l : ℕ) (there : row_at link_number l w.links ≡ Some link) where
    number : link_number link ≡ l
    number = row_number link_number l w.links link there

    gone_none : (node : PlainNode) → w.nodes (producer_node link) ≡ Some node → with_gone link node node.vbs (peer_of link) w ≡ w
    gone_none node made = λ i. record { nodes = λ m. same m (m == producer_node link) refl i; uuids = w.uuids; links = links i }
      where
        same : (m : ℕ) (b : Bool) → (m == producer_node link) ≡ b → (if b then Some node else w.nodes m) ≡ w.nodes m
        same m true e = sym (ap w.nodes (eqb-true m (producer_node link) e) ∙ made)
        same m false e = refl

        links : row_put link_number (link_number link) link w.links ≡ w.links
        links = ap (λ k. row_put link_number k link w.links) number ∙ put_same link_number l w.links link there

    alone_at : GivesNothing frames link → (o : Option PlainNode) → w.nodes (producer_node link) ≡ o → gives_at frames link w o ≡ (w, done [])
    alone_at none None made = refl
    alone_at none (Some node) made =
        ap (gone_told link node w) (peer_stays none node.vbs) ∙ none_posted (producer_node link) (with_gone link node node.vbs (peer_of link) w) (done []) ∙ ap (λ (x : PlainWorld). (x, done [])) (gone_none node made)

    -- and the pump puts its frames alone
    pub pump_alone : GivesNothing frames link → pump_step w l frames ≡ on_link w l producer_node (pump_at frames)
    pump_alone none = ap (pump_outcome w l frames) there ∙ ap (put_behind l frames) (alone_at none (w.nodes (producer_node link)) refl)

    -- ---- a pump, by what it gave up

    module _ (node : PlainNode) (made : w.nodes (producer_node link) ≡ Some node) (states : States) (gave : GiveResult) (gives : after (peer_gives_up frames (peer_of link)) node.vbs ≡ (states, gave)) where
      abbrev n : ℕ
      n = producer_node link

      -- the node where its clients lost streams, and what the posts make of it
      abbrev pub lost : PlainNode
      lost = losing_node gave.given states node

      abbrev pub posted : PlainNode × List Event
      posted = all_posted (flat_map resolved_in gave.given) lost

      -- the link's producer where it lost streams as well
      abbrev pub end_lost : PlainPeer
      end_lost = record gave.peer { producer = losing_end gave.given gave.peer.producer }

      -- the links that lost streams
      abbrev pub links_lost : List PlainLink
      links_lost = map (losing_link n gave.given) (row_put link_number l (with_end link gave.peer) w.links)

      -- the world where frames are put, and what was told before
      abbrev pub given_first : Outcome
      given_first = (with_links (with_node_at w n posted.0) links_lost, record { events = map (dead_line n) gave.given ++ posted.1; answer = answer.Ok })

      once : (b : Bool) (m : ℕ) → (if b then Some posted.0 else if b then Some lost else w.nodes m) ≡ (if b then Some posted.0 else w.nodes m)
      once true m = refl
      once false m = refl

      gives_is : gives_at frames link w (w.nodes n) ≡ given_first
      gives_is =
          let links = map (losing_link n gave.given) (row_put link_number (link_number link) (with_end link gave.peer) w.links) in
          let w1 = with_links (with_node_at w n lost) links in
          ap (gives_at frames link w) made ∙ ap (gone_told link node w) gives
          ∙ ap (λ x. posted_in n (flat_map resolved_in gave.given) (x, done (map (dead_line n) gave.given))) (gone_world link node states gave w)
          ∙ ap (λ b. posted_at n (flat_map resolved_in gave.given) w1 (done (map (dead_line n) gave.given)) (if b then Some lost else w.nodes n)) (eq-eqb n n refl)
          ∙ (λ i. (record { nodes = λ m. once (m == n) m i; uuids = w.uuids; links = map (losing_link n gave.given) (row_put link_number (number i) (with_end link gave.peer) w.links) }, record { events = map (dead_line n) gave.given ++ posted.1; answer = answer.Ok }))

      pub pump_given : pump_step w l frames ≡ put_behind l frames given_first
      pump_given = ap (pump_outcome w l frames) there ∙ ap (put_behind l frames) gives_is

      -- the link as it is found then
      abbrev pub link_lost : PlainLink
      link_lost = with_end link end_lost

      desk_kept : gave.peer.producer.desk ≡ link.server.desk
      desk_kept =
          let x = after (peer_gives_up frames (peer_of link)) node.vbs in
          ap (λ (y : States × GiveResult). y.1.peer.producer.desk) (sym gives) ∙ ap (λ (p : PlainPeer). p.producer.desk) (peer_leaves frames (peer_of link) node.vbs)

      loses_own : losing_link n gave.given (with_end link gave.peer) ≡ link_lost
      loses_own = ap (λ b. if b then link_lost else with_end link gave.peer) (eq-eqb (producer_node (with_end link gave.peer)) n (ap (λ (d : Desk). d.node) desk_kept))

      found_lost : row_at link_number l links_lost ≡ Some link_lost
      found_lost =
          map_found link_number l (losing_link n gave.given) (losing_keeps n gave.given) (row_put link_number l (with_end link gave.peer) w.links) (with_end link gave.peer)
          (put_found link_number l w.links link (with_end link gave.peer) there number) ∙ ap Some loses_own

      -- what the frames that are put make of it all
      module _ (left : States) (put : PullResult) (puts : after_reads (peer_pulled frames end_lost) posted.0.shelves posted.0.vbs ≡ (left, put)) where
        abbrev pub links_put : List PlainLink
        links_put = row_put link_number l (pumped_link link put) (map (losing_link n gave.given) w.links)

        abbrev pub put_last : Outcome
        put_last = (with_links (with_node_at w n (with_states posted.0 left)) links_put, record { events = (map (dead_line n) gave.given ++ posted.1) ++ put.events; answer = put.answer })

        again : (b : Bool) (m : ℕ) → (if b then Some (with_states posted.0 left) else if b then Some posted.0 else w.nodes m) ≡ (if b then Some (with_states posted.0 left) else w.nodes m)
        again true m = refl
        again false m = refl

        nodes_put : (m : ℕ) → (if m == n then Some (with_states posted.0 left) else given_first.0.nodes m) ≡ (if m == n then Some (with_states posted.0 left) else w.nodes m)
        nodes_put m = again (m == n) m

        links_are : row_put link_number (link_number link_lost) (pumped_link link put) links_lost ≡ links_put
        links_are = ap (λ k. row_put link_number k (pumped_link link put) links_lost) number
            ∙ put_over link_number l (losing_link n gave.given) (losing_keeps n gave.given) w.links (with_end link gave.peer) (pumped_link link put) number

        abbrev put_at : Option PlainNode → Outcome
        put_at o = with_link link_lost (node_outcome given_first.0 (producer_node link_lost) (Some link_lost, refusal cause.UnknownNode) o (pump_at frames link_lost))

        pump_lost : on_link given_first.0 l producer_node (pump_at frames) ≡ (with_links (with_node_at w n (with_states posted.0 left)) links_put, record { events = put.events; answer = put.answer })
        pump_lost =
            let at_n : producer_node link_lost ≡ n = ap (λ (d : Desk). d.node) desk_kept in
            ap (link_outcome given_first.0 l producer_node (pump_at frames)) found_lost
            ∙ ap put_at (ap given_first.0.nodes at_n ∙ ap (λ b. if b then Some posted.0 else w.nodes n) (eq-eqb n n refl))
            ∙ ap (λ (x : PlainNode × LinkResult). with_link link_lost (with_node_at given_first.0 (producer_node link_lost) x.0, x.1)) (pump_is frames link_lost posted.0)
            ∙ ap (λ (x : States × PullResult). with_link link_lost (with_node_at given_first.0 (producer_node link_lost) (with_states posted.0 x.0), (Some (pumped_link link x.1), record { events = x.1.events; answer = x.1.answer }))) puts
            ∙ ap (λ m. with_link link_lost (with_node_at given_first.0 m (with_states posted.0 left), (Some (pumped_link link put), record { events = put.events; answer = put.answer }))) at_n
            ∙ (λ i. (record { nodes = λ m. nodes_put m i; uuids = w.uuids; links = links_are i }, record { events = put.events; answer = put.answer }))

        pub pump_puts : pump_step w l frames ≡ put_last
        pump_puts = pump_given ∙ ap (told_behind given_first.1.events) pump_lost
