-- the streams of vBuckets are those of open links and of clients' connections, and the other way round, after every script
use Rattle.std.specs.Prelude.{◌≡◌, ◌≢◌, ◌∷◌, ◌⊎◌, ◌==◌, if◌then◌else◌}
use Rattle.transcript_law.proofs.Words.{ℕ, true, false, List, [], refl, ap, sym, ◌∙◌, subst, inl, inr, ⊎_elim, Option, Some, None, not, eqb-true, All-head, All-tail, ScriptLine, VerbFits, ScriptFits, Span, Stream, Plain, plain_step, stream_at}
use Rattle.transcript_law.proofs.Words.{Cluster, PlainNode, PlainWorld, PlainLink, link_number, producer_node, consumer_node, vb_in, with_branches, verb_step, world_step, empty_world, Chronicle, empty_chronicle, world_of}
use Rattle.transcript_law.proofs.{invariant.Agreement.{Agrees, AgreesIn, FollowsBy, IsLink, idle, is_down, is_running, vb_of}, invariant.Carried.{link_kept, numbers, stream_opened}, disks.Disks.{power_in}, invariant.Feeding.{AllFed, AllKept}, invariant.LinkRows.{found_is_link, links_apart}, invariant.Numbered.{numbered, numbers_of}}
use Rattle.transcript_law.proofs.{invariant.Ranged.{IsRanged, start_ranged}, Runs.{Along, along, along_start, row_of}, verbs.Rows.{Row}}
use Rattle.{takeover.specs.declared.take_over.TakeStep.{TakeStep}, vb_calls.specs.Following.{is_follower}, vb_types.specs.declared.role.Role.{Role}}
use Rattle.transcript_law.specs.Feeding.{FollowsOrOwns, Has, HasFed, HasIn, HasOpen, HasStream, IsOf, IsOfClient, IsOpenAt, KnowsIn, LinksAreFed, StreamsAreFed, StreamsAreKnown, client_in}
use Rattle.vb_calls.specs.Streams.{take_from, take_to}
use Rattle.vb_calls.specs.declared.calls.VbAnswer.TheVariants as answer
use Rattle.vb_calls.specs.declared.calls.VbCall.TheVariants as call
use Rattle.vbucket.{proofs.Asks.{not_open}, proofs.Closing.{places}, specs.Asks.{IsOpen}}
use Rattle.transcript_law.proofs.invariant.{ClientsTold.{ClientAgrees, KeptIs}, OpenStreams.{Among}}
use Rattle.transcript_law.specs.ClientFrames.{is_closed_by}
use Rattle.transcript_law.specs.StreamsTold.{ClientStream}
use Rattle.dcp_producer.specs.Producers.{PlainStream, stream_at as kept_at}
use Rattle.node_core.specs.Clients.{PlainClient}
use Rattle.vb_events.specs.declared.event.StreamName.{StreamName}
use Rattle.vb_events.specs.declared.event.StreamName.TheVariants as name
use Rattle.transcript_law.specs.Chronicles.{after_group, at_line}
use Rattle.transcript_law.specs.Prefixes.{world_after}
use Rattle.node_world.specs.Worlds.{is_up}
use Rattle.transcript_law.specs.LawfulAnswers.{IsStill}
use Rattle.transcript_law.proofs.invariant.{Begun.{ServesOpen}, ClientWorlds.{ConnsAre, start_conns}, Clients.{line_heard}}

found_has : (id : ℕ) (ss : List Stream) (s : Stream) → stream_at id ss ≡ Some s → Has ss id
found_has id [] s e = cc
found_has id (x ∷ xs) s e = elim (x.id == id) as (λ b. (x.id == id) ≡ b → (if b then Some x else stream_at id xs) ≡ Some s → (x.id ≡ id) ⊎ Has xs id)
    [ true ↦ λ t q. inl (eqb-true x.id id t) | false ↦ λ t q. inr (found_has id xs s q) ] refl e

-- an open stream of a client's is at its vBucket
has_among : (v id : ℕ) (streams : List PlainStream) → HasOpen v id streams → (stream : PlainStream) × Among stream streams × IsOpenAt v id stream
has_among v id [] h = absurd h
has_among v id (s ∷ more) (inl o) = (s, inl refl, o)
has_among v id (s ∷ more) (inr j) = let (t, i, o) = has_among v id more j in (t, inr i, o)

some_same : (s t : PlainStream) → Some s ≡ Some t → s ≡ t
some_same s t e = cc

client_opened : (w : PlainWorld) (r : Chronicle) (n c : ℕ) (client : PlainClient) → ClientAgrees w r n c client → (v id : ℕ) → HasOpen v id client.producer.streams → HasStream w n v id
client_opened w r n c client a v id h =
    let (stream, i, o) = has_among v id client.producer.streams h in
    by stream o ((r.clients_at n c).streams v) (kept_at v client.producer.streams) (ap (λ u. kept_at u client.producer.streams) (sym o.0) ∙ a.one stream i) (a.streams v)
  where
    by : (stream : PlainStream) → IsOpenAt v id stream → (g : Option ClientStream) (kept : Option PlainStream) → kept ≡ Some stream → KeptIs r.tree (r.branch_at n v) (r.held n v) (vb_of w n v) (is_closed_by a.heard.served v) g kept → HasStream w n v id
    by stream o None None e k = cc
    by stream o (Some g) None e k = cc
    by stream o None (Some s) e k = absurd k
    by stream o (Some g) (Some s) e k =
        let same : s ≡ stream = some_same s stream e in
        let x = k.1.opens (ap (λ t. t.ended) same ∙ o.2) in
        subst (λ p. HasIn p id) (sym x.there) (subst (Has x.vb.streams) (ap (λ t. t.id) same ∙ o.1) (found_has s.id x.vb.streams x.stream x.opened))

-- nodes that run
running : (o : Option PlainNode) → is_running (power_in o) ≡ true → is_up o ≡ true
running None e = cc
running (Some node) e = e

up_of : (o : Option PlainNode) (v : ℕ) (vb : Plain) → vb_in o v ≡ Some vb → is_down (power_in o) ≡ false → is_up o ≡ true
up_of None v vb there e = cc
up_of (Some node) v vb there e = ap not e

module _ (w : PlainWorld) (r : Chronicle) (c : Cluster) (a : AgreesIn idle w r c) where
  -- an open link's stream is there
  there : (link : PlainLink) → IsLink link w.links → (n v id : ℕ) → IsOf n v id link → HasStream w n v id × (link.consumer.dialed.vb ≡ v)
  there link i n v id of =
      let (p, is, feeds, s, opened, own) = stream_opened w r c link [] [] (a.links link i) v id of.stream in (
        subst (λ m. HasIn (vb_of w m v) id) of.producer (subst (λ q. HasIn (vb_of w (producer_node link) q) id) own (subst (λ x. HasIn x id) (sym is) (found_has id p.streams s opened))),
        own,
      )

  -- the numbers of the streams of links
  pub all_kept : AllKept w
  all_kept link i = link_kept w r c link [] [] (a.links link i)

  -- a node of this stream
  node_has : (n v id : ℕ) → HasStream w n v id → (node : PlainNode) × (w.nodes n ≡ Some node) × HasIn (node.vbs v) id
  node_has n v id h = by (w.nodes n) refl h
    where
      by : (o : Option PlainNode) → w.nodes n ≡ o → HasIn (vb_in o v) id → (node : PlainNode) × (w.nodes n ≡ Some node) × HasIn (node.vbs v) id
      by None e h = absurd h
      by (Some node) e h = (node, e, h)

  -- a client's stream is there
  client_there : (n c v id : ℕ) → IsOfClient w n c v id → HasStream w n v id
  client_there n c v id (client, is, has) = client_opened w r n c client (a.clients.each n c client is) v id has

  pub streams_are_fed : AllFed w → StreamsAreFed w
  streams_are_fed fed = record {
    fed = λ n v id h. let (node, is, has) = node_has n v id h in
        ⊎_elim (λ (x, i, of). (name.Link (link_number x), (x, numbered w.links x (numbers_of w.links a.differ) i, of)))
        (λ (c, client, there, own). (name.Client n c, (refl, (client, ap (λ o. client_in o c) is ∙ there, own)))) ((fed n node is).owned v id has);
    opened = opened;
    dialed = λ l n v id link is of. (there link (found_is_link l w.links link is).0 n v id of).1;
    apart = apart;
  }
    where
      opened : (who : StreamName) (n v id : ℕ) → HasFed w who n v id → HasStream w n v id
      opened (name.Link l) n v id (link, is, of) = (there link (found_is_link l w.links link is).0 n v id of).0
      opened (name.Client m c) n v id (same, of) = client_there n c v id of

      apart : (who other : StreamName) (n v id : ℕ) → HasFed w who n v id → HasFed w other n v id → who ≡ other
      apart (name.Client m c) other n v id (same, of) has = (λ i. name.Client (same i) c) ∙ sym (a.clients.apart n c v id other (refl, of) has)
      apart (name.Link l) (name.Client m c) n v id has (same, of) = a.clients.apart n c v id (name.Link l) (refl, of) has ∙ λ i. name.Client (sym same i) c
      apart (name.Link l) (name.Link k) n v id (link, is, of) (other, has, by) =
          let p = found_is_link l w.links link is in let q = found_is_link k w.links other has in
          ⊎_elim (λ e. ap name.Link e) (λ ne. absurd ((links_apart link other w.links a.differ p.0 q.0 (λ e. ne (sym p.1 ∙ e ∙ q.1))).stream v id of.stream by.stream (of.producer ∙ sym by.producer))) (numbers l k)

  -- by what its consumer was told last
  follows_or_owns : (link : PlainLink) (role : Role) (last : Option TakeStep) → link.consumer.taking.last ≡ last → FollowsBy last role → FollowsOrOwns role link
  follows_or_owns link role None e f = inl (f, λ own. let z : None ≡ Some TakeStep.Own = sym e ∙ own in cc)
  follows_or_owns link role (Some TakeStep.Pend) e f = inl (ap is_follower f, λ own. let z : ◌≡◌ {A = Option TakeStep} (Some TakeStep.Pend) (Some TakeStep.Own) = sym e ∙ own in cc)
  follows_or_owns link role (Some TakeStep.Own) e f = inr (f, e)

  pub links_are_fed : LinksAreFed w
  links_are_fed = record {
    number = λ l link is. (found_is_link l w.links link is).1;
    follows = λ l link is. let la = a.links link (found_is_link l w.links link is).0 in (la.follower, la.follower_is, follows_or_owns link la.follower.role link.consumer.taking.last refl la.follows);
    runs = λ l link is.
        let i = (found_is_link l w.links link is).0 in let la = a.links link i in let e = a.ends link i in
        (up_of (w.nodes (consumer_node link)) link.consumer.dialed.vb la.follower la.follower_is e.consumer, running (w.nodes (producer_node link)) e.producer);
    apart = λ l k link other is has e f.
        let p = found_is_link l w.links link is in let q = found_is_link k w.links other has in
        ⊎_elim (λ s. s) (λ ne. absurd ((links_apart link other w.links a.differ p.0 q.0 (λ s. ne (sym p.1 ∙ s ∙ q.1))).follower e f)) (numbers l k);
  }

-- after more lines
linked_from : (w : PlainWorld) (r : Chronicle) (script : List ScriptLine) → ScriptFits script → Along w r → AllFed w → StreamsAreFed (world_after w script) × LinksAreFed (world_after w script)
unfolding world_step
linked_from w r [] fits x fed = (streams_are_fed w r x.agrees.0 x.agrees.1 fed, links_are_fed w r x.agrees.0 x.agrees.1)
linked_from w r (line ∷ lines) fits x fed =
    let fit = All-head (λ (y : ScriptLine). VerbFits y.verb) line lines fits in let outcome = verb_step w line.line line.verb in let row : Row w line.verb outcome = row_of w line.line line.verb in
    linked_from (with_branches outcome.1.events outcome.0) (after_group (at_line r line.line) line.verb outcome.1.events outcome.1.answer) lines (All-tail (λ (y : ScriptLine). VerbFits y.verb) line lines fits) (along w r line fit x)
    (row.fed r x.ranged x.calm x.handed x.agrees (record { numbers = numbers_of w.links x.agrees.1.differ; fed = fed }) (all_kept w r x.agrees.0 x.agrees.1))

-- after a script
pub streams_linked : (script : List ScriptLine) → ScriptFits script → StreamsAreFed (world_of script) × LinksAreFed (world_of script)
streams_linked script fits = linked_from empty_world empty_chronicle script fits along_start (λ n node is. cc)

-- ---- what is there is known

has_open : (id : ℕ) (ss : List Stream) → Has ss id → IsOpen id ss
has_open id [] h = h
has_open id (s ∷ ss) (inl e) = inl e
has_open id (s ∷ ss) (inr h) = inr (has_open id ss h)

taken_somehow : (x : Option Span) (s : Stream) (vb : Plain) → (take_to x s vb).1.answer ≢ answer.Absent
taken_somehow None s vb is = cc
taken_somehow (Some w) s vb is = cc

take_known : (vb : Plain) (id : ℕ) → IsOpen id vb.streams → (plain_step vb (call.Take id)).1.answer ≢ answer.Absent
take_known vb id there = by (stream_at id vb.streams) refl
  where
    by : (o : Option Stream) → stream_at id vb.streams ≡ o → (take_from o vb).1.answer ≢ answer.Absent
    by None e = absurd (not_open id vb.streams e there)
    by (Some s) e = taken_somehow _ s vb

knows_in : (o : Option Plain) (id : ℕ) → HasIn o id → KnowsIn o id
knows_in None id h = h
knows_in (Some vb) id h = let there : IsOpen id vb.streams = has_open id vb.streams h in (λ is. (places vb id).absent.0 is there, take_known vb id there)

pub streams_known : (script : List ScriptLine) → ScriptFits script → StreamsAreKnown (world_of script)
streams_known script fits = λ who n v id has. knows_in (vb_in ((world_of script).nodes n) v) id ((streams_linked script fits).0.opened who n v id has)
