-- the streams of a node's vBuckets are others' or its clients', also after all that it does for its clients
use Rattle.std.specs.Prelude.{◌≡◌, ◌≤◌, ◌+◌, ◌*◌, ◌^◌, ◌∷◌, ◌⊎◌, ◌==◌, if◌then◌else◌, ℕ, Bool, true, false, List, [], Option, Some, None, is_some}
use Rattle.transcript_law.proofs.Words.{arith, refl, ap, sym, ◌∙◌, subst, inl, inr, ⊎_elim, eqb-true, eqb-false, All-nil, States, after, Frame}
use Rattle.transcript_law.proofs.invariant.{OpenStreams.{AreKept}, OpenPulls.{puts_keep}, Openings.{AreOwned, Holds, fewer, frame_keeps}, Quiets.{frame_quiet, same_call}, Unopened.{NoNew, OpensNone, after_new, closed_here, step_new}}
use Rattle.transcript_law.specs.Feeding.{HasIn, HasOpen}
use Rattle.client_session.proofs.Keeping.{front_of}
use Rattle.client_session.specs.Serving.{Served, frame_handled}
use Rattle.dcp_producer.specs.Ending.{end_closed, streams_closed}
use Rattle.dcp_producer.specs.Producers.{PlainProducer, PlainStream, begun}
use Rattle.dcp_producer.specs.Pulling.{frames_put}
use Rattle.node_core.proofs.Handlings.{fed_ends, posted_ends}
use Rattle.node_core.specs.Calls.{left_open}
use Rattle.node_core.specs.Clients.{ClientPulled, Handling, PlainClient, client_fed, client_posted, client_pull, client_pulled, new_client}
use Rattle.node_world.specs.Arms.{PlainNode}
use Rattle.node_world.specs.Nodes.{all_posted, awaiting, bytes_at, bytes_if, client_at, done, refusal, with_client, hang_at, hung_if, posted, posted_if, posted_to, pull_at, pull_if, with_conn}
use Rattle.node_world.specs.declared.script_node.TheConstants.{MAX_CLIENTS}
use Rattle.node_world.specs.declared.told.Told.{Told}
use Rattle.vb_calls.specs.Programs.{Call}
use Rattle.vb_calls.specs.States.{states_step}
use Rattle.vb_calls.specs.declared.calls.Resolved.{Resolved}
use Rattle.vb_events.specs.declared.event.Cause.TheVariants as cause
use Rattle.vb_events.specs.declared.event.Event.{Event}
use Rattle.vb_calls.specs.declared.calls.VbCall.TheVariants as call
use Rattle.transcript_law.proofs.lines.Reads.{pull_is}
use Rattle.vb_calls.proofs.JobReadings.{after_reads_bind}
use Rattle.vb_calls.specs.Jobs.{Ended, after_reads}
use Rattle.vb_calls.specs.Shelves.{Shelves}

-- the connections of a node
abbrev pub Conns : Type 0
Conns = ℕ → Option PlainClient

-- one of these connections has the stream
abbrev pub ClientHas : Conns → ℕ → ℕ → Type 0
ClientHas clients v id = (c : ℕ) × (client : PlainClient) × (clients c ≡ Some client) × HasOpen v id client.producer.streams

-- each stream of the vBuckets is others', or one of these connections', whose streams are kept
pub record NodeFed (others : ℕ → ℕ → Type 0) (vbs : States) (clients : Conns) : Type 0 where
  pub owned : (v id : ℕ) → HasIn (vbs v) id → others v id ⊎ ClientHas clients v id
  pub kept : (c : ℕ) (client : PlainClient) → clients c ≡ Some client → AreKept client.producer

-- whoever the others are, it stays so
abbrev pub Keeps : PlainNode → PlainNode → Type 1
Keeps node node' = (others : ℕ → ℕ → Type 0) → NodeFed others node.vbs node.clients → NodeFed others node'.vbs node'.clients

pub keeps_all : (node mid node' : PlainNode) → Keeps node mid → Keeps mid node' → Keeps node node'
keeps_all node mid node' first next others fed = next others (first others fed)

-- vBuckets with no stream more, and the same connections
pub less_keeps : (node node' : PlainNode) → NoNew node.vbs node'.vbs → ((c : ℕ) → node'.clients c ≡ node.clients c) → Keeps node node'
less_keeps node node' less same others fed = record {
  owned = λ v id h. ⊎_elim (λ o. inl o) (λ (c, client, is, has). inr (c, client, same c ∙ is, has)) (fed.owned v id (less v id h));
  kept = λ c client is. fed.kept c client (sym (same c) ∙ is);
}

-- no stream, and no connection
pub none_fed : (others : ℕ → ℕ → Type 0) (vbs : States) (clients : Conns) → ((v id : ℕ) → HasIn (vbs v) id → ⊥) → ((c : ℕ) → clients c ≡ None) → NodeFed others vbs clients
none_fed others vbs clients none gone = record { owned = λ v id h. absurd (none v id h); kept = λ c client is. let z : None ≡ Some client = sym (gone c) ∙ is in cc }

-- open streams that are closed
pub closed_none : (streams : List PlainStream) (states : States) (v id : ℕ) → HasIn ((after (streams_closed streams) states).0 v) id → HasIn (states v) id × (HasOpen v id streams → ⊥)
closed_none [] states v id = λ h. (h, λ o. o)
closed_none (stream ∷ more) states v id = by (λ st. closed_none more st v id) stream.ended refl
  where
    by : ((st : States) → HasIn ((after (streams_closed more) st).0 v) id → HasIn (st v) id × (HasOpen v id more → ⊥)) → (b : Bool) → stream.ended ≡ b → HasIn ((after (if b then streams_closed more else Call stream.vb (call.CloseStream stream.id) (λ reply. streams_closed more)) states).0 v) id
        → HasIn (states v) id × (HasOpen v id (stream ∷ more) → ⊥)
    by rest true e h = let p = rest states h in (p.0, λ o. ⊎_elim (λ q. let z : true ≡ false = sym e ∙ q.2 in cc) p.1 o)
    by rest false e h =
        let mid : States = (states_step states stream.vb (call.CloseStream stream.id)).0 in let p = rest mid h in (
          step_new states stream.vb (call.CloseStream stream.id) tt v id p.0,
          λ o. ⊎_elim (λ q. closed_here states stream.vb stream.id (subst (HasIn (mid stream.vb)) (sym q.1) (subst (λ u. HasIn (mid u) id) (sym q.0) p.0))) p.1 o,
        )

-- ---- one connection of a node

module _ (others : ℕ → ℕ → Type 0) (vbs : States) (clients : Conns) (c : ℕ) (fed : NodeFed others vbs clients) where
  -- of another one
  abbrev OfOthers : ℕ → ℕ → Type 0
  OfOthers v id = others v id ⊎ ((d : ℕ) × (client : PlainClient) × (d ≡ c → ⊥) × (clients d ≡ Some client) × HasOpen v id client.producer.streams)

  -- this one as it is now
  mine : (client : PlainClient) → clients c ≡ Some client → Holds OfOthers vbs client.producer
  mine client known = (owned, fed.kept c client known)
    where
      at : (v id d : ℕ) (x : PlainClient) → clients d ≡ Some x → HasOpen v id x.producer.streams → (b : Bool) → (d == c) ≡ b → OfOthers v id ⊎ HasOpen v id client.producer.streams
      at v id d x is has true e = let same : Some x ≡ Some client = sym is ∙ ap clients (eqb-true d c e) ∙ known in inr (subst (λ (o : PlainClient). HasOpen v id o.producer.streams) (by_some same) has)
        where
          by_some : Some x ≡ Some client → x ≡ client
          by_some q = cc
      at v id d x is has false e = inl (inr (d, x, eqb-false d c e, is, has))

      owned : AreOwned OfOthers vbs client.producer.streams
      owned v id h = ⊎_elim (λ o. inl (inl o)) (λ (d, x, is, has). at v id d x is has (d == c) refl) (fed.owned v id h)

  -- the others' connections stay
  others_stay : (o : Option PlainClient) (v id : ℕ) → OfOthers v id → others v id ⊎ ClientHas (with_conn clients c o) v id
  others_stay o v id (inl x) = inl x
  others_stay o v id (inr (d, x, ne, is, has)) = inr (d, x, by (d == c) refl, has)
    where
      by : (b : Bool) → (d == c) ≡ b → (if b then o else clients d) ≡ Some x
      by true e = absurd (ne (eqb-true d c e))
      by false e = is

  kept_with : (o : Option PlainClient) → ((client : PlainClient) → o ≡ Some client → AreKept client.producer) → (d : ℕ) (x : PlainClient) → with_conn clients c o d ≡ Some x → AreKept x.producer
  kept_with o here d x = by (d == c)
    where
      by : (b : Bool) → (if b then o else clients d) ≡ Some x → AreKept x.producer
      by true is = here x is
      by false is = fed.kept d x is

  -- it is this now
  pub with_mine : (states : States) (client : PlainClient) → Holds OfOthers states client.producer → NodeFed others states (with_conn clients c (Some client))
  with_mine states client held = record {
    owned = λ v id h. ⊎_elim (λ o. others_stay (Some client) v id o) (λ has. inr (c, client, here (c == c) refl, has)) (held.0 v id h);
    kept = kept_with (Some client) (λ x is. subst (λ (o : PlainClient). AreKept o.producer) (by_some x is) held.1);
  }
    where
      here : (b : Bool) → (c == c) ≡ b → (if b then Some client else clients c) ≡ Some client
      here true e = refl
      here false e = absurd (eqb-false c c e refl)

      by_some : (x : PlainClient) → Some client ≡ Some x → client ≡ x
      by_some x q = cc

  -- it is over, and its streams are closed
  pub without_mine : (states : States) (producer : PlainProducer) → Holds OfOthers states producer → NodeFed others (after (end_closed producer) states).0 (with_conn clients c None)
  unfolding end_closed
  without_mine states producer held = record {
    owned = λ v id h. let p = closed_none producer.streams states v id h in ⊎_elim (λ o. others_stay None v id o) (λ has. absurd (p.1 has)) (held.0 v id p.0);
    kept = kept_with None (λ x is. cc);
  }

  -- ---- what its client sends

  module _ (clock : ℕ) where
    abbrev P : States × Handling → Type 0
    P x = Holds OfOthers x.0 x.1.client.producer

    abbrev R : States × Handling → Type 0
    R x = NodeFed others x.0 (with_conn clients c (left_open x.1.client))

    framed : (before : List Event) (producer : PlainProducer) (f : Frame) (states : States) (s : Served) → Holds OfOthers states producer → Holds OfOthers (after (frame_handled clock f (front_of f s)) states).0 producer
    framed before producer f states s held = (fewer OfOthers states (after (frame_handled clock f (front_of f s)) states).0 producer.streams (after_new OpensNone same_call (λ a. Unit {0}) (frame_handled clock f (front_of f s)) states (frame_quiet clock f (front_of f s))) held.0, held.1)

    stays : (states : States) (h : Handling) → h.client.session.closed ≡ false → P (states, h) → R (states, h)
    stays states h e held = subst (λ b. NodeFed others states (with_conn clients c (if b then None else Some h.client))) (sym e) (with_mine states h.client held)

    ends : (states : States) (h : Handling) → h.client.session.closed ≡ true → P (states, h) → R ((after (end_closed h.client.producer) states).0, h)
    ends states h e held = subst (λ b. NodeFed others (after (end_closed h.client.producer) states).0 (with_conn clients c (if b then None else Some h.client))) (sym e) (without_mine states h.client.producer held)

    pub fed_kept : (piece : List ℕ) (client : PlainClient) → clients c ≡ Some client → R (after (client_fed clock piece client) vbs)
    fed_kept piece client known =
        fed_ends P clock (λ before producer f states s e held. framed before producer f states s held) (λ before producer fault states s e held. held)
        (λ f states h e held. frame_keeps OfOthers f (begun h.client.producer) states held) R stays ends piece client vbs (mine client known) (mine client known)

    pub posted_kept : (r : Resolved) (client : PlainClient) → clients c ≡ Some client → R (after (client_posted clock r client) vbs)
    posted_kept r client known =
        posted_ends P clock (λ before producer f states s e held. framed before producer f states s held) (λ before producer fault states s e held. held)
        (λ f states h e held. frame_keeps OfOthers f (begun h.client.producer) states held) R stays ends r client vbs (mine client known) (λ a e. mine client known)

  pub pulled_kept : (shelves : Shelves) (frames : ℕ) (client : PlainClient) → clients c ≡ Some client → let x = after_reads (client_pulled frames client) shelves vbs in NodeFed others x.0 (with_conn clients c (Some x.1.client))
  pulled_kept shelves frames client known =
      let held = puts_keep OfOthers shelves frames (begun client.producer) vbs (mine client known) in let put = after_reads (frames_put frames (begun client.producer)) shelves vbs in
      subst (λ (x : States × ClientPulled). NodeFed others x.0 (with_conn clients c (Some x.1.client))) (sym (after_reads_bind (frames_put frames (begun client.producer)) (λ put. Ended (client_pull client.session put)) shelves vbs))
      (with_mine put.0 (client_pull client.session put.1).client held)

-- ---- lines of clients

pub bytes_keeps : (c : ℕ) (bytes : List ℕ) (node : PlainNode) → Keeps node (bytes_at c bytes node).0
bytes_keeps c bytes node others fed = by (node.clients c) refl
  where
    by : (o : Option PlainClient) → node.clients c ≡ o → let x = (bytes_if c bytes node o).0 in NodeFed others x.vbs x.clients
    by None e = fed
    by (Some client) e = fed_kept others node.vbs node.clients c fed node.clock bytes client e

pub pull_keeps : (c frames : ℕ) (node : PlainNode) → Keeps node (pull_at c frames node).0
pull_keeps c frames node others fed = by (node.clients c) refl
  where
    by : (o : Option PlainClient) → node.clients c ≡ o → let x = (pull_if c frames node o).0 in NodeFed others x.vbs x.clients
    by None e = fed
    by (Some client) e = subst (λ (x : PlainNode × Told). NodeFed others x.0.vbs x.0.clients) (sym (pull_is c frames node (Some client))) (pulled_kept others node.vbs node.clients c fed node.shelves frames client e)

pub hang_keeps : (c : ℕ) (node : PlainNode) → Keeps node (hang_at c node).0
hang_keeps c node others fed = by (node.clients c) refl
  where
    by : (o : Option PlainClient) → node.clients c ≡ o → let x = (hung_if c node o).0 in NodeFed others x.vbs x.clients
    by None e = fed
    by (Some client) e = without_mine others node.vbs node.clients c fed node.vbs client.producer (mine others node.vbs node.clients c fed client e)

-- a new connection has no stream
pub client_keeps : (n base c : ℕ) (node : PlainNode) → Keeps node (client_at n base c node).0
client_keeps n base c node others fed = by (node.clients c) refl
  where
    opened : PlainNode × Told
    opened = (with_client node c (Some (new_client (record { node = n; client = c; base = base }))), done [])

    closed : PlainNode × Told
    closed = (node, refusal cause.LinkOpen)

    by : (o : Option PlainClient) → node.clients c ≡ o → let x : PlainNode × Told = if is_some o then closed else opened in NodeFed others x.0.vbs x.0.clients
    by (Some client) e = fed
    by None e = with_mine others node.vbs node.clients c fed node.vbs (new_client (record { node = n; client = c; base = base })) (owned, record { ids = refl; rise = tt; numbered = All-nil (λ (stream : PlainStream). stream.id ≤ base * 2 ^ 32 + 0); turn = omega arith })
      where
        owned : (v id : ℕ) → HasIn (node.vbs v) id → OfOthers others node.vbs node.clients c fed v id ⊎ HasOpen v id []
        owned v id h = ⊎_elim (λ o. inl (inl o)) (λ (d, x, is, has). inl (inr (d, x, (λ q. let z : None ≡ Some x = sym e ∙ ap node.clients (sym q) ∙ is in cc), is, has))) (fed.owned v id h)

-- outcomes that are posted
posted_keeps : (r : Resolved) (node : PlainNode) → Keeps node (posted r node).0
posted_keeps r node others fed = at (awaiting node.clients r.waiter MAX_CLIENTS)
  where
    by : (c : ℕ) (o : Option PlainClient) → node.clients c ≡ o → let x = (posted_if c r node o).0 in NodeFed others x.vbs x.clients
    by c None e = fed
    by c (Some client) e = posted_kept others node.vbs node.clients c fed node.clock r client e

    at : (o : Option ℕ) → let x = (posted_to r node o).0 in NodeFed others x.vbs x.clients
    at None = fed
    at (Some c) = by c (node.clients c) refl

pub posts_keep : (rs : List Resolved) (node : PlainNode) → Keeps node (all_posted rs node).0
posts_keep [] node others fed = fed
posts_keep (r ∷ rs) node others fed = posts_keep rs (posted r node).0 others (posted_keeps r node others fed)
