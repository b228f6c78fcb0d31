-- a client's connection agrees, after one of its streams went on or is over
use Rattle.std.specs.Prelude.{◌≡◌}
use Rattle.transcript_law.proofs.Words.{ℕ, true, false, List, refl, sym, ap, ◌∙◌, subst, inr, ⊎_elim, Option, Some, None, Chronicle, PlainProducer, PlainStream, PlainWorld}
use Rattle.dcp_producer.specs.Producers.{is_open, replaced, stream_at as kept_at, without_id}
use Rattle.node_core.specs.Clients.{PlainClient}
use Rattle.transcript_law.proofs.indexers.{Replacing.{at_here_replaced, at_there_replaced, one_replaced}, Streams.{AreOne, closed_here, closed_there, one_closed}}
use Rattle.transcript_law.proofs.invariant.{Agreement.{vb_of}, Carried.{numbers}, ClientsTold.{AskingIs, ClientAgrees, FlowIs, HeardIs, KeptIs, StreamIs}, OpenStreams.{AreKept, Among, kept_over, kept_went, replaced_ids}}
use Rattle.transcript_law.specs.ClientFrames.{is_closed_by, setup_after}
use Rattle.transcript_law.specs.StreamsTold.{ClientKnown, ClientStream}

-- the connection with these streams at its producer, and the turn and the window of this one
abbrev pub with_streams : PlainClient → List PlainStream → PlainProducer → PlainClient
with_streams client streams end = record client { producer = record (client.producer) { streams = streams; turn = end.turn; window = end.window } }

module _ (w w' : PlainWorld) (r r' : Chronicle) (n c : ℕ) (client : PlainClient) (a : ClientAgrees w r n c client) where
  -- what is known of its bytes is the same
  pub record SameHeard (known' : ClientKnown) : Type 0 where
    pub bytes : known'.bytes ≡ (r.clients_at n c).bytes
    pub setup : known'.setup ≡ (r.clients_at n c).setup
    pub told : known'.told ≡ None
    pub opened : known'.opened ≡ (r.clients_at n c).opened
    pub asking : known'.asking ≡ (r.clients_at n c).asking

  heard : (known' : ClientKnown) → SameHeard known' → HeardIs known' client.session client.producer.handshake
  heard known' same =
      let h = a.heard in record {
        served = h.served;
        front = h.front;
        bytes = same.bytes ∙ h.bytes;
        frames = h.frames;
        none = h.none;
        sets = ap (λ s. setup_after s h.served) same.setup ∙ h.sets;
      }

  -- its streams are these now
  pub owned : (streams : List PlainStream) (end : PlainProducer) → AreKept (record (client.producer) { streams = streams; turn = end.turn; window = end.window }) → AreOne streams → ((s : PlainStream) → Among s streams → is_open client.producer.handshake ≡ true)
      → SameHeard (r'.clients_at n c) → FlowIs (r'.clients_at n c).flow client.session client.producer.handshake end.window
      → ((q : ℕ) → KeptIs r'.tree (r'.branch_at n q) (r'.held n q) (vb_of w' n q) (is_closed_by a.heard.served q) ((r'.clients_at n c).streams q) (kept_at q streams))
      → ClientAgrees w' r' n c (with_streams client streams end)
  unfolding heard
  owned streams end kept one opened same flow at = record {
    conn = record { node = a.conn.node; number = a.conn.number; desk = a.conn.desk };
    alive = a.alive;
    kept = kept;
    one = one;
    opened = opened;
    asked = a.asked ∙ sym same.opened;
    silent = same.told;
    heard = heard (r'.clients_at n c) same;
    asks = subst (λ k. AskingIs k client.session client.producer.handshake) (sym same.asking) a.asks;
    flow = flow;
    streams = at;
  }

  -- a stream is known, and stands as it does
  pub record IsKnown (t : PlainStream) : Type 0 where
    pub g : ClientStream
    pub known : (r.clients_at n c).streams t.vb ≡ Some g
    pub unclosed : is_closed_by a.heard.served t.vb ≡ false
    pub is : StreamIs r.tree (r.branch_at n t.vb) (r.held n t.vb) (vb_of w n t.vb) g t

  pub stream_known : (t : PlainStream) → Among t client.producer.streams → IsKnown t
  stream_known t i = by ((r.clients_at n c).streams t.vb) refl (subst (KeptIs r.tree (r.branch_at n t.vb) (r.held n t.vb) (vb_of w n t.vb) (is_closed_by a.heard.served t.vb) ((r.clients_at n c).streams t.vb)) (a.one t i) (a.streams t.vb))
    where
      by : (o : Option ClientStream) → (r.clients_at n c).streams t.vb ≡ o → KeptIs r.tree (r.branch_at n t.vb) (r.held n t.vb) (vb_of w n t.vb) (is_closed_by a.heard.served t.vb) o (Some t) → IsKnown t
      by None e x = absurd x
      by (Some g) e x = record { g = g; known = e; unclosed = x.0; is = x.1 }

  -- ---- one of its streams goes on, or is over

  module _ (t left : PlainStream) (i : Among t client.producer.streams) (id : left.id ≡ t.id) (vb : left.vb ≡ t.vb) (end : PlainProducer) (same : SameHeard (r'.clients_at n c)) (flow : FlowIs (r'.clients_at n c).flow client.session client.producer.handshake end.window)
      (others : (q : ℕ) → (q ≡ t.vb → ⊥) → (r'.tree ≡ r.tree) × (r'.branch_at n q ≡ r.branch_at n q) × (r'.held n q ≡ r.held n q) × (vb_of w' n q ≡ vb_of w n q) × ((r'.clients_at n c).streams q ≡ (r.clients_at n c).streams q)) where
    abbrev old : List PlainStream
    old = client.producer.streams

    other_kept : (streams : List PlainStream) (q : ℕ) → (q ≡ t.vb → ⊥) → kept_at q streams ≡ kept_at q old
        → KeptIs r'.tree (r'.branch_at n q) (r'.held n q) (vb_of w' n q) (is_closed_by a.heard.served q) ((r'.clients_at n c).streams q) (kept_at q streams)
    other_kept streams q ne e =
        let (tree, branch, held, pv, known) = others q ne in
        subst (λ x. KeptIs r'.tree (r'.branch_at n q) (r'.held n q) (vb_of w' n q) (is_closed_by a.heard.served q) x (kept_at q streams)) (sym known)
        (subst (λ x. KeptIs r'.tree (r'.branch_at n q) (r'.held n q) x (is_closed_by a.heard.served q) ((r.clients_at n c).streams q) (kept_at q streams)) (sym pv)
        (subst (λ x. KeptIs r'.tree (r'.branch_at n q) x (vb_of w n q) (is_closed_by a.heard.served q) ((r.clients_at n c).streams q) (kept_at q streams)) (sym held)
        (subst (λ x. KeptIs r'.tree x (r.held n q) (vb_of w n q) (is_closed_by a.heard.served q) ((r.clients_at n c).streams q) (kept_at q streams)) (sym branch)
        (subst (λ x. KeptIs x (r.branch_at n q) (r.held n q) (vb_of w n q) (is_closed_by a.heard.served q) ((r.clients_at n c).streams q) (kept_at q streams)) (sym tree)
        (subst (KeptIs r.tree (r.branch_at n q) (r.held n q) (vb_of w n q) (is_closed_by a.heard.served q) ((r.clients_at n c).streams q)) (sym e) (a.streams q))))))

    -- it stands as it is known then
    pub went_owned : (g' : ClientStream) → (r'.clients_at n c).streams t.vb ≡ Some g' → is_closed_by a.heard.served t.vb ≡ false
        → StreamIs r'.tree (r'.branch_at n t.vb) (r'.held n t.vb) (vb_of w' n t.vb) g' left → ClientAgrees w' r' n c (with_streams client (replaced left old) end)
    went_owned g' known unclosed stands =
        let rise = a.kept.rise in
        let k = kept_went client.producer (replaced left old) (replaced_ids left old) a.kept in
        owned (replaced left old) end (record { ids = refl; rise = k.rise; numbered = k.numbered; turn = k.turn }) (one_replaced left old t rise a.one i id vb)
        (λ s j. a.opened t i) same flow (λ q. ⊎_elim
        (λ e. subst (λ v. KeptIs r'.tree (r'.branch_at n v) (r'.held n v) (vb_of w' n v) (is_closed_by a.heard.served v) ((r'.clients_at n c).streams v) (kept_at v (replaced left old))) (sym e)
        (subst (KeptIs r'.tree (r'.branch_at n t.vb) (r'.held n t.vb) (vb_of w' n t.vb) (is_closed_by a.heard.served t.vb) ((r'.clients_at n c).streams t.vb)) (sym (at_here_replaced left old t rise a.one i id vb))
        (subst (λ o. KeptIs r'.tree (r'.branch_at n t.vb) (r'.held n t.vb) (vb_of w' n t.vb) (is_closed_by a.heard.served t.vb) o (Some left)) (sym known) (unclosed, stands))))
        (λ ne. other_kept (replaced left old) q ne (at_there_replaced left old t rise a.one i id vb q ne))
        (numbers q t.vb))

    -- it is over
    pub over_owned : (g' : ClientStream) → (r'.clients_at n c).streams t.vb ≡ Some g' → g'.over ≡ true → ClientAgrees w' r' n c (with_streams client (without_id t.id old) end)
    over_owned g' known over =
        let rise = a.kept.rise in let found = a.one t i in
        let k = kept_over client.producer t.id a.kept in
        owned (without_id t.id old) end (record { ids = refl; rise = k.rise; numbered = k.numbered; turn = k.turn }) (one_closed t.vb t old rise a.one found)
        (λ s j. a.opened t i) same flow (λ q. ⊎_elim
        (λ e. subst (λ v. KeptIs r'.tree (r'.branch_at n v) (r'.held n v) (vb_of w' n v) (is_closed_by a.heard.served v) ((r'.clients_at n c).streams v) (kept_at v (without_id t.id old))) (sym e)
        (subst (KeptIs r'.tree (r'.branch_at n t.vb) (r'.held n t.vb) (vb_of w' n t.vb) (is_closed_by a.heard.served t.vb) ((r'.clients_at n c).streams t.vb)) (sym (closed_here t.vb t old rise a.one found))
        (subst (λ o. KeptIs r'.tree (r'.branch_at n t.vb) (r'.held n t.vb) (vb_of w' n t.vb) (is_closed_by a.heard.served t.vb) o None) (sym known) (inr over))))
        (λ ne. other_kept (without_id t.id old) q ne (closed_there t.vb t old rise a.one found q ne))
        (numbers q t.vb))
