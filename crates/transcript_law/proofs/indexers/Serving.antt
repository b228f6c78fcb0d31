-- a client's connection agrees behind a frame that asks for no stream
use Rattle.std.specs.Prelude.{◌≡◌, ◌++◌, ◌==◌, ◌&&◌, ◌||◌, if◌then◌else◌}
use Rattle.transcript_law.proofs.Words.{ℕ, Bool, true, false, List, drop, refl, sym, ap, ◌∙◌, subst, inl, inr, ⊎_elim, Option, Some, None, Ok, eq-eqb, eqb-false, eqb-true, ne_eqb, Frame, AreBytes, Branch, Change, Plain, PlainStream, PlainWorld, Chronicle}
use Rattle.dcp_producer.specs.Producers.{is_open, stream_at as kept_at}
use Rattle.mcbp_frame.specs.Frames.{first_frame, frame_len}
use Rattle.client_session.specs.Serving.{PlainSession}
use Rattle.node_core.specs.Clients.{PlainClient}
use Rattle.transcript_law.proofs.indexers.{Flows.{flow_more}, Known.{closed_more}, Streams.{AreOne}}
unfoldable use Rattle.transcript_law.proofs.indexers.Known.{heard_more}
use Rattle.vb_events.specs.declared.event.StreamName.TheVariants as name
use Rattle.transcript_law.proofs.invariant.ClientsTold.{AskingIs, ClientAgrees, FlowIs, HeardIs, IsConn, KeptIs, setup_of}
use Rattle.transcript_law.proofs.invariant.{Holdings.{vb_of}, OpenStreams.{Among, AreKept}}
use Rattle.transcript_law.specs.ClientFrames.{ask_of, closes, is_close, is_closed_by, message_of, set_by, setup_after}
use Rattle.transcript_law.specs.Questions.{window_by}
use Rattle.transcript_law.specs.StreamsTold.{ClientKnown, ClientStream}

-- what agrees with what is known, by that
pub record AgreesAs (w : PlainWorld) (r : Chronicle) (n c : ℕ) (client : PlainClient) (known : ClientKnown) : Type 0 where
  pub conn : IsConn n c client
  pub alive : client.session.closed ≡ false
  pub kept : AreKept client.producer
  pub one : AreOne client.producer.streams
  pub opened : (stream : PlainStream) → Among stream client.producer.streams → is_open client.producer.handshake ≡ true
  pub asked : client.producer.asked ≡ known.opened
  pub silent : known.told ≡ None
  pub heard : HeardIs known client.session client.producer.handshake
  pub asks : AskingIs known.asking client.session client.producer.handshake
  pub flow : FlowIs known.flow client.session client.producer.handshake client.producer.window
  pub streams : (v : ℕ) → KeptIs r.tree (r.branch_at n v) (r.held n v) (vb_of w n v) (is_closed_by heard.served v) (known.streams v) (kept_at v client.producer.streams)

pub agrees_as : (w : PlainWorld) (r : Chronicle) (n c : ℕ) (client : PlainClient) (known : ClientKnown) → r.clients_at n c ≡ known → AgreesAs w r n c client known → ClientAgrees w r n c client
agrees_as w r n c client known same a = record {
  conn = a.conn;
  alive = a.alive;
  kept = a.kept;
  one = a.one;
  opened = a.opened;
  asked = a.asked ∙ ap (λ (k : ClientKnown). k.opened) (sym same);
  silent = ap (λ (k : ClientKnown). k.told) same ∙ a.silent;
  heard = record {
    served = a.heard.served;
    front = a.heard.front;
    bytes = ap (λ (k : ClientKnown). k.bytes) same ∙ a.heard.bytes;
    frames = a.heard.frames;
    none = a.heard.none;
    sets = ap (λ (k : ClientKnown). setup_after k.setup a.heard.served) same ∙ a.heard.sets;
  };
  asks = subst (λ (k : ClientKnown). AskingIs k.asking client.session client.producer.handshake) (sym same) a.asks;
  flow = subst (λ (k : ClientKnown). FlowIs k.flow client.session client.producer.handshake client.producer.window) (sym same) a.flow;
  streams = λ v. subst (λ (k : ClientKnown). KeptIs r.tree (r.branch_at n v) (r.held n v) (vb_of w n v) (is_closed_by a.heard.served v) (k.streams v) (kept_at v client.producer.streams)) (sym same) (a.streams v);
}

-- the session alone changed, and no frame was served: as much as it keeps is known to have come, and what it asked
pub session_agrees : (w w' : PlainWorld) (r r' : Chronicle) (n c : ℕ) (client : PlainClient) (session : PlainSession) (a : ClientAgrees w r n c client) (known : ClientKnown) → r'.clients_at n c ≡ known
    → known.streams ≡ (r.clients_at n c).streams → (known.setup ≡ (r.clients_at n c).setup) × (known.told ≡ (r.clients_at n c).told) × (known.opened ≡ (r.clients_at n c).opened) → session.who ≡ client.session.who → session.closed ≡ client.session.closed → known.bytes ≡ a.heard.front ++ session.reader
    → AskingIs known.asking session client.producer.handshake → FlowIs known.flow session client.producer.handshake client.producer.window → r'.tree ≡ r.tree → r'.branch_at ≡ r.branch_at → r'.held ≡ r.held → ((v : ℕ) → vb_of w' n v ≡ vb_of w n v) → ClientAgrees w' r' n c (record client { session = session })
session_agrees w w' r r' n c client session a known is streams others who closed bytes asks flow tree branch held vbs = agrees_as w' r' n c (record client { session = session }) known is (record {
  conn = record { node = ap (λ x. x.node) who ∙ a.conn.node; number = ap (λ x. x.client) who ∙ a.conn.number; desk = a.conn.desk ∙ ap (λ x. record { stream = name.Client n c; node = n; base = x.base }) (sym who) };
  alive = closed ∙ a.alive;
  kept = a.kept;
  one = a.one;
  opened = a.opened;
  asked = a.asked ∙ sym others.2;
  silent = others.1 ∙ a.silent;
  heard = record { served = a.heard.served; front = a.heard.front; bytes = bytes; frames = a.heard.frames; none = a.heard.none; sets = ap (λ x. setup_after x a.heard.served) others.0 ∙ a.heard.sets };
  asks = asks;
  flow = flow;
  streams = λ v. subst (λ x. x) (λ i. KeptIs (sym tree i) (sym branch i n v) (sym held i n v) (sym (vbs v) i) (is_closed_by a.heard.served v) (sym streams i v) (kept_at v client.producer.streams)) (a.streams v);
})

-- ---- what is kept of a stream, by whether a frame closed it

module _ (tree : List Branch) (on : Option ℕ) (held : List Change) (pv : Option Plain) where
  -- a frame that closes its vBucket's stream
  pub kept_closed : (pv' : Option Plain) (closed : Bool) (known : Option ClientStream) (kept : Option PlainStream) → KeptIs tree on held pv closed known kept → KeptIs tree on held pv' true known None
  kept_closed pv' closed None None x = tt
  kept_closed pv' closed None (Some stream) x = absurd x
  kept_closed pv' closed (Some g) kept x = inl refl

  -- a request behind it: what was closed is known no more
  pub kept_past : (closed : Bool) (known : Option ClientStream) (kept : Option PlainStream) → KeptIs tree on held pv closed known kept → KeptIs tree on held pv false (if closed then None else known) kept
  kept_past true None None x = tt
  kept_past true (Some g) None x = tt
  kept_past true None (Some stream) x = absurd x
  kept_past true (Some g) (Some stream) x = let z : true ≡ false = x.0 in cc
  kept_past false None None x = tt
  kept_past false (Some g) None x = ⊎_elim (λ e. let z : false ≡ true = e in cc) (λ o. inr o) x
  kept_past false None (Some stream) x = absurd x
  kept_past false (Some g) (Some stream) x = x

or_false : (b : Bool) → (b || false) ≡ b
or_false true = refl
or_false false = refl

or_true : (b : Bool) → (b || true) ≡ true
or_true true = refl
or_true false = refl

and_false : (b : Bool) → (b && false) ≡ false
and_false true = refl
and_false false = refl

-- a frame closes the stream of the vBucket in its header alone, if it does
pub closes_none : (f : Frame) (v : ℕ) → is_close (message_of f) ≡ false → closes v f ≡ false
closes_none f v e = ap (λ b. (f.vb_or_status == v) && b) e ∙ and_false (f.vb_or_status == v)

pub closes_its : (f : Frame) → is_close (message_of f) ≡ true → closes f.vb_or_status f ≡ true
closes_its f e = (λ i. eq-eqb f.vb_or_status f.vb_or_status refl i && e i)

pub closes_other : (f : Frame) (v : ℕ) → (v ≡ f.vb_or_status → ⊥) → closes v f ≡ false
closes_other f v other = ap (λ b. b && is_close (message_of f)) (ne_eqb f.vb_or_status v (λ e. other (sym e)))

module _ (w w' : PlainWorld) (r : Chronicle) (n c : ℕ) (client client' : PlainClient) (f : Frame) (a : ClientAgrees w r n c client) (bytes : AreBytes client.session.reader) (first : first_frame client.session.reader ≡ Some (Ok f)) where
  -- the session is the same one, behind the frame; the producer is of the same connection
  pub record IsBehind : Type 0 where
    pub who : client'.session.who ≡ client.session.who
    pub alive : client'.session.closed ≡ false
    pub reader : client'.session.reader ≡ drop (frame_len f) client.session.reader
    pub desk : client'.producer.desk ≡ client.producer.desk

  pub conn_behind : IsBehind → IsConn n c client'
  conn_behind behind = record {
    node = ap (λ x. x.node) behind.who ∙ a.conn.node;
    number = ap (λ x. x.client) behind.who ∙ a.conn.number;
    desk = behind.desk ∙ a.conn.desk ∙ ap (λ x. record { stream = name.Client n c; node = n; base = x.base }) (sym behind.who);
  }

  module _ (behind : IsBehind) (none : ask_of f ≡ None) (sets : set_by (message_of f) (setup_of client.producer.handshake) ≡ setup_of client'.producer.handshake)
      (asks : AskingIs (r.clients_at n c).asking client'.session client'.producer.handshake) (flows : window_by (message_of f) (setup_of client.producer.handshake).opened client.producer.window ≡ client'.producer.window) where
    abbrev heard : HeardIs (r.clients_at n c) client'.session client'.producer.handshake
    heard = heard_more (r.clients_at n c) client.session client'.session client.producer.handshake client'.producer.handshake f bytes first behind.reader none sets a.heard

    -- it is counted into the window
    flow : FlowIs (r.clients_at n c).flow client'.session client'.producer.handshake client'.producer.window
    flow = flow_more (r.clients_at n c).flow client.session client'.session client.producer.handshake client'.producer.handshake client.producer.window client'.producer.window f bytes first behind.reader sets flows a.flow

    -- it closes no stream, and the streams are as they were
    pub served_plain : is_close (message_of f) ≡ false → AreKept client'.producer → client'.producer.asked ≡ client.producer.asked → client'.producer.streams ≡ client.producer.streams
        → (is_open client.producer.handshake ≡ true → is_open client'.producer.handshake ≡ true) → ((v : ℕ) → vb_of w' n v ≡ vb_of w n v) → ClientAgrees w' r n c client'
    unfolding heard_more
    served_plain open_still kept count same opens vbs = agrees_as w' r n c client' (r.clients_at n c) refl (record {
      conn = conn_behind behind;
      alive = behind.alive;
      kept = kept;
      one = subst AreOne (sym same) a.one;
      opened = λ stream i. opens (a.opened stream (subst (Among stream) same i));
      asked = count ∙ a.asked;
      silent = a.silent;
      heard = heard;
      asks = asks;
      flow = flow;
      streams = λ v.
          let closed : is_closed_by heard.served v ≡ is_closed_by a.heard.served v = closed_more a.heard.served f v ∙ ap (λ b. is_closed_by a.heard.served v || b) (closes_none f v open_still) ∙ or_false (is_closed_by a.heard.served v) in
          subst (λ b. KeptIs r.tree (r.branch_at n v) (r.held n v) (vb_of w' n v) b ((r.clients_at n c).streams v) (kept_at v client'.producer.streams)) (sym closed)
          (subst (λ p. KeptIs r.tree (r.branch_at n v) (r.held n v) p (is_closed_by a.heard.served v) ((r.clients_at n c).streams v) (kept_at v client'.producer.streams)) (sym (vbs v))
          (subst (λ ss. KeptIs r.tree (r.branch_at n v) (r.held n v) (vb_of w n v) (is_closed_by a.heard.served v) ((r.clients_at n c).streams v) (kept_at v ss)) (sym same) (a.streams v)));
    })

    -- it closes the stream of its vBucket, if there is one
    pub served_close : is_close (message_of f) ≡ true → AreKept client'.producer → client'.producer.asked ≡ client.producer.asked → AreOne client'.producer.streams → ((t : PlainStream) → Among t client'.producer.streams → Among t client.producer.streams)
        → client'.producer.handshake ≡ client.producer.handshake → kept_at f.vb_or_status client'.producer.streams ≡ None
        → ((v : ℕ) → (v ≡ f.vb_or_status → ⊥) → (kept_at v client'.producer.streams ≡ kept_at v client.producer.streams) × (vb_of w' n v ≡ vb_of w n v)) → ClientAgrees w' r n c client'
    unfolding heard_more
    served_close closing kept count one fewer shaken gone others = agrees_as w' r n c client' (r.clients_at n c) refl (record {
      conn = conn_behind behind;
      alive = behind.alive;
      kept = kept;
      one = one;
      opened = λ stream i. ap is_open shaken ∙ a.opened stream (fewer stream i);
      asked = count ∙ a.asked;
      silent = a.silent;
      heard = heard;
      asks = asks;
      flow = flow;
      streams = λ v. by v (v == f.vb_or_status) refl;
    })
      where
        Kept : ℕ → Type 0
        Kept v = KeptIs r.tree (r.branch_at n v) (r.held n v) (vb_of w' n v) (is_closed_by heard.served v) ((r.clients_at n c).streams v) (kept_at v client'.producer.streams)

        here : Kept f.vb_or_status
        here =
            let v : ℕ = f.vb_or_status in
            let closed : is_closed_by heard.served v ≡ true = closed_more a.heard.served f v ∙ ap (λ b. is_closed_by a.heard.served v || b) (closes_its f closing) ∙ or_true (is_closed_by a.heard.served v) in
            subst (λ b. KeptIs r.tree (r.branch_at n v) (r.held n v) (vb_of w' n v) b ((r.clients_at n c).streams v) (kept_at v client'.producer.streams)) (sym closed)
            (subst (λ o. KeptIs r.tree (r.branch_at n v) (r.held n v) (vb_of w' n v) true ((r.clients_at n c).streams v) o) (sym gone)
            (kept_closed r.tree (r.branch_at n v) (r.held n v) (vb_of w n v) (vb_of w' n v) (is_closed_by a.heard.served v) ((r.clients_at n c).streams v) (kept_at v client.producer.streams) (a.streams v)))

        there : (v : ℕ) → (v ≡ f.vb_or_status → ⊥) → Kept v
        there v other =
            let same = others v other in
            let closed : is_closed_by heard.served v ≡ is_closed_by a.heard.served v = closed_more a.heard.served f v ∙ ap (λ b. is_closed_by a.heard.served v || b) (closes_other f v other) ∙ or_false (is_closed_by a.heard.served v) in
            subst (λ b. KeptIs r.tree (r.branch_at n v) (r.held n v) (vb_of w' n v) b ((r.clients_at n c).streams v) (kept_at v client'.producer.streams)) (sym closed)
            (subst (λ o. KeptIs r.tree (r.branch_at n v) (r.held n v) (vb_of w' n v) (is_closed_by a.heard.served v) ((r.clients_at n c).streams v) o) (sym same.0)
            (subst (λ p. KeptIs r.tree (r.branch_at n v) (r.held n v) p (is_closed_by a.heard.served v) ((r.clients_at n c).streams v) (kept_at v client.producer.streams)) (sym same.1) (a.streams v)))

        by : (v : ℕ) (b : Bool) → (v == f.vb_or_status) ≡ b → Kept v
        by v true e = subst Kept (sym (eqb-true v f.vb_or_status e)) here
        by v false e = there v (eqb-false v f.vb_or_status e)
