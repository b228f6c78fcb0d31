-- client connections: opened, given bytes, asked for frames, and closed
use Rattle.std.proofs.Common.{◌≡◌, ◌≢◌, ℕ, Bool, true, false, List, [], refl, sym, ap, ◌∙◌, subst, Option, Some, None, is_some}
use Rattle.std.specs.Prelude.{◌==◌, if◌then◌else◌}
use Rattle.std.specs.Borrow.{Bor}
use Rattle.std.specs.Option.{option_map, option_copied}
use Rattle.std.proofs.lemmas.Bool.{eqb-true, eqb-false}
use Rattle.slab.specs.Slab.{Slab, get}
use Rattle.slab.specs.Slab as slab
use Rattle.disk_journals.specs.Devices.{fuse_device}
use Rattle.disk_journals.specs.Stands.{ShelvesStand}
use Rattle.vb_events.specs.declared.event.Cause.TheVariants as cause
use Rattle.vb_calls.specs.Jobs.{after_job}
use Rattle.vb_calls.specs.Programs.{Prog, after, alone_step}
use Rattle.vb_calls.specs.Shelves.{Shelves}
use Rattle.vb_calls.specs.declared.calls.Resolved.{Resolved}
use Rattle.vb_events.specs.declared.event.Event.{Event}
use Rattle.dcp_producer.specs.Ending.{end_closed}
use Rattle.vb_calls.specs.States.{States}
use Rattle.vb_calls.proofs.Readings.{alone_after}
use Rattle.vbucket.specs.Stands.{SlotsStand}
use Rattle.node_core.specs.declared.conn.Conn.{Conn}
use Rattle.node_core.specs.declared.conn.ConnKind.TheVariants as kind
use Rattle.node_core.specs.declared.out.NodeOut.{NodeOut}
use Rattle.node_core.specs.Calls.{left_open}
use Rattle.node_core.specs.Outcomes.{value_at, Renumbered, client_conn, kept_unless, Opened, Fed, FedAt, Posted, PostedAt, Pulled, PulledAt, ShutAt, Shut}
use Rattle.node_core.specs.Outs.{client_out, client_pull_out}
use Rattle.node_core.specs.Clients.{PlainClient, ClientPulled, Handling, new_client, client_fed, client_posted, client_pulled}
use Rattle.node_world.specs.declared.script_node.ScriptNode.{ScriptNode}
use Rattle.node_world.specs.declared.told.Told.{Told}
use Rattle.node_world.specs.Ends.{KeepsEnds, Carries, PostsTo}
use Rattle.node_world.specs.Lines.{out_told}
use Rattle.node_world.specs.Nodes.{PlainNode, done, refusal, with_client, with_kept, with_states, client_at, bytes_if, bytes_at, hung_if, hang_at, pull_if, pull_at, posted_if}
use Rattle.node_world.specs.Stands.{MemNode, client_part, peer_part, live_client, ClientStands, ClientsStand, BaseStands, IsOfBase, NodeMatch, node_number}
use Rattle.node_world.proofs.OfBase.{bases_set, fed_of, free_of, left_of, posted_of, pulled_of, stays_of}
use Rattle.node_world.proofs.Nodes.{off_kept}
use Rattle.node_world.proofs.PullReads.{client_job}
use Rattle.node_world.proofs.Shelved.{MemAsks, known_job, same_shelves}
use Rattle.node_world.proofs.Conns.{ClientLeft, client_left, client_pull_left, post_left, client_got, clients_set, key_if}

-- a number has a key exactly where it has a connection
pub keyed : (seat : ScriptNode) (plain : PlainNode) (c : ℕ) → NodeMatch seat plain → is_some (plain.clients c) ≡ is_some (value_at seat.clients c)
keyed seat plain c stands = by (value_at seat.clients c) (plain.clients c) (stands.clients.each c)
  where
    by : (o : Option ℕ) (s : Option PlainClient) → ClientStands seat.node.conns o s → is_some s ≡ is_some o
    by None None h = refl
    by None (Some s) h = absurd h
    by (Some key) None h = absurd h
    by (Some key) (Some s) h = refl

-- the client of a key
pub found : (seat : ScriptNode) (plain : PlainNode) (c key : ℕ) → value_at seat.clients c ≡ Some key → NodeMatch seat plain
    → (client : PlainClient) × (plain.clients c ≡ Some client) × (client_part (get seat.node.conns key) ≡ Some (live_client client))
found seat plain c key has stands = by (plain.clients c) refl (subst (λ o. ClientStands seat.node.conns o (plain.clients c)) has (stands.clients.each c))
  where
    by : (s : Option PlainClient) → plain.clients c ≡ s → ClientStands seat.node.conns (Some key) s
        → (client : PlainClient) × (s ≡ Some client) × (client_part (get seat.node.conns key) ≡ Some (live_client client))
    by None e h = absurd h
    by (Some client) e h = (client, refl, h)

-- so is its base
base_found : (seat : ScriptNode) (plain : PlainNode) (c key : ℕ) (has : value_at seat.clients c ≡ Some key) (stands : NodeMatch seat plain) → BaseStands (Some (found seat plain c key has stands).0) (value_at seat.bases c)
base_found seat plain c key has stands = subst (λ s. BaseStands s (value_at seat.bases c)) (found seat plain c key has stands).1 (stands.bases c)

-- the value behind a reference is there where the reference is
pub some_copied : {T : Type 0} (o : Option (Bor T)) → is_some (option_copied o) ≡ is_some o
some_copied None = refl
some_copied (Some x) = refl

-- a line that is refused
pub refused_by : (old : ScriptNode) (told : Told) (f : PlainNode → PlainNode × Told) → ((plain : PlainNode) → NodeMatch old plain → f plain ≡ (plain, told)) → Carries f old told old
refused_by old told f same plain stands =
    let e = same plain stands in
    (subst (NodeMatch old) (sym (ap (λ (x : PlainNode × Told). x.0) e)) stands, sym (ap (λ (x : PlainNode × Told). x.1) e), record { number = refl; peers = λ key. refl; dials = λ v. refl })

-- a connection is open already
pub open_already : (old : ScriptNode) (base c : ℕ) → is_some (value_at old.clients c) ≡ true → Carries (client_at (node_number old) base c) old (refusal cause.LinkOpen) old
open_already old base c has = refused_by old (refusal cause.LinkOpen) (client_at (node_number old) base c) (λ plain stands.
    ap (λ b. if b then (plain, refusal cause.LinkOpen) else (with_client plain c (Some (new_client (record { node = node_number old; client = c; base = base }))), done [])) (keyed old plain c stands ∙ has))

-- or it is not open
no_client : (old : ScriptNode) (plain : PlainNode) (c : ℕ) → value_at old.clients c ≡ None → NodeMatch old plain → plain.clients c ≡ None
no_client old plain c none stands = gone (plain.clients c) (keyed old plain c stands ∙ ap is_some none)
  where
    gone : (s : Option PlainClient) → is_some s ≡ false → s ≡ None
    gone None e = refl
    gone (Some s) e = cc

pub not_fed : (old : ScriptNode) (c : ℕ) (piece : List ℕ) → value_at old.clients c ≡ None → Carries (bytes_at c piece) old (refusal cause.LinkClosed) old
not_fed old c piece none = refused_by old (refusal cause.LinkClosed) (bytes_at c piece) (λ plain stands. ap (bytes_if c piece plain) (no_client old plain c none stands))

pub not_pulled : (old : ScriptNode) (c frames : ℕ) → value_at old.clients c ≡ None → Carries (pull_at c frames) old (refusal cause.LinkClosed) old
not_pulled old c frames none = refused_by old (refusal cause.LinkClosed) (pull_at c frames) (λ plain stands. ap (pull_if c frames plain) (no_client old plain c none stands))

pub not_hung : (old : ScriptNode) (keys : List (ℕ × ℕ)) (c : ℕ) → value_at old.clients c ≡ None → Renumbered old.clients keys c None → Carries (hang_at c) old (refusal cause.LinkClosed) (record old { clients = keys })
not_hung old keys c none rekeyed plain stands =
    let e : hang_at c plain ≡ (plain, refusal cause.LinkClosed) = ap (hung_if c plain) (no_client old plain c none stands) in (
      subst (NodeMatch (record old { clients = keys })) (sym (ap (λ (x : PlainNode × Told). x.0) e)) (record { slots = stands.slots; shelves = stands.shelves; made = stands.made; clock = stands.clock; clients = clients_rekeyed; bases = stands.bases; arm = stands.arm; off = off_kept old (record old { clients = keys }) plain.off refl (record { number = refl; peers = λ key. refl; dials = λ v. refl }) stands.off }),
      sym (ap (λ (x : PlainNode × Told). x.1) e),
      record { number = refl; peers = λ key. refl; dials = λ v. refl },
    )
  where
    same : (d : ℕ) → value_at keys d ≡ value_at old.clients d
    same d = by (d == c) refl
      where
        by : (b : Bool) → (d == c) ≡ b → value_at keys d ≡ value_at old.clients d
        by true e = ap (value_at keys) (eqb-true d c e) ∙ rekeyed.changed ∙ sym none ∙ ap (value_at old.clients) (sym (eqb-true d c e))
        by false e = rekeyed.others d (eqb-false d c e)

    clients_rekeyed : ClientsStand keys old.node.conns plain.clients
    clients_rekeyed = record {
      each = λ d. subst (λ o. ClientStands old.node.conns o (plain.clients d)) (sym (same d)) (stands.clients.each d);
      apart = λ d e key has also. stands.clients.apart d e key (sym (same d) ∙ has) (sym (same e) ∙ also);
      owned = λ key has. let (d, at) = stands.clients.owned key has in (d, same d ∙ at);
    }

-- a part of a key's slot, after it changed
module _ {T : Type 0} (part : Option Conn → Option T) (old new : Slab Conn) (key : ℕ) (slot : Option Conn) (updates : slab.Updates old new key slot) where
  pub part_at : part (get new key) ≡ part slot
  part_at = ap part updates.changed

  pub part_but : (k : ℕ) → k ≢ key → part (get new k) ≡ part (get old k)
  part_but k ne = ap part (updates.others k ne)

  pub part_stays : part slot ≡ part (get old key) → (k : ℕ) → part (get new k) ≡ part (get old k)
  part_stays same k = by (k == key) refl
    where
      by : (b : Bool) → (k == key) ≡ b → part (get new k) ≡ part (get old k)
      by true e =
          let is : k ≡ key = eqb-true k key e in
          ap (λ j. part (get new j)) is ∙ part_at ∙ same ∙ ap (λ j. part (get old j)) (sym is)
      by false e = part_but k (eqb-false k key e)

-- the node with other connections, and other keys of its clients
abbrev pub reseated : ScriptNode → MemNode → List (ℕ × ℕ) → ScriptNode
reseated old node keys = record old { node = node; clients = keys }

-- a connection is opened
module _ (old : ScriptNode) (base c key : ℕ) (node : MemNode) (keys bases : List (ℕ × ℕ)) (unused : is_some (value_at old.clients c) ≡ false) (opened : Opened (kind.Client c base) old.node key node)
    (rekeyed : Renumbered old.clients keys c (Some key)) (rebased : Renumbered old.bases bases c (Some base)) where
  abbrev new : ScriptNode
  new = record (reseated old node keys) { bases = bases }

  abbrev client : PlainClient
  client = new_client (record { node = node_number old; client = c; base = base })

  pub opens : Carries (client_at (node_number old) base c) old (done []) new
  opens plain stands =
      let e : client_at (node_number old) base c plain ≡ (with_client plain c (Some client), done []) = ap (λ b. if b then (plain, refusal cause.LinkOpen) else (with_client plain c (Some client), done [])) (keyed old plain c stands ∙ unused) in (
        subst (NodeMatch new) (sym (ap (λ (x : PlainNode × Told). x.0) e)) (record {
          slots = subst (λ vbs. SlotsStand vbs plain.vbs) (sym (ap (λ (x : MemNode). x.vbs) opened.rest)) stands.slots;
          shelves = same_shelves node old.node plain.shelves (ap (λ (x : MemNode). x.disks) opened.rest) stands.shelves;
          made = stands.made;
          clock = stands.clock;
          clients = clients_set old.clients keys old.node.conns node.conns plain.clients c key (Some client) (alone plain stands) mine rekeyed (part_at client_part old.node.conns node.conns key _ opened.conns)
              (part_but client_part old.node.conns node.conns key _ opened.conns) stands.clients;
          bases = bases_set old.bases bases plain.clients c (Some client) rebased.others (subst (BaseStands (Some client)) (sym rebased.changed) (free_of base client.session refl refl)) stands.bases;
          arm = stands.arm;
          off = off_kept old new plain.off refl keeps stands.off;
        }),
        sym (ap (λ (x : PlainNode × Told). x.1) e),
        keeps,
      )
    where
      keeps : KeepsEnds old new
      keeps = record {
        number = ap (λ (x : MemNode). x.number) opened.rest;
        peers = part_stays peer_part old.node.conns node.conns key _ opened.conns (sym (ap peer_part opened.free));
        dials = λ v. ap (λ (x : MemNode). value_at x.dials v) opened.rest;
      }

      alone : (plain : PlainNode) → NodeMatch old plain → (d : ℕ) → value_at old.clients d ≡ Some key → d ≡ c
      alone plain stands d has =
          let (s, there, got) = found old plain d key has stands in
          let no : None ≡ Some (live_client s) = sym (ap client_part opened.free) ∙ got in
          cc

      mine : (k : ℕ) → value_at old.clients c ≡ Some k → k ≡ key
      mine k has = let yes : true ≡ false = sym (ap is_some has) ∙ unused in cc

-- a connection of this key is there
module _ (old : ScriptNode) (c key : ℕ) (node : MemNode) (keys : List (ℕ × ℕ)) (has : value_at old.clients c ≡ Some key) where
  mine : (k : ℕ) → value_at old.clients c ≡ Some k → k ≡ key
  mine k also = let same : Some k ≡ Some key = sym also ∙ has in cc

  is_client : (plain : PlainNode) → (stands : NodeMatch old plain) → get old.node.conns key ≡ Some (client_conn (found old plain c key has stands).0)
  is_client plain stands = client_got (get old.node.conns key) _ (found old plain c key has stands).2

  -- it is left as this, or not at all, under the key
  module _ (slot : Option Conn) (updates : slab.Updates old.node.conns node.conns key slot) (rest : node ≡ record old.node { vbs = node.vbs; disks = node.disks; conns = node.conns }) where
    leaves_both : (plain : PlainNode) (stands : NodeMatch old plain) (states : States) (held : Shelves) (left : Option PlainClient) → SlotsStand node.vbs states → ShelvesStand fuse_device node.disks held → client_part slot ≡ option_map live_client left → peer_part slot ≡ None
        → BaseStands left (value_at old.bases c) → Renumbered old.clients keys c (key_if key left) → NodeMatch (reseated old node keys) (with_client (with_kept plain (states, held)) c left) × KeepsEnds old (reseated old node keys)
    leaves_both plain stands states held left slots shelves part peer based rekeyed = (
      record {
        slots = slots;
        shelves = shelves;
        made = stands.made;
        clock = stands.clock;
        clients = clients_set old.clients keys old.node.conns node.conns plain.clients c key left (λ d also. stands.clients.apart d c key also has) mine rekeyed
            (part_at client_part old.node.conns node.conns key slot updates ∙ part) (part_but client_part old.node.conns node.conns key slot updates) stands.clients;
        bases = bases_set old.bases old.bases plain.clients c left (λ d ne. refl) based stands.bases;
        arm = stands.arm;
        off = off_kept old (reseated old node keys) plain.off refl keeps stands.off;
      },
      keeps,
    )
      where
        keeps : KeepsEnds old (reseated old node keys)
        keeps = record {
          number = ap (λ (x : MemNode). x.number) rest;
          peers = part_stays peer_part old.node.conns node.conns key slot updates (peer ∙ sym (ap peer_part (is_client plain stands)));
          dials = λ v. ap (λ (x : MemNode). value_at x.dials v) rest;
        }

  -- the same where the journals stay
  module _ (slot : Option Conn) (updates : slab.Updates old.node.conns node.conns key slot) (rest : node ≡ record old.node { vbs = node.vbs; conns = node.conns }) where
    pub leaves_client : (plain : PlainNode) (stands : NodeMatch old plain) (states : States) (left : Option PlainClient) → SlotsStand node.vbs states → client_part slot ≡ option_map live_client left → peer_part slot ≡ None
        → BaseStands left (value_at old.bases c) → Renumbered old.clients keys c (key_if key left) → NodeMatch (reseated old node keys) (with_client (with_states plain states) c left) × KeepsEnds old (reseated old node keys)
    leaves_client plain stands states left slots part peer based rekeyed =
        let disks : node.disks ≡ old.node.disks = ap (λ (x : MemNode). x.disks) rest in
        leaves_both slot updates (rest ∙ (λ i. record old.node { vbs = node.vbs; disks = sym disks i; conns = node.conns })) plain stands states plain.shelves left slots (same_shelves node old.node plain.shelves disks stands.shelves) part peer based rekeyed

  -- it goes on, through what this says of the clock and the client
  module _ (goes : ℕ → PlainClient → Prog Handling) (goes_so : (base clock : ℕ) (s : PlainClient) (states : States) → IsOfBase base s.session → IsOfBase base (after (goes clock s) states).1.client.session) (out : NodeOut) (left : Conn) (updates : slab.Updates old.node.conns node.conns key (kept_unless out.closed left))
      (rest : node ≡ record old.node { vbs = node.vbs; conns = node.conns }) (rekeyed : Renumbered old.clients keys c (if out.closed then None else value_at old.clients c)) where
    -- what becomes of a plain node
    abbrev pub WentOn : PlainNode → States × Handling → Type 0
    WentOn plain came = NodeMatch (reseated old node keys) (with_client (with_states plain came.0) c (left_open came.1.client)) × (out ≡ client_out came.1) × KeepsEnds old (reseated old node keys)

    pub went_on : (plain : PlainNode) (stands : NodeMatch old plain) → ClientLeft (alone_step SlotsStand) old.node.vbs node.vbs out (goes old.clock (found old plain c key has stands).0) left
        → WentOn plain (after (goes plain.clock (found old plain c key has stands).0) plain.vbs)
    went_on plain stands left_by =
        let (alike, keeps) = leaves_client slot updates rest plain stands came.0 (left_open came.1.client) known.1 left_is (no_peer handling.client.session.closed left_by.3) based rekeyed_as in
        (alike, said ∙ ap client_out known.0, keeps)
      where
        client : PlainClient
        client = (found old plain c key has stands).0

        slot : Option Conn
        slot = kept_unless out.closed left

        handling : Handling
        handling = left_by.0

        said : out ≡ client_out handling
        said = left_by.2

        came : States × Handling
        came = after (goes plain.clock client) plain.vbs

        based : BaseStands (left_open came.1.client) (value_at old.bases c)
        based =
            left_of came.1.client (value_at old.bases c)
            (stays_of (value_at old.bases c) client came.1.client (λ base of. goes_so base plain.clock client plain.vbs of) (base_found old plain c key has stands))

        known : (handling ≡ came.1) × SlotsStand node.vbs came.0
        known =
            subst (λ t. (handling ≡ (after (goes t client) plain.vbs).1) × SlotsStand node.vbs (after (goes t client) plain.vbs).0) stands.clock
            (alone_after SlotsStand (goes old.clock client) old.node.vbs handling node.vbs left_by.1 plain.vbs stands.slots)

        key_left : (b : Bool) (s : PlainClient) → (if b then None else Some key) ≡ key_if key (if b then None else Some s)
        key_left true s = refl
        key_left false s = refl

        rekeyed_as : Renumbered old.clients keys c (key_if key (left_open came.1.client))
        rekeyed_as = record {
          changed = rekeyed.changed ∙ ap (λ (x : NodeOut). if x.closed then None else value_at old.clients c) said ∙ ap (λ o. if handling.client.session.closed then None else o) has
              ∙ key_left handling.client.session.closed handling.client ∙ ap (λ (h : Handling). key_if key (left_open h.client)) known.0;
          others = rekeyed.others;
        }

        part_left : (b : Bool) (s : PlainClient) → client_part (if b then None else Some (client_conn s)) ≡ option_map live_client (if b then None else Some s)
        part_left true s = refl
        part_left false s = refl

        left_is : client_part slot ≡ option_map live_client (left_open came.1.client)
        left_is = ap client_part left_by.3 ∙ part_left handling.client.session.closed handling.client ∙ ap (λ (h : Handling). option_map live_client (left_open h.client)) known.0

        no_peer : (b : Bool) → slot ≡ (if b then None else Some (client_conn handling.client)) → peer_part slot ≡ None
        no_peer true e = ap peer_part e
        no_peer false e = ap peer_part e

  -- it is given bytes
  module _ (piece : List ℕ) (out : NodeOut) (went : FedAt (alone_step SlotsStand) old.clock key piece (get old.node.conns key) old.node out node)
      (rekeyed : Renumbered old.clients keys c (if out.closed then None else value_at old.clients c)) where
    pub feeds : Carries (bytes_at c piece) old (out_told out) (reseated old node keys)
    feeds plain stands =
        let (client, there, live) = found old plain c key has stands in
        let fed : Fed (alone_step SlotsStand) old.clock key piece (client_conn client) old.node out node = subst (λ o. FedAt (alone_step SlotsStand) old.clock key piece o old.node out node) (is_client plain stands) went in
        let on = went_on (λ clock s. client_fed clock piece s) (λ base clock s states of. fed_of base clock piece s states of) out fed.left fed.conns fed.rest rekeyed plain stands (client_left (alone_step SlotsStand) old.node.vbs node.vbs out old.clock piece client fed.left fed.fed) in
        subst (λ (x : PlainNode × Told). NodeMatch (reseated old node keys) x.0 × (out_told out ≡ x.1) × KeepsEnds old (reseated old node keys)) (sym (ap (bytes_if c piece plain) there))
        (on.0, ap out_told on.1, on.2)

  -- it is told what became of a durable write that it awaits
  module _ (outcome : Resolved) (out : NodeOut) (went : PostedAt (alone_step SlotsStand) old.clock key outcome (get old.node.conns key) old.node out node)
      (rekeyed : Renumbered old.clients keys c (if out.closed then None else value_at old.clients c)) where
    pub posts : PostsTo c outcome old out.events (reseated old node keys)
    posts plain stands =
        let (client, there, live) = found old plain c key has stands in
        let post : Posted (alone_step SlotsStand) old.clock key outcome (client_conn client) old.node out node = subst (λ o. PostedAt (alone_step SlotsStand) old.clock key outcome o old.node out node) (is_client plain stands) went in
        let on = went_on (λ clock s. client_posted clock outcome s) (λ base clock s states of. posted_of base clock outcome s states of) out post.left post.conns post.rest rekeyed plain stands (post_left (alone_step SlotsStand) old.node.vbs node.vbs out old.clock outcome client post.left post.posted) in
        subst (λ (x : PlainNode × List Event). NodeMatch (reseated old node keys) x.0 × (out.events ≡ x.1) × KeepsEnds old (reseated old node keys)) (sym (ap (posted_if c outcome plain) there))
        (on.0, ap (λ (o : NodeOut). o.events) on.1, on.2)

  -- its client hangs up
  module _ (out : NodeOut) (went : ShutAt (alone_step SlotsStand) key (get old.node.conns key) old.node out node) (rekeyed : Renumbered old.clients keys c None) where
    pub hangs : Carries (hang_at c) old (done []) (reseated old node keys)
    hangs plain stands =
        let (client, there, live) = found old plain c key has stands in
        let shut : Shut (alone_step SlotsStand) key (client_conn client) old.node out node = subst (λ o. ShutAt (alone_step SlotsStand) key o old.node out node) (is_client plain stands) went in
        let known = alone_after SlotsStand (end_closed client.producer) old.node.vbs tt node.vbs shut.closed plain.vbs stands.slots in
        let (alike, keeps) = leaves_client None shut.conns shut.rest plain stands (after (end_closed client.producer) plain.vbs).0 None known.1 refl refl tt rekeyed in
        subst (λ (x : PlainNode × Told). NodeMatch (reseated old node keys) x.0 × (done [] ≡ x.1) × KeepsEnds old (reseated old node keys)) (sym (ap (hung_if c plain) there)) (alike, refl, keeps)

-- a connection of this key puts frames of its streams
module _ (old : ScriptNode) (c key frames : ℕ) (out : NodeOut) (node : MemNode) (has : value_at old.clients c ≡ Some key) (went : PulledAt (alone_step SlotsStand) MemAsks frames key (get old.node.conns key) old.node out node) where
  pub pulls : Carries (pull_at c frames) old (out_told out) (reseated old node old.clients)
  pulls plain stands =
      let (client, there, live) = found old plain c key has stands in
      let pulled : Pulled (alone_step SlotsStand) MemAsks frames key (client_conn client) old.node out node =
      subst (λ o. PulledAt (alone_step SlotsStand) MemAsks frames key o old.node out node) (is_client old c key node old.clients has plain stands) went in
      let (told, ran, said, left) = client_pull_left (alone_step SlotsStand) old.node.vbs node.vbs out MemAsks old.node.disks node.disks frames client pulled.left pulled.pulled in
      let came : (States × Shelves) × ClientPulled = after_job (client_pulled frames client) plain.vbs plain.shelves in
      let known = known_job (client_pulled frames client) old.node told node ran plain.vbs stands.slots plain.shelves stands.shelves in
      let of = λ (base : ℕ) (own : IsOfBase base client.session). subst (λ (x : (States × Shelves) × ClientPulled). IsOfBase base x.1.client.session) (sym (client_job frames client plain.vbs plain.shelves)) (pulled_of base frames client plain.shelves plain.vbs own) in
      let (alike, keeps) = leaves_both old c key node old.clients has (Some pulled.left) pulled.conns pulled.rest plain stands came.0.0 came.0.1 (Some came.1.client) known.1 known.2
      (ap (λ x. client_part (Some x)) left ∙ ap (λ (t : ClientPulled). Some (live_client t.client)) known.0) (ap (λ x. peer_part (Some x)) left)
      (stays_of (value_at old.bases c) client came.1.client of (base_found old plain c key has stands)) (record { changed = has; others = λ other ne. refl }) in
      subst (λ (x : PlainNode × Told). NodeMatch (reseated old node old.clients) x.0 × (out_told out ≡ x.1) × KeepsEnds old (reseated old node old.clients)) (sym (ap (pull_if c frames plain) there))
      (alike, ap out_told (said ∙ ap client_pull_out known.0), keeps)
