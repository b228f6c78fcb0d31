-- what lines that make, open, dial and arm make of their arguments
use Rattle.std.proofs.Common.{◌≡◌, ℕ, [], ◌∷◌, ◌++◌, refl, ap, ◌∙◌, Option, Some, None, is_some}
use Rattle.std.specs.Prelude.{option_and_then, if◌then◌else◌}
use Rattle.std.proofs.lemmas.Bool.{eq-eqb, lt-leb, ne_eqb}
use Rattle.disk_journals.specs.Arms.{fuse_at, under}
use Rattle.vb_disk.specs.declared.fuse.Fuse.{Fuse}
use Rattle.vb_disk.specs.declared.fuse.Fuse.TheVariants as fuse
use Rattle.vb_disk.specs.declared.made.Outcome.TheVariants.{Old}
use Rattle.vb_events.specs.declared.event.Answer.TheVariants as line
use Rattle.vb_events.specs.declared.event.Cause.{Cause}
use Rattle.vb_events.specs.declared.event.Cause.TheVariants as cause
use Rattle.vb_types.specs.declared.journal.Record.TheVariants.{State}
use Rattle.vb_types.specs.declared.role.Role.{Role}
use Rattle.vb_types.specs.declared.role.Role.TheVariants as role
use Rattle.vb_calls.specs.Shelves.{Append, Shelf, Shelves, shelves_step}
use Rattle.vb_calls.specs.State.{Plain, first_log, new_vb}
use Rattle.node_core.specs.Calls.{named_ask}
use Rattle.node_core.specs.Clients.{PlainClient, client_pulled, new_client}
use Rattle.dcp_producer.specs.Ending.{end_closed}
use Rattle.vb_calls.specs.Jobs.{after_reads}
use Rattle.vb_calls.specs.Programs.{after}
use Rattle.vb_calls.specs.States.{States}
use Rattle.node_world.specs.declared.arm.Arm.{Arm}
use Rattle.node_world.specs.declared.arm.Fired.TheVariants as fired
use Rattle.node_world.specs.declared.told.Told.{Told}
use Rattle.node_world.specs.Arguments.{DialsAs, LeavesClient, MakesVb, PassesArms, PassesClients, PassesDials, PassesVbs}
use Rattle.node_world.specs.Arms.{fail_arm, fired_by, no_arm, placed, stop_arm}
use Rattle.node_world.specs.Causes.{Notes}
use Rattle.node_world.specs.Links.{PlainLink, ask_of, new_link}
use Rattle.node_world.specs.Nodes.{PlainNode, arm_at, client_at, done, first_cause, hang_at, refusal, refused_or, replica_at, shelf_or_blank, vb_at, vb_made, with_client, with_disk, hung_if, pull_at, pull_if, with_states}
use Rattle.node_world.specs.Power.{after_fire, with_arm}
use Rattle.node_world.specs.World.{ask_in, base_of, link_causes, with_dialed}
use Rattle.node_world.specs.Worlds.{PlainWorld, Outcome, arm_in, on_made, on_node, vb_in, with_links}
use Rattle.node_world.proofs.CallsMade.{leaves_so, line_is}
use Rattle.node_world.proofs.PullReads.{pull_is}
use Rattle.node_world.proofs.NodeCauses.{vb_row}
use Rattle.node_world.proofs.Shelved.{shelf_here}
use Rattle.node_world.proofs.Unfired.{append_burns, left_burnt, made_as, over_is, stood_passed}

-- ---- connections

module _ (w : PlainWorld) (n : ℕ) (node : PlainNode) (there : w.nodes n ≡ Some node) (up : node.off ≡ None) where
  -- the node with these vBuckets, and this at the connection
  abbrev left : States → ℕ → Option PlainClient → PlainNode
  left states c client = with_client (with_states node states) c client

  left_client : (c : ℕ) (states : States) (client : Option PlainClient) (told : Told) (f : PlainNode → PlainNode × Told) → f node ≡ (left states c client, told) → LeavesClient n c node (left states c client) states (on_node w n f)
  left_client c states client told f is = record {
    is = (leaves_so w n node there up f (left states c client, told) is).is;
    others = λ d ne. ap (λ b. if b then client else node.clients d) (ne_eqb d c ne);
    vbs = refl;
  }

  put_client : (c : ℕ) (client : Option PlainClient) → (with_client node c client).clients c ≡ client
  put_client c client = ap (λ b. if b then client else node.clients c) (eq-eqb c c refl)

  pub clients : PassesClients w n node
  clients = record {
    opens = λ number c none.
        let client : PlainClient = new_client (record { node = n; client = c; base = base_of number }) in (
          with_client node c (Some client),
          client,
          left_client c node.vbs (Some client) (done []) (client_at n (base_of number) c) (ap (λ o. if is_some o then (node, refusal cause.LinkOpen) else (with_client node c (Some client), done [])) none),
          put_client c (Some client),
          refl,
          refl,
        );
    hangs = λ number c client is. let states = (after (end_closed client.producer) node.vbs).0 in (left states c None, left_client c states None (done []) (hang_at c) (ap (hung_if c node) is), put_client c None);
    pulls = λ number c frames client is.
        let put = after_reads (client_pulled frames client) node.shelves node.vbs in
        let told : Told = record { events = put.1.events; answer = put.1.answer } in
        let goes : pull_at c frames node ≡ (left put.0 c (Some put.1.client), told) = ap (pull_if c frames node) is ∙ pull_is c frames client node in (
          left put.0 c (Some put.1.client),
          left_client c put.0 (Some put.1.client) told (pull_at c frames) goes,
          put_client c (Some put.1.client),
          ap (λ (o : Outcome). o.1) (line_is w n node there up (pull_at c frames)) ∙ ap (λ (x : PlainNode × Told). x.1) goes,
        );
  }

-- ---- arms

module _ (w : PlainWorld) (n : ℕ) (node : PlainNode) (there : w.nodes n ≡ Some node) where
  armed : (arm : Arm) → (on_made w n (arm_at arm)).0.nodes n ≡ Some (record node { arm = arm })
  armed arm = ap (λ (o : Outcome). o.0.nodes n) (made_as w n node there (arm_at arm)) ∙ ap (λ b. if b then Some (record node { arm = arm }) else w.nodes n) (eq-eqb n n refl)

  pub arms : PassesArms w n node
  arms = record {
    stops = λ number k out some. armed (stop_arm k out) ∙ ap (λ b. Some (record node { arm = if b then no_arm else record { fuse = fuse.Stop k; out = out } })) (ne_eqb k 0 some);
    fails = λ number k some. (Old, armed (fail_arm k) ∙ ap (λ b. Some (record node { arm = if b then no_arm else record { fuse = fuse.Fail k; out = Old } })) (ne_eqb k 0 some));
    unstopped = λ number out. (Old, armed (stop_arm 0 out));
    unfailed = λ number. (Old, armed (fail_arm 0));
  }

-- ---- vBuckets

module _ (w : PlainWorld) (n : ℕ) (node : PlainNode) (there : w.nodes n ≡ Some node) (up : node.off ≡ None) where
  abbrev F : Fuse
  F = node.arm.fuse

  module _ (v : ℕ) (r : Role) (uuid : ℕ) (f : PlainNode → PlainNode × Told) (is : f node ≡ vb_made n v r uuid node) (notes : Notes node (shelf_or_blank (node.shelves v))) where
    abbrev shelf : Shelf
    shelf = under F (shelf_or_blank (node.shelves v))

    abbrev S : Shelves
    S = (placed v (with_disk node v)).shelves

    abbrev now : PlainNode
    now = (vb_made n v r uuid node).0

    stands_there : S v ≡ Some shelf
    stands_there = over_is (with_disk node v).shelves v F (shelf_or_blank (node.shelves v)) (shelf_here node.shelves v (shelf_or_blank (node.shelves v)))

    quiet : fired_by F now.arm.fuse ≡ fired.No
    quiet = left_burnt F (fuse_at (shelves_step S v (Append (State r (first_log r uuid)))).0 v) (append_burns S v (State r (first_log r uuid)) shelf stands_there notes) (stood_passed shelf notes)

    here : (on_node w n f).0.nodes n ≡ Some now
    here = (leaves_so w n node there up f (vb_made n v r uuid node) is).is

    whole : (with_arm n w (on_node w n f)).0 ≡ (on_node w n f).0
    whole = ap (λ k. (after_fire n (arm_in (w.nodes n)).out k (on_node w n f)).0) ((λ i. fired_by (arm_in (there i)).fuse (arm_in (here i)).fuse) ∙ quiet)

    makes : MakesVb n v r uuid node now (with_arm n w (on_node w n f))
    makes = record {
      is = ap (λ (x : PlainWorld). x.nodes n) whole ∙ here;
      made = ap (λ b. if b then Some (new_vb n r uuid) else node.vbs v) (eq-eqb v v refl);
      others = λ u ne. ap (λ b. if b then Some (new_vb n r uuid) else node.vbs u) (ne_eqb u v ne);
      count = refl;
    }

  pub vbs : PassesVbs w n node
  vbs = record {
    active = λ number v uuid none room some free notes. (
      (vb_made n v role.Active uuid node).0,
      makes v role.Active uuid (vb_at w.uuids n v uuid)
          (λ i. vb_row w n node there up (is_some (none i)) (lt-leb 64 node.made room i) ((ne_eqb uuid 0 some i, cause.UuidZero) ∷ (free i, cause.UuidUsed) ∷ []) (vb_made n v role.Active uuid node)) notes,
    );
    replica = λ number v none room notes. (
      (vb_made n v role.Replica 0 node).0,
      makes v role.Replica 0 (replica_at n v) (λ i. vb_row w n node there up (is_some (none i)) (lt-leb 64 node.made room i) [] (vb_made n v role.Replica 0 node)) notes,
    );
  }

-- ---- links

no_ok : (why : Cause) → line.No why ≡ line.Ok → ⊥
no_ok why e = cc

module _ (w : PlainWorld) (n v : ℕ) (node : PlainNode) (vb : Plain) (there : w.nodes n ≡ Some node) (here : node.vbs v ≡ Some vb) where
  pub dials : PassesDials w n v node vb
  dials number l m buffer takeover ask asks ok = by (first_cause (link_causes w l m n v)) ok
    where
      asked : ask_in w n v ≡ Some ask
      asked = ap (λ o. option_and_then ask_of (vb_in o v)) there ∙ ap (option_and_then ask_of) here ∙ ap named_ask asks

      came : Outcome
      came = (with_links w (with_dialed number l m n v buffer takeover w.links (ask_in w n v)), done [])

      by : (why : Option Cause) → (refused_or why w came).1.answer ≡ line.Ok → (link : PlainLink) × ((refused_or why w came).0.links ≡ w.links ++ link ∷ []) × DialsAs number l m n v buffer takeover ask link
      by (Some why) ok = absurd (no_ok why ok)
      by None ok = (new_link number l m n v buffer takeover ask, ap (with_dialed number l m n v buffer takeover w.links) asked, record { consumer = refl; producer = refl; up = refl; down = refl })
