-- lines for nodes, in the world that is kept
use Rattle.std.proofs.Common.{◌≡◌, ℕ, Bool, true, false, List, [], ◌∷◌, ◌++◌, get_or, set, refl, ap, sym, ◌∙◌, subst, Option, Some, None, is_some}
use Rattle.std.specs.Prelude.{◌==◌, not, if◌then◌else◌}
use Rattle.std.specs.List.{position}
use Rattle.std.proofs.lemmas.Bool.{eqb-true}
use Rattle.std.proofs.lemmas.List.{get_or_default}
use Rattle.std.proofs.lemmas.List.Quantifiers.{position-Some}
use Rattle.disk_journals.specs.Books.{Book}
use Rattle.disk_journals.specs.Devices.{fuse_device}
use Rattle.disk_journals.specs.Stands.{ShelvesStand}
use Rattle.slab.specs.Slab.{get}
use Rattle.vb_events.specs.declared.event.Cause.TheVariants as cause
use Rattle.vbucket.specs.Rows.{row_at}
use Rattle.vbucket.specs.Stands.{SlotsStand}
use Rattle.vbucket.proofs.RowsAt.{at_push, placed, not_placed}
use Rattle.node_core.specs.declared.conn.Conn.{Conn}
use Rattle.node_core.specs.Outcomes.{value_at}
use Rattle.node_world.specs.declared.script_node.ScriptNode.{ScriptNode}
use Rattle.node_world.specs.declared.told.Told.{Told}
use Rattle.node_world.specs.Arms.{no_arm}
use Rattle.node_world.specs.Ends.{Carries, KeepsEnds}
use Rattle.node_world.specs.Nodes.{PlainNode, empty_node, done, if_up, refusal, refused_or}
use Rattle.node_world.specs.Stands.{client_part, peer_part, ClientStands, NodeMatch, NodeStands, node_number, NodesStand, peer_in, dial_in, ends_of, IdsStand, LinksStand, Kept, OffStands, WorldStands, IsNodeIf}
use Rattle.node_world.specs.World.{PlainWorld, on_node, node_step}
use Rattle.node_world.specs.Worlds.{Outcome, is_off, is_up, node_outcome, on_made, with_node_at}
use Rattle.node_world.proofs.Held.{same_ends}
use Rattle.node_world.proofs.Places.{no_node, plain_at, numbered, step_stands, peers_stay, dials_stay}

-- a line of a node leaves ids and links
pub outcome_uuids : {T : Type 0} (w : PlainWorld) (n : ℕ) (absent : T) (o : Option PlainNode) (f : PlainNode → PlainNode × T) → (node_outcome w n absent o f).0.uuids ≡ w.uuids
outcome_uuids w n absent None f = refl
outcome_uuids w n absent (Some node) f = refl

pub outcome_links : {T : Type 0} (w : PlainWorld) (n : ℕ) (absent : T) (o : Option PlainNode) (f : PlainNode → PlainNode × T) → (node_outcome w n absent o f).0.links ≡ w.links
outcome_links w n absent None f = refl
outcome_links w n absent (Some node) f = refl

-- the kept world with other nodes
abbrev pub with_nodes : Kept → List ScriptNode → Kept
with_nodes kept nodes = record kept { nodes = nodes }

-- the place of a node was looked up in the nodes that the world keeps
module _ (kept inside : Kept) (items : List ScriptNode) (n : ℕ) (place : Option ℕ) (seen : inside ≡ kept) (read : items ≡ inside.nodes) (found : place ≡ position (λ node. node_number node == n) items) where
  pub in_inside : position (λ node. node_number node == n) inside.nodes ≡ place
  in_inside = sym (found ∙ ap (λ (nodes : List ScriptNode). position (λ node. node_number node == n) nodes) read)

  pub in_kept : position (λ node. node_number node == n) kept.nodes ≡ place
  in_kept = ap (λ (k : Kept). position (λ node. node_number node == n) k.nodes) (sym seen) ∙ in_inside

-- a place has one node
pub same_seat : (nodes : List ScriptNode) (n at : ℕ) (x y : ScriptNode) → position (λ node. node_number node == n) nodes ≡ Some at → x ≡ get_or nodes at x → y ≡ get_or nodes at y → x ≡ y
same_seat nodes n at x y is_placed is also =
    let (lt, here, before) = position-Some (λ node. node_number node == n) nodes at x is_placed in is ∙ get_or_default nodes at x y lt ∙ sym also

-- there is no place
pub is_nothing : (o : Option ℕ) → is_some o ≡ false → o ≡ None
is_nothing None e = refl
is_nothing (Some i) e = cc

-- what stands for a world stands for it inside
pub stands_in : (kept inside : Kept) (w : PlainWorld) → inside ≡ kept → WorldStands kept w → WorldStands inside w
stands_in kept inside w seen stands = subst (λ k. WorldStands k w) (sym seen) stands

-- what a line for a node comes to
abbrev Comes : Kept → Told → Outcome → Type 0
Comes kept told o = WorldStands kept o.0 × (told ≡ o.1)

-- the node that a line names is not made
pub absent_made : (kept : Kept) (w : PlainWorld) (n : ℕ) (f : PlainNode → PlainNode × Told) → position (λ node. node_number node == n) kept.nodes ≡ None → WorldStands kept w
    → WorldStands kept (on_made w n f).0 × (refusal cause.UnknownNode ≡ (on_made w n f).1)
absent_made kept w n f none stands =
    subst (λ o. WorldStands kept (node_outcome w n (refusal cause.UnknownNode) o f).0 × (refusal cause.UnknownNode ≡ (node_outcome w n (refusal cause.UnknownNode) o f).1)) (sym (no_node kept.nodes w n none stands.nodes)) (stands, refl)

pub absent_line : (kept : Kept) (w : PlainWorld) (n : ℕ) (f : PlainNode → PlainNode × Told) → position (λ node. node_number node == n) kept.nodes ≡ None → WorldStands kept w
    → WorldStands kept (on_node w n f).0 × (refusal cause.UnknownNode ≡ (on_node w n f).1)
absent_line kept w n f none stands = absent_made kept w n (if_up f) none stands

-- a node is down exactly where the plain one is
pub off_as_plain : (old : ScriptNode) (plain : PlainNode) → NodeMatch old plain → is_some old.off ≡ is_some plain.off
off_as_plain old plain alike = by plain.off alike.off
  where
    by : (o : Option (List Book)) → OffStands old o → is_some old.off ≡ is_some o
    by None h = ap is_some h
    by (Some books) h = h.there

-- it was seen to be running, or not
pub seen_down : {T : Type 0} (o : Option T) (up : Bool) → up ≡ not (is_some o) → up ≡ false → is_some o ≡ true
seen_down None up is e = let no : true ≡ false = sym is ∙ e in cc
seen_down (Some t) up is e = refl

pub seen_up : {T : Type 0} (o : Option T) (up : Bool) → up ≡ not (is_some o) → up ≡ true → is_some o ≡ false
seen_up None up is e = refl
seen_up (Some t) up is e = let no : false ≡ true = sym is ∙ e in cc

-- a line of a running node
pub up_carries : (g : PlainNode → PlainNode × Told) (old : ScriptNode) (told : Told) (new : ScriptNode) → is_some old.off ≡ false → Carries g old told new → Carries (if_up g) old told new
up_carries g old told new up carried plain alike =
    subst (λ b. let x : PlainNode × Told = if b then (plain, refusal cause.NodeDown) else g plain in NodeMatch new x.0 × (told ≡ x.1) × KeepsEnds old new) (sym (sym (off_as_plain old plain alike) ∙ up)) (carried plain alike)

-- what is there at n already
pub same_world : (w : PlainWorld) (n : ℕ) (plain : PlainNode) → w.nodes n ≡ Some plain → with_node_at w n plain ≡ w
same_world w n plain there = λ i. record { nodes = λ m. each m (m == n) refl i; uuids = w.uuids; links = w.links }
  where
    each : (m : ℕ) (b : Bool) → (m == n) ≡ b → (if b then Some plain else w.nodes m) ≡ w.nodes m
    each m true e = sym (ap w.nodes (eqb-true m n e) ∙ there)
    each m false e = refl

-- it is made
module _ (kept : Kept) (w : PlainWorld) (n at : ℕ) (old new : ScriptNode) (is_placed : position (λ node. node_number node == n) kept.nodes ≡ Some at) (is : old ≡ get_or kept.nodes at old) (stands : WorldStands kept w) where
  pub made_line : (f : ℕ → PlainNode → PlainNode × Told) (told : Told) → Carries (f (node_number old)) old told new
      → WorldStands (with_nodes kept (set kept.nodes at new)) (on_made w n (f n)).0 × (told ≡ (on_made w n (f n)).1)
  made_line f told carried =
      let carries : Carries (f n) old told new = subst (λ m. Carries (f m) old told new) (numbered kept.nodes n at old new is_placed is) carried in
      let (plain, there, alike) = plain_at kept.nodes n at old new is_placed is w stands.nodes in
      let ends = (carries plain alike).2 in
      let known = step_stands kept.nodes n at old new is_placed is ends.number w (refusal cause.UnknownNode) (f n) (λ t. told ≡ t) stands.nodes (λ x same. let went = carries x same in (went.0, went.1)) in (
        record {
          nodes = known.0;
          ids = subst (IdsStand kept.ids) (sym (outcome_uuids w n (refusal cause.UnknownNode) (w.nodes n) (f n))) stands.ids;
          links = subst (LinksStand (ends_of (set kept.nodes at new)) kept.links) (sym (outcome_links w n (refusal cause.UnknownNode) (w.nodes n) (f n)))
              (same_ends (ends_of kept.nodes) (ends_of (set kept.nodes at new)) kept.links w.links (peers_stay kept.nodes n at old new is_placed is ends.number ends.peers) (dials_stay kept.nodes n at old new is_placed is ends.number ends.dials) stands.links);
        },
        known.1,
      )

  -- whether the plain one is down
  pub off_at : is_off (w.nodes n) ≡ is_some old.off
  off_at = let (plain, there, alike) = plain_at kept.nodes n at old new is_placed is w stands.nodes in ap is_off there ∙ sym (off_as_plain old plain alike)

  pub up_at : is_up (w.nodes n) ≡ not (is_some old.off)
  up_at = let (plain, there, alike) = plain_at kept.nodes n at old new is_placed is w stands.nodes in ap is_up there ∙ ap not (sym (off_as_plain old plain alike))

  pub made_at : is_some (w.nodes n) ≡ true
  made_at = let (plain, there, alike) = plain_at kept.nodes n at old new is_placed is w stands.nodes in ap is_some there

  -- it is running
  pub node_line : is_some old.off ≡ false → (f : ℕ → PlainNode → PlainNode × Told) (told : Told) → Carries (f (node_number old)) old told new
      → WorldStands (with_nodes kept (set kept.nodes at new)) (on_node w n (f n)).0 × (told ≡ (on_node w n (f n)).1)
  node_line running f told carried = made_line (λ m. if_up (f m)) told (up_carries (f (node_number old)) old told new running carried)

  -- it is down
  pub down_line : is_some old.off ≡ true → (f : PlainNode → PlainNode × Told) → WorldStands kept (on_node w n f).0 × (refusal cause.NodeDown ≡ (on_node w n f).1)
  down_line down f =
      let (plain, there, alike) = plain_at kept.nodes n at old new is_placed is w stands.nodes in
      let off : is_some plain.off ≡ true = sym (off_as_plain old plain alike) ∙ down in
      subst (λ o. Comes kept (refusal cause.NodeDown) (node_outcome w n (refusal cause.UnknownNode) o (if_up f))) (sym there)
      (subst (λ b. let x : PlainNode × Told = if b then (plain, refusal cause.NodeDown) else f plain in Comes kept (refusal cause.NodeDown) (with_node_at w n x.0, x.1)) (sym off)
      (subst (WorldStands kept) (sym (same_world w n plain there)) stands, refl))

  -- what is handed out of it
  pub node_seen : is_some old.off ≡ false → IsNodeIf n (Some old.node) (w.nodes n)
  node_seen running =
      let (plain, there, alike) = plain_at kept.nodes n at old new is_placed is w stands.nodes in
      subst (IsNodeIf n (Some old.node)) (sym there) (
        none_off plain.off (sym (off_as_plain old plain alike) ∙ running),
        record { number = numbered kept.nodes n at old new is_placed is; slots = alike.slots; shelves = alike.shelves; keys = old.clients; clients = alike.clients },
      )
    where
      none_off : (o : Option (List Book)) → is_some o ≡ false → o ≡ None
      none_off None e = refl
      none_off (Some books) e = cc

  -- nothing is handed out of one that is down
  pub node_hidden : is_some old.off ≡ true → IsNodeIf n None (w.nodes n)
  node_hidden down =
      let (plain, there, alike) = plain_at kept.nodes n at old new is_placed is w stands.nodes in
      subst (IsNodeIf n None) (sym there) (sym (off_as_plain old plain alike) ∙ down)

-- a node that has a place is made
pub made_place : (kept : Kept) (w : PlainWorld) (n at : ℕ) (d : ScriptNode) → position (λ node. node_number node == n) kept.nodes ≡ Some at → WorldStands kept w → is_some (w.nodes n) ≡ true
made_place kept w n at d is_placed stands =
    let (lt, here, before) = position-Some (λ node. node_number node == n) kept.nodes at d is_placed in
    let node = get_or kept.nodes at d in
    made_at kept w n at node node is_placed (get_or_default kept.nodes at d node lt) stands

-- `node N`: there is one
pub node_exists : (kept : Kept) (w : PlainWorld) (n : ℕ) → is_some (position (λ node. node_number node == n) kept.nodes) ≡ true → WorldStands kept w
    → WorldStands kept (node_step w n).0 × (refusal cause.NodeExists ≡ (node_step w n).1)
node_exists kept w n there stands = by (row_at node_number n kept.nodes) (w.nodes n) (sym (placed node_number n kept.nodes) ∙ there) (stands.nodes n)
  where
    by : (r : Option ScriptNode) (o : Option PlainNode) → is_some r ≡ true → NodeStands r o
        → WorldStands kept (refused_or (if is_some o then Some cause.NodeExists else None) w (with_node_at w n empty_node, done [])).0
        × (refusal cause.NodeExists ≡ (refused_or (if is_some o then Some cause.NodeExists else None) w (with_node_at w n empty_node, done [])).1)
    by None o e h = cc
    by (Some seat) None e h = absurd h
    by (Some seat) (Some plain) e h = (stands, refl)

-- a node with nothing
module _ (node : ScriptNode) (vbs : node.node.vbs ≡ []) (disks : node.node.disks ≡ []) (conns : node.node.conns.slots ≡ []) (dials : node.node.dials ≡ []) (clients : node.clients ≡ []) (clock : node.clock ≡ 0) (made : node.made ≡ 0) (arm : node.arm ≡ no_arm) (off : node.off ≡ None) where
  no_conn : (key : ℕ) → get node.node.conns key ≡ None
  no_conn key = ap (λ (slots : List (Option Conn)). get (record node.node.conns { slots = slots }) key) conns

  no_key : (c : ℕ) → value_at node.clients c ≡ None
  no_key c = ap (λ (keys : List (ℕ × ℕ)). value_at keys c) clients

  pub empty_match : NodeMatch node empty_node
  empty_match = record {
    slots = subst (λ slots. SlotsStand slots empty_node.vbs) (sym vbs) (λ v. tt);
    shelves = subst (λ slots. ShelvesStand fuse_device slots empty_node.shelves) (sym disks) (λ v. tt);
    made = made;
    clock = clock;
    clients = record {
      each = λ c. subst (λ o. ClientStands node.node.conns o None) (sym (no_key c)) tt;
      apart = λ c d key has also. let no : None ≡ Some key = sym (no_key c) ∙ has in cc;
      owned = λ key has. let no : false ≡ true = sym (ap (λ o. is_some (client_part o)) (no_conn key)) ∙ has in cc;
    };
    bases = λ c. tt;
    arm = arm;
    off = off;
  }

  -- `node N`: it is made
  pub node_made : (kept : Kept) (w : PlainWorld) (n : ℕ) → position (λ x. node_number x == n) kept.nodes ≡ None → node_number node ≡ n → WorldStands kept w
      → WorldStands (with_nodes kept (kept.nodes ++ node ∷ [])) (node_step w n).0 × (done [] ≡ (node_step w n).1)
  node_made kept w n none number stands =
      let e : w.nodes n ≡ None = no_node kept.nodes w n none stands.nodes in
      subst (λ o. WorldStands more (refused_or (if is_some o then Some cause.NodeExists else None) w (with_node_at w n empty_node, done [])).0
      × (done [] ≡ (refused_or (if is_some o then Some cause.NodeExists else None) w (with_node_at w n empty_node, done [])).1)) (sym e)
      (record { nodes = nodes_stand; ids = stands.ids; links = same_ends (ends_of kept.nodes) (ends_of (kept.nodes ++ node ∷ [])) kept.links w.links peers dials_same stands.links }, refl)
    where
      more : Kept
      more = with_nodes kept (kept.nodes ++ node ∷ [])

      row : (m : ℕ) → row_at node_number m (kept.nodes ++ node ∷ []) ≡ (if m == n then Some node else row_at node_number m kept.nodes)
      row m = at_push node_number n m kept.nodes node (not_placed node_number n kept.nodes none) number

      at_each : (m : ℕ) (b : Bool) → NodeStands (if b then Some node else row_at node_number m kept.nodes) (if b then Some empty_node else w.nodes m)
      at_each m true = empty_match
      at_each m false = stands.nodes m

      nodes_stand : NodesStand (kept.nodes ++ node ∷ []) (with_node_at w n empty_node)
      nodes_stand m = subst (λ r. NodeStands r (if m == n then Some empty_node else w.nodes m)) (sym (row m)) (at_each m (m == n))

      nothing : (m : ℕ) → (m == n) ≡ true → row_at node_number m kept.nodes ≡ None
      nothing m e = ap (λ k. row_at node_number k kept.nodes) (eqb-true m n e) ∙ not_placed node_number n kept.nodes none

      peers : (m key : ℕ) → (ends_of (kept.nodes ++ node ∷ [])).peers m key ≡ (ends_of kept.nodes).peers m key
      peers m key = ap (λ o. peer_in o key) (row m) ∙ by (m == n) refl
        where
          by : (b : Bool) → (m == n) ≡ b → peer_in (if b then Some node else row_at node_number m kept.nodes) key ≡ peer_in (row_at node_number m kept.nodes) key
          by true e = ap peer_part (no_conn key) ∙ sym (ap (λ o. peer_in o key) (nothing m e))
          by false e = refl

      dials_same : (m v : ℕ) → (ends_of (kept.nodes ++ node ∷ [])).dials m v ≡ (ends_of kept.nodes).dials m v
      dials_same m v = ap (λ o. dial_in o v) (row m) ∙ by (m == n) refl
        where
          by : (b : Bool) → (m == n) ≡ b → dial_in (if b then Some node else row_at node_number m kept.nodes) v ≡ dial_in (row_at node_number m kept.nodes) v
          by true e = ap (λ rows. value_at rows v) dials ∙ sym (ap (λ o. dial_in o v) (nothing m e))
          by false e = refl
