-- nodes in their places: what a step of one of them makes of the others, and of the ends of links
use Rattle.std.proofs.Common.{◌≡◌, ℕ, ◌<◌, Bool, true, false, List, [], length, get_or, set, refl, ap, sym, ◌∙◌, subst, Option, Some, None, is_some}
use Rattle.std.specs.Prelude.{◌==◌, ◌&&◌, if◌then◌else◌}
use Rattle.std.specs.List.{position}
use Rattle.std.specs.Option.{option_map}
use Rattle.std.proofs.lemmas.Bool.{eqb-true, eqb-false, eq-eqb}
use Rattle.std.proofs.lemmas.List.Quantifiers.{position-Some}
use Rattle.vbucket.specs.Rows.{row_at}
use Rattle.vbucket.proofs.RowsAt.{at_place, at_set, not_placed}
use Rattle.node_core.specs.Dials.{KeptDial}
use Rattle.node_core.specs.GivingUp.{GiveResult}
use Rattle.node_core.specs.Peers.{KeptPeer}
use Rattle.node_world.specs.declared.script_node.ScriptNode.{ScriptNode}
use Rattle.node_world.specs.Ends.{peer_under, dial_under, PutsPeer, PutsDial, kept_peer_ended, kept_peer_given, TellsEnds, TellsGiven}
use Rattle.node_world.specs.Nodes.{PlainNode}
use Rattle.node_world.specs.Stands.{NodeMatch, NodeStands, node_number, NodesStand, live_peer, peer_in, dial_in, Ends, ends_of}
use Rattle.node_world.specs.Worlds.{PlainWorld, node_outcome, node_if, with_node_if}
use Rattle.node_world.proofs.Rows.{row_number}

-- where no node of a number is kept, the plain world has none
pub no_node : (nodes : List ScriptNode) (w : PlainWorld) (n : ℕ) → position (λ node. node_number node == n) nodes ≡ None → NodesStand nodes w → w.nodes n ≡ None
no_node nodes w n none stand = by (w.nodes n) (subst (λ r. NodeStands r (w.nodes n)) (not_placed node_number n nodes none) (stand n))
  where
    by : (o : Option PlainNode) → NodeStands None o → o ≡ None
    by None h = refl
    by (Some plain) h = absurd h

-- and nodes keep no peer and no dial there
pub no_peer : (nodes : List ScriptNode) (n key : ℕ) → position (λ node. node_number node == n) nodes ≡ None → (ends_of nodes).peers n key ≡ None
no_peer nodes n key none = ap (λ o. peer_in o key) (not_placed node_number n nodes none)

pub no_dial : (nodes : List ScriptNode) (n v : ℕ) → position (λ node. node_number node == n) nodes ≡ None → (ends_of nodes).dials n v ≡ None
no_dial nodes n v none = ap (λ o. dial_in o v) (not_placed node_number n nodes none)

-- the node of a number is at a place, and another one takes its place
module _ (nodes : List ScriptNode) (n at : ℕ) (old new : ScriptNode) (placed : position (λ node. node_number node == n) nodes ≡ Some at) (is : old ≡ get_or nodes at old) where
  first : (at < length nodes) × ((node_number (get_or nodes at old) == n) ≡ true) × ((k : ℕ) → k < at → (node_number (get_or nodes k old) == n) ≡ false)
  first = let (lt, here, before) = position-Some (λ node. node_number node == n) nodes at old placed in (lt, here, before)

  pub here : row_at node_number n nodes ≡ Some old
  here = at_place node_number n nodes at old first.0 first.1 first.2 ∙ ap Some (sym is)

  pub numbered : node_number old ≡ n
  numbered = row_number node_number n nodes old here

  -- what it keeps
  pub peer_here : (key : ℕ) → (ends_of nodes).peers n key ≡ peer_under old key
  peer_here key = ap (λ o. peer_in o key) here

  pub dial_here : (v : ℕ) → (ends_of nodes).dials n v ≡ dial_under old v
  dial_here v = ap (λ o. dial_in o v) here

  -- the plain node that it stands for
  pub plain_at : (w : PlainWorld) → NodesStand nodes w → (plain : PlainNode) × (w.nodes n ≡ Some plain) × NodeMatch old plain
  plain_at w stand = by (w.nodes n) (subst (λ r. NodeStands r (w.nodes n)) here (stand n))
    where
      by : (o : Option PlainNode) → NodeStands (Some old) o → (plain : PlainNode) × (o ≡ Some plain) × NodeMatch old plain
      by None h = absurd h
      by (Some plain) h = (plain, refl, h)

  module _ (same : node_number new ≡ node_number old) where
    after_set : (k : ℕ) → row_at node_number k (set nodes at new) ≡ (if k == n then Some new else row_at node_number k nodes)
    after_set k = at_set node_number n k nodes at old new first.0 first.1 first.2 (same ∙ numbered)

    -- what a line for it makes of the world
    pub step_stands : {T : Type 0} (w : PlainWorld) (absent : T) (f : PlainNode → PlainNode × T) (Q : T → Type 0) → NodesStand nodes w → ((plain : PlainNode) → NodeMatch old plain → NodeMatch new (f plain).0 × Q (f plain).1)
        → NodesStand (set nodes at new) (node_outcome w n absent (w.nodes n) f).0 × Q (node_outcome w n absent (w.nodes n) f).1
    step_stands {T} w absent f Q stand step = by (w.nodes n) (subst (λ r. NodeStands r (w.nodes n)) here (stand n))
      where
        at_each : (plain : PlainNode) → NodeMatch new plain → (k : ℕ) (b : Bool) → (k == n) ≡ b → NodeStands (if b then Some new else row_at node_number k nodes) (if b then Some plain else w.nodes k)
        at_each plain alike k true e = alike
        at_each plain alike k false e = stand k

        by : (o : Option PlainNode) → NodeStands (Some old) o → NodesStand (set nodes at new) (node_outcome w n absent o f).0 × Q (node_outcome w n absent o f).1
        by None h = absurd h
        by (Some plain) h =
            let known = step plain h in (
              λ k. subst (λ r. NodeStands r (if k == n then Some (f plain).0 else w.nodes k)) (sym (after_set k)) (at_each (f plain).0 known.0 k (k == n) refl),
              known.1,
            )

    -- a step that leaves the plain node as it was
    pub same_stands : (w : PlainWorld) → NodesStand nodes w → ((plain : PlainNode) → NodeMatch old plain → NodeMatch new plain) → NodesStand (set nodes at new) w
    same_stands w stand step k = subst (λ r. NodeStands r (w.nodes k)) (sym (after_set k)) (by (k == n) refl)
      where
        map : (o : Option PlainNode) → NodeStands (Some old) o → NodeStands (Some new) o
        map None h = absurd h
        map (Some plain) h = step plain h

        by : (b : Bool) → (k == n) ≡ b → NodeStands (if b then Some new else row_at node_number k nodes) (w.nodes k)
        by true e = map (w.nodes k) (subst (λ r. NodeStands r (w.nodes k)) (ap (λ j. row_at node_number j nodes) (eqb-true k n e) ∙ here) (stand k))
        by false e = stand k

    -- a step of a node that may not be made
    pub if_stands : (w : PlainWorld) (f : PlainNode → PlainNode) → NodesStand nodes w → ((plain : PlainNode) → NodeMatch old plain → NodeMatch new (f plain)) → NodesStand (set nodes at new) (with_node_if n f w)
    if_stands w f stand step = by (w.nodes n) (step_stands w absent (λ plain. (f plain, absent)) (λ t. List ℕ) stand (λ plain alike. (step plain alike, absent))).0
      where
        absent : List ℕ
        absent = []

        by : (o : Option PlainNode) → NodesStand (set nodes at new) (node_outcome w n absent o (λ plain. (f plain, absent))).0 → NodesStand (set nodes at new) (node_if n f w o)
        by None h = h
        by (Some plain) h = h

    -- the ends that nodes keep then
    abbrev after : Ends
    after = ends_of (set nodes at new)

    abbrev before : Ends
    before = ends_of nodes

    peers_after : (m key : ℕ) → after.peers m key ≡ (if m == n then peer_under new key else before.peers m key)
    peers_after m key = ap (λ o. peer_in o key) (after_set m) ∙ by (m == n)
      where
        by : (b : Bool) → peer_in (if b then Some new else row_at node_number m nodes) key ≡ (if b then peer_under new key else before.peers m key)
        by true = refl
        by false = refl

    dials_after : (m v : ℕ) → after.dials m v ≡ (if m == n then dial_under new v else before.dials m v)
    dials_after m v = ap (λ o. dial_in o v) (after_set m) ∙ by (m == n)
      where
        by : (b : Bool) → dial_in (if b then Some new else row_at node_number m nodes) v ≡ (if b then dial_under new v else before.dials m v)
        by true = refl
        by false = refl

    peer_there : (m key : ℕ) → (m == n) ≡ true → before.peers m key ≡ peer_under old key
    peer_there m key e = ap (λ k. before.peers k key) (eqb-true m n e) ∙ peer_here key

    dial_there : (m v : ℕ) → (m == n) ≡ true → before.dials m v ≡ dial_under old v
    dial_there m v e = ap (λ k. before.dials k v) (eqb-true m n e) ∙ dial_here v

    -- its peers stay
    pub peers_stay : ((key : ℕ) → peer_under new key ≡ peer_under old key) → (m key : ℕ) → after.peers m key ≡ before.peers m key
    peers_stay stay m key = peers_after m key ∙ by (m == n) refl
      where
        by : (b : Bool) → (m == n) ≡ b → (if b then peer_under new key else before.peers m key) ≡ before.peers m key
        by true e = stay key ∙ sym (peer_there m key e)
        by false e = refl

    -- its dials stay
    pub dials_stay : ((v : ℕ) → dial_under new v ≡ dial_under old v) → (m v : ℕ) → after.dials m v ≡ before.dials m v
    dials_stay stay m v = dials_after m v ∙ by (m == n) refl
      where
        by : (b : Bool) → (m == n) ≡ b → (if b then dial_under new v else before.dials m v) ≡ before.dials m v
        by true e = stay v ∙ sym (dial_there m v e)
        by false e = refl

    -- the peer of a key changed
    module _ (key : ℕ) (peer : Option KeptPeer) (puts : PutsPeer old new key peer) where
      pub peer_put : after.peers n key ≡ peer
      peer_put = peers_after n key ∙ ap (λ b. if b then peer_under new key else before.peers n key) (eq-eqb n n refl) ∙ puts.changed

      pub peers_but : (m other : ℕ) → (m == n && other == key) ≡ false → after.peers m other ≡ before.peers m other
      peers_but m other away = peers_after m other ∙ by (m == n) refl away
        where
          by : (b : Bool) → (m == n) ≡ b → (b && other == key) ≡ false → (if b then peer_under new other else before.peers m other) ≡ before.peers m other
          by true e t = puts.others other (eqb-false other key t) ∙ sym (peer_there m other e)
          by false e t = refl

    -- the dial of a vBucket changed
    module _ (v : ℕ) (dial : Option KeptDial) (puts : PutsDial old new v dial) where
      pub dial_put : after.dials n v ≡ dial
      dial_put = dials_after n v ∙ ap (λ b. if b then dial_under new v else before.dials n v) (eq-eqb n n refl) ∙ puts.changed

      pub dials_but : (m other : ℕ) → (m == n && other == v) ≡ false → after.dials m other ≡ before.dials m other
      dials_but m other away = dials_after m other ∙ by (m == n) refl away
        where
          by : (b : Bool) → (m == n) ≡ b → (b && other == v) ≡ false → (if b then dial_under new other else before.dials m other) ≡ before.dials m other
          by true e t = puts.others other (eqb-false other v t) ∙ sym (dial_there m other e)
          by false e t = refl

    -- the peer of a key gave vBuckets up, and all peers were told
    module _ (key : ℕ) (came : GiveResult) (tells : TellsGiven old new key came) where
      pub peers_given : (m other : ℕ) → after.peers m other
          ≡ (if m == n then (if other == key then Some (kept_peer_given came.given (live_peer came.peer)) else option_map (kept_peer_given came.given) (before.peers m other)) else before.peers m other)
      peers_given m other = peers_after m other ∙ by (m == n) (other == key) refl refl
        where
          by : (a b : Bool) → (m == n) ≡ a → (other == key) ≡ b
              → (if a then peer_under new other else before.peers m other) ≡ (if a then (if b then Some (kept_peer_given came.given (live_peer came.peer)) else option_map (kept_peer_given came.given) (before.peers m other)) else before.peers m other)
          by true true e f = ap (peer_under new) (eqb-true other key f) ∙ tells.own
          by true false e f = tells.others other (eqb-false other key f) ∙ ap (option_map (kept_peer_given came.given)) (sym (peer_there m other e))
          by false b e f = refl

    -- its peers were told of a change of role at a vBucket, whose dial is let go
    module _ (v : ℕ) (ended : Option (List ℕ)) (tells : TellsEnds old new v ended) where
      pub peers_told : (m key : ℕ) → after.peers m key ≡ (if m == n then option_map (kept_peer_ended v ended) (before.peers m key) else before.peers m key)
      peers_told m key = peers_after m key ∙ by (m == n) refl
        where
          by : (b : Bool) → (m == n) ≡ b → (if b then peer_under new key else before.peers m key) ≡ (if b then option_map (kept_peer_ended v ended) (before.peers m key) else before.peers m key)
          by true e = tells.peers key ∙ ap (option_map (kept_peer_ended v ended)) (sym (peer_there m key e))
          by false e = refl

      pub dials_told : (m u : ℕ) → after.dials m u ≡ (if m == n then (if is_some ended && u == v then None else before.dials m u) else before.dials m u)
      dials_told m u = dials_after m u ∙ by (m == n) refl
        where
          by : (b : Bool) → (m == n) ≡ b → (if b then dial_under new u else before.dials m u) ≡ (if b then (if is_some ended && u == v then None else before.dials m u) else before.dials m u)
          by true e = tells.dials u ∙ ap (λ o. if is_some ended && u == v then None else o) (sym (dial_there m u e))
          by false e = refl
