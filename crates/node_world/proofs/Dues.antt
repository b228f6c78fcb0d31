-- what the link that feeds a vBucket acknowledges once more of it is written down, in the world that is kept
use Rattle.std.proofs.Common.{◌≡◌, ℕ, ◌<◌, Bool, true, false, cond, List, [], ◌∷◌, length, ◌++◌, get_or, set, refl, ap, sym, ◌∙◌, subst, Option, Some, None, is_some}
use Rattle.std.specs.Prelude.{◌==◌, ◌&&◌, ◌||◌, if◌then◌else◌}
use Rattle.std.specs.List.{find, list_any, position}
use Rattle.vb_calls.specs.Programs.{after}
use Rattle.vb_calls.specs.States.{States}
use Rattle.vbucket.specs.Rows.{row_put}
use Rattle.dcp_consumer.specs.declared.handshake.Dialed.{Dialed}
use Rattle.node_core.specs.declared.out.NodeOut.{NodeOut}
use Rattle.node_core.specs.Dials.{DialResult, dial_due}
use Rattle.node_core.specs.Outcomes.{live_dial}
use Rattle.node_core.specs.Outs.{done_out}
use Rattle.node_world.specs.declared.link.Link.{Link}
use Rattle.node_world.specs.declared.script_node.ScriptNode.{ScriptNode}
use Rattle.node_world.specs.declared.told.Told.{Told}
use Rattle.node_world.specs.Cuts.{own_link}
use Rattle.node_world.specs.Dues.{due_at, due_in, due_of, is_counted, with_due}
use Rattle.node_world.specs.Ends.{dial_under, DuesDial, KeepsOthers, PutsDial, SameKeys}
use Rattle.node_world.specs.Links.{PlainLink, dial_of, feeds, link_number}
use Rattle.node_world.specs.Nodes.{PlainNode, with_states}
use Rattle.node_world.specs.Pairing.{Pairs}
use Rattle.node_world.specs.Stands.{Ends, ends_of, Kept, LinkStands, LinksStand, NodeMatch, NodesStand, WorldStands, node_number}
use Rattle.node_world.specs.Worlds.{PlainWorld, Outcome, node_outcome, with_node_at}
use Rattle.node_world.proofs.Finding.{position_any}
use Rattle.node_world.proofs.Held.{set_stand}
use Rattle.node_world.proofs.Keeping.{due_dialed}
use Rattle.node_world.proofs.OnLinks.{put_is, the, the_stands}
use Rattle.node_world.proofs.Places.{dial_here, dial_put, dials_but, no_node, peers_stay, plain_at, step_stands}
use Rattle.node_world.proofs.Turning.{own_feeds, own_is, own_within}

-- ---- no link feeds the vBucket, or its node is not made

-- whether a kept link feeds the vBucket v of the node n
abbrev pub owns : ℕ → ℕ → Link → Bool
owns n v link = link.node == n && link.vb == v

-- it does exactly where the plain one does
feeds_as : (ends : Ends) (n v : ℕ) (links : List Link) (plain : List PlainLink) → position (owns n v) links ≡ None → Pairs (LinkStands ends) links plain → own_link n v plain ≡ None
feeds_as ends n v links plain none pairs = by links plain (sym (position_any (owns n v) links) ∙ ap is_some none) pairs
  where
    by : (xs : List Link) (ps : List PlainLink) → list_any (owns n v) xs ≡ false → Pairs (LinkStands ends) xs ps → find (feeds n v) ps ≡ None
    by [] [] e h = refl
    by [] (p ∷ ps) e h = absurd h
    by (x ∷ xs) [] e h = absurd h
    by (x ∷ xs) (p ∷ ps) e h = at (feeds n v p) (owns n v x) (λ i. (h.0.node i == n) && (h.0.vb i == v)) e (λ f. by xs ps f h.1)
      where
        at : (b a : Bool) → a ≡ b → (a || list_any (owns n v) xs) ≡ false → (list_any (owns n v) xs ≡ false → find (feeds n v) ps ≡ None) → cond b (Some p) (find (feeds n v) ps) ≡ None
        at true true same f later = cc
        at true false same f later = cc
        at false true same f later = cc
        at false false same f later = later f

-- what a line comes to
abbrev pub Comes : Kept → Told → Outcome → Type 0
Comes kept told o = WorldStands kept o.0 × (told ≡ o.1)

pub not_fed : (kept : Kept) (w : PlainWorld) (n v : ℕ) (told : Told) → position (owns n v) kept.links ≡ None → WorldStands kept w → Comes kept told (due_of n w told (own_link n v w.links))
not_fed kept w n v told none stands =
    subst (λ o. Comes kept told (due_of n w told o)) (sym (feeds_as (ends_of kept.nodes) n v kept.links w.links none stands.links.each)) (stands, refl)

pub not_made : (kept : Kept) (w : PlainWorld) (n v : ℕ) (told : Told) → position (λ node. node_number node == n) kept.nodes ≡ None → WorldStands kept w → Comes kept told (due_of n w told (own_link n v w.links))
not_made kept w n v told none stands = by (own_link n v w.links)
  where
    by : (o : Option PlainLink) → Comes kept told (due_of n w told o)
    by None = (stands, refl)
    by (Some link) = subst (λ o. Comes kept told (due_at n link w told o)) (sym (no_node kept.nodes w n none stands.nodes)) (stands, refl)

-- ---- the link acknowledges what is due

module _ (kept : Kept) (w : PlainWorld) (n v at owner : ℕ) (link : Link) (old new : ScriptNode) (out : NodeOut) (told : Told) (own_at : position (owns n v) kept.links ≡ Some at) (link_is : link ≡ get_or kept.links at link)
    (placed : position (λ node. node_number node == n) kept.nodes ≡ Some owner) (old_is : old ≡ get_or kept.nodes owner old) (stands : WorldStands kept w) (dues : DuesDial v old out new) where
  abbrev ends : Ends
  ends = ends_of kept.nodes

  abbrev nodes' : List ScriptNode
  nodes' = set kept.nodes owner new

  abbrev lt : at < length kept.links
  lt = own_within ends kept.links w.links n v at link own_at stands.links

  abbrev p : PlainLink
  p = the ends kept.links w.links at link lt stands.links

  p_stands : LinkStands ends link p
  p_stands = subst (λ x. LinkStands ends x p) (sym link_is) (the_stands ends kept.links w.links at link lt stands.links)

  same : (link.node ≡ n) × (link.vb ≡ v)
  same = subst (λ (x : Link). (x.node ≡ n) × (x.vb ≡ v)) (sym link_is) (own_feeds ends kept.links w.links n v at link own_at stands.links)

  has_dial : dial_under old v ≡ Some (live_dial (dial_of p))
  has_dial = sym (dial_here kept.nodes n owner old new placed old_is v) ∙ (λ j. ends.dials (sym same.0 j) (sym same.1 j)) ∙ p_stands.consumer

  abbrev said : PlainNode → States × DialResult
  said node = after (dial_due (dial_of p)) node.vbs

  -- the link with what it acknowledged on its way
  abbrev pub link' : Link
  link' = record link { up = link.up ++ out.out }

  abbrev pub after_due : Kept
  after_due = record { nodes = nodes'; ids = kept.ids; links = set kept.links at link' }

  module _ (plain : PlainNode) (there : w.nodes n ≡ Some plain) (alike : NodeMatch old plain) where
    abbrev came : DialResult
    came = (said plain).1

    went : NodeMatch new (with_states plain (said plain).0) × (out ≡ done_out came.events came.out) × PutsDial old new v (Some (live_dial came.dial))
    went = dues plain (dial_of p) alike has_dial

    puts : PutsDial old new v (Some (live_dial came.dial))
    puts = went.2

    known : NodesStand nodes' (with_node_at w n (with_states plain (said plain).0))
    known =
        let f : PlainNode → PlainNode × Told = λ x. (with_states x (said x).0, told) in
        subst (λ o. NodesStand nodes' (node_outcome w n told o f).0) there
        (step_stands kept.nodes n owner old new placed old_is puts.number w told f (λ t. List ℕ) stands.nodes (λ x also. ((dues x (dial_of p) also has_dial).0, []))).0

    others : KeepsOthers link ends (ends_of nodes')
    others = record {
      peers = λ m key away. peers_stay kept.nodes n owner old new placed old_is puts.number puts.peers m key;
      dials = λ m u away. dials_but kept.nodes n owner old new placed old_is puts.number v (Some (live_dial came.dial)) puts m u (sym (λ j. (m == same.0 j) && (u == same.1 j)) ∙ away);
    }

    dialed : came.dial.consumer.dialed ≡ p.consumer.dialed
    dialed = due_dialed (dial_of p) plain.vbs

    one : LinkStands (ends_of nodes') link' (with_due p came)
    one = record {
      number = p_stands.number ∙ sym (ap (λ (d : Dialed). d.link) dialed);
      producer = p_stands.producer;
      node = p_stands.node ∙ sym (ap (λ (d : Dialed). d.node) dialed);
      vb = p_stands.vb ∙ sym (ap (λ (d : Dialed). d.vb) dialed);
      server = peers_stay kept.nodes n owner old new placed old_is puts.number puts.peers link.producer link.conn ∙ p_stands.server;
      consumer = (λ j. (ends_of nodes').dials (same.0 j) (same.1 j)) ∙ dial_put kept.nodes n owner old new placed old_is puts.number v (Some (live_dial came.dial)) puts;
      up = λ j. p_stands.up j ++ (went.1 j).out;
      down = p_stands.down;
    }

    abbrev here : Link
    here = get_or kept.links at link

    links_stand : LinksStand (ends_of nodes') (set kept.links at link') (row_put link_number (link_number p) (with_due p came) w.links)
    links_stand =
        subst (LinksStand (ends_of nodes') (set kept.links at link')) (put_is ends kept.links w.links at link lt stands.links (with_due p came))
        (set_stand ends (ends_of nodes') kept.links w.links at link lt (subst (λ x. KeepsOthers x ends (ends_of nodes')) link_is others) stands.links link' (with_due p came)
        (subst (λ x. SameKeys x link') link_is (record { number = refl; producer = refl; conn = refl; node = refl; vb = refl })) one)

    acknowledges : Comes after_due (record told { events = told.events ++ out.events }) (due_at n p w told (Some plain))
    acknowledges = (record { nodes = known; ids = stands.ids; links = links_stand }, λ j. record told { events = told.events ++ (went.1 j).events })

  pub acknowledged : Comes after_due (record told { events = told.events ++ out.events }) (due_of n w told (own_link n v w.links))
  acknowledged =
      let (plain, there, alike) = plain_at kept.nodes n owner old new placed old_is w stands.nodes in
      subst (λ o. Comes after_due (record told { events = told.events ++ out.events }) (due_of n w told o)) (sym (own_is ends kept.links w.links n v at link own_at stands.links))
      (subst (λ o. Comes after_due (record told { events = told.events ++ out.events }) (due_at n p w told o)) (sym there) (acknowledges plain there alike))

-- ---- `done N V`

-- a batch is done, or it was refused
pub due_after : (n v : ℕ) (after : Kept) (told came : Told) (x : Outcome) → told ≡ x.1 → is_counted told.answer ≡ true → Comes after came (due_of n x.0 told (own_link n v x.0.links)) → Comes after came (due_in n v x)
due_after n v after told came x said counts known =
    subst (λ b. Comes after came (if b then due_of n x.0 x.1 (own_link n v x.0.links) else x)) (sym counts ∙ ap (λ (t : Told). is_counted t.answer) said)
    (subst (λ t. Comes after came (due_of n x.0 t (own_link n v x.0.links))) said known)

pub not_due : (n v : ℕ) (after : Kept) (told : Told) (x : Outcome) → told ≡ x.1 → is_counted told.answer ≡ false → WorldStands after x.0 → Comes after told (due_in n v x)
not_due n v after told x said counts stands =
    subst (λ b. Comes after told (if b then due_of n x.0 x.1 (own_link n v x.0.links) else x)) (sym counts ∙ ap (λ (t : Told). is_counted t.answer) said) (stands, said)

-- the place of the link that feeds a vBucket was looked up in the links that the world keeps
pub own_in : (held items : List Link) (n v : ℕ) (place : Option ℕ) → items ≡ held → place ≡ position (owns n v) items → position (owns n v) held ≡ place
own_in held items n v place read found = sym (found ∙ ap (λ (links : List Link). position (owns n v) links) read)

pub own_kept : (kept inside : Kept) (items : List Link) (n v : ℕ) (place : Option ℕ) → inside ≡ kept → items ≡ inside.links → place ≡ position (owns n v) items
    → position (owns n v) kept.links ≡ place
own_kept kept inside items n v place seen read found = ap (λ (k : Kept). position (owns n v) k.links) (sym seen) ∙ own_in inside.links items n v place read found
