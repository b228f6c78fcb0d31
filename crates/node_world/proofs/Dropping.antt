-- nodes that stop, and the links that end there
use Rattle.std.proofs.Common.{◌≡◌, ℕ, zero, suc, ◌+◌, ◌<◌, ◌≤◌, arith, Bool, true, false, cond, List, [], ◌∷◌, ◌++◌, length, get_or, set, remove, refl, ap, sym, ◌∙◌, subst, append_assoc, append-nil, Option, Some, None, is_some, option_map}
use Rattle.std.specs.Prelude.{◌==◌, ◌||◌, ◌&&◌, if◌then◌else◌}
use Rattle.std.specs.List.{filter, flat_map, list_any, position}
use Rattle.std.proofs.lemmas.Bool.{eqb-true}
use Rattle.std.proofs.lemmas.Grind.{flat_map-append}
use Rattle.std.proofs.lemmas.List.Quantifiers.{position-Some}
use Rattle.disk_journals.specs.Books.{Book, below}
use Rattle.slab.specs.Slab.{Slab}
use Rattle.vb_events.specs.declared.event.Event.{Event}
use Rattle.node_core.specs.declared.conn.Conn.{Conn}
use Rattle.node_core.specs.Outcomes.{value_at}
use Rattle.node_core.specs.Clients.{PlainClient}
use Rattle.node_world.specs.Arms.{no_arm}
use Rattle.vbucket.specs.Rows.{row_at}
use Rattle.node_world.specs.declared.link.Link.{Link}
use Rattle.script_text.specs.declared.verb.LinkVerb.TheVariants as link_verb
use Rattle.node_world.specs.declared.script_node.ScriptNode.{ScriptNode}
use Rattle.node_world.specs.declared.told.Told.{Told}
use Rattle.node_world.specs.Cuts.{unlinked}
use Rattle.node_world.specs.Lines.{link_line_if, link_line_at}
use Rattle.node_world.specs.Links.{PlainLink, link_number, consumer_node}
use Rattle.node_world.specs.declared.arm.Arm.{Arm}
use Rattle.node_world.specs.Ends.{Carries}
use Rattle.node_world.specs.Nodes.{PlainNode, arm_at, done}
use Rattle.node_world.specs.Pairing.{Pairs}
use Rattle.node_world.specs.Power.{all_cut, all_numbers, all_unlinked, has_client, is_touched, numbers, touches}
use Rattle.node_world.specs.Stands.{Ends, ends_of, IdsStand, LinkStands, LinksStand, Kept, NodeMatch, OffStands, ClientStands, WorldStands, node_number}
use Rattle.node_world.specs.Starts.{Cutting, IsBare}
use Rattle.node_world.specs.Worlds.{PlainWorld, arm_in, node_if, with_node_if}
use Rattle.node_world.proofs.Finding.{first_at, position_any}
use Rattle.node_world.proofs.Held.{same_ends}
use Rattle.node_world.proofs.OnLinks.{the, the_stands, the_is, found, out_is, not_open}
use Rattle.node_world.proofs.Pairing.{pairs_len}
use Rattle.node_world.proofs.Places.{no_node, plain_at, peer_here, dial_here, if_stands, peers_stay, dials_stay}
use Rattle.node_world.proofs.OnNodes.{with_nodes}

-- the first member that passes a test is the first of those that do
module _ {X : Type 0} (f : X → Bool) where
  pub filter_first : (xs : List X) (i : ℕ) (d : X) → i < length xs → f (get_or xs i d) ≡ true → ((k : ℕ) → k < i → f (get_or xs k d) ≡ false) → filter f xs ≡ get_or xs i d ∷ filter f (remove xs i)
  filter_first [] i d lt here before = absurd (omega arith)
  filter_first (x ∷ xs) zero d lt here before = ap (λ b. cond b (x ∷ filter f xs) (filter f xs)) here
  filter_first (x ∷ xs) (suc i) d lt here before =
      ap (λ b. cond b (x ∷ filter f xs) (filter f xs)) (before 0 (omega arith)) ∙ filter_first xs i d (omega arith) here (λ k below. before (suc k) (omega arith))
      ∙ ap (λ ys. get_or xs i d ∷ ys) (sym (ap (λ b. cond b (x ∷ filter f (remove xs i)) (filter f (remove xs i))) (before 0 (omega arith))))

  none_pass : (xs : List X) → list_any f xs ≡ false → filter f xs ≡ []
  none_pass [] e = refl
  none_pass (x ∷ xs) e = by (f x) e (λ g. none_pass xs g)
    where
      by : (b : Bool) → (b || list_any f xs) ≡ false → (list_any f xs ≡ false → filter f xs ≡ []) → cond b (x ∷ filter f xs) (filter f xs) ≡ []
      by true g later = cc
      by false g later = later g

  pub filter_none : (xs : List X) → position f xs ≡ None → filter f xs ≡ []
  filter_none xs none = none_pass xs (sym (position_any f xs) ∙ ap is_some none)

  -- where none is left, none passes
  pub no_more : (xs : List X) → filter f xs ≡ [] → list_any f xs ≡ false
  no_more [] e = refl
  no_more (x ∷ xs) e = by (f x) e (λ g. no_more xs g)
    where
      by : (b : Bool) → cond b (x ∷ filter f xs) (filter f xs) ≡ [] → (filter f xs ≡ [] → list_any f xs ≡ false) → (b || list_any f xs) ≡ false
      by true g later = cc
      by false g later = later g

  pub filter_le : (xs : List X) → length (filter f xs) ≤ length xs
  filter_le [] = omega arith
  filter_le (x ∷ xs) = by (f x) (filter_le xs)
    where
      by : (b : Bool) → length (filter f xs) ≤ length xs → length (cond b (x ∷ filter f xs) (filter f xs)) ≤ suc (length xs)
      by true le = omega (arith, le)
      by false le = omega (arith, le)

-- a kept link has an end at the node n
abbrev pub touching : ℕ → Link → Bool
touching n link = link.producer == n || link.node == n

pub same_touch : (ends : Ends) (n : ℕ) (x : Link) (p : PlainLink) → LinkStands ends x p → touching n x ≡ touches n p
same_touch ends n x p s = λ i. (s.producer i == n) || (s.node i == n)

same_place : (ends : Ends) (n : ℕ) (links : List Link) (plain : List PlainLink) → Pairs (LinkStands ends) links plain → position (touching n) links ≡ position (touches n) plain
same_place ends n [] [] h = refl
same_place ends n [] (p ∷ ps) h = absurd h
same_place ends n (x ∷ xs) [] h = absurd h
same_place ends n (x ∷ xs) (p ∷ ps) h =
    first_at (touching n) x xs (touching n x) refl ∙ (λ i. if same_touch ends n x p h.0 i then Some 0 else option_map suc (same_place ends n xs ps h.1 i)) ∙ sym (first_at (touches n) p ps (touches n p) refl)

-- before the first turn
pub cut_begun : (n count : ℕ) (kept : Kept) (w : PlainWorld) → count ≡ length kept.links → WorldStands kept w → Cutting n count 0 kept w
cut_begun n count kept w is stands =
    let len : length kept.links ≡ length w.links = pairs_len (LinkStands (ends_of kept.nodes)) kept.links w.links stands.links.each in
    let le = filter_le (touches n) w.links in
    record { now = w; stands = stands; rest = refl; left = omega (arith, is, len, le) }

-- a turn in which no link is left
pub cut_none : (n count turn : ℕ) (kept : Kept) (w : PlainWorld) → turn < count → position (touching n) kept.links ≡ None → Cutting n count turn kept w → Cutting n count (turn + 1) kept w
cut_none n count turn kept w lt none c =
    let nothing = filter_none (touches n) c.now.links (sym (same_place (ends_of kept.nodes) n kept.links c.now.links c.stands.links.each) ∙ none) in
    record { now = c.now; stands = c.stands; rest = c.rest; left = subst (λ (xs : List PlainLink). length xs + (turn + 1) ≤ count) (sym nothing) (omega (arith, lt)) }

-- a turn in which the first one is cut
module _ (n count turn at : ℕ) (kept kept' : Kept) (w : PlainWorld) (link : Link) (told : Told) (placed : position (touching n) kept.links ≡ Some at) (is : link ≡ get_or kept.links at link)
    (came : (v : PlainWorld) → WorldStands kept v → WorldStands kept' (link_line_at link_verb.Cut v link.number).0 × (told ≡ (link_line_at link_verb.Cut v link.number).1)) (c : Cutting n count turn kept w) where
  abbrev v : PlainWorld
  v = c.now

  abbrev ends : Ends
  ends = ends_of kept.nodes

  lt : at < length kept.links
  lt = let (lt, here, before) = position-Some (touching n) kept.links at link placed in lt

  abbrev p : PlainLink
  p = the ends kept.links v.links at link lt c.stands.links

  number : link.number ≡ link_number p
  number = ap (λ (x : Link). x.number) is ∙ (the_stands ends kept.links v.links at link lt c.stands.links).number

  is_found : row_at link_number link.number v.links ≡ Some p
  is_found = ap (λ l. row_at link_number l v.links) number ∙ found ends kept.links v.links at link lt c.stands.links

  after : WorldStands kept' (unlinked p v)
  after = subst (λ o. WorldStands kept' (link_line_if link_verb.Cut v o).0) is_found (came v c.stands).0

  split : filter (touches n) v.links ≡ p ∷ filter (touches n) (remove v.links at)
  split =
      let plain_place : position (touches n) v.links ≡ Some at = sym (same_place ends n kept.links v.links c.stands.links.each) ∙ placed in
      let (within, here, before) = position-Some (touches n) v.links at p plain_place in
      filter_first (touches n) v.links at p within here before ∙ ap (λ x. x ∷ filter (touches n) (remove v.links at)) (the_is ends kept.links v.links at link lt c.stands.links p)

  abbrev rows : List PlainLink
  rows = filter (touches n) (remove v.links at)

  rows_are : rows ≡ filter (touches n) (unlinked p v).links
  rows_are = ap (filter (touches n)) (out_is ends kept.links v.links at link lt c.stands.links)

  one_less : (k : ℕ) (xs : List PlainLink) → suc (length xs) + k ≤ count → length xs + (k + 1) ≤ count
  one_less k xs le = omega (arith, le)

  pub cut_one : Cutting n count (turn + 1) kept' w
  cut_one = record {
    now = unlinked p v;
    stands = after;
    rest = ap (λ xs. all_unlinked xs (unlinked p v)) (sym rows_are) ∙ sym (ap (λ xs. all_unlinked xs v) split) ∙ c.rest;
    left = subst (λ (xs : List PlainLink). length xs + (turn + 1) ≤ count) rows_are (one_less turn rows (subst (λ (xs : List PlainLink). length xs + turn ≤ count) split c.left));
  }

-- after all turns
pub cut_done : (n count : ℕ) (kept : Kept) (w : PlainWorld) → Cutting n count count kept w → WorldStands kept (all_cut n w) × (filter (touches n) (all_cut n w).links ≡ [])
cut_done n count kept w c =
    let none = nothing (filter (touches n) c.now.links) c.left in
    let same : c.now ≡ all_cut n w = sym (ap (λ xs. all_unlinked xs c.now) none) ∙ c.rest in
    (subst (WorldStands kept) same c.stands, subst (λ (x : PlainWorld). filter (touches n) x.links ≡ []) same none)
  where
    nothing : (xs : List PlainLink) → length xs + count ≤ count → xs ≡ []
    nothing [] le = refl
    nothing (x ∷ xs) le = absurd (omega (arith, le))

-- the link of a number has an end at the node n, or there is none
pub touched_none : (kept : Kept) (w : PlainWorld) (n l : ℕ) → position (λ (x : Link). x.number == l) kept.links ≡ None → WorldStands kept w → false ≡ is_touched n (row_at link_number l w.links)
touched_none kept w n l none stands = ap (is_touched n) (sym (not_open (ends_of kept.nodes) l kept.links w.links none stands.links.each))

pub touched_at : (kept : Kept) (w : PlainWorld) (n l at : ℕ) (link : Link) → position (λ (x : Link). x.number == l) kept.links ≡ Some at → link ≡ get_or kept.links at link → WorldStands kept w
    → touching n link ≡ is_touched n (row_at link_number l w.links)
touched_at kept w n l at link placed is stands =
    let (lt, here, before) = position-Some (λ (x : Link). x.number == l) kept.links at link placed in
    let ends = ends_of kept.nodes in
    let p = the ends kept.links w.links at link lt stands.links in
    let one = the_stands ends kept.links w.links at link lt stands.links in
    let number : link_number p ≡ l = sym one.number ∙ eqb-true _ _ here in
    ap (touching n) is ∙ same_touch ends n (get_or kept.links at link) p one ∙ ap (is_touched n) (sym (ap (λ k. row_at link_number k w.links) (sym number) ∙ found ends kept.links w.links at link lt stands.links))

-- the plain link of a number
pub open_at : (kept : Kept) (w : PlainWorld) (l at : ℕ) (link : Link) → position (λ (x : Link). x.number == l) kept.links ≡ Some at → link ≡ get_or kept.links at link → WorldStands kept w
    → (p : PlainLink) × (row_at link_number l w.links ≡ Some p) × (consumer_node p ≡ link.node)
open_at kept w l at link placed is stands =
    let (lt, here, before) = position-Some (λ (x : Link). x.number == l) kept.links at link placed in
    let ends = ends_of kept.nodes in
    let p = the ends kept.links w.links at link lt stands.links in
    let one = the_stands ends kept.links w.links at link lt stands.links in
    let number : link_number p ≡ l = sym one.number ∙ eqb-true _ _ here in
    (p, ap (λ k. row_at link_number k w.links) (sym number) ∙ found ends kept.links w.links at link lt stands.links, sym one.node ∙ sym (ap (λ (x : Link). x.node) is))

-- a client connection of a node is open
pub client_is_open : (kept : Kept) (w : PlainWorld) (n at c : ℕ) (old : ScriptNode) → position (λ node. node_number node == n) kept.nodes ≡ Some at → old ≡ get_or kept.nodes at old → WorldStands kept w
    → is_some (value_at old.clients c) ≡ has_client c (w.nodes n)
client_is_open kept w n at c old placed is stands =
    let (plain, there, alike) = plain_at kept.nodes n at old old placed is w stands.nodes in
    by old.node.conns (value_at old.clients c) (plain.clients c) (alike.clients.each c) ∙ sym (ap (has_client c) there)
  where
    by : (conns : Slab Conn) (key : Option ℕ) (client : Option PlainClient) → ClientStands conns key client → is_some key ≡ is_some client
    by conns None None h = refl
    by conns (Some key) (Some client) h = refl
    by conns None (Some client) h = absurd h
    by conns (Some key) None h = absurd h

pub client_none : (kept : Kept) (w : PlainWorld) (n c : ℕ) → position (λ node. node_number node == n) kept.nodes ≡ None → WorldStands kept w → false ≡ has_client c (w.nodes n)
client_none kept w n c none stands = ap (has_client c) (sym (no_node kept.nodes w n none stands.nodes))

-- the arm of a node
pub arm_at_place : (kept : Kept) (w : PlainWorld) (n at : ℕ) (old : ScriptNode) → position (λ node. node_number node == n) kept.nodes ≡ Some at → old ≡ get_or kept.nodes at old → WorldStands kept w → old.arm ≡ arm_in (w.nodes n)
arm_at_place kept w n at old placed is stands =
    let (plain, there, alike) = plain_at kept.nodes n at old old placed is w stands.nodes in
    alike.arm ∙ sym (ap arm_in there)

pub arm_none : (kept : Kept) (w : PlainWorld) (n : ℕ) → position (λ node. node_number node == n) kept.nodes ≡ None → WorldStands kept w → no_arm ≡ arm_in (w.nodes n)
arm_none kept w n none stands = ap arm_in (sym (no_node kept.nodes w n none stands.nodes))

-- another arm
pub arm_carried : (old : ScriptNode) (arm : Arm) → Carries (arm_at arm) old (done []) (record old { arm = arm })
arm_carried old arm plain alike = (
  record {
    slots = alike.slots;
    shelves = alike.shelves;
    made = alike.made;
    clock = alike.clock;
    clients = alike.clients;
    bases = alike.bases;
    arm = refl;
    off = off_still plain.off alike.off;
  },
  refl,
  record { number = refl; peers = λ key. refl; dials = λ v. refl },
)
  where
    off_still : (o : Option (List Book)) → OffStands old o → OffStands (record old { arm = arm }) o
    off_still None h = h
    off_still (Some books) h = record { there = h.there; bear = h.bear; peers = h.peers; dials = h.dials }

-- the lines of one number more
pub lines_more : (f : ℕ → List Event) (before events events' : List Event) (k : ℕ) → events ≡ before ++ flat_map f (below k) → events' ≡ events ++ f k → events' ≡ before ++ flat_map f (below (k + 1))
lines_more f before events events' k was is =
    let next : k + 1 ≡ suc k = omega arith in
    is ∙ ap (λ xs. xs ++ f k) was ∙ append_assoc before (flat_map f (below k)) (f k)
    ∙ ap (λ xs. before ++ xs) (sym (ap (λ m. flat_map f (below m)) next ∙ flat_map-append f (below k) (k ∷ []) ∙ ap (λ bs. flat_map f (below k) ++ bs) (append-nil (f k))))

-- those of all numbers
pub lines_all : (f : ℕ → List Event) (before events : List Event) (k : ℕ) → k ≡ numbers → events ≡ before ++ flat_map f (below k) → events ≡ before ++ flat_map f all_numbers
unfolding all_numbers
lines_all f before events k e was = was ∙ ap (λ m. before ++ flat_map f (below m)) e

-- a node that is not made stays so
pub if_none : (kept : Kept) (w : PlainWorld) (n : ℕ) (f : PlainNode → PlainNode) → position (λ node. node_number node == n) kept.nodes ≡ None → WorldStands kept w → WorldStands kept (with_node_if n f w)
if_none kept w n f none stands = subst (λ o. WorldStands kept (node_if n f w o)) (sym (no_node kept.nodes w n none stands.nodes)) stands

-- no link has an end at the node n: the node keeps none
module _ (kept : Kept) (x : PlainWorld) (n : ℕ) (stands : WorldStands kept x) (none : filter (touches n) x.links ≡ []) where
  abbrev kept_ends : Ends
  kept_ends = ends_of kept.nodes

  -- none of the kept links has one
  none_kept : list_any (touching n) kept.links ≡ false
  none_kept =
      sym (position_any (touching n) kept.links) ∙ ap is_some (same_place kept_ends n kept.links x.links stands.links.each) ∙ position_any (touches n) x.links ∙ no_more (touches n) x.links none

  -- a test that is met where this one is
  weaker : (f : Link → Bool) → ((y : Link) → f y ≡ true → touching n y ≡ true) → (ys : List Link) → list_any f ys ≡ true → list_any (touching n) ys ≡ true
  weaker f implies [] e = cc
  weaker f implies (y ∷ ys) e = by (f y) refl e (λ g. weaker f implies ys g)
    where
      or_true : (b : Bool) → (b || true) ≡ true
      or_true true = refl
      or_true false = refl

      by : (b : Bool) → f y ≡ b → (b || list_any f ys) ≡ true → (list_any f ys ≡ true → list_any (touching n) ys ≡ true) → (touching n y || list_any (touching n) ys) ≡ true
      by true t g later = ap (λ b. b || list_any (touching n) ys) (implies y t)
      by false t g later = ap (λ b. touching n y || b) (later g) ∙ or_true (touching n y)

  gone : {T : Type 0} → (o : Option T) → (is_some o ≡ true → list_any (touching n) kept.links ≡ true) → o ≡ None
  gone None has = refl
  gone (Some t) has = let no : true ≡ false = sym (has refl) ∙ none_kept in cc

  pub no_peers : (key : ℕ) → kept_ends.peers n key ≡ None
  no_peers key = gone (kept_ends.peers n key) (λ has. weaker (λ link. link.producer == n && link.conn == key) implies kept.links (stands.links.peers n key has))
    where
      implies : (y : Link) → (y.producer == n && y.conn == key) ≡ true → touching n y ≡ true
      implies y e = by (y.producer == n) e
        where
          by : (b : Bool) → (b && y.conn == key) ≡ true → (b || y.node == n) ≡ true
          by true g = refl
          by false g = cc

  pub no_dials : (v : ℕ) → kept_ends.dials n v ≡ None
  no_dials v = gone (kept_ends.dials n v) (λ has. weaker (λ link. link.node == n && link.vb == v) implies kept.links (stands.links.dials n v has))
    where
      implies : (y : Link) → (y.node == n && y.vb == v) ≡ true → touching n y ≡ true
      implies y e = by (y.producer == n) (y.node == n) e
        where
          by : (a b : Bool) → (b && y.vb == v) ≡ true → (a || b) ≡ true
          by true b g = refl
          by false true g = refl
          by false false g = cc

  -- the node stops
  pub node_dropped : (at : ℕ) (old new : ScriptNode) (f : PlainNode → PlainNode) → position (λ node. node_number node == n) kept.nodes ≡ Some at → old ≡ get_or kept.nodes at old → ((plain : PlainNode) → NodeMatch old plain → NodeMatch new (f plain))
      → node_number new ≡ node_number old → IsBare new → WorldStands (with_nodes kept (set kept.nodes at new)) (with_node_if n f x)
  node_dropped at old new f placed is step number bare = record {
    nodes = if_stands kept.nodes n at old new placed is number x f stands.nodes step;
    ids = subst (IdsStand kept.ids) (sym (if_uuids (x.nodes n))) stands.ids;
    links = subst (LinksStand (ends_of (set kept.nodes at new)) kept.links) (sym (if_links (x.nodes n)))
        (same_ends kept_ends (ends_of (set kept.nodes at new)) kept.links x.links
        (peers_stay kept.nodes n at old new placed is number (λ key. bare.peers key ∙ sym (sym (peer_here kept.nodes n at old new placed is key) ∙ no_peers key)))
        (dials_stay kept.nodes n at old new placed is number (λ v. bare.dials v ∙ sym (sym (dial_here kept.nodes n at old new placed is v) ∙ no_dials v))) stands.links);
  }
    where
      if_uuids : (o : Option PlainNode) → (node_if n f x o).uuids ≡ x.uuids
      if_uuids None = refl
      if_uuids (Some node) = refl

      if_links : (o : Option PlainNode) → (node_if n f x o).links ≡ x.links
      if_links None = refl
      if_links (Some node) = refl

-- the place of a link that has an end at the node n was looked up
pub touch_in : (kept inside : Kept) (items : List Link) (n : ℕ) (place : Option ℕ) → inside ≡ kept → items ≡ inside.links → place ≡ position (touching n) items → position (touching n) kept.links ≡ place
touch_in kept inside items n place seen read looked = ap (λ (k : Kept). position (touching n) k.links) (sym seen) ∙ sym (looked ∙ ap (position (touching n)) read)
