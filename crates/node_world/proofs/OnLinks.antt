-- lines for links, in the world that is kept
use Rattle.std.proofs.Common.{◌≡◌, ℕ, zero, suc, ◌<◌, arith, Bool, true, false, List, [], ◌∷◌, length, get_or, set, remove, refl, ap, sym, ◌∙◌, subst, Option, Some, None, is_some}
use Rattle.std.specs.Prelude.{◌==◌, ◌&&◌, if◌then◌else◌}
use Rattle.std.specs.List.{position}
use Rattle.std.proofs.lemmas.Bool.{eqb-true, eq-eqb, false_from_ne_true}
use Rattle.std.proofs.lemmas.List.{get_or-set_same, get_or_default}
use Rattle.std.proofs.lemmas.List.Quantifiers.{position-Some}
use Rattle.vb_events.specs.declared.event.Cause.TheVariants as cause
use Rattle.vbucket.specs.Rows.{row_at, row_put, row_out}
use Rattle.vbucket.proofs.RowsAt.{at_place, not_placed}
use Rattle.node_world.specs.declared.link.Link.{Link}
use Rattle.script_text.specs.declared.verb.LinkVerb.{LinkVerb}
use Rattle.script_text.specs.declared.verb.LinkVerb.TheVariants as link_verb
use Rattle.node_world.specs.declared.script_node.ScriptNode.{ScriptNode}
use Rattle.node_world.specs.declared.told.Told.{Told}
use Rattle.node_world.specs.Cuts.{closed_at, closed_in, unlinked}
use Rattle.node_world.specs.Ends.{KeepsOthers, SameKeys, LinkLeft, LinkCame, LinkStep, Unlinked, Unlinks, LeavesLink, LeavesOwn}
use Rattle.node_world.specs.Lines.{at_link, link_line_if, link_line_at}
use Rattle.node_world.specs.Links.{PlainLink, LinkResult, link_number, producer_node, consumer_node, up_at, drop_at, pump_at}
use Rattle.node_world.specs.Nodes.{PlainNode, refusal}
use Rattle.node_world.specs.Pairing.{Pairs}
use Rattle.node_world.specs.Stands.{Ends, ends_of, LinkStands, Apart, IdsStand, LinksStand, Kept, WorldStands}
use Rattle.node_world.specs.World.{down_in, relinked}
use Rattle.node_world.specs.Worlds.{PlainWorld, Outcome, node_if}
use Rattle.node_world.proofs.Held.{set_stand, out_stand}
use Rattle.node_world.proofs.OnNodes.{outcome_uuids, outcome_links}
use Rattle.node_world.proofs.Pairing.{pairs_len, pairs_at, pairs_pick, differ_at}
use Rattle.node_world.proofs.Rows.{put_at, out_at}

remove_set : {S : Type 0} (xs : List S) (i : ℕ) (s : S) → remove (set xs i s) i ≡ remove xs i
remove_set [] zero s = refl
remove_set [] (suc i) s = refl
remove_set (x ∷ xs) zero s = refl
remove_set (x ∷ xs) (suc i) s = ap (λ ys. x ∷ ys) (remove_set xs i s)

-- a line at an end of a link leaves the ids and the other links
came_uuids : (asked : LinkVerb) (w : PlainWorld) (plain : PlainLink) → (at_link asked w plain).0.uuids ≡ w.uuids
came_uuids (link_verb.Up wanted) w plain = outcome_uuids w (producer_node plain) (Some plain, refusal cause.UnknownNode) (w.nodes (producer_node plain)) (up_at wanted plain)
came_uuids (link_verb.Down wanted) w plain = outcome_uuids w (consumer_node plain) (Some plain, refusal cause.UnknownNode) (w.nodes (consumer_node plain)) (down_in wanted plain)
came_uuids (link_verb.Pump frames) w plain = outcome_uuids w (producer_node plain) (Some plain, refusal cause.UnknownNode) (w.nodes (producer_node plain)) (pump_at frames plain)
came_uuids link_verb.Drop w plain = outcome_uuids w (producer_node plain) (Some plain, refusal cause.UnknownNode) (w.nodes (producer_node plain)) (drop_at plain)
came_uuids link_verb.Cut w plain = refl

came_links : (asked : LinkVerb) (w : PlainWorld) (plain : PlainLink) → (at_link asked w plain).0.links ≡ w.links
came_links (link_verb.Up wanted) w plain = outcome_links w (producer_node plain) (Some plain, refusal cause.UnknownNode) (w.nodes (producer_node plain)) (up_at wanted plain)
came_links (link_verb.Down wanted) w plain = outcome_links w (consumer_node plain) (Some plain, refusal cause.UnknownNode) (w.nodes (consumer_node plain)) (down_in wanted plain)
came_links (link_verb.Pump frames) w plain = outcome_links w (producer_node plain) (Some plain, refusal cause.UnknownNode) (w.nodes (producer_node plain)) (pump_at frames plain)
came_links link_verb.Drop w plain = outcome_links w (producer_node plain) (Some plain, refusal cause.UnknownNode) (w.nodes (producer_node plain)) (drop_at plain)
came_links link_verb.Cut w plain = refl

-- so does the end of its streams
pub closed_uuids : (plain : PlainLink) (w : PlainWorld) → (closed_in plain w).uuids ≡ w.uuids
closed_uuids plain w = by (w.nodes (producer_node plain))
  where
    by : (o : Option PlainNode) → (node_if (producer_node plain) (closed_at plain) w o).uuids ≡ w.uuids
    by None = refl
    by (Some node) = refl

-- the plain link that the one at a place stands for
module _ (ends : Ends) (links : List Link) (plain : List PlainLink) (at : ℕ) (d : Link) (lt : at < length links) (stand : LinksStand ends links plain) where
  abbrev pub the : PlainLink
  the = (pairs_pick (LinkStands ends) links plain at d lt stand.each).0

  pub the_stands : LinkStands ends (get_or links at d) the
  the_stands = (pairs_pick (LinkStands ends) links plain at d lt stand.each).1

  pub the_is : (e : PlainLink) → get_or plain at e ≡ the
  the_is = (pairs_pick (LinkStands ends) links plain at d lt stand.each).2

  pub within : at < length plain
  within = subst (λ n. at < n) (pairs_len (LinkStands ends) links plain stand.each) lt

  -- none before it has its number
  before : (k : ℕ) → k < at → (link_number (get_or plain k the) == link_number the) ≡ false
  before k lower =
      let one = pairs_at (LinkStands ends) links plain k d the (omega (arith, lower, lt)) stand.each in
      let apart = differ_at Apart links k at d lower lt stand.apart in
      false_from_ne_true (link_number (get_or plain k the) == link_number the) (λ e. apart.number (one.number ∙ eqb-true _ _ e ∙ sym the_stands.number))

  here_is : (link_number (get_or plain at the) == link_number the) ≡ true
  here_is = eq-eqb _ _ (ap link_number (the_is the))

  pub found : row_at link_number (link_number the) plain ≡ Some the
  found = at_place link_number (link_number the) plain at the within here_is before ∙ ap Some (the_is the)

  pub put_is : (other : PlainLink) → set plain at other ≡ row_put link_number (link_number the) other plain
  put_is other = put_at link_number (link_number the) plain at the other within here_is before

  pub out_is : remove plain at ≡ row_out link_number (link_number the) plain
  out_is = out_at link_number (link_number the) plain at the within here_is before

-- the links of a number
numbers : (ends : Ends) (l : ℕ) (links : List Link) (plain : List PlainLink) → Pairs (LinkStands ends) links plain → is_some (row_at (λ (x : Link). x.number) l links) ≡ is_some (row_at link_number l plain)
numbers ends l [] [] h = refl
numbers ends l [] (p ∷ ps) h = absurd h
numbers ends l (x ∷ xs) [] h = absurd h
numbers ends l (x ∷ xs) (p ∷ ps) h = ap (λ n. is_some (if n == l then Some x else row_at (λ (x : Link). x.number) l xs)) h.0.number ∙ by (link_number p == l) (numbers ends l xs ps h.1)
  where
    by : (b : Bool) → is_some (row_at (λ (x : Link). x.number) l xs) ≡ is_some (row_at link_number l ps) → is_some (if b then Some x else row_at (λ (x : Link). x.number) l xs) ≡ is_some (if b then Some p else row_at link_number l ps)
    by true same = refl
    by false same = same

is_none : {S : Type 0} (o : Option S) → is_some o ≡ false → o ≡ None
is_none None e = refl
is_none (Some s) e = cc

-- no link of a number is open
pub not_open : (ends : Ends) (l : ℕ) (links : List Link) (plain : List PlainLink) → position (λ (x : Link). x.number == l) links ≡ None → Pairs (LinkStands ends) links plain → row_at link_number l plain ≡ None
not_open ends l links plain none h =
    is_none (row_at link_number l plain) (sym (numbers ends l links plain h) ∙ ap is_some (not_placed (λ (x : Link). x.number) l links none))

pub closed_line : (kept : Kept) (w : PlainWorld) (asked : LinkVerb) (l : ℕ) → position (λ (x : Link). x.number == l) kept.links ≡ None → WorldStands kept w
    → WorldStands kept (link_line_at asked w l).0 × (refusal cause.LinkClosed ≡ (link_line_at asked w l).1)
closed_line kept w asked l none stands =
    subst (λ o. WorldStands kept (link_line_if asked w o).0 × (refusal cause.LinkClosed ≡ (link_line_if asked w o).1)) (sym (not_open (ends_of kept.nodes) l kept.links w.links none stands.links.each)) (stands, refl)

-- a line for a link that is open
module _ (kept : Kept) (w : PlainWorld) (asked : LinkVerb) (l at : ℕ) (link link' : Link) (told : Told) (over : Bool) (nodes' : List ScriptNode) (is_placed : position (λ (x : Link). x.number == l) kept.links ≡ Some at) (is : link ≡ get_or kept.links at link)
    (stands : WorldStands kept w) where
  first : (at < length kept.links) × (((get_or kept.links at link).number == l) ≡ true)
  first = let (lt, here, before) = position-Some (λ (x : Link). x.number == l) kept.links at link is_placed in (lt, here)

  abbrev ends : Ends
  ends = ends_of kept.nodes

  abbrev p : PlainLink
  p = the ends kept.links w.links at link first.0 stands.links

  p_stands : LinkStands ends link p
  p_stands = subst (λ x. LinkStands ends x p) (sym is) (the_stands ends kept.links w.links at link first.0 stands.links)

  p_number : link_number p ≡ l
  p_number = sym (the_stands ends kept.links w.links at link first.0 stands.links).number ∙ eqb-true _ _ first.1

  p_found : row_at link_number l w.links ≡ Some p
  p_found = ap (λ n. row_at link_number n w.links) (sym p_number) ∙ found ends kept.links w.links at link first.0 stands.links

  abbrev came : PlainWorld × LinkResult
  came = at_link asked w p

  -- the kept world after the step, before a link that is over is taken out
  abbrev pub stepped : Kept
  stepped = record { nodes = nodes'; ids = kept.ids; links = set kept.links at link' }

  module _ (step : LinkStep asked kept.nodes link told over nodes' link') where
    went : LinkCame asked w p kept.nodes link told over nodes' link'
    went = step.came w p stands.nodes p_stands

    keys : SameKeys (get_or kept.links at link) link'
    keys = subst (λ x. SameKeys x link') is step.keys

    others : KeepsOthers (get_or kept.links at link) ends (ends_of nodes')
    others = subst (λ x. KeepsOthers x ends (ends_of nodes')) is went.others

    ids_stand : (o : PlainWorld) → o.uuids ≡ (at_link asked w p).0.uuids → IdsStand kept.ids o.uuids
    ids_stand o same = subst (IdsStand kept.ids) (sym (same ∙ came_uuids asked w p)) stands.ids

    abbrev pub Result : Kept → Outcome → Type 0
    Result after o = WorldStands after o.0 × (told ≡ o.1)

    -- it goes on, or it is over and taken out
    pub open_line : (after : Kept) → LeavesLink at over stepped after → Result after (link_line_at asked w l)
    open_line after leaves = subst (λ o. Result after (link_line_if asked w o)) (sym p_found) (by over leaves came.1.0 went.left)
      where
        by : (b : Bool) → LeavesLink at b stepped after → (x : Option PlainLink) → LinkLeft (ends_of nodes') link' p b x → WorldStands after (relinked p x came.0) × (told ≡ came.1.1)
        by true leaves (Some q) left = let no : true ≡ false = left.0 in cc
        by false leaves None left = let no : false ≡ true = left.0 in cc
        by false leaves (Some q) left = (
          subst (λ k. WorldStands k (relinked p (Some q) came.0)) (sym leaves) (record {
            nodes = went.stands;
            ids = ids_stand (relinked p (Some q) came.0) refl;
            links = subst (LinksStand (ends_of nodes') (set kept.links at link')) (put_is ends kept.links w.links at link first.0 stands.links q ∙ ap (row_put link_number (link_number p) q) (sym (came_links asked w p)))
                (set_stand ends (ends_of nodes') kept.links w.links at link first.0 others stands.links link' q keys left.1);
          }),
          went.said,
        )
        by true leaves None left = (
          record {
            nodes = gone.stands;
            ids = subst (λ ids. IdsStand ids (unlinked p came.0).uuids) (sym leaves.2) (ids_stand (unlinked p came.0) (closed_uuids p came.0));
            links = subst (λ links. LinksStand (ends_of after.nodes) links (unlinked p came.0).links) (sym (leaves.1 ∙ remove_set kept.links at link'))
                (subst (LinksStand (ends_of after.nodes) (remove kept.links at)) (out_is ends kept.links w.links at link first.0 stands.links ∙ ap (row_out link_number (link_number p)) (sym (came_links asked w p)))
                (out_stand ends (ends_of after.nodes) kept.links w.links at link first.0 others_left stands.links no_peer no_dial));
          },
          went.said,
        )
          where
            here : Link
            here = get_or kept.links at link

            gone : Unlinked link' p came.0 nodes' after.nodes
            gone = leaves.0 link' (sym (get_or-set_same kept.links at link' link' first.0)) came.0 p went.stands (step.keys.producer ∙ p_stands.producer) left.2

            others_left : KeepsOthers (get_or kept.links at link) ends (ends_of after.nodes)
            others_left = record {
              peers = λ n key away. gone.others n key ((λ i. (n == keys.producer i) && (key == keys.conn i)) ∙ away) ∙ others.peers n key away;
              dials = λ n v away. gone.dials n v ∙ others.dials n v away;
            }

            no_peer : (ends_of after.nodes).peers (get_or kept.links at link).producer (get_or kept.links at link).conn ≡ None
            no_peer = (λ i. (ends_of after.nodes).peers (sym keys.producer i) (sym keys.conn i)) ∙ gone.gone

            no_dial : (ends_of after.nodes).dials (get_or kept.links at link).node (get_or kept.links at link).vb ≡ None
            no_dial = (λ i. (ends_of after.nodes).dials (sym keys.node i) (sym keys.vb i)) ∙ gone.dials link'.node link'.vb ∙ left.1

-- the place of a link was looked up in the links that the world keeps
pub link_in : (held items : List Link) (l : ℕ) (place : Option ℕ) → items ≡ held → place ≡ position (λ (x : Link). x.number == l) items → position (λ (x : Link). x.number == l) held ≡ place
link_in held items l place read found = sym (found ∙ ap (λ (links : List Link). position (λ (x : Link). x.number == l) links) read)

-- and in those that it is seen to have
pub link_kept : (kept inside : Kept) (items : List Link) (l : ℕ) (place : Option ℕ) → inside ≡ kept → items ≡ inside.links → place ≡ position (λ (x : Link). x.number == l) items → position (λ (x : Link). x.number == l) kept.links ≡ place
link_kept kept inside items l place seen read found = ap (λ (k : Kept). position (λ (x : Link). x.number == l) k.links) (sym seen) ∙ link_in inside.links items l place read found

-- the link at a place is taken out
pub left_link : (at : ℕ) (over : Bool) (kept inside after : Kept) (link : Link) → over ≡ true → inside ≡ kept → at < length inside.links → link ≡ get_or inside.links at link → Unlinks link inside.nodes after.nodes → after.links ≡ remove inside.links at
    → after.ids ≡ inside.ids → LeavesLink at over kept after
left_link at over kept inside after link is_over seen lt is unlinks links ids =
    subst (λ b. LeavesLink at b kept after) (sym is_over) (subst (λ k. LeavesLink at true k after) seen (
      λ other same. subst (λ x. Unlinks x inside.nodes after.nodes) (is ∙ get_or_default inside.links at link other lt ∙ sym same) unlinks,
      links,
      ids,
    ))

some_same : (i j : ℕ) → ◌≡◌ {A = Option ℕ} (Some i) (Some j) → i ≡ j
some_same i j e = cc

-- the link that feeds a vBucket is taken out
module _ (kept inside after : Kept) (items : List Link) (n v : ℕ) where
  abbrev own : Link → Bool
  own link = link.node == n && link.vb == v

  pub own_left : (at : ℕ) (over : Bool) (place : Option ℕ) → inside ≡ kept → items ≡ inside.links → place ≡ position own items → place ≡ Some at → LeavesLink at over kept after → LeavesOwn n v over kept after
  own_left at over place seen read found is leaves = by over leaves
    where
      placed : position own kept.links ≡ Some at
      placed = ap (λ (k : Kept). position own k.links) (sym seen) ∙ ap (position own) (sym read) ∙ sym found ∙ is

      by : (b : Bool) → LeavesLink at b kept after → LeavesOwn n v b kept after
      by false h = h
      by true h = λ other also. let same : Some at ≡ Some other = sym placed ∙ also in subst (λ k. LeavesLink k true kept after) (some_same at other same) h

  pub own_none : (over : Bool) (place : Option ℕ) → inside ≡ kept → items ≡ inside.links → place ≡ position own items → place ≡ None → LeavesOwn n v over kept kept
  own_none over place seen read found is = by over
    where
      none : position own kept.links ≡ None
      none = ap (λ (k : Kept). position own k.links) (sym seen) ∙ ap (position own) (sym read) ∙ sym found ∙ is

      by : (b : Bool) → LeavesOwn n v b kept kept
      by false = refl
      by true = λ other also. let no : None ≡ Some other = sym none ∙ also in cc
