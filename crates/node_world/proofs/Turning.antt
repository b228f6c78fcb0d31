-- changes of role, in the world that is kept
use Rattle.std.proofs.Common.{◌≡◌, ℕ, ◌<◌, Bool, true, false, cond, List, [], ◌∷◌, length, get_or, set, remove, refl, ap, sym, ◌∙◌, subst, arith, Option, Some, None, is_some}
use Rattle.std.specs.Prelude.{◌==◌, ◌&&◌, if◌then◌else◌}
use Rattle.std.specs.List.{position, find, list_any}
use Rattle.std.specs.Option.{option_map}
use Rattle.std.proofs.lemmas.Bool.{eqb-true, eq-eqb, false≢true}
use Rattle.std.proofs.lemmas.List.{get_or_default}
use Rattle.std.proofs.lemmas.List.Quantifiers.{position-Some}
use Rattle.vb_events.specs.declared.event.Cause.TheVariants as cause
use Rattle.vb_calls.specs.Programs.{after}
use Rattle.vbucket.specs.Rows.{row_at}
use Rattle.node_core.specs.declared.admin.AdminCall.{AdminCall}
use Rattle.node_core.specs.declared.out.NodeOut.{NodeOut}
use Rattle.node_core.specs.Admin.{AdminResult, admin_refused}
use Rattle.node_core.specs.Dials.{KeptDial}
use Rattle.node_core.specs.Outcomes.{live_dial}
use Rattle.node_core.specs.Outs.{dial_ended, admin_out, flush_by}
use Rattle.node_world.specs.declared.link.Link.{Link}
use Rattle.node_world.specs.declared.script_node.ScriptNode.{ScriptNode}
use Rattle.node_world.specs.Arms.{lifted, placed as under_it, under_arm}
use Rattle.node_world.specs.Cuts.{unlinked, own_link, cut_off}
use Rattle.node_world.specs.Ends.{Carries, dial_under, kept_peer_ended, TellsEnds, SetsRole, KeepsOthers, Unlinked, LeavesLink, LeavesOwn, with_clients_told}
use Rattle.node_world.specs.Lines.{ChangesRole, out_told}
use Rattle.node_world.specs.Links.{PlainLink, feeds, dial_of}
use Rattle.node_world.specs.Nodes.{PlainNode, refusal, with_posts}
use Rattle.node_world.specs.Pairing.{Pairs}
use Rattle.node_world.specs.Stands.{NodeMatch, NodeStands, node_number, NodesStand, Ends, ends_of, LinkStands, IdsStand, LinksStand, Kept, WorldStands}
use Rattle.node_world.specs.declared.told.Told.{Told}
use Rattle.node_world.specs.Turns.{called_at, call_told, posted_at, posted_in, role_called, after_cuts, with_ended, turned, turned_if, turned_after, no_node, role_outcome}
use Rattle.node_world.specs.Worlds.{PlainWorld, Outcome, with_node_at, node_outcome, on_made}
use Rattle.node_world.proofs.ClientsTold.{told_uuids, told_world}
use Rattle.node_world.proofs.AfterPosts.{none_posted}
use Rattle.node_world.proofs.Finding.{position_any, find_at}
use Rattle.node_world.proofs.Held.{both_same, is_same, same_ends, out_stand, told_stand}
use Rattle.node_world.proofs.RoleJobs.{turn_stays}
use Rattle.node_world.proofs.OnLinks.{closed_uuids, the, the_stands, the_is, within, out_is}
use Rattle.node_world.proofs.OnNodes.{made_line, off_as_plain, with_nodes}
use Rattle.node_world.proofs.Pairing.{pairs_at}
use Rattle.node_world.proofs.Places.{no_node as unmade}
use Rattle.node_world.proofs.Places.{plain_at, numbered, dial_here, step_stands, peers_told, dials_told}

-- where a vBucket did not dial, no link feeds it
none_feeds : (ends : Ends) (n v : ℕ) (links : List Link) (plain : List PlainLink) → ends.dials n v ≡ None → Pairs (LinkStands ends) links plain → own_link n v plain ≡ None
none_feeds ends n v [] [] none h = refl
none_feeds ends n v [] (p ∷ ps) none h = absurd h
none_feeds ends n v (x ∷ xs) [] none h = absurd h
none_feeds ends n v (x ∷ xs) (p ∷ ps) none h = by (feeds n v p) refl (none_feeds ends n v xs ps none h.1)
  where
    by : (b : Bool) → feeds n v p ≡ b → find (feeds n v) ps ≡ None → cond b (Some p) (find (feeds n v) ps) ≡ None
    by true t later =
        let same = both_same p.consumer.dialed.node p.consumer.dialed.vb n v t in
        let there : None ≡ Some (live_dial (dial_of p)) = sym none ∙ (λ i. ends.dials (sym (h.0.node ∙ same.0) i) (sym (h.0.vb ∙ same.1) i)) ∙ h.0.consumer in
        cc
    by false t later = later

-- the link that feeds a vBucket has the first place of those that do
module _ (ends : Ends) (links : List Link) (plain : List PlainLink) (n v i : ℕ) (d : Link) (at_place : position (λ (link : Link). link.node == n && link.vb == v) links ≡ Some i) (stand : LinksStand ends links plain) where
  first_own : (i < length links) × (((get_or links i d).node == n && (get_or links i d).vb == v) ≡ true) × ((k : ℕ) → k < i → ((get_or links k d).node == n && (get_or links k d).vb == v) ≡ false)
  first_own = let (lt, here, before) = position-Some (λ (link : Link). link.node == n && link.vb == v) links i d at_place in (lt, here, before)

  pub own_within : i < length links
  own_within = first_own.0

  pub own_feeds : ((get_or links i d).node ≡ n) × ((get_or links i d).vb ≡ v)
  own_feeds = both_same (get_or links i d).node (get_or links i d).vb n v first_own.1

  abbrev pub own_one : PlainLink
  own_one = the ends links plain i d own_within stand

  own_stands : LinkStands ends (get_or links i d) own_one
  own_stands = the_stands ends links plain i d own_within stand

  pub own_is : own_link n v plain ≡ Some own_one
  own_is = find_at (feeds n v) plain i own_one (within ends links plain i d own_within stand) (ap (feeds n v) (the_is ends links plain i d own_within stand own_one)
      ∙ is_same own_one.consumer.dialed.node own_one.consumer.dialed.vb n v (sym own_stands.node ∙ own_feeds.0) (sym own_stands.vb ∙ own_feeds.1)) before ∙ ap Some (the_is ends links plain i d own_within stand own_one)
    where
      before : (k : ℕ) → k < i → feeds n v (get_or plain k own_one) ≡ false
      before k lower =
          let one = pairs_at (LinkStands ends) links plain k d own_one (omega (arith, lower, own_within)) stand.each in
          sym (λ j. (one.node j == n) && (one.vb j == v)) ∙ first_own.2 k lower

-- a call that changes a role, under the node's arm
abbrev armed : ℕ → ℕ → AdminCall → PlainNode → PlainNode × AdminResult
armed n v asked node = under_arm v (called_at n v asked) node

-- a change of role at a node that is made
module _ (kept : Kept) (w : PlainWorld) (n v at : ℕ) (asked : AdminCall) (old new : ScriptNode) (out : NodeOut) (placed : position (λ node. node_number node == n) kept.nodes ≡ Some at) (is : old ≡ get_or kept.nodes at old)
    (stands : WorldStands kept w) (changes : ChangesRole asked) (turns : SetsRole v asked old out new) (is_up : is_some old.off ≡ false) (rests : (plain : PlainNode) → w.nodes n ≡ Some plain → lifted v (under_it v plain) ≡ plain) where
  abbrev nodes' : List ScriptNode
  nodes' = set kept.nodes at new

  abbrev ends : Ends
  ends = ends_of kept.nodes

  turns_here : (plain : PlainNode) → NodeMatch old plain → NodeMatch new (with_clients_told v (armed n v asked plain).1.ended (armed n v asked plain).0)
      × (out ≡ admin_out (dial_ended (armed n v asked plain).1.ended (dial_under old v)) (armed n v asked plain).1) × TellsEnds old new v (armed n v asked plain).1.ended
  turns_here plain alike =
      subst (λ m. NodeMatch new (with_clients_told v (armed m v asked plain).1.ended (armed m v asked plain).0) × (out ≡ admin_out (dial_ended (armed m v asked plain).1.ended (dial_under old v)) (armed m v asked plain).1) × TellsEnds old new v (armed m v asked plain).1.ended)
      (numbered kept.nodes n at old new placed is) (turns plain alike)

  module _ (plain : PlainNode) (there : w.nodes n ≡ Some plain) (alike : NodeMatch old plain) where
    abbrev said : AdminResult
    said = (armed n v asked plain).1

    abbrev w1 : PlainWorld
    w1 = with_node_at w n (armed n v asked plain).0

    tells : TellsEnds old new v said.ended
    tells = (turns_here plain alike).2

    -- the node with its clients told
    abbrev heard : PlainNode → PlainNode
    heard x = with_clients_told v (armed n v asked x).1.ended (armed n v asked x).0

    known : NodesStand nodes' (with_node_at w n (heard plain))
    known =
        let none : List ℕ = [] in
        subst (λ o. NodesStand nodes' (node_outcome w n none o (λ x. (heard x, none))).0) there
        (step_stands kept.nodes n at old new placed is tells.number w none (λ x. (heard x, none)) (λ t. List ℕ) stands.nodes (λ x same. ((turns_here x same).0, none))).0

    abbrev Comes : Kept → Outcome → Type 0
    Comes after o = WorldStands after o.0 × (out_told out ≡ o.1)

    stays : said.ended ≡ None → (armed n v asked plain).0 ≡ plain
    stays none = ap (lifted v) (turn_stays n v asked changes (under_it v plain) none).0 ∙ rests plain there

    -- it was refused
    refused : said.ended ≡ None → (after : Kept) → LeavesOwn n v out.closed (with_nodes kept nodes') after → Comes after (w, call_told said)
    refused none after leaves = (
      subst (λ k. WorldStands k w) (sym (subst (λ b. LeavesOwn n v b (with_nodes kept nodes') after) (ap (λ (x : NodeOut). x.closed) out_is) leaves)) (record {
        nodes = λ k. back k (k == n) refl (row_at node_number k nodes') (known k);
        ids = stands.ids;
        links = same_ends ends (ends_of nodes') kept.links w.links peers dials stands.links;
      }),
      ap out_told out_is,
    )
      where
        out_is : out ≡ admin_out None said
        out_is = (turns_here plain alike).1 ∙ ap (λ e. admin_out (dial_ended e (dial_under old v)) said) none

        back : (k : ℕ) (b : Bool) → (k == n) ≡ b → (r : Option ScriptNode) → NodeStands r (if b then Some (heard plain) else w.nodes k) → NodeStands r (w.nodes k)
        back k true e r h = subst (NodeStands r) (ap (λ o. Some (with_clients_told v o (armed n v asked plain).0)) none ∙ ap Some (stays none) ∙ sym there ∙ ap w.nodes (sym (eqb-true k n e))) h
        back k false e r h = h

        peers : (m key : ℕ) → (ends_of nodes').peers m key ≡ ends.peers m key
        peers m key = peers_told kept.nodes n at old new placed is tells.number v said.ended tells m key ∙ ap (λ e. if m == n then option_map (kept_peer_ended v e) (ends.peers m key) else ends.peers m key) none ∙ by (m == n) (ends.peers m key)
          where
            by : (b : Bool) (o : _) → (if b then option_map (kept_peer_ended v None) o else o) ≡ o
            by true None = refl
            by true (Some x) = refl
            by false o = refl

        dials : (m u : ℕ) → (ends_of nodes').dials m u ≡ ends.dials m u
        dials m u = dials_told kept.nodes n at old new placed is tells.number v said.ended tells m u
            ∙ ap (λ (e : Option (List ℕ)). if m == n then (if is_some e && u == v then None else ends.dials m u) else ends.dials m u) none ∙ by (m == n)
          where
            by : (b : Bool) → (if b then ends.dials m u else ends.dials m u) ≡ ends.dials m u
            by true = refl
            by false = refl

    -- it changed the role, and ended these streams
    module _ (ids : List ℕ) (ended : said.ended ≡ Some ids) where
      abbrev w2 : PlainWorld
      w2 = with_ended n v ids w1

      known_told : NodesStand nodes' w2
      known_told = subst (NodesStand nodes') (sym (told_world w n v ids (armed n v asked plain).0)) (subst (λ o. NodesStand nodes' (with_node_at w n (with_clients_told v o (armed n v asked plain).0))) ended known)

      -- the producers are told, and the dial is still there
      abbrev told : Ends
      told = record { peers = (ends_of nodes').peers; dials = ends.dials }

      told_links : LinksStand told kept.links w2.links
      told_links = told_stand ends told kept.links w.links n v ids
          (λ m key. peers_told kept.nodes n at old new placed is tells.number v said.ended tells m key ∙ ap (λ e. if m == n then option_map (kept_peer_ended v e) (ends.peers m key) else ends.peers m key) ended)
          (λ m u. refl) stands.links

      dials_left : (m u : ℕ) → (ends_of nodes').dials m u ≡ (if m == n then (if u == v then None else ends.dials m u) else ends.dials m u)
      dials_left m u = dials_told kept.nodes n at old new placed is tells.number v said.ended tells m u
          ∙ ap (λ (e : Option (List ℕ)). if m == n then (if is_some e && u == v then None else ends.dials m u) else ends.dials m u) ended

      handed : out ≡ admin_out (dial_under old v) said
      handed = (turns_here plain alike).1 ∙ ap (λ e. admin_out (dial_ended e (dial_under old v)) said) ended

      dial_is : ends.dials n v ≡ dial_under old v
      dial_is = dial_here kept.nodes n at old new placed is v

      closed_is : (o : Option KeptDial) → dial_under old v ≡ o → out ≡ admin_out o said
      closed_is o e = handed ∙ ap (λ d. admin_out d said) e

      -- the vBucket had no dial
      no_own : dial_under old v ≡ None → (after : Kept) → LeavesOwn n v out.closed (with_nodes kept nodes') after → Comes after (turned n v said w2)
      no_own none after leaves =
          let here : own_link n v w2.links ≡ None = none_feeds told n v kept.links w2.links (dial_is ∙ none) told_links.each in
          subst (λ o. Comes after (after_cuts said (cut_off o w2))) (sym here) (
            subst (λ k. WorldStands k w2) (sym (subst (λ b. LeavesOwn n v b (with_nodes kept nodes') after) (ap (λ (x : NodeOut). x.closed) (closed_is None none)) leaves)) (record {
              nodes = known_told;
              ids = subst (IdsStand kept.ids) (sym (told_uuids n v ids w1)) stands.ids;
              links = same_ends told (ends_of nodes') kept.links w2.links (λ m key. refl) dials told_links;
            }),
            ap out_told (closed_is None none),
          )
        where
          dials : (m u : ℕ) → (ends_of nodes').dials m u ≡ ends.dials m u
          dials m u = dials_left m u ∙ by (m == n) (u == v) refl refl
            where
              by : (a b : Bool) → (m == n) ≡ a → (u == v) ≡ b → (if a then (if b then None else ends.dials m u) else ends.dials m u) ≡ ends.dials m u
              by true true e f = sym ((λ i. ends.dials (eqb-true m n e i) (eqb-true u v f i)) ∙ dial_is ∙ none)
              by true false e f = refl
              by false b e f = refl

      -- the vBucket's own link
      module _ (kd : KeptDial) (had : dial_under old v ≡ Some kd) where
        has : list_any (λ (link : Link). link.node == n && link.vb == v) kept.links ≡ true
        has = stands.links.dials n v (ap is_some (dial_is ∙ had))

        -- some link, since one feeds the vBucket
        some_link : (links : List Link) → list_any (λ (link : Link). link.node == n && link.vb == v) links ≡ true → Link
        some_link [] e = absurd (false≢true e)
        some_link (x ∷ xs) e = x

        abbrev d : Link
        d = some_link kept.links has

        module _ (i : ℕ) (at_place : position (λ (link : Link). link.node == n && link.vb == v) kept.links ≡ Some i) where
          abbrev lt : i < length kept.links
          lt = own_within told kept.links w2.links n v i d at_place told_links

          abbrev link : Link
          link = get_or kept.links i d

          abbrev p : PlainLink
          p = the told kept.links w2.links i d lt told_links

          p_stands : LinkStands told link p
          p_stands = the_stands told kept.links w2.links i d lt told_links

          same : (link.node ≡ n) × (link.vb ≡ v)
          same = own_feeds told kept.links w2.links n v i d at_place told_links

          own : own_link n v w2.links ≡ Some p
          own = own_is told kept.links w2.links n v i d at_place told_links

          some_dial : (x y : KeptDial) → Some x ≡ Some y → x ≡ y
          some_dial x y e = cc

          dial_p : kd ≡ live_dial (dial_of p)
          dial_p = some_dial kd (live_dial (dial_of p)) (sym (dial_is ∙ had) ∙ (λ j. ends.dials (sym same.0 j) (sym same.1 j)) ∙ p_stands.consumer)

          module _ (after : Kept) (leaves : LeavesLink i true (with_nodes kept nodes') after) where
            gone : Unlinked link p w2 nodes' after.nodes
            gone = leaves.0 link (get_or_default kept.links i d link lt) w2 p known_told p_stands.producer p_stands.server

            others : KeepsOthers link told (ends_of after.nodes)
            others = record {
              peers = gone.others;
              dials = λ m u away. gone.dials m u ∙ dials_left m u ∙ by (m == n) (u == v) (ends.dials m u) (sym (λ j. (m == same.0 j) && (u == same.1 j)) ∙ away);
            }
              where
                by : (a b : Bool) (o : Option KeptDial) → (a && b) ≡ false → (if a then (if b then None else o) else o) ≡ o
                by true true o e = cc
                by true false o e = refl
                by false b o e = refl

            no_dial : (ends_of after.nodes).dials link.node link.vb ≡ None
            no_dial =
                let o = ends.dials link.node link.vb in
                gone.dials link.node link.vb ∙ dials_left link.node link.vb ∙ ap (λ b. if b then (if link.vb == v then None else o) else o) (eq-eqb link.node n same.0) ∙ ap (λ b. if b then None else o) (eq-eqb link.vb v same.1)

            cut : Comes after (turned n v said w2)
            cut = subst (λ o. Comes after (after_cuts said (cut_off o w2))) (sym own) (
              record {
                nodes = gone.stands;
                ids = subst (λ xs. IdsStand xs (unlinked p w2).uuids) (sym leaves.2) (subst (IdsStand kept.ids) (sym (closed_uuids p w2 ∙ told_uuids n v ids w1)) stands.ids);
                links = subst (λ xs. LinksStand (ends_of after.nodes) xs (unlinked p w2).links) (sym leaves.1)
                    (subst (LinksStand (ends_of after.nodes) (remove kept.links i)) (out_is told kept.links w2.links i d lt told_links)
                    (out_stand told (ends_of after.nodes) kept.links w2.links i d lt others told_links gone.gone no_dial));
              },
              ap out_told (closed_is (Some (live_dial (dial_of p))) (had ∙ ap Some dial_p)),
            )

        cut_own : (place : Option ℕ) → position (λ (link : Link). link.node == n && link.vb == v) kept.links ≡ place → (after : Kept) → LeavesOwn n v true (with_nodes kept nodes') after → Comes after (turned n v said w2)
        cut_own None at_none after leaves = let no : false ≡ true = ap is_some (sym at_none) ∙ position_any (λ (link : Link). link.node == n && link.vb == v) kept.links ∙ has in cc
        cut_own (Some i) at_place after leaves = cut i at_place after (leaves i at_place)

        with_own : (after : Kept) → LeavesOwn n v out.closed (with_nodes kept nodes') after → Comes after (turned n v said w2)
        with_own after leaves =
            cut_own (position (λ (link : Link). link.node == n && link.vb == v) kept.links) refl after (subst (λ b. LeavesOwn n v b (with_nodes kept nodes') after) (ap (λ (x : NodeOut). x.closed) (closed_is (Some kd) had)) leaves)

      changed : (o : Option KeptDial) → dial_under old v ≡ o → (after : Kept) → LeavesOwn n v out.closed (with_nodes kept nodes') after → Comes after (turned n v said w2)
      changed None none after leaves = no_own none after leaves
      changed (Some kd) had after leaves = with_own kd had after leaves

    -- what the call comes to before its outcomes are told
    abbrev unposted : Option (List ℕ) → Outcome
    unposted None = (w, call_told said)
    unposted (Some ids) = turned n v said (with_ended n v ids w1)

    either : (o : Option (List ℕ)) → said.ended ≡ o → (after : Kept) → LeavesOwn n v out.closed (with_nodes kept nodes') after → Comes after (unposted o)
    either None e after leaves = refused e after leaves
    either (Some ids) e after leaves = changed ids e (dial_under old v) refl after leaves

    resolved_is : out.resolved ≡ said.resolved
    resolved_is = ap (λ (x : NodeOut). x.resolved) (turns_here plain alike).1 ∙ by (dial_ended said.ended (dial_under old v))
      where
        by : (d : Option KeptDial) → (admin_out d said).resolved ≡ said.resolved
        by None = refl
        by (Some kd) = refl

    posted_is : (o : Option (List ℕ)) → said.ended ≡ o → posted_in n out.resolved (unposted o) ≡ turned_if n v w o (w1, said)
    posted_is None e = ap (λ rs. posted_in n rs (w, call_told said)) (resolved_is ∙ (turn_stays n v asked changes (under_it v plain) e).1) ∙ none_posted n w (call_told said)
    posted_is (Some ids) e = ap (λ rs. posted_in n rs (turned n v said (with_ended n v ids w1))) resolved_is

  -- a change of role, refused or not, and then what became of durable writes
  module _ (after last : Kept) (told : Told) (posts : (x : PlainWorld) → WorldStands after x → WorldStands last (posted_in n out.resolved (x, out_told out)).0 × (told ≡ (posted_in n out.resolved (x, out_told out)).1)) where
    abbrev pub Ends_as : Outcome → Type 0
    Ends_as o = WorldStands last o.0 × (told ≡ o.1)

    pub turned_line : LeavesOwn n v out.closed (with_nodes kept nodes') after → Ends_as (role_outcome n v asked w)
    turned_line leaves =
        let (plain, there, alike) = plain_at kept.nodes n at old new placed is w stands.nodes in
        let ended = (armed n v asked plain).1.ended in
        let (stand, said) = either plain there alike ended refl after leaves in
        let x : Outcome = unposted plain there alike ended in
        subst (λ o. Ends_as (turned_after n v w (node_outcome w n no_node o (role_called n v asked)))) (sym there)
        (subst (λ b. let y : PlainNode × AdminResult = if b then (plain, admin_refused cause.NodeDown) else armed n v asked plain in Ends_as (turned_after n v w (with_node_at w n y.0, y.1))) (sym (sym (off_as_plain old plain alike) ∙ is_up))
        (subst Ends_as (posted_is plain there alike ended refl) (subst (λ (t : Told). Ends_as (posted_in n out.resolved (x.0, t))) said (posts x.0 stand))))

-- what became of durable writes is told to who awaits it, at a node that is made
pub posted_line : (kept : Kept) (w : PlainWorld) (n at : ℕ) (old new : ScriptNode) (out : NodeOut) (told : Told) → position (λ node. node_number node == n) kept.nodes ≡ Some at → old ≡ get_or kept.nodes at old → WorldStands kept w
    → Carries (with_posts (flush_by out)) old told new
    → WorldStands (with_nodes kept (set kept.nodes at new)) (posted_in n out.resolved (w, out_told out)).0 × (told ≡ (posted_in n out.resolved (w, out_told out)).1)
posted_line kept w n at old new out told placed is stands carried =
    let (plain, there, alike) = plain_at kept.nodes n at old new placed is w stands.nodes in
    let same : on_made w n (with_posts (flush_by out)) ≡ posted_in n out.resolved (w, out_told out)
    = ap (λ o. node_outcome w n (refusal cause.UnknownNode) o (with_posts (flush_by out))) there ∙ sym (ap (posted_at n out.resolved w (out_told out)) there) in
    subst (λ (o : Outcome). WorldStands (with_nodes kept (set kept.nodes at new)) o.0 × (told ≡ o.1)) same (made_line kept w n at old new placed is stands (λ m. with_posts (flush_by out)) told carried)

-- and at one that is not
pub unposted_line : (kept : Kept) (w : PlainWorld) (n : ℕ) (out : NodeOut) → position (λ node. node_number node == n) kept.nodes ≡ None → WorldStands kept w
    → WorldStands kept (posted_in n out.resolved (w, out_told out)).0 × (out_told out ≡ (posted_in n out.resolved (w, out_told out)).1)
unposted_line kept w n out none stands =
    subst (λ o. WorldStands kept (posted_at n out.resolved w (out_told out) o).0 × (out_told out ≡ (posted_at n out.resolved w (out_told out) o).1)) (sym (unmade kept.nodes w n none stands.nodes)) (stands, refl)

-- at a node that is not made
pub unmade_turn : (kept : Kept) (w : PlainWorld) (n v : ℕ) (asked : AdminCall) → position (λ node. node_number node == n) kept.nodes ≡ None → WorldStands kept w
    → WorldStands kept (role_outcome n v asked w).0 × (refusal cause.UnknownNode ≡ (role_outcome n v asked w).1)
unmade_turn kept w n v asked none stands =
    subst (λ o. WorldStands kept (turned_after n v w (node_outcome w n no_node o (role_called n v asked))).0 × (refusal cause.UnknownNode ≡ (turned_after n v w (node_outcome w n no_node o (role_called n v asked))).1)) (sym (unmade kept.nodes w n none stands.nodes))
    (stands, refl)

-- at a node that is down
pub down_turn : (kept : Kept) (w : PlainWorld) (n v at : ℕ) (asked : AdminCall) (old : ScriptNode) → position (λ node. node_number node == n) kept.nodes ≡ Some at → old ≡ get_or kept.nodes at old → is_some old.off ≡ true → WorldStands kept w
    → WorldStands kept (role_outcome n v asked w).0 × (refusal cause.NodeDown ≡ (role_outcome n v asked w).1)
down_turn kept w n v at asked old placed is down stands =
    let (plain, there, alike) = plain_at kept.nodes n at old old placed is w stands.nodes in
    subst (λ o. WorldStands kept (turned_after n v w (node_outcome w n no_node o (role_called n v asked))).0 × (refusal cause.NodeDown ≡ (turned_after n v w (node_outcome w n no_node o (role_called n v asked))).1)) (sym there)
    (subst (λ b. let x : PlainNode × AdminResult = if b then (plain, admin_refused cause.NodeDown) else armed n v asked plain in
    WorldStands kept (turned_after n v w (with_node_at w n x.0, x.1)).0 × (refusal cause.NodeDown ≡ (turned_after n v w (with_node_at w n x.0, x.1)).1)) (sym (sym (off_as_plain old plain alike) ∙ down)) (stands, refl))
