-- a change of role: its outcomes are posted once its links and streams ended, and nobody waits for nothing then
use Rattle.std.specs.Prelude.{◌≡◌, ◌==◌, if◌then◌else◌}
use Rattle.transcript_law.proofs.Words.{ℕ, Bool, true, false, List, [], refl, ap, sym, ◌∙◌, subst, inl, inr, ⊎_elim, eq-eqb, eqb-true, Option, Some, None, is_some, AdminCall, AdminResult, Cause, PlainLink, PlainNode, PlainSession, PlainWorld, called_at, cut_off, links_ended, no_node, node_outcome, own_link, role_outcome, turned_after, turned_if, with_ended, with_node_at}
use Rattle.node_core.specs.Admin.{admin_refused, changes_role}
use Rattle.node_world.specs.{Arms.{lifted, placed, under_arm}, Nodes.{all_posted, with_clients_ended}, Turns.{posted_at, role_called, turned}}
use Rattle.transcript_law.proofs.awaiting.{Idles.{ended_stays}, Nodes.{told_good, waits_of}, Numbers.{Counted}, Posts.{Good, posts_good}, Roles.{role_good}, Stays.{AllStay, NoneIn, NoneWaits, Stays, all_on, all_same, if_stays, none_on, stays_kept, unlinked_stays}}
use Rattle.transcript_law.proofs.invariant.{AtRest.{Still, cut_still, still_put, still_steps}, CallsKept.{AllAt, AllIn, InWorld, ended_all}, Ranged.{IsRanged, NodeRanged, NodeRangedIf, kept_ranged, with_ended_ranged, with_node}}
use Rattle.transcript_law.specs.Waits.{NoneWaitsInVain}
use Rattle.vb_calls.specs.declared.calls.Resolved.{Resolved}
use Rattle.vbucket.specs.Laws.{IsTimely}

-- what waits, or is about to be told, waits on, or still is
pub good_stays : (n : ℕ) (rs : List Resolved) (node node' : PlainNode) → Stays (Some node) (Some node') → NodeRanged n node' → AllAt Still node'.vbs → Good n rs node → Good n rs node'
good_stays n rs node node' s ranged still g = record {
  still = still;
  ranged = ranged;
  counted = λ c client is. let (old, was, same, kept) = s c client is in subst (λ (x : PlainSession). Counted x.who x) (sym same) (g.counted c old was);
  apart = λ c d client other is has base.
      let (one, was, same, kept) = s c client is in let (two, had, alike, more) = s d other has in
      g.apart c d one two was had (ap (λ (x : PlainSession). x.who.base) (sym same) ∙ base ∙ ap (λ (x : PlainSession). x.who.base) alike);
  waits = λ c client a lt is has.
      let (old, was, same, kept) = s c client is in
      ⊎_elim (λ o. inl (kept a.waiter o)) (λ t. inr t) (g.waits c old a lt was (sym (ap (λ (x : PlainSession). x.awaited) same) ∙ has));
}

-- links and streams that end with a role
cut_stays : (o : Option PlainLink) (w : PlainWorld) → AllStay w (cut_off o w).0
cut_stays None w = all_same w
cut_stays (Some link) w = unlinked_stays w link

pub ended_all_stay : (n v : ℕ) (ids : List ℕ) (w : PlainWorld) → AllStay w (with_ended n v ids w)
ended_all_stay n v ids w = if_stays w n (with_clients_ended v ids) (ended_stays v ids)

module _ (n v : ℕ) (w : PlainWorld) (all : NoneWaits w) (ranged : IsRanged w) (still : InWorld Still w) where
  -- the call was made, of a node that is about to tell these
  module _ (node : PlainNode) (rs : List Resolved) (good : Good n rs node) (ids : List ℕ) (told : AdminResult) where
    abbrev came : PlainWorld
    came = with_node_at w n node

    abbrev ended : PlainWorld
    ended = with_ended n v ids came

    abbrev cut : PlainWorld
    cut = (cut_off (own_link n v ended.links) ended).0

    stay : AllStay came cut
    stay = all_on came ended cut (ended_all_stay n v ids came) (cut_stays (own_link n v ended.links) ended)

    came_ranged : IsRanged came
    came_ranged = with_node w n node ranged good.ranged

    so : IsRanged cut × InWorld Still cut
    so = cut_still (own_link n v (links_ended n v ids came.links)) ended (with_ended_ranged n v ids came came_ranged) (ended_all Still IsTimely still_steps (λ id. tt) came n v ids (still_put w n node still good.still))

    -- the other nodes
    other : (m : ℕ) → (m == n) ≡ false → NoneIn (cut.nodes m)
    other m e = none_on (came.nodes m) (cut.nodes m) (stay m) (subst (λ b. NoneIn (if b then Some node else w.nodes m)) (sym e) (all m))

    at : (o : Option PlainNode) → cut.nodes n ≡ o → NoneWaits (posted_at n rs cut (turned n v told ended).1 o).0
    at None e m = by (m == n) refl
      where
        by : (b : Bool) → (m == n) ≡ b → NoneIn (cut.nodes m)
        by true k = subst (λ j. NoneIn (cut.nodes j)) (sym (eqb-true m n k)) (subst NoneIn (sym e) tt)
        by false k = other m k
    at (Some last) e m = by (m == n) refl
      where
        here : Stays (Some node) (Some last)
        here = subst (λ o. Stays o (Some last)) (ap (λ b. if b then Some node else w.nodes n) (eq-eqb n n refl)) (subst (λ o. Stays (came.nodes n) o) e (stay n))

        posted : NoneWaitsInVain (all_posted rs last).0
        posted = waits_of n (all_posted rs last).0 (posts_good n rs last (good_stays n rs node last here (subst (NodeRangedIf n) e (so.0 n)) (subst (AllIn Still) e (so.1 n)) good))

        by : (b : Bool) → (m == n) ≡ b → NoneIn (if b then Some (all_posted rs last).0 else cut.nodes m)
        by true k = posted
        by false k = other m k

    turns : NoneWaits (posted_at n rs cut (turned n v told ended).1 (cut.nodes n)).0
    turns = at (cut.nodes n) refl

  -- by whether the node runs, and the call gave the role
  module _ (asked : AdminCall) (role : changes_role asked ≡ true) (node : PlainNode) (good : Good n [] node) where
    abbrev x : PlainNode × AdminResult
    x = called_at n v asked (placed v node)

    armed : Good n [] (placed v node)
    armed = told_good n [] node (placed v node) refl (λ c. refl) refl good.still (λ k some o. inl o) good

    gave : (ids : List ℕ) → x.1.ended ≡ Some ids → Good n x.1.resolved (lifted v x.0)
    gave ids e =
        let g = role_good n v asked ids (placed v node) armed role e in
        good_stays n x.1.resolved x.0 (lifted v x.0) (stays_kept x.0 (lifted v x.0) (λ c. refl) (λ k o. o)) (kept_ranged n x.0 (lifted v x.0) refl (λ c. refl) refl g.ranged) g.still g

    by_ended : (o : Option (List ℕ)) → x.1.ended ≡ o → NoneWaits (turned_if n v w o (with_node_at w n (lifted v x.0), x.1)).0
    by_ended None e = all
    by_ended (Some ids) e = turns (lifted v x.0) x.1.resolved (gave ids e) ids x.1

    by_off : (b : Bool) → let y : PlainNode × AdminResult = if b then (node, admin_refused Cause.NodeDown) else under_arm v (called_at n v asked) node in NoneWaits (turned_after n v w (with_node_at w n y.0, y.1)).0
    by_off true = all
    by_off false = by_ended x.1.ended refl

  pub role_none : (asked : AdminCall) → changes_role asked ≡ true → ((node : PlainNode) → w.nodes n ≡ Some node → Good n [] node) → NoneWaits (role_outcome n v asked w).0
  role_none asked role good = by (w.nodes n) refl
    where
      by : (o : Option PlainNode) → w.nodes n ≡ o → NoneWaits (turned_after n v w (node_outcome w n no_node o (role_called n v asked))).0
      by None e = all
      by (Some node) e = by_off asked role node (good node e) (is_some node.off)
