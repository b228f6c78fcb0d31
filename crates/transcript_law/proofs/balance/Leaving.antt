-- lines that leave the bytes of links as they are
use Rattle.std.specs.Prelude.{◌≡◌, ℕ, ◌==◌, ◌⊎◌, if◌then◌else◌, List, [], ◌∷◌, filter}
use Rattle.transcript_law.proofs.Words.{Bool, true, false, refl, ap, sym, ◌∙◌, subst, inl, inr, ⊎_elim, Option, Some, None, Cause, AdminCall, Told, PlainLink, link_number, producer_node, PlainNode, PlainWorld, Outcome, node_outcome, row_out, row_put, unlinked, link_ended, links_ended, refused_or}
use Rattle.std.specs.List.{find}
use Rattle.dcp_producer.specs.Ending.{ended_by}
use Rattle.node_core.specs.Admin.{AdminResult}
use Rattle.node_world.specs.{Arms.{fired_by}, Cuts.{cut_off, own_link}, Power.{after_broken, after_fire, all_cut, all_unlinked, dropped, stopped_node, touches, with_arm, with_broken, is_broken_answer}, Turns.{no_node, posted_at, posted_in, role_called, role_outcome, turned, turned_if, with_ended}, Worlds.{arm_in, node_if, on_made}}
use Rattle.node_world.specs.declared.arm.Fired.{Fired}
use Rattle.node_world.specs.declared.arm.Fired.TheVariants as fired
use Rattle.vb_calls.specs.declared.calls.Resolved.{Resolved}
use Rattle.vb_disk.specs.declared.made.Outcome.{Outcome as Left}
use Rattle.transcript_law.proofs.balance.Levels.{FlowOn, flow_of}
use Rattle.transcript_law.proofs.invariant.Agreement.{IsLink}
use Rattle.transcript_law.proofs.links.Turning.{told_is_link}

-- ---- lists of links

-- each link is one that was there
abbrev pub IsAmong : List PlainLink → List PlainLink → Type 0
IsAmong links links' = (x : PlainLink) → IsLink x links' → IsLink x links

pub out_among : (l : ℕ) (links : List PlainLink) → IsAmong links (row_out link_number l links)
out_among l [] x i = i
out_among l (y ∷ ys) x i = by (λ k. out_among l ys x k) (link_number y == l) i
  where
    by : (IsLink x (row_out link_number l ys) → IsLink x ys) → (b : Bool) → IsLink x (if b then ys else y ∷ row_out link_number l ys) → IsLink x (y ∷ ys)
    by rest true j = inr j
    by rest false j = ⊎_elim (λ e. inl e) (λ k. inr (rest k)) j

pub put_among : (l : ℕ) (link : PlainLink) (links : List PlainLink) (x : PlainLink) → IsLink x (row_put link_number l link links) → (x ≡ link) ⊎ IsLink x links
put_among l link [] x i = absurd i
put_among l link (y ∷ ys) x i = by (λ k. put_among l link ys x k) (link_number y == l) i
  where
    by : (IsLink x (row_put link_number l link ys) → (x ≡ link) ⊎ IsLink x ys) → (b : Bool) → IsLink x (if b then link ∷ ys else y ∷ row_put link_number l link ys) → (x ≡ link) ⊎ IsLink x (y ∷ ys)
    by rest true j = ⊎_elim (λ e. inl e) (λ k. inr (inr k)) j
    by rest false j = ⊎_elim (λ e. inr (inl e)) (λ k. ⊎_elim (λ e. inl e) (λ m. inr (inr m)) (rest k)) j

pub found_among : (p : PlainLink → Bool) (links : List PlainLink) (x : PlainLink) → find p links ≡ Some x → IsLink x links
found_among p [] x e = cc
found_among p (y ∷ ys) x e = by (λ q. found_among p ys x q) (p y) e
  where
    by : (find p ys ≡ Some x → IsLink x ys) → (b : Bool) → (if b then Some y else find p ys) ≡ Some x → IsLink x (y ∷ ys)
    by rest true q = let same : y ≡ x = cc in inl (sym same)
    by rest false q = inr (rest q)

pub among_on : (links links' : List PlainLink) → IsAmong links links' → FlowOn links links'
among_on links links' among x i = (x, among x i, refl)

pub same_on : (links links' : List PlainLink) → links' ≡ links → FlowOn links links'
same_on links links' same x i = (x, subst (IsLink x) same i, refl)

pub then_on : (a b c : List PlainLink) → FlowOn a b → FlowOn b c → FlowOn a c
then_on a b c first second x i = let (y, j, e) = second x i in let (z, k, f) = first y j in (z, k, e ∙ f)

-- ---- nodes

-- a line that one node carries out leaves all links
pub node_links : {T : Type 0} (w : PlainWorld) (n : ℕ) (absent : T) (o : Option PlainNode) (f : PlainNode → PlainNode × T) → (node_outcome w n absent o f).0.links ≡ w.links
node_links w n absent None f = refl
node_links w n absent (Some node) f = refl

pub made_links : (w : PlainWorld) (n : ℕ) (f : PlainNode → PlainNode × Told) → (on_made w n f).0.links ≡ w.links
made_links w n f = node_links w n _ (w.nodes n) f

pub refused_on : (w : PlainWorld) (why : Option Cause) (came : Outcome) → FlowOn w.links came.0.links → FlowOn w.links (refused_or why w came).0.links
refused_on w None came on = on
refused_on w (Some why) came on = same_on w.links w.links refl

-- ---- links that end

unlinked_among : (links : List PlainLink) (w : PlainWorld) → IsAmong w.links (all_unlinked links w).links
unlinked_among [] w x i = i
unlinked_among (y ∷ ys) w x i = out_among (link_number y) w.links x (unlinked_among ys (unlinked y w) x i)

if_links : (n : ℕ) (f : PlainNode → PlainNode) (w : PlainWorld) (o : Option PlainNode) → (node_if n f w o).links ≡ w.links
if_links n f w None = refl
if_links n f w (Some node) = refl

pub dropped_among : (n : ℕ) (out : Left) (w : PlainWorld) → IsAmong w.links (dropped n out w).links
dropped_among n out w x i =
    unlinked_among (filter (touches n) w.links) w x (subst (IsLink x) (if_links n (stopped_node out) (all_cut n w) ((all_cut n w).nodes n)) i)

-- an arm that fires
pub fire_among : (n : ℕ) (out : Left) (how : Fired) (came : Outcome) → IsAmong came.0.links (after_fire n out how came).0.links
fire_among n out fired.No came x i = i
fire_among n out fired.Failed came x i = i
fire_among n out fired.Stopped came x i = dropped_among n out came.0 x i

pub arm_on : (n : ℕ) (w : PlainWorld) (came : Outcome) → FlowOn w.links came.0.links → FlowOn w.links (with_arm n w came).0.links
arm_on n w came on = then_on w.links came.0.links (with_arm n w came).0.links on (among_on came.0.links (with_arm n w came).0.links (fire_among n (arm_in (w.nodes n)).out (fired_by (arm_in (w.nodes n)).fuse (arm_in (came.0.nodes n)).fuse) came))

broken_among : (n l : ℕ) (out : Left) (how : Fired) (came : Outcome) → IsAmong came.0.links (after_broken n l out how came).0.links
broken_among n l out fired.No came x i = i
broken_among n l out fired.Failed came x i = i
broken_among n l out fired.Stopped came x i = dropped_among n out came.0 x i

pub with_broken_among : (n l : ℕ) (w : PlainWorld) (came : Outcome) → IsAmong came.0.links (with_broken n l w came).0.links
with_broken_among n l w came x i = by (is_broken_answer came.1.answer) i
  where
    by : (b : Bool) → IsLink x (if b then after_broken n l (arm_in (w.nodes n)).out (fired_by (arm_in (w.nodes n)).fuse (arm_in (came.0.nodes n)).fuse) came else came).0.links → IsLink x came.0.links
    by true j = broken_among n l (arm_in (w.nodes n)).out (fired_by (arm_in (w.nodes n)).fuse (arm_in (came.0.nodes n)).fuse) came x j
    by false j = j

-- ---- changes of role

pub cut_among : (o : Option PlainLink) (w : PlainWorld) → IsAmong w.links (cut_off o w).0.links
cut_among None w x i = i
cut_among (Some link) w x i = out_among (link_number link) w.links x i

ended_flow : (n v : ℕ) (ids : List ℕ) (y : PlainLink) → flow_of (link_ended n v ids y) ≡ flow_of y
ended_flow n v ids y = elim (producer_node y == n) as (λ b. flow_of (if b then record y { server = ended_by v ids y.server } else y) ≡ flow_of y) [ true ↦ refl | false ↦ refl ]

pub ended_on : (n v : ℕ) (ids : List ℕ) (links : List PlainLink) → FlowOn links (links_ended n v ids links)
ended_on n v ids links x i = let (y, j, e) = told_is_link n v ids links x i in (y, j, ap flow_of e ∙ ended_flow n v ids y)

pub posted_links : (n : ℕ) (resolved : List Resolved) (came : Outcome) → (posted_in n resolved came).0.links ≡ came.0.links
posted_links n resolved came = by (came.0.nodes n)
  where
    by : (o : Option PlainNode) → (posted_at n resolved came.0 came.1 o).0.links ≡ came.0.links
    by None = refl
    by (Some node) = refl

turned_on : (n v : ℕ) (w w' : PlainWorld) (told : AdminResult) → w'.links ≡ w.links → (ended : Option (List ℕ)) → FlowOn w.links (turned_if n v w ended (w', told)).0.links
turned_on n v w w' told same None = same_on w.links w.links refl
turned_on n v w w' told same (Some ids) =
    let told_of : PlainWorld = with_ended n v ids w' in
    let cut : Outcome = turned n v told told_of in
    then_on w.links told_of.links (posted_in n told.resolved cut).0.links
    (then_on w.links w'.links told_of.links (same_on w.links w'.links same) (ended_on n v ids w'.links))
    (then_on told_of.links cut.0.links (posted_in n told.resolved cut).0.links (among_on told_of.links cut.0.links (cut_among (own_link n v told_of.links) told_of)) (same_on cut.0.links (posted_in n told.resolved cut).0.links (posted_links n told.resolved cut)))

pub role_on : (n v : ℕ) (asked : AdminCall) (w : PlainWorld) → FlowOn w.links (role_outcome n v asked w).0.links
role_on n v asked w =
    let came = node_outcome w n no_node (w.nodes n) (role_called n v asked) in
    turned_on n v w came.0 came.1 (node_links w n no_node (w.nodes n) (role_called n v asked)) came.1.ended
