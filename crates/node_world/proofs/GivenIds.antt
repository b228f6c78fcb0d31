-- an id counts as given exactly where a line told of its branch
use Rattle.std.proofs.Common.{◌≡◌, inl, inr, ℕ, Bool, true, false, List, [], ◌∷◌, ◌++◌, flat_map, filter, map, refl, ap, sym, ◌∙◌, subst, Option, Some, None}
use Rattle.std.specs.Prelude.{◌==◌, ◌||◌, ◌↔◌, ◌⊎◌, if◌then◌else◌}
use Rattle.std.specs.List.{list_any}
use Rattle.std.proofs.lemmas.Bool.{eq-eqb, eqb-true}
use Rattle.script_text.specs.declared.verb.ScriptLine.{ScriptLine}
use Rattle.script_text.specs.declared.verb.Verb.{Verb}
use Rattle.script_text.specs.declared.verb.Verb.TheVariants as verb
use Rattle.script_text.specs.declared.verb.VbVerb.{VbVerb}
use Rattle.script_text.specs.declared.verb.VbVerb.TheVariants as vb_verb
use Rattle.script_text.specs.declared.verb.NodeVerb.{NodeVerb}
use Rattle.script_text.specs.declared.verb.NodeVerb.TheVariants as node_verb
use Rattle.script_text.specs.declared.verb.LinkVerb.{LinkVerb}
use Rattle.script_text.specs.declared.verb.LinkVerb.TheVariants as link_verb
use Rattle.vb_calls.specs.declared.calls.Resolved.{Resolved}
use Rattle.vb_disk.specs.declared.made.Outcome.{Outcome as Left}
use Rattle.vb_events.specs.declared.event.Cause.{Cause}
use Rattle.vb_events.specs.declared.event.Cause.TheVariants as cause
use Rattle.vb_events.specs.declared.event.Event.{Event}
use Rattle.vb_events.specs.declared.event.Event.TheVariants as event
use Rattle.vb_types.specs.declared.journal.FlushPart.TheVariants as part
use Rattle.vb_types.specs.declared.role.Role.TheVariants as role
use Rattle.vbucket.specs.Rows.{row_at}
use Rattle.vb_calls.specs.Programs.{after}
use Rattle.vb_calls.specs.States.{States}
use Rattle.dcp_producer.specs.declared.yields.Yielded.{Yielded}
use Rattle.node_core.specs.Admin.{AdminResult}
use Rattle.node_core.specs.GivingUp.{GiveResult, dead_line, peer_gives_up, resolved_in}
use Rattle.node_core.specs.declared.admin.AdminCall.{AdminCall}
use Rattle.node_core.specs.declared.admin.AdminCall.TheVariants as admin
use Rattle.node_world.specs.declared.arm.Fired.{Fired}
use Rattle.node_world.specs.declared.arm.Fired.TheVariants as fired
use Rattle.node_world.specs.declared.told.Told.{Told}
use Rattle.node_world.specs.Arms.{fail_arm, fired_by, stop_arm}
use Rattle.node_world.specs.Causes.{IsGiven}
use Rattle.node_world.specs.Cuts.{cut_off, own_link, unlinked}
use Rattle.node_world.specs.Dues.{due_at, due_in, due_of, is_counted}
use Rattle.node_world.specs.GivenIds.{GivesByLines, GivesNone, TellsBranch}
use Rattle.node_world.specs.Links.{PlainLink, LinkResult, consumer_node, link_number, peer_of, producer_node, drop_at, pump_at, up_at}
use Rattle.node_world.specs.Nodes.{PlainNode, arm_at, chain_line, clock_at, done, empty_node, first_cause, flush_line, if_up, refusal, refused_or, replica_at, save_line, tick_line, vb_at}
use Rattle.node_world.specs.Power.{after_broken, after_fire, all_cut, all_unlinked, crash_causes, down_lines, dropped, is_broken_answer, start_at, start_causes, stopped_node, touches, with_arm}
use Rattle.node_world.specs.Pumps.{gives_at, gone_told, with_given, with_gone, with_yielded}
use Rattle.node_world.specs.Turns.{admin_line, no_node, posted_at, posted_in, promote_causes, role_called, role_outcome, turn_causes, turned, turned_if, with_ended}
use Rattle.node_world.specs.World.{ask_in, branch_of_line, client_verb_at, cut_outcome, down_in, down_outcome, link_causes, link_outcome, link_verb_step, node_causes, node_verb_step, on_link, pump_outcome, relinked, vb_verb_step, verb_step, with_branches, with_dialed, world_step}
use Rattle.node_world.specs.Worlds.{PlainWorld, Outcome, arm_in, node_if, node_outcome, on_made, on_node, with_links, with_node_at}
use Rattle.node_world.proofs.ClientsTold.{told_uuids}
use Rattle.node_world.proofs.OnLinks.{closed_uuids}
use Rattle.node_world.proofs.OnNodes.{outcome_uuids}

-- ---- no verb gives an id by itself

-- one that is refused leaves the world
unless : (why : Option Cause) (w : PlainWorld) (x : Outcome) → x.0.uuids ≡ w.uuids → (refused_or why w x).0.uuids ≡ w.uuids
unless (Some why) w x e = refl
unless None w x e = e

on_ids : (w : PlainWorld) (n : ℕ) (f : PlainNode → PlainNode × Told) → (on_node w n f).0.uuids ≡ w.uuids
on_ids w n f = outcome_uuids w n (refusal cause.UnknownNode) (w.nodes n) (if_up f)

unlinked_ids : (links : List PlainLink) (w : PlainWorld) → (all_unlinked links w).uuids ≡ w.uuids
unlinked_ids [] w = refl
unlinked_ids (link ∷ links) w = unlinked_ids links (unlinked link w) ∙ closed_uuids link w

dropped_ids : (n : ℕ) (out : Left) (w : PlainWorld) → (dropped n out w).uuids ≡ w.uuids
dropped_ids n out w = by ((all_cut n w).nodes n) ∙ unlinked_ids (filter (touches n) w.links) w
  where
    by : (o : Option PlainNode) → (node_if n (stopped_node out) (all_cut n w) o).uuids ≡ (all_cut n w).uuids
    by None = refl
    by (Some node) = refl

armed_ids : (n : ℕ) (w : PlainWorld) (came : Outcome) → came.0.uuids ≡ w.uuids → (with_arm n w came).0.uuids ≡ w.uuids
armed_ids n w came e = by (fired_by (arm_in (w.nodes n)).fuse (arm_in (came.0.nodes n)).fuse)
  where
    by : (f : Fired) → (after_fire n (arm_in (w.nodes n)).out f came).0.uuids ≡ w.uuids
    by fired.No = e
    by fired.Failed = e
    by fired.Stopped = dropped_ids n (arm_in (w.nodes n)).out came.0 ∙ e

armed_on : (w : PlainWorld) (n : ℕ) (f : PlainNode → PlainNode × Told) → (with_arm n w (on_node w n f)).0.uuids ≡ w.uuids
armed_on w n f = armed_ids n w (on_node w n f) (on_ids w n f)

node_ids : (w : PlainWorld) (n : ℕ) (what : NodeVerb) → (node_verb_step w n what).0.uuids ≡ w.uuids
node_ids w n (node_verb.Clock nanos) = on_ids w n (clock_at nanos)
node_ids w n (node_verb.Stop call out) = outcome_uuids w n (refusal cause.UnknownNode) (w.nodes n) (arm_at (stop_arm call out))
node_ids w n (node_verb.Fail call) = outcome_uuids w n (refusal cause.UnknownNode) (w.nodes n) (arm_at (fail_arm call))
node_ids w n (node_verb.Crash out) = unless (first_cause (crash_causes w n)) w (dropped n out w, done (down_lines n None w)) (dropped_ids n out w)
node_ids w n (node_verb.Start uuids) = unless (first_cause (start_causes w n uuids)) w (on_made w n (start_at n uuids)) (outcome_uuids w n (refusal cause.UnknownNode) (w.nodes n) (start_at n uuids))

-- ---- changes of role, and batches that are done

cut_ids : (o : Option PlainLink) (w : PlainWorld) → (cut_off o w).0.uuids ≡ w.uuids
cut_ids None w = refl
cut_ids (Some link) w = closed_uuids link w

post_ids : (n : ℕ) (rs : List Resolved) (came : Outcome) → (posted_in n rs came).0.uuids ≡ came.0.uuids
post_ids n rs came = by (came.0.nodes n)
  where
    by : (o : Option PlainNode) → (posted_at n rs came.0 came.1 o).0.uuids ≡ came.0.uuids
    by None = refl
    by (Some node) = refl

role_ids : (w : PlainWorld) (n v : ℕ) (asked : AdminCall) → (role_outcome n v asked w).0.uuids ≡ w.uuids
role_ids w n v asked = by x.1.ended
  where
    x : PlainWorld × AdminResult
    x = node_outcome w n no_node (w.nodes n) (role_called n v asked)

    by : (o : Option (List ℕ)) → (turned_if n v w o x).0.uuids ≡ w.uuids
    by None = refl
    by (Some ids) = post_ids n x.1.resolved (turned n v x.1 (with_ended n v ids x.0)) ∙ cut_ids (own_link n v (with_ended n v ids x.0).links) (with_ended n v ids x.0) ∙ told_uuids n v ids x.0 ∙ outcome_uuids w n no_node (w.nodes n) (role_called n v asked)

turn_ids : (w : PlainWorld) (n v : ℕ) (why : Option Cause) (asked : AdminCall) → (with_arm n w (refused_or why w (role_outcome n v asked w))).0.uuids ≡ w.uuids
turn_ids w n v why asked = armed_ids n w (refused_or why w (role_outcome n v asked w)) (unless why w (role_outcome n v asked w) (role_ids w n v asked))

due_ids : (n v : ℕ) (came : Outcome) → (due_in n v came).0.uuids ≡ came.0.uuids
due_ids n v came = by (is_counted came.1.answer)
  where
    at : (link : PlainLink) (o : Option PlainNode) → (due_at n link came.0 came.1 o).0.uuids ≡ came.0.uuids
    at link None = refl
    at link (Some node) = refl

    of : (o : Option PlainLink) → (due_of n came.0 came.1 o).0.uuids ≡ came.0.uuids
    of None = refl
    of (Some link) = at link (came.0.nodes n)

    by : (b : Bool) → (let x : Outcome = if b then due_of n came.0 came.1 (own_link n v came.0.links) else came in x.0.uuids) ≡ came.0.uuids
    by true = of (own_link n v came.0.links)
    by false = refl

vb_ids : (w : PlainWorld) (n v : ℕ) (what : VbVerb) → (vb_verb_step w n v what).0.uuids ≡ w.uuids
vb_ids w n v (vb_verb.MakeActive uuid) = armed_on w n (vb_at w.uuids n v uuid)
vb_ids w n v vb_verb.MakeReplica = armed_on w n (replica_at n v)
vb_ids w n v (vb_verb.Chain others) = on_ids w n (chain_line n v others)
vb_ids w n v (vb_verb.Promote uuid) = turn_ids w n v (first_cause (promote_causes w n v uuid)) (admin.Promote uuid)
vb_ids w n v vb_verb.Follow = turn_ids w n v (first_cause (turn_causes w n v role.Replica)) admin.Follow
vb_ids w n v vb_verb.Dead = turn_ids w n v (first_cause (turn_causes w n v role.Dead)) admin.Dead
vb_ids w n v vb_verb.Tick = on_ids w n (tick_line n v)
vb_ids w n v vb_verb.Seal = on_ids w n (admin_line n v admin.Seal)
vb_ids w n v vb_verb.Trim = on_ids w n (admin_line n v admin.Trim)
vb_ids w n v vb_verb.Take = on_ids w n (flush_line n v part.Take)
vb_ids w n v vb_verb.Save = armed_on w n (save_line n v)
vb_ids w n v vb_verb.Done = due_ids n v (on_node w n (flush_line n v part.Done)) ∙ on_ids w n (flush_line n v part.Done)
vb_ids w n v vb_verb.Stat = on_ids w n (admin_line n v admin.Stat)
vb_ids w n v vb_verb.Log = on_ids w n (admin_line n v admin.Log)
vb_ids w n v vb_verb.Show = on_ids w n (admin_line n v admin.Show)

-- ---- links

relinked_ids : (link : PlainLink) (o : Option PlainLink) (w : PlainWorld) → (relinked link o w).uuids ≡ w.uuids
relinked_ids link None w = closed_uuids link w
relinked_ids link (Some now) w = refl

link_ids : (w : PlainWorld) (l : ℕ) (end : PlainLink → ℕ) (f : PlainLink → PlainNode → PlainNode × LinkResult) → (on_link w l end f).0.uuids ≡ w.uuids
link_ids w l end f = by (row_at link_number l w.links)
  where
    by : (o : Option PlainLink) → (link_outcome w l end f o).0.uuids ≡ w.uuids
    by None = refl
    by (Some link) =
        let x : PlainWorld × LinkResult = node_outcome w (end link) (Some link, refusal cause.UnknownNode) (w.nodes (end link)) (f link) in
        relinked_ids link x.1.0 x.0 ∙ outcome_uuids w (end link) (Some link, refusal cause.UnknownNode) (w.nodes (end link)) (f link)

down_ids : (w : PlainWorld) (l wanted : ℕ) → (link_verb_step w l (link_verb.Down wanted)).0.uuids ≡ w.uuids
down_ids w l wanted = by (row_at link_number l w.links)
  where
    came : Outcome
    came = on_link w l consumer_node (down_in wanted)

    e : came.0.uuids ≡ w.uuids
    e = link_ids w l consumer_node (down_in wanted)

    broken : (n : ℕ) (f : Fired) → (after_broken n l (arm_in (w.nodes n)).out f came).0.uuids ≡ w.uuids
    broken n fired.No = e
    broken n fired.Failed = e
    broken n fired.Stopped = dropped_ids n (arm_in (w.nodes n)).out came.0 ∙ e

    if_broken : (n : ℕ) (b : Bool) → (let x : Outcome = if b then after_broken n l (arm_in (w.nodes n)).out (fired_by (arm_in (w.nodes n)).fuse (arm_in (came.0.nodes n)).fuse) came else came in x.0.uuids) ≡ w.uuids
    if_broken n true = broken n (fired_by (arm_in (w.nodes n)).fuse (arm_in (came.0.nodes n)).fuse)
    if_broken n false = e

    by : (o : Option PlainLink) → (down_outcome w l o came).0.uuids ≡ w.uuids
    by None = e
    by (Some link) = if_broken (consumer_node link) (is_broken_answer came.1.answer)

-- what a node gives up
yielded_ids : (n : ℕ) (given : List Yielded) (w : PlainWorld) → (with_given n given w).uuids ≡ w.uuids
yielded_ids n [] w = refl
yielded_ids n (one ∷ more) w = yielded_ids n more (with_yielded n w one) ∙ told_uuids n one.vb one.ended w

gone_ids : (link : PlainLink) (node : PlainNode) (w : PlainWorld) (came : States × GiveResult) → (gone_told link node w came).0.uuids ≡ w.uuids
gone_ids link node w came =
    let n = producer_node link in
    let w' = with_gone link node came.0 came.1.peer w in
    post_ids n (flat_map resolved_in came.1.given) (with_given n came.1.given w', done (map (dead_line n) came.1.given)) ∙ yielded_ids n came.1.given w'

pump_ids : (w : PlainWorld) (l frames : ℕ) → (link_verb_step w l (link_verb.Pump frames)).0.uuids ≡ w.uuids
pump_ids w l frames = by (row_at link_number l w.links)
  where
    gives : (link : PlainLink) (o : Option PlainNode) → (gives_at frames link w o).0.uuids ≡ w.uuids
    gives link None = refl
    gives link (Some node) = gone_ids link node w (after (peer_gives_up frames (peer_of link)) node.vbs)

    by : (o : Option PlainLink) → (pump_outcome w l frames o).0.uuids ≡ w.uuids
    by None = refl
    by (Some link) = let gave = gives_at frames link w (w.nodes (producer_node link)) in link_ids gave.0 l producer_node (pump_at frames) ∙ gives link (w.nodes (producer_node link))

at_link_ids : (w : PlainWorld) (l : ℕ) (what : LinkVerb) → (link_verb_step w l what).0.uuids ≡ w.uuids
at_link_ids w l (link_verb.Up wanted) = link_ids w l producer_node (up_at wanted)
at_link_ids w l (link_verb.Down wanted) = down_ids w l wanted
at_link_ids w l (link_verb.Pump frames) = pump_ids w l frames
at_link_ids w l link_verb.Drop = link_ids w l producer_node drop_at
at_link_ids w l link_verb.Cut = by (row_at link_number l w.links)
  where
    by : (o : Option PlainLink) → (cut_outcome w o).0.uuids ≡ w.uuids
    by None = refl
    by (Some link) = closed_uuids link w

verb_ids : (w : PlainWorld) (number : ℕ) (line : Verb) → (verb_step w number line).0.uuids ≡ w.uuids
verb_ids w number (verb.Node n) = unless (first_cause (node_causes w n)) w (with_node_at w n empty_node, done []) refl
verb_ids w number (verb.Link l m n v buffer takeover) = unless (first_cause (link_causes w l m n v)) w (with_links w (with_dialed number l m n v buffer takeover w.links (ask_in w n v)), done []) refl
verb_ids w number (verb.AtNode n what) = node_ids w n what
verb_ids w number (verb.AtVb n v what) = vb_ids w n v what
verb_ids w number (verb.AtClient n c what) = on_ids w n (client_verb_at n number c what)
verb_ids w number (verb.AtLink l what) = at_link_ids w l what

-- ---- and a line those of its branches

module _ (uuid : ℕ) where
  abbrev among : List ℕ → Bool
  among ids = list_any (λ given. given == uuid) ids

  parts : (xs ys : List ℕ) → among (xs ++ ys) ≡ true → (among xs ≡ true) ⊎ (among ys ≡ true)
  parts [] ys h = inr h
  parts (x ∷ xs) ys h = by (x == uuid) h (parts xs ys)
    where
      by : (b : Bool) → (b || among (xs ++ ys)) ≡ true → (among (xs ++ ys) ≡ true → (among xs ≡ true) ⊎ (among ys ≡ true)) → ((b || among xs) ≡ true) ⊎ (among ys ≡ true)
      by true h later = inl refl
      by false h later = later h

  front : (xs ys : List ℕ) → among xs ≡ true → among (xs ++ ys) ≡ true
  front [] ys h = cc
  front (x ∷ xs) ys h = by (x == uuid) h (front xs ys)
    where
      by : (b : Bool) → (b || among xs) ≡ true → (among xs ≡ true → among (xs ++ ys) ≡ true) → (b || among (xs ++ ys)) ≡ true
      by true h later = refl
      by false h later = later h

  behind : (xs ys : List ℕ) → among ys ≡ true → among (xs ++ ys) ≡ true
  behind [] ys h = h
  behind (x ∷ xs) ys h = by (x == uuid) (behind xs ys h)
    where
      by : (b : Bool) → among (xs ++ ys) ≡ true → (b || among (xs ++ ys)) ≡ true
      by true h = refl
      by false h = h

  tells : (lines : List Event) → among (flat_map branch_of_line lines) ≡ true → TellsBranch uuid lines
  tells [] h = cc
  tells (event.Branch n v id parent fork high ∷ lines) h = by (id == uuid) refl h (tells lines)
    where
      by : (b : Bool) → (id == uuid) ≡ b → (b || among (flat_map branch_of_line lines)) ≡ true → (among (flat_map branch_of_line lines) ≡ true → TellsBranch uuid lines) → TellsBranch uuid (event.Branch n v id parent fork high ∷ lines)
      by true e h later = inl (eqb-true id uuid e)
      by false e h later = inr (later h)
  tells (other ∷ lines) h = tells lines h

  is_told : (lines : List Event) → TellsBranch uuid lines → among (flat_map branch_of_line lines) ≡ true
  is_told [] h = absurd h
  is_told (event.Branch n v id parent fork high ∷ lines) (inl e) = ap (λ b. b || among (flat_map branch_of_line lines)) (eq-eqb id uuid e)
  is_told (event.Branch n v id parent fork high ∷ lines) (inr h) = by (id == uuid) (is_told lines h)
    where
      by : (b : Bool) → among (flat_map branch_of_line lines) ≡ true → (b || among (flat_map branch_of_line lines)) ≡ true
      by true h = refl
      by false h = h
  is_told (other ∷ lines) h = is_told lines h

  module _ (w w' : PlainWorld) (same : w'.uuids ≡ w.uuids) (lines : List Event) where
    there : (among w'.uuids ≡ true) ⊎ (among (flat_map branch_of_line lines) ≡ true) → IsGiven w uuid ⊎ TellsBranch uuid lines
    there (inl h) = inl (subst (λ ids. among ids ≡ true) same h)
    there (inr h) = inr (tells lines h)

    back : IsGiven w uuid ⊎ TellsBranch uuid lines → IsGiven (with_branches lines w') uuid
    back (inl h) = front w'.uuids (flat_map branch_of_line lines) (subst (λ ids. among ids ≡ true) (sym same) h)
    back (inr h) = behind w'.uuids (flat_map branch_of_line lines) (is_told lines h)

    given : IsGiven (with_branches lines w') uuid ↔ (IsGiven w uuid ⊎ TellsBranch uuid lines)
    given = (λ h. there (parts w'.uuids (flat_map branch_of_line lines) h), back)

pub gives : (w : PlainWorld) (line : ScriptLine) → GivesByLines w line
unfolding world_step
gives w line uuid = let came = verb_step w line.line line.verb in given uuid w came.0 (verb_ids w line.line line.verb) came.1.events

pub gives_none : GivesNone
gives_none uuid h = cc
