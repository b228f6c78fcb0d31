-- each line of a script but those that dial a link, or move its bytes: what is known of links is known behind it
use Rattle.std.specs.Prelude.{◌≡◌, ◌∷◌, ◌++◌, ◌&&◌, ◌⊎◌, if◌then◌else◌}
use Rattle.transcript_law.proofs.Words.{ℕ, Bool, true, false, List, [], refl, ap, sym, ◌∙◌, subst, inl, inr, ⊎_elim, Option, Some, None, is_some, Answer, Cause, Chronicle, ClientVerb, Cluster, Event, LinkVerb, NodeVerb, Outcome, PlainLink, PlainNode, PlainWorld, Role, Told, Verb, VbVerb, AdminCall, after, dial_of, first_cause, link_number, node_causes, node_step, on_node, own_link, promote_causes, refused_or, replica_causes, row_at, take_snapshots, turn_causes, unlinked, uuid_causes, vb_causes, vb_in, verb_step, with_branches}
use Rattle.node_core.specs.Dials.{dial_due}
use Rattle.node_world.specs.{Arms.{empty_node, fail_arm, stop_arm}, Dues.{done_step, due_at, due_of, is_counted, with_acknowledged, with_due}, Links.{feeds}, Nodes.{arm_at, chain_line, clock_at, done, flush_line, if_up, limit_causes, replica_at, save_line, tick_line, vb_at, vb_made}}
use Rattle.node_world.specs.{Power.{crash_causes, down_lines, dropped, start_at, start_causes, with_arm}, Turns.{admin_line, role_outcome}, World.{client_verb_at, cut_outcome, node_verb_step, vb_verb_step}, Worlds.{on_made, with_node_at}}
use Rattle.transcript_law.proofs.balance.{Hearing.{dued}, Leaving.{IsAmong, dropped_among, found_among, made_links, node_links, out_among, put_among}}
use Rattle.transcript_law.proofs.invariant.{Agreement.{Agrees, AgreesIn, IsLink, idle, vb_of}}
use Rattle.transcript_law.proofs.noted.{Groups.{RemainOn, dial_at, is_still, still_known}, Known.{AllKnown, Remains}, Outcomes.{IsSome, LinksUnder, dead_links, follow_links, promote_links}}
use Rattle.transcript_law.proofs.noted.Roles.{Turns, TurnsNone, ended_remain, made_remain, rises_to, turns_none, turns_to}
use Rattle.transcript_law.proofs.noted.Staying.{all_roleless, among_remain, arm_among, is_roleless, due_remains, gives_none, link_same, none_turns, refused_among, same_among, wrote_of}
use Rattle.transcript_law.proofs.verbs.{Asking.{armed_behind}, NodeLines.{on_node_by}, Untaken.{all_beside, is_apart}}
use Rattle.transcript_law.specs.Asked.{IsRefused, RisesOn, TellsAsAsked, TellsOnce, TurnsTo, turns_in}
use Rattle.transcript_law.specs.Chronicles.{after_group}
use Rattle.transcript_law.specs.TakeoverNotes.{turns_feeder}
use Rattle.transcript_law.specs.Tellings.{TellsOf, are_all, is_of_end, may_tell}
use Rattle.vb_types.specs.declared.journal.FlushPart.TheVariants as part
use Rattle.transcript_law.proofs.links.DropRows.{drop_among}

-- ---- lines that give no vBucket a role, and leave the ends of links

on_one : (w : PlainWorld) (n : ℕ) (f : PlainNode → PlainNode × Told) → IsAmong w.links (on_made w n f).0.links
on_one w n f = same_among w.links (on_made w n f).0.links (made_links w n f)

on_arm : (w : PlainWorld) (n : ℕ) (came : Outcome) → IsAmong w.links came.0.links → IsAmong w.links (with_arm n w came).0.links
on_arm w n came among x i = among x (arm_among n w came x i)

node_among : (w : PlainWorld) (n : ℕ) (what : NodeVerb) → IsAmong w.links (node_verb_step w n what).0.links
node_among w n (NodeVerb.Clock nanos) = on_one w n (if_up (clock_at nanos))
node_among w n (NodeVerb.Stop call out) = on_one w n (arm_at (stop_arm call out))
node_among w n (NodeVerb.Fail call) = on_one w n (arm_at (fail_arm call))
node_among w n (NodeVerb.Crash out) = refused_among w (first_cause (crash_causes w n)) (dropped n out w, done (down_lines n None w)) (dropped_among n out w)
node_among w n (NodeVerb.Start uuids) = refused_among w (first_cause (start_causes w n uuids)) (on_made w n (start_at n uuids)) (on_one w n (start_at n uuids))

cut_among_all : (w : PlainWorld) (o : Option PlainLink) → IsAmong w.links (cut_outcome w o).0.links
cut_among_all w None x i = i
cut_among_all w (Some link) x i = out_among (link_number link) w.links x i

-- a line of these
abbrev is_plainest : Verb → Bool
is_plainest (Verb.AtVb n v VbVerb.Done) = false
is_plainest other = gives_none other

vb_among : (w : PlainWorld) (n v : ℕ) (what : VbVerb) → is_plainest (Verb.AtVb n v what) ≡ true → IsAmong w.links (vb_verb_step w n v what).0.links
vb_among w n v (VbVerb.MakeActive uuid) e = cc
vb_among w n v VbVerb.MakeReplica e = cc
vb_among w n v (VbVerb.Chain others) e = on_one w n (if_up (chain_line n v others))
vb_among w n v (VbVerb.Promote uuid) e = cc
vb_among w n v VbVerb.Follow e = cc
vb_among w n v VbVerb.Dead e = cc
vb_among w n v VbVerb.Tick e = on_one w n (if_up (tick_line n v))
vb_among w n v VbVerb.Trim e = on_one w n (if_up (admin_line n v AdminCall.Trim))
vb_among w n v VbVerb.Seal e = on_one w n (if_up (admin_line n v AdminCall.Seal))
vb_among w n v VbVerb.Take e = on_one w n (if_up (flush_line n v part.Take))
vb_among w n v VbVerb.Save e = on_arm w n (on_node w n (save_line n v)) (on_one w n (if_up (save_line n v)))
vb_among w n v VbVerb.Done e = cc
vb_among w n v VbVerb.Stat e = on_one w n (if_up (admin_line n v AdminCall.Stat))
vb_among w n v VbVerb.Log e = on_one w n (if_up (admin_line n v AdminCall.Log))
vb_among w n v VbVerb.Show e = on_one w n (if_up (admin_line n v AdminCall.Show))

line_among : (w : PlainWorld) (number : ℕ) (line : Verb) → is_plainest line ≡ true → IsAmong w.links (verb_step w number line).0.links
line_among w number (Verb.Node n) e = refused_among w (first_cause (node_causes w n)) (with_node_at w n empty_node, done []) (λ x i. i)
line_among w number (Verb.Link l m n v buffer takeover) e = cc
line_among w number (Verb.AtNode n what) e = node_among w n what
line_among w number (Verb.AtVb n v what) e = vb_among w n v what e
line_among w number (Verb.AtClient n c what) e = on_one w n (if_up (client_verb_at n number c what))
line_among w number (Verb.AtLink l (LinkVerb.Up wanted)) e = cc
line_among w number (Verb.AtLink l (LinkVerb.Down wanted)) e = cc
line_among w number (Verb.AtLink l (LinkVerb.Pump wanted)) e = cc
line_among w number (Verb.AtLink l LinkVerb.Drop) e = drop_among w l
line_among w number (Verb.AtLink l LinkVerb.Cut) e = cut_among_all w (row_at link_number l w.links)

-- ---- `done`: the consumer of a link acknowledges more

-- the same of a link that is told twice
again : (lines : List Event) (link y x : PlainLink) → x ≡ y → Remains (turns_feeder (Some (dial_at y)) lines) link y → Remains (turns_feeder (Some (dial_at x)) lines) link x
again lines link y x e on = subst (λ (k : PlainLink). Remains (turns_feeder (Some (dial_at k)) lines) link k) (sym e) on

module _ (w : PlainWorld) (r : Chronicle) (c : Cluster) (a : AgreesIn idle w r c) (lines : List Event) (none : are_all is_roleless lines ≡ true) where
  abbrev On : List PlainLink → Type 0
  On links = RemainOn lines w.links links

  on_same : (links : List PlainLink) → links ≡ w.links → On links
  on_same links same = among_remain lines w.links links (same_among w.links links same) none

  module _ (n v : ℕ) (now : PlainWorld) (same : now.links ≡ w.links) (said : Told) where
    acked_on : (link : PlainLink) → IsLink link now.links → (node : PlainNode) → On (with_acknowledged n link node now said (after (dial_due (dial_of link)) node.vbs)).0.links
    acked_on link i node x k =
        let told = (after (dial_due (dial_of link)) node.vbs).1 in let old : IsLink link w.links = subst (IsLink link) same i in
        ⊎_elim
        (λ e. (
          link,
          old,
          again lines link (with_due link told) x e
              (due_remains (turns_feeder (Some (dial_at (with_due link told))) lines) link told (none_turns (dial_at (with_due link told)) lines none) (dued (dial_of link) node.vbs) (wrote_of w r c link (a.links link old))),
        ))
        (λ j. (x, subst (IsLink x) same j, link_same (turns_feeder (Some (dial_at x)) lines) x (none_turns (dial_at x) lines none)))
        (put_among (link_number link) (with_due link told) now.links x k)

    due_on_at : (link : PlainLink) → IsLink link now.links → (o : Option PlainNode) → On (due_at n link now said o).0.links
    due_on_at link i None = on_same now.links same
    due_on_at link i (Some node) = acked_on link i node

    due_on_of : (o : Option PlainLink) → own_link n v now.links ≡ o → On (due_of n now said o).0.links
    due_on_of None e = on_same now.links same
    due_on_of (Some link) e = due_on_at link (found_among (feeds n v) now.links link e) (now.nodes n)

    due_on : (b : Bool) → On (if b then due_of n now said (own_link n v now.links) else (now, said)).0.links
    due_on true = due_on_of (own_link n v now.links) refl
    due_on false = on_same now.links same

  done_remain : (n v : ℕ) → On (done_step w n v).0.links
  done_remain n v = let came = on_node w n (flush_line n v part.Done) in due_on n v came.0 (node_links w n _ (w.nodes n) (if_up (flush_line n v part.Done))) came.1 (is_counted came.1.answer)

-- ---- a vBucket that gets a role

module _ (w : PlainWorld) (r : Chronicle) (c : Cluster) (a : AgreesIn idle w r c) (n v : ℕ) where
  calm_remain : (lines : List Event) (links : List PlainLink) → IsAmong w.links links → turns_in lines ≡ [] → RemainOn lines w.links links
  calm_remain lines links among calm x i = (x, among x i, link_same (turns_feeder (Some (dial_at x)) lines) x (turns_none lines calm (dial_at x)))

  role_remain : (Own : List Event → Type 0) (o : Outcome) → LinksUnder n v w o → TellsOnce Own o.1.events o.1.answer → (Own o.1.events → Turns n v o.1.events) → RemainOn o.1.events w.links o.0.links
  role_remain Own o under tells turns = ⊎_elim (λ none. calm_remain o.1.events o.0.links none.0 none.1)
      (λ (vb, known, among, some). ⊎_elim (λ no. absurd (some no.3)) (λ own. ended_remain w r c a n v o.1.events (turns own) vb known o.0.links among) tells) under

  -- one that is made was not there
  make_remain : (Own : List Event → Type 0) (came : Outcome) → IsAmong w.links came.0.links → (came.1.events ≡ []) ⊎ (vb_of w n v ≡ None)
      → (let o = with_arm n w came in TellsOnce Own o.1.events o.1.answer → (Own o.1.events → Turns n v o.1.events) → RemainOn o.1.events w.links o.0.links)
  make_remain Own came among new tells turns =
      let o : Outcome = with_arm n w came in let links = on_arm w n came among in let (behind, is, calm) = armed_behind n w came in
      ⊎_elim (λ none. calm_remain o.1.events o.0.links links (ap turns_in (is ∙ ap (λ ls. ls ++ behind) none) ∙ calm))
      (λ none. ⊎_elim (λ no. calm_remain o.1.events o.0.links links (ap turns_in no.3)) (λ own. made_remain w r c a n v o.1.events (turns own) none o.0.links links) tells) new

  new_there : (rows : PlainNode → List (Bool × Cause)) (made : PlainNode → PlainNode × Told)
      → (let o = on_node w n (λ node. refused_or (first_cause ((is_some (node.vbs v), Cause.VbExists) ∷ rows node)) node (made node)) in (o.1.events ≡ []) ⊎ (vb_of w n v ≡ None))
  new_there rows made = on_node_by (λ o. (o.1.events ≡ []) ⊎ (vb_of w n v ≡ None)) w n (λ node. refused_or (first_cause ((is_some (node.vbs v), Cause.VbExists) ∷ rows node)) node (made node))
      (inl refl) (λ node known. inl refl) (λ node known up. by node known (node.vbs v) refl)
    where
      by : (node : PlainNode) → w.nodes n ≡ Some node → (o : Option _) → node.vbs v ≡ o → ((refused_or (first_cause ((is_some (node.vbs v), Cause.VbExists) ∷ rows node)) node (made node)).1.events ≡ []) ⊎ (vb_of w n v ≡ None)
      by node known (Some vb) e = inl (ap (λ b. (refused_or (if b then Some Cause.VbExists else first_cause (rows node)) node (made node)).1.events) (ap is_some e))
      by node known None e = inr (ap (λ o. vb_in o v) known ∙ e)

-- ---- by the line of the script

module _ (w : PlainWorld) (r : Chronicle) (c : Cluster) (a : AgreesIn idle w r c) where
  plain_remain : (number : ℕ) (line : Verb) → gives_none line ≡ true → is_plainest line ≡ true → (let o = verb_step w number line in TellsOf r line o.1.events → RemainOn o.1.events w.links o.0.links)
  plain_remain number line none plain t = let o = verb_step w number line in among_remain o.1.events w.links o.0.links (line_among w number line plain) (all_roleless r line o.1.events none t)

  vb_remain : (number n v : ℕ) (what : VbVerb) → (let o = verb_step w number (Verb.AtVb n v what) in TellsOf r (Verb.AtVb n v what) o.1.events → TellsAsAsked (Verb.AtVb n v what) o.1.events o.1.answer → RemainOn o.1.events w.links o.0.links)
  vb_remain number n v (VbVerb.MakeActive uuid) t asked = make_remain w r c a n v (RisesOn n v uuid) (on_node w n (vb_at w.uuids n v uuid)) (on_one w n (if_up (vb_at w.uuids n v uuid)))
      (new_there w r c a n v (λ node. limit_causes node ++ uuid_causes w.uuids uuid) (λ node. vb_made n v Role.Active uuid node)) asked (rises_to n v uuid (verb_step w number (Verb.AtVb n v (VbVerb.MakeActive uuid))).1.events)
  vb_remain number n v VbVerb.MakeReplica t asked = make_remain w r c a n v (TurnsTo n v Role.Replica) (on_node w n (replica_at n v)) (on_one w n (if_up (replica_at n v)))
      (new_there w r c a n v (λ node. limit_causes node) (λ node. vb_made n v Role.Replica 0 node)) asked (turns_to n v Role.Replica (verb_step w number (Verb.AtVb n v VbVerb.MakeReplica)).1.events)
  vb_remain number n v (VbVerb.Promote uuid) t asked = role_remain w r c a n v (RisesOn n v uuid) (verb_step w number (Verb.AtVb n v (VbVerb.Promote uuid))) (promote_links w n v uuid (first_cause (promote_causes w n v uuid))) asked (rises_to n v uuid (verb_step w number (Verb.AtVb n v (VbVerb.Promote uuid))).1.events)
  vb_remain number n v VbVerb.Follow t asked = role_remain w r c a n v (TurnsTo n v Role.Replica) (verb_step w number (Verb.AtVb n v VbVerb.Follow)) (follow_links w n v (first_cause (turn_causes w n v Role.Replica))) asked (turns_to n v Role.Replica (verb_step w number (Verb.AtVb n v VbVerb.Follow)).1.events)
  vb_remain number n v VbVerb.Dead t asked = role_remain w r c a n v (TurnsTo n v Role.Dead) (verb_step w number (Verb.AtVb n v VbVerb.Dead)) (dead_links w n v (first_cause (turn_causes w n v Role.Dead))) asked (turns_to n v Role.Dead (verb_step w number (Verb.AtVb n v VbVerb.Dead)).1.events)
  vb_remain number n v VbVerb.Done t asked = done_remain w r c a (done_step w n v).1.events (all_roleless r (Verb.AtVb n v VbVerb.Done) (done_step w n v).1.events refl t) n v
  vb_remain number n v (VbVerb.Chain others) t asked = plain_remain number (Verb.AtVb n v (VbVerb.Chain others)) refl refl t
  vb_remain number n v VbVerb.Tick t asked = plain_remain number (Verb.AtVb n v VbVerb.Tick) refl refl t
  vb_remain number n v VbVerb.Trim t asked = plain_remain number (Verb.AtVb n v VbVerb.Trim) refl refl t
  vb_remain number n v VbVerb.Seal t asked = plain_remain number (Verb.AtVb n v VbVerb.Seal) refl refl t
  vb_remain number n v VbVerb.Take t asked = plain_remain number (Verb.AtVb n v VbVerb.Take) refl refl t
  vb_remain number n v VbVerb.Save t asked = plain_remain number (Verb.AtVb n v VbVerb.Save) refl refl t
  vb_remain number n v VbVerb.Stat t asked = plain_remain number (Verb.AtVb n v VbVerb.Stat) refl refl t
  vb_remain number n v VbVerb.Log t asked = plain_remain number (Verb.AtVb n v VbVerb.Log) refl refl t
  vb_remain number n v VbVerb.Show t asked = plain_remain number (Verb.AtVb n v VbVerb.Show) refl refl t

  pub line_remain : (number : ℕ) (line : Verb) → is_still line ≡ true → (let o = verb_step w number line in TellsOf r line o.1.events → TellsAsAsked line o.1.events o.1.answer → RemainOn o.1.events w.links o.0.links)
  line_remain number (Verb.Node n) e t asked = plain_remain number (Verb.Node n) refl refl t
  line_remain number (Verb.Link l m n v buffer takeover) e t asked = cc
  line_remain number (Verb.AtNode n what) e t asked = plain_remain number (Verb.AtNode n what) refl refl t
  line_remain number (Verb.AtVb n v what) e t asked = vb_remain number n v what t asked
  line_remain number (Verb.AtClient n k what) e t asked = plain_remain number (Verb.AtClient n k what) refl refl t
  line_remain number (Verb.AtLink l (LinkVerb.Up wanted)) e t asked = cc
  line_remain number (Verb.AtLink l (LinkVerb.Down wanted)) e t asked = cc
  line_remain number (Verb.AtLink l (LinkVerb.Pump wanted)) e t asked = cc
  line_remain number (Verb.AtLink l LinkVerb.Drop) e t asked = plain_remain number (Verb.AtLink l LinkVerb.Drop) refl refl t
  line_remain number (Verb.AtLink l LinkVerb.Cut) e t asked = plain_remain number (Verb.AtLink l LinkVerb.Cut) refl refl t

pub apart_still : (line : Verb) → is_still line ≡ true → is_apart line ≡ true
apart_still (Verb.Link l m n v buffer takeover) e = cc
apart_still other e = e

-- so all that is known of links is known behind it
pub still_line : (w : PlainWorld) (r : Chronicle) (number : ℕ) (line : Verb) → is_still line ≡ true
    → (let o = verb_step w number line in TellsOf r line o.1.events → TellsAsAsked line o.1.events o.1.answer → Agrees w r → Agrees (with_branches o.1.events o.0) (after_group r line o.1.events o.1.answer)
    → AllKnown w r → AllKnown (with_branches o.1.events o.0) (after_group r line o.1.events o.1.answer))
still_line w r number line still t asked a b known =
    let o = verb_step w number line in
    still_known (with_branches o.1.events o.0) r line o.1.events o.1.answer b still (all_beside r line o.1.events (apart_still line still) t) w (line_remain w r a.0 a.1 number line still t asked) known
