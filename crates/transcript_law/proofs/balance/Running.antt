-- behind each line of a script all links are balanced
use Rattle.std.specs.Prelude.{◌≡◌, ℕ, ◌+◌, ◌++◌, ◌<◌, ◌^◌, List, [], ◌∷◌, if◌then◌else◌}
use Rattle.transcript_law.proofs.Words.{Bool, true, false, refl, ap, sym, ◌∙◌, subst, ⊎_elim, Option, Some, None, All-head, All-tail, EndReason, ScriptLine, Verb, NodeVerb, LinkVerb, VerbFits, ScriptFits, Told, after, AdminCall, Role, PlainLink, link_number, producer_node, consumer_node, PlainNode, PlainWorld, Cause, Outcome, after_lines, node_outcome, refusal, with_link, empty_world, with_branches, verb_step, world_step, Chronicle, empty_chronicle, row_at, row_put, over_why, moved_len, stays, take_snapshots, world_of}
use Rattle.transcript_law.proofs.Words.{VbVerb, on_node, on_link, first_cause, node_step, node_causes, up_at, pump_at, dial_of, DialResult}
use Rattle.node_core.specs.Dials.{dial_due}
use Rattle.node_world.specs.{Arms.{empty_node, fail_arm, placed, stop_arm}, Cuts.{own_link}, Dues.{done_step, due_at, due_of, is_counted, with_acknowledged, with_due}, Links.{feeds, left_unless, with_down}, Nodes.{arm_at, chain_line, clock_at, done, flush_line, if_up, replica_at, save_line, tick_line, vb_at}}
use Rattle.node_world.specs.{Power.{crash_causes, down_lines, dropped, start_at, start_causes}, Turns.{admin_line, promote_causes, promote_step, role_outcome, turn_causes, turn_step}, Pumps.{gives_at}, World.{client_verb_at, cut_outcome, link_outcome, cut_step, down_in, down_outcome, down_step, link_verb_step, node_verb_step, pump_outcome, pump_step, relinked, vb_verb_step}, Worlds.{on_made, with_node_at}}
use Rattle.vb_types.specs.declared.journal.FlushPart.TheVariants as part
use Rattle.transcript_law.specs.{Balance.{AreBalanced}, Chronicles.{after_group, at_line}, Prefixes.{world_after}}
use Rattle.transcript_law.proofs.{Runs.{Along, along, along_start}, invariant.Agreement.{Agrees, IsLink}, invariant.LinkRows.{found_is_link}, invariant.Ranged.{IsRanged, NodeRangedIf}, verbs.NodeLines.{on_link_by}, verbs.Pumping.{gave_stands}, verbs.Settling.{steady}}
use Rattle.transcript_law.proofs.balance.{Downing.{Writing, down_level, due_level, told, writing_of}, Giving.{gives_on}, Hearing.{dued}, Leaving.{among_on, arm_on, dropped_among, found_among, made_links, node_links, out_among, put_among, refused_on, role_on, same_on, with_broken_among}, Levels.{AllLevel, FlowOn, Level, level_on}, Measures.{acknowledged_is, counted_is}, Opening.{link_level}, Pumping.{pump_holds}, Upping.{up_holds}}
use Rattle.transcript_law.proofs.{links.PumpWorlds.{AllKnown, LinkKnown}, noted.Pumped.{pump_known}}
use Rattle.transcript_law.specs.LawfulAnswers.{IsStill}
use Rattle.transcript_law.proofs.links.DropRows.{drop_links}
use Rattle.transcript_law.proofs.lines.Reads.{pump_reads, pumps_read}

-- the consumers of links have opaques
abbrev SmallAfter : List PlainLink → Type 0
SmallAfter links = (x : PlainLink) → IsLink x links → x.consumer.asked < 2 ^ 32

-- ---- lines for one link

-- another link at the place of one that was there
put_level : (w : PlainWorld) (l : ℕ) (link : PlainLink) → AllLevel w → Level link → (x : PlainLink) → IsLink x (row_put link_number l link w.links) → Level x
put_level w l link all level x i = ⊎_elim (λ same. subst Level (sym same) level) (λ old. all x old) (put_among l link w.links x i)

-- frames that are put where all agrees, and what is noted of the link is as the lines tell
pumped_level : (w : PlainWorld) (r : Chronicle) (l frames : ℕ) → Agrees w r → ((link : PlainLink) → row_at link_number l w.links ≡ Some link → LinkKnown r r link) → AllLevel w → AllLevel (on_link w l producer_node (pump_at frames)).0
pumped_level w r l frames a read all = subst (λ pump. AllLevel (on_link w l producer_node pump).0) (sym (pumps_read frames)) (by (row_at link_number l w.links) refl)
  where
    at : (link : PlainLink) → row_at link_number l w.links ≡ Some link → (o : Option PlainNode) → w.nodes (producer_node link) ≡ o
        → AllLevel (with_link link (node_outcome w (producer_node link) (Some link, refusal Cause.UnknownNode) o (pump_reads frames link))).0
    at link found None none = put_level w (link_number link) link all (all link (found_is_link l w.links link found).0)
    at link found (Some node) known =
        let p = found_is_link l w.links link found in
        put_level w (link_number link) _ all
        (λ b. pump_holds take_snapshots stays w r link node (ap (λ k. row_at link_number k w.links) p.1 ∙ found) b a (read link found) known frames (all link p.0))

    by : (o : Option PlainLink) → row_at link_number l w.links ≡ o → AllLevel (link_outcome w l producer_node (pump_reads frames) o).0
    by None none = all
    by (Some link) found = at link found (w.nodes (producer_node link)) refl

module _ (w : PlainWorld) (r : Chronicle) (ranged : IsRanged w) (calm : IsStill r) (known : AllKnown w r) (a : Agrees w r) (all : AllLevel w) where
  own_level : (link : PlainLink) → row_at link_number (link_number link) w.links ≡ Some link → Level link
  own_level link found = all link (found_is_link (link_number link) w.links link found).0

  away : (link : PlainLink) → row_at link_number (link_number link) w.links ≡ Some link → (x : PlainLink) → IsLink x (row_put link_number (link_number link) link w.links) → Level x
  away link found = put_level w (link_number link) link all (own_level link found)

  up_level : (l wanted : ℕ) → AllLevel (on_link w l producer_node (up_at wanted)).0
  up_level l wanted = on_link_by (λ came. AllLevel came.0) w l producer_node (up_at wanted) all away
      (λ link node found there. put_level w (link_number link) _ all
      (λ b. up_holds stays steady w r (moved_len wanted link.up) link found (known link (found_is_link (link_number link) w.links link found).0).noted.dialed b node there (subst (NodeRangedIf (producer_node link)) there (ranged (producer_node link))) calm.0 a (own_level link found)))

  pump_level : (l frames : ℕ) → AllLevel (pump_step w l frames).0
  pump_level l frames = by (row_at link_number l w.links) refl
    where
      gave_level : (link : PlainLink) → row_at link_number l w.links ≡ Some link → (o : Option PlainNode) → AllLevel (gives_at frames link w o).0
      gave_level link found None = all
      gave_level link found (Some node) =
          let own : row_at link_number (link_number link) w.links ≡ Some link = ap (λ k. row_at link_number k w.links) (found_is_link l w.links link found).1 ∙ found in
          level_on w (gives_at frames link w (Some node)).0 (gives_on frames link w node own) all

      by : (o : Option PlainLink) → row_at link_number l w.links ≡ o → AllLevel (pump_outcome w l frames o).0
      by None e = all
      by (Some link) found =
          let o : Option PlainNode = w.nodes (producer_node link) in let gave = gives_at frames link w o in
          let stands = gave_stands take_snapshots stays steady w r l frames a ranged calm.0 known link found in
          pumped_level gave.0 (after_lines r gave.1.events) l frames stands.agrees stands.known (gave_level link found o)

  -- the links whose consumers have an opaque are balanced
  abbrev SmallLevel : List PlainLink → Type 0
  SmallLevel links = (x : PlainLink) → IsLink x links → x.consumer.asked < 2 ^ 32 → Level x

  -- what becomes of the link, by whether it is over
  module _ (link : PlainLink) (node : PlainNode) (found : row_at link_number (link_number link) w.links ≡ Some link) (wanted : ℕ) where
    abbrev armed : PlainNode
    armed = placed link.consumer.dialed.vb node

    abbrev moved : ℕ
    moved = moved_len wanted link.down

    abbrev came : DialResult
    came = told link moved armed.vbs armed.shelves

    own_agrees : Writing link
    own_agrees = writing_of w r a.0 link (a.1.links link (found_is_link (link_number link) w.links link found).0)

    left_level : (node' : PlainNode) (why : Option EndReason) → over_why came.dial.consumer.handshake ≡ why
        → SmallLevel (relinked link (left_unless why (with_down link moved came)) (with_node_at w (consumer_node link) node')).links
    left_level node' (Some why) e x i small = all x (out_among (link_number link) w.links x i)
    left_level node' None e x i small = ⊎_elim
        (λ same. subst Level (sym same) (down_level link moved armed.vbs armed.shelves own_agrees e (subst (λ (y : PlainLink). y.consumer.asked < 2 ^ 32) same small) (own_level link found)))
        (λ old. all x old)
        (put_among (link_number link) (with_down link moved came) w.links x i)

  moved_level : (l wanted : ℕ) → SmallLevel (on_link w l consumer_node (down_in wanted)).0.links
  moved_level l wanted = on_link_by (λ o. SmallLevel o.0.links) w l consumer_node (down_in wanted) (λ x i small. all x i) (λ link found x i small. away link found x i)
      (λ link node found known. left_level link node found wanted (down_in wanted link node).0 (over_why (came link node found wanted).dial.consumer.handshake) refl)

  pub down_goes : (l wanted : ℕ) → SmallLevel (down_step w l wanted).0.links
  down_goes l wanted = by (row_at link_number l w.links)
    where
      by : (o : Option PlainLink) → SmallLevel (down_outcome w l o (on_link w l consumer_node (down_in wanted))).0.links
      by None x i small = moved_level l wanted x i small
      by (Some link) x i small = moved_level l wanted x (with_broken_among (consumer_node link) l w (on_link w l consumer_node (down_in wanted)) x i) small

  cut_goes : (l : ℕ) → AllLevel (cut_step w l).0
  cut_goes l = by (row_at link_number l w.links)
    where
      by : (o : Option PlainLink) → AllLevel (cut_outcome w o).0
      by None x i = all x i
      by (Some link) x i = all x (out_among (link_number link) w.links x i)

  -- ---- more is written down

  link_writes : (x : PlainLink) → IsLink x w.links → Writing x
  link_writes x i = writing_of w r a.0 x (a.1.links x i)

  -- by what the line is told, and by the link that feeds the vBucket
  module _ (n v : ℕ) (now : PlainWorld) (same : now.links ≡ w.links) (said : Told) where
    now_level : AllLevel now
    now_level x i = all x (subst (IsLink x) same i)

    acked_level : (link : PlainLink) → IsLink link now.links → (node : PlainNode) → AllLevel (with_acknowledged n link node now said (after (dial_due (dial_of link)) node.vbs)).0
    acked_level link i node =
        let old : IsLink link w.links = subst (IsLink link) same i in
        put_level now (link_number link) (with_due link (after (dial_due (dial_of link)) node.vbs).1) now_level (due_level link (after (dial_due (dial_of link)) node.vbs).1 (dued (dial_of link) node.vbs) (link_writes link old) (all link old))

    due_level_at : (link : PlainLink) → IsLink link now.links → (o : Option PlainNode) → AllLevel (due_at n link now said o).0
    due_level_at link i None = now_level
    due_level_at link i (Some node) = acked_level link i node

    due_level_of : (o : Option PlainLink) → own_link n v now.links ≡ o → AllLevel (due_of n now said o).0
    due_level_of None e = now_level
    due_level_of (Some link) e = due_level_at link (found_among (feeds n v) now.links link e) (now.nodes n)

    due_level_in : (b : Bool) → AllLevel (if b then due_of n now said (own_link n v now.links) else (now, said)).0
    due_level_in true = due_level_of (own_link n v now.links) refl
    due_level_in false = now_level

  done_goes : (n v : ℕ) → AllLevel (done_step w n v).0
  done_goes n v = let came = on_node w n (flush_line n v part.Done) in due_level_in n v came.0 (node_links w n _ (w.nodes n) (if_up (flush_line n v part.Done))) came.1 (is_counted came.1.answer)

  -- ---- all other lines

  abbrev Goes : Outcome → Type 0
  Goes came = AllLevel came.0

  flows : (came : Outcome) → FlowOn w.links came.0.links → Goes came
  flows came on = level_on w came.0 on all

  on_one : (n : ℕ) (f : PlainNode → PlainNode × Told) → FlowOn w.links (on_made w n f).0.links
  on_one n f = same_on w.links (on_made w n f).0.links (made_links w n f)

  node_goes : (n : ℕ) (what : NodeVerb) → Goes (node_verb_step w n what)
  node_goes n (NodeVerb.Clock nanos) = flows (node_verb_step w n (NodeVerb.Clock nanos)) (on_one n (if_up (clock_at nanos)))
  node_goes n (NodeVerb.Stop call out) = flows (node_verb_step w n (NodeVerb.Stop call out)) (on_one n (arm_at (stop_arm call out)))
  node_goes n (NodeVerb.Fail call) = flows (node_verb_step w n (NodeVerb.Fail call)) (on_one n (arm_at (fail_arm call)))
  node_goes n (NodeVerb.Crash out) =
      flows (node_verb_step w n (NodeVerb.Crash out)) (refused_on w (first_cause (crash_causes w n)) (dropped n out w, done (down_lines n None w)) (among_on w.links (dropped n out w).links (dropped_among n out w)))
  node_goes n (NodeVerb.Start uuids) =
      flows (node_verb_step w n (NodeVerb.Start uuids)) (refused_on w (first_cause (start_causes w n uuids)) (on_made w n (start_at n uuids)) (on_one n (start_at n uuids)))

  vb_goes : (n v : ℕ) (what : VbVerb) → Goes (vb_verb_step w n v what)
  vb_goes n v (VbVerb.MakeActive uuid) = flows (vb_verb_step w n v (VbVerb.MakeActive uuid)) (arm_on n w (on_node w n (vb_at w.uuids n v uuid)) (on_one n (if_up (vb_at w.uuids n v uuid))))
  vb_goes n v VbVerb.MakeReplica = flows (vb_verb_step w n v VbVerb.MakeReplica) (arm_on n w (on_node w n (replica_at n v)) (on_one n (if_up (replica_at n v))))
  vb_goes n v (VbVerb.Chain others) = flows (vb_verb_step w n v (VbVerb.Chain others)) (on_one n (if_up (chain_line n v others)))
  vb_goes n v (VbVerb.Promote uuid) = flows (vb_verb_step w n v (VbVerb.Promote uuid))
      (arm_on n w (promote_step w n v uuid) (refused_on w (first_cause (promote_causes w n v uuid)) (role_outcome n v (AdminCall.Promote uuid) w) (role_on n v (AdminCall.Promote uuid) w)))
  vb_goes n v VbVerb.Follow = flows (vb_verb_step w n v VbVerb.Follow)
      (arm_on n w (turn_step w n v Role.Replica AdminCall.Follow) (refused_on w (first_cause (turn_causes w n v Role.Replica)) (role_outcome n v AdminCall.Follow w) (role_on n v AdminCall.Follow w)))
  vb_goes n v VbVerb.Dead = flows (vb_verb_step w n v VbVerb.Dead)
      (arm_on n w (turn_step w n v Role.Dead AdminCall.Dead) (refused_on w (first_cause (turn_causes w n v Role.Dead)) (role_outcome n v AdminCall.Dead w) (role_on n v AdminCall.Dead w)))
  vb_goes n v VbVerb.Tick = flows (vb_verb_step w n v VbVerb.Tick) (on_one n (if_up (tick_line n v)))
  vb_goes n v VbVerb.Trim = flows (vb_verb_step w n v VbVerb.Trim) (on_one n (if_up (admin_line n v AdminCall.Trim)))
  vb_goes n v VbVerb.Seal = flows (vb_verb_step w n v VbVerb.Seal) (on_one n (if_up (admin_line n v AdminCall.Seal)))
  vb_goes n v VbVerb.Take = flows (vb_verb_step w n v VbVerb.Take) (on_one n (if_up (flush_line n v part.Take)))
  vb_goes n v VbVerb.Save = flows (vb_verb_step w n v VbVerb.Save) (arm_on n w (on_node w n (save_line n v)) (on_one n (if_up (save_line n v))))
  vb_goes n v VbVerb.Done = done_goes n v
  vb_goes n v VbVerb.Stat = flows (vb_verb_step w n v VbVerb.Stat) (on_one n (if_up (admin_line n v AdminCall.Stat)))
  vb_goes n v VbVerb.Log = flows (vb_verb_step w n v VbVerb.Log) (on_one n (if_up (admin_line n v AdminCall.Log)))
  vb_goes n v VbVerb.Show = flows (vb_verb_step w n v VbVerb.Show) (on_one n (if_up (admin_line n v AdminCall.Show)))

  -- each line, where behind it all agrees
  link_goes : (l : ℕ) (what : LinkVerb) → SmallAfter (link_verb_step w l what).0.links → Goes (link_verb_step w l what)
  link_goes l (LinkVerb.Up wanted) small = up_level l wanted
  link_goes l (LinkVerb.Down wanted) small = λ x i. down_goes l wanted x i (small x i)
  link_goes l (LinkVerb.Pump frames) small = pump_level l frames
  link_goes l LinkVerb.Drop small = flows (link_verb_step w l LinkVerb.Drop) (same_on w.links (link_verb_step w l LinkVerb.Drop).0.links (drop_links w l))
  link_goes l LinkVerb.Cut small = cut_goes l

  line_goes : (line : ℕ) (what : Verb) → VerbFits what → SmallAfter (verb_step w line what).0.links → Goes (verb_step w line what)
  line_goes line (Verb.Node n) fits small = flows (node_step w n) (refused_on w (first_cause (node_causes w n)) (with_node_at w n empty_node, done []) (same_on w.links w.links refl))
  line_goes line (Verb.Link l m n v buffer takeover) fits small = link_level w line l m n v buffer takeover (fits.2, fits.3, fits.4) all
  line_goes line (Verb.AtNode n what) fits small = node_goes n what
  line_goes line (Verb.AtVb n v what) fits small = vb_goes n v what
  line_goes line (Verb.AtClient n c what) fits small = flows (on_node w n (client_verb_at n line c what)) (on_one n (if_up (client_verb_at n line c what)))
  line_goes line (Verb.AtLink l what) fits small = link_goes l what small

-- ---- a script

-- a consumer has an opaque
small_after : (w : PlainWorld) (r : Chronicle) → Agrees w r → SmallAfter w.links
small_after w r (c, a) x i = (writing_of w r c x (a.links x i)).opaque

levels_from : (w : PlainWorld) (r : Chronicle) (script : List ScriptLine) → ScriptFits script → Along w r → AllLevel w → AllLevel (world_after w script)
unfolding world_step
levels_from w r [] fits x all = all
levels_from w r (line ∷ lines) fits x all =
    let fit = All-head (λ (y : ScriptLine). VerbFits y.verb) line lines fits in
    let outcome = verb_step w line.line line.verb in
    let r' : Chronicle = after_group (at_line r line.line) line.verb outcome.1.events outcome.1.answer in
    let now = along w r line fit x in
    levels_from (with_branches outcome.1.events outcome.0) r' lines (All-tail (λ (y : ScriptLine). VerbFits y.verb) line lines fits) now
    (line_goes w r x.ranged x.calm (pump_known w r x.handed) x.agrees all line.line line.verb fit (small_after (with_branches outcome.1.events outcome.0) r' now.agrees))

balanced : (w : PlainWorld) → AllLevel w → AreBalanced w
balanced w all l link found some fits =
    let holds = all link (found_is_link l w.links link found).0 (record { some = some; fits = fits }) in
    holds.balance ∙ (λ i. sym (counted_is (link.down_heard ++ link.down)) i + sym (acknowledged_is (link.up_heard ++ link.up)) i)

-- behind all of it
pub scripts_balance : (script : List ScriptLine) → ScriptFits script → AreBalanced (world_of script)
scripts_balance script fits = balanced (world_of script) (levels_from empty_world empty_chronicle script fits along_start (λ x i. absurd i))
