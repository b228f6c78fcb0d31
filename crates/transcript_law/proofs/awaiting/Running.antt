-- behind each line of a script whose lines' numbers rise, nobody waits for nothing
use Rattle.std.specs.Prelude.{◌≡◌, ◌∷◌, ◌++◌}
use Rattle.transcript_law.proofs.Words.{ℕ, true, List, [], refl, ap, sym, ◌∙◌, subst, Option, Some, None, All-head, All-tail, AdminCall, Cause, Chronicle, ClientVerb, LinkVerb, NodeVerb, PlainLink, PlainNode, PlainWorld, Role, ScriptFits, ScriptLine, Told, Verb, VbVerb, VerbFits}
use Rattle.transcript_law.proofs.Words.{bytes_at, client_at, clock_at, consumer_node, done, empty_chronicle, empty_node, empty_world, first_cause, hang_at, known_of, link_number, node_causes, on_link, on_node, producer_node, promote_causes, refused_or, role_outcome, row_at, turn_causes, unlinked, up_at, uuid_causes, vb_at, verb_step, with_branches, with_links, with_node_at, world_of, world_step, admin_line, groups_from, replica_at}
use Rattle.node_core.specs.Admin.{admin_job, changes_role}
use Rattle.node_world.specs.{Arms.{fail_arm, stop_arm}, Nodes.{arm_at, chain_line, flush_line, limit_causes, pull_at, save_line, tick_line}, Power.{crash_causes, down_lines, dropped, start_at, start_causes}, Turns.{promote_step, turn_step}, World.{base_of, client_verb_at, cut_outcome, down_in, down_outcome, link_causes, link_verb_step, node_verb_step, vb_verb_step, with_dialed, ask_in}, Worlds.{on_made}}
use Rattle.transcript_law.proofs.Runs.{Along, along, along_start, row_of}
use Rattle.transcript_law.proofs.awaiting.{Downs.{down_stays}, Givings.{pump_none}, Idles.{admin_stays, due_none, hang_stays, made_stays, open_waits, pull_stays, start_stays}, Jobs.{IsIdle}, Nodes.{bytes_wait, chain_waits, flush_waits, save_waits, tick_waits}, Peers.{up_waits}, Posts.{Good}, Scripts.{Known, good}}
use Rattle.transcript_law.proofs.awaiting.{Stays.{NoneIn, NoneWaits, Stays, armed_none, broken_none, dropped_stay, none_after, none_on, on_link_none, on_made_none, on_node_none, put_none, unless_none, unlinked_stays}, Turns.{role_none}}
use Rattle.transcript_law.proofs.invariant.{Agreement.{Agrees}, AtRest.{AreAtRest, line_rests, start_rests, still_world}, Begun.{ServesOpen}, ClientWorlds.{ConnsAre, start_conns}, Clients.{line_heard}, Ranged.{IsRanged, start_ranged}, TimelyCalls.{MakesJob}}
use Rattle.transcript_law.proofs.lines.Risen.{group_last, line_number, script_last}
use Rattle.transcript_law.proofs.verbs.Rows.{Row}
use Rattle.transcript_law.specs.{Chronicles.{after_group, at_line}, LawfulAnswers.{IsStill}, LinesTold.{LastLine, number_of, risen_through, risen_to}, Prefixes.{known_after, world_after}, Waits.{NoneWaitsInVain}}
use Rattle.vb_types.specs.declared.journal.FlushPart.{FlushPart}
use Rattle.vb_types.specs.declared.journal.FlushPart.TheVariants as part
use Rattle.node_world.specs.Links.{drop_at}
use Rattle.transcript_law.proofs.links.DropRows.{drop_stays}

-- ---- one line

module _ (w : PlainWorld) (r : Chronicle) (k : Known w r) (last : LastLine) (rises : r.last ≡ Some last) (none : NoneWaits w) where
  well : (n : ℕ) (node : PlainNode) → w.nodes n ≡ Some node → NoneWaitsInVain node → Good n [] node
  well n node there here = good w r k n node there last rises here

  here_of : (n : ℕ) (node : PlainNode) → w.nodes n ≡ Some node → NoneWaitsInVain node
  here_of n node there = subst NoneIn there (none n)

  -- a line of a node through which who waited waits on
  stays_line : (n : ℕ) (f : PlainNode → PlainNode × Told) → ((node : PlainNode) → Stays (Some node) (Some (f node).0)) → NoneWaits (on_node w n f).0
  stays_line n f s = on_node_none w n f none (λ node e here. none_on (Some node) (Some (f node).0) (s node) here)

  admin_none : (n v : ℕ) (asked : AdminCall) → MakesJob IsIdle (admin_job n v asked) → NoneWaits (on_node w n (admin_line n v asked)).0
  admin_none n v asked makes = stays_line n (admin_line n v asked) (λ node. admin_stays n v asked node makes)

  turn_none : (n v : ℕ) (asked : AdminCall) (why : Option Cause) → changes_role asked ≡ true → NoneWaits (refused_or why w (role_outcome n v asked w)).0
  turn_none n v asked why role = unless_none w (role_outcome n v asked w) why none (role_none n v w none k.ranged (still_world w r k.agrees k.rest) asked role (λ node e. well n node e (here_of n node e)))

  flush_none : (n v : ℕ) (p : FlushPart) → NoneWaits (on_node w n (flush_line n v p)).0
  flush_none n v p = on_node_none w n (flush_line n v p) none (λ node e here. flush_waits n v p node (well n node e here))

  node_none : (n : ℕ) (what : NodeVerb) → NoneWaits (node_verb_step w n what).0
  node_none n (NodeVerb.Clock nanos) = on_node_none w n (clock_at nanos) none (λ node e here. here)
  node_none n (NodeVerb.Stop call out) = on_made_none w n (arm_at (stop_arm call out)) none (λ node e here. here)
  node_none n (NodeVerb.Fail call) = on_made_none w n (arm_at (fail_arm call)) none (λ node e here. here)
  node_none n (NodeVerb.Crash out) = unless_none w (dropped n out w, done (down_lines n None w)) (first_cause (crash_causes w n)) none (none_after w (dropped n out w) (dropped_stay n out w) none)
  node_none n (NodeVerb.Start uuids) = unless_none w (on_made w n (start_at n uuids)) (first_cause (start_causes w n uuids)) none
      (on_made_none w n (start_at n uuids) none (λ node e here. none_on (Some node) (Some (start_at n uuids node).0) (start_stays n uuids node) here))

  vb_none : (n v : ℕ) (what : VbVerb) → NoneWaits (vb_verb_step w n v what).0
  vb_none n v (VbVerb.MakeActive uuid) = armed_none n w (on_node w n (vb_at w.uuids n v uuid)) (stays_line n (vb_at w.uuids n v uuid) (λ node. made_stays n v Role.Active uuid node (limit_causes node ++ uuid_causes w.uuids uuid)))
  vb_none n v VbVerb.MakeReplica = armed_none n w (on_node w n (replica_at n v)) (stays_line n (replica_at n v) (λ node. made_stays n v Role.Replica 0 node (limit_causes node)))
  vb_none n v (VbVerb.Chain others) = on_node_none w n (chain_line n v others) none (λ node e here. chain_waits n v node (well n node e here) others)
  vb_none n v (VbVerb.Promote uuid) = armed_none n w (promote_step w n v uuid) (turn_none n v (AdminCall.Promote uuid) (first_cause (promote_causes w n v uuid)) refl)
  vb_none n v VbVerb.Follow = armed_none n w (turn_step w n v Role.Replica AdminCall.Follow) (turn_none n v AdminCall.Follow (first_cause (turn_causes w n v Role.Replica)) refl)
  vb_none n v VbVerb.Dead = armed_none n w (turn_step w n v Role.Dead AdminCall.Dead) (turn_none n v AdminCall.Dead (first_cause (turn_causes w n v Role.Dead)) refl)
  vb_none n v VbVerb.Tick = on_node_none w n (tick_line n v) none (λ node e here. tick_waits n v node (well n node e here))
  vb_none n v VbVerb.Trim = admin_none n v AdminCall.Trim (tt, λ reply any. tt)
  vb_none n v VbVerb.Seal = admin_none n v AdminCall.Seal (tt, λ reply any. tt)
  vb_none n v VbVerb.Take = flush_none n v part.Take
  vb_none n v VbVerb.Save = armed_none n w (on_node w n (save_line n v)) (on_node_none w n (save_line n v) none (λ node e here. save_waits n v node (well n node e here)))
  vb_none n v VbVerb.Done = due_none n v (on_node w n (flush_line n v part.Done)) (flush_none n v part.Done)
  vb_none n v VbVerb.Stat = admin_none n v AdminCall.Stat (tt, λ reply any. tt)
  vb_none n v VbVerb.Log = admin_none n v AdminCall.Log (tt, λ reply any. tt)
  vb_none n v VbVerb.Show = admin_none n v AdminCall.Show (tt, λ reply any. tt)

  client_none : (n number c : ℕ) (what : ClientVerb) → NoneWaits (on_node w n (client_verb_at n number c what)).0
  client_none n number c ClientVerb.Open = on_node_none w n (client_at n (base_of number) c) none (λ node e here. open_waits n (base_of number) c node here)
  client_none n number c (ClientVerb.Bytes bytes) = on_node_none w n (bytes_at c bytes) none (λ node e here. let g = well n node e here in bytes_wait n c bytes node g.still g.ranged here)
  client_none n number c ClientVerb.Hang = stays_line n (hang_at c) (hang_stays c)
  client_none n number c (ClientVerb.Pull frames) = stays_line n (pull_at c frames) (pull_stays c frames)

  link_none : (l : ℕ) (what : LinkVerb) → NoneWaits (link_verb_step w l what).0
  link_none l (LinkVerb.Up wanted) = on_link_none w l producer_node (up_at wanted) none (λ link node found e here. up_waits (producer_node link) wanted link node (well (producer_node link) node e here))
  link_none l (LinkVerb.Down wanted) = by (row_at link_number l w.links)
    where
      came : NoneWaits (on_link w l consumer_node (down_in wanted)).0
      came = on_link_none w l consumer_node (down_in wanted) none
          (λ link node found e here. none_on (Some node) (Some (down_in wanted link node).0) (down_stays wanted link node (well (consumer_node link) node e here).still) here)

      by : (o : Option PlainLink) → NoneWaits (down_outcome w l o (on_link w l consumer_node (down_in wanted))).0
      by None = came
      by (Some link) = broken_none (consumer_node link) l w (on_link w l consumer_node (down_in wanted)) came
  link_none l (LinkVerb.Pump frames) = pump_none w none k.ranged (still_world w r k.agrees k.rest) (λ n node e. well n node e (here_of n node e)) l frames
  link_none l LinkVerb.Drop = on_link_none w l producer_node drop_at none (λ link node found e here. none_on (Some node) (Some (drop_at link node).0) (drop_stays link node) here)
  link_none l LinkVerb.Cut = elim (row_at link_number l w.links) as (λ o. NoneWaits (cut_outcome w o).0) [ None ↦ none | Some link ↦ none_after w (unlinked link w) (unlinked_stays w link) none ]

  line_none : (number : ℕ) (what : Verb) → NoneWaits (verb_step w number what).0
  line_none number (Verb.Node n) = unless_none w (with_node_at w n empty_node, done []) (first_cause (node_causes w n)) none (put_none w n empty_node none (λ c client a lt is has. absurd (cc is)))
  line_none number (Verb.Link l m n v buffer takeover) = unless_none w (with_links w (with_dialed number l m n v buffer takeover w.links (ask_in w n v)), done []) (first_cause (link_causes w l m n v)) none none
  line_none number (Verb.AtNode n what) = node_none n what
  line_none number (Verb.AtVb n v what) = vb_none n v what
  line_none number (Verb.AtClient n c what) = client_none n number c what
  line_none number (Verb.AtLink l what) = link_none l what

-- ---- a script

-- as long as the numbers of lines rise
abbrev WaitIf : Option LastLine → PlainWorld → Type 0
WaitIf None w = Unit {0}
WaitIf (Some line) w = NoneWaits w

wait_if : (o : Option LastLine) (w : PlainWorld) → NoneWaits w → WaitIf o w
wait_if None w all = tt
wait_if (Some line) w all = all

-- once they did not, they do not
none_risen : (o : Option LastLine) (w : PlainWorld) → number_of o ≡ None → WaitIf o w
none_risen None w e = tt
none_risen (Some line) w e = absurd (cc e)

waits_from : (w : PlainWorld) (r : Chronicle) (script : List ScriptLine) → ScriptFits script → Along w r → AreAtRest w → WaitIf r.last w
    → WaitIf (known_after r script (groups_from w script)).last (world_after w script)
unfolding world_step
waits_from w r [] fits x rest all = all
waits_from w r (line ∷ lines) fits x rest all =
    let fit = All-head (λ (x : ScriptLine). VerbFits x.verb) line lines fits in let outcome = verb_step w line.line line.verb in let row : Row w line.verb outcome = row_of w line.line line.verb in
    let r0 : Chronicle = at_line r line.line in
    let r' : Chronicle = after_group r0 line.verb outcome.1.events outcome.1.answer in let w' : PlainWorld = with_branches outcome.1.events outcome.0 in let now = along w r line fit x in
    let next : (o : Option LastLine) → r.last ≡ o → WaitIf o w → WaitIf r'.last w' = λ o.
    elim o as (λ o. r.last ≡ o → WaitIf o w → WaitIf r'.last w') [
      | None ↦ λ e wait. none_risen r'.last w' (group_last r0 line.verb outcome.1.events outcome.1.answer ∙ line_number r.last line.line ∙ ap (λ o. risen_to (number_of o) line.line) e)
      | Some last ↦ λ e wait. wait_if r'.last w' (line_none w r (record { agrees = x.agrees; rest = rest; ranged = x.ranged }) last e wait line.line line.verb)
    ] in
    waits_from w' r' lines (All-tail (λ (x : ScriptLine). VerbFits x.verb) line lines fits) now
    (line_rests w r outcome (row.rests r x.ranged x.handed x.agrees) x.agrees rest w' r' refl now.agrees) (next r.last refl all)

-- behind a whole one
pub script_waits : (script : List ScriptLine) → ScriptFits script → (last : LastLine) → (known_of script).last ≡ Some last → NoneWaits (world_of script)
script_waits script fits last e =
    subst (λ o. WaitIf o (world_of script)) e (waits_from empty_world empty_chronicle script fits along_start (start_rests empty_world (λ n. refl)) (λ n. tt))

pub nobody_waits : (script : List ScriptLine) → ScriptFits script → (line : ℕ) → risen_through (Some 0) script ≡ Some line → (n : ℕ) (node : PlainNode) → (world_of script).nodes n ≡ Some node → NoneWaitsInVain node
nobody_waits script fits line rises n node there = by (known_of script).last refl
  where
    by : (o : Option LastLine) → (known_of script).last ≡ o → NoneWaitsInVain node
    by None e = let z : None ≡ Some line = sym (ap number_of e) ∙ script_last script ∙ rises in absurd (cc z)
    by (Some last) e = subst NoneIn there (script_waits script fits last e n)
