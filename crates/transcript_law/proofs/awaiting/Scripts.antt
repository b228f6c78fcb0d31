-- behind each script: lines of a node that settle durable writes leave nobody waiting for nothing
use Rattle.std.specs.Prelude.{◌≡◌, ◌∷◌}
use Rattle.transcript_law.proofs.Words.{ℕ, List, [], refl, ap, ◌∙◌, subst, inl, ⊎_elim, All-head, All-tail, Some, Chronicle, PlainLink, PlainNode, PlainWorld, ScriptFits, ScriptLine, VerbFits, bytes_at, empty_chronicle, empty_world, up_at, vb_in, verb_step, with_branches, world_of, world_step, AdminCall, true, called_at}
use Rattle.durability.specs.Chains.{Members}
use Rattle.node_core.specs.Clients.{PlainClient}
use Rattle.node_core.specs.Admin.{changes_role}
use Rattle.node_world.specs.Nodes.{all_posted, chain_line, flush_line, save_line, tick_line}
use Rattle.node_world.specs.World.{groups_from}
use Rattle.transcript_law.proofs.Runs.{Along, along, along_start, row_of}
use Rattle.transcript_law.proofs.awaiting.{Nodes.{bytes_wait, chain_waits, flush_waits, number_some, save_waits, tick_waits}, Peers.{up_waits}, Posts.{Good}, Roles.{role_waits}}
use Rattle.transcript_law.proofs.invariant.{Agreement.{Agrees, AgreesAt}, AtRest.{AreAtRest, Still, line_rests, start_rests}, Begun.{ServesOpen}, CallsKept.{AllAt}, ClientWorlds.{ConnsAre, start_conns}, Clients.{line_heard}, Owing.{OwedIf, OwedIn}, Ranged.{IsRanged, NodeRanged, NodeRangedIf, start_ranged}, Seats.{seat}}
use Rattle.transcript_law.proofs.verbs.Rows.{Row}
use Rattle.transcript_law.specs.{Chronicles.{after_group, at_line}, Feeding.{client_in}, LawfulAnswers.{IsStill}, LinesTold.{LastLine}, Prefixes.{known_after, known_of, world_after}, Waits.{NoneWaitsInVain}}
use Rattle.vb_types.specs.declared.journal.FlushPart.{FlushPart}

-- a world, and what is told of it
pub record Known (w : PlainWorld) (r : Chronicle) : Type 0 where
  pub agrees : Agrees w r
  pub rest : AreAtRest w
  pub ranged : IsRanged w

known_from : (w : PlainWorld) (r : Chronicle) (script : List ScriptLine) → ScriptFits script → Along w r → AreAtRest w
    → Known (world_after w script) (known_after r script (groups_from w script))
unfolding world_step
known_from w r [] fits x rest = record { agrees = x.agrees; rest = rest; ranged = x.ranged }
known_from w r (line ∷ lines) fits x rest =
    let fit = All-head (λ (x : ScriptLine). VerbFits x.verb) line lines fits in let outcome = verb_step w line.line line.verb in let row : Row w line.verb outcome = row_of w line.line line.verb in
    let r' : Chronicle = after_group (at_line r line.line) line.verb outcome.1.events outcome.1.answer in let now = along w r line fit x in
    known_from (with_branches outcome.1.events outcome.0) r' lines (All-tail (λ (x : ScriptLine). VerbFits x.verb) line lines fits) now
    (line_rests w r outcome (row.rests r x.ranged x.handed x.agrees) x.agrees rest (with_branches outcome.1.events outcome.0) r' refl now.agrees)

pub known : (script : List ScriptLine) → ScriptFits script → Known (world_of script) (known_of script)
known script fits = known_from empty_world empty_chronicle script fits along_start (start_rests empty_world (λ n. refl))

-- a node of it, where the numbers of lines rise
module _ (w : PlainWorld) (r : Chronicle) (k : Known w r) (n : ℕ) (node : PlainNode) (there : w.nodes n ≡ Some node) where
  ranged_there : NodeRanged n node
  ranged_there = subst (NodeRangedIf n) there (k.ranged n)

  still_there : AllAt Still node.vbs
  still_there v vb e =
      let here : vb_in (w.nodes n) v ≡ Some vb = ap (λ o. vb_in o v) there ∙ e in
      ((subst (AgreesAt r n v (k.agrees.0.nodes (seat n v))) here (k.agrees.1.vbs n v)).sound, k.rest n v vb here)

  pub good : (line : LastLine) → r.last ≡ Some line → NoneWaitsInVain node → Good n [] node
  good line last none = record {
    still = still_there;
    ranged = ranged_there;
    counted = λ c client is.
        let x = owed.each n c client (at c client is) in
        record { who_is = refl; few = x.used; number = λ a has. ⊎_elim (λ zero. absurd (number_some n node ranged_there c client a is has zero)) (λ e. e) (x.number a has) };
    apart = λ c d client other is has same. owed.apart n c d client other (at c client is) (at d other has) same;
    waits = λ c client a lt is has. inl (none c client a lt is has);
  }
    where
      owed : OwedIn line w r
      owed = subst (λ o. OwedIf o w r) last k.agrees.1.clients.owed

      at : (c : ℕ) (client : PlainClient) → node.clients c ≡ Some client → client_in (w.nodes n) c ≡ Some client
      at c client is = ap (λ o. client_in o c) there ∙ is

  pub bytes_so : NoneWaitsInVain node → (c : ℕ) (bytes : List ℕ) → NoneWaitsInVain (bytes_at c bytes node).0
  bytes_so none c bytes = bytes_wait n c bytes node still_there ranged_there none

pub clients_wait : (script : List ScriptLine) → ScriptFits script → (n : ℕ) (node : PlainNode) → (world_of script).nodes n ≡ Some node → NoneWaitsInVain node → (c : ℕ) (bytes : List ℕ) → NoneWaitsInVain (bytes_at c bytes node).0
clients_wait script fits n node there none c bytes = bytes_so (world_of script) (known_of script) (known script fits) n node there none c bytes

module _ (script : List ScriptLine) (fits : ScriptFits script) (line : LastLine) (last : (known_of script).last ≡ Some line) (n : ℕ) (node : PlainNode) (there : (world_of script).nodes n ≡ Some node) (none : NoneWaitsInVain node) where
  all_good : Good n [] node
  all_good = good (world_of script) (known_of script) (known script fits) n node there line last none

  pub chains_wait : (v : ℕ) (others : Members) → NoneWaitsInVain (chain_line n v others node).0
  chains_wait v others = chain_waits n v node all_good others

  pub ticks_wait : (v : ℕ) → NoneWaitsInVain (tick_line n v node).0
  ticks_wait v = tick_waits n v node all_good

  pub flushes_wait : (v : ℕ) (p : FlushPart) → NoneWaitsInVain (flush_line n v p node).0
  flushes_wait v p = flush_waits n v p node all_good

  pub saves_wait : (v : ℕ) → NoneWaitsInVain (save_line n v node).0
  saves_wait v = save_waits n v node all_good

  pub ups_wait : (wanted : ℕ) (link : PlainLink) → NoneWaitsInVain (up_at wanted link node).0
  ups_wait wanted link = up_waits n wanted link node all_good

  pub roles_wait : (v : ℕ) (asked : AdminCall) (ids : List ℕ) → changes_role asked ≡ true → (called_at n v asked node).1.ended ≡ Some ids → NoneWaitsInVain (all_posted (called_at n v asked node).1.resolved (called_at n v asked node).0).0
  roles_wait v asked ids role gave = role_waits n v asked ids node all_good role gave
